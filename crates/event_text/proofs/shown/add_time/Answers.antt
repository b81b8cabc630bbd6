use Rattle.std.proofs.Common.{sym, subst}
use Rattle.std.specs.Prelude.{IsUtf8}
use Rattle.event_json.proofs.Utf8.{time_utf8}
use Rattle.event_text.proofs.shown.add_time.Goals as goal

pub from_utf8_unchecked-requires : goal.from_utf8_unchecked-requires
from_utf8_unchecked-requires c = subst IsUtf8 (sym c.time_text-length.ensures.text) (time_utf8 c.args.moment)
