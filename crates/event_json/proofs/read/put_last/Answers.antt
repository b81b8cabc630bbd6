use Rattle.std.proofs.Common.{subst}
use Rattle.plain_data.specs.Members.{AllBelow}
use Rattle.event_json.proofs.Gathered.{put_above}
use Rattle.event_json.proofs.read.put_last.Goals as goal

pub returns-then-is_below : goal.returns-then-is_below
returns-then-is_below c = put_above c.push.result c.args.key c.args.value c.args.found.now c.push.new.self (subst (AllBelow c.args.found.now) c.as_str.ensures (c.is_below.ensures.0 c.if-is_below.true)) c.push.ensures.ok
