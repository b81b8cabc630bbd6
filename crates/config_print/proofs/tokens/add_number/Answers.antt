use Rattle.std.proofs.Common.{◌≡◌, sym, ap, subst, ◌∙◌}
use Rattle.std.specs.Prelude.{string_bytes, IsUtf8}
use Rattle.std.proofs.lemmas.Str.{IsUtf8-string_bytes}
use Rattle.config_print.proofs.tokens.add_number.Goals as goal

pub from_utf8_unchecked-requires : goal.from_utf8_unchecked-requires
from_utf8_unchecked-requires c =
    let same : string_bytes c.args.to.now ≡ c.into_bytes-bytes.result.items = ap string_bytes (sym c.replace.ensures.value) ∙ ap (λ v. v.items) (sym c.into_bytes-bytes.ensures.value) in
    c.in_ok-write_json.ensures.utf8 (subst IsUtf8 same (IsUtf8-string_bytes c.args.to.now))
