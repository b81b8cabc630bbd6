use Rattle.std.proofs.Common.{◌≡◌, ◌<◌, length, get_or, sym, ap, ◌∙◌, arith, rules}
use Rattle.std.proofs.lemmas.Str.{IsCharBoundary-after_ascii}
use Rattle.event_text.proofs.template.read_date.Goals as goal

pub range_from-requires : goal.range_from-requires
range_from-requires c =
    let some : 0 < length c.args.inner.now = search rules in
    let first : get_or c.args.inner.now 0 0 ≡ 43 = ap (λ l. get_or l 0 0) (sym c.as_bytes.ensures.value) ∙ c.if-as_bytes-ne43.false in
    λ _. IsCharBoundary-after_ascii c.args.inner.now 0 c.utf8.inner some (omega (arith, first))
