use Rattle.std.proofs.Common.{◌≡◌, get_or, ap, sym, ◌∙◌, arith}
use Rattle.std.proofs.lemmas.Str.{IsCharBoundary-after_ascii}
use Rattle.out_bulk.proofs.hosts.is_host.Goals as goal

pub range_from-requires : goal.range_from-requires
range_from-requires c =
    let colon : get_or c.args.text.now c.loop-at.at 0 ≡ 58 = ap (λ bytes. get_or bytes c.loop-at.at 0) (sym c.as_bytes.ensures.value) ∙ c.if-as_bytes-at-eq58.true in
    λ later. IsCharBoundary-after_ascii c.args.text.now c.loop-at.at c.utf8.text c.loop-at-test.true (omega (arith, colon))
