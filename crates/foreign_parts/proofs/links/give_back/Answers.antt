use Rattle.std.proofs.Common.{◌≤◌, Some, length, refl, sym, ap, subst, ◌∙◌, arith}
use Rattle.foreign_parts.specs.Links.{place}
use Rattle.foreign_parts.proofs.Linking.{put_found, put_past}
use Rattle.foreign_parts.proofs.links.give_back.Goals as goal

pub returns-then-at-len : goal.returns-then-at-len
returns-then-at-len c =
    let at = c.place_of-at.ensures ∙ ap (place c.args.address.now) c.as_slice.ensures.value in
    put_found c.args.address.now c.args.places.now.items c.place_of-at.result c.index_mut.result.now at (omega (arith, c.if-at-len.true, c.len.ensures)) c.index_mut.ensures.value (Some c.args.taker) _ refl

pub returns-else-at-len : goal.returns-else-at-len
returns-else-at-len c =
    let at = c.place_of-at.ensures ∙ ap (place c.args.address.now) c.as_slice.ensures.value in
    sym (put_past c.args.address.now (Some c.args.taker) c.args.places.now.items (subst (λ n. length c.args.places.now.items ≤ n) at (omega (arith, c.if-at-len.false, c.len.ensures))))
