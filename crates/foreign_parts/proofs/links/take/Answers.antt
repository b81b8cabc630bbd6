use Rattle.std.proofs.Common.{◌≤◌, None, length, sym, ap, subst, ◌∙◌, arith}
use Rattle.foreign_parts.specs.Links.{place, with_taker}
use Rattle.foreign_parts.proofs.Linking.{link_found, link_past, put_found, put_past}
use Rattle.foreign_parts.proofs.links.take.Goals as goal

pub returns-then-at-len-clause-taken : goal.returns-then-at-len-clause-taken
returns-then-at-len-clause-taken c =
    let at = c.place_of-at.ensures ∙ ap (place c.args.address.now) c.as_slice.ensures.value in
    c.take.ensures.value ∙ link_found c.args.address.now c.args.places.now.items c.place_of-at.result c.index_mut.result.now at (omega (arith, c.if-at-len.true, c.len.ensures)) c.index_mut.ensures.value

pub returns-then-at-len-clause-places : goal.returns-then-at-len-clause-places
returns-then-at-len-clause-places c =
    let at = c.place_of-at.ensures ∙ ap (place c.args.address.now) c.as_slice.ensures.value in
    put_found c.args.address.now c.args.places.now.items c.place_of-at.result c.index_mut.result.now at (omega (arith, c.if-at-len.true, c.len.ensures)) c.index_mut.ensures.value None _ (ap (λ x. with_taker x c.index_mut.result.now) c.take.ensures.after)

pub returns-else-at-len-clause-taken : goal.returns-else-at-len-clause-taken
returns-else-at-len-clause-taken c =
    let at = c.place_of-at.ensures ∙ ap (place c.args.address.now) c.as_slice.ensures.value in
    sym (link_past c.args.address.now c.args.places.now.items (subst (λ n. length c.args.places.now.items ≤ n) at (omega (arith, c.if-at-len.false, c.len.ensures))))

pub returns-else-at-len-clause-places : goal.returns-else-at-len-clause-places
returns-else-at-len-clause-places c =
    let at = c.place_of-at.ensures ∙ ap (place c.args.address.now) c.as_slice.ensures.value in
    sym (put_past c.args.address.now None c.args.places.now.items (subst (λ n. length c.args.places.now.items ≤ n) at (omega (arith, c.if-at-len.false, c.len.ensures))))
