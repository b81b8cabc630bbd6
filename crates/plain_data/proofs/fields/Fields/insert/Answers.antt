use Rattle.std.proofs.Common.{sym, subst}
use Rattle.plain_data.specs.Find.{IsFoundAt, IsAbsentAt}
use Rattle.plain_data.specs.Members.{Rises}
use Rattle.plain_data.proofs.MemberLemmas.{Rises-insert_member}
use Rattle.plain_data.proofs.fields.Fields.insert.Goals as goal

pub invariant_of-self : goal.invariant_of-self
invariant_of-self g c =
    let ms = c.self.inside.members.items in
    let k = c.args.key in
    let m = c.index_mut-member.result.now in
    let found = subst (λ l. IsFoundAt k l c.in-Ok.at) c.as_slice.ensures.value (subst (λ l. IsFoundAt l c.as_slice.result.now c.in-Ok.at) c.as_str.ensures c.in-Ok.ensures) in
    subst Rises (sym (found.inserted m c.replace.new.dest c.index_mut-member.ensures.value)) (Rises-insert_member k c.replace.new.dest ms c.self.invariant)

pub invariant_of-self-in-Err : goal.invariant_of-self-in-Err
invariant_of-self-in-Err g c =
    let ms = c.self.inside.members.items in
    let k = c.args.key in
    let absent = subst (λ l. IsAbsentAt k l c.in-Err.at) c.as_slice.ensures.value (subst (λ l. IsAbsentAt l c.as_slice.result.now c.in-Err.at) c.as_str.ensures c.in-Err.ensures) in
    rw c.in_ok-insert-in-Err.ensures.items (subst Rises (sym (absent.inserted c.args.value)) (Rises-insert_member k c.args.value ms c.self.invariant))
