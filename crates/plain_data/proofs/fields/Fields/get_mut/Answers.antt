use Rattle.std.proofs.Common.{Some, sym, ap, subst, ◌∙◌}
use Rattle.plain_data.specs.Find.{IsFoundAt}
use Rattle.plain_data.specs.Members.{Rises, get_member, set_member}
use Rattle.plain_data.proofs.MemberLemmas.{Rises-set_member}
use mathlib.Core.Logic.{inl}
use Rattle.plain_data.proofs.fields.Fields.get_mut.Goals as goal

pub invariant_of-self-lent : goal.invariant_of-self-lent
invariant_of-self-lent g c =
    let ms = c.self.inside.members.items in
    let k = c.args.key.now in
    let m = c.index_mut-member.result.now in
    let found = subst (λ l. IsFoundAt k l c.in-Ok.at) c.as_slice.ensures.value c.in-Ok.ensures in
    λ v. subst Rises (sym (found.set m v c.index_mut-member.ensures.value)) (Rises-set_member k v ms c.self.invariant)

pub returns-in-Ok : goal.returns-in-Ok
returns-in-Ok g c =
    let k = c.args.key.now in
    let m = c.index_mut-member.result.now in
    let found = subst (λ l. IsFoundAt k l c.in-Ok.at) c.as_slice.ensures.value c.in-Ok.ensures in
    let is = c.index_mut-member.ensures.value in (
      λ i. inl (c.value_of.result.ghost_name, λ v. (found.set m v is ∙ ap (set_member k v) c.self.view_is) i),
      ap Some c.value_of.ensures.value ∙ sym (found.get m is) ∙ ap (get_member k) c.self.view_is,
    )
