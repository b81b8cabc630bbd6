use Rattle.std.proofs.Common.{sym, subst}
use Rattle.plain_data.specs.Find.{IsFoundAt}
use Rattle.plain_data.specs.Members.{Rises}
use Rattle.plain_data.proofs.MemberLemmas.{Rises-remove_member}
use Rattle.plain_data.proofs.fields.Fields.remove.Goals as goal

pub invariant_of-self : goal.invariant_of-self
invariant_of-self g c =
    let k = c.args.key.now in
    let found = subst (λ l. IsFoundAt k l c.in-Ok.at) c.as_slice.ensures.value c.in-Ok.ensures in
    rw c.remove-value.ensures.items (subst Rises (sym found.removed) (Rises-remove_member k c.self.inside.members.items c.self.invariant))
