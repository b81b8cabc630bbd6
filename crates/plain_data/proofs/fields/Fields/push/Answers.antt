use Rattle.std.proofs.Common.{sym, subst}
use Rattle.plain_data.specs.Members.{AllBelow}
use Rattle.plain_data.proofs.MemberLemmas.{Rises-push}
use Rattle.plain_data.proofs.fields.Fields.push.Goals as goal

pub invariant_of-self-2 : goal.invariant_of-self-2
invariant_of-self-2 g c =
    let below = subst (λ ms. AllBelow ms c.args.key) (sym c.self.view_is) c.requires in
    rw c.in_ok-push.ensures.items (Rises-push c.self.inside.members.items (c.args.key, c.args.value) c.self.invariant below)
