use Rattle.std.proofs.Common.{◌≡◌, ◌-◌, length, Some, sym, ap, subst, ◌∙◌, slice_get, IsTrue, ◌↔◌}
use Rattle.std.specs.Option.{option_copied}
use Rattle.std.specs.Ordering.{is_lt}
use Rattle.plain_data.specs.Keys.{text_cmp}
use Rattle.plain_data.specs.Members.{AllBelow}
use Rattle.plain_data.proofs.MemberLemmas.{AllBelow-decided}
use Rattle.plain_data.proofs.fields.Fields.is_below.Goals as goal

pub returns-in-Some : goal.returns-in-Some
returns-in-Some g c =
    let k = c.args.key.now in
    let last = c.in-Some.field-0.now in
    let read : slice_get c.deref.result.now (length c.deref.result.now - 1) ≡ Some last = sym c.last.ensures.value ∙ ap option_copied c.in-Some.is in
    let is = subst (λ l. slice_get l (length l - 1) ≡ Some last) c.deref.ensures.value read in
    let tested = c.is_lt.ensures ∙ ap is_lt c.text_order.ensures ∙ ap (λ l. is_lt (text_cmp l k)) c.as_str.ensures in
    subst (λ ms. IsTrue c.is_lt.result ↔ AllBelow ms k) c.self.view_is (AllBelow-decided c.self.inside.members.items k last c.is_lt.result c.self.invariant is tested)
