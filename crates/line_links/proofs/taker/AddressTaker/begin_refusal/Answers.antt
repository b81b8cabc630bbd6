use Rattle.std.proofs.Common.{◌≡◌, ◌+◌, ◌∙◌, true, false, length, ap, sym, refl, arith}
use Rattle.pipeline_bus.specs.Ends.{taking}
use Rattle.pipeline_bus.specs.Parcels.{is_last, with_events}
use Rattle.line_links.specs.Answers.{one_if_some}
use Rattle.line_links.specs.Takers.{take_state}
use Rattle.line_links.specs.Takers.DropsNone.{Passes_over}
use Rattle.line_links.proofs.Taking.{numbers_stay, taken_last, taken_one}
use Rattle.line_links.proofs.taker.AddressTaker.begin_refusal.Goals as goal

pub invariant_of-self-2-clause-counted : goal.invariant_of-self-2-clause-counted
invariant_of-self-2-clause-counted c =
    let s = c.args.self.now in
    let some : is_last c.in-Some-take.parcel ≡ false = sym c.is_last.ensures ∙ c.if-is_last.false in
    let taken : with_events (taking c.take.new.self).taken ≡ with_events (taking s.end).taken + 1 = taken_one (taking s.end) (taking c.take.new.self) c.in-Some-take.parcel c.in-Some-take.ensures.taken some in
    let given : length (taking c.take.new.self).given ≡ length (taking s.end).given = ap (λ t. length t.given) c.in-Some-take.ensures.taken in
    let none : one_if_some s.refusing ≡ 0 = ap one_if_some c.in_default.is in
    let e : with_events (taking c.take.new.self).taken ≡ length (taking c.take.new.self).given + length s.whole.items + (one_if_some s.part + 1)
    = omega (arith, s.counted, taken, given, none) in
    e

pub invariant_of-self-2-clause-numbers : goal.invariant_of-self-2-clause-numbers
invariant_of-self-2-clause-numbers c =
    let s = c.args.self.now in
    numbers_stay (length (taking s.end).given + 1) (length (taking c.take.new.self).given + 1) s.whole.items s.whole.items refl
    (ap (λ t. length t.given + 1) c.in-Some-take.ensures.taken) s.numbers

pub invariant_of-self-then-is_last-clause-counted : goal.invariant_of-self-then-is_last-clause-counted
invariant_of-self-then-is_last-clause-counted c =
    let s = c.args.self.now in
    let last : is_last c.in-Some-take.parcel ≡ true = sym c.is_last.ensures ∙ c.if-is_last.true in
    let taken : with_events (taking c.take.new.self).taken ≡ with_events (taking s.end).taken = taken_last (taking s.end) (taking c.take.new.self) c.in-Some-take.parcel c.in-Some-take.ensures.taken last in
    let given : length (taking c.take.new.self).given ≡ length (taking s.end).given = ap (λ t. length t.given) c.in-Some-take.ensures.taken in
    let e : with_events (taking c.take.new.self).taken ≡ length (taking c.take.new.self).given + length s.whole.items + (one_if_some s.part + one_if_some s.refusing)
    = omega (arith, s.counted, taken, given) in
    e

pub invariant_of-self-then-is_last-clause-numbers : goal.invariant_of-self-then-is_last-clause-numbers
invariant_of-self-then-is_last-clause-numbers c =
    let s = c.args.self.now in
    numbers_stay (length (taking s.end).given + 1) (length (taking c.take.new.self).given + 1) s.whole.items s.whole.items refl
    (ap (λ t. length t.given + 1) c.in-Some-take.ensures.taken) s.numbers

pub returns-then-is_last-clause-none : goal.returns-then-is_last-clause-none
returns-then-is_last-clause-none c =
    let last : is_last c.in-Some-take.parcel ≡ true = sym c.is_last.ensures ∙ c.if-is_last.true in
    Passes_over c.in-Some-take.parcel last (ap (λ t. record (take_state c.args.self.now) { taking = t }) c.in-Some-take.ensures.taken)
