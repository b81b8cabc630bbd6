use Rattle.std.proofs.Common.{◌≡◌, ◌+◌, ◌∙◌, true, false, inl, length, ap, ap₂, sym, arith}
use Rattle.pipeline_bus.specs.Ends.{taking}
use Rattle.pipeline_bus.specs.Parcels.{is_last, with_events}
use Rattle.line_links.specs.Answers.{one_if_some}
use Rattle.line_links.specs.Takers.{take_state}
use Rattle.line_links.proofs.Taking.{ends_behind, none_of, numbers_stay, taken_last, taken_one}
use Rattle.line_links.proofs.taker.AddressTaker.poll.Goals as goal

pub invariant_of-self-then-is_last-clause-counted : goal.invariant_of-self-then-is_last-clause-counted
invariant_of-self-then-is_last-clause-counted c =
    let s = c.args.self.now in
    let last : is_last c.in-Some.parcel ≡ true = sym c.is_last.ensures ∙ c.if-is_last.true in
    let taken : with_events (taking c.take.new.self).taken ≡ with_events (taking s.end).taken = taken_last (taking s.end) (taking c.take.new.self) c.in-Some.parcel c.in-Some.ensures.taken last in
    let given : length (taking c.take.new.self).given ≡ length (taking s.end).given = ap (λ t. length t.given) c.in-Some.ensures.taken in
    let waits : length c.reserve.new.self.items ≡ length s.whole.items = ap length c.reserve.ensures.items in
    let e : with_events (taking c.take.new.self).taken ≡ length (taking c.take.new.self).given + length c.reserve.new.self.items + (one_if_some s.part + one_if_some s.refusing)
    = omega (arith, s.counted, taken, given, waits) in
    e

pub invariant_of-self-then-is_last-clause-numbers : goal.invariant_of-self-then-is_last-clause-numbers
invariant_of-self-then-is_last-clause-numbers c =
    let s = c.args.self.now in
    numbers_stay (length (taking s.end).given + 1) (length (taking c.take.new.self).given + 1) s.whole.items c.reserve.new.self.items c.reserve.ensures.items
    (ap (λ t. length t.given + 1) c.in-Some.ensures.taken) s.numbers

pub returns-then-is_last-clause-polls : goal.returns-then-is_last-clause-polls
returns-then-is_last-clause-polls c =
    let s = c.args.self.now in
    let last : is_last c.in-Some.parcel ≡ true = sym c.is_last.ensures ∙ c.if-is_last.true in (
      ends_behind (taking s.end) (taking c.take.new.self) c.in-Some.parcel c.in-Some.ensures.taken last,
      inl (c.in-Some.parcel, ap₂ (λ t ws. record (take_state s) { taking = t; whole = ws }) c.in-Some.ensures.taken c.reserve.ensures.items),
    )

pub invariant_of-self-2-clause-counted : goal.invariant_of-self-2-clause-counted
invariant_of-self-2-clause-counted c =
    let s = c.args.self.now in
    let some : is_last c.in-Some.parcel ≡ false = sym c.is_last.ensures ∙ c.if-is_last.false in
    let taken : with_events (taking c.take.new.self).taken ≡ with_events (taking s.end).taken + 1 = taken_one (taking s.end) (taking c.take.new.self) c.in-Some.parcel c.in-Some.ensures.taken some in
    let given : length (taking c.take.new.self).given ≡ length (taking s.end).given = ap (λ t. length t.given) c.in-Some.ensures.taken in
    let waits : length c.reserve.new.self.items ≡ length s.whole.items = ap length c.reserve.ensures.items in
    let none : one_if_some s.part ≡ 0 = none_of s.listens s.part c.requires in
    let e : with_events (taking c.take.new.self).taken ≡ length (taking c.take.new.self).given + length c.reserve.new.self.items + (1 + one_if_some s.refusing)
    = omega (arith, s.counted, taken, given, waits, none) in
    e

pub invariant_of-self-2-clause-numbers : goal.invariant_of-self-2-clause-numbers
invariant_of-self-2-clause-numbers c =
    let s = c.args.self.now in
    numbers_stay (length (taking s.end).given + 1) (length (taking c.take.new.self).given + 1) s.whole.items c.reserve.new.self.items c.reserve.ensures.items
    (ap (λ t. length t.given + 1) c.in-Some.ensures.taken) s.numbers
