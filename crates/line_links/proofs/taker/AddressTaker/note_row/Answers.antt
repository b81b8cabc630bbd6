use Rattle.std.proofs.Common.{◌≡◌, ◌+◌, ◌∙◌, ◌∷◌, [], length, map, ap, sym, subst, arith, rules, length-append}
use Rattle.pipeline_bus.specs.Ends.{taking}
use Rattle.pipeline_bus.specs.Parcels.{with_events}
use Rattle.line_links.specs.Answers.{numbers_from, one_if_some}
use Rattle.line_links.specs.declared.taker.WholeParcel.{WholeParcel}
use Rattle.line_links.proofs.Taking.{whole_more}
use Rattle.line_links.proofs.taker.AddressTaker.note_row.Goals as goal

pub invariant_of-self-else-part-clause-counted : goal.invariant_of-self-else-part-clause-counted
invariant_of-self-else-part-clause-counted c =
    let s = c.args.self.now in
    let w : WholeParcel = record { number = c.in-Some.part.number; row = c.args.number } in
    let longer : length c.push_reserved.new.self.items ≡ length s.whole.items + 1 = ap length c.push_reserved.ensures.items ∙ length-append s.whole.items (w ∷ []) in
    let before : one_if_some s.part ≡ 1 = ap one_if_some (sym c.take.ensures.value ∙ c.in-Some.is) in
    let none : one_if_some c.take.new.self ≡ 0 = ap one_if_some c.take.ensures.after in
    let e : with_events (taking s.end).taken ≡ length (taking s.end).given + length c.push_reserved.new.self.items + (one_if_some c.take.new.self + one_if_some s.refusing)
    = omega (arith, s.counted, longer, before, none) in
    e

pub invariant_of-self-else-part-clause-numbers : goal.invariant_of-self-else-part-clause-numbers
invariant_of-self-else-part-clause-numbers c =
    let s = c.args.self.now in
    let w : WholeParcel = record { number = c.in-Some.part.number; row = c.args.number } in
    let n = length (taking s.end).given in
    let is : c.in-Some.part.number ≡ n + length s.whole.items + 1 = s.part_is c.in-Some.part (sym c.take.ensures.value ∙ c.in-Some.is) in
    subst (λ ws. map (λ w. w.number) ws ≡ numbers_from (n + 1) (length ws)) (sym c.push_reserved.ensures.items) (whole_more (n + 1) s.whole.items w s.numbers (omega (arith, is)))

pub invariant_of-self-else-part-clause-refused_last : goal.invariant_of-self-else-part-clause-refused_last
invariant_of-self-else-part-clause-refused_last c = λ n is. absurd (search (c.args.self.now.refused_part n is, sym c.take.ensures.value ∙ c.in-Some.is, rules))
