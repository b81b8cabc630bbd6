use Rattle.std.proofs.Common.{refl, sym, ap, subst, ◌∙◌, arith, rules}
use Rattle.element_code.specs.Faults.{IsRefusedAt}
use Rattle.element_code.specs.Reading.{event_at}
use Rattle.element_code.proofs.Behind.{done_ok, done_err}
use Rattle.element_code.proofs.Sound.{event_sound}
use Rattle.element_code.proofs.Again.{event_again}
use Rattle.element_code.proofs.EventPlaces.{event_stops}
use Rattle.element_code.proofs.testing.event_fault.Goals as goal

pub overflow_sub-result : goal.overflow_sub-result
overflow_sub-result c =
    let b = c.args.bytes.now in
    let h = done_err (event_at b) c.in-Err-Left.left (rw c.in-Err-Left.field-0-is at c.in-Err-Left.ensures.reads) in
    let r = event_stops b c.in-Err-Left.left (λ i. omega (arith, c.type_inv.bytes i)) (omega (arith, c.if-bytes-gt-MOST_BYTES.false)) h in
    omega (arith, r.sum)

pub returns-in-Ok-clause-none : goal.returns-in-Ok-clause-none
returns-in-Ok-clause-none c =
    let b = c.args.bytes.now in
    let r = done_ok (event_at b) c.in-Ok.ensures.reads in
    let s = event_sound b r.0 (λ i. omega (arith, c.type_inv.bytes i)) r.1 in
    (λ _. (r.0, s.0, s.1, omega (arith, c.if-bytes-gt-MOST_BYTES.false)), λ _. refl)

pub returns-in-Err-Left-clause-none : goal.returns-in-Err-Left-clause-none
returns-in-Err-Left-clause-none c =
    let b = c.args.bytes.now in
    let h = done_err (event_at b) c.in-Err-Left.left (rw c.in-Err-Left.field-0-is at c.in-Err-Left.ensures.reads) in
    (λ e. absurd (search (e, rules)), λ s. absurd (search (sym h ∙ ap event_at (sym s.2) ∙ event_again s.0 s.1, rules)))

pub returns-in-Err-Left-clause-at : goal.returns-in-Err-Left-clause-at
returns-in-Err-Left-clause-at c =
    let b = c.args.bytes.now in
    let h = done_err (event_at b) c.in-Err-Left.left (rw c.in-Err-Left.field-0-is at c.in-Err-Left.ensures.reads) in
    let r = event_stops b c.in-Err-Left.left (λ i. omega (arith, c.type_inv.bytes i)) (omega (arith, c.if-bytes-gt-MOST_BYTES.false)) h in
    subst (IsRefusedAt b) (omega (arith, r.sum)) r.is
