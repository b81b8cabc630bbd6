use Rattle.std.proofs.Common.{refl, sym, subst, ◌∙◌, arith, rules}
use Rattle.element_code.specs.RowBodies.{IsRowRefusedAt, row_at}
use Rattle.element_code.proofs.Behind.{done_ok, done_err}
use Rattle.element_code.proofs.RowReads.{row_sound, row_again, row_stops}
use Rattle.element_code.proofs.testing.row_fault.Goals as goal

pub overflow_sub-result : goal.overflow_sub-result
overflow_sub-result c =
    let b = c.args.bytes.now in
    let h = done_err (row_at b) c.in-Err-Left.left (rw c.in-Err-Left.field-0-is at c.in-Err-Left.ensures.reads) in
    let r = row_stops b c.in-Err-Left.left (λ i. omega (arith, c.type_inv.bytes i)) h in
    omega (arith, r.sum)

pub returns-in-Ok-clause-none : goal.returns-in-Ok-clause-none
returns-in-Ok-clause-none c =
    let b = c.args.bytes.now in
    let r = done_ok (row_at b) c.in-Ok.ensures.reads in
    (λ _. (r.0.origin, r.0.event, row_sound b r.0 (λ i. omega (arith, c.type_inv.bytes i)) r.1), λ _. refl)

pub returns-in-Err-Left-clause-none : goal.returns-in-Err-Left-clause-none
returns-in-Err-Left-clause-none c =
    let b = c.args.bytes.now in
    let h = done_err (row_at b) c.in-Err-Left.left (rw c.in-Err-Left.field-0-is at c.in-Err-Left.ensures.reads) in
    (λ e. absurd (search (e, rules)), λ s. absurd (search (sym h ∙ row_again b s.0 s.1 s.2, rules)))

pub returns-in-Err-Left-clause-at : goal.returns-in-Err-Left-clause-at
returns-in-Err-Left-clause-at c =
    let b = c.args.bytes.now in
    let h = done_err (row_at b) c.in-Err-Left.left (rw c.in-Err-Left.field-0-is at c.in-Err-Left.ensures.reads) in
    let r = row_stops b c.in-Err-Left.left (λ i. omega (arith, c.type_inv.bytes i)) h in
    subst (IsRowRefusedAt b) (omega (arith, r.sum)) r.is
