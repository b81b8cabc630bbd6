use Rattle.std.proofs.Common.{sym, ◌∙◌, subst, arith, rules}
use Rattle.crc_frame.proofs.Fronts.{ok_is}
use Rattle.element_code.specs.RowBodies.{IsRowRefusedAt, row}
use Rattle.element_code.proofs.RowReads.{row_sound, row_again, row_stops}
use Rattle.element_code.proofs.row.decode_row.Goals as goal

pub overflow_sub-result : goal.overflow_sub-result
overflow_sub-result c = let r = row_stops c.args.bytes.now c.in-Err-Left.left (λ i. omega (arith, c.type_inv.bytes i)) (rw c.in-Err-Left.field-0-is at c.in-Err-Left.ensures) in omega (arith, r.sum)

pub returns-in-Ok-clause-body : goal.returns-in-Ok-clause-body
returns-in-Ok-clause-body c = row_sound c.args.bytes.now c.in-Ok.row (λ i. omega (arith, c.type_inv.bytes i)) c.in-Ok.ensures

pub returns-in-Ok-clause-only : goal.returns-in-Ok-clause-only
returns-in-Ok-clause-only c = λ origin e is. ok_is c.in-Ok.row (row origin e) (sym c.in-Ok.ensures ∙ row_again c.args.bytes.now origin e is)

pub returns-in-Err-Left-clause-only : goal.returns-in-Err-Left-clause-only
returns-in-Err-Left-clause-only c = λ origin e is. let h = rw c.in-Err-Left.field-0-is at c.in-Err-Left.ensures in search (sym h ∙ row_again c.args.bytes.now origin e is, rules)

pub returns-in-Err-Left-clause-at : goal.returns-in-Err-Left-clause-at
returns-in-Err-Left-clause-at c =
    let b = c.args.bytes.now in
    let r = row_stops b c.in-Err-Left.left (λ i. omega (arith, c.type_inv.bytes i)) (rw c.in-Err-Left.field-0-is at c.in-Err-Left.ensures) in
    subst (IsRowRefusedAt b) (omega (arith, r.sum)) r.is
