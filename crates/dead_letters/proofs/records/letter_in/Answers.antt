use Rattle.std.proofs.Common.{arith}
use Rattle.dead_letters.proofs.LetterReads.{letter_left}
use Rattle.dead_letters.proofs.records.letter_in.Goals as goal

pub overflow_sub-body : goal.overflow_sub-body
overflow_sub-body c = letter_left c.args.body.now c.in-Err-Left.left (λ i. omega (arith, c.type_inv.body i)) (rw c.in-Err-Left.field-0-is at c.in-Err-Left.ensures)
