use Rattle.std.proofs.Common.{arith}
use Rattle.dead_letters.proofs.LetterReads.{event_taken, event_stopped}
use Rattle.dead_letters.proofs.reading.event_of.Goals as goal

pub returns-in-Ok : goal.returns-in-Ok
returns-in-Ok c = event_taken c.args.bytes.now c.in-Ok.event c.in-Ok.ensures.found c.in-Ok.ensures.spelled c.in-Ok.ensures.short

pub returns-in-Err-At : goal.returns-in-Err-At
returns-in-Err-At c = (event_stopped c.args.bytes.now c.in-Err-At.at (λ i. omega (arith, c.type_inv.bytes i)) (rw c.in-Err-At.field-0-is at c.in-Err-At.ensures.at)).1

pub overflow_sub-result : goal.overflow_sub-result
overflow_sub-result c = (event_stopped c.args.bytes.now c.in-Err-At.at (λ i. omega (arith, c.type_inv.bytes i)) (rw c.in-Err-At.field-0-is at c.in-Err-At.ensures.at)).0
