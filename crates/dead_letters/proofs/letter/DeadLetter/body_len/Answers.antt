use Rattle.std.proofs.Common.{arith}
use Rattle.element_code.proofs.Lengths.{length-event_spelling}
use Rattle.dead_letters.proofs.LetterReads.{length-letter_body}
use Rattle.dead_letters.proofs.letter.DeadLetter.body_len.Goals as goal

pub overflow_add-texts : goal.overflow_add-texts
overflow_add-texts c = omega (arith, c.requires, length-letter_body c.args.self.now, c.len.ensures, c.len-2.ensures)

pub overflow_add-texts-2 : goal.overflow_add-texts-2
overflow_add-texts-2 c = omega (arith, c.requires, length-letter_body c.args.self.now, c.len.ensures, c.len-2.ensures, c.len-3.ensures)

pub overflow_add-result : goal.overflow_add-result
overflow_add-result c = omega (arith, c.requires, length-letter_body c.args.self.now, c.len.ensures, c.len-2.ensures, c.len-3.ensures)

pub overflow_add-result-2 : goal.overflow_add-result-2
overflow_add-result-2 c = omega (arith, c.requires, length-letter_body c.args.self.now, c.len.ensures, c.len-2.ensures, c.len-3.ensures)

pub returns : goal.returns
returns c =
    let size = length-event_spelling c.args.self.now.event c.size.ensures.valid.fields_object c.size.ensures.valid.meta_object in
    omega (arith, length-letter_body c.args.self.now, c.len.ensures, c.len-2.ensures, c.len-3.ensures, c.size.ensures.size, size)

pub overflow_add-result-3 : goal.overflow_add-result-3
overflow_add-result-3 c =
    let size = length-event_spelling c.args.self.now.event c.size.ensures.valid.fields_object c.size.ensures.valid.meta_object in
    omega (arith, c.requires, length-letter_body c.args.self.now, c.len.ensures, c.len-2.ensures, c.len-3.ensures, c.size.ensures.size, size)
