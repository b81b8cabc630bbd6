use Rattle.std.proofs.Common.{arith}
use Rattle.std.proofs.lemmas.Bool.Decides.{nat_tests}
use Rattle.element_code.proofs.Lengths.{length-event_spelling}
use Rattle.dead_letters.proofs.LetterReads.{length-letter_body}
use Rattle.dead_letters.proofs.letter.DeadLetter.fits_record.Goals as goal

pub returns : goal.returns
returns c =
    let size = length-event_spelling c.args.self.now.event c.size.ensures.valid.fields_object c.size.ensures.valid.meta_object in
    let body = length-letter_body c.args.self.now in (
      (λ is. grind (arith, nat_tests, is, size, body, c.len.ensures, c.len-2.ensures, c.len-3.ensures, c.size.ensures.size)),
      (λ fits. grind (arith, nat_tests, fits, size, body, c.len.ensures, c.len-2.ensures, c.len-3.ensures, c.size.ensures.size)),
    )
