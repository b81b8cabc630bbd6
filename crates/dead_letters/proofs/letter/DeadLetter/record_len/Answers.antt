use Rattle.std.proofs.Common.{arith}
use Rattle.dead_letters.specs.Letters.{letter_body}
use Rattle.dead_letters.proofs.RecordReads.{length-record_of}
use Rattle.dead_letters.proofs.letter.DeadLetter.record_len.Goals as goal

pub returns : goal.returns
returns c = omega (arith, c.body_len.ensures, length-record_of (letter_body c.args.self.now))
