use Rattle.std.proofs.Common.{refl}
use Rattle.crc_frame.specs.Crc.{crc32, remainder_after}
use Rattle.crc_frame.proofs.laws.crcs_are_known.Goals as goal

pub returns-clause-none : goal.returns-clause-none
unfolding crc32 remainder_after
returns-clause-none c = refl

pub returns-clause-digits : goal.returns-clause-digits
unfolding crc32 remainder_after
returns-clause-digits c = refl

pub returns-clause-letter : goal.returns-clause-letter
unfolding crc32 remainder_after
returns-clause-letter c = refl

pub returns-clause-sentence : goal.returns-clause-sentence
unfolding crc32 remainder_after
returns-clause-sentence c = refl
