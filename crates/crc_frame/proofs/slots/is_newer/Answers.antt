use Rattle.std.proofs.Common.{arith}
use Rattle.std.proofs.lemmas.Bool.Decides.{nat_tests}
use Rattle.crc_frame.specs.Slots.{is_newer}
use Rattle.crc_frame.proofs.slots.is_newer.Goals as goal

pub returns-in-18446744073709551615-eq0 : goal.returns-in-18446744073709551615-eq0
unfolding is_newer
returns-in-18446744073709551615-eq0 c = grind (arith, nat_tests)

pub returns-in-0-eq18446744073709551615 : goal.returns-in-0-eq18446744073709551615
unfolding is_newer
returns-in-0-eq18446744073709551615 c = grind (arith, nat_tests)

pub returns-in_default : goal.returns-in_default
unfolding is_newer
returns-in_default c = grind (arith, nat_tests)
