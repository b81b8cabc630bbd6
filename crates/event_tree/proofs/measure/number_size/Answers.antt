use Rattle.std.proofs.Common.{arith, subst}
use Rattle.std.proofs.lemmas.Int.{ints}
use Rattle.event_tree.specs.NumberTexts.{IsI64}
use Rattle.event_tree.proofs.Sounds.{number_true}
use Rattle.event_tree.proofs.measure.number_size.Goals as goal

pub returns-clause-sound : goal.returns-clause-sound
returns-clause-sound c = number_true c.args.number.now (subst IsI64 c.mantissa-mantissa.ensures (omega (arith, ints, c.mantissa-mantissa.type_inv), omega (arith, ints, c.mantissa-mantissa.type_inv))) c.scale-scale.ensures.least
