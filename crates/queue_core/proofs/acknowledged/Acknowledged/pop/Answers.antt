use Rattle.std.proofs.Common.{◌∷◌, [], false, length, ◌∙◌, ap, arith, length-append}
use Rattle.queue_core.proofs.BitLists.{bits_popped, long_bits}
use Rattle.queue_core.proofs.acknowledged.Acknowledged.pop.Goals as goal

pub overflow_sub-self : goal.overflow_sub-self
overflow_sub-self c =
    omega (arith, ap length (c.self.view_is ∙ c.requires.1), length-append c.requires.0 (false ∷ []), long_bits c.self.inside.words.items 0 c.self.inside.count)

pub invariant_of-self : goal.invariant_of-self
invariant_of-self c = (bits_popped c.self.inside.words.items c.self.inside.count c.self.inside.leading c.requires.0 c.self.invariant (c.self.view_is ∙ c.requires.1)).1

pub returns : goal.returns
returns c rows is = (bits_popped c.self.inside.words.items c.self.inside.count c.self.inside.leading rows c.self.invariant (c.self.view_is ∙ is)).0
