use Rattle.std.proofs.Common.{◌≡◌, List, ℕ, false, refl, sym, subst, arith}
use Rattle.queue_core.specs.Bits.{bit_of}
use Rattle.queue_core.proofs.BitLists.{no_words}
use Rattle.queue_core.proofs.acknowledged.Acknowledged.new.Goals as goal

pub invariant_of-result : goal.invariant_of-result
invariant_of-result c = record { room = omega arith; rest = λ k past. subst (λ (l : List ℕ). bit_of l k ≡ false) (sym c.new.ensures.items) (no_words k); first_is = refl }
