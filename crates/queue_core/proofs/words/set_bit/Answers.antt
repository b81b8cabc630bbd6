use Rattle.std.proofs.Common.{rules, ◌≡◌, ◌*◌, ◌/◌, ◌%◌, ◌^◌, ◌==◌, ◌||◌, ℕ, bit_or, slice_index_or, slice_set, sym, ◌∙◌, subst, arith}
use Rattle.std.proofs.lemmas.Grind.{get_or_default_zero}
use Rattle.queue_core.specs.Bits.{bit_of}
use Rattle.queue_core.proofs.BitLists.{bits_set}
use Rattle.queue_core.proofs.words.set_bit.Goals as goal

pub returns-clause-bits : goal.returns-clause-bits
returns-clause-bits c k =
    let words = c.args.words.now.items in
    let bit = c.args.bit in
    let here : slice_index_or words (bit / 64) c.index_mut.result.now ≡ c.index_mut.result.now = search rules in
    let word : c.index_mut.result.now ≡ slice_index_or words (bit / 64) 0 = sym here ∙ get_or_default_zero words (bit / 64) c.index_mut.result.now (omega (arith, c.requires)) in
    subst (λ (w : ℕ). bit_of (slice_set words (bit / 64) (bit_or w (1 * 2 ^ (bit % 64) % 2 ^ 64))) k ≡ (bit_of words k || (k == bit))) (sym word) (bits_set words bit c.requires k)
