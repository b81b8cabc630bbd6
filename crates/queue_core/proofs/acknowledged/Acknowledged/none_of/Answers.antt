use Rattle.std.proofs.Common.{◌≡◌, ◌+◌, ◌/◌, List, ℕ, false, replicate, sym, ◌∙◌, ap, subst, arith}
use Rattle.queue_files.specs.Kept.{leading}
use Rattle.queue_core.specs.Bits.{bit_of, bits_from}
use Rattle.queue_core.proofs.OpenedQueues.{no_bit, no_bits, none_leads}
use Rattle.queue_core.proofs.acknowledged.Acknowledged.none_of.Goals as goal

pub invariant_of-result : goal.invariant_of-result
invariant_of-result c =
    let n = c.args.count / 64 + 1 in
    let zeros : c.in_ok-words.words.items ≡ replicate n 0 = c.in_ok-words.ensures.items_if_clones_equal (λ y same. same) in
    record {
      room = omega (arith, c.in_ok-words.ensures.len);
      rest = λ k past. subst (λ (l : List ℕ). bit_of l k ≡ false) (sym zeros) (no_bit n k);
      first_is = sym (ap leading (ap (λ l. bits_from l 0 c.args.count) zeros ∙ no_bits n 0 c.args.count) ∙ none_leads c.args.count);
    }

pub returns : goal.returns
returns c =
    let n = c.args.count / 64 + 1 in
    let zeros : c.in_ok-words.words.items ≡ replicate n 0 = c.in_ok-words.ensures.items_if_clones_equal (λ y same. same) in
    ap (λ l. bits_from l 0 c.args.count) zeros ∙ no_bits n 0 c.args.count
