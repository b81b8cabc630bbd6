use Rattle.std.proofs.Common.{refl, ◌∙◌, arith}
use Rattle.queue_core.proofs.BitLists.{range_more, range_none}
use Rattle.queue_core.proofs.words.set_bits.Goals as goal

pub loop-bit-init : goal.loop-bit-init
loop-bit-init c = record { past = omega arith; within = c.requires.order; len = refl; bits = range_none c.args.words.now.items c.args.from }

pub loop-bit-preserved : goal.loop-bit-preserved
loop-bit-preserved c =
    let inv = c.loop-bit.invariant in
    record {
      past = omega (arith, inv.past);
      within = omega (arith, c.loop-bit-test.true);
      len = c.set_bit.ensures.len ∙ inv.len;
      bits = range_more c.args.words.now.items c.loop-bit.words.items c.set_bit.new.words.items c.args.from c.loop-bit.bit inv.past inv.bits c.set_bit.ensures.bits;
    }
