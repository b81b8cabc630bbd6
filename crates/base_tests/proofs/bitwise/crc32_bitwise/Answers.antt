use Rattle.std.proofs.Common.{◌-◌, ℕ, ◌+◌, drop, sym, ap, ◌∙◌}
use Rattle.crc_frame.specs.Crc.{crc32, remainder_after}
use Rattle.crc_frame.proofs.Division.{remainder_after-drop, remainder_after-drop_all}
use Rattle.base_tests.proofs.bitwise.crc32_bitwise.Goals as goal

pub loop-byte-preserved : goal.loop-byte-preserved
loop-byte-preserved c =
    let bytes = c.args.bytes.now in
    let i = c.loop-byte.byte-index in
    ap (λ (r : ℕ). remainder_after r (drop (i + 1) bytes)) c.divide_byte_bitwise-remainder.ensures
    ∙ sym (remainder_after-drop c.loop-byte.remainder bytes i c.loop-byte-test.true) ∙ c.loop-byte.invariant

pub returns : goal.returns
unfolding crc32
returns c =
    ap (λ (r : ℕ). 0xFFFF_FFFF - r)
    (sym (remainder_after-drop_all c.loop-byte.remainder c.args.bytes.now c.loop-byte.byte-index c.loop-byte-test.false) ∙ c.loop-byte.invariant)
