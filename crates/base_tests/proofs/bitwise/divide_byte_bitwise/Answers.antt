use Rattle.std.proofs.Common.{◌≡◌, ℕ, suc, ◌+◌, ◌-◌, ◌/◌, ◌%◌, ◌^◌, ◌<◌, fold, sym, ap, ◌∙◌, arith}
use Rattle.std.proofs.lemmas.Nat.{shr-shr}
use Rattle.std.proofs.Math.Nat.{div-one}
use Rattle.crc_frame.specs.Crc.{divide_bit, low_bits}
use Rattle.crc_frame.proofs.Division.{remainder_after-byte}
use Rattle.base_tests.proofs.bitwise.divide_byte_bitwise.Goals as goal

-- one more bit from place i on, of the lowest n
low_bits_more : (c n i x : ℕ) → i < n
    → fold divide_bit c (low_bits (n - i) (x / 2 ^ i)) ≡ fold divide_bit (divide_bit c (x / 2 ^ i % 2)) (low_bits (n - (i + 1)) (x / 2 ^ (i + 1)))
low_bits_more c n i x within =
    let left : n - i ≡ suc (n - (i + 1)) = omega arith in
    ap (λ (m : ℕ). fold divide_bit c (low_bits m (x / 2 ^ i))) left
    ∙ ap (λ (y : ℕ). fold divide_bit (divide_bit c (x / 2 ^ i % 2)) (low_bits (n - (i + 1)) y)) (shr-shr x i 1)

low_bits_none : (c n i x : ℕ) → n ≡ i → fold divide_bit c (low_bits (n - i) x) ≡ c
low_bits_none c n i x all = let none : n - i ≡ 0 = omega arith in ap (λ (m : ℕ). fold divide_bit c (low_bits m x)) none

pub loop-place-init : goal.loop-place-init
loop-place-init c =
    ap (λ (x : ℕ). fold divide_bit c.args.remainder (low_bits 8 x)) (div-one c.args.byte) ∙ sym (remainder_after-byte c.args.remainder c.args.byte)

pub loop-place-preserved : goal.loop-place-preserved
loop-place-preserved c =
    let place = c.loop-place.place in
    let rest = low_bits (8 - (place + 1)) (c.args.byte / 2 ^ (place + 1)) in
    let step : c.divide_bit-remainder.result ≡ divide_bit c.loop-place.remainder (c.args.byte / 2 ^ place % 2) =
    c.divide_bit-remainder.ensures ∙ ap (λ (x : ℕ). divide_bit c.loop-place.remainder (x % 2)) c.from.ensures in
    ap (λ (r : ℕ). fold divide_bit r rest) step ∙ sym (low_bits_more c.loop-place.remainder 8 place c.args.byte c.loop-place-test.true)
    ∙ c.loop-place.invariant

pub returns : goal.returns
returns c = sym (low_bits_none c.loop-place.remainder 8 c.loop-place.place (c.args.byte / 2 ^ c.loop-place.place) (omega arith)) ∙ c.loop-place.invariant
