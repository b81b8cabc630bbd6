use Rattle.std.proofs.Common.{◌≡◌, ℕ, ◌+◌, ◌-◌, ◌*◌, ◌/◌, ◌^◌, ◌<◌, bit_xor, sym, ap, ◌∙◌, arith}
use Rattle.std.proofs.Math.Nat.{div-div-eq-div-mul}
use Rattle.std.proofs.lemmas.Nat.{xor_comm, xor_lt, pow-add}
use Rattle.crc_frame.proofs.Division.{shifted, shifted_zero, remainder_after-padded, byte_added}
use Rattle.crc_frame.proofs.crc.divide_word.Goals as goal

pub loop-place-init : goal.loop-place-init
loop-place-init c =
    let sum = bit_xor c.read_u64.result c.from.result in
    let small : sum < 2 ^ 64 = xor_lt 64 c.read_u64.result c.from.result (omega arith) (omega arith) in
    let none : sum / 2 ^ 64 ≡ 0 = omega (arith, small) in
    sym (ap (shifted (8 * (c.args.behind + 0))) none ∙ shifted_zero (8 * (c.args.behind + 0)))

pub loop-place-preserved : goal.loop-place-preserved
loop-place-preserved c =
    let sum = bit_xor c.read_u64.result c.from.result in
    let place = c.loop-place.place in
    let n = c.args.behind + place in
    let rest = sum / 2 ^ (56 - 8 * place) in
    let byte : (56 - 8 * place) + 8 ≡ 64 - 8 * place = omega (arith, c.loop-place-test.true) in
    let before : c.loop-place.after ≡ shifted (8 * n) (rest / 256) =
    c.loop-place.invariant
    ∙ ap (λ (k : ℕ). shifted (8 * n) (sum / k)) (ap (λ (k : ℕ). 2 ^ k) (sym byte) ∙ pow-add 2 (56 - 8 * place) 8)
    ∙ ap (shifted (8 * n)) (sym (div-div-eq-div-mul sum (2 ^ (56 - 8 * place)) 256)) in
    let more : 8 * (n + 1) ≡ 8 * (c.args.behind + (place + 1)) = omega arith in
    let next : 56 - 8 * place ≡ 64 - 8 * (place + 1) = omega arith in
    byte_added n c.loop-place.after rest c.entry-after.result c.entry-after.ensures before
    ∙ ap (λ (k : ℕ). shifted k rest) more
    ∙ ap (λ (k : ℕ). shifted (8 * (c.args.behind + (place + 1))) (sum / 2 ^ k)) next

pub returns : goal.returns
returns c =
    let sum = bit_xor c.read_u64.result c.from.result in
    let behind = c.args.behind in
    let whole : sum / 2 ^ (64 - 8 * 8) ≡ sum = omega arith in
    let all : c.loop-place.place ≡ 8 = omega (arith, c.loop-place-test.false, c.loop-place.auto.place-end) in
    c.loop-place.invariant
    ∙ ap (λ (p : ℕ). shifted (8 * (behind + p)) (sum / 2 ^ (64 - 8 * p))) all
    ∙ ap (shifted (8 * (behind + 8)))
    (whole
    ∙ xor_comm c.read_u64.result c.from.result ∙ ap (λ (x : ℕ). bit_xor x c.read_u64.result) c.from.ensures
    ∙ ap (bit_xor c.args.remainder) c.read_u64.ensures)
    ∙ sym (remainder_after-padded 8 behind c.args.remainder c.args.word.now c.requires.0 (λ i. omega (arith, c.type_inv.word i)))
