use Rattle.std.proofs.Common.{◌≡◌, ◌<◌, ◌+◌, ◌-◌, ◌*◌, get_or, length, refl, sym, arith}
use Rattle.std.proofs.lemmas.Bool.Decides.{nat_tests}
use Rattle.bulk_replies.proofs.Digits.{all_digits, one_digit}
use Rattle.bulk_replies.proofs.passing.digits_alone.Goals as goal

pub loop-byte-init : goal.loop-byte-init
loop-byte-init c = ((refl, λ all. all), omega arith)

pub loop-byte-preserved : goal.loop-byte-preserved
loop-byte-preserved c =
    let l = c.loop-byte in
    let sum : c.in_ok-value.value ≡ l.value * 10 + (get_or c.args.bytes.now l.byte-index 0 - 48) = omega (arith, c.in_ok-value.ensures.1, c.in_ok-checked_mul.ensures.1, c.from.ensures) in
    (one_digit c.args.bytes.now l.byte-index l.value _ c.loop-byte-test.true (sym c.if-not-is_ascii_digit.ensures.value) sum l.invariant.0, omega (arith, c.in_ok-value.ensures.0, c.in_ok-value.ensures.1))

pub returns : goal.returns
returns c =
    let some : 0 < length c.args.bytes.now = grind (arith, nat_tests, c.if-is_empty.ensures) in
    all_digits c.args.bytes.now c.loop-byte.byte-index c.loop-byte.value some c.loop-byte-test.false c.loop-byte.invariant.1 c.loop-byte.invariant.0
