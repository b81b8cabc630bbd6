use Rattle.std.proofs.Common.{◌≡◌, length, drop, sym, ap, subst, arith, length-take}
use Rattle.std.specs.Str.{IsValidUpTo}
use Rattle.byte_lines.specs.Text.{BeginsCharacter}
use Rattle.byte_lines.proofs.Decoding.{none_behind}
use Rattle.byte_lines.proofs.text.valid_front.Goals as goal

pub returns-in-Err-clause-longest : goal.returns-in-Err-clause-longest
returns-in-Err-clause-longest c = λ less.
    let bytes = c.args.bytes.now in
    let n = c.valid_up_to.result in
    let v : IsValidUpTo bytes n = subst (λ k. IsValidUpTo bytes k) (sym c.valid_up_to.ensures) c.in-Err.ensures.cases.1 in
    let same : length c.from_utf8_unchecked.result.now ≡ n = omega (arith, ap length c.from_utf8_unchecked.ensures, length-take n bytes, v.short) in
    subst (λ k. BeginsCharacter (drop k bytes) → ⊥) (sym same) (none_behind bytes n v)
