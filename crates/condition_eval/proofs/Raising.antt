-- A mantissa times a power of ten fits 128 bits.
use Rattle.std.proofs.Common.{◌≡◌, ℕ, ◌<◌, ◌≤◌, ℤ, pos, negsuc, ◌*ℤ◌, FitsSigned, to_z, of_z, ap, ap₂, ◌∙◌, arith}
use mir.Syntax.{w64, w128}
use Rattle.std.specs.Prelude.{unsigned_abs}
use Rattle.std.proofs.lemmas.Int.{to_z-of_z, fits_signed_mul}
use lib.Signed.{mag}

small_abs : (m : ℤ) → mag m < 9223372036854775808 → unsigned_abs m ≤ 9223372036854775808
small_abs (pos n) h = omega arith
small_abs (negsuc n) h = omega arith

pub product : (a b m : ℤ) (p : ℕ) → mag m < 9223372036854775808 → p < 18446744073709551616 → a ≡ to_z w64 (of_z w64 m) → b ≡ pos p → to_z w128 (of_z w128 (to_z w128 (of_z w128 a) *ℤ to_z w128 (of_z w128 b))) ≡ m *ℤ pos p
product a b m p h k e f =
    let am : a ≡ m = e ∙ to_z-of_z w64 m (record { sfits = h }) in
    let fm : FitsSigned w128 m = record { sfits = omega arith } in
    let fp : FitsSigned w128 (pos p) = record { sfits = omega arith } in
    let ta : to_z w128 (of_z w128 a) ≡ m = ap (λ z. to_z w128 (of_z w128 z)) am ∙ to_z-of_z w128 m fm in
    let tb : to_z w128 (of_z w128 b) ≡ pos p = ap (λ z. to_z w128 (of_z w128 z)) f ∙ to_z-of_z w128 (pos p) fp in
    let fits : FitsSigned w128 (m *ℤ pos p) = fits_signed_mul w128 m (pos p) 9223372036854775808 18446744073709551615 (small_abs m h) (omega arith) (omega arith) in
    ap₂ (λ x y. to_z w128 (of_z w128 (x *ℤ y))) ta tb ∙ to_z-of_z w128 (m *ℤ pos p) fits
