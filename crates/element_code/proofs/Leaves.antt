-- What the bytes behind a tag hold.
use Rattle.std.proofs.Common.{◌≡◌, ℕ, ◌<◌, ◌≤◌, ℤ, pos, ◌+ℤ◌, ◌*ℤ◌, ◌≤ℤ◌, List, drop, true, false, ◌&&◌, ◌==◌, Option, Some, None, refl, sym, ap, ◌∙◌, arith, slice_index, nat_lt, ◌^◌, FitsSigned, w64, to_z, of_z, unsigned_abs, Ok, Err, length, ◌-◌}
use Rattle.std.specs.Prelude.{int_le}
use Rattle.std.specs.Int.{w128}
use Rattle.std.specs.Str.{IsUtf8, is_utf8}
use Rattle.std.proofs.lemmas.Str.{is_utf8-from_IsUtf8, IsUtf8-from_is_utf8}
use Rattle.std.proofs.lemmas.Bool.{false_from_ne_true}
use Rattle.std.specs.Ordering.{int_eq}
use Rattle.std.proofs.lemmas.List.{get_or-drop}
use Rattle.std.proofs.lemmas.Int.{ints, fits_signed_from_abs, to_z_pos, to_z-of_z}
use Rattle.plain_data.specs.Calendar.{IsMoment}
use Rattle.std.proofs.lemmas.Bool.Decides.{Decides-int_eq, nat_tests}
use Rattle.byteorder.specs.Endian.{big_number}
use Rattle.event_tree.specs.Number.{Num, least}
use Rattle.event_tree.specs.declared.value.Value.TheVariants as v
use Rattle.crc_frame.specs.Fronts.{run_at}
use Rattle.element_code.specs.Reading.{exact_number, same_number, moment_of, is_moment, text_in, is_above, key_at}
use Rattle.plain_data.specs.Calendar.{first_moment, last_moment}
use Rattle.event_tree.proofs.Sounds.{both_true}

pub last_byte : (bytes : List ℕ) → big_number 1 (drop 8 bytes) ≡ slice_index bytes 8
last_byte bytes = omega (arith, get_or-drop 8 bytes 0 0)

pub same_parts : (m : ℤ) (s : ℕ) (n : Num) → least m s ≡ Some n → n.mantissa ≡ m → n.scale ≡ s → exact_number m s ≡ Some (v.Num n)
same_parts m s n e em es =
    let tm : int_eq n.mantissa m ≡ true = (Decides-int_eq n.mantissa m).1 em in
    let ts : (n.scale == s) ≡ true = grind (arith, nat_tests, es) in
    ap (same_number m s) e ∙ rw (tm, ts) refl

le_true : (a b : ℤ) → a ≤ℤ b → int_le a b ≡ true
le_true a b h = grind (arith, ints)

is_moment_true : (z : ℤ) → IsMoment z → is_moment z ≡ true
is_moment_true z m = both_true _ _ (le_true first_moment z m.from_first) (le_true z last_moment m.to_last)

pub moment_is : (s : ℤ) (n : ℕ) (z : ℤ) → n < 1000000000 → z ≡ s *ℤ pos 1000000000 +ℤ pos n → IsMoment z → moment_of s n ≡ Some (v.Time z)
moment_is s n z low e m =
    let t : nat_lt n 1000000000 ≡ true = grind (arith, nat_tests, low) in
    let u : is_moment (s *ℤ pos 1000000000 +ℤ pos n) ≡ true = ap is_moment (sym e) ∙ is_moment_true z m in
    rw (t, u) (ap (λ y. Some (v.Time y)) (sym e))

-- no sum of a number of seconds and of nanoseconds wraps
pub sum_is : (s : ℤ) (n : ℕ) → FitsSigned w64 s → n < 2 ^ 32
    → to_z w128 (of_z w128 (to_z w128 (of_z w128 (to_z w128 (of_z w128 (to_z w64 (of_z w64 s))) *ℤ pos 1000000000)) +ℤ to_z w128 n)) ≡ s *ℤ pos 1000000000 +ℤ pos n
sum_is s n fit low =
    let small : unsigned_abs s ≤ 2 ^ 63 = omega (arith, ints, fit) in
    let one : FitsSigned w128 s = fits_signed_from_abs w128 s (omega (arith, ints, small)) in
    let two : FitsSigned w128 (s *ℤ pos 1000000000) = fits_signed_from_abs w128 (s *ℤ pos 1000000000) (omega (arith, ints, small)) in
    let three : FitsSigned w128 (s *ℤ pos 1000000000 +ℤ pos n) = fits_signed_from_abs w128 (s *ℤ pos 1000000000 +ℤ pos n) (omega (arith, ints, small, low)) in
    let d : to_z w128 n ≡ pos n = to_z_pos w128 n (omega (arith, low)) in
    rw (to_z-of_z w64 s fit, to_z-of_z w128 s one, to_z-of_z w128 (s *ℤ pos 1000000000) two, d) (to_z-of_z w128 (s *ℤ pos 1000000000 +ℤ pos n) three)

pub is_text : (bytes : List ℕ) → IsUtf8 bytes → text_in bytes ≡ Some (v.Text bytes)
is_text bytes u = rw (is_utf8-from_IsUtf8 bytes u) refl

pub is_no_text : (bytes : List ℕ) → (IsUtf8 bytes → ⊥) → text_in bytes ≡ None
is_no_text bytes n = let t : is_utf8 bytes ≡ false = false_from_ne_true _ (λ t. n (IsUtf8-from_is_utf8 bytes t)) in rw t refl

module _ (last : Option (List ℕ)) (bytes k rest : List ℕ) where
  pub key_taken : run_at bytes ≡ Ok (k, rest) → IsUtf8 k → true ≡ is_above last k → key_at last bytes ≡ Ok (k, rest)
  key_taken h u a = let t : (is_utf8 k && is_above last k) ≡ true = both_true _ _ (is_utf8-from_IsUtf8 k u) (sym a) in rw (h, t) refl

  pub key_refused : run_at bytes ≡ Ok (k, rest) → (IsUtf8 k → ⊥) → key_at last bytes ≡ Err (length bytes - 4)
  key_refused h n = let t : is_utf8 k ≡ false = false_from_ne_true _ (λ t. n (IsUtf8-from_is_utf8 k t)) in rw (h, t) refl
