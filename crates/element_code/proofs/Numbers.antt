-- Numbers, times and texts: what was written is read, and what is read was written so.
use Rattle.std.proofs.Common.{◌≡◌, ℕ, zero, suc, ◌<◌, ◌^◌, inl, inr, ℤ, pos, negsuc, ◌+ℤ◌, ◌*ℤ◌, List, [], ◌∷◌, ◌++◌, length, take, drop, true, ◌&&◌, ◌==◌, Option, Some, None, if◌then◌else◌, nat_lt, refl, sym, ap, subst, ◌∙◌, arith, rules, length-append, length-drop, FitsSigned, w64}
use Rattle.std.specs.Prelude.{int_rem, int_div, nat_le, unsigned_abs, int_le}
use Rattle.std.specs.Ordering.{int_eq}
use Rattle.std.specs.Int.{cast_signed, cast_unsigned, int_div_euclid, int_rem_euclid}
use Rattle.std.specs.Str.{IsUtf8, is_utf8}
use Rattle.std.proofs.lemmas.Str.{IsUtf8-from_is_utf8}
use Rattle.std.proofs.lemmas.List.{take_all, append-nil, take-append-drop}
use Rattle.std.proofs.Math.Seq.{drop-append_seam}
use Rattle.std.proofs.lemmas.Bool.Decides.{Decides-int_eq, nat_tests}
use Rattle.std.proofs.lemmas.Int.{ints, to_z-of_z, of_z-to_z}
use Rattle.std.proofs.Math.Facts.{sfits_to_z, Fits-of_lt}
use Rattle.byteorder.specs.Endian.{big_bytes, big_number}
use Rattle.byteorder.specs.Numbers.{big_from-lt, big_number-reads_back}
use Rattle.crc_frame.specs.Bytes.{IsBytes}
use Rattle.crc_frame.proofs.Numbers.{IsBytes-drop, big_bytes-big_number}
use Rattle.plain_data.specs.Calendar.{IsMoment, first_moment, last_moment}
use Rattle.event_tree.proofs.Sounds.{first, second as second_true}
use Rattle.event_tree.specs.Number.{Num, IsLeast, least}
use Rattle.event_tree.specs.declared.value.Value.{Value}
use Rattle.event_tree.specs.declared.value.Value.TheVariants as v
use Rattle.crc_frame.proofs.Fronts.{chosen, length-big_bytes}
use Rattle.element_code.specs.Parts.{number_bytes, time_bytes, second}
use Rattle.element_code.specs.Values.{IsNumber}
use Rattle.element_code.specs.Reading.{number_in, exact_number, same_number, time_in, moment_of, is_moment, text_in}
use Rattle.element_code.proofs.Leaves.{same_parts, moment_is}

some_is : {A : Type 0} (x y : A) → Some x ≡ Some y → x ≡ y
some_is x y h = search (h, rules)

-- ---- numbers

least_again : (m : ℤ) (s : ℕ) → IsLeast m s → least m s ≡ Some (record { mantissa = m; scale = s })
least_again m zero is = refl
least_again m (suc s) is = elim is.trimmed [
  | inl none ↦ absurd (omega arith)
  | inr e ↦ let t : nat_le (suc s) 18 ≡ true = grind (arith, nat_tests, is.few) in rw (e, t) refl
]

least_sound : (m : ℤ) (s : ℕ) (n : Num) → least m s ≡ Some n → IsLeast n.mantissa n.scale
least_sound m zero n h = subst (λ k. IsLeast k.mantissa k.scale) (some_is (record { mantissa = m; scale = 0 }) n h) (record { few = omega arith; trimmed = inl refl })
least_sound m (suc s) n h = elim (chosen (int_eq (int_rem m (pos 10)) (pos 0)) (least (int_div m (pos 10)) s) (if nat_le (suc s) 18 then Some (record { mantissa = m; scale = suc s }) else None) (Some n) h) [
  | inl w ↦ least_sound (int_div m (pos 10)) s n w.1
  | inr w ↦ elim (chosen (nat_le (suc s) 18) (Some (record { mantissa = m; scale = suc s })) None (Some n) w.1) [
    | inl u ↦ subst (λ k. IsLeast k.mantissa k.scale) (some_is (record { mantissa = m; scale = suc s }) n u.1) (record { few = grind (arith, nat_tests, u.0); trimmed = inr w.0 })
    | inr u ↦ absurd (search (u.1, rules))
  ]
]

front_8 : (xs ys : List ℕ) → length xs ≡ 8 → drop 8 (xs ++ ys) ≡ ys
front_8 xs ys e = ap (λ k. drop k (xs ++ ys)) (sym e) ∙ drop-append_seam xs ys

low_64 : (z : ℤ) → FitsSigned w64 z → cast_unsigned w64 z < 256 ^ 8
low_64 z fits = omega (arith, ints)

signed_back : (z : ℤ) (rest : List ℕ) → FitsSigned w64 z → cast_signed w64 (big_number 8 (big_bytes 8 (cast_unsigned w64 z) ++ rest)) ≡ z
signed_back z rest fits = ap (cast_signed w64) (big_number-reads_back 8 (cast_unsigned w64 z) rest (low_64 z fits)) ∙ to_z-of_z w64 z fits

pub number_again : (n : Num) → IsNumber n → number_in (number_bytes n) ≡ Some (v.Num n)
unfolding number_bytes
number_again n is =
    let m = cast_unsigned w64 n.mantissa in
    let e : big_number 1 (drop 8 (big_bytes 8 m ++ n.scale ∷ [])) ≡ n.scale = ap (big_number 1) (front_8 (big_bytes 8 m) (n.scale ∷ []) (length-big_bytes 8 m)) ∙ omega arith in
    ap (λ z. exact_number z (big_number 1 (drop 8 (big_bytes 8 m ++ n.scale ∷ [])))) (signed_back n.mantissa (n.scale ∷ []) is.fits)
    ∙ ap (exact_number n.mantissa) e ∙ same_parts n.mantissa n.scale n (least_again n.mantissa n.scale is.least) refl refl

pub record NumberIn (bytes : List ℕ) (d : Value) : Type 0 where
  pub number : Num
  pub is : d ≡ v.Num number
  pub valid : IsNumber number
  pub spelled : bytes ≡ number_bytes number

record Taken (m : ℤ) (s : ℕ) (d : Value) : Type 0 where
  pub number : Num
  pub least_is : least m s ≡ Some number
  pub mantissa : number.mantissa ≡ m
  pub scale : number.scale ≡ s
  pub is : d ≡ v.Num number

taken : (m : ℤ) (s : ℕ) (d : Value) (r : Option Num) → least m s ≡ r → same_number m s r ≡ Some d → Taken m s d
taken m s d None e h = absurd (search (h, rules))
taken m s d (Some n) e h = elim (chosen (int_eq n.mantissa m && (n.scale == s)) (Some (v.Num n)) None (Some d) h) [
  | inl w ↦ record {
    number = n;
    least_is = e;
    mantissa = (Decides-int_eq n.mantissa m).0 (first _ _ w.0);
    scale = grind (arith, nat_tests, second_true (int_eq n.mantissa m) (n.scale == s) w.0);
    is = sym (some_is (v.Num n) d w.1);
  }
  | inr w ↦ absurd (search (w.1, rules))
]

one : (xs : List ℕ) → length xs ≡ 1 → xs ≡ big_number 1 xs ∷ []
one [] e = absurd (omega arith)
one (x ∷ []) e = ap (λ k. k ∷ []) (omega arith)
one (x ∷ y ∷ xs) e = absurd (omega arith)

one_byte : (bytes : List ℕ) → length bytes ≡ 9 → drop 8 bytes ≡ big_number 1 (drop 8 bytes) ∷ []
one_byte bytes e = one (drop 8 bytes) (omega (arith, length-drop 8 bytes, e))

pub number_takes : (bytes : List ℕ) (d : Value) → IsBytes bytes → length bytes ≡ 9 → number_in bytes ≡ Some d → NumberIn bytes d
unfolding number_bytes
number_takes bytes d fits long h =
    let m = cast_signed w64 (big_number 8 bytes) in
    let s = big_number 1 (drop 8 bytes) in
    let t = taken m s d (least m s) refl h in
    let n = t.number in
    let low : big_number 8 bytes < 2 ^ 64 = big_from-lt 0 8 bytes fits in
    let back : cast_unsigned w64 n.mantissa ≡ big_number 8 bytes = ap (cast_unsigned w64) t.mantissa ∙ of_z-to_z w64 (big_number 8 bytes) low in
    let front : big_bytes 8 (cast_unsigned w64 n.mantissa) ≡ take 8 bytes = ap (big_bytes 8) back ∙ big_bytes-big_number 8 bytes (omega (arith, long)) fits in
    let valid : FitsSigned w64 n.mantissa = subst (FitsSigned w64) (sym t.mantissa) (sfits_to_z (Fits-of_lt low)) in
    record {
      number = n;
      is = t.is;
      valid = record { fits = valid; least = least_sound m s n t.least_is };
      spelled = sym (take-append-drop 8 bytes) ∙ ap (λ b. take 8 bytes ++ b) (one_byte bytes long) ∙ ap (λ k. take 8 bytes ++ k ∷ []) (sym t.scale) ∙ ap (λ f. f ++ n.scale ∷ []) (sym front);
    }

-- ---- times

parts_of_time : (t : ℤ) → t ≡ int_div_euclid t second *ℤ pos 1000000000 +ℤ pos (unsigned_abs (int_rem_euclid t second))
parts_of_time (pos a) = omega (arith, ints)
parts_of_time (negsuc a) = omega (arith, ints)

below_second : (t : ℤ) → unsigned_abs (int_rem_euclid t second) < 1000000000
below_second (pos a) = omega (arith, ints)
below_second (negsuc a) = omega (arith, ints)

seconds_fit : (t : ℤ) → IsMoment t → FitsSigned w64 (int_div_euclid t second)
seconds_fit (pos a) is = omega (arith, ints, is.from_first, is.to_last)
seconds_fit (negsuc a) is = omega (arith, ints, is.from_first, is.to_last)

pub time_again : (t : ℤ) → IsMoment t → time_in (time_bytes t) ≡ Some (v.Time t)
unfolding time_bytes
time_again t is =
    let s = int_div_euclid t second in
    let n = unsigned_abs (int_rem_euclid t second) in
    let m = cast_unsigned w64 s in
    let low : n < 1000000000 = below_second t in
    let e : big_number 4 (drop 8 (big_bytes 8 m ++ big_bytes 4 n)) ≡ n = ap (big_number 4) (front_8 (big_bytes 8 m) (big_bytes 4 n) (length-big_bytes 8 m) ∙ sym (append-nil (big_bytes 4 n))) ∙ big_number-reads_back 4 n [] (omega (arith, low)) in
    ap (λ z. moment_of z (big_number 4 (drop 8 (big_bytes 8 m ++ big_bytes 4 n)))) (signed_back s (big_bytes 4 n) (seconds_fit t is))
    ∙ ap (moment_of s) e ∙ moment_is s n t low (parts_of_time t) is

pub record TimeIn (bytes : List ℕ) (d : Value) : Type 0 where
  pub nanos : ℤ
  pub is : d ≡ v.Time nanos
  pub valid : IsMoment nanos
  pub spelled : bytes ≡ time_bytes nanos

quotient_is : (t s : ℤ) (n : ℕ) → t ≡ s *ℤ pos 1000000000 +ℤ pos n → n < 1000000000 → int_div_euclid t second ≡ s
quotient_is (pos a) s n e low = omega (arith, ints, e, low)
quotient_is (negsuc a) s n e low = omega (arith, ints, e, low)

rest_is : (t s : ℤ) (n : ℕ) → t ≡ s *ℤ pos 1000000000 +ℤ pos n → n < 1000000000 → unsigned_abs (int_rem_euclid t second) ≡ n
rest_is (pos a) s n e low = omega (arith, ints, e, low)
rest_is (negsuc a) s n e low = omega (arith, ints, e, low)

is_moment_sound : (z : ℤ) → is_moment z ≡ true → IsMoment z
is_moment_sound z h = record { from_first = grind (arith, ints, first (int_le first_moment z) (int_le z last_moment) h); to_last = grind (arith, ints, second_true (int_le first_moment z) (int_le z last_moment) h) }

pub time_takes : (bytes : List ℕ) (d : Value) → IsBytes bytes → length bytes ≡ 12 → time_in bytes ≡ Some d → TimeIn bytes d
unfolding time_bytes
time_takes bytes d fits long h =
    let s = cast_signed w64 (big_number 8 bytes) in
    let n = big_number 4 (drop 8 bytes) in
    let t = s *ℤ pos 1000000000 +ℤ pos n in
    elim (chosen (nat_lt n 1000000000 && is_moment t) (Some (v.Time t)) None (Some d) h) [
      | inl w ↦
          let low : n < 1000000000 = grind (arith, nat_tests, first (nat_lt n 1000000000) (is_moment t) w.0) in
          let number : big_number 8 bytes < 2 ^ 64 = big_from-lt 0 8 bytes fits in
          let back : cast_unsigned w64 (int_div_euclid t second) ≡ big_number 8 bytes = ap (cast_unsigned w64) (quotient_is t s n refl low) ∙ of_z-to_z w64 (big_number 8 bytes) number in
          let front : big_bytes 8 (cast_unsigned w64 (int_div_euclid t second)) ≡ take 8 bytes = ap (big_bytes 8) back ∙ big_bytes-big_number 8 bytes (omega (arith, long)) fits in
          let rest : big_bytes 4 (unsigned_abs (int_rem_euclid t second)) ≡ drop 8 bytes = ap (big_bytes 4) (rest_is t s n refl low) ∙ big_bytes-big_number 4 (drop 8 bytes) (omega (arith, length-drop 8 bytes, long)) (IsBytes-drop 8 bytes fits) ∙ take_all 4 (drop 8 bytes) (omega (arith, length-drop 8 bytes, long)) in
          record {
            nanos = t;
            is = sym (some_is (v.Time t) d w.1);
            valid = is_moment_sound t (second_true (nat_lt n 1000000000) (is_moment t) w.0);
            spelled = sym (take-append-drop 8 bytes) ∙ ap (λ b. take 8 bytes ++ b) (sym rest) ∙ ap (λ f. f ++ big_bytes 4 (unsigned_abs (int_rem_euclid t second))) (sym front);
          }
      | inr w ↦ absurd (search (w.1, rules))
    ]

-- ---- texts

pub text_takes : (bytes : List ℕ) (d : Value) → text_in bytes ≡ Some d → (d ≡ v.Text bytes) × IsUtf8 bytes
text_takes bytes d h = elim (chosen (is_utf8 bytes) (Some (v.Text bytes)) None (Some d) h) [
  | inl w ↦ (sym (some_is (v.Text bytes) d w.1), IsUtf8-from_is_utf8 bytes w.0)
  | inr w ↦ absurd (search (w.1, rules))
]

pub length-number_bytes : (n : Num) → length (number_bytes n) ≡ 9
unfolding number_bytes
length-number_bytes n = omega (arith, length-append (big_bytes 8 (cast_unsigned w64 n.mantissa)) (n.scale ∷ []), length-big_bytes 8 (cast_unsigned w64 n.mantissa))

pub length-time_bytes : (t : ℤ) → length (time_bytes t) ≡ 12
unfolding time_bytes
length-time_bytes t =
    let m = cast_unsigned w64 (int_div_euclid t second) in
    let n = unsigned_abs (int_rem_euclid t second) in
    omega (arith, length-append (big_bytes 8 m) (big_bytes 4 n), length-big_bytes 8 m, length-big_bytes 4 n)
