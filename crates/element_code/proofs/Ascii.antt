-- Blocks of bytes that are ASCII, bytes cut into such, and what a test of UTF-8 tells.
use Rattle.std.proofs.Common.{◌≡◌, ℕ, zero, suc, ◌<◌, ◌≤◌, ◌%◌, ◌^◌, ◌==◌, IsTrue, Bool, true, false, Result, Ok, Err, is_ok, cond, leb, List, [], ◌∷◌, ◌++◌, map, length, take, drop, replicate, sym, ap, subst, ◌∙◌, arith, w8, leb-false, eqb-true, refl, take-append-drop}
use Rattle.std.specs.Prelude.{MatchResult}
use Rattle.std.specs.Str.{IsAscii, IsUtf8, is_utf8}
use Rattle.std.proofs.lemmas.Bool.{false_from_ne_true}
use Rattle.std.proofs.lemmas.List.{length-replicate}
use Rattle.std.proofs.lemmas.Str.{IsAscii-append, is_utf8-from_IsUtf8, IsUtf8-from_is_utf8}
use Rattle.std.proofs.lemmas.Simd.{tops_compared, mask_l-mod, length-zip2}
use lib.Lanes.{zip2, mask_l, top}

abbrev at_least : ℕ → ℕ → ℕ
at_least a b = cond (leb a b) 255 0

none_high : (n : ℕ) (xs : List ℕ) → length xs ≡ n → mask_l (zip2 leb (replicate n 128) xs) ≡ 0 → IsAscii xs
none_high n [] long e i = omega arith
none_high zero (x ∷ xs) long e i = absurd (omega (arith, long))
none_high (suc n) (x ∷ xs) long e zero = low (leb 128 x) refl (omega (arith, e))
  where
    low : (t : Bool) → leb 128 x ≡ t → ◌≡◌ {A = ℕ} (cond t 1 0) 0 → x < 128
    low true p q = absurd (omega (arith, q))
    low false p q = leb-false _ _ p
none_high (suc n) (x ∷ xs) long e (suc i) = none_high n xs (omega (arith, long)) (omega (arith, e)) i

pub ascii_block : (n : ℕ) (xs : List ℕ) → length xs ≡ n → n ≤ 64 → IsTrue (mask_l (map (top 7) (zip2 at_least (replicate n 128) xs)) % 2 ^ 64 == 0) → IsAscii xs
ascii_block n xs long few is =
    let same : map (top 7) (zip2 at_least (replicate n 128) xs) ≡ zip2 leb (replicate n 128) xs = tops_compared w8 leb (replicate n 128) xs in
    let short : length (zip2 leb (replicate n 128) xs) ≤ 64 = omega (arith, length-zip2 leb (replicate n 128) xs (length-replicate {A = ℕ} n 128 ∙ sym long), length-replicate {A = ℕ} n 128, few) in
    none_high n xs long (sym (mask_l-mod (zip2 leb (replicate n 128) xs) 64 short) ∙ ap (λ m. mask_l m % 2 ^ 64) (sym same) ∙ eqb-true _ _ is)

pub ascii_parts : (n : ℕ) (bytes front behind : List ℕ) → front ≡ take n bytes → behind ≡ drop n bytes → IsAscii front → IsAscii behind → IsAscii bytes
ascii_parts n bytes front behind f b one two = subst IsAscii (ap (λ l. l ++ behind) f ∙ ap (λ l. take n bytes ++ l) b ∙ take-append-drop n bytes) (IsAscii-append front behind one two)

pub told_by : {A E : Type 0} (P : A → Type 0) (read : Result A E) (bytes : List ℕ) → MatchResult read (λ s. P s × IsUtf8 bytes) (λ _. IsUtf8 bytes → ⊥) → is_ok read ≡ is_utf8 bytes
told_by P (Ok s) bytes told = sym (is_utf8-from_IsUtf8 bytes told.1)
told_by P (Err e) bytes told = sym (false_from_ne_true _ (λ t. told (IsUtf8-from_is_utf8 bytes t)))
