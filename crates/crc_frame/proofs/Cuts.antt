-- Bytes that end within a front, a number or a run, and what they could still become.
use Rattle.std.proofs.Common.{◌≡◌, ℕ, zero, suc, ◌-◌, ◌<◌, ◌^◌, ◌⊎◌, inl, inr, List, [], ◌∷◌, ◌++◌, length, take, drop, Result, Ok, Err, nat_lt, refl, sym, ap, ◌∙◌, arith, rules, append_assoc, length-append}
use Rattle.std.proofs.lemmas.List.{take_all}
use Rattle.std.proofs.lemmas.Bool.Decides.{nat_tests}
use Rattle.byteorder.specs.Endian.{big_bytes, big_number}
use Rattle.byteorder.specs.Numbers.{big_from-lt}
use Rattle.crc_frame.specs.Bytes.{IsBytes}
use Rattle.crc_frame.proofs.Numbers.{big_bytes-big_number}
use Rattle.crc_frame.specs.Fronts.{◌>>=◌, front_at, number_at, run_at, count_bytes, run_bytes, EndIn}
use Rattle.crc_frame.proofs.Fronts.{chosen, count_takes}

pub bind_err : {A B : Type 0} (r : Result A ℕ) (f : A → Result B ℕ) (left : ℕ) → (r >>= f) ≡ Err left → (r ≡ Err left) ⊎ ((x : A) × (r ≡ Ok x) × (f x ≡ Err left))
bind_err (Ok x) f left h = inr (x, refl, h)
bind_err (Err e) f left h = inl (ap (λ n. Err n) (search (h, rules)))

pub front_err : (n : ℕ) (bytes : List ℕ) (left : ℕ) → front_at n bytes ≡ Err left → (length bytes < n) × (left ≡ 0)
front_err n bytes left h = elim (chosen (nat_lt (length bytes) n) (Err 0) (Ok (take n bytes, drop n bytes)) (Err left) h) [
  | inl w ↦ (grind (arith, nat_tests, w.0), search (w.1, rules))
  | inr w ↦ absurd (search (w.1, rules))
]

abbrev pub zeros : ℕ → List ℕ
zeros zero = []
zeros (suc n) = 0 ∷ zeros n

pub length-zeros : (n : ℕ) → length (zeros n) ≡ n
length-zeros zero = refl
length-zeros (suc n) = ap suc (length-zeros n)

IsBytes-zeros : (n : ℕ) → IsBytes (zeros n)
IsBytes-zeros zero i = omega arith
IsBytes-zeros (suc n) zero = omega arith
IsBytes-zeros (suc n) (suc i) = IsBytes-zeros n i

IsBytes-append : (xs ys : List ℕ) → IsBytes xs → IsBytes ys → IsBytes (xs ++ ys)
IsBytes-append [] ys f g i = g i
IsBytes-append (x ∷ xs) ys f g zero = f 0
IsBytes-append (x ∷ xs) ys f g (suc i) = IsBytes-append xs ys (λ j. f (suc j)) g i

-- bytes that are too few, filled up with zeros
pub filled : (n : ℕ) (bytes : List ℕ) → length bytes < n → (other : List ℕ) × (length other ≡ n) × EndIn other bytes
filled n bytes few = let k = n - length bytes - 1 in (bytes ++ 0 ∷ zeros k, omega (arith, length-append bytes (0 ∷ zeros k), length-zeros k, few), (0, zeros k, refl))

pub count_cut : (bytes : List ℕ) → length bytes < 4 → IsBytes bytes → (n : ℕ) × (n < 2 ^ 32) × EndIn (count_bytes n) bytes
unfolding count_bytes
count_cut bytes few fit =
    let k = 3 - length bytes in
    let all = bytes ++ 0 ∷ zeros k in
    let fits : IsBytes all = IsBytes-append bytes (0 ∷ zeros k) fit (IsBytes-zeros (suc k)) in
    let long : length all ≡ 4 = omega (arith, length-append bytes (0 ∷ zeros k), length-zeros k, few) in
    let e : big_bytes 4 (big_number 4 all) ≡ all = big_bytes-big_number 4 all (omega (arith, long)) fits ∙ take_all 4 all (omega (arith, long)) in
    (big_number 4 all, big_from-lt 0 4 all fits, (0, zeros k, sym e))

pub number_err : (width : ℕ) (bytes : List ℕ) (left : ℕ) → number_at width bytes ≡ Err left → (length bytes < width) × (left ≡ 0)
number_err width bytes left h = elim (bind_err (front_at width bytes) (λ x. Ok (big_number width x.0, x.1)) left h) [
  | inl w ↦ front_err width bytes left w
  | inr w ↦ absurd (search (w.2, rules))
]

-- bytes that end within a run, its length or what it says
pub run_cut : (bytes : List ℕ) (left : ℕ) → IsBytes bytes → run_at bytes ≡ Err left → (left ≡ 0) × ((other : List ℕ) × (length other < 2 ^ 32) × EndIn (run_bytes other) bytes)
run_cut bytes left fit h = elim (bind_err (number_at 4 bytes) (λ n. front_at n.0 n.1) left h) [
  | inl w ↦
      let short = number_err 4 bytes left w in
      let c = count_cut bytes short.0 fit in
      let z = zeros c.0 in
      let same : length z ≡ c.0 = length-zeros c.0 in
      (short.1, (z, omega (arith, same, c.1), (c.2.0, c.2.1 ++ z, sym (append_assoc bytes (c.2.0 ∷ c.2.1) z) ∙ ap (λ b. b ++ z) c.2.2 ∙ ap (λ n. count_bytes n ++ z) (sym same))))
  | inr w ↦
      let n = w.0 in
      let t = count_takes bytes n fit w.1 in
      let short = front_err n.0 n.1 left w.2 in
      let f = filled n.0 n.1 short.0 in
      (short.1, (f.0, omega (arith, f.1, t.1), (f.2.0, f.2.1, ap (λ b. b ++ f.2.0 ∷ f.2.1) t.0 ∙ append_assoc (count_bytes n.0) n.1 (f.2.0 ∷ f.2.1) ∙ ap (λ b. count_bytes n.0 ++ b) f.2.2 ∙ ap (λ k. count_bytes k ++ f.0) (sym f.1))))
]
