-- Fronts of bytes, numbers, and bytes behind their length: what was written is read, and what is read was written so.
use Rattle.std.proofs.Common.{◌≡◌, ℕ, ◌<◌, ◌≤◌, ◌^◌, ◌⊎◌, inl, inr, List, [], ◌∷◌, ◌++◌, length, take, drop, Bool, true, false, Result, Ok, Err, if◌then◌else◌, nat_lt, ◌==◌, refl, sym, ap, subst, ◌∙◌, append_assoc, arith, rules, length-append}
use Rattle.std.proofs.lemmas.List.{take_all, append-nil, take-append-drop, length-take}
use Rattle.std.proofs.Math.Seq.{take-append_seam, drop-append_seam}
use Rattle.std.proofs.lemmas.Bool.Decides.{nat_tests}
use Rattle.byteorder.specs.Endian.{big_bytes, big_number}
use Rattle.byteorder.specs.Numbers.{big_from-lt, big_number-reads_back, length-bytes_high_first}
use Rattle.crc_frame.specs.Bytes.{IsBytes}
use Rattle.crc_frame.proofs.Numbers.{IsBytes-drop, IsBytes-take, big_bytes-big_number}
use Rattle.crc_frame.specs.Fronts.{◌>>=◌, front_at, number_at, run_at, count_bytes, run_bytes}

pub bind_ok : {A B : Type 0} (r : Result A ℕ) (f : A → Result B ℕ) (y : B) → (r >>= f) ≡ Ok y → (x : A) × (r ≡ Ok x) × (f x ≡ Ok y)
bind_ok (Ok x) f y h = (x, refl, h)
bind_ok (Err e) f y h = absurd (search (h, rules))

pub chosen : {A : Type 0} (b : Bool) (x y z : A) → (if b then x else y) ≡ z → ((b ≡ true) × (x ≡ z)) ⊎ ((b ≡ false) × (y ≡ z))
chosen true x y z h = inl (refl, h)
chosen false x y z h = inr (refl, h)

abbrev done : {A : Type 0} → A → Result A ℕ
done x = Ok x

pub ok_is : {A : Type 0} (x y : A) → done x ≡ Ok y → x ≡ y
ok_is x y h = search (h, rules)

pub length-big_bytes : (width n : ℕ) → length (big_bytes width n) ≡ width
length-big_bytes width n = length-bytes_high_first width n

pub length-count_bytes : (n : ℕ) → length (count_bytes n) ≡ 4
unfolding count_bytes
length-count_bytes n = length-bytes_high_first 4 n

-- ---- what was written is read

pub front_again : (front rest : List ℕ) (n : ℕ) → n ≡ length front → front_at n (front ++ rest) ≡ Ok (front, rest)
front_again front rest n e =
    let t : nat_lt (length (front ++ rest)) (length front) ≡ false = grind (arith, nat_tests, length-append front rest) in
    let one : front_at (length front) (front ++ rest) ≡ Ok (front, rest) = rw (t, take-append_seam front rest, drop-append_seam front rest) refl in
    ap (λ k. front_at k (front ++ rest)) e ∙ one

pub number_again : (width n : ℕ) (rest : List ℕ) → n < 256 ^ width → number_at width (big_bytes width n ++ rest) ≡ Ok (n, rest)
number_again width n rest low =
    let back : big_number width (big_bytes width n) ≡ n = ap (big_number width) (sym (append-nil (big_bytes width n))) ∙ big_number-reads_back width n [] low in
    rw (front_again (big_bytes width n) rest width (sym (length-bytes_high_first width n))) (ap (λ k. Ok (k, rest)) back)

pub count_again : (n : ℕ) (rest : List ℕ) → n < 2 ^ 32 → number_at 4 (count_bytes n ++ rest) ≡ Ok (n, rest)
unfolding count_bytes
count_again n rest low = number_again 4 n rest low

pub run_again : (s rest : List ℕ) → length s < 2 ^ 32 → run_at (count_bytes (length s) ++ (s ++ rest)) ≡ Ok (s, rest)
run_again s rest low = rw (count_again (length s) (s ++ rest) low) (front_again s rest (length s) refl)

pub run_bytes_again : (s rest : List ℕ) → length s < 2 ^ 32 → run_at (run_bytes s ++ rest) ≡ Ok (s, rest)
run_bytes_again s rest low = ap run_at (append_assoc (count_bytes (length s)) s rest) ∙ run_again s rest low

-- ---- what is read was written so

pub record Takes (bytes front rest : List ℕ) : Type 0 where
  pub is : bytes ≡ front ++ rest
  pub front_fits : IsBytes front
  pub fits : IsBytes rest

pub front_takes : (n : ℕ) (bytes : List ℕ) (x : List ℕ × List ℕ) → IsBytes bytes → front_at n bytes ≡ Ok x → Takes bytes x.0 x.1 × (length x.0 ≡ n)
front_takes n bytes x fits h = elim (chosen (nat_lt (length bytes) n) (Err 0) (Ok (take n bytes, drop n bytes)) (Ok x) h) [
  | inl w ↦ absurd (search (w.1, rules))
  | inr w ↦
      let e : (take n bytes, drop n bytes) ≡ x = ok_is _ x w.1 in
      let long : n ≤ length bytes = grind (arith, nat_tests, w.0) in
      let all : Takes bytes (take n bytes) (drop n bytes) × (length (take n bytes) ≡ n) =
      (record { is = sym (take-append-drop n bytes); front_fits = IsBytes-take n bytes fits; fits = IsBytes-drop n bytes fits }, grind (arith, length-take n bytes, long)) in
      subst (λ y. Takes bytes y.0 y.1 × (length y.0 ≡ n)) e all
]

pub number_takes : (width : ℕ) (bytes : List ℕ) (x : ℕ × List ℕ) → IsBytes bytes → number_at width bytes ≡ Ok x → (bytes ≡ big_bytes width x.0 ++ x.1) × (x.0 < 256 ^ width) × IsBytes x.1
number_takes width bytes x fits h =
    let b = bind_ok (front_at width bytes) (λ y. Ok (big_number width y.0, y.1)) x h in
    let t = front_takes width bytes b.0 fits b.1 in
    let e : (big_number width b.0.0, b.0.1) ≡ x = ok_is _ x b.2 in
    let written : big_bytes width (big_number width b.0.0) ≡ b.0.0 = big_bytes-big_number width b.0.0 (omega (arith, t.1)) t.0.front_fits ∙ take_all width b.0.0 (omega (arith, t.1)) in
    subst (λ y. (bytes ≡ big_bytes width y.0 ++ y.1) × (y.0 < 256 ^ width) × IsBytes y.1) e (t.0.is ∙ ap (λ f. f ++ b.0.1) (sym written), big_from-lt 0 width b.0.0 t.0.front_fits, t.0.fits)

pub count_takes : (bytes : List ℕ) (x : ℕ × List ℕ) → IsBytes bytes → number_at 4 bytes ≡ Ok x → (bytes ≡ count_bytes x.0 ++ x.1) × (x.0 < 2 ^ 32) × IsBytes x.1
unfolding count_bytes
count_takes bytes x fits h = number_takes 4 bytes x fits h

pub record Run (bytes s rest : List ℕ) : Type 0 where
  pub is : bytes ≡ count_bytes (length s) ++ (s ++ rest)
  pub short : length s < 2 ^ 32
  pub fits : IsBytes rest

pub run_takes : (bytes : List ℕ) (x : List ℕ × List ℕ) → IsBytes bytes → run_at bytes ≡ Ok x → Run bytes x.0 x.1
run_takes bytes x fits h =
    let b = bind_ok (number_at 4 bytes) (λ n. front_at n.0 n.1) x h in
    let n = count_takes bytes b.0 fits b.1 in
    let t = front_takes b.0.0 b.0.1 x n.2 b.2 in
    record {
      is = n.0 ∙ ap (λ k. count_bytes k ++ b.0.1) (sym t.1) ∙ ap (λ r. count_bytes (length x.0) ++ r) t.0.is;
      short = omega (arith, n.1, t.1);
      fits = t.0.fits;
    }

pub no_bytes : (xs : List ℕ) → (length xs == 0) ≡ true → xs ≡ []
no_bytes [] h = refl
no_bytes (x ∷ xs) h = absurd (search (h, rules))
