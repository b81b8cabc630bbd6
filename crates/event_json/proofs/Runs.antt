-- What is written of a run of plain bytes is the run.
use Rattle.std.proofs.Common.{◌≡◌, ℕ, suc, ◌+◌, ◌-◌, ◌<◌, ◌≤◌, List, [], ◌∷◌, ◌++◌, length, take, drop, get_or, flat_map, refl, sym, ap, ◌∙◌, arith, append_assoc, true, false, ◌==◌, nat_lt, Result, Ok, Err, OnOk, length-drop}
use Rattle.std.proofs.lemmas.Bool.Decides.{nat_tests}
use Rattle.std.proofs.lemmas.List.{append-nil}
use Rattle.std.proofs.Math.Seq.{drop-cons, drop-length, take-length}
use Rattle.event_json.specs.Strings.{is_plain}
use Rattle.event_json.proofs.Tests.{bool_cases}
use Rattle.event_json.specs.Json.{escaped}
use Rattle.event_json.specs.Stops.{plain_run, after_plain_run}

plain_escaped : (b : ℕ) → is_plain b ≡ true → escaped b ≡ b ∷ []
plain_escaped b p =
    let a : (b == 34) ≡ false = grind (arith, nat_tests) in
    let c : (b == 92) ≡ false = grind (arith, nat_tests) in
    let i : nat_lt b 32 ≡ false = grind (arith, nat_tests) in
    let d : (b == 8) ≡ false = grind (arith, nat_tests) in
    let e : (b == 9) ≡ false = grind (arith, nat_tests) in
    let f : (b == 10) ≡ false = grind (arith, nat_tests) in
    let g : (b == 12) ≡ false = grind (arith, nat_tests) in
    let h : (b == 13) ≡ false = grind (arith, nat_tests) in
    rw (a, c, d, e, f, g, h, i) refl

run_escaped : (bs : List ℕ) → flat_map escaped bs ≡ plain_run bs ++ flat_map escaped (after_plain_run bs)
run_escaped [] = refl
run_escaped (b ∷ bs) = bool_cases (is_plain b) (λ e. plain_case b bs e (run_escaped bs)) (λ e. special_case b bs e)
  where
    plain_case : (b : ℕ) (bs : List ℕ) → is_plain b ≡ true → flat_map escaped bs ≡ plain_run bs ++ flat_map escaped (after_plain_run bs) → flat_map escaped (b ∷ bs) ≡ plain_run (b ∷ bs) ++ flat_map escaped (after_plain_run (b ∷ bs))
    plain_case b bs e ih =
        let x : plain_run (b ∷ bs) ≡ b ∷ plain_run bs = rw e refl in
        let y : after_plain_run (b ∷ bs) ≡ after_plain_run bs = rw e refl in
        ap (λ ys. ys ++ flat_map escaped bs) (plain_escaped b e) ∙ ap (λ ys. b ∷ ys) ih ∙ sym (ap (λ ys. ys ++ flat_map escaped (after_plain_run (b ∷ bs))) x ∙ ap (λ ys. (b ∷ plain_run bs) ++ flat_map escaped ys) y)

    special_case : (b : ℕ) (bs : List ℕ) → is_plain b ≡ false → flat_map escaped (b ∷ bs) ≡ plain_run (b ∷ bs) ++ flat_map escaped (after_plain_run (b ∷ bs))
    special_case b bs e =
        let x : plain_run (b ∷ bs) ≡ [] = rw e refl in
        let y : after_plain_run (b ∷ bs) ≡ b ∷ bs = rw e refl in
        sym (ap (λ ys. ys ++ flat_map escaped (after_plain_run (b ∷ bs))) x ∙ ap (flat_map escaped) y)

-- a run of n bytes, and what follows it
pub run_written : (bs : List ℕ) (n : ℕ) → plain_run bs ≡ take n bs → after_plain_run bs ≡ drop n bs → flat_map escaped bs ≡ take n bs ++ flat_map escaped (drop n bs)
run_written bs n h k = run_escaped bs ∙ ap (λ ys. ys ++ flat_map escaped (after_plain_run bs)) h ∙ ap (λ ys. take n bs ++ flat_map escaped ys) k

-- the run is all there is
pub all_written : (bs : List ℕ) (n : ℕ) (piece old middle new : List ℕ) → plain_run bs ≡ take n bs → after_plain_run bs ≡ drop n bs → n ≡ length bs → piece ≡ take n bs → middle ≡ old ++ piece → new ≡ middle ++ 34 ∷ [] → new ≡ old ++ (flat_map escaped bs ++ 34 ∷ [])
all_written bs n piece old middle new h k e p m w =
    let none : drop n bs ≡ [] = ap (λ i. drop i bs) e ∙ drop-length bs in
    let all : flat_map escaped bs ≡ piece = run_written bs n h k ∙ ap (λ ys. take n bs ++ flat_map escaped ys) none ∙ append-nil (take n bs) ∙ sym p in
    w ∙ ap (λ ys. ys ++ 34 ∷ []) m ∙ append_assoc old piece (34 ∷ []) ∙ ap (λ ys. old ++ (ys ++ 34 ∷ [])) (sym all)

regroup : (old piece e f : List ℕ) → ((old ++ piece) ++ e) ++ (f ++ 34 ∷ []) ≡ old ++ ((piece ++ (e ++ f)) ++ 34 ∷ [])
regroup old piece e f = simp append_assoc

-- the run, the byte behind it, and what is left
pub one_written : (bs : List ℕ) (n b : ℕ) (piece rest old middle new : List ℕ) → plain_run bs ≡ take n bs → after_plain_run bs ≡ drop n bs → n < length bs → piece ≡ take n bs → b ≡ get_or bs n 0 → rest ≡ drop (n + 1) bs → middle ≡ old ++ piece → new ≡ middle ++ escaped b → new ++ (flat_map escaped rest ++ 34 ∷ []) ≡ old ++ (flat_map escaped bs ++ 34 ∷ [])
one_written bs n b piece rest old middle new h k lt p is r m w =
    let one : suc n ≡ n + 1 = omega arith in
    let split : drop n bs ≡ b ∷ rest = drop-cons bs n 0 lt ∙ ap (λ x. x ∷ drop (suc n) bs) (sym is) ∙ ap (λ i. b ∷ drop i bs) one ∙ ap (λ (ys : List ℕ). b ∷ ys) (sym r) in
    let all : flat_map escaped bs ≡ piece ++ (escaped b ++ flat_map escaped rest) = run_written bs n h k ∙ ap (λ ys. ys ++ flat_map escaped (drop n bs)) (sym p) ∙ ap (λ ys. piece ++ flat_map escaped ys) split in
    let asc : ((old ++ piece) ++ escaped b) ++ (flat_map escaped rest ++ 34 ∷ []) ≡ old ++ ((piece ++ (escaped b ++ flat_map escaped rest)) ++ 34 ∷ []) = regroup old piece (escaped b) (flat_map escaped rest) in
    ap (λ ys. ys ++ (flat_map escaped rest ++ 34 ∷ [])) (w ∙ ap (λ ys. ys ++ escaped b) m) ∙ asc ∙ ap (λ ys. old ++ (ys ++ 34 ∷ [])) (sym all)

-- the same where the last byte may not have been added
pub all_written_ok : {T E : Type 0} (r : Result T E) (bs whole : List ℕ) (n : ℕ) (old middle new : List ℕ) → plain_run bs ≡ take n bs → after_plain_run bs ≡ drop n bs → n ≡ length bs → middle ≡ old ++ take n bs → OnOk r (new ≡ middle ++ 34 ∷ []) → old ++ (flat_map escaped bs ++ 34 ∷ []) ≡ whole → OnOk r (new ≡ whole)
all_written_ok (Ok x) bs whole n old middle new h k e m w f = all_written bs n (take n bs) old middle new h k e refl m w ∙ f
all_written_ok (Err x) bs whole n old middle new h k e m w f = tt

-- a slice up to the end
pub rest_of_slice : (bs : List ℕ) (k : ℕ) → take (length bs - k) (drop k bs) ≡ drop k bs
rest_of_slice bs k = let e : length bs - k ≡ length (drop k bs) = omega (arith, length-drop k bs) in ap (λ i. take i (drop k bs)) e ∙ take-length (drop k bs)

pub one_written_on : (bs whole : List ℕ) (n : ℕ) (old middle new : List ℕ) → plain_run bs ≡ take n bs → after_plain_run bs ≡ drop n bs → n ≤ length bs → (n ≡ length bs → ⊥) → middle ≡ old ++ take n bs → new ≡ middle ++ escaped (get_or bs n 0) → old ++ (flat_map escaped bs ++ 34 ∷ []) ≡ whole → new ++ (flat_map escaped (take (length bs - (n + 1)) (drop (n + 1) bs)) ++ 34 ∷ []) ≡ whole
one_written_on bs whole n old middle new h k le other m w f = one_written bs n (get_or bs n 0) (take n bs) (take (length bs - (n + 1)) (drop (n + 1) bs)) old middle new h k (omega arith) refl refl (rest_of_slice bs (n + 1)) m w ∙ f
