-- What is shed, by what is left of a list.
use Rattle.std.proofs.Common.{◌≡◌, inl, inr, ⊎_elim, ℕ, zero, suc, ◌+◌, ◌<◌, ◌≤◌, true, false, List, [], ◌∷◌, length, take, drop, get_or, refl, sym, ap, subst, ◌∙◌, arith, length-drop}
use Rattle.std.specs.Prelude.{nat_le, fold}
use Rattle.std.specs.List.{sum}
use Rattle.std.proofs.lemmas.Bool.{cond-true, cond-false, cases_Bool}
use Rattle.std.proofs.lemmas.Bool.Decides.{nat_tests}
use Rattle.std.proofs.lemmas.List.{drop_more}
use Rattle.settings_lines.specs.declared.settings.Policy.{Policy}
use Rattle.dead_letters.specs.Shedding.{shedding, fewest, older, not_kept, shed, IsFewest, FewestSegmentsLeave}

-- ---- sums

fold_from : (start : ℕ) (sizes : List ℕ) → fold ◌+◌ start sizes ≡ start + sum sizes
fold_from start [] = omega arith
fold_from start (s ∷ rest) = fold_from (start + s) rest ∙ (let more = fold_from (0 + s) rest in omega (arith, more))

pub sum_cons : (s : ℕ) (rest : List ℕ) → sum (s ∷ rest) ≡ s + sum rest
sum_cons s rest = fold_from (0 + s) rest ∙ omega arith

pub sum_left : (sizes : List ℕ) (i : ℕ) → i < length sizes → sum (drop i sizes) ≡ get_or sizes i 0 + sum (drop (i + 1) sizes)
sum_left sizes i less = ap sum (drop_more sizes i 0 less) ∙ sum_cons (get_or sizes i 0) (drop (i + 1) sizes)

pub sum_split : (sizes : List ℕ) (i : ℕ) → sum (take i sizes) + sum (drop i sizes) ≡ sum sizes
sum_split sizes zero = omega arith
sum_split [] (suc i) = refl
sum_split (s ∷ rest) (suc i) = let more = sum_split rest i in omega (arith, more, sum_cons s (take i rest), sum_cons s rest)

-- the sum so far, and one size more
pub sum_more : (sizes : List ℕ) (i : ℕ) → i < length sizes → sum (take (i + 1) sizes) ≡ sum (take i sizes) + get_or sizes i 0
sum_more sizes i less = omega (arith, sum_split sizes i, sum_split sizes (i + 1), sum_left sizes i less)

pub sum_within : (sizes : List ℕ) (i : ℕ) → i < length sizes → sum (take i sizes) + get_or sizes i 0 ≤ sum sizes
sum_within sizes i less = omega (arith, sum_split sizes i, sum_left sizes i less)

-- ---- segments

module _ (limit added : ℕ) where
  stops : (segments : List ℕ) → sum segments + added ≤ limit → fewest limit added segments ≡ 0
  unfolding fewest
  stops [] few = refl
  stops (s ∷ []) few = refl
  stops (s ∷ t ∷ rest) few = let test : nat_le (sum (s ∷ t ∷ rest) + added) limit ≡ true = grind (arith, nat_tests, few) in cond-true _ _ _ test

  goes : (s : ℕ) (rest : List ℕ) → 0 < length rest → limit < sum (s ∷ rest) + added → fewest limit added (s ∷ rest) ≡ suc (fewest limit added rest)
  unfolding fewest
  goes s [] some many = absurd (omega (arith, some))
  goes s (t ∷ rest) some many = let test : nat_le (sum (s ∷ t ∷ rest) + added) limit ≡ false = grind (arith, nat_tests, many) in cond-false _ _ _ test

  one : (segments : List ℕ) → length segments ≤ 1 → fewest limit added segments ≡ 0
  unfolding fewest
  one [] few = refl
  one (s ∷ []) few = refl
  one (s ∷ t ∷ rest) few = absurd (omega (arith, few))

  -- a loop has i segments behind it
  module _ (segments : List ℕ) (i : ℕ) where
    pub segments_stop : i < length segments → sum (drop i segments) + added ≤ limit → i + fewest limit added (drop i segments) ≡ i
    segments_stop less few = ap (λ k. i + k) (stops (drop i segments) few) ∙ omega arith

    pub segments_end : length segments ≤ i + 1 → i + fewest limit added (drop i segments) ≡ i
    segments_end last = ap (λ k. i + k) (one (drop i segments) (omega (arith, last, length-drop i segments))) ∙ omega arith

    pub segments_go : i + 1 < length segments → limit < sum (drop i segments) + added → i + fewest limit added (drop i segments) ≡ i + 1 + fewest limit added (drop (i + 1) segments)
    segments_go more many =
        let cut = drop_more segments i 0 (omega (arith, more)) in
        let step = goes (get_or segments i 0) (drop (i + 1) segments) (omega (arith, more, length-drop (i + 1) segments)) (subst (λ l. limit < sum l + added) cut many) in
        ap (λ l. i + fewest limit added l) cut ∙ ap (λ k. i + k) step ∙ omega arith

  -- ---- the least number

  least : (segments : List ℕ) → IsFewest limit added segments (fewest limit added segments)
  least [] = subst (IsFewest limit added []) (sym (one [] (omega arith))) (record { one_stays = λ some. absurd (some refl); enough = inr (omega arith); no_fewer = λ j less. absurd (omega (arith, less)) })
  least (s ∷ []) = subst (IsFewest limit added (s ∷ [])) (sym (one (s ∷ []) (omega arith))) (record { one_stays = λ some. omega arith; enough = inr (omega arith); no_fewer = λ j less. absurd (omega (arith, less)) })
  least (s ∷ t ∷ rest) = by_test (least (t ∷ rest))
    where
      by_test : IsFewest limit added (t ∷ rest) (fewest limit added (t ∷ rest)) → IsFewest limit added (s ∷ t ∷ rest) (fewest limit added (s ∷ t ∷ rest))
      by_test behind = elim (cases_Bool (nat_le (sum (s ∷ t ∷ rest) + added) limit)) [
        | inl fits ↦
            let few : sum (s ∷ t ∷ rest) + added ≤ limit = grind (arith, nat_tests, fits) in
            subst (IsFewest limit added (s ∷ t ∷ rest)) (sym (stops (s ∷ t ∷ rest) few)) (record { one_stays = λ some. omega arith; enough = inl few; no_fewer = λ j less. absurd (omega (arith, less)) })
        | inr not_fits ↦
            let many : limit < sum (s ∷ t ∷ rest) + added = grind (arith, nat_tests, not_fits) in
            subst (IsFewest limit added (s ∷ t ∷ rest)) (sym (goes s (t ∷ rest) (omega arith) many)) (record {
              one_stays = λ some. (let b = behind.one_stays (λ none. absurd (cons_none t rest none)) in omega (arith, b));
              enough = ⊎_elim (λ e. inl e) (λ e. inr (omega (arith, e))) behind.enough;
              no_fewer = fewer behind many;
            })
      ]
        where
          cons_none : (x : ℕ) (xs : List ℕ) → x ∷ xs ≡ [] → ⊥
          cons_none x xs e = omega (arith, ap length e)

          fewer : IsFewest limit added (t ∷ rest) (fewest limit added (t ∷ rest)) → limit < sum (s ∷ t ∷ rest) + added → (j : ℕ) → j < suc (fewest limit added (t ∷ rest)) → limit < sum (drop j (s ∷ t ∷ rest)) + added
          fewer b many zero less = many
          fewer b many (suc j) less = b.no_fewer j (omega (arith, less))

pub fewest_segments_leave : FewestSegmentsLeave
fewest_segments_leave limit added segments = least limit added segments

-- ---- records

module _ (limit used : ℕ) (records : List ℕ) (i : ℕ) (less : i < length records) where
  pub record_kept : used + get_or records i 0 ≤ limit → not_kept limit used i (drop i records) ≡ not_kept limit (used + get_or records i 0) (i + 1) (drop (i + 1) records)
  record_kept few =
      let test : nat_le (used + get_or records i 0) limit ≡ true = grind (arith, nat_tests, few) in
      let next : suc i ≡ i + 1 = omega arith in
      ap (not_kept limit used i) (drop_more records i 0 less) ∙ cond-true _ _ _ test ∙ ap (λ k. not_kept limit (used + get_or records i 0) k (drop (i + 1) records)) next

  pub record_left : limit < used + get_or records i 0 → not_kept limit used i (drop i records) ≡ i ∷ not_kept limit used (i + 1) (drop (i + 1) records)
  record_left many =
      let test : nat_le (used + get_or records i 0) limit ≡ false = grind (arith, nat_tests, many) in
      let next : suc i ≡ i + 1 = omega arith in
      ap (not_kept limit used i) (drop_more records i 0 less) ∙ cond-false _ _ _ test ∙ ap (λ k. i ∷ not_kept limit used k (drop (i + 1) records)) next

-- ---- all of it

module _ (policy : Policy) (limit : ℕ) (segments records : List ℕ) where
  pub sheds_none : nat_le (sum segments + sum records) limit ≡ true → shedding 0 [] ≡ shed policy limit segments records
  unfolding shed
  sheds_none fits = sym (cond-true _ _ _ fits)

  pub sheds : nat_le (sum segments + sum records) limit ≡ false → (k : ℕ) → k ≡ older policy limit (sum records) segments → shedding k (not_kept limit (sum (drop k segments)) 0 records) ≡ shed policy limit segments records
  unfolding shed
  sheds not_fits k is = ap (λ n. shedding n (not_kept limit (sum (drop n segments)) 0 records)) is ∙ sym (cond-false _ _ _ not_fits)
