-- Which records are kept, and that the last segment with them has a length.
use Rattle.std.proofs.Common.{◌≡◌, ◌≢◌, ◌⊎◌, inl, inr, ⊎_elim, ℕ, suc, ◌+◌, ◌-◌, ◌<◌, ◌≤◌, ◌^◌, ◌==◌, ◌&&◌, true, false, List, [], ◌∷◌, length, map, drop, get_or, refl, sym, ap, ◌∙◌, subst, arith}
use Rattle.std.specs.Prelude.{nat_le, nat_lt}
use Rattle.std.specs.List.{sum}
use Rattle.std.proofs.lemmas.Bool.{cond-true, cond-false, cases_Bool, eq-eqb, eqb-true, ne_eqb, and_parts, and_from, false≢true}
use Rattle.std.proofs.lemmas.Bool.Decides.{nat_tests}
use Rattle.std.proofs.lemmas.List.{drop_more, drop_all, drop-drop}
use Rattle.std.proofs.lemmas.List.Sums.{sum_by-drop_more, sum_by-take-drop}
use Rattle.settings_lines.specs.declared.settings.Policy.{Policy}
use Rattle.settings_lines.specs.declared.settings.Policy.TheVariants.{Hold, DropNewer, DropOlder}
use Rattle.dead_letters.specs.Shedding.{fits_all, older, not_kept, shed}
use Rattle.dead_letters.specs.Appends.{kept_from}
use Rattle.dead_letters.specs.declared.shedding.Shedding.{Shedding}
use Rattle.dead_letters.proofs.Sheds.{sum_cons, sheds_none, sheds, fewest_segments_leave}

-- ---- places

pub kept_here : {X : Type 0} (places : List ℕ) (at : ℕ) (x : X) (xs : List X) → ((p : ℕ) (rest : List ℕ) → places ≡ p ∷ rest → p ≢ at) → kept_from places at (x ∷ xs) ≡ x ∷ kept_from places (suc at) xs
kept_here [] at x xs other = refl
kept_here (p ∷ places) at x xs other = cond-false _ _ _ (ne_eqb p at (other p places refl))

pub kept_not : {X : Type 0} (places : List ℕ) (at : ℕ) (x : X) (xs : List X) → kept_from (at ∷ places) at (x ∷ xs) ≡ kept_from places (suc at) xs
kept_not places at x xs = cond-true _ _ _ (eq-eqb at at refl)

-- a loop over items has passed so many places
module _ {X : Type 0} (places : List ℕ) (i at : ℕ) (x : X) (xs : List X) where
  pub kept_stays : (nat_lt i (length places) && (get_or places i 0 == at)) ≡ false → kept_from (drop i places) at (x ∷ xs) ≡ x ∷ kept_from (drop i places) (at + 1) xs
  kept_stays not_next =
      let next : suc at ≡ at + 1 = omega arith in
      kept_here (drop i places) at x xs (λ p rest is. other p rest is) ∙ ap (λ n. x ∷ kept_from (drop i places) n xs) next
    where
      other : (p : ℕ) (rest : List ℕ) → drop i places ≡ p ∷ rest → p ≢ at
      other p rest is = elim (cases_Bool (nat_lt i (length places))) [
        | inl less ↦
            let within : i < length places = grind (arith, nat_tests, less) in
            let head : get_or places i 0 ≡ p = ap (λ l. get_or l 0 0) (sym (drop_more places i 0 within) ∙ is) in
            λ same. absurd (false≢true (sym not_next ∙ and_from _ _ less (eq-eqb _ _ (head ∙ same))))
        | inr not_less ↦
            let past : length places ≤ i = grind (arith, nat_tests, not_less) in
            λ same. omega (arith, ap length (sym (drop_all i places past) ∙ is))
      ]

  pub kept_goes : (nat_lt i (length places) && (get_or places i 0 == at)) ≡ true → kept_from (drop i places) at (x ∷ xs) ≡ kept_from (drop (i + 1) places) (at + 1) xs
  kept_goes next =
      let both = and_parts (nat_lt i (length places)) (get_or places i 0 == at) next in
      let test = both.0 in
      let within : i < length places = grind (arith, nat_tests, test) in
      let here : get_or places i 0 ≡ at = eqb-true _ _ both.1 in
      let number : suc at ≡ at + 1 = omega arith in
      ap (λ l. kept_from l at (x ∷ xs)) (drop_more places i 0 within ∙ ap (λ p. p ∷ drop (i + 1) places) here) ∙ kept_not (drop (i + 1) places) at x xs ∙ ap (λ n. kept_from (drop (i + 1) places) n xs) number

pub kept_none : {X : Type 0} (places : List ℕ) (at : ℕ) (xs : List X) → xs ≡ [] → kept_from places at xs ≡ []
kept_none places at xs none = ap (kept_from places at) none ∙ by places
  where
    by : {X : Type 0} (ps : List ℕ) → kept_from {X = X} ps at [] ≡ []
    by [] = refl
    by (p ∷ ps) = refl

pub kept_map : {X Y : Type 0} (f : X → Y) (places : List ℕ) (at : ℕ) (xs : List X) → map f (kept_from places at xs) ≡ kept_from places at (map f xs)
kept_map f [] at xs = refl
kept_map f (p ∷ places) at [] = refl
kept_map f (p ∷ places) at (x ∷ xs) = elim (cases_Bool (p == at)) [
  | inl is ↦ ap (map f) (cond-true _ _ _ is) ∙ kept_map f places (suc at) xs ∙ sym (cond-true _ _ _ is)
  | inr is_not ↦ ap (map f) (cond-false _ _ _ is_not) ∙ ap (λ l. f x ∷ l) (kept_map f (p ∷ places) (suc at) xs) ∙ sym (cond-false _ _ _ is_not)
]

-- ---- room

not_kept_above : (limit used at : ℕ) (rs : List ℕ) (p : ℕ) (rest : List ℕ) → not_kept limit used at rs ≡ p ∷ rest → at ≤ p
not_kept_above limit used at [] p rest is = absurd (none_some p rest is)
  where
    none_some : (p : ℕ) (rest : List ℕ) → [] ≡ p ∷ rest → ⊥
    none_some p rest e = omega (arith, ap length e)
not_kept_above limit used at (r ∷ rs) p rest is = elim (cases_Bool (nat_le (used + r) limit)) [
  | inl fits ↦ let more = not_kept_above limit (used + r) (suc at) rs p rest (sym (cond-true _ _ _ fits) ∙ is) in omega (arith, more)
  | inr fits_not ↦ let same : at ∷ not_kept limit used (suc at) rs ≡ p ∷ rest = sym (cond-false _ _ _ fits_not) ∙ is in omega (arith, ap (λ l. get_or l 0 0) same)
]

-- what is kept is within the limit, or nothing of it has a byte
pub kept_within : (limit used at : ℕ) (rs : List ℕ) → (sum (kept_from (not_kept limit used at rs) at rs) ≡ 0) ⊎ (used + sum (kept_from (not_kept limit used at rs) at rs) ≤ limit)
kept_within limit used at [] = inl refl
kept_within limit used at (r ∷ rs) = elim (cases_Bool (nat_le (used + r) limit)) [
  | inl fits ↦
      let few : used + r ≤ limit = grind (arith, nat_tests, fits) in
      let places = not_kept limit (used + r) (suc at) rs in
      let is : kept_from (not_kept limit used at (r ∷ rs)) at (r ∷ rs) ≡ r ∷ kept_from places (suc at) rs =
      ap (λ l. kept_from l at (r ∷ rs)) (cond-true _ _ _ fits) ∙ kept_here places at r rs (λ p rest e same. (let low = not_kept_above limit (used + r) (suc at) rs p rest e in omega (arith, low, same))) in
      let all = ap sum is ∙ sum_cons r (kept_from places (suc at) rs) in
      ⊎_elim (λ none. inr (omega (arith, none, all, few))) (λ some. inr (omega (arith, some, all))) (kept_within limit (used + r) (suc at) rs)
  | inr fits_not ↦
      let is : kept_from (not_kept limit used at (r ∷ rs)) at (r ∷ rs) ≡ kept_from (not_kept limit used (suc at) rs) (suc at) rs =
      ap (λ l. kept_from l at (r ∷ rs)) (cond-false _ _ _ fits_not) ∙ kept_not (not_kept limit used (suc at) rs) at r rs in
      subst (λ l. (sum l ≡ 0) ⊎ (used + sum l ≤ limit)) (sym is) (kept_within limit used (suc at) rs)
]

-- ---- what is shed

module _ (policy : Policy) (limit : ℕ) (segments records : List ℕ) (some : 0 < length segments) where
  older_less : (p : Policy) → older p limit (sum records) segments < length segments
  older_less DropOlder = (fewest_segments_leave limit (sum records) segments).one_stays (λ none. omega (arith, ap length none, some))
  older_less DropNewer = some
  older_less Hold = some

  -- a segment stays
  pub one_stays : (shed policy limit segments records).older < length segments
  one_stays = elim (cases_Bool (fits_all limit segments records)) [
    | inl fits ↦ subst (λ (s : Shedding). s.older < length segments) (sheds_none policy limit segments records fits) some
    | inr fits_not ↦ subst (λ (s : Shedding). s.older < length segments) (sheds policy limit segments records fits_not (older policy limit (sum records) segments) refl) (older_less policy)
  ]

  last_within : (k : ℕ) → k < length segments → get_or segments (length segments - 1) 0 ≤ sum (drop k segments)
  last_within k less =
      let at : k + (length segments - 1 - k) ≡ length segments - 1 = omega (arith, less, some) in
      let parts = sum_by-take-drop (λ x. x) (drop k segments) (length segments - 1 - k) in
      let tail : sum (drop (length segments - 1 - k) (drop k segments)) ≡ sum (drop (length segments - 1) segments) = ap sum (drop-drop (length segments - 1 - k) k segments ∙ ap (λ n. drop n segments) at) in
      let one = sum_by-drop_more (λ x. x) segments (length segments - 1) 0 (omega (arith, some)) in
      omega (arith, parts, tail, one)

  -- the last segment has a length with all records that are kept
  pub last_fits : limit < 2 ^ 64 → get_or segments (length segments - 1) 0 < 2 ^ 64 → get_or segments (length segments - 1) 0 + sum (kept_from (shed policy limit segments records).newer 0 records) < 2 ^ 64
  last_fits limit_fits fits_last = elim (cases_Bool (fits_all limit segments records)) [
    | inl fits ↦
        let few : sum segments + sum records ≤ limit = grind (arith, nat_tests, fits) in
        subst (λ (s : Shedding). get_or segments (length segments - 1) 0 + sum (kept_from s.newer 0 records) < 2 ^ 64) (sheds_none policy limit segments records fits)
        (omega (arith, few, limit_fits, last_within 0 some))
    | inr fits_not ↦
        let k = older policy limit (sum records) segments in
        let last = last_within k (older_less policy) in
        subst (λ (s : Shedding). get_or segments (length segments - 1) 0 + sum (kept_from s.newer 0 records) < 2 ^ 64) (sheds policy limit segments records fits_not k refl)
        (⊎_elim (λ none. omega (arith, none, fits_last)) (λ within. omega (arith, within, limit_fits, last)) (kept_within limit (sum (drop k segments)) 0 records))
  ]
