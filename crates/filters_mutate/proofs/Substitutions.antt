-- One more substitution of a setting, read or compiled.
use Rattle.std.proofs.Common.{◌≡◌, ℕ, ◌+◌, List, [], ◌∷◌, ◌++◌, length, drop, get_or, ◌<◌, ◌≤◌, refl, sym, ap, subst, slice_get, ◌∙◌, Bool, true, false, ◌&&◌, if◌then◌else◌, Option, None, Some, Ok, Err, append-nil, append_assoc, arith, option_map}
use Rattle.std.specs.Prelude.{option_and_then}
use Rattle.std.proofs.lemmas.List.{drop_more}
use Rattle.std.proofs.lemmas.Option.{slice_get-get_or, get_or_from_slice_get}
use Rattle.event_tree.specs.Events.{Ev}
use Rattle.event_text.proofs.Going.{with_front, front_more}
use Rattle.filter_settings.proofs.Steps.{tried_more, tried_fails}
use Rattle.filter_settings.specs.Trying.{Tried, all_tried, tried}
use Rattle.config_tree.specs.declared.fault.SettingFault.TheVariants as fault
use Rattle.pattern_box.specs.Patterns.{is_pattern}
use Rattle.filters_mutate.specs.Gsub.{substitution, substitutions, are_patterns}
use Rattle.filters_mutate.specs.Settings.{with_patterns}
use Rattle.filters_mutate.specs.declared.gsub.Substitution.{Substitution}

abbrev behind : List (List ℕ) → Option Substitution → Option (List Substitution)
behind rest one = option_and_then (λ g. option_map (λ gs. g ∷ gs) (substitutions rest)) one

module _ (found : List Substitution) (f s r : List ℕ) (rest whole : List (List ℕ)) (before : List (List ℕ)) (is : before ≡ f ∷ s ∷ r ∷ rest)
    (so_far : with_front found (substitutions before) ≡ substitutions whole) where
  step : with_front found (behind rest (substitution f s r)) ≡ substitutions whole
  step = ap (λ xs. with_front found (substitutions xs)) (sym is) ∙ so_far

  pub read_more : (g : Substitution) → Some g ≡ substitution f s r → with_front (found ++ g ∷ []) (substitutions rest) ≡ substitutions whole
  read_more g here = front_more found g (substitutions rest) ∙ ap (λ o. with_front found (behind rest o)) here ∙ step

  pub read_none : None ≡ substitution f s r → None ≡ substitutions whole
  read_none here = ap (λ o. with_front found (behind rest o)) here ∙ step

-- three more are left
pub three_more : (xs : List (List ℕ)) (i : ℕ) (d d' d'' : List ℕ) → i + 3 ≤ length xs → drop i xs ≡ get_or xs i d ∷ get_or xs (i + 1) d' ∷ get_or xs (i + 2) d'' ∷ drop (i + 3) xs
three_more xs i d d' d'' within =
    let two : i + 1 + 1 ≡ i + 2 = omega arith in
    let three : i + 2 + 1 ≡ i + 3 = omega arith in
    drop_more xs i d (omega (arith, within))
    ∙ ap (λ ys. get_or xs i d ∷ ys) (drop_more xs (i + 1) d' (omega (arith, within)) ∙ ap (λ n. get_or xs (i + 1) d' ∷ drop n xs) two)
    ∙ ap (λ ys. get_or xs i d ∷ get_or xs (i + 1) d' ∷ ys) (drop_more xs (i + 2) d'' (omega (arith, within)) ∙ ap (λ n. get_or xs (i + 2) d'' ∷ drop n xs) three)

few_left : (xs : List (List ℕ)) → 0 < length xs → length xs < 3 → substitutions xs ≡ None
few_left [] some few = absurd (omega arith)
few_left (f ∷ []) some few = refl
few_left (f ∷ s ∷ []) some few = refl
few_left (f ∷ s ∷ r ∷ rest) some few = absurd (omega arith)

-- one or two are left
pub read_few : (found : List Substitution) (before whole : List (List ℕ)) → 0 < length before → length before < 3 → with_front found (substitutions before) ≡ substitutions whole → None ≡ substitutions whole
read_few found before whole some few so_far = ap (with_front found) (sym (few_left before some few)) ∙ so_far

pub read_end : (found : List Substitution) (before whole : List (List ℕ)) → before ≡ [] → with_front found (substitutions before) ≡ substitutions whole → Some found ≡ substitutions whole
read_end found before whole none so_far = ap Some (sym (append-nil found)) ∙ ap (λ xs. with_front found (substitutions xs)) (sym none) ∙ so_far

-- the patterns of the first were made, and these are left
pub all_made : (k : List ℕ) (made left says : List Substitution) → left ≡ [] → made ++ left ≡ says → are_patterns left ≡ are_patterns says → with_patterns k says ≡ Ok made
all_made k made left says none whole patterns =
    let same : made ≡ says = sym (append-nil made) ∙ ap (λ xs. made ++ xs) (sym none) ∙ whole in
    let fine : are_patterns says ≡ true = sym patterns ∙ ap are_patterns none in
    ap (λ t. if t then Ok says else Err (fault.BadPattern k)) fine ∙ ap Ok (sym same)

pub one_refused : (k : List ℕ) (g : Substitution) (left rest says : List Substitution) → left ≡ g ∷ rest → are_patterns left ≡ are_patterns says → is_pattern g.pattern ≡ false → with_patterns k says ≡ Err (fault.BadPattern k)
one_refused k g left rest says is patterns refused =
    let fails : are_patterns says ≡ false = sym patterns ∙ ap are_patterns is ∙ ap (λ t. t && are_patterns rest) refused in
    ap (λ t. if t then Ok says else Err (fault.BadPattern k)) fails

pub one_made : (g : Substitution) (left rest says : List Substitution) → left ≡ g ∷ rest → are_patterns left ≡ are_patterns says → is_pattern g.pattern ≡ true → are_patterns rest ≡ are_patterns says
one_made g left rest says is patterns made = ap (λ t. t && are_patterns rest) (sym made) ∙ ap are_patterns (sym is) ∙ patterns

-- what is done with the one at a place of a list
module _ {X : Type 0} (f : X → Ev → Tried) (d : X) (xs : List X) (i : ℕ) (e e' e0 : Ev) (fine : Bool) (below : i < length xs)
    (so_far : all_tried f (drop i xs) e ≡ all_tried f xs e0) (done : (x : X) → slice_get xs i ≡ Some x → tried fine e' ≡ f x e) where
  here : tried fine e' ≡ f (get_or xs i d) e
  here = done (get_or xs i d) (slice_get-get_or xs i d below)

  same : get_or xs i d ≡ get_or xs i (get_or xs i d)
  same = sym (get_or_from_slice_get xs i (get_or xs i d) (get_or xs i d) (slice_get-get_or xs i d below))

  pub one_more : fine ≡ true → all_tried f (drop (i + 1) xs) e' ≡ all_tried f xs e0
  one_more well = tried_more f xs i (get_or xs i d) e e' e0 below same so_far (sym (ap (λ b. tried b e') well) ∙ here)

  pub one_fails : fine ≡ false → Err e' ≡ all_tried f xs e0
  one_fails ill = tried_fails f xs i (get_or xs i d) e e' e0 below same so_far (sym (ap (λ b. tried b e') ill) ∙ here)

pub one_at : {X : Type 0} (xs : List X) (i : ℕ) → i < length xs → X
one_at [] i below = absurd (omega arith)
one_at (x ∷ xs) i below = x
