-- Fates one by one, for the invariants of loops that say what the rest still makes.
use Rattle.std.proofs.Common.{◌≡◌, ◌<◌, ◌≤◌, ℕ, ◌+◌, List, [], ◌∷◌, ◌++◌, length, drop, get_or, map, refl, sym, ap, ap₂, ◌∙◌, ◌⊎◌, inl, inr, min, Bool, true, false, Option, Some, None, append_assoc, arith}
use Rattle.std.specs.Prelude.{nat_le, option_map}
use Rattle.std.proofs.lemmas.Bool.Decides.{nat_tests}
use Rattle.std.proofs.lemmas.List.{drop_more, drop_all, append-nil}
use Rattle.foreign_parts.specs.declared.output.Fate.{Fate}
use Rattle.foreign_parts.specs.Delivering.{taken}
use Rattle.foreign_parts.specs.declared.output.Fate.TheVariants as fate
use Rattle.bulk_replies.specs.declared.item_result.ItemResult.{ItemResult}
use Rattle.event_tree.specs.Events.{Ev}
use Rattle.out_bulk.specs.Fates.{Settled, all_settled, filled, held_of, left_of, next_of, settled_by}

-- the rest of a list at a place
front : {X : Type 0} (xs : List X) (i : ℕ) (x : X) → i < length xs → x ≡ get_or xs i x → drop i xs ≡ x ∷ drop (i + 1) xs
front xs i x below is = drop_more xs i x below ∙ ap (λ y. y ∷ drop (i + 1) xs) (sym is)

-- all are settled
abbrev pub behind : List Fate → Option (List Fate) → Option (List Fate)
behind fates rest = option_map (λ more. fates ++ more) rest

regroup : (fates : List Fate) (f : Fate) (rest : Option (List Fate)) → behind fates (option_map (λ more. f ∷ more) rest) ≡ behind (fates ++ f ∷ []) rest
regroup fates f None = refl
regroup fates f (Some more) = ap Some (sym (append_assoc fates (f ∷ []) more))

plain : (rest : Option (List Fate)) → behind [] rest ≡ rest
plain None = refl
plain (Some more) = refl

module _ (xs : Settled) (i : ℕ) where
  abbrev pub SettledSoFar : List Fate → Type 0
  SettledSoFar fates = all_settled xs ≡ behind fates (all_settled (drop i xs))

  pub settled_more : (x : Option Fate) (fates : List Fate) (f : Fate) → i < length xs → x ≡ get_or xs i x → SettledSoFar fates → x ≡ Some f → all_settled xs ≡ behind (fates ++ f ∷ []) (all_settled (drop (i + 1) xs))
  settled_more x fates f below is so_far here = so_far ∙ ap (λ ys. behind fates (all_settled ys)) (front xs i x below is ∙ ap (λ y. y ∷ drop (i + 1) xs) here) ∙ regroup fates f (all_settled (drop (i + 1) xs))

  pub settled_none : (x : Option Fate) (fates : List Fate) → i < length xs → x ≡ get_or xs i x → SettledSoFar fates → x ≡ None → None ≡ all_settled xs
  settled_none x fates below is so_far here = sym (so_far ∙ ap (λ ys. behind fates (all_settled ys)) (front xs i x below is ∙ ap (λ y. y ∷ drop (i + 1) xs) here))

  pub settled_end : (fates : List Fate) → length xs ≤ i → SettledSoFar fates → Some fates ≡ all_settled xs
  settled_end fates end so_far = sym (so_far ∙ ap (λ ys. behind fates (all_settled ys)) (drop_all i xs end) ∙ ap Some (append-nil fates))

pub settled_start : (xs : Settled) (fates : List Fate) → fates ≡ [] → SettledSoFar xs 0 fates
settled_start xs fates is = sym (ap (λ fs. behind fs (all_settled xs)) is ∙ plain (all_settled xs))

pub ruleset settling = (settled_start, settled_more, settled_none, settled_end)

-- fates that are filled in
step : (x : Option Fate) (fs news : Settled) → filled (x ∷ fs) news ≡ next_of x news ∷ filled fs (left_of x news)
step (Some f) fs news = refl
step None fs news = refl

module _ (xs : Settled) (i : ℕ) (whole : Settled) where
  abbrev pub FilledSoFar : Settled → Settled → Type 0
  FilledSoFar all news = whole ≡ all ++ filled (drop i xs) news

  pub filled_more : (x : Option Fate) (all news rest : Settled) (y : Option Fate) → i < length xs → x ≡ get_or xs i x → FilledSoFar all news → y ≡ next_of x news → rest ≡ left_of x news → whole ≡ (all ++ y ∷ []) ++ filled (drop (i + 1) xs) rest
  filled_more x all news rest y below is so_far here left =
      so_far ∙ ap (λ ys. all ++ filled ys news) (front xs i x below is) ∙ ap (λ ys. all ++ ys) (step x (drop (i + 1) xs) news ∙ ap₂ (λ z zs. z ∷ filled (drop (i + 1) xs) zs) (sym here) (sym left)) ∙ sym (append_assoc all (y ∷ []) (filled (drop (i + 1) xs) rest))

  pub filled_end : (all news : Settled) → length xs ≤ i → FilledSoFar all news → whole ≡ all ++ news
  filled_end all news end so_far = so_far ∙ ap (λ ys. all ++ filled ys news) (drop_all i xs end)

-- and what is added behind them
module _ (ss : List ItemResult) (i : ℕ) (whole : Settled) where
  pub left_more : (s : ItemResult) (all : Settled) (y : Option Fate) → i < length ss → s ≡ get_or ss i s → whole ≡ all ++ map settled_by (drop i ss) → y ≡ settled_by s → whole ≡ (all ++ y ∷ []) ++ map settled_by (drop (i + 1) ss)
  left_more s all y below is so_far here = so_far ∙ ap (λ xs. all ++ map settled_by xs) (front ss i s below is) ∙ ap (λ z. all ++ (z ∷ map settled_by (drop (i + 1) ss))) (sym here) ∙ sym (append_assoc all (y ∷ []) (map settled_by (drop (i + 1) ss)))

  pub left_end : (all : Settled) → length ss ≤ i → whole ≡ all ++ map settled_by (drop i ss) → all ≡ whole
  left_end all end so_far = sym (so_far ∙ ap (λ xs. all ++ map settled_by xs) (drop_all i ss end) ∙ append-nil all)

pub ruleset filling = (filled_more, filled_end, left_more, left_end)

-- the events that were taken
taken_step : (f : Fate) (fs : List Fate) (e : Ev) (es : List Ev) → taken (f ∷ fs) (e ∷ es) ≡ held_of f e ++ taken fs es
taken_step fate.Took fs e es = refl
taken_step (fate.Rejected status reason) fs e es = refl

nothing_taken : (fs : List Fate) → taken fs [] ≡ []
nothing_taken [] = refl
nothing_taken (f ∷ fs) = refl

either_end : (t : Bool) (i a b : ℕ) → nat_le a i ≡ t → min a b ≤ i → (a ≤ i) ⊎ (b ≤ i)
either_end true i a b is below = inl (grind (arith, nat_tests))
either_end false i a b is below = let past : i < a = grind (arith, nat_tests) in inr (omega arith)

module _ (fs : List Fate) (es : List Ev) (i : ℕ) where
  abbrev pub TakenSoFar : List Ev → Type 0
  TakenSoFar held = taken fs es ≡ held ++ taken (drop i fs) (drop i es)

  pub taken_more : (f : Fate) (e : Ev) (held : List Ev) → i < length fs → i < length es → f ≡ get_or fs i f → e ≡ get_or es i e → TakenSoFar held → taken fs es ≡ (held ++ held_of f e) ++ taken (drop (i + 1) fs) (drop (i + 1) es)
  taken_more f e held fates events f_is e_is so_far = so_far ∙ ap₂ (λ xs ys. held ++ taken xs ys) (front fs i f fates f_is) (front es i e events e_is) ∙ ap (λ xs. held ++ xs) (taken_step f (drop (i + 1) fs) e (drop (i + 1) es)) ∙ sym (append_assoc held (held_of f e) (taken (drop (i + 1) fs) (drop (i + 1) es)))

  end_case : (held : List Ev) → (length es ≤ i) ⊎ (length fs ≤ i) → TakenSoFar held → held ≡ taken fs es
  end_case held (inl end) so_far = sym (so_far ∙ ap (λ ys. held ++ taken (drop i fs) ys) (drop_all i es end) ∙ ap (λ ys. held ++ ys) (nothing_taken (drop i fs)) ∙ append-nil held)
  end_case held (inr end) so_far = sym (so_far ∙ ap (λ xs. held ++ taken xs (drop i es)) (drop_all i fs end) ∙ append-nil held)

  pub taken_end : (held : List Ev) → min (length es) (length fs) ≤ i → TakenSoFar held → held ≡ taken fs es
  taken_end held end so_far = end_case held (either_end (nat_le (length es) i) i (length es) (length fs) refl end) so_far

pub ruleset holding = (taken_more, taken_end)
