-- One thing after another, up to the first that fails: one step, for the invariant of a loop that says what the rest still does.
use Rattle.std.proofs.Common.{◌≡◌, ℕ, ◌+◌, ◌<◌, ◌≤◌, List, length, drop, get_or, sym, ap, ◌∙◌, Ok, Err}
use Rattle.event_tree.specs.Events.{Ev}
use Rattle.event_text.proofs.Going.{front, behind_end, each_more, each_none, each_end}
use Rattle.filter_settings.specs.Trying.{Tried, all_tried, then_try}

module _ {X : Type 0} (f : X → Ev → Tried) (xs : List X) (i : ℕ) where
  pub tried_more : (x : X) (e e' e0 : Ev) → i < length xs → x ≡ get_or xs i x → all_tried f (drop i xs) e ≡ all_tried f xs e0 → Ok e' ≡ f x e → all_tried f (drop (i + 1) xs) e' ≡ all_tried f xs e0
  tried_more x e e' e0 below is so_far here = ap (then_try (all_tried f (drop (i + 1) xs))) here ∙ ap (λ ys. all_tried f ys e) (sym (front xs i x below is)) ∙ so_far

  pub tried_fails : (x : X) (e e' e0 : Ev) → i < length xs → x ≡ get_or xs i x → all_tried f (drop i xs) e ≡ all_tried f xs e0 → Err e' ≡ f x e → Err e' ≡ all_tried f xs e0
  tried_fails x e e' e0 below is so_far here = ap (then_try (all_tried f (drop (i + 1) xs))) here ∙ ap (λ ys. all_tried f ys e) (sym (front xs i x below is)) ∙ so_far

  pub tried_end : (e e0 : Ev) → length xs ≤ i → all_tried f (drop i xs) e ≡ all_tried f xs e0 → Ok e ≡ all_tried f xs e0
  tried_end e e0 end so_far = ap (λ ys. all_tried f ys e) (sym (behind_end xs i end)) ∙ so_far

pub ruleset trying = (tried_more, tried_fails, tried_end)

-- what each of a list is read as, up to the first that isn't
pub ruleset each = (each_more, each_none, each_end)
