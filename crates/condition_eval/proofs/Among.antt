-- Lists of which an item is looked for.
use Rattle.std.proofs.Common.{◌≡◌, ℕ, ◌+◌, List, ◌∷◌, drop, slice_get, Some, true, ◌||◌, ap, ◌∙◌}
use Rattle.std.proofs.lemmas.List.{drop_more}
use Rattle.std.proofs.lemmas.Option.{get_or_from_slice_get, slice_get_within}
use Rattle.event_tree.specs.declared.value.Value.{Value}
use Rattle.condition_eval.specs.Values.{is_among}
use Rattle.condition_eval.proofs.EqualityLemmas.{equal_where, unequal_where}

drop_at : (ys : List Value) (i : ℕ) (y : Value) → slice_get ys i ≡ Some y → drop i ys ≡ y ∷ drop (i + 1) ys
drop_at ys i y p = drop_more ys i y (slice_get_within ys i y p) ∙ ap (λ z. z ∷ drop (i + 1) ys) (get_or_from_slice_get ys i y y p)

pub value_here : (x : Value) (ys : List Value) (i : ℕ) (y : Value) → slice_get ys i ≡ Some y → x ≡ y → is_among x (drop i ys) ≡ true
value_here x ys i y p e = ap (is_among x) (drop_at ys i y p) ∙ ap (λ b. b || is_among x (drop (i + 1) ys)) (equal_where x y e)

pub value_later : (x : Value) (ys : List Value) (i : ℕ) (y : Value) → slice_get ys i ≡ Some y → (x ≡ y → ⊥) → is_among x (drop i ys) ≡ is_among x (drop (i + 1) ys)
value_later x ys i y p n = ap (is_among x) (drop_at ys i y p) ∙ ap (λ b. b || is_among x (drop (i + 1) ys)) (unequal_where x y n)
