-- A value in which no time stands is itself with the text of each time in its place.
use Rattle.std.proofs.Common.{◌≡◌, ◌≤◌, ℕ, zero, suc, List, [], ◌∷◌, Bool, true, map, refl, sym, ap, ap₂, ◌∙◌, true≢false, arith}
use Rattle.event_tree.specs.Sound.{all_true}
use Rattle.event_tree.specs.Values.{Members, on_values, depth, items_depth, members_depth}
use Rattle.event_tree.specs.declared.value.Value.{Value}
use Rattle.event_tree.specs.declared.value.Value.TheVariants as v
use Rattle.event_tree.proofs.Depths.{depth-List, depth-Object}
use Rattle.event_tree.proofs.Folds.{IsFold, fold_is}
use Rattle.event_tree.proofs.Shapes.{Shape, is_null, is_bool, is_number, is_text, is_time, is_list, is_object, shape_of}
use Rattle.event_tree.proofs.Sounds.{first, second}
use Rattle.event_json.specs.Untimed.{untimed, timeless, timeless_step, all_values_true}
use Rattle.event_json.proofs.WrittenValues.{untimed-Null, untimed-Bool, untimed-Num, untimed-Text, untimed-List, untimed-Object}

timeless_equations : IsFold Bool timeless_step timeless
unfolding timeless
timeless_equations = fold_is Bool timeless_step

module _ (levels : ℕ) (each : (d : Value) → depth d ≤ levels → timeless d ≡ true → untimed d ≡ d) where
  items_stay : (vs : List Value) → items_depth vs ≤ levels → all_true (map timeless vs) ≡ true → map untimed vs ≡ vs
  items_stay [] shallow none = refl
  items_stay (d ∷ ds) shallow none =
      ap₂ ◌∷◌ (each d (omega (arith, shallow)) (first (timeless d) (all_true (map timeless ds)) none))
      (items_stay ds (omega (arith, shallow)) (second (timeless d) (all_true (map timeless ds)) none))

  members_stay : (ms : Members) → members_depth ms ≤ levels → all_values_true (on_values timeless ms) ≡ true → on_values untimed ms ≡ ms
  members_stay [] shallow none = refl
  members_stay (m ∷ ms) shallow none =
      ap₂ (λ (d : Value) (ns : Members). (m.0, d) ∷ ns)
      (each m.1 (omega (arith, shallow)) (first (timeless m.1) (all_values_true (on_values timeless ms)) none))
      (members_stay ms (omega (arith, shallow)) (second (timeless m.1) (all_values_true (on_values timeless ms)) none))

by_shape : (d : Value) → Shape d → timeless d ≡ true → ((vs : List Value) → d ≡ v.List vs → map untimed vs ≡ vs) → ((ms : Members) → d ≡ v.Object ms → on_values untimed ms ≡ ms) → untimed d ≡ d
by_shape d (is_null e) none items members = ap untimed e ∙ untimed-Null ∙ sym e
by_shape d (is_bool b e) none items members = ap untimed e ∙ untimed-Bool b ∙ sym e
by_shape d (is_number n e) none items members = ap untimed e ∙ untimed-Num n ∙ sym e
by_shape d (is_text s e) none items members = ap untimed e ∙ untimed-Text s ∙ sym e
by_shape d (is_time t e) none items members = absurd (true≢false (sym none ∙ ap timeless e ∙ timeless_equations.time t))
by_shape d (is_list vs e) none items members = ap untimed e ∙ untimed-List vs ∙ ap v.List (items vs e) ∙ sym e
by_shape d (is_object ms e) none items members = ap untimed e ∙ untimed-Object ms ∙ ap v.Object (members ms e) ∙ sym e

within : (levels : ℕ) (d : Value) → depth d ≤ levels → timeless d ≡ true → untimed d ≡ d
within zero d shallow none = by_shape d (shape_of d) none
    (λ vs e. absurd (omega (arith, shallow, ap depth e, depth-List vs)))
    (λ ms e. absurd (omega (arith, shallow, ap depth e, depth-Object ms)))
within (suc levels) d shallow none = by_shape d (shape_of d) none
    (λ vs e. items_stay levels (within levels) vs (omega (arith, shallow, ap depth e, depth-List vs)) (sym (timeless_equations.list vs) ∙ ap timeless (sym e) ∙ none))
    (λ ms e. members_stay levels (within levels) ms (omega (arith, shallow, ap depth e, depth-Object ms)) (sym (timeless_equations.object ms) ∙ ap timeless (sym e) ∙ none))

pub values_without_times_stay : (d : Value) → timeless d ≡ true → untimed d ≡ d
values_without_times_stay d none = within (depth d) d (omega arith) none
