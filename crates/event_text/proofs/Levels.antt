-- How a list or an object changes where a value is put into it, or taken from it, at one part.
use Rattle.std.proofs.Common.{◌≡◌, ℕ, List, [], ◌∷◌, ◌++◌, length, Option, Some, None, option_map, option_and_then, refl, sym, ap, ◌∙◌, rules, slice_get, slice_set, remove}
use Rattle.std.proofs.lemmas.Option.{same_Some, some_pair_parts}
use Rattle.plain_data.specs.Members.{get_member, set_member, insert_member, remove_member}
use Rattle.event_tree.specs.Values.{Members}
use Rattle.event_tree.specs.Paths.{list_place, step, step_in, over, change_in, cut_in, through_in}
use Rattle.event_tree.specs.declared.value.Value.{Value, out-Value, roll-Value, roll-out-Value}
use Rattle.event_tree.specs.declared.value.Value.TheOpen.{Value-F}
use Rattle.event_tree.specs.declared.value.Value.TheVariants as v

pub step-List : (p : List ℕ) (vs : List Value) → step p (v.List vs) ≡ option_and_then (λ i. slice_get vs i) (list_place p (length vs))
step-List p vs = ap (λ f. step_in p f) (v.outs-List vs)

pub step-Object : (p : List ℕ) (ms : Members) → step p (v.Object ms) ≡ get_member p ms
step-Object p ms = ap (λ f. step_in p f) (v.outs-Object ms)

-- what a change at a part makes of old
pub data Changed (p : List ℕ) (change : Value → Option Value) (made old new : Value) : Type 0 where
  set_item : (vs : List Value) (i : ℕ) (x y : Value) → old ≡ v.List vs → list_place p (length vs) ≡ Some i → slice_get vs i ≡ Some x → change x ≡ Some y → new ≡ v.List (slice_set vs i y) → Changed p change made old new
  push_item : (vs : List Value) (i : ℕ) → old ≡ v.List vs → list_place p (length vs) ≡ Some i → slice_get vs i ≡ None → new ≡ v.List (vs ++ made ∷ []) → Changed p change made old new
  set_field : (ms : Members) (x y : Value) → old ≡ v.Object ms → get_member p ms ≡ Some x → change x ≡ Some y → new ≡ v.Object (set_member p y ms) → Changed p change made old new
  insert_field : (ms : Members) → old ≡ v.Object ms → get_member p ms ≡ None → new ≡ v.Object (insert_member p made ms) → Changed p change made old new

module _ (p : List ℕ) (change : Value → Option Value) (made old new : Value) where
  change_item : (vs : List Value) (i : ℕ) (x : Value) (o : Option Value) → old ≡ v.List vs → list_place p (length vs) ≡ Some i → slice_get vs i ≡ Some x → change x ≡ o → option_map (λ y. v.List (slice_set vs i y)) o ≡ Some new → Changed p change made old new
  change_item vs i x None is e g k h = absurd (search (h, rules))
  change_item vs i x (Some y) is e g k h = set_item vs i x y is e g k (sym (same_Some (v.List (slice_set vs i y)) new h))

  change_at : (vs : List Value) (i : ℕ) (o : Option Value) → old ≡ v.List vs → list_place p (length vs) ≡ Some i → slice_get vs i ≡ o
      → over (λ e. option_map (λ x. v.List (slice_set vs i x)) (change e)) (Some (v.List (vs ++ made ∷ []))) o ≡ Some new → Changed p change made old new
  change_at vs i None is e g h = push_item vs i is e g (sym (same_Some (v.List (vs ++ made ∷ [])) new h))
  change_at vs i (Some x) is e g h = change_item vs i x (change x) is e g refl h

  change_place : (vs : List Value) (o : Option ℕ) → old ≡ v.List vs → list_place p (length vs) ≡ o
      → option_and_then (λ i. over (λ e. option_map (λ x. v.List (slice_set vs i x)) (change e)) (Some (v.List (vs ++ made ∷ []))) (slice_get vs i)) o ≡ Some new → Changed p change made old new
  change_place vs None is e h = absurd (search (h, rules))
  change_place vs (Some i) is e h = change_at vs i (slice_get vs i) is e refl h

  change_member : (ms : Members) (x : Value) (o : Option Value) → old ≡ v.Object ms → get_member p ms ≡ Some x → change x ≡ o → option_map (λ y. v.Object (set_member p y ms)) o ≡ Some new → Changed p change made old new
  change_member ms x None is g k h = absurd (search (h, rules))
  change_member ms x (Some y) is g k h = set_field ms x y is g k (sym (same_Some (v.Object (set_member p y ms)) new h))

  change_field : (ms : Members) (o : Option Value) → old ≡ v.Object ms → get_member p ms ≡ o
      → over (λ e. option_map (λ x. v.Object (set_member p x ms)) (change e)) (Some (v.Object (insert_member p made ms))) o ≡ Some new → Changed p change made old new
  change_field ms None is g h = insert_field ms is g (sym (same_Some (v.Object (insert_member p made ms)) new h))
  change_field ms (Some x) is g h = change_member ms x (change x) is g refl h

  changed_in : (f : Value-F Value) → old ≡ roll-Value f → change_in p change made f ≡ Some new → Changed p change made old new
  changed_in Value-F.Null is h = absurd (search (h, rules))
  changed_in (Value-F.Bool b) is h = absurd (search (h, rules))
  changed_in (Value-F.Num n) is h = absurd (search (h, rules))
  changed_in (Value-F.Text s) is h = absurd (search (h, rules))
  changed_in (Value-F.Time t) is h = absurd (search (h, rules))
  changed_in (Value-F.List vs) is h = change_place vs (list_place p (length vs)) (is ∙ v.rolls-List vs) refl h
  changed_in (Value-F.Object ms) is h = change_field ms (get_member p ms) (is ∙ v.rolls-Object ms) refl h

  pub changed : change_in p change made (out-Value old) ≡ Some new → Changed p change made old new
  changed h = changed_in (out-Value old) (sym (roll-out-Value old)) h

-- what is left of old where x was taken away at a part
pub data Cut (p : List ℕ) (x old new : Value) : Type 0 where
  cut_item : (vs : List Value) (i : ℕ) → old ≡ v.List vs → list_place p (length vs) ≡ Some i → slice_get vs i ≡ Some x → new ≡ v.List (remove vs i) → Cut p x old new
  cut_field : (ms : Members) → old ≡ v.Object ms → get_member p ms ≡ Some x → new ≡ v.Object (remove_member p ms) → Cut p x old new

-- the same where x was taken from within the value at the part
pub data CutThrough (p : List ℕ) (cut : Value → Option (Value × Value)) (x old new : Value) : Type 0 where
  in_item : (vs : List Value) (i : ℕ) (e y : Value) → old ≡ v.List vs → list_place p (length vs) ≡ Some i → slice_get vs i ≡ Some e → cut e ≡ Some (x, y) → new ≡ v.List (slice_set vs i y) → CutThrough p cut x old new
  in_field : (ms : Members) (e y : Value) → old ≡ v.Object ms → get_member p ms ≡ Some e → cut e ≡ Some (x, y) → new ≡ v.Object (set_member p y ms) → CutThrough p cut x old new

module _ (p : List ℕ) (x old new : Value) where
  cut_at : (vs : List Value) (i : ℕ) (o : Option Value) → old ≡ v.List vs → list_place p (length vs) ≡ Some i → slice_get vs i ≡ o → option_map {U = Value × Value} (λ e. (e, v.List (remove vs i))) o ≡ Some (x, new) → Cut p x old new
  cut_at vs i None is e g h = absurd (search (h, rules))
  cut_at vs i (Some y) is e g h = let s = some_pair_parts y x (v.List (remove vs i)) new h in cut_item vs i is e (g ∙ ap Some s.0) (sym s.1)

  cut_place : (vs : List Value) (o : Option ℕ) → old ≡ v.List vs → list_place p (length vs) ≡ o → option_and_then {U = Value × Value} (λ i. option_map {U = Value × Value} (λ e. (e, v.List (remove vs i))) (slice_get vs i)) o ≡ Some (x, new) → Cut p x old new
  cut_place vs None is e h = absurd (search (h, rules))
  cut_place vs (Some i) is e h = cut_at vs i (slice_get vs i) is e refl h

  cut_member : (ms : Members) (o : Option Value) → old ≡ v.Object ms → get_member p ms ≡ o → option_map {U = Value × Value} (λ e. (e, v.Object (remove_member p ms))) o ≡ Some (x, new) → Cut p x old new
  cut_member ms None is g h = absurd (search (h, rules))
  cut_member ms (Some y) is g h = let s = some_pair_parts y x (v.Object (remove_member p ms)) new h in cut_field ms is (g ∙ ap Some s.0) (sym s.1)

  was_cut_in : (f : Value-F Value) → old ≡ roll-Value f → cut_in p f ≡ Some (x, new) → Cut p x old new
  was_cut_in Value-F.Null is h = absurd (search (h, rules))
  was_cut_in (Value-F.Bool b) is h = absurd (search (h, rules))
  was_cut_in (Value-F.Num n) is h = absurd (search (h, rules))
  was_cut_in (Value-F.Text s) is h = absurd (search (h, rules))
  was_cut_in (Value-F.Time t) is h = absurd (search (h, rules))
  was_cut_in (Value-F.List vs) is h = cut_place vs (list_place p (length vs)) (is ∙ v.rolls-List vs) refl h
  was_cut_in (Value-F.Object ms) is h = cut_member ms (get_member p ms) (is ∙ v.rolls-Object ms) refl h

  pub was_cut : cut_in p (out-Value old) ≡ Some (x, new) → Cut p x old new
  was_cut h = was_cut_in (out-Value old) (sym (roll-out-Value old)) h

  module _ (cut : Value → Option (Value × Value)) where
    cut_in_item : (vs : List Value) (i : ℕ) (e : Value) (o : Option (Value × Value)) → old ≡ v.List vs → list_place p (length vs) ≡ Some i → slice_get vs i ≡ Some e → cut e ≡ o → option_map {U = Value × Value} (λ r. (r.0, v.List (slice_set vs i r.1))) o ≡ Some (x, new) → CutThrough p cut x old new
    cut_in_item vs i e None is at g k h = absurd (search (h, rules))
    cut_in_item vs i e (Some r) is at g k h = let s = some_pair_parts r.0 x (v.List (slice_set vs i r.1)) new h in
        in_item vs i e r.1 is at g (k ∙ ap (λ y. Some (y, r.1)) s.0) (sym s.1)

    through_at : (vs : List Value) (i : ℕ) (o : Option Value) → old ≡ v.List vs → list_place p (length vs) ≡ Some i → slice_get vs i ≡ o → option_and_then {U = Value × Value} (λ e. option_map {U = Value × Value} (λ r. (r.0, v.List (slice_set vs i r.1))) (cut e)) o ≡ Some (x, new) → CutThrough p cut x old new
    through_at vs i None is at g h = absurd (search (h, rules))
    through_at vs i (Some e) is at g h = cut_in_item vs i e (cut e) is at g refl h

    through_place : (vs : List Value) (o : Option ℕ) → old ≡ v.List vs → list_place p (length vs) ≡ o → option_and_then {U = Value × Value} (λ i. option_and_then {U = Value × Value} (λ e. option_map {U = Value × Value} (λ r. (r.0, v.List (slice_set vs i r.1))) (cut e)) (slice_get vs i)) o ≡ Some (x, new) → CutThrough p cut x old new
    through_place vs None is at h = absurd (search (h, rules))
    through_place vs (Some i) is at h = through_at vs i (slice_get vs i) is at refl h

    cut_in_field : (ms : Members) (e : Value) (o : Option (Value × Value)) → old ≡ v.Object ms → get_member p ms ≡ Some e → cut e ≡ o → option_map {U = Value × Value} (λ r. (r.0, v.Object (set_member p r.1 ms))) o ≡ Some (x, new) → CutThrough p cut x old new
    cut_in_field ms e None is g k h = absurd (search (h, rules))
    cut_in_field ms e (Some r) is g k h = let s = some_pair_parts r.0 x (v.Object (set_member p r.1 ms)) new h in
        in_field ms e r.1 is g (k ∙ ap (λ y. Some (y, r.1)) s.0) (sym s.1)

    through_field : (ms : Members) (o : Option Value) → old ≡ v.Object ms → get_member p ms ≡ o → option_and_then {U = Value × Value} (λ e. option_map {U = Value × Value} (λ r. (r.0, v.Object (set_member p r.1 ms))) (cut e)) o ≡ Some (x, new) → CutThrough p cut x old new
    through_field ms None is g h = absurd (search (h, rules))
    through_field ms (Some e) is g h = cut_in_field ms e (cut e) is g refl h

    through_level : (f : Value-F Value) → old ≡ roll-Value f → through_in p cut f ≡ Some (x, new) → CutThrough p cut x old new
    through_level Value-F.Null is h = absurd (search (h, rules))
    through_level (Value-F.Bool b) is h = absurd (search (h, rules))
    through_level (Value-F.Num n) is h = absurd (search (h, rules))
    through_level (Value-F.Text s) is h = absurd (search (h, rules))
    through_level (Value-F.Time t) is h = absurd (search (h, rules))
    through_level (Value-F.List vs) is h = through_place vs (list_place p (length vs)) (is ∙ v.rolls-List vs) refl h
    through_level (Value-F.Object ms) is h = through_field ms (get_member p ms) (is ∙ v.rolls-Object ms) refl h

    pub was_cut_through : through_in p cut (out-Value old) ≡ Some (x, new) → CutThrough p cut x old new
    was_cut_through h = through_level (out-Value old) (sym (roll-out-Value old)) h
