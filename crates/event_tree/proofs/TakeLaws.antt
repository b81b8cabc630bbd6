-- What take does to depth and to what holds of each part.
use Rattle.std.proofs.Common.{◌≡◌, ℕ, ◌≤◌, List, [], ◌∷◌, length, true, Option, Some, None, option_map, option_and_then, refl, sym, subst, ◌∙◌, arith, rules, slice_get, slice_set, remove}
use Rattle.std.proofs.lemmas.Option.{some_pair_parts}
use Rattle.plain_data.specs.Members.{get_member, set_member, remove_member}
use Rattle.event_tree.specs.Values.{Members, depth}
use Rattle.event_tree.specs.Sound.{sound}
use Rattle.event_tree.specs.Paths.{list_place, cut_in, through_in, take}
use Rattle.event_tree.specs.Events.{IsObject}
use Rattle.event_tree.specs.declared.value.Value.{Value, out-Value, roll-Value, roll-out-Value}
use Rattle.event_tree.specs.declared.value.Value.TheOpen.{Value-F}
use Rattle.event_tree.specs.declared.value.Value.TheVariants as v
use Rattle.event_tree.proofs.Depths.{depth-List, depth-Object}
use Rattle.event_tree.proofs.DepthLemmas.{items_depth-get, items_depth-set, items_depth-remove, members_depth-get, members_depth-set, members_depth-remove}
use Rattle.event_tree.proofs.Sounds.{sound-List, items_sound-get, items_sound-set, items_sound-remove, sound-get_member, sound-set_member, sound-remove_member}
use Rattle.event_tree.proofs.PutLaws.{list_no_object}

-- what stays where something is taken from old and new is left
pub record Kept (old new : Value) : Type 0 where
  pub shallow : depth new ≤ depth old
  pub kept : sound old ≡ true → sound new ≡ true
  pub object : IsObject old → IsObject new

cut_item : (vs : List Value) (i : ℕ) (x : Value) → slice_get vs i ≡ Some x → Kept (v.List vs) (v.List (remove vs i))
cut_item vs i x g = record {
  shallow = omega (arith, depth-List vs, depth-List (remove vs i), items_depth-remove vs i x g);
  kept = λ b. sound-List (remove vs i) ∙ items_sound-remove vs i x (sym (sound-List vs) ∙ b) g;
  object = λ o. list_no_object vs o.0 o.1;
}

cut_field : (p : List ℕ) (ms : Members) → Kept (v.Object ms) (v.Object (remove_member p ms))
cut_field p ms = record {
  shallow = omega (arith, depth-Object ms, depth-Object (remove_member p ms), members_depth-remove p ms);
  kept = λ b. sound-remove_member p ms b;
  object = λ o. (remove_member p ms, refl);
}

through_item : (vs : List Value) (i : ℕ) (x y : Value) → slice_get vs i ≡ Some x → Kept x y → Kept (v.List vs) (v.List (slice_set vs i y))
through_item vs i x y g k = record {
  shallow = omega (arith, depth-List vs, depth-List (slice_set vs i y), (items_depth-set vs i x y g).1, items_depth-get vs i x g, k.shallow);
  kept = λ b. sound-List (slice_set vs i y) ∙ items_sound-set vs i y (sym (sound-List vs) ∙ b) (k.kept (items_sound-get vs i x (sym (sound-List vs) ∙ b) g));
  object = λ o. list_no_object vs o.0 o.1;
}

through_field : (p : List ℕ) (ms : Members) (x y : Value) → get_member p ms ≡ Some x → Kept x y → Kept (v.Object ms) (v.Object (set_member p y ms))
through_field p ms x y g k = record {
  shallow = omega (arith, depth-Object ms, depth-Object (set_member p y ms), (members_depth-set p ms x y g).1, members_depth-get p ms x g, k.shallow);
  kept = λ b. sound-set_member p ms y b (k.kept (sound-get_member p ms x b g));
  object = λ o. (set_member p y ms, refl);
}

module _ (p : List ℕ) (x new : Value) where
  cut_at_item : (vs : List Value) (i : ℕ) (o : Option Value) → slice_get vs i ≡ o → option_map {U = Value × Value} (λ e. (e, v.List (remove vs i))) o ≡ Some (x, new) → Kept (v.List vs) new
  cut_at_item vs i None g h = absurd (search (h, rules))
  cut_at_item vs i (Some e) g h = subst (Kept (v.List vs)) (some_pair_parts e x (v.List (remove vs i)) new h).1 (cut_item vs i e g)

  cut_at_place : (vs : List Value) (o : Option ℕ) → option_and_then {U = Value × Value} (λ i. option_map {U = Value × Value} (λ e. (e, v.List (remove vs i))) (slice_get vs i)) o ≡ Some (x, new) → Kept (v.List vs) new
  cut_at_place vs None h = absurd (search (h, rules))
  cut_at_place vs (Some i) h = cut_at_item vs i (slice_get vs i) refl h

  cut_at_field : (ms : Members) (o : Option Value) → option_map {U = Value × Value} (λ e. (e, v.Object (remove_member p ms))) o ≡ Some (x, new) → Kept (v.Object ms) new
  cut_at_field ms None h = absurd (search (h, rules))
  cut_at_field ms (Some e) h = subst (Kept (v.Object ms)) (some_pair_parts e x (v.Object (remove_member p ms)) new h).1 (cut_field p ms)

  cut_level : (f : Value-F Value) → cut_in p f ≡ Some (x, new) → Kept (roll-Value f) new
  cut_level Value-F.Null h = absurd (search (h, rules))
  cut_level (Value-F.Bool b) h = absurd (search (h, rules))
  cut_level (Value-F.Num n) h = absurd (search (h, rules))
  cut_level (Value-F.Text s) h = absurd (search (h, rules))
  cut_level (Value-F.Time t) h = absurd (search (h, rules))
  cut_level (Value-F.List vs) h = subst (λ o. Kept o new) (sym (v.rolls-List vs)) (cut_at_place vs (list_place p (length vs)) h)
  cut_level (Value-F.Object ms) h = subst (λ o. Kept o new) (sym (v.rolls-Object ms)) (cut_at_field ms (get_member p ms) h)

  module _ (cut : Value → Option (Value × Value)) (inner : (old y left : Value) → cut old ≡ Some (y, left) → Kept old left) where
    from_item : (vs : List Value) (i : ℕ) (e : Value) (o : Option (Value × Value)) → slice_get vs i ≡ Some e → cut e ≡ o → option_map {U = Value × Value} (λ r. (r.0, v.List (slice_set vs i r.1))) o ≡ Some (x, new) → Kept (v.List vs) new
    from_item vs i e None g k h = absurd (search (h, rules))
    from_item vs i e (Some r) g k h = subst (Kept (v.List vs)) (some_pair_parts r.0 x (v.List (slice_set vs i r.1)) new h).1 (through_item vs i e r.1 g (inner e r.0 r.1 k))

    at_item : (vs : List Value) (i : ℕ) (o : Option Value) → slice_get vs i ≡ o → option_and_then {U = Value × Value} (λ e. option_map {U = Value × Value} (λ r. (r.0, v.List (slice_set vs i r.1))) (cut e)) o ≡ Some (x, new) → Kept (v.List vs) new
    at_item vs i None g h = absurd (search (h, rules))
    at_item vs i (Some e) g h = from_item vs i e (cut e) g refl h

    at_place : (vs : List Value) (o : Option ℕ) → option_and_then {U = Value × Value} (λ i. option_and_then {U = Value × Value} (λ e. option_map {U = Value × Value} (λ r. (r.0, v.List (slice_set vs i r.1))) (cut e)) (slice_get vs i)) o ≡ Some (x, new) → Kept (v.List vs) new
    at_place vs None h = absurd (search (h, rules))
    at_place vs (Some i) h = at_item vs i (slice_get vs i) refl h

    from_field : (ms : Members) (e : Value) (o : Option (Value × Value)) → get_member p ms ≡ Some e → cut e ≡ o → option_map {U = Value × Value} (λ r. (r.0, v.Object (set_member p r.1 ms))) o ≡ Some (x, new) → Kept (v.Object ms) new
    from_field ms e None g k h = absurd (search (h, rules))
    from_field ms e (Some r) g k h = subst (Kept (v.Object ms)) (some_pair_parts r.0 x (v.Object (set_member p r.1 ms)) new h).1 (through_field p ms e r.1 g (inner e r.0 r.1 k))

    at_field : (ms : Members) (o : Option Value) → get_member p ms ≡ o → option_and_then {U = Value × Value} (λ e. option_map {U = Value × Value} (λ r. (r.0, v.Object (set_member p r.1 ms))) (cut e)) o ≡ Some (x, new) → Kept (v.Object ms) new
    at_field ms None g h = absurd (search (h, rules))
    at_field ms (Some e) g h = from_field ms e (cut e) g refl h

    through_level : (f : Value-F Value) → through_in p cut f ≡ Some (x, new) → Kept (roll-Value f) new
    through_level Value-F.Null h = absurd (search (h, rules))
    through_level (Value-F.Bool b) h = absurd (search (h, rules))
    through_level (Value-F.Num n) h = absurd (search (h, rules))
    through_level (Value-F.Text s) h = absurd (search (h, rules))
    through_level (Value-F.Time t) h = absurd (search (h, rules))
    through_level (Value-F.List vs) h = subst (λ o. Kept o new) (sym (v.rolls-List vs)) (at_place vs (list_place p (length vs)) h)
    through_level (Value-F.Object ms) h = subst (λ o. Kept o new) (sym (v.rolls-Object ms)) (at_field ms (get_member p ms) refl h)

pub take-kept : (ps : List (List ℕ)) (old x new : Value) → take ps old ≡ Some (x, new) → Kept old new
take-kept [] old x new h = absurd (search (h, rules))
take-kept (p ∷ []) old x new h = subst (λ o. Kept o new) (roll-out-Value old) (cut_level p x new (out-Value old) h)
take-kept (p ∷ q ∷ ps) old x new h =
    subst (λ o. Kept o new) (roll-out-Value old) (through_level p x new (take (q ∷ ps)) (λ e y left k. take-kept (q ∷ ps) e y left k) (out-Value old) h)
