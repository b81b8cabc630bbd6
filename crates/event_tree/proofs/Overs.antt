-- A put in place of what stands at the end of the parts, and what it does to size, depth and what holds of each part.
use Rattle.std.proofs.Common.{◌≡◌, ℕ, ◌+◌, ◌<◌, ◌≤◌, max, List, [], ◌∷◌, length, true, Option, Some, None, option_map, option_and_then, refl, sym, ap, subst, ◌∙◌, arith, rules, slice_get, slice_set}
use Rattle.plain_data.specs.Members.{get_member, set_member}
use Rattle.event_tree.specs.Values.{Members, depth}
use Rattle.event_tree.specs.Sizes.{size}
use Rattle.event_tree.specs.Sound.{sound}
use Rattle.event_tree.specs.Paths.{list_place, step, step_in, at, change_in, put, wrap}
use Rattle.event_tree.specs.Events.{IsObject}
use Rattle.event_tree.specs.declared.value.Value.{Value, out-Value, roll-Value, roll-out-Value}
use Rattle.event_tree.specs.declared.value.Value.TheOpen.{Value-F}
use Rattle.event_tree.specs.declared.value.Value.TheVariants as v
use Rattle.event_tree.proofs.Depths.{depth-List, depth-Object}
use Rattle.event_tree.proofs.DepthLemmas.{items_depth-get, items_depth-set, members_depth-get, members_depth-set}
use Rattle.event_tree.proofs.Sizes.{size-List, size-Object, items_size-set, members_size-set}
use Rattle.event_tree.proofs.Sounds.{sound-List, items_sound-get, items_sound-set, sound-get_member, sound-set_member}
use Rattle.event_tree.proofs.PutLaws.{list_no_object}

-- what one part leads to
pub data Stepped (p : List ℕ) (old x : Value) : Type 0 where
  to_item : (vs : List Value) (i : ℕ) → old ≡ v.List vs → list_place p (length vs) ≡ Some i → slice_get vs i ≡ Some x → Stepped p old x
  to_field : (ms : Members) → old ≡ v.Object ms → get_member p ms ≡ Some x → Stepped p old x

module _ (p : List ℕ) (old x : Value) where
  stepped_at : (vs : List Value) (o : Option ℕ) → old ≡ v.List vs → list_place p (length vs) ≡ o → option_and_then (λ i. slice_get vs i) o ≡ Some x → Stepped p old x
  stepped_at vs None is e h = absurd (search (h, rules))
  stepped_at vs (Some i) is e h = to_item vs i is e h

  stepped_in : (f : Value-F Value) → old ≡ roll-Value f → step_in p f ≡ Some x → Stepped p old x
  stepped_in Value-F.Null is h = absurd (search (h, rules))
  stepped_in (Value-F.Bool b) is h = absurd (search (h, rules))
  stepped_in (Value-F.Num n) is h = absurd (search (h, rules))
  stepped_in (Value-F.Text s) is h = absurd (search (h, rules))
  stepped_in (Value-F.Time t) is h = absurd (search (h, rules))
  stepped_in (Value-F.List vs) is h = stepped_at vs (list_place p (length vs)) (is ∙ v.rolls-List vs) refl h
  stepped_in (Value-F.Object ms) is h = to_field ms (is ∙ v.rolls-Object ms) h

  pub stepped : step p old ≡ Some x → Stepped p old x
  stepped h = stepped_in (out-Value old) (sym (roll-out-Value old)) h

-- what there is where d stands in the place of y
pub record Over (ps : List (List ℕ)) (d y old new : Value) : Type 0 where
  pub put_is : put ps d old ≡ Some new
  pub size_is : size new + size y ≡ size old + size d
  pub within : length ps + depth y ≤ depth old
  pub deep : length ps + depth d ≤ depth new
  pub shallow : depth new ≤ max (depth old) (length ps + depth d)
  pub kept : sound d ≡ true → sound old ≡ true → sound new ≡ true
  pub found : sound old ≡ true → sound y ≡ true
  pub object : 0 < length ps → IsObject old → IsObject new

module _ (p : List ℕ) (ps : List (List ℕ)) (d y x z : Value) (o : Over ps d y x z) where
  over_item : (vs : List Value) (i : ℕ) → list_place p (length vs) ≡ Some i → slice_get vs i ≡ Some x → Over (p ∷ ps) d y (v.List vs) (v.List (slice_set vs i z))
  over_item vs i e g = record {
    put_is = ap (change_in p (put ps d) (wrap ps d)) (v.outs-List vs) ∙ rw (e, g) (ap (option_map (λ w. v.List (slice_set vs i w))) o.put_is);
    size_is = omega (arith, size-List vs, size-List (slice_set vs i z), items_size-set vs i x z g, o.size_is);
    within = omega (arith, depth-List vs, items_depth-get vs i x g, o.within);
    deep = omega (arith, depth-List (slice_set vs i z), (items_depth-set vs i x z g).0, o.deep);
    shallow = omega (arith, depth-List vs, depth-List (slice_set vs i z), (items_depth-set vs i x z g).1, items_depth-get vs i x g, o.shallow);
    kept = λ a b. sound-List (slice_set vs i z) ∙ items_sound-set vs i z (sym (sound-List vs) ∙ b) (o.kept a (items_sound-get vs i x (sym (sound-List vs) ∙ b) g));
    found = λ b. o.found (items_sound-get vs i x (sym (sound-List vs) ∙ b) g);
    object = λ n k. list_no_object vs k.0 k.1;
  }

  over_field : (ms : Members) → get_member p ms ≡ Some x → Over (p ∷ ps) d y (v.Object ms) (v.Object (set_member p z ms))
  over_field ms g = record {
    put_is = ap (change_in p (put ps d) (wrap ps d)) (v.outs-Object ms) ∙ rw g (ap (option_map (λ w. v.Object (set_member p w ms))) o.put_is);
    size_is = omega (arith, size-Object ms, size-Object (set_member p z ms), members_size-set p ms x z g, o.size_is);
    within = omega (arith, depth-Object ms, members_depth-get p ms x g, o.within);
    deep = omega (arith, depth-Object (set_member p z ms), (members_depth-set p ms x z g).0, o.deep);
    shallow = omega (arith, depth-Object ms, depth-Object (set_member p z ms), (members_depth-set p ms x z g).1, members_depth-get p ms x g, o.shallow);
    kept = λ a b. sound-set_member p ms z b (o.kept a (sound-get_member p ms x b g));
    found = λ b. o.found (sound-get_member p ms x b g);
    object = λ n k. (set_member p z ms, refl);
  }

  over_step : (old : Value) → Stepped p old x → (new : Value) × Over (p ∷ ps) d y old new
  over_step old (to_item vs i is e g) = (v.List (slice_set vs i z), subst (λ w. Over (p ∷ ps) d y w (v.List (slice_set vs i z))) (sym is) (over_item vs i e g))
  over_step old (to_field ms is g) = (v.Object (set_member p z ms), subst (λ w. Over (p ∷ ps) d y w (v.Object (set_member p z ms))) (sym is) (over_field ms g))

abbrev pub Everywhere : List (List ℕ) → Value → Value → Type 0
Everywhere ps d y = (old : Value) → at ps old ≡ Some y → (new : Value) × Over ps d y old new

through : (p : List ℕ) (ps : List (List ℕ)) (d y : Value) → Everywhere ps d y → (old : Value) (o : Option Value) → step p old ≡ o → option_and_then (at ps) o ≡ Some y → (new : Value) × Over (p ∷ ps) d y old new
through p ps d y inner old None e k = absurd (search (k, rules))
through p ps d y inner old (Some x) e k = let r = inner x k in over_step p ps d y x r.0 r.1 old (stepped p old x e)

pub over_at : (ps : List (List ℕ)) (d y : Value) → Everywhere ps d y
over_at [] d y old h =
    let e : old ≡ y = search (h, rules) in
    let s : size old ≡ size y = ap size e in
    let t : depth old ≡ depth y = ap depth e in
    (d, record { put_is = refl; size_is = omega (arith, s); within = omega (arith, t); deep = omega arith; shallow = omega arith; kept = λ a b. a; found = λ b. ap sound (sym e) ∙ b; object = λ n o. absurd (omega arith) })
over_at (p ∷ ps) d y old h = through p ps d y (over_at ps d y) old (step p old) refl h
