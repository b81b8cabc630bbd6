-- A value at the end of a list that stands at the end of the parts.
use Rattle.std.proofs.Common.{◌≡◌, ℕ, ◌+◌, ◌<◌, ◌≤◌, max, List, [], ◌∷◌, ◌++◌, length, Bool, true, false, Option, Some, None, option_map, option_and_then, Result, Ok, Err, refl, sym, ap, subst, ◌∙◌, arith, rules, slice_get, slice_set, nat_lt}
use Rattle.std.specs.Prelude.{is_some}
use Rattle.std.proofs.lemmas.Bool.Decides.{nat_tests}
use Rattle.plain_data.specs.Members.{get_member, set_member}
use Rattle.event_tree.specs.Values.{Members, depth}
use Rattle.event_tree.specs.Sizes.{size, less}
use Rattle.event_tree.specs.Sound.{sound}
use Rattle.event_tree.specs.Paths.{list_place, step_in, at, change_in, put, wrap, items_of, list_in, longer, append}
use Rattle.event_tree.specs.Events.{IsObject, object, object_append}
use Rattle.event_tree.specs.Outcomes.{Puts, PutsWithin}
use Rattle.event_tree.specs.declared.value.Value.{Value, out-Value, roll-Value, roll-out-Value}
use Rattle.event_tree.specs.declared.value.Value.TheOpen.{Value-F}
use Rattle.event_tree.specs.declared.value.Value.TheVariants as v
use Rattle.event_tree.specs.declared.fault.PutFault.{PutFault}
use Rattle.event_tree.specs.declared.fault.PutFault.TheVariants.{ThroughScalar, Deep, Large, Memory}
use Rattle.event_tree.proofs.Depths.{depth-List}
use Rattle.event_tree.proofs.DepthLemmas.{items_depth-push}
use Rattle.event_tree.proofs.Sizes.{size-List, items_size-push}
use Rattle.event_tree.proofs.Sounds.{sound-List, items_sound-push}
use Rattle.event_tree.proofs.Puts.{puts_part, set_member-same, slice_set-same}
use Rattle.event_tree.proofs.PutLaws.{list_no_object}
use Rattle.event_tree.proofs.Overs.{over_at}
use Rattle.event_tree.proofs.EventPuts.{object-some, less_some, less_none}

-- an answer with the room that is left
abbrev pub with_left : ℕ → Result (Unit {0}) PutFault → Result ℕ PutFault
with_left left (Ok u) = Ok left
with_left left (Err fault) = Err fault

-- within what one part leads to, as within the whole
module _ (p : List ℕ) (ps : List (List ℕ)) (d inner : Value) (wrapped : Value → Value) where
  joined : (old : Value) → at (p ∷ ps) old ≡ at ps inner → ((x : Value) → put (p ∷ ps) x old ≡ option_map wrapped (put ps x inner)) → append (p ∷ ps) d old ≡ option_map wrapped (append ps d inner)
  joined old look each = ap (λ o. option_and_then (λ x. put (p ∷ ps) x old) (option_and_then (longer d) o)) look ∙ by (option_and_then (longer d) (at ps inner))
    where
      by : (o : Option Value) → option_and_then (λ x. put (p ∷ ps) x old) o ≡ option_map wrapped (option_and_then (λ x. put ps x inner) o)
      by None = refl
      by (Some x) = each x

pub appends_member : (r : Result (Unit {0}) PutFault) (p q : List ℕ) (ps : List (List ℕ)) (d : Value) (ms : Members) (old new : Value)
    → q ≡ p → get_member p ms ≡ Some old → Puts r (append ps d old) old new → Puts r (append (p ∷ ps) d (v.Object ms)) (v.Object ms) (v.Object (set_member q new ms))
appends_member r p q ps d ms old new same found h =
    puts_part r (λ x. v.Object (set_member p x ms)) (append ps d old) old new _ (v.Object ms) _ h
    (joined p ps d old (λ x. v.Object (set_member p x ms)) (v.Object ms) (ap (λ f. option_and_then (at ps) (step_in p f)) (v.outs-Object ms) ∙ rw found) (λ x. ap (change_in p (put ps x) (wrap ps x)) (v.outs-Object ms) ∙ rw found))
    (ap (λ k. v.Object (set_member k new ms)) (sym same)) (ap v.Object (set_member-same p ms old found))

pub appends_item : (r : Result (Unit {0}) PutFault) (p : List ℕ) (ps : List (List ℕ)) (d : Value) (vs : List Value) (i : ℕ) (old new : Value)
    → list_place p (length vs) ≡ Some i → slice_get vs i ≡ Some old → Puts r (append ps d old) old new → Puts r (append (p ∷ ps) d (v.List vs)) (v.List vs) (v.List (slice_set vs i new))
appends_item r p ps d vs i old new e found h =
    puts_part r (λ x. v.List (slice_set vs i x)) (append ps d old) old new _ (v.List vs) _ h
    (joined p ps d old (λ x. v.List (slice_set vs i x)) (v.List vs) (ap (λ f. option_and_then (at ps) (step_in p f)) (v.outs-List vs) ∙ rw (e, found)) (λ x. ap (change_in p (put ps x) (wrap ps x)) (v.outs-List vs) ∙ rw (e, found)))
    refl (ap v.List (slice_set-same vs i old found))

-- where the parts lead nowhere, no list stands there
pub appends_nowhere : (ps : List (List ℕ)) (d old : Value) → at ps old ≡ None → append ps d old ≡ None
appends_nowhere ps d old h = ap (λ o. option_and_then (λ x. put ps x old) (option_and_then (longer d) o)) h

-- what an append to a list makes
pub record Lengthened (ps : List (List ℕ)) (d old new : Value) : Type 0 where
  pub append_is : append ps d old ≡ Some new
  pub size_is : size new ≡ size old + size d
  pub deep : length ps + 1 + depth d ≤ depth new
  pub shallow : depth new ≤ max (depth old) (length ps + 1 + depth d)
  pub kept : sound d ≡ true → sound old ≡ true → sound new ≡ true
  pub object : IsObject old → IsObject new

list_is : (x : Value) (vs : List Value) → items_of x ≡ Some vs → x ≡ v.List vs
list_is x vs h = by (out-Value x) (roll-out-Value x) h
  where
    by : (f : Value-F Value) → roll-Value f ≡ x → list_in f ≡ Some vs → x ≡ v.List vs
    by Value-F.Null r h = absurd (search (h, rules))
    by (Value-F.Bool b) r h = absurd (search (h, rules))
    by (Value-F.Num n) r h = absurd (search (h, rules))
    by (Value-F.Text s) r h = absurd (search (h, rules))
    by (Value-F.Time t) r h = absurd (search (h, rules))
    by (Value-F.List ws) r h = let e : ws ≡ vs = search (h, rules) in sym r ∙ v.rolls-List ws ∙ ap v.List e
    by (Value-F.Object ms) r h = absurd (search (h, rules))

longer_object : (ps : List (List ℕ)) (vs : List Value) (old new : Value) → at ps old ≡ Some (v.List vs) → (0 < length ps → IsObject old → IsObject new) → IsObject old → IsObject new
longer_object [] vs old new h within o = let e : old ≡ v.List vs = search (h, rules) in list_no_object vs o.0 (sym e ∙ o.1)
longer_object (p ∷ ps) vs old new h within o = within (omega arith) o

module _ (ps : List (List ℕ)) (d old : Value) where
  lengthened : (vs : List Value) → at ps old ≡ Some (v.List vs) → (new : Value) × Lengthened ps d old new
  lengthened vs h =
      let l = v.List (vs ++ d ∷ []) in
      let r = over_at ps l (v.List vs) old h in
      let o = r.1 in
      let k : longer d (v.List vs) ≡ Some l = ap (λ f. option_map (λ ws. v.List (ws ++ d ∷ [])) (list_in f)) (v.outs-List vs) in (
        r.0,
        record {
          append_is = ap (λ x. option_and_then (λ x. put ps x old) (option_and_then (longer d) x)) h ∙ ap (option_and_then (λ x. put ps x old)) k ∙ o.put_is;
          size_is = omega (arith, o.size_is, size-List vs, size-List (vs ++ d ∷ []), items_size-push vs d);
          deep = omega (arith, o.deep, depth-List (vs ++ d ∷ []), items_depth-push vs d);
          shallow = omega (arith, o.shallow, o.within, depth-List vs, depth-List (vs ++ d ∷ []), items_depth-push vs d);
          kept = λ a b. o.kept (sound-List (vs ++ d ∷ []) ∙ items_sound-push vs d (sym (sound-List vs) ∙ o.found b) a) b;
          object = longer_object ps vs old r.0 h o.object;
        },
      )

  by_list : (x : Value) (o : Option (List Value)) → at ps old ≡ Some x → items_of x ≡ o → is_some o ≡ true → (new : Value) × Lengthened ps d old new
  by_list x None h e t = absurd (search (t, rules))
  by_list x (Some vs) h e t = lengthened vs (h ∙ ap Some (list_is x vs e))

  by_found : (o : Option Value) → at ps old ≡ o → is_some (option_and_then items_of o) ≡ true → (new : Value) × Lengthened ps d old new
  by_found None h t = absurd (search (t, rules))
  by_found (Some x) h t = by_list x (items_of x) h refl t

  abbrev holds : Bool
  holds = is_some (option_and_then items_of (at ps old))

  pub no_list : holds ≡ false → object_append ps d old ≡ None
  no_list h = ap (option_and_then object) (by (at ps old) refl h)
    where
      by_items : (x : Value) (o : Option (List Value)) → items_of x ≡ o → is_some o ≡ false → longer d x ≡ None
      by_items x None e t = ap (option_map (λ vs. v.List (vs ++ d ∷ []))) e
      by_items x (Some vs) e t = absurd (search (t, rules))

      by : (o : Option Value) → at ps old ≡ o → is_some (option_and_then items_of o) ≡ false → append ps d old ≡ None
      by None e t = appends_nowhere ps d old e
      by (Some x) e t = ap (λ o. option_and_then (λ x. put ps x old) (option_and_then (longer d) o)) e ∙ ap (option_and_then (λ x. put ps x old)) (by_items x (items_of x) refl t)

  module _ (room : ℕ) (is : holds ≡ true) (o : IsObject old) where
    abbrev whole : (new : Value) × Lengthened ps d old new
    whole = by_found (at ps old) refl is

    becomes : object_append ps d old ≡ Some whole.0
    becomes = ap (option_and_then object) whole.1.append_is ∙ object-some whole.0 (whole.1.object o)

    pub append_deep : nat_lt 128 (length ps + 1 + depth d) ≡ true → PutsWithin (Err Deep) (object_append ps d old) room old old
    append_deep t = let l : 128 < length ps + 1 + depth d = grind (arith, nat_tests) in ((whole.0, becomes, omega (arith, l, whole.1.deep)), refl)

    module _ (flat : depth old ≤ 128) (t : nat_lt 128 (length ps + 1 + depth d) ≡ false) where
      fine : depth whole.0 ≤ 128
      fine = let l : length ps + 1 + depth d ≤ 128 = grind (arith, nat_tests) in omega (arith, l, flat, whole.1.shallow)

      pub append_large : less room (size d) ≡ None → PutsWithin (Err Large) (object_append ps d old) room old old
      append_large h = ((whole.0, becomes, fine, omega (arith, whole.1.size_is, less_none room (size d) h)), refl)

      module _ (left : ℕ) (h : less room (size d) ≡ Some left) (sound_d : sound d ≡ true) (sound_old : sound old ≡ true) where
        pub append_answers : (r : Result (Unit {0}) PutFault) (new : Value) → Puts r (append ps d old) old new → PutsWithin (with_left left r) (object_append ps d old) room old new
        append_answers (Ok u) new k =
            let e : whole.0 ≡ new = search (sym whole.1.append_is ∙ k, rules) in
            subst (λ x. PutsWithin (Ok left) (object_append ps d old) room old x) e (becomes, fine, omega (arith, whole.1.size_is, less_some room (size d) left h), whole.1.kept sound_d sound_old)
        append_answers (Err ThroughScalar) new k = absurd (search (sym whole.1.append_is ∙ k.0, rules))
        append_answers (Err Deep) new k = absurd k
        append_answers (Err Large) new k = absurd k
        append_answers (Err Memory) new k = ((whole.0, becomes, fine, omega (arith, whole.1.size_is, less_some room (size d) left h)), k.1)
