-- What would be left of an event, and what a put into it answers.
use Rattle.std.proofs.Common.{◌≡◌, ◌≢◌, ℕ, ◌+◌, ◌-◌, ◌≤◌, ◌==◌, ◌&&◌, List, [], ◌∷◌, length, Bool, true, false, Option, Some, None, option_map, Result, Err, if◌then◌else◌, refl, sym, ap, subst, ◌∙◌, arith, rules}
use Rattle.std.proofs.lemmas.Option.{some_pair_parts}
use Rattle.event_tree.specs.Values.{depth}
use Rattle.event_tree.specs.Sizes.{size}
use Rattle.event_tree.specs.Paths.{take}
use Rattle.event_tree.specs.Events.{Ev, Way, IsEvent, IsObject, to, object_of, object_put, with_fields, with_meta, event_size, event_put, event_take, limited}
use Rattle.event_tree.specs.Outcomes.{Finds, FindsAt, PutsWithin, PutsEvent}
use Rattle.event_tree.specs.declared.moving.FoundValue.{FoundValue}
use Rattle.event_tree.specs.declared.value.Value.{Value}
use Rattle.event_tree.specs.declared.value.Value.TheVariants as v
use Rattle.event_tree.specs.declared.fault.PutFault.{PutFault}
use Rattle.event_tree.specs.declared.fault.PutFault.TheVariants.{ThroughScalar, Deep, Large, Memory}
use Rattle.event_tree.proofs.Depths.{depth-Object}
use Rattle.event_tree.proofs.Sizes.{size-Object}
use Rattle.event_tree.proofs.Sounds.{sound_rises}
use Rattle.event_tree.proofs.TakeLaws.{take-kept}
use Rattle.event_tree.proofs.EventPuts.{size-object, fields_refusal, meta_refusal}

abbrev pub is_whole : Bool → List (List ℕ) → Bool
is_whole meta ps = meta && (length ps == 0)

-- what is left of an event, and of the object from which something was taken
pub record Leaves (meta : Bool) (ps : List (List ℕ)) (e : Ev) (x : Value) (left : Ev) : Type 0 where
  pub rest : Value
  pub taken : take ps (object_of (to meta ps) e) ≡ Some (x, rest)
  pub rest_is : object_of (to meta ps) left ≡ rest
  pub size_is : event_size left + size (object_of (to meta ps) e) ≡ event_size e + size rest
  pub valid : event_size left ≤ 16777216 → IsEvent left

module _ (e : Ev) (is : IsEvent e) (x : Value) where
  leaves_fields : (ps : List (List ℕ)) (rest : Value) → take ps e.fields ≡ Some (x, rest) → Leaves false ps e x (with_fields e rest)
  leaves_fields ps rest t =
      let k = take-kept ps e.fields x rest t in
      let o = k.object is.fields_object in
      record {
        rest = rest;
        taken = t;
        rest_is = refl;
        size_is = omega (arith, size-object rest o, size-object e.fields is.fields_object);
        valid = λ small. record {
          fields_object = o;
          meta_object = is.meta_object;
          small = small;
          shallow = omega (arith, k.shallow, is.shallow);
          fields_sound = k.kept is.fields_sound;
          meta_sound = is.meta_sound;
        };
      }

  leaves_meta : (ps : List (List ℕ)) (rest : Value) → take ps e.meta ≡ Some (x, rest) → Leaves true ps e x (with_meta e rest)
  leaves_meta ps rest t =
      let k = take-kept ps e.meta x rest t in
      let o = k.object is.meta_object in
      record {
        rest = rest;
        taken = t;
        rest_is = refl;
        size_is = omega (arith, size-object rest o, size-object e.meta is.meta_object);
        valid = λ small. record {
          fields_object = is.fields_object;
          meta_object = o;
          small = small;
          shallow = omega (arith, k.shallow, is.shallow);
          fields_sound = is.fields_sound;
          meta_sound = k.kept is.meta_sound;
        };
      }

  from_fields : (ps : List (List ℕ)) (left : Ev) (o : Option (Value × Value)) → take ps e.fields ≡ o → option_map {U = Value × Ev} (λ r. (r.0, with_fields e r.1)) o ≡ Some (x, left) → Leaves false ps e x left
  from_fields ps left None t h = absurd (search (h, rules))
  from_fields ps left (Some r) t h = let s = some_pair_parts r.0 x (with_fields e r.1) left h in subst (Leaves false ps e x) s.1 (leaves_fields ps r.1 (t ∙ ap (λ y. Some (y, r.1)) s.0))

  from_meta : (ps : List (List ℕ)) (left : Ev) (o : Option (Value × Value)) → take ps e.meta ≡ o → option_map {U = Value × Ev} (λ r. (r.0, with_meta e r.1)) o ≡ Some (x, left) → Leaves true ps e x left
  from_meta ps left None t h = absurd (search (h, rules))
  from_meta ps left (Some r) t h = let s = some_pair_parts r.0 x (with_meta e r.1) left h in subst (Leaves true ps e x) s.1 (leaves_meta ps r.1 (t ∙ ap (λ y. Some (y, r.1)) s.0))

  pub leaves : (meta : Bool) (ps : List (List ℕ)) (left : Ev) → is_whole meta ps ≡ false → event_take (to meta ps) e ≡ Some (x, left) → Leaves meta ps e x left
  leaves false ps left part h = from_fields ps left (take ps e.fields) refl h
  leaves true [] left part h = absurd (search (part, rules))
  leaves true (p ∷ ps) left part h = from_meta (p ∷ ps) left (take (p ∷ ps) e.meta) refl h

  -- the whole of `meta` leaves an empty object
  pub leaves_empty : (ps : List (List ℕ)) (meta : Bool) (left : Ev) → is_whole meta ps ≡ true → event_take (to meta ps) e ≡ Some (x, left) → (meta ≡ true) × (left ≡ with_meta e (v.Object []))
  leaves_empty ps false left whole h = absurd (search (whole, rules))
  leaves_empty [] true left whole h = (refl, sym (some_pair_parts e.meta x (with_meta e (v.Object [])) left h).1)
  leaves_empty (p ∷ ps) true left whole h = absurd (search (whole, rules))

  empty_valid : (left : Ev) → left ≡ with_meta e (v.Object []) → IsEvent left
  empty_valid left h = subst IsEvent (sym h) (record {
    fields_object = is.fields_object;
    meta_object = ([], refl);
    small = omega (arith, size-Object [], is.small, size-object e.meta is.meta_object);
    shallow = omega (arith, depth-Object [], is.shallow);
    fields_sound = is.fields_sound;
    meta_sound = sound_rises [] tt refl;
  })

  pub event_left : (meta : Bool) (ps : List (List ℕ)) (left : Ev) → event_size left ≤ 16777216 → event_take (to meta ps) e ≡ Some (x, left) → IsEvent left
  event_left meta ps left small h = by (is_whole meta ps) refl
    where
      by : (b : Bool) → is_whole meta ps ≡ b → IsEvent left
      by true w = empty_valid left (leaves_empty ps meta left w h).1
      by false w = (leaves meta ps left w h).valid small

module _ (e : Ev) (is : IsEvent e) where
  finds_fields : (r : Option FoundValue) (ps : List (List ℕ)) → Finds r (take ps e.fields) e.fields → FindsAt r (event_take (to false ps) e) e
  finds_fields None ps h = ap (option_map {U = Value × Ev} (λ r. (r.0, with_fields e r.1))) h
  finds_fields (Some f) ps (left, taken, s) =
      let o = (take-kept ps e.fields f.value.now left taken).object is.fields_object in
      (with_fields e left, ap (option_map {U = Value × Ev} (λ r. (r.0, with_fields e r.1))) taken, omega (arith, s, size-object left o))

  finds_meta : (r : Option FoundValue) (p : List ℕ) (ps : List (List ℕ)) → Finds r (take (p ∷ ps) e.meta) e.meta → FindsAt r (event_take (to true (p ∷ ps)) e) e
  finds_meta None p ps h = ap (option_map {U = Value × Ev} (λ r. (r.0, with_meta e r.1))) h
  finds_meta (Some f) p ps (left, taken, s) =
      let o = (take-kept (p ∷ ps) e.meta f.value.now left taken).object is.meta_object in
      (with_meta e left, ap (option_map {U = Value × Ev} (λ r. (r.0, with_meta e r.1))) taken, omega (arith, s, size-object left o))

  pub finds_at : (r : Option FoundValue) (meta : Bool) (ps : List (List ℕ)) → is_whole meta ps ≡ false → Finds r (take ps (object_of (to meta ps) e)) (object_of (to meta ps) e) → FindsAt r (event_take (to meta ps) e) e
  finds_at r false ps part h = finds_fields r ps h
  finds_at r true [] part h = absurd (search (part, rules))
  finds_at r true (p ∷ ps) part h = finds_meta r p ps h

  pub finds_whole : (meta : Bool) (ps : List (List ℕ)) → is_whole meta ps ≡ true → (left : Ev) × (event_take (to meta ps) e ≡ Some (e.meta, left)) × (event_size left + (size e.meta - 5) ≡ event_size e)
  finds_whole false ps w = absurd (search (w, rules))
  finds_whole true [] w = (with_meta e (v.Object []), refl, omega (arith, size-Object [], size-object e.meta is.meta_object))
  finds_whole true (p ∷ ps) w = absurd (search (w, rules))

  -- what a put into the one object answers, the event answers
  pub at_event : (meta : Bool) (ps : List (List ℕ)) (d : Value) (room : ℕ) → room + event_size e ≡ 16777216 → (fault : PutFault)
      → PutsWithin (Err fault) (object_put ps d (object_of (to meta ps) e)) room (object_of (to meta ps) e) (object_of (to meta ps) e) → PutsEvent (Err fault) (limited (event_put (to meta ps) d e)) e e
  at_event true ps d room full fault h = meta_refusal e.fields e.meta is (object_put ps d e.meta) room full fault e.meta h
  at_event false ps d room full fault h = fields_refusal e.fields e.meta is (object_put ps d e.fields) room full fault e.fields h

-- the object that a path leads into
module _ (w : Way) (e : Ev) (is : IsEvent e) where
  pub object_is : IsObject (object_of w e)
  object_is = by w.meta
    where
      by : (m : Bool) → IsObject (if m then e.meta else e.fields)
      by true = is.meta_object
      by false = is.fields_object

  pub flat : depth (object_of w e) ≤ 128
  flat = by w.meta
    where
      by : (m : Bool) → depth (if m then e.meta else e.fields) ≤ 128
      by true = omega (arith, is.shallow)
      by false = omega (arith, is.shallow)

pub refused_with : (fault : PutFault) (said : Result Ev PutFault) (e : Ev) → fault ≢ Memory → PutsEvent (Err fault) said e e → said ≡ Err fault
refused_with ThroughScalar said e k h = h.0
refused_with Deep said e k h = h.0
refused_with Large said e k h = h.0
refused_with Memory said e k h = absurd (k refl)
