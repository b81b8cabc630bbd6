-- What stood at a path before a take, and what stands there behind it.
use Rattle.std.proofs.Common.{◌≡◌, ◌≢◌, ℕ, ◌<◌, List, [], ◌∷◌, ◌++◌, length, true, Option, Some, None, option_map, option_and_then, refl, sym, ap, subst, ◌∙◌, rules, arith, slice_get, slice_set, remove}
use Rattle.std.proofs.lemmas.Option.{same_Some}
use Rattle.plain_data.specs.Members.{Rises, get_member, set_member, remove_member}
use Rattle.plain_data.proofs.ChangeLemmas.{get_member-set_member, get_member-remove_member, get_member-set_member-other, get_member-remove_member-other}
use Rattle.event_tree.specs.Values.{Members}
use Rattle.event_tree.specs.Sound.{sound}
use Rattle.event_tree.specs.Paths.{list_place, step, step_in, at, take, cut_in, through_in}
use Rattle.event_tree.specs.declared.value.Value.{Value, out-Value, roll-Value, out-roll-Value}
use Rattle.event_tree.specs.declared.value.Value.TheOpen.{Value-F}
use Rattle.event_tree.specs.declared.value.Value.TheVariants as v
use Rattle.event_tree.proofs.Sounds.{sound-List, items_sound-get, sound-get_member, rises_of}
use Rattle.event_tree.proofs.PutLaws.{list_no_object}
use Rattle.event_tree.proofs.Shapes.{Shape, shape_of, is_null, is_bool, is_number, is_text, is_time, is_list, is_object}
use Rattle.event_text.specs.PathLaws.{IsNoList}
use Rattle.event_text.proofs.Levels.{step-List, step-Object, Cut, cut_item, cut_field, was_cut, CutThrough, in_item, in_field, was_cut_through}
use Rattle.event_text.proofs.ItemPlaces.{step_set, step_is}

abbrev first : Option (Value × Value) → Option Value
first o = option_map (λ r. r.0) o

-- ---- what is taken is what stood there

first_map : (f : Value → Value) (o : Option (Value × Value)) → first (option_map {U = Value × Value} (λ r. (r.0, f r.1)) o) ≡ first o
first_map f None = refl
first_map f (Some r) = refl

first_cut : (d : Value) (o : Option Value) → first (option_map {U = Value × Value} (λ e. (e, d)) o) ≡ option_and_then Some o
first_cut d None = refl
first_cut d (Some e) = refl

cut_first : (p : List ℕ) (f : Value-F Value) → first (cut_in p f) ≡ option_and_then (at []) (step_in p f)
cut_first p Value-F.Null = refl
cut_first p (Value-F.Bool b) = refl
cut_first p (Value-F.Num n) = refl
cut_first p (Value-F.Text s) = refl
cut_first p (Value-F.Time t) = refl
cut_first p (Value-F.List vs) = at_place (list_place p (length vs))
  where
    at_place : (o : Option ℕ) → first (option_and_then {U = Value × Value} (λ i. option_map {U = Value × Value} (λ e. (e, v.List (remove vs i))) (slice_get vs i)) o) ≡ option_and_then (at []) (option_and_then (λ i. slice_get vs i) o)
    at_place None = refl
    at_place (Some i) = first_cut (v.List (remove vs i)) (slice_get vs i)
cut_first p (Value-F.Object ms) = first_cut (v.Object (remove_member p ms)) (get_member p ms)

module _ (p : List ℕ) (cut : Value → Option (Value × Value)) (look : Value → Option Value) (same : (e : Value) → first (cut e) ≡ look e) where
  through_first : (f : Value-F Value) → first (through_in p cut f) ≡ option_and_then look (step_in p f)
  through_first Value-F.Null = refl
  through_first (Value-F.Bool b) = refl
  through_first (Value-F.Num n) = refl
  through_first (Value-F.Text s) = refl
  through_first (Value-F.Time t) = refl
  through_first (Value-F.List vs) = at_place (list_place p (length vs))
    where
      at_item : (i : ℕ) (o : Option Value) → first (option_and_then {U = Value × Value} (λ e. option_map {U = Value × Value} (λ r. (r.0, v.List (slice_set vs i r.1))) (cut e)) o) ≡ option_and_then look o
      at_item i None = refl
      at_item i (Some e) = first_map (λ y. v.List (slice_set vs i y)) (cut e) ∙ same e

      at_place : (o : Option ℕ) → first (option_and_then {U = Value × Value} (λ i. option_and_then {U = Value × Value} (λ e. option_map {U = Value × Value} (λ r. (r.0, v.List (slice_set vs i r.1))) (cut e)) (slice_get vs i)) o) ≡ option_and_then look (option_and_then (λ i. slice_get vs i) o)
      at_place None = refl
      at_place (Some i) = at_item i (slice_get vs i)
  through_first (Value-F.Object ms) = at_field (get_member p ms)
    where
      at_field : (o : Option Value) → first (option_and_then {U = Value × Value} (λ e. option_map {U = Value × Value} (λ r. (r.0, v.Object (set_member p r.1 ms))) (cut e)) o) ≡ option_and_then look o
      at_field None = refl
      at_field (Some e) = first_map (λ y. v.Object (set_member p y ms)) (cut e) ∙ same e

pub taken : (p : List ℕ) (ps : List (List ℕ)) (d : Value) → option_map (λ r. r.0) (take (p ∷ ps) d) ≡ at (p ∷ ps) d
taken p [] d = cut_first p (out-Value d)
taken p (q ∷ ps) d = through_first p (take (q ∷ ps)) (at (q ∷ ps)) (λ e. taken q ps e) (out-Value d)

-- ---- what stands elsewhere, and there

take_more : (r : List ℕ) (ps : List (List ℕ)) (d : Value) → 0 < length ps → take (r ∷ ps) d ≡ through_in r (take ps) (out-Value d)
take_more r [] d h = absurd (omega arith)
take_more r (p ∷ ps) d h = refl

some_parts : (front ps : List (List ℕ)) (p : List ℕ) → 0 < length (front ++ p ∷ ps)
some_parts [] ps p = omega arith
some_parts (r ∷ front) ps p = omega arith

-- One level further: the part led to e, and leads to y now.
module _ (r : List ℕ) (cut : Value → Option (Value × Value)) (x old new : Value) (P : Type 0) (inner : (e y : Value) → step r old ≡ Some e → step r new ≡ Some y → cut e ≡ Some (x, y) → P) where
  one_further : CutThrough r cut x old new → P
  one_further (in_item vs i e y is g h k n) = inner e y (ap (step r) is ∙ step-List r vs ∙ step_is r vs i (Some e) g h) (ap (step r) n ∙ step-List r (slice_set vs i y) ∙ step_set r vs i e y g h) k
  one_further (in_field ms e y is g k n) = inner e y (ap (step r) is ∙ step-Object r ms ∙ g) (ap (step r) n ∙ step-Object r (set_member r y ms) ∙ get_member-set_member r y ms ∙ ap (option_map (λ _. y)) g) k

module _ (p q : List ℕ) (ps qs : List (List ℕ)) (x : Value) (other : p ≢ q) where
  parted_cut : (old new : Value) → IsNoList (Some old) → Cut p x old new → at (q ∷ qs) new ≡ at (q ∷ qs) old
  parted_cut old new unlisted (cut_item vs i is e g n) = absurd (unlisted vs (ap Some is))
  parted_cut old new unlisted (cut_field ms is g n) = ap (option_and_then (at qs))
      (ap (step q) n ∙ step-Object q (remove_member p ms) ∙ get_member-remove_member-other p q other ms ∙ sym (step-Object q ms) ∙ ap (step q) (sym is))

  parted_through : (cut : Value → Option (Value × Value)) (old new : Value) → IsNoList (Some old) → CutThrough p cut x old new → at (q ∷ qs) new ≡ at (q ∷ qs) old
  parted_through cut old new unlisted (in_item vs i e y is g h k n) = absurd (unlisted vs (ap Some is))
  parted_through cut old new unlisted (in_field ms e y is g k n) = ap (option_and_then (at qs))
      (ap (step q) n ∙ step-Object q (set_member p y ms) ∙ get_member-set_member-other p q other y ms ∙ sym (step-Object q ms) ∙ ap (step q) (sym is))

  parted : (ps : List (List ℕ)) (old new : Value) → IsNoList (Some old) → take (p ∷ ps) old ≡ Some (x, new) → at (q ∷ qs) new ≡ at (q ∷ qs) old
  parted [] old new unlisted h = parted_cut old new unlisted (was_cut p x old new h)
  parted (s ∷ ps) old new unlisted h = parted_through (take (s ∷ ps)) old new unlisted (was_cut_through p x old new (take (s ∷ ps)) h)

  -- what stands at a path that parts from that of a take at a key stands there as before
  pub at_take_other : (front : List (List ℕ)) (old new : Value) → IsNoList (at front old) → take (front ++ p ∷ ps) old ≡ Some (x, new) → at (front ++ q ∷ qs) new ≡ at (front ++ q ∷ qs) old
  at_take_other [] old new unlisted h = parted ps old new unlisted h
  at_take_other (r ∷ front) old new unlisted h =
      one_further r (take (front ++ p ∷ ps)) x old new (at (r ∷ (front ++ q ∷ qs)) new ≡ at (r ∷ (front ++ q ∷ qs)) old)
      (λ e y is now cut. ap (option_and_then (at (front ++ q ∷ qs))) now
      ∙ at_take_other front e y (λ vs k. unlisted vs (ap (option_and_then (at front)) is ∙ k)) cut
      ∙ sym (ap (option_and_then (at (front ++ q ∷ qs))) is))
      (was_cut_through r x old new (take (front ++ p ∷ ps)) (sym (take_more r (front ++ p ∷ ps) old (some_parts front ps p)) ∙ h))

-- the values of a sound list or object are sound
pub step_sound : (p : List ℕ) (d e : Value) → sound d ≡ true → step p d ≡ Some e → sound e ≡ true
step_sound p d e o h = by_shape (shape_of d)
  where
    at_place : (vs : List Value) (i : Option ℕ) → sound (v.List vs) ≡ true → option_and_then (λ i. slice_get vs i) i ≡ Some e → sound e ≡ true
    at_place vs None k g = absurd (search (g, rules))
    at_place vs (Some i) k g = items_sound-get vs i e (sym (sound-List vs) ∙ k) g

    scalar : (f : Value-F Value) → d ≡ roll-Value f → step_in p f ≡ None → sound e ≡ true
    scalar f is none = absurd (search (sym h ∙ ap (λ x. step p x) is ∙ ap (step_in p) (out-roll-Value f) ∙ none, rules))

    by_shape : Shape d → sound e ≡ true
    by_shape (is_null is) = scalar Value-F.Null (is ∙ sym v.rolls-Null) refl
    by_shape (is_bool b is) = scalar (Value-F.Bool b) (is ∙ sym (v.rolls-Bool b)) refl
    by_shape (is_number n is) = scalar (Value-F.Num n) (is ∙ sym (v.rolls-Num n)) refl
    by_shape (is_text s is) = scalar (Value-F.Text s) (is ∙ sym (v.rolls-Text s)) refl
    by_shape (is_time t is) = scalar (Value-F.Time t) (is ∙ sym (v.rolls-Time t)) refl
    by_shape (is_list vs is) = at_place vs (list_place p (length vs)) (ap sound (sym is) ∙ o) (sym (step-List p vs) ∙ ap (step p) (sym is) ∙ h)
    by_shape (is_object ms is) = sound-get_member p ms e (ap sound (sym is) ∙ o) (sym (step-Object p ms) ∙ ap (step p) (sym is) ∙ h)

object_is : (ms ns : Members) → v.Object ms ≡ v.Object ns → ms ≡ ns
object_is ms ns e = fields (sym (v.outs-Object ms) ∙ ap out-Value e ∙ v.outs-Object ns)
  where
    fields : Value-F.Object ms ≡ Value-F.Object ns → ms ≡ ns
    fields k = ap (λ (f : Value-F Value). members_of f) k
      where
        members_of : Value-F Value → Members
        members_of Value-F.Null = ms
        members_of (Value-F.Bool b) = ms
        members_of (Value-F.Num n) = ms
        members_of (Value-F.Text s) = ms
        members_of (Value-F.Time t) = ms
        members_of (Value-F.List vs) = ms
        members_of (Value-F.Object xs) = xs

pub list_is : (vs ws : List Value) → v.List vs ≡ v.List ws → vs ≡ ws
list_is vs ws e = ap items_of (sym (v.outs-List vs) ∙ ap out-Value e ∙ v.outs-List ws)
  where
    items_of : Value-F Value → List Value
    items_of Value-F.Null = vs
    items_of (Value-F.Bool b) = vs
    items_of (Value-F.Num n) = vs
    items_of (Value-F.Text s) = vs
    items_of (Value-F.Time t) = vs
    items_of (Value-F.List xs) = xs
    items_of (Value-F.Object ms) = vs

module _ (p : List ℕ) (x : Value) (vs : List Value) (i : ℕ) (named : list_place p (length vs) ≡ Some i) where
  closed_here : (old new : Value) → old ≡ v.List vs → Cut p x old new → new ≡ v.List (remove vs i)
  closed_here old new is (cut_item ws j listed e g n) =
      let same : ws ≡ vs = list_is ws vs (sym listed ∙ is) in
      let place : j ≡ i = same_Some j i (sym e ∙ ap (λ us. list_place p (length us)) same ∙ named) in
      n ∙ ap (λ us. v.List (remove us j)) same ∙ ap (λ k. v.List (remove vs k)) place
  closed_here old new is (cut_field ns was g n) = absurd (list_no_object vs ns (sym is ∙ was))

  -- behind a take from a list the list has the other items
  pub at_take_item : (front : List (List ℕ)) (old new : Value) → at front old ≡ Some (v.List vs) → take (front ++ p ∷ []) old ≡ Some (x, new) → at front new ≡ Some (v.List (remove vs i))
  at_take_item [] old new is h = ap Some (closed_here old new (same_Some old (v.List vs) is) (was_cut p x old new h))
  at_take_item (r ∷ front) old new is h =
      one_further r (take (front ++ p ∷ [])) x old new (at (r ∷ front) new ≡ Some (v.List (remove vs i)))
      (λ e y was now cut. ap (option_and_then (at front)) now ∙ at_take_item front e y (sym (ap (option_and_then (at front)) was) ∙ is) cut)
      (was_cut_through r x old new (take (front ++ p ∷ [])) (sym (take_more r (front ++ p ∷ []) old (some_parts front [] p)) ∙ h))

module _ (p : List ℕ) (x : Value) where
  gone_here : (old new : Value) (ms : Members) → old ≡ v.Object ms → Rises ms → Cut p x old new → at (p ∷ []) new ≡ None
  gone_here old new ms is rises (cut_item vs i listed e g n) = absurd (list_no_object vs ms (sym listed ∙ is))
  gone_here old new ms is rises (cut_field ns was g n) = ap (option_and_then (at []))
      (ap (step p) n ∙ step-Object p (remove_member p ns) ∙ get_member-remove_member p ns (subst Rises (object_is ms ns (sym is ∙ was)) rises))

  -- behind a take from an object nothing stands at its path
  pub at_take : (front : List (List ℕ)) (old new : Value) (ms : Members) → sound old ≡ true → at front old ≡ Some (v.Object ms) → take (front ++ p ∷ []) old ≡ Some (x, new) → at (front ++ p ∷ []) new ≡ None
  at_take [] old new ms o is h = let same : old ≡ v.Object ms = same_Some old (v.Object ms) is in gone_here old new ms same (rises_of ms (ap sound (sym same) ∙ o)) (was_cut p x old new h)
  at_take (r ∷ front) old new ms o is h =
      one_further r (take (front ++ p ∷ [])) x old new (at (r ∷ (front ++ p ∷ [])) new ≡ None)
      (λ e y was now cut. ap (option_and_then (at (front ++ p ∷ []))) now
      ∙ at_take front e y ms (step_sound r old e o was) (sym (ap (option_and_then (at front)) was) ∙ is) cut)
      (was_cut_through r x old new (take (front ++ p ∷ [])) (sym (take_more r (front ++ p ∷ []) old (some_parts front [] p)) ∙ h))
