-- What is left where something was taken, level by level, and the room in it.
use Rattle.std.proofs.Common.{◌≡◌, ◌≢◌, ℕ, zero, suc, ◌+◌, ◌-◌, ◌<◌, ◌≤◌, List, [], ◌∷◌, length, Option, Some, None, option_map, option_and_then, refl, sym, ap, subst, ◌∙◌, arith, rules, slice_get, slice_set, remove}
use Rattle.std.proofs.lemmas.Option.{some_pair_parts, slice_get_within}
use Rattle.std.proofs.lemmas.List.{length-set}
use Rattle.plain_data.specs.Members.{Rises, get_member, set_member, remove_member}
use Rattle.plain_data.proofs.ChangeLemmas.{get_member-set_member, get_member-set_member-other, get_member-remove_member, get_member-remove_member-other}
use Rattle.event_tree.specs.Values.{Members}
use Rattle.event_tree.specs.Sizes.{size, less}
use Rattle.event_tree.specs.Paths.{list_place, over, cut_in, through_in, take, wrap_size}
use Rattle.event_tree.specs.Growth.{growth_in, growth, room_at_end}
use Rattle.event_tree.specs.declared.value.Value.{Value}
use Rattle.event_tree.specs.declared.value.Value.TheVariants as v
use Rattle.event_tree.proofs.Sizes.{size-List, size-Object, items_size-set, members_size-set}

pub growth-Object : (p : List ℕ) (ps : List (List ℕ)) (ms : Members) → growth (p ∷ ps) (v.Object ms) ≡ over (growth ps) (Some (0, 4 + length p + wrap_size ps)) (get_member p ms)
growth-Object p ps ms = ap (growth_in p (growth ps) (wrap_size ps)) (v.outs-Object ms)

pub growth-List : (p : List ℕ) (ps : List (List ℕ)) (vs : List Value) → growth (p ∷ ps) (v.List vs) ≡ option_and_then (λ i. over (growth ps) (Some (0, wrap_size ps)) (slice_get vs i)) (list_place p (length vs))
growth-List p ps vs = ap (growth_in p (growth ps) (wrap_size ps)) (v.outs-List vs)

-- what is left of an object without the value at a key, or with less of it
pub record CutField (p : List ℕ) (ms : Members) (x left : Value) : Type 0 where
  pub found : get_member p ms ≡ Some x
  pub left_is : left ≡ v.Object (remove_member p ms)

pub record ThroughField (p : List ℕ) (ps : List (List ℕ)) (ms : Members) (x left : Value) : Type 0 where
  pub inner : Value
  pub rest : Value
  pub found : get_member p ms ≡ Some inner
  pub taken : take ps inner ≡ Some (x, rest)
  pub left_is : left ≡ v.Object (set_member p rest ms)

-- the same of a list
pub record CutItem (p : List ℕ) (vs : List Value) (x left : Value) : Type 0 where
  pub place : ℕ
  pub place_is : list_place p (length vs) ≡ Some place
  pub found : slice_get vs place ≡ Some x
  pub left_is : left ≡ v.List (remove vs place)

pub record ThroughItem (p : List ℕ) (ps : List (List ℕ)) (vs : List Value) (x left : Value) : Type 0 where
  pub place : ℕ
  pub inner : Value
  pub rest : Value
  pub place_is : list_place p (length vs) ≡ Some place
  pub found : slice_get vs place ≡ Some inner
  pub taken : take ps inner ≡ Some (x, rest)
  pub left_is : left ≡ v.List (slice_set vs place rest)

module _ (p : List ℕ) (x left : Value) where
  pub cut_field : (ms : Members) → take (p ∷ []) (v.Object ms) ≡ Some (x, left) → CutField p ms x left
  cut_field ms h = by (get_member p ms) refl (sym (ap (cut_in p) (v.outs-Object ms)) ∙ h)
    where
      by : (o : Option Value) → get_member p ms ≡ o → option_map {U = Value × Value} (λ e. (e, v.Object (remove_member p ms))) o ≡ Some (x, left) → CutField p ms x left
      by None e k = absurd (search (k, rules))
      by (Some y) e k = let s = some_pair_parts y x (v.Object (remove_member p ms)) left k in record { found = e ∙ ap Some s.0; left_is = sym s.1 }

  pub cut_item : (vs : List Value) → take (p ∷ []) (v.List vs) ≡ Some (x, left) → CutItem p vs x left
  cut_item vs h = at_place (list_place p (length vs)) refl (sym (ap (cut_in p) (v.outs-List vs)) ∙ h)
    where
      at_item : (i : ℕ) (o : Option Value) → list_place p (length vs) ≡ Some i → slice_get vs i ≡ o → option_map {U = Value × Value} (λ e. (e, v.List (remove vs i))) o ≡ Some (x, left) → CutItem p vs x left
      at_item i None e g k = absurd (search (k, rules))
      at_item i (Some y) e g k = let s = some_pair_parts y x (v.List (remove vs i)) left k in record { place = i; place_is = e; found = g ∙ ap Some s.0; left_is = sym s.1 }

      at_place : (o : Option ℕ) → list_place p (length vs) ≡ o → option_and_then {U = Value × Value} (λ i. option_map {U = Value × Value} (λ e. (e, v.List (remove vs i))) (slice_get vs i)) o ≡ Some (x, left) → CutItem p vs x left
      at_place None e k = absurd (search (k, rules))
      at_place (Some i) e k = at_item i (slice_get vs i) e refl k

  module _ (q : List ℕ) (ps : List (List ℕ)) where
    pub through_field : (ms : Members) → take (p ∷ q ∷ ps) (v.Object ms) ≡ Some (x, left) → ThroughField p (q ∷ ps) ms x left
    through_field ms h = at_field (get_member p ms) refl (sym (ap (through_in p (take (q ∷ ps))) (v.outs-Object ms)) ∙ h)
      where
        in_field : (e : Value) (o : Option (Value × Value)) → get_member p ms ≡ Some e → take (q ∷ ps) e ≡ o → option_map {U = Value × Value} (λ r. (r.0, v.Object (set_member p r.1 ms))) o ≡ Some (x, left) → ThroughField p (q ∷ ps) ms x left
        in_field e None g t k = absurd (search (k, rules))
        in_field e (Some r) g t k = let s = some_pair_parts r.0 x (v.Object (set_member p r.1 ms)) left k in record { inner = e; rest = r.1; found = g; taken = t ∙ ap (λ y. Some (y, r.1)) s.0; left_is = sym s.1 }

        at_field : (o : Option Value) → get_member p ms ≡ o → option_and_then {U = Value × Value} (λ e. option_map {U = Value × Value} (λ r. (r.0, v.Object (set_member p r.1 ms))) (take (q ∷ ps) e)) o ≡ Some (x, left) → ThroughField p (q ∷ ps) ms x left
        at_field None g k = absurd (search (k, rules))
        at_field (Some e) g k = in_field e (take (q ∷ ps) e) g refl k

    pub through_item : (vs : List Value) → take (p ∷ q ∷ ps) (v.List vs) ≡ Some (x, left) → ThroughItem p (q ∷ ps) vs x left
    through_item vs h = at_place (list_place p (length vs)) refl (sym (ap (through_in p (take (q ∷ ps))) (v.outs-List vs)) ∙ h)
      where
        in_item : (i : ℕ) (e : Value) (o : Option (Value × Value)) → list_place p (length vs) ≡ Some i → slice_get vs i ≡ Some e → take (q ∷ ps) e ≡ o → option_map {U = Value × Value} (λ r. (r.0, v.List (slice_set vs i r.1))) o ≡ Some (x, left) → ThroughItem p (q ∷ ps) vs x left
        in_item i e None l g t k = absurd (search (k, rules))
        in_item i e (Some r) l g t k = let s = some_pair_parts r.0 x (v.List (slice_set vs i r.1)) left k in record { place = i; inner = e; rest = r.1; place_is = l; found = g; taken = t ∙ ap (λ y. Some (y, r.1)) s.0; left_is = sym s.1 }

        at_item : (i : ℕ) (o : Option Value) → list_place p (length vs) ≡ Some i → slice_get vs i ≡ o → option_and_then {U = Value × Value} (λ e. option_map {U = Value × Value} (λ r. (r.0, v.List (slice_set vs i r.1))) (take (q ∷ ps) e)) o ≡ Some (x, left) → ThroughItem p (q ∷ ps) vs x left
        at_item i None l g k = absurd (search (k, rules))
        at_item i (Some e) l g k = in_item i e (take (q ∷ ps) e) l g refl k

        at_place : (o : Option ℕ) → list_place p (length vs) ≡ o → option_and_then {U = Value × Value} (λ i. option_and_then {U = Value × Value} (λ e. option_map {U = Value × Value} (λ r. (r.0, v.List (slice_set vs i r.1))) (take (q ∷ ps) e)) (slice_get vs i)) o ≡ Some (x, left) → ThroughItem p (q ∷ ps) vs x left
        at_place None l k = absurd (search (k, rules))
        at_place (Some i) l k = at_item i (slice_get vs i) l refl k

-- the room at a key, by what stands there
module _ (room : ℕ) (q : List ℕ) (rest : List (List ℕ)) where
  abbrev pub in_object : Option Value → Option (Option ℕ)
  in_object o = option_map (λ change. less (room + change.0) change.1) (over (growth rest) (Some (0, 4 + length q + wrap_size rest)) o)

  pub in_object-none : in_object None ≡ Some (less room (4 + length q + wrap_size rest))
  in_object-none = ap (λ n. Some (less n (4 + length q + wrap_size rest))) (omega arith)

  pub room-Object : (ms : Members) → room_at_end room (q ∷ rest) (v.Object ms) ≡ in_object (get_member q ms)
  room-Object ms = ap (option_map (λ change. less (room + change.0) change.1)) (growth-Object q rest ms)

  pub room-List : (vs : List Value) → room_at_end room (q ∷ rest) (v.List vs) ≡ option_map (λ change. less (room + change.0) change.1) (option_and_then (λ i. over (growth rest) (Some (0, wrap_size rest)) (slice_get vs i)) (list_place q (length vs)))
  room-List vs = ap (option_map (λ change. less (room + change.0) change.1)) (growth-List q rest vs)

  pub other_field : (p : List ℕ) (more : List (List ℕ)) (ms : Members) (x left : Value) → p ≢ q → take (p ∷ more) (v.Object ms) ≡ Some (x, left)
      → room_at_end room (q ∷ rest) left ≡ in_object (get_member q ms)
  other_field p [] ms x left differ h =
      let c = cut_field p x left ms h in
      ap (room_at_end room (q ∷ rest)) c.left_is ∙ room-Object (remove_member p ms)
      ∙ ap in_object (get_member-remove_member-other p q differ ms)
  other_field p (m ∷ more) ms x left differ h =
      let c = through_field p x left m more ms h in
      ap (room_at_end room (q ∷ rest)) c.left_is ∙ room-Object (set_member p c.rest ms)
      ∙ ap in_object (get_member-set_member-other p q differ c.rest ms)

  pub same_field_cut : (ms : Members) (x left : Value) → Rises ms → take (q ∷ []) (v.Object ms) ≡ Some (x, left) → room_at_end room (q ∷ rest) left ≡ Some (less room (4 + length q + wrap_size rest))
  same_field_cut ms x left rises h =
      let c = cut_field q x left ms h in
      ap (room_at_end room (q ∷ rest)) c.left_is ∙ room-Object (remove_member q ms)
      ∙ ap in_object (get_member-remove_member q ms rises) ∙ in_object-none

  -- within the value at the same key
  pub same_field : (more : List (List ℕ)) (ms : Members) (x left : Value) (freed : ℕ) (inner : Value) → 0 < length more → get_member q ms ≡ Some inner → take (q ∷ more) (v.Object ms) ≡ Some (x, left) → size left + freed ≡ size (v.Object ms)
      → (y : Value) × (take more inner ≡ Some (x, y)) × (size y + freed ≡ size inner) × (room_at_end room (q ∷ rest) left ≡ room_at_end room rest y)
  same_field [] ms x left freed inner n found h s = absurd (omega arith)
  same_field (m ∷ more) ms x left freed inner n found h s =
      let c = through_field q x left m more ms h in
      let i : c.inner ≡ inner = search (sym c.found ∙ found, rules) in
      let k : size left ≡ size (v.Object (set_member q c.rest ms)) = ap size c.left_is in
      let z : size c.inner ≡ size inner = ap size i in
      let g : get_member q (set_member q c.rest ms) ≡ Some c.rest = get_member-set_member q c.rest ms ∙ ap (option_map (λ _. c.rest)) c.found in (
        c.rest,
        subst (λ e. take (m ∷ more) e ≡ Some (x, c.rest)) i c.taken,
        omega (arith, s, k, z, size-Object ms, size-Object (set_member q c.rest ms), members_size-set q ms c.inner c.rest c.found),
        ap (room_at_end room (q ∷ rest)) c.left_is ∙ room-Object (set_member q c.rest ms) ∙ ap in_object g,
      )

-- items of a list without one, or with another in its place
get_before : {X : Type 0} (xs : List X) (i j : ℕ) → j < i → slice_get (remove xs i) j ≡ slice_get xs j
get_before [] zero j h = refl
get_before [] (suc i) j h = refl
get_before (x ∷ xs) zero j h = absurd (omega arith)
get_before (x ∷ xs) (suc i) zero h = refl
get_before (x ∷ xs) (suc i) (suc j) h = get_before xs i j (omega arith)

get_after : {X : Type 0} (xs : List X) (i j : ℕ) → i ≤ j → slice_get (remove xs i) j ≡ slice_get xs (suc j)
get_after [] zero j h = refl
get_after [] (suc i) j h = refl
get_after (x ∷ xs) zero j h = refl
get_after (x ∷ xs) (suc i) zero h = absurd (omega arith)
get_after (x ∷ xs) (suc i) (suc j) h = get_after xs i j (omega arith)

pub get_set : {X : Type 0} (xs : List X) (i : ℕ) (x y : X) → slice_get xs i ≡ Some x → slice_get (slice_set xs i y) i ≡ Some y
get_set [] i x y h = absurd (search (h, rules))
get_set (z ∷ xs) zero x y h = refl
get_set (z ∷ xs) (suc i) x y h = get_set xs i x y h

get_set_other : {X : Type 0} (xs : List X) (i j : ℕ) (y : X) → i ≢ j → slice_get (slice_set xs i y) j ≡ slice_get xs j
get_set_other [] i j y h = refl
get_set_other (x ∷ xs) zero zero y h = absurd (h refl)
get_set_other (x ∷ xs) zero (suc j) y h = refl
get_set_other (x ∷ xs) (suc i) zero y h = refl
get_set_other (x ∷ xs) (suc i) (suc j) y h = get_set_other xs i j y (λ e. h (ap suc e))

length_remove : {X : Type 0} (xs : List X) (i : ℕ) → i < length xs → length (remove xs i) ≡ length xs - 1
length_remove [] i h = absurd (omega arith)
length_remove (x ∷ xs) zero h = omega arith
length_remove (x ∷ xs) (suc i) h = let k : length (remove xs i) ≡ length xs - 1 = length_remove xs i (omega arith) in omega (arith, k)

abbrev pub in_list : ℕ → List (List ℕ) → Option Value → Option (Option ℕ)
in_list room rest o = option_map (λ change. less (room + change.0) change.1) (over (growth rest) (Some (0, wrap_size rest)) o)

pub in_list-none : (room : ℕ) (rest : List (List ℕ)) → in_list room rest None ≡ Some (less room (wrap_size rest))
in_list-none room rest = ap (λ n. Some (less n (wrap_size rest))) (omega arith)

-- the room in a list that closed up, by the place where the item was before
module _ (room : ℕ) (q : List ℕ) (rest : List (List ℕ)) (vs : List Value) where
  room_placed : (us : List Value) (o : Option ℕ) → list_place q (length us) ≡ o → room_at_end room (q ∷ rest) (v.List us) ≡ option_and_then (λ i. in_list room rest (slice_get us i)) o
  room_placed us None e = room-List room q rest us ∙ ap (λ o. option_map (λ change. less (room + change.0) change.1) (option_and_then (λ i. over (growth rest) (Some (0, wrap_size rest)) (slice_get us i)) o)) e
  room_placed us (Some i) e = room-List room q rest us ∙ ap (λ o. option_map (λ change. less (room + change.0) change.1) (option_and_then (λ i. over (growth rest) (Some (0, wrap_size rest)) (slice_get us i)) o)) e

  module _ (gone : ℕ) (within : gone < length vs) where
    pub closed_nowhere : list_place q (length vs - 1) ≡ None → room_at_end room (q ∷ rest) (v.List (remove vs gone)) ≡ None
    closed_nowhere e = room_placed (remove vs gone) None (ap (list_place q) (length_remove vs gone within) ∙ e)

    pub closed_before : (i : ℕ) → list_place q (length vs - 1) ≡ Some i → i < gone → room_at_end room (q ∷ rest) (v.List (remove vs gone)) ≡ in_list room rest (slice_get vs i)
    closed_before i e h = room_placed (remove vs gone) (Some i) (ap (list_place q) (length_remove vs gone within) ∙ e)
        ∙ ap (in_list room rest) (get_before vs gone i h)

    pub closed_after : (i : ℕ) → list_place q (length vs - 1) ≡ Some i → gone ≤ i → room_at_end room (q ∷ rest) (v.List (remove vs gone)) ≡ in_list room rest (slice_get vs (i + 1))
    closed_after i e h = room_placed (remove vs gone) (Some i) (ap (list_place q) (length_remove vs gone within) ∙ e)
        ∙ ap (in_list room rest) (get_after vs gone i h ∙ ap (slice_get vs) (omega arith))

-- the place where an item was taken
pub closed : (p : List ℕ) (vs : List Value) (x left : Value) (i : ℕ) → take (p ∷ []) (v.List vs) ≡ Some (x, left) → list_place p (length vs) ≡ Some i → (i < length vs) × (left ≡ v.List (remove vs i))
closed p vs x left i h place =
    let c = cut_item p x left vs h in
    let same : c.place ≡ i = search (sym c.place_is ∙ place, rules) in
    (slice_get_within vs i x (ap (slice_get vs) (sym same) ∙ c.found), c.left_is ∙ ap (λ k. v.List (remove vs k)) same)

-- the room where something was taken from within an item
module _ (room : ℕ) (q : List ℕ) (rest : List (List ℕ)) (vs : List Value) (p : List ℕ) (more : List (List ℕ)) (x left : Value) (gone : ℕ) (deeper : 0 < length more) (at_gone : list_place p (length vs) ≡ Some gone) (h : take (p ∷ more) (v.List vs) ≡ Some (x, left)) where
  within : ThroughItem p more vs x left
  within = by more deeper h
    where
      by : (more : List (List ℕ)) → 0 < length more → take (p ∷ more) (v.List vs) ≡ Some (x, left) → ThroughItem p more vs x left
      by [] n k = absurd (omega arith)
      by (m ∷ ms) n k = through_item p x left m ms vs k

  abbrev y : Value
  y = within.rest

  same_place : within.place ≡ gone
  same_place = search (sym within.place_is ∙ at_gone, rules)

  placed : (o : Option ℕ) → list_place q (length vs) ≡ o → room_at_end room (q ∷ rest) left ≡ option_and_then (λ i. in_list room rest (slice_get (slice_set vs gone y) i)) o
  placed o e = ap (room_at_end room (q ∷ rest)) (within.left_is ∙ ap (λ i. v.List (slice_set vs i y)) same_place) ∙ room_placed room q rest vs (slice_set vs gone y) o (ap (list_place q) (length-set vs gone y) ∙ e)

  pub no_item : list_place q (length vs) ≡ None → room_at_end room (q ∷ rest) left ≡ None
  no_item e = placed None e

  pub other_item : (i : ℕ) → list_place q (length vs) ≡ Some i → gone ≢ i → room_at_end room (q ∷ rest) left ≡ in_list room rest (slice_get vs i)
  other_item i e apart = placed (Some i) e ∙ ap (in_list room rest) (get_set_other vs gone i y apart)

  pub same_item : (freed : ℕ) (inner : Value) → list_place q (length vs) ≡ Some gone → slice_get vs gone ≡ Some inner → size left + freed ≡ size (v.List vs)
      → (y : Value) × (take more inner ≡ Some (x, y)) × (size y + freed ≡ size inner) × (room_at_end room (q ∷ rest) left ≡ room_at_end room rest y)
  same_item freed inner e found s =
      let f : slice_get vs gone ≡ Some within.inner = ap (slice_get vs) (sym same_place) ∙ within.found in
      let i : within.inner ≡ inner = search (sym f ∙ found, rules) in
      let k : size left ≡ size (v.List (slice_set vs gone y)) = ap size (within.left_is ∙ ap (λ i. v.List (slice_set vs i y)) same_place) in
      let z : size within.inner ≡ size inner = ap size i in (
        y,
        subst (λ e. take more e ≡ Some (x, y)) i within.taken,
        omega (arith, s, k, z, size-List vs, size-List (slice_set vs gone y), items_size-set vs gone within.inner y f),
        placed (Some gone) e ∙ ap (in_list room rest) (get_set vs gone within.inner y f),
      )
