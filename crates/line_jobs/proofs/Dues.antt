-- The deliveries of what is sent are those that are due, where each output has an id of its own.
use Rattle.std.proofs.Common.{◌≡◌, ℕ, ◌+◌, Bool, true, false, ◌&&◌, not, if◌then◌else◌, List, [], ◌∷◌, ◌++◌, map, flat_map, Option, Some, None, refl, sym, ap, ap₂, ◌∙◌, subst, codes, bytes_eq}
use Rattle.std.specs.List.{filter}
use Rattle.std.proofs.lemmas.Bool.{false≢true}
use Rattle.std.proofs.lemmas.List.{map-append}
use Rattle.std.proofs.lemmas.List.Concat.{flat_map-append}
use Rattle.std.proofs.lemmas.Slice.Eq.{bytes_eq-Decides}
use Rattle.event_tree.specs.Events.{Ev}
use Rattle.event_tree.specs.Paths.{over}
use Rattle.config_tree.specs.declared.tree.Config.{Config}
use Rattle.config_tree.specs.declared.tree.Plugin.{Plugin}
use Rattle.foreign_parts.specs.declared.filter.Verdict.{Verdict}
use Rattle.foreign_parts.specs.declared.place.Place.{Place}
use Rattle.foreign_parts.specs.declared.place.Place.TheVariants as place
use Rattle.event_flow.specs.Flows.{Derived, To, Dead}
use Rattle.event_flow.specs.Meaning.{Due, dead_in, derive_each, due, same_place, sent_in, some_events, some_letters}
use Rattle.event_flow.specs.Meaning as meaning
use Rattle.event_flow.specs.Parts.{parts_of}
use Rattle.event_flow.specs.Places.{Draws, once, places_of}
use Rattle.built_plugins.specs.Makes.{makes}
use Rattle.built_plugins.specs.Numbering.{output_id, output_places, targets_from, targets_of}
use Rattle.built_plugins.specs.declared.output.Target.{Target}
use Rattle.plugin_graph.specs.Passages.{sent_of}
use Rattle.plugin_graph.specs.declared.passage.Sent.{Sent}
use Rattle.graph_checks.specs.OwnIds.{AreApart, HaveOwnIds, ids_from}
use Rattle.graph_checks.specs.Planned.{planned_outputs}
use Rattle.graph_checks.specs.Plugins.{stands}
use Rattle.graph_checks.specs.declared.planned.PlannedOutputs.{PlannedOutputs}
use Rattle.graph_checks.proofs.OwnIds.{apart, or_false}
use Rattle.line_jobs.specs.Deliveries.{deliveries_of, deliveries_to, delivery, events_to, goes_to, sent_elsewhere}
use Rattle.line_jobs.specs.Dues.{IsWhatIsDue, as_due}
use Rattle.line_jobs.specs.declared.batch_result.DueDelivery.{DueDelivery}

-- the events of an output at a place, as they are derived
events_sent : (t : Target) (ds : List Derived) → events_to t (sent_of ds) ≡ sent_in t.output t.place ds
events_sent t [] = refl
events_sent t (To other at e ∷ ds) = ap (λ es. if bytes_eq t.output other && same_place t.place at then e ∷ es else es) (events_sent t ds)
events_sent t (Dead d ∷ ds) = events_sent t ds

-- nothing that goes to the one target goes to the other
abbrev IsApart : Target → Target → Type 0
IsApart t u = (s : Sent) → goes_to t s ≡ true → goes_to u s ≡ false

abbrev IsApartFrom : Target → List Target → Type 0
IsApartFrom t [] = Unit {0}
IsApartFrom t (u ∷ us) = IsApart t u × IsApartFrom t us

abbrev AreDistinct : List Target → Type 0
AreDistinct [] = Unit {0}
AreDistinct (t ∷ ts) = IsApartFrom t ts × AreDistinct ts

-- what goes to another target is still there
elsewhere : (t u : Target) → IsApart t u → (sent : List Sent) → events_to u (sent_elsewhere t sent) ≡ events_to u sent
elsewhere t u is [] = refl
elsewhere t u is (s ∷ sent) = by (goes_to t s) refl (elsewhere t u is sent)
  where
    by : (b : Bool) → goes_to t s ≡ b → events_to u (sent_elsewhere t sent) ≡ events_to u sent
        → events_to u (if b then sent_elsewhere t sent else s ∷ sent_elsewhere t sent) ≡ (if goes_to u s then s.event ∷ events_to u sent else events_to u sent)
    by true goes behind = behind ∙ ap (λ b. if b then s.event ∷ events_to u sent else events_to u sent) (sym (is s goes))
    by false goes behind = ap (λ es. if goes_to u s then s.event ∷ es else es) behind

module _ (outgoing : PlannedOutputs) where
  -- what is due to a target by itself
  abbrev own_delivery : List Sent → Target → List DueDelivery
  own_delivery sent t = delivery outgoing t (events_to t sent)

  others_same : (t : Target) (us : List Target) (sent : List Sent) → IsApartFrom t us → flat_map (own_delivery (sent_elsewhere t sent)) us ≡ flat_map (own_delivery sent) us
  others_same t [] sent is = refl
  others_same t (u ∷ us) sent is = ap₂ (λ a b. a ++ b) (ap (delivery outgoing u) (elsewhere t u is.0 sent)) (others_same t us sent is.1)

  each_by_itself : (ts : List Target) (sent : List Sent) → AreDistinct ts → deliveries_to outgoing ts sent ≡ flat_map (own_delivery sent) ts
  each_by_itself [] sent are = refl
  each_by_itself (t ∷ ts) sent are = ap (λ ds. own_delivery sent t ++ ds) (each_by_itself ts (sent_elsewhere t sent) are.1 ∙ others_same t ts sent are.0)

  as_some : (t : Target) (es : List Ev) → map as_due (delivery outgoing t es) ≡ some_events t.output t.place es
  as_some t [] = refl
  as_some t (e ∷ es) = refl

  module _ (ds : List Derived) where
    -- the events that are due to a target
    abbrev due_to : List ℕ × Place → List Due
    due_to to = some_events to.0 to.1 (sent_in to.0 to.1 ds)

    at_places : (id : List ℕ) (places : List Place) → map as_due (flat_map (own_delivery (sent_of ds)) (targets_of id places)) ≡ flat_map due_to (map (λ at. (id, at)) places)
    at_places id [] = refl
    at_places id (at ∷ places) =
        let t : Target = record { output = id; place = at } in
        map-append as_due (own_delivery (sent_of ds) t) (flat_map (own_delivery (sent_of ds)) (targets_of id places))
        ∙ ap₂ (λ a b. a ++ b) (as_some t (events_to t (sent_of ds)) ∙ ap (some_events id at) (events_sent t ds)) (at_places id places)

    at_outputs : (draws : Draws) (k : ℕ) (ps : List Plugin) → map as_due (flat_map (own_delivery (sent_of ds)) (targets_from draws k ps)) ≡ flat_map due_to (meaning.targets_from draws k ps)
    at_outputs draws k [] = refl
    at_outputs draws k (p ∷ ps) =
        let own = own_delivery (sent_of ds) in
        let here = targets_of (output_id k p) (output_places draws k p) in
        let behind = targets_from draws (k + 1) ps in
        ap (map as_due) (flat_map-append own here behind)
        ∙ map-append as_due (flat_map own here) (flat_map own behind)
        ∙ ap₂ (λ a b. a ++ b) (at_places (output_id k p) (output_places draws k p)) (at_outputs draws (k + 1) ps)
        ∙ sym (flat_map-append due_to (map (λ at. (output_id k p, at)) (output_places draws k p)) (meaning.targets_from draws (k + 1) ps))

first_true : (a b : Bool) → (a && b) ≡ true → a ≡ true
first_true true b is = refl
first_true false b is = is

second_true : (a b : Bool) → (a && b) ≡ true → b ≡ true
second_true true b is = is
second_true false b is = absurd (false≢true is)

second_false : (a b : Bool) → b ≡ false → (a && b) ≡ false
second_false true b is = is
second_false false b is = refl

-- another text is not the one that was found
not_found : (one other found : List ℕ) → bytes_eq one other ≡ false → bytes_eq one found ≡ true → bytes_eq other found ≡ false
not_found one other found is same = subst (λ x. bytes_eq other x ≡ false) ((bytes_eq-Decides one found).0 same) (apart one other is)

apart_ids : (t u : Target) → bytes_eq t.output u.output ≡ false → IsApart t u
apart_ids t u is s goes =
    let id = first_true (bytes_eq t.output s.target.output) (same_place t.place s.target.place) goes in
    ap (λ b. b && same_place u.place s.target.place) (not_found t.output u.output s.target.output is id)

other_address : (one other : List ℕ) (at : Place) → bytes_eq one other ≡ false → same_place (place.Address one) at ≡ true → same_place (place.Address other) at ≡ false
other_address one other place.Stdout is same = refl
other_address one other (place.File path) is same = refl
other_address one other (place.Address address) is same = not_found one other address is same
other_address one other (place.Foreign number) is same = refl
other_address one other place.Discard is same = refl
other_address one other place.Dead is same = refl

abbrev address_target : List ℕ → List ℕ → Target
address_target id address = record { output = id; place = place.Address address }

apart_addresses : (id one other : List ℕ) → bytes_eq one other ≡ false → IsApart (address_target id one) (address_target id other)
apart_addresses id one other is s goes =
    let there = second_true (bytes_eq id s.target.output) (same_place (place.Address one) s.target.place) goes in
    second_false (bytes_eq id s.target.output) (same_place (place.Address other) s.target.place) (other_address one other s.target.place is there)

abbrev at_addresses : List ℕ → List (List ℕ) → List Target
at_addresses id addresses = targets_of id (map place.Address addresses)

module _ (id : List ℕ) where
  kept_apart : (t : Target) (f : List ℕ → Bool) (xs : List (List ℕ)) → IsApartFrom t (at_addresses id xs) → IsApartFrom t (at_addresses id (filter f xs))
  kept_apart t f [] is = tt
  kept_apart t f (x ∷ xs) is = by (f x) (kept_apart t f xs is.1)
    where
      by : (b : Bool) → IsApartFrom t (at_addresses id (filter f xs)) → IsApartFrom t (at_addresses id (if b then x ∷ filter f xs else filter f xs))
      by true behind = (is.0, behind)
      by false behind = behind

  kept_distinct : (f : List ℕ → Bool) (xs : List (List ℕ)) → AreDistinct (at_addresses id xs) → AreDistinct (at_addresses id (filter f xs))
  kept_distinct f [] are = tt
  kept_distinct f (x ∷ xs) are = by (f x) (kept_apart (address_target id x) f xs are.0) (kept_distinct f xs are.1)
    where
      by : (b : Bool) → IsApartFrom (address_target id x) (at_addresses id (filter f xs)) → AreDistinct (at_addresses id (filter f xs))
          → AreDistinct (at_addresses id (if b then x ∷ filter f xs else filter f xs))
      by true here behind = (here, behind)
      by false here behind = behind

  others_apart : (one : List ℕ) (xs : List (List ℕ)) → IsApartFrom (address_target id one) (at_addresses id (filter (λ other. not (bytes_eq one other)) xs))
  others_apart one [] = tt
  others_apart one (x ∷ xs) = by (bytes_eq one x) refl (others_apart one xs)
    where
      by : (b : Bool) → bytes_eq one x ≡ b → IsApartFrom (address_target id one) (at_addresses id (filter (λ other. not (bytes_eq one other)) xs))
          → IsApartFrom (address_target id one) (at_addresses id (if not b then x ∷ filter (λ other. not (bytes_eq one other)) xs else filter (λ other. not (bytes_eq one other)) xs))
      by true is behind = behind
      by false is behind = (apart_addresses id one x is, behind)

  once_distinct : (xs : List (List ℕ)) → AreDistinct (at_addresses id (once xs))
  once_distinct [] = tt
  once_distinct (x ∷ xs) = (others_apart x (once xs), kept_distinct (λ other. not (bytes_eq x other)) (once xs) (once_distinct xs))

  at_file : (path : Option (List ℕ)) → AreDistinct (targets_of id (over (λ path. place.File path ∷ []) [] path))
  at_file None = tt
  at_file (Some path) = (tt, tt)

  at_some : (addresses : Option (List (List ℕ))) → AreDistinct (targets_of id (over (λ addresses. map place.Address (once addresses)) [] addresses))
  at_some None = tt
  at_some (Some addresses) = once_distinct addresses

  at_box : (number : Option ℕ) → AreDistinct (targets_of id (over (λ n. place.Foreign n ∷ []) [] number))
  at_box None = tt
  at_box (Some n) = (tt, tt)

  -- the places of an output, by the tests of its name
  by_name : (a b c d : Bool) (path : Option (List ℕ)) (addresses : Option (List (List ℕ))) (number : Option ℕ)
      → AreDistinct (targets_of id (if a then place.Stdout ∷ [] else (if b then over (λ path. place.File path ∷ []) [] path else (if c then over (λ addresses. map place.Address (once addresses)) [] addresses else (if d then place.Discard ∷ [] else over (λ n. place.Foreign n ∷ []) [] number)))))
  by_name true b c d path addresses number = (tt, tt)
  by_name false true c d path addresses number = at_file path
  by_name false false true d path addresses number = at_some addresses
  by_name false false false true path addresses number = (tt, tt)
  by_name false false false false path addresses number = at_box number

own_places : (draws : Draws) (id : List ℕ) (p : Plugin) → AreDistinct (targets_of id (places_of draws id p))
own_places draws id p = by_name id (bytes_eq p.name (codes "stdout")) (bytes_eq p.name (codes "file")) (bytes_eq p.name (codes "pipeline")) (bytes_eq p.name (codes "sink")) _ _ _

apart_from_both : (t : Target) (us vs : List Target) → IsApartFrom t us → IsApartFrom t vs → IsApartFrom t (us ++ vs)
apart_from_both t [] vs from_us from_vs = from_vs
apart_from_both t (u ∷ us) vs from_us from_vs = (from_us.0, apart_from_both t us vs from_us.1 from_vs)

apart_from_places : (t : Target) (id : List ℕ) (places : List Place) → bytes_eq t.output id ≡ false → IsApartFrom t (targets_of id places)
apart_from_places t id [] is = tt
apart_from_places t id (at ∷ places) is = (apart_ids t (record { output = id; place = at }) is, apart_from_places t id places is)

module _ (draws : Draws) where
  apart_from_outputs : (t : Target) (k : ℕ) (ps : List Plugin) → stands t.output (ids_from k ps) ≡ false → IsApartFrom t (targets_from draws k ps)
  apart_from_outputs t k [] none = tt
  apart_from_outputs t k (p ∷ ps) none =
      let each = or_false (bytes_eq t.output (output_id k p)) (stands t.output (ids_from (k + 1) ps)) none in
      apart_from_both t (targets_of (output_id k p) (output_places draws k p)) (targets_from draws (k + 1) ps)
      (apart_from_places t (output_id k p) (output_places draws k p) each.0) (apart_from_outputs t (k + 1) ps each.1)

  places_in_front : (id : List ℕ) (places : List Place) (us : List Target) → AreDistinct (targets_of id places) → AreDistinct us → ((at : Place) → IsApartFrom (record { output = id; place = at }) us)
      → AreDistinct (targets_of id places ++ us)
  places_in_front id [] us own are from_us = are
  places_in_front id (at ∷ places) us own are from_us =
      (apart_from_both (record { output = id; place = at }) (targets_of id places) us own.0 (from_us at), places_in_front id places us own.1 are from_us)

  all_distinct : (k : ℕ) (ps : List Plugin) → AreApart (ids_from k ps) → AreDistinct (targets_from draws k ps)
  all_distinct k [] own = tt
  all_distinct k (p ∷ ps) own =
      places_in_front (output_id k p) (output_places draws k p) (targets_from draws (k + 1) ps) (own_places draws (output_id k p) p) (all_distinct (k + 1) ps own.1)
      (λ at. apart_from_outputs (record { output = output_id k p; place = at }) (k + 1) ps own.0)

pub deliveries_due : (config : Config) (draws : Draws) (es : List Ev) (verdicts : List Verdict) → HaveOwnIds config
    → IsWhatIsDue config draws es verdicts (deliveries_of (planned_outputs draws config) (sent_of (derive_each makes config draws es verdicts)))
unfolding due
deliveries_due config draws es verdicts own =
    let ds = derive_each makes config draws es verdicts in
    let ps = (parts_of config.outputs).plugins in
    let outgoing = planned_outputs draws config in
    ap (λ x. some_letters (dead_in ds) ++ map as_due x) (each_by_itself outgoing (targets_from draws 1 ps) (sent_of ds) (all_distinct draws 1 ps own))
    ∙ ap (λ x. some_letters (dead_in ds) ++ x) (at_outputs outgoing ds draws 1 ps)
