-- What a configuration means: what it derives of events, and what is due to be delivered of them.
use Rattle.std.specs.Prelude.{◌≡◌, ℕ, ◌+◌, List, [], ◌∷◌, ◌++◌, map, flat_map, Bool, true, false, ◌&&◌, if◌then◌else◌, codes, bytes_eq, nat_eq}
use Rattle.event_tree.specs.Events.{Ev}
use Rattle.event_tree.specs.declared.lists.DeadPart.{DeadPart}
use Rattle.config_tree.specs.declared.tree.Config.{Config}
use Rattle.config_tree.specs.declared.tree.Plugin.{Plugin}
use Rattle.foreign_parts.specs.declared.filter.Verdict.{Verdict}
use Rattle.foreign_parts.specs.declared.place.Place.{Place}
use Rattle.foreign_parts.specs.declared.place.Place.TheVariants as place
use Rattle.event_flow.specs.Flows.{Derived, To, Dead, Goes, Filtered, nothing, each, filtered, sent}
use Rattle.event_flow.specs.Ids.{plugin_id, condition_id}
use Rattle.event_flow.specs.Parts.{Section, parts_of}
use Rattle.event_flow.specs.Places.{Draws, places_of}

-- what each filter makes of an event, by its name and its settings
abbrev pub Makes : Type 0
Makes = Plugin → Ev → Filtered

abbrev pub filter_section : Makes → Section
filter_section makes = record {
  meets = λ k p goes e. filtered k (makes p e) goes e;
  condition_id = condition_id (codes "filter");
}

abbrev pub output_section : Draws → Section
output_section draws = record {
  meets = λ k p. sent (plugin_id (codes "output") k p) (places_of draws (plugin_id (codes "output") k p) p);
  condition_id = condition_id (codes "output");
}

-- An event meets the filters, and each event that they leave meets the outputs.
unfoldable pub flow_of : Makes → Config → Draws → Goes
flow_of makes config draws =
    (parts_of config.filters).flow (filter_section makes) 1 1
    ((parts_of config.outputs).flow (output_section draws) 1 1 (λ e. nothing))

module _ (makes : Makes) (config : Config) (draws : Draws) where
  -- what the configuration derives of an event, with these verdicts of its boxed filters
  abbrev pub derive : Ev → List Verdict → List Derived
  derive e verdicts = (flow_of makes config draws e verdicts).derived

  -- the same of each of these events in order
  abbrev pub derive_each : List Ev → List Verdict → List Derived
  derive_each es verdicts = (each (flow_of makes config draws) es verdicts).derived

  -- these verdicts are used, all of them, and no more are wanted
  pub record UsesExactly (es : List Ev) (verdicts : List Verdict) : Type 0 where
    pub enough : (each (flow_of makes config draws) es verdicts).enough ≡ true
    pub none_left : (each (flow_of makes config draws) es verdicts).left ≡ []

-- the dead among what is derived
abbrev pub dead_in : List Derived → List DeadPart
dead_in [] = []
dead_in (To id at e ∷ ds) = dead_in ds
dead_in (Dead d ∷ ds) = d ∷ dead_in ds

abbrev pub same_place : Place → Place → Bool
same_place place.Stdout place.Stdout = true
same_place (place.File path) (place.File other) = bytes_eq path other
same_place (place.Address address) (place.Address other) = bytes_eq address other
same_place (place.Foreign number) (place.Foreign other) = nat_eq number other
same_place place.Discard place.Discard = true
same_place place.Dead place.Dead = true
same_place _ _ = false

-- the events that an output sends to a place, among what is derived
abbrev pub sent_in : List ℕ → Place → List Derived → List Ev
sent_in id at [] = []
sent_in id at (To other there e ∷ ds) = if bytes_eq id other && same_place at there then e ∷ sent_in id at ds else sent_in id at ds
sent_in id at (Dead d ∷ ds) = sent_in id at ds

-- a delivery that is due: letters to the dead letter queue, or events of an output to one of its places
pub data Due : Type 0 where
  Letters : List DeadPart → Due
  Events : List ℕ → Place → List Ev → Due

-- an empty delivery is left out
abbrev pub some_letters : List DeadPart → List Due
some_letters [] = []
some_letters (d ∷ ds) = Letters (d ∷ ds) ∷ []

abbrev pub some_events : List ℕ → Place → List Ev → List Due
some_events id at [] = []
some_events id at (e ∷ es) = Events id at (e ∷ es) ∷ []

-- the outputs of a text from the k-th on, each with each of its places
abbrev pub targets_from : Draws → ℕ → List Plugin → List (List ℕ × Place)
targets_from draws k [] = []
targets_from draws k (p ∷ ps) =
    map (λ at. (plugin_id (codes "output") k p, at)) (places_of draws (plugin_id (codes "output") k p) p) ++ targets_from draws (k + 1) ps

abbrev pub targets : Draws → Config → List (List ℕ × Place)
targets draws config = targets_from draws 1 (parts_of config.outputs).plugins

-- the deliveries of what is derived: the dead first, and then, of each output in the order of the text and of each of its places, the events that it sends there
abbrev pub deliveries : List (List ℕ × Place) → List Derived → List Due
deliveries tos ds = some_letters (dead_in ds) ++ flat_map (λ to. some_events to.0 to.1 (sent_in to.0 to.1 ds)) tos

-- the deliveries that are due of a batch
unfoldable pub due : Makes → Config → Draws → List Ev → List Verdict → List Due
due makes config draws es verdicts = deliveries (targets draws config) (derive_each makes config draws es verdicts)
