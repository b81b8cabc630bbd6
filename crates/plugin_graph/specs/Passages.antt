-- What came of a batch.
use Rattle.std.specs.Prelude.{◌≡◌, ℕ, List, [], ◌∷◌, ◌++◌}
use Rattle.event_tree.specs.Events.{Ev}
use Rattle.config_tree.specs.declared.tree.Config.{Config}
use Rattle.foreign_parts.specs.declared.filter.Verdict.{Verdict}
use Rattle.event_flow.specs.Flows.{Derived, To, Dead, each}
use Rattle.event_flow.specs.Marks.{Mark, AllMay, derived_in, verdicts_in}
use Rattle.event_flow.specs.Meaning.{Makes, UsesExactly, dead_in, derive_each, flow_of}
use Rattle.event_flow.specs.Places.{Draws}
use Rattle.plugin_graph.specs.declared.passage.Passage.{Passage}
use Rattle.plugin_graph.specs.declared.passage.Sent.{Sent}

-- the events that are sent, among what is derived
abbrev pub sent_of : List Derived → List Sent
sent_of [] = []
sent_of (To id at e ∷ ds) = record { target = record { output = id; place = at }; event = e } ∷ sent_of ds
sent_of (Dead d ∷ ds) = sent_of ds

-- what the marks of cells say, behind what came of a batch so far
abbrev pub with_marks : Passage → List Mark → Passage
with_marks p ms = record {
  sent = p.sent ++ sent_of (derived_in ms);
  dead = p.dead ++ dead_in (derived_in ms);
  verdicts = p.verdicts ++ verdicts_in ms;
}

abbrev pub passage_of : List Mark → Passage
passage_of ms = record { sent = sent_of (derived_in ms); dead = dead_in (derived_in ms); verdicts = verdicts_in ms }

-- With its own verdicts, which are used exactly and may each be the answer of their filter, it is what the configuration derives of the events.
pub record IsPassageOf (may : ℕ → Ev → Verdict → Type 0) (makes : Makes) (config : Config) (draws : Draws) (es : List Ev) (p : Passage) : Type 0 where
  pub sent : p.sent ≡ sent_of (derive_each makes config draws es p.verdicts)
  pub dead : p.dead ≡ dead_in (derive_each makes config draws es p.verdicts)
  pub exactly : UsesExactly makes config draws es p.verdicts
  pub may_be : AllMay may (each (flow_of makes config draws) es p.verdicts).asked
