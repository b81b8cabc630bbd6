-- Steps laid one behind the other, and what becomes of an event that meets them.
use Rattle.std.specs.Prelude.{◌≡◌, ℕ, zero, suc, List, [], ◌∷◌, ◌++◌}
use Rattle.event_tree.specs.Events.{Ev}
use Rattle.condition_eval.specs.declared.truth.Truth.{Truth}
use Rattle.foreign_parts.specs.declared.filter.Verdict.{Verdict}
use Rattle.foreign_parts.specs.declared.place.Place.{Place}
use Rattle.event_flow.specs.Flows.{Goes, each, asks, sent, led}
use Rattle.event_flow.specs.declared.step.FlowStep.{FlowStep}
use Rattle.event_flow.specs.declared.step.FlowStep.TheVariants as step

-- what a plugin does to an event: these events stand in its place, or those that the verdict of the k-th filter gives, or it is sent to these places of an output
pub data Act : Type 0 where
  Gives : List Ev → Act
  Asks : ℕ → (Verdict → List Ev) → Act
  Sends : List ℕ → List Place → Act

-- what becomes of the event by what a plugin does
abbrev pub acted : Act → Goes → Goes
acted (Gives es) goes e = each goes es
acted (Asks k events) goes e = asks k e (λ v. each goes (events v))
acted (Sends id places) goes e = sent id places goes e

-- plugins and conditions by their numbers: what each does to an event and says of it, the ids of the conditions, and the places of outputs, each behind the id of its output
pub record Table : Type 0 where
  pub acts : ℕ → Ev → Act
  pub says : ℕ → Ev → Truth
  pub ids : ℕ → List ℕ
  pub targets : ℕ → List ℕ × Place

module _ (table : Table) where
  -- an event passes over so many steps, meets those behind them, and then goes on
  abbrev pub from : List FlowStep → ℕ → Goes → Goes
  from [] skip goes e = goes e
  from (s ∷ ss) (suc skip) goes e = from ss skip goes e
  from (step.Plugin n ∷ ss) zero goes e = acted (table.acts n e) (from ss 0 goes) e
  from (step.Test n over ∷ ss) zero goes e = led (table.ids n) (table.says n e) (from ss 0 goes) (from ss over goes) e
  from (step.Skip over ∷ ss) zero goes e = from ss over goes e

  -- the steps mean this, whatever stands behind them
  pub record Mean (ss : List FlowStep) (flow : Goes → Goes) : Type 0 where
    pub goes_on : (rest : List FlowStep) (goes : Goes) (e : Ev) → from (ss ++ rest) 0 goes e ≡ flow (from rest 0 goes) e
