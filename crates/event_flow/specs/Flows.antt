-- What becomes of events, while the verdicts of boxed filters are used up.
use Rattle.std.specs.Prelude.{ℕ, List, [], ◌∷◌, ◌++◌, map, Bool, true, false, ◌&&◌, codes}
use Rattle.event_tree.specs.Events.{Ev}
use Rattle.event_tree.specs.declared.lists.DeadPart.{DeadPart}
use Rattle.condition_eval.specs.Texts.{reason_text}
use Rattle.condition_eval.specs.declared.truth.Reason.{Reason}
use Rattle.condition_eval.specs.declared.truth.Truth.{Truth}
use Rattle.condition_eval.specs.declared.truth.Truth.TheVariants as truth
use Rattle.foreign_parts.specs.declared.filter.Verdict.{Verdict}
use Rattle.foreign_parts.specs.declared.place.Place.{Place}

-- what is derived of an event: an output sends one to a place, or one is dead
pub data Derived : Type 0 where
  To : List ℕ → Place → Ev → Derived
  Dead : DeadPart → Derived

-- a verdict that was used: that of the k-th filter of the text, on this event
pub record Asked : Type 0 where
  pub filter : ℕ
  pub event : Ev
  pub verdict : Verdict

-- what was derived and which verdicts were used, both in order, the verdicts that are left, and whether there were enough
pub record Run : Type 0 where
  pub derived : List Derived
  pub asked : List Asked
  pub left : List Verdict
  pub enough : Bool

-- what happens, with these verdicts still to be used
abbrev pub Flow : Type 0
Flow = List Verdict → Run

-- what becomes of an event that comes here
abbrev pub Goes : Type 0
Goes = Ev → Flow

-- these are derived
abbrev pub derives : List Derived → Flow
derives ds vs = record { derived = ds; asked = []; left = vs; enough = true }

abbrev pub nothing : Flow
nothing = derives []

-- one after the other
abbrev pub behind : Flow → Flow → Flow
behind f g vs = record {
  derived = (f vs).derived ++ (g (f vs).left).derived;
  asked = (f vs).asked ++ (g (f vs).left).asked;
  left = (g (f vs).left).left;
  enough = (f vs).enough && (g (f vs).left).enough;
}

-- each event in order, and everything that becomes of it before the next
abbrev pub each : Goes → List Ev → Flow
each goes [] = nothing
each goes (e ∷ es) = behind (goes e) (each goes es)

-- the next verdict is that of the k-th filter on this event; where none is left there were not enough
abbrev pub asks : ℕ → Ev → (Verdict → Flow) → Flow
asks k e next [] = record { derived = []; asked = []; left = []; enough = false }
asks k e next (v ∷ vs) = record {
  derived = (next v vs).derived;
  asked = record { filter = k; event = e; verdict = v } ∷ (next v vs).asked;
  left = (next v vs).left;
  enough = (next v vs).enough;
}

-- what a filter makes of an event: these events, or those that its verdict gives
pub data Filtered : Type 0 where
  Gives : List Ev → Filtered
  Asks : (Verdict → List Ev) → Filtered

-- the events that the k-th filter makes of one go on, each in order
abbrev pub filtered : ℕ → Filtered → Goes → Goes
filtered k (Gives es) goes e = each goes es
filtered k (Asks events) goes e = asks k e (λ v. each goes (events v))

-- an output sends an event to each of its places, and the event goes on
abbrev pub sent : List ℕ → List Place → Goes → Goes
sent id places goes e = behind (derives (map (λ place. To id place e) places)) (goes e)

-- the letter of an event whose condition is wrong, with the condition's id
abbrev pub wrong_letter : List ℕ → Reason → Ev → DeadPart
wrong_letter id reason e = record { kind = codes "if"; id = id; reason = reason_text reason; event = e }

-- where a condition leads an event: into its block, or to what stands behind that; where the condition is wrong the event is dead, and goes no further anywhere
abbrev pub led : List ℕ → Truth → Goes → Goes → Goes
led id truth.Yes block others e = block e
led id truth.No block others e = others e
led id (truth.Wrong reason) block others e = derives (Dead (wrong_letter id reason e) ∷ [])
