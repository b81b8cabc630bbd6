-- The events of the parcels that went through the end of a link, each parcel with the answer that was heard to it.
use Rattle.std.specs.Prelude.{List, [], ◌∷◌, ◌++◌, Option, Some, None, if◌then◌else◌}
use Rattle.event_tree.specs.Events.{Ev}
use Rattle.pipeline_bus.specs.Parcels.{is_last}
use Rattle.pipeline_bus.specs.declared.parcel.Parcel.{Parcel}
use Rattle.pipeline_bus.specs.declared.parcel.Answer.{Answer}
use Rattle.pipeline_bus.specs.declared.parcel.Heard.{Heard}
use Rattle.pipeline_bus.specs.declared.parcel.Heard.TheVariants.{Assured, NotListening}

-- the n-th answer is that of the n-th parcel with events: what becomes of the events of each, by its answer
abbrev pub by_answers : (Option Heard → List Ev → List Ev) → List Parcel → List Answer → List Ev
by_answers what [] answers = []
by_answers what (p ∷ ps) [] = if is_last p then by_answers what ps [] else what None p.events ++ by_answers what ps []
by_answers what (p ∷ ps) (a ∷ answers) = if is_last p then by_answers what ps (a ∷ answers) else what (Some a.answer) p.events ++ by_answers what ps answers

abbrev pub unless_refused : Option Heard → List Ev → List Ev
unless_refused None events = events
unless_refused (Some Assured) events = events
unless_refused (Some NotListening) events = []

abbrev pub if_assured : Option Heard → List Ev → List Ev
if_assured None events = []
if_assured (Some Assured) events = events
if_assured (Some NotListening) events = []

-- the events of the parcels, less those that were answered NotListening
abbrev pub kept : List Parcel → List Answer → List Ev
kept ps answers = by_answers unless_refused ps answers

-- the events of the parcels that were answered Assured
abbrev pub assured : List Parcel → List Answer → List Ev
assured ps answers = by_answers if_assured ps answers
