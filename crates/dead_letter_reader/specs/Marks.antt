-- What an event that is sent says of its letter.
use Rattle.std.specs.Prelude.{List, [], ◌∷◌, codes, true, map, Result, Ok, Err}
use Rattle.event_tree.specs.Events.{Ev, event_put, limited, to}
use Rattle.event_tree.specs.declared.fault.PutFault.{PutFault}
use Rattle.event_tree.specs.declared.value.Value.{Value}
use Rattle.event_tree.specs.declared.value.Value.TheVariants as v
use Rattle.dead_letters.specs.declared.letter.DeadLetter.{DeadLetter}
use Rattle.dead_letters.specs.declared.rows.DeadRow.{DeadRow}

abbrev pub letter_metadata : DeadLetter → Value
letter_metadata l = v.Object ((codes "entry_time", v.Time l.moment) ∷ (codes "plugin_id", v.Text l.id) ∷ (codes "plugin_type", v.Text l.kind) ∷ (codes "reason", v.Text l.reason) ∷ [])

abbrev pub or_as_it_was : Ev → Result Ev PutFault → Ev
or_as_it_was e (Ok marked) = marked
or_as_it_was e (Err fault) = e

-- the event of a letter, with what is said of it at [@metadata][dead_letter_queue]; without, where an event may not have so much
abbrev pub marked : DeadLetter → Ev
marked l = or_as_it_was l.event (limited (event_put (to true (codes "dead_letter_queue" ∷ [])) (letter_metadata l) l.event))

abbrev pub events_of : List DeadRow → List Ev
events_of rows = map (λ (r : DeadRow). marked r.letter) rows
