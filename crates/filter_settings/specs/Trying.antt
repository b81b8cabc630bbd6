-- What is done to an event where something may fail: what was done up to then stays.
use Rattle.std.specs.Prelude.{ℕ, List, [], ◌∷◌, Bool, true, false, Result, Ok, Err}
use Rattle.event_tree.specs.Events.{Ev, Way, event_put, limited}
use Rattle.event_tree.specs.declared.fault.PutFault.{PutFault}
use Rattle.event_tree.specs.declared.value.Value.{Value}
use Rattle.event_text.specs.Options.{with_options, tagged}
use Rattle.event_text.specs.declared.applied.Applied.{Applied}
use Rattle.event_text.specs.declared.options.Options.{Options}
use Rattle.filter_settings.specs.declared.field_changes.Change.{Change}
use Rattle.filter_settings.specs.declared.field_changes.Change.TheVariants as c

-- the event, where all went well, and else what is left where something failed
abbrev pub Tried : Type 0
Tried = Result Ev Ev

abbrev pub tried : Bool → Ev → Tried
tried true e = Ok e
tried false e = Err e

-- what is done next, unless something failed
abbrev pub then_try : (Ev → Tried) → Tried → Tried
then_try f (Ok e) = f e
then_try f (Err e) = Err e

-- one thing after another, up to the first that fails
abbrev pub all_tried : {X : Type 0} → (X → Ev → Tried) → List X → Ev → Tried
all_tried f [] e = Ok e
all_tried f (x ∷ xs) e = then_try (all_tried f xs) (f x e)

-- a change that is refused fails, and leaves the event as it was
abbrev pub unless_refused : Ev → Result Ev PutFault → Tried
unless_refused old (Ok e) = Ok e
unless_refused old (Err fault) = Err old

-- the event with the value there
abbrev pub put_at : Way → Value → Ev → Tried
put_at w x e = unless_refused e (limited (event_put w x e))

-- the event once the value there became another, or stayed, or could not become what was wanted
abbrev pub change_at : Way → Change → Ev → Tried
change_at w c.Keep e = Ok e
change_at w (c.Set x) e = put_at w x e
change_at w c.Fail e = Err e

-- one event, and whether it matched
abbrev pub one_applied : Ev → Bool → Applied
one_applied e matched = record { events = e ∷ []; matched = matched }

-- what a filter makes of an event: with the options where all went well, and with the tag of a failure where not
abbrev pub finished : Options → List ℕ → Tried → Applied
finished options tag (Ok e) = one_applied (with_options options e) true
finished options tag (Err e) = one_applied (tagged tag e) false
