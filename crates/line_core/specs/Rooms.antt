-- Room for the row of an event that an input holds is there in one way at most.
use Rattle.std.specs.Prelude.{Option, Some, None, List, [], ◌∷◌, IfSome, drop}
use Rattle.std.specs.Coded.{Unit-prop, le_prop}
use Rattle.event_tree.specs.Events.{Ev}
use Rattle.line_inputs.specs.Rows.{Noted}
use Rattle.line_inputs.specs.Sources.{LastHasRoom}
use Rattle.line_inputs.specs.Watching.{FirstHasRoom}
use Rattle.line_inputs.specs.declared.source.InputSource.{InputSource}
use Rattle.line_inputs.specs.declared.source.InputSource.TheVariants.{Stdin, Generated, Files, Connections}

first_prop : (files : List Noted) → IsProp (FirstHasRoom files)
first_prop [] = Unit-prop
first_prop (n ∷ files) = le_prop

last_prop : (s : InputSource) → IsProp (LastHasRoom s)
last_prop (Stdin s) = Unit-prop
last_prop (Generated g) = Unit-prop
last_prop (Files w) = first_prop (drop w.given_at w.files)
last_prop (Connections t) = Unit-prop

pub room_prop : (held : Option Ev) (s : InputSource) → IsProp (IfSome held (λ _. LastHasRoom s))
room_prop None s = Unit-prop
room_prop (Some event) s = last_prop s
