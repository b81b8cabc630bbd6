-- The bytes that an output with the codec `json_lines` writes.
use Rattle.std.specs.Prelude.{ℕ, List, [], ◌∷◌, ◌++◌}
use Rattle.event_tree.specs.declared.value.Value.{Value}
use Rattle.event_json.specs.Json.{json}

-- an event's row: its JSON text and a line feed
abbrev pub row_of : Value → List ℕ
row_of event = json event ++ 10 ∷ []
