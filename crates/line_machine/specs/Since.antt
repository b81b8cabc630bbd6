-- What was told since a line was last opened.
use Rattle.std.specs.Prelude.{List, [], ◌∷◌, ◌++◌}
use Rattle.history_book.specs.Entries.{Entry, Opened}

-- behind these entries and further ones, those since the last opening
abbrev pub since_behind : List Entry → List Entry → List Entry
since_behind found [] = found
since_behind found (Opened rows limit policy ∷ told) = since_behind [] told
since_behind found (e ∷ told) = since_behind (found ++ e ∷ []) told

abbrev pub since : List Entry → List Entry
since told = since_behind [] told

-- what each of these entries tells of something, one behind the other
abbrev pub of_each : {X : Type 0} → (Entry → List X) → List Entry → List X
of_each f [] = []
of_each f (e ∷ es) = f e ++ of_each f es
