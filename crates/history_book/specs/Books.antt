-- What a book keeps of what it was told.
use Rattle.std.specs.Prelude.{◌≡◌, ℕ, List, [], ◌∷◌, ◌++◌, map, Bool, true, false, IsTrue, Option, Some, None, if◌then◌else◌}
use Rattle.history_book.specs.Entries.{Entry}
use Rattle.history_book.specs.BookEntries.{kept_of}
use Rattle.history_book.specs.declared.full.Told.{Told}

-- what a book keeps, and whether that is all that it was told
pub record BookView : Type 0 where
  pub entries : List Told
  pub is_whole : Bool

abbrev pub blank : BookView
blank = record { entries = []; is_whole = true }

-- its entries, each with the number of the pipeline that told it
abbrev pub history : BookView → List (ℕ × Entry)
history book = map (λ t. (t.line, kept_of t.entry)) book.entries

-- all that it was told, where it keeps all of it
abbrev pub told_by : BookView → Option (List (ℕ × Entry))
told_by book = if book.is_whole then Some (history book) else None

-- Where a book keeps all that it was told, it kept all before, and this is the last; otherwise it keeps what it kept.
pub record Adds (line : ℕ) (entry : Entry) (old new : BookView) : Type 0 where
  pub whole : IsTrue new.is_whole → old.is_whole ≡ true
  pub adds : IsTrue new.is_whole → history new ≡ history old ++ (line, entry) ∷ []
  pub stays : new.is_whole ≡ false → new.entries ≡ old.entries
