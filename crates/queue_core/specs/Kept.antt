-- Rows that are kept for their batch stand in the files.
use Rattle.std.specs.Prelude.{◌≡◌, ◌≤◌, ℕ, List, [], ◌∷◌, ◌++◌, length, drop, ⊤}
use Rattle.queue_page.specs.Grammar.{IsElement}
use Rattle.queue_core.specs.declared.kept.KeptRow.{KeptRow}

-- the element of this row stands at its place of a file, which is a page of this version
pub record StandsIn (version : ℕ) (file : List ℕ) (k : KeptRow) : Type 0 where
  pub within : k.place ≤ length file
  pub front : List ℕ
  pub rest : List ℕ
  pub parts : drop k.place file ≡ front ++ rest
  pub element : IsElement version k.place k.row front

-- none of these rows is one of a page above the head page, which has this number, and those of that page stand in its file
abbrev pub AreKept : ℕ → ℕ → List ℕ → List KeptRow → Type 0
AreKept top version file [] = ⊤
AreKept top version file (k ∷ kept) = (k.page ≤ top) × (k.page ≡ top → StandsIn version file k) × AreKept top version file kept
