-- Files by their names, as a store in memory keeps them.
use Rattle.std.specs.Prelude.{◌≡◌, ◌++◌, ℕ, List, Option, Some, if◌then◌else◌}
use Rattle.plain_data.specs.Keys.{same_key}
use Rattle.plain_data.specs.Members.{get_member}
use Rattle.io_traits.specs.Folders.{Content}
use Rattle.io_traits.specs.Reads.{bytes_of}
use Rattle.io_traits.specs.Images.{overlaid}

abbrev pub Table : Type 0
Table = List (List ℕ × List ℕ)

-- what reads of it give
abbrev pub content_of : Table → Content
content_of files name = get_member name files

-- the file of one name was changed, and no other
pub record Changed (name : List ℕ) (change : Option (List ℕ) → Option (List ℕ)) (old new : Table) : Type 0 where
  pub each : (n : List ℕ) → content_of new n ≡ (if same_key name n then change (content_of old n) else content_of old n)

-- each file reads as before
pub record IsSame (old new : Table) : Type 0 where
  pub each : (n : List ℕ) → content_of new n ≡ content_of old n

-- a file with bytes behind its end, and with bytes over its own from a place on; a missing one has no bytes
abbrev pub lengthened : List ℕ → Option (List ℕ) → Option (List ℕ)
lengthened bytes file = Some (bytes_of file ++ bytes)

abbrev pub overwritten : ℕ → List ℕ → Option (List ℕ) → Option (List ℕ)
overwritten at bytes file = Some (overlaid at bytes (bytes_of file))
