-- The files that a memory object shows, call by call.
use Rattle.std.specs.Prelude.{ℕ, List, [], ◌∷◌, nat_le, if◌then◌else◌}
use Rattle.io_traits.specs.Folders.{Content}
use Rattle.io_memory.specs.Tables.{Table, content_of}
use Rattle.io_memory.specs.Scripts.{Course}
use Rattle.io_memory.specs.declared.memory_files.Showing.{Showing}

-- what it shows, each from a call on, and its script
pub record Shows : Type 0 where
  pub contents : List Showing
  pub script : Course

-- the files that a call sees: the last of those that stand from that call or an earlier one on, or else these
abbrev pub shown_from : Table → List Showing → ℕ → Table
shown_from files [] n = files
shown_from files (s ∷ rest) n = if nat_le s.from n then shown_from s.files rest n else shown_from files rest n

-- what reads of a call give
abbrev pub shown_at : Shows → ℕ → Content
shown_at s n = content_of (shown_from [] s.contents n)

-- what reads of the next call give
abbrev pub shown_now : Shows → Content
shown_now s = shown_at s s.script.made
