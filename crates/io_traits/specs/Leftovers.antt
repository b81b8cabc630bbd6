-- Some images of a store: what becomes of its files where a stop keeps each change, loses it, tears it, or leaves stale bytes.
use Rattle.std.specs.Prelude.{ℕ, ◌+◌, ◌-◌, ◌/◌, min, List, [], ◌∷◌, ◌++◌, length, take, replicate, Option, Some, None, option_map, if◌then◌else◌}
use Rattle.plain_data.specs.Keys.{same_key}
use Rattle.io_traits.specs.Folders.{Content}
use Rattle.io_traits.specs.Reads.{bytes_of, file_length}
use Rattle.io_traits.specs.Images.{overlaid}
use Rattle.io_traits.specs.Steps.{Step, appended, wrote, shortened, removed, synced, nothing, held}

-- what becomes of a change
pub data Fate : Type 0 where
  kept : Fate
  lost : Fate
  torn : Fate
  stale : Fate

-- how many bytes stand from the place n on, or from the end on where that comes first, up to the end of a range
abbrev pub foreign_length : ℕ → ℕ → Option (List ℕ) → ℕ
foreign_length n end f = end - min n (file_length f)

-- other bytes in the place of those from n on, up to the end of a range
abbrev pub with_foreign : ℕ → ℕ → Option (List ℕ) → List ℕ
with_foreign n end f = overlaid (min n (file_length f)) (replicate (foreign_length n end f) 165) (bytes_of f)

-- a write: as a whole; not at all; its first half; only as far as its length goes, where other bytes stand in the place of its own
abbrev pub write_left : Fate → ℕ → List ℕ → Option (List ℕ) → Option (List ℕ)
write_left kept at bytes f = Some (overlaid at bytes (bytes_of f))
write_left lost at bytes f = f
write_left torn at bytes f = Some (overlaid at (take (length bytes / 2) bytes) (bytes_of f))
write_left stale at bytes f = Some (with_foreign at (at + length bytes) f)

-- a cut: as a whole; not at all; halfway; only its length is undone, and other bytes stand behind the cut
abbrev pub cut_left : Fate → ℕ → Option (List ℕ) → Option (List ℕ)
cut_left kept n f = option_map (take n) f
cut_left lost n f = f
cut_left torn n f = option_map (take (n + (file_length f - n) / 2)) f
cut_left stale n f = option_map (λ bytes. with_foreign n (length bytes) (Some bytes)) f

-- a removal: as a whole, or not at all
abbrev pub removal_left : Fate → Option (List ℕ) → Option (List ℕ)
removal_left kept f = None
removal_left lost f = f
removal_left torn f = f
removal_left stale f = f

-- what a step leaves of the file of the name n, where reads gave `before`
abbrev pub step_left : Fate → Content → Step → List ℕ → Option (List ℕ) → Option (List ℕ)
step_left fate before (appended name bytes) n f = if same_key name n then write_left fate (file_length (before name)) bytes f else f
step_left fate before (wrote name at bytes) n f = if same_key name n then write_left fate at bytes f else f
step_left fate before (shortened name len) n f = if same_key name n then cut_left fate len f else f
step_left fate before (removed name) n f = if same_key name n then removal_left fate f else f
step_left fate before synced n f = before n
step_left fate before nothing n f = f

-- what the steps leave, each by the fate of its number
abbrev pub left_by : (ℕ → Fate) → Content → List Step → Content
left_by fates base [] n = base n
left_by fates base (step ∷ earlier) n = step_left (fates (length earlier)) (held base earlier) step n (left_by fates base earlier n)
