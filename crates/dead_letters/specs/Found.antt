-- What a folder holds, as a queue of dead letters: the number of its oldest segment, and the bytes of each one, or how it is damaged.
use Rattle.std.specs.Prelude.{◌≡◌, ◌≢◌, ℕ, zero, suc, ◌-◌, nat_lt, List, [], ◌∷◌, length, take, Result, Ok, Err, if◌then◌else◌, ⊤}
use Rattle.io_traits.specs.Folders.{Content}
use Rattle.io_traits.specs.Reads.{bytes_of}
use Rattle.io_traits.specs.declared.queue_faults.Damage.{Damage}
use Rattle.io_traits.specs.declared.queue_faults.QueueFault.{QueueFault}
use Rattle.io_traits.specs.declared.queue_faults.QueueFault.TheVariants as f
use Rattle.slot_files.specs.Contents.{damage, counted_in as first_version}
use Rattle.dead_letters.specs.Queues.{segment, names, position, name_in}
use Rattle.dead_letters.specs.Segments.{segments, counted_in}
use Rattle.dead_letters.specs.declared.segments.Segments.{Segments}
use Rattle.dead_letters.specs.declared.segments.Counted.{Counted}
use Rattle.dead_letters.specs.declared.segments.Counted.TheVariants.{Nothing, Count, Damaged}

-- ---- the segments of a folder

-- the number of the oldest segment, and the bytes of each one that counts
pub record Held : Type 0 where
  pub first : ℕ
  pub segments : List (List ℕ)

-- the bytes of the segment of a number
abbrev pub bytes_in : List ℕ → Content → ℕ → List ℕ
bytes_in folder content n = bytes_of (content (name_in folder (segment n)))

-- the segment of a number and so many behind it: the last one cut to its length, the others to the end of their files
abbrev pub cut_from : List ℕ → Content → ℕ → ℕ → ℕ → List (List ℕ)
cut_from folder content len n zero = take len (bytes_in folder content n) ∷ []
cut_from folder content len n (suc more) = bytes_in folder content n ∷ cut_from folder content len (suc n) more

abbrev pub held_in : List ℕ → Content → Segments → Held
held_in folder content s = record { first = s.first; segments = cut_from folder content s.length s.first (s.last - s.first) }

-- These segments. The queue is damaged where the last one ends before its length, at its end.
abbrev pub held_by : List ℕ → Content → Segments → Result Held Damage
held_by folder content s =
    let len = length (bytes_in folder content s.last) in
    if nat_lt len s.length then Err (damage (name_in folder (segment s.last)) len len s.length) else Ok (held_in folder content s)

-- so much of a queue of the first version
abbrev pub held_first : List ℕ → Content → Result ℕ Damage → Result Held Damage
held_first folder content (Ok len) = Ok (held_in folder content (segments 0 0 len))
held_first folder content (Err d) = Err d

-- By the file that names the segments which count. Where it says nothing, the queue is one of the first version or new: its one segment has a position file, as output files have.
abbrev pub found_by : List ℕ → Content → Counted → Result Held Damage
found_by folder content Nothing = held_first folder content (first_version (name_in folder (segment 0)) (name_in folder position) content)
found_by folder content (Count turn s) = held_by folder content s
found_by folder content (Damaged there expected) = Err (damage (name_in folder names) 0 there expected)

abbrev pub found : List ℕ → Content → Result Held Damage
found folder content = found_by folder content (counted_in (bytes_of (content (name_in folder names))))

-- of each segment from a number on so many bytes
abbrev pub fronts_from : List ℕ → Content → ℕ → List ℕ → List (List ℕ)
fronts_from folder content n [] = []
fronts_from folder content n (s ∷ sizes) = take s (bytes_in folder content n) ∷ fronts_from folder content (suc n) sizes

-- ---- what is answered

-- the store failed, or memory ran out
abbrev pub IsNoDamage : QueueFault → Type 0
IsNoDamage (f.Damaged d) = ⊥
IsNoDamage f.Fault = ⊤
IsNoDamage f.Memory = ⊤

-- ---- laws

-- where a folder is damaged, what was found differs from what was expected
abbrev pub FoundDamagesDiffer : Type 0
FoundDamagesDiffer = (folder : List ℕ) (content : Content) (d : Damage) → found folder content ≡ Err d → d.found ≢ d.expected
