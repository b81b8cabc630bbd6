-- What an append makes of a queue: which segments leave, which records join, and where.
use Rattle.std.specs.Prelude.{◌≡◌, ℕ, suc, ◌+◌, ◌==◌, List, [], ◌∷◌, ◌++◌, length, map, drop, All, Ok, if◌then◌else◌, ⊤}
use Rattle.settings_lines.specs.declared.settings.Policy.{Policy}
use Rattle.crc_frame.specs.Bytes.{IsBytes}
use Rattle.dead_letters.specs.Letters.{FitsRecord, AreLetters, record_bytes, size_of}
use Rattle.dead_letters.specs.Queues.{grown}
use Rattle.dead_letters.specs.Shedding.{shed}
use Rattle.dead_letters.specs.Found.{Held}
use Rattle.dead_letters.specs.Rows.{letters_from, letters_of}
use Rattle.dead_letters.specs.declared.letter.DeadLetter.{DeadLetter}
use Rattle.dead_letters.specs.declared.shedding.Shedding.{Shedding}

-- the items but those at these places, which rise; the first item has this place
abbrev pub kept_from : {X : Type 0} → List ℕ → ℕ → List X → List X
kept_from [] at xs = xs
kept_from (p ∷ places) at [] = []
kept_from (p ∷ places) at (x ∷ xs) = if p == at then kept_from places (suc at) xs else x ∷ kept_from (p ∷ places) (suc at) xs

-- segments with records appended, by the number of the first segment: the last one grows, and those before it stay
abbrev pub with_records : ℕ → ℕ → List (List ℕ) → List (List ℕ) → List (List ℕ)
with_records limit n [] records = grown limit n [] records
with_records limit n (s ∷ []) records = grown limit n s records
with_records limit n (s ∷ t ∷ rest) records = s ∷ with_records limit (suc n) (t ∷ rest) records

-- the records of letters can be written
abbrev pub AllFit : List DeadLetter → Type 0
AllFit letters = All FitsRecord letters

-- what is shed of a queue and of new letters
abbrev pub shed_of : Policy → ℕ → Held → List DeadLetter → Shedding
shed_of policy limit h letters = shed policy limit (map length h.segments) (map size_of letters)

-- the queue behind an append
abbrev pub append_to : ℕ → Held → Shedding → List DeadLetter → Held
append_to limit h s letters = record {
  first = h.first + s.older;
  segments = with_records limit (h.first + s.older) (drop s.older h.segments) (map record_bytes (kept_from s.newer 0 letters));
}

-- ---- laws

abbrev pub AreBytes : List (List ℕ) → Type 0
AreBytes [] = ⊤
AreBytes (b ∷ rest) = IsBytes b × AreBytes rest

-- Behind an append the letters of a queue are those of the segments that stay, and then those that join it.
abbrev pub AppendedAreRead : Type 0
AppendedAreRead =
    (folder : List ℕ) (limit : ℕ) (h : Held) (s : Shedding) (letters old : List DeadLetter) → AreLetters letters → AreBytes (drop s.older h.segments)
    → letters_from folder (h.first + s.older) (drop s.older h.segments) ≡ Ok old → letters_of folder (append_to limit h s letters) ≡ Ok (old ++ kept_from s.newer 0 letters)
