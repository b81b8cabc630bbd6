-- The letters of a queue, each with its place: the segment that has it, and how many bytes of that segment stand up to the end of its record.
use Rattle.std.specs.Prelude.{◌≡◌, ℕ, suc, ◌+◌, List, [], ◌∷◌, ◌++◌, map, Result, Ok, Err, ⊤}
use Rattle.std.specs.Result.{result_map_both}
use Rattle.io_traits.specs.declared.queue_faults.Damage.{Damage}
use Rattle.io_traits.specs.declared.queue_faults.QueueFault.{QueueFault}
use Rattle.io_traits.specs.declared.queue_faults.QueueFault.TheVariants as f
use Rattle.slot_files.specs.Contents.{damage}
use Rattle.dead_letters.specs.Letters.{size_of}
use Rattle.dead_letters.specs.Queues.{segment, name_in}
use Rattle.dead_letters.specs.Records.{records_in}
use Rattle.dead_letters.specs.Found.{Held}
use Rattle.dead_letters.specs.declared.letter.DeadLetter.{DeadLetter}
use Rattle.dead_letters.specs.declared.faults.RecordFault.{RecordFault}
use Rattle.dead_letters.specs.declared.rows.DeadRow.{DeadRow}

abbrev pub row : DeadLetter → ℕ → ℕ → DeadRow
row l n end = record { letter = l; segment = n; length = end }

-- letters of the segment of a number, behind so many bytes of it
abbrev pub placed : ℕ → ℕ → List DeadLetter → List DeadRow
placed n before [] = []
placed n before (l ∷ ls) = row l n (before + size_of l) ∷ placed n (before + size_of l) ls

-- the letters of the segment of a number, as its records say them
abbrev pub placed_in : ℕ → Result (List DeadLetter) RecordFault → Result (List DeadRow) RecordFault
placed_in n = result_map_both (placed n 0) (λ at. at)

-- what the file of a name has, or its damage
abbrev pub in_file : {X : Type 0} → List ℕ → Result X RecordFault → Result X Damage
in_file file = result_map_both (λ x. x) (λ at. damage file at.place at.found at.expected)

abbrev pub in_front : {X : Type 0} → List X → Result (List X) Damage → Result (List X) Damage
in_front xs (Ok rest) = Ok (xs ++ rest)
in_front xs (Err d) = Err d

-- some, and then others; or the first damage
abbrev pub followed_by : {X : Type 0} → Result (List X) Damage → Result (List X) Damage → Result (List X) Damage
followed_by (Ok xs) rest = in_front xs rest
followed_by (Err d) rest = Err d

-- the letters of the segment of a number and of those behind it
abbrev pub rows_from : List ℕ → ℕ → List (List ℕ) → Result (List DeadRow) Damage
rows_from folder n [] = Ok []
rows_from folder n (bytes ∷ rest) = followed_by (in_file (name_in folder (segment n)) (placed_in n (records_in bytes))) (rows_from folder (suc n) rest)

abbrev pub rows_of : List ℕ → Held → Result (List DeadRow) Damage
rows_of folder h = rows_from folder h.first h.segments

-- ---- without their places

abbrev pub without_places : List DeadRow → List DeadLetter
without_places rows = map (λ (r : DeadRow). r.letter) rows

abbrev pub letters_from : List ℕ → ℕ → List (List ℕ) → Result (List DeadLetter) Damage
letters_from folder n segments = result_map_both without_places (λ d. d) (rows_from folder n segments)

abbrev pub letters_of : List ℕ → Held → Result (List DeadLetter) Damage
letters_of folder h = letters_from folder h.first h.segments

-- ---- what is answered

-- they are these, or the first damage is this, where the store and memory lasted
abbrev pub Answers : {X : Type 0} → Result X QueueFault → Result X Damage → Type 0
Answers (Ok xs) read = read ≡ Ok xs
Answers (Err (f.Damaged d)) read = read ≡ Err d
Answers (Err f.Fault) read = ⊤
Answers (Err f.Memory) read = ⊤

-- ---- laws

-- The letters of a queue are those that the records of its first segment say, and then those of the segments behind it; or the first damage.
abbrev pub LettersBySegments : Type 0
LettersBySegments =
    (folder : List ℕ) (n : ℕ) (bytes : List ℕ) (rest : List (List ℕ))
    → letters_from folder n (bytes ∷ rest) ≡ followed_by (in_file (name_in folder (segment n)) (records_in bytes)) (letters_from folder (suc n) rest)
