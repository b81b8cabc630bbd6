-- The segments of a queue: the names of their files, and which segment each new record joins (this project's tables).
use Rattle.std.specs.Prelude.{◌≡◌, ◌<◌, ◌^◌, ◌+◌, ◌/◌, ◌&&◌, ℕ, zero, suc, Bool, nat_lt, List, [], ◌∷◌, ◌++◌, length, map, take, drop, codes, if◌then◌else◌, ⊤}
use Rattle.std.specs.Fmt.{decimal}

-- ---- names

-- a segment by its number; the file that names the segments which count; and the position file of a queue of the first version, which has one segment
pub data Role : Type 0 where
  segment : ℕ → Role
  names : Role
  position : Role

abbrev pub segment_name : ℕ → List ℕ
segment_name zero = codes "dead.log"
segment_name (suc k) = codes "dead." ++ (decimal (suc k) ++ codes ".log")

-- the names in a folder, whose path ends with a slash
abbrev pub name_in : List ℕ → Role → List ℕ
name_in folder (segment n) = folder ++ segment_name n
name_in folder names = folder ++ codes "dead.seg"
name_in folder position = folder ++ codes "dead.pos"

-- numbers of segments have 32 bits
abbrev pub IsRole : Role → Type 0
IsRole (segment n) = n < 2 ^ 32
IsRole names = ⊤
IsRole position = ⊤

-- no two files of a queue have one name
abbrev pub NamesDiffer : Type 0
NamesDiffer = (folder : List ℕ) (a b : Role) → IsRole a → IsRole b → name_in folder a ≡ name_in folder b → a ≡ b

-- ---- which segment a record joins

-- A record of so many bytes begins the next segment: the last one, of a number and with so many bytes, has a record; with this one it exceeds an eighth of the limit; and there is a next number.
abbrev pub begins_next : ℕ → ℕ → ℕ → ℕ → Bool
begins_next limit number held size = nat_lt 0 held && nat_lt (limit / 8) (held + size) && nat_lt number 0xFFFF_FFFF

-- the last segment, of a number, with records appended to it: itself, and those that come behind it
abbrev pub grown : ℕ → ℕ → List ℕ → List (List ℕ) → List (List ℕ)
grown limit number last [] = last ∷ []
grown limit number last (r ∷ rest) = if begins_next limit number (length last) (length r) then last ∷ grown limit (suc number) r rest else grown limit number (last ++ r) rest

-- How many bytes of new records each segment takes, by the bytes of the records: the last one, which has `held` bytes and takes `taken` before these, and those that come behind it.
abbrev pub pieces : ℕ → ℕ → ℕ → ℕ → List ℕ → List ℕ
pieces limit number held taken [] = taken ∷ []
pieces limit number held taken (r ∷ rest) = if begins_next limit number (held + taken) r then taken ∷ pieces limit (suc number) 0 r rest else pieces limit number held (taken + r) rest

-- ---- laws

-- bytes cut into pieces
abbrev pub cut : List ℕ → List ℕ → List (List ℕ)
cut [] bytes = []
cut (p ∷ ps) bytes = take p bytes ∷ cut ps (drop p bytes)

abbrev pub joined : List (List ℕ) → List ℕ
joined [] = []
joined (r ∷ rest) = r ++ joined rest

-- the first piece behind the last segment, the others for themselves
abbrev pub behind : List ℕ → List (List ℕ) → List (List ℕ)
behind last [] = []
behind last (p ∷ ps) = (last ++ p) ∷ ps

-- so the records, joined and cut into pieces, make the segments
abbrev pub PiecesMakeSegments : Type 0
PiecesMakeSegments =
    (limit number : ℕ) (last : List ℕ) (records : List (List ℕ))
    → grown limit number last records ≡ behind last (cut (pieces limit number (length last) 0 (map length records)) (joined records))
