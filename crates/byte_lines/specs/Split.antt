-- Bytes as lines, and what is left behind the last line. Byte 10 is the line feed, byte 13 the carriage return.
use Rattle.std.specs.Prelude.{◌≡◌, ◌≢◌, ◌<◌, ◌+◌, ◌==◌, ℕ, List, [], ◌∷◌, ◌++◌, length, if◌then◌else◌}
use Rattle.std.specs.List.{flat_map, AllByRecursion}
use Rattle.std.specs.Str.Lines.{strip_carriage_return}

-- no line feed stands among the bytes
abbrev pub HasNoLineFeed : List ℕ → Type 0
HasNoLineFeed bytes = AllByRecursion (λ b. b ≢ 10) bytes

-- a line among bytes, with the bytes before its end: a line feed ends it, or it is full, since it is as long as a line may be
pub data RawLine : Type 0 where
  Ended : List ℕ → RawLine
  Full : List ℕ → RawLine

-- a line that a line feed ends is shorter than `limit`, and a full one has exactly `limit` bytes
abbrev pub IsRawLine : ℕ → RawLine → Type 0
IsRawLine limit (Ended bytes) = HasNoLineFeed bytes × (length bytes < limit)
IsRawLine limit (Full bytes) = HasNoLineFeed bytes × (length bytes ≡ limit)

-- all the bytes in which the line stands, with the line feed that ends it
abbrev pub line_bytes : RawLine → List ℕ
line_bytes (Ended bytes) = bytes ++ 10 ∷ []
line_bytes (Full bytes) = bytes

-- what the line says: a carriage return just before its line feed is no part of it, and one at the end of a full line is
abbrev pub line_content : RawLine → List ℕ
line_content (Ended bytes) = strip_carriage_return bytes
line_content (Full bytes) = bytes

-- the bytes are those of the lines, one after another, and then a rest in which no line is whole yet
pub record SplitsInto (limit : ℕ) (bytes : List ℕ) (lines : List RawLine) (rest : List ℕ) : Type 0 where
  pub whole : bytes ≡ flat_map line_bytes lines ++ rest
  pub each : AllByRecursion (IsRawLine limit) lines
  pub no_line_feed : HasNoLineFeed rest
  pub short : length rest < limit

-- the lines and the rest of some bytes
pub record Split : Type 0 where
  pub lines : List RawLine
  pub rest : List ℕ

abbrev pub with_first : RawLine → Split → Split
with_first line split = record { lines = line ∷ split.lines; rest = split.rest }

-- that split, computed byte by byte: `held` is what has come of a line
abbrev pub split_from : ℕ → List ℕ → List ℕ → Split
split_from limit held [] = record { lines = []; rest = held }
split_from limit held (b ∷ bytes) =
    if b == 10 then with_first (Ended held) (split_from limit [] bytes)
    else (if length held + 1 == limit then with_first (Full (held ++ b ∷ [])) (split_from limit [] bytes)
    else split_from limit (held ++ b ∷ []) bytes)

unfoldable pub split_of : ℕ → List ℕ → Split
split_of limit bytes = split_from limit [] bytes
