-- The lines of bytes, as text.
use Rattle.std.specs.Prelude.{ℕ, Bool, List, [], ◌∷◌, ◌++◌, map, if◌then◌else◌}
use Rattle.byte_lines.specs.Split.{RawLine, Split, line_content, split_of}
use Rattle.byte_lines.specs.Text.{text_of}

-- what a line says, as text
abbrev pub line_text : RawLine → List ℕ
line_text line = text_of (line_content line)

-- the lines that stand whole among the bytes
abbrev pub whole_lines : ℕ → List ℕ → List (List ℕ)
whole_lines limit bytes = map line_text (split_of limit bytes).lines

-- the line that the end of the bytes makes of what is left, unless nothing is: a carriage return stays there
abbrev pub last_line : List ℕ → List (List ℕ)
last_line [] = []
last_line (b ∷ rest) = text_of (b ∷ rest) ∷ []

-- the lines of a split, where the bytes may end behind it
abbrev pub texts_of : Bool → Split → List (List ℕ)
texts_of ended split = map line_text split.lines ++ (if ended then last_line split.rest else [])
