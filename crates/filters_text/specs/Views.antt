-- The parts of a text as lists of characters.
use Rattle.std.specs.Prelude.{ℕ, List, Option, option_map}
use Rattle.std.specs.Str.{chars}
use denote.Ref.{Bor}
use Rattle.filters_text.specs.Pairs.{Found, Piece}

abbrev pub Part : Type 0
Part = Bor (List ℕ)

abbrev pub chars_of : Part → List ℕ
chars_of part = chars part.now

abbrev pub both_chars : Part × Part → List ℕ × List ℕ
both_chars p = (chars p.0.now, chars p.1.now)

abbrev pub found_of : Option Part × Part → Found
found_of p = (option_map chars_of p.0, chars p.1.now)

abbrev pub piece_of : Option (Part × Part) × Part → Piece
piece_of p = (option_map both_chars p.0, chars p.1.now)
