-- What a function that prints does to the text.
use Rattle.std.specs.Prelude.{◌≡◌, ℕ, List, ◌++◌, String, string_bytes}
use Rattle.config_print.specs.Layout.{Piece, text_of}

-- the bytes were printed behind the old text
abbrev pub Prints : {Z : Type 0} → String Z → String Z → List ℕ → Type 0
Prints old new bytes = string_bytes new ≡ string_bytes old ++ bytes

-- the pieces were
abbrev pub Lays : {Z : Type 0} → String Z → String Z → List Piece → Type 0
Lays old new pieces = Prints old new (text_of pieces)
