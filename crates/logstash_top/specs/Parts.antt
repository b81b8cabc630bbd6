-- Texts that are written one after another.
use Rattle.std.specs.Prelude.{ℕ, List, [], ◌∷◌, ◌++◌}
use Rattle.std.specs.Borrow.{Bor}

abbrev pub parts_text : List (Bor (List ℕ)) → List ℕ
parts_text [] = []
parts_text (part ∷ []) = part.now
parts_text (part ∷ next ∷ parts) = part.now ++ parts_text (next ∷ parts)
