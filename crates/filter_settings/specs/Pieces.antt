-- A text cut at a separator: the pieces between the places where it stands, from the front on.
use Rattle.std.specs.Prelude.{ℕ, zero, suc, ◌-◌, ◌==◌, ◌&&◌, List, [], ◌∷◌, length, map, Bool, true, false, if◌then◌else◌}
use Rattle.std.specs.Prelude.{chars, encode_utf8}
use Rattle.std.specs.List.{onto_first}

-- the separator stands in front
abbrev pub begins : List ℕ → List ℕ → Bool
begins [] s = true
begins (a ∷ ts) [] = false
begins (a ∷ ts) (b ∷ bs) = a == b && begins ts bs

-- the pieces behind the first bytes, so many as the number says
abbrev pub pieces_behind : List ℕ → ℕ → List ℕ → List (List ℕ)
pieces_behind sep skip [] = [] ∷ []
pieces_behind sep (suc skip) (b ∷ bs) = pieces_behind sep skip bs
pieces_behind sep zero (b ∷ bs) = if begins sep (b ∷ bs) then [] ∷ pieces_behind sep (length sep - 1) bs else onto_first b (pieces_behind sep zero bs)

-- the pieces of a text around a separator that is not empty; empty ones stand among them
abbrev pub pieces : List ℕ → List ℕ → List (List ℕ)
pieces sep text = pieces_behind sep 0 text

-- the characters of a text, a text each
abbrev pub characters : List ℕ → List (List ℕ)
characters text = map encode_utf8 (chars text)

-- a text around a separator; an empty one gives the characters
abbrev pub split_text : List ℕ → List ℕ → List (List ℕ)
split_text [] text = characters text
split_text (a ∷ ts) text = pieces (a ∷ ts) text
