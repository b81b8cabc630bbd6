-- The one reading of a text as a path, or its first fault: what `IsPathText` and `IsPathFault` of event_tree allow, computed.
use Rattle.std.specs.Prelude.{ℕ, ◌+◌, ◌==◌, List, [], ◌∷◌, if◌then◌else◌, Option, Some, None, option_map, option_and_then}
use Rattle.event_tree.specs.Characters.{opening_bracket, closing_bracket}
use Rattle.event_tree.specs.Events.{Way}
use Rattle.event_tree.specs.PathTexts.{is_bracket, way_of}
use Rattle.event_tree.specs.declared.fault.PathFault.{PathFault}
use Rattle.event_tree.specs.declared.fault.PathFault.TheVariants.{Empty, Unclosed, Stray}

-- the text, where it has no bracket
abbrev pub bare : List ℕ → Option (List ℕ)
bare [] = Some []
bare (b ∷ bs) = if is_bracket b then None else option_map (λ name. b ∷ name) (bare bs)

-- a name that isn't empty, before the names behind it
abbrev pub with_name : List ℕ × List (List ℕ) → Option (List (List ℕ))
with_name ([], names) = None
with_name (b ∷ name, names) = Some ((b ∷ name) ∷ names)

abbrev mutual
  -- the names in brackets, from a `[` or the end on
  pub names_in : List ℕ → Option (List (List ℕ))
  names_in [] = Some []
  names_in (b ∷ bs) = if b == opening_bracket then option_and_then with_name (name_in bs) else None

  -- the rest of a name up to its `]`, and the names behind
  pub name_in : List ℕ → Option (List ℕ × List (List ℕ))
  name_in [] = None
  name_in (b ∷ bs) =
      if b == closing_bracket then option_map (λ names. ([], names)) (names_in bs)
      else (if b == opening_bracket then None
      else option_map (λ r. (b ∷ r.0, r.1)) (name_in bs))

-- the parts of a path: a bare name, or names in brackets
abbrev pub parts_in : List ℕ → Option (List (List ℕ))
parts_in [] = None
parts_in (b ∷ bs) = if b == opening_bracket then names_in (b ∷ bs) else option_map (λ name. name ∷ []) (bare (b ∷ bs))

-- where a text leads that is a path
abbrev pub way_in : List ℕ → Option Way
way_in text = option_map way_of (parts_in text)

abbrev mutual
  -- the first fault of names in brackets, from the place `at` on
  pub fault_of_names : ℕ → List ℕ → Option PathFault
  fault_of_names at [] = None
  fault_of_names at (b ∷ bs) = if b == opening_bracket then fault_of_name at 0 bs else Some (Stray at)

  -- the same inside the name that the `[` at `begin` opens, behind so many of its bytes
  pub fault_of_name : ℕ → ℕ → List ℕ → Option PathFault
  fault_of_name begin count [] = Some (Unclosed begin)
  fault_of_name begin count (b ∷ bs) =
      if b == closing_bracket
      then (if count == 0 then Some Empty else fault_of_names (begin + count + 2) bs)
      else (if b == opening_bracket then Some (Unclosed begin)
      else fault_of_name begin (count + 1) bs)

-- the first fault of a bare name, from the place `at` on
abbrev pub fault_of_bare : ℕ → List ℕ → Option PathFault
fault_of_bare at [] = None
fault_of_bare at (b ∷ bs) = if is_bracket b then Some (Stray at) else fault_of_bare (at + 1) bs

-- the first fault from the left of a text that is no path
abbrev pub fault_in : List ℕ → Option PathFault
fault_in [] = Some Empty
fault_in (b ∷ bs) = if b == opening_bracket then fault_of_names 0 (b ∷ bs) else fault_of_bare 0 (b ∷ bs)
