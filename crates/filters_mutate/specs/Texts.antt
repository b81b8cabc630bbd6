-- What the operations on texts make of one.
use Rattle.std.specs.Prelude.{ℕ, List, [], ◌∷◌, ◌++◌, map, Bool, true, false, ◌==◌, ◌&&◌, ◌||◌, nat_le, if◌then◌else◌}
use Rattle.std.specs.Char.{to_ascii_uppercase, to_ascii_lowercase}
use Rattle.filters_mutate.specs.declared.cases.Case.{Case}
use Rattle.filters_mutate.specs.declared.cases.Case.TheVariants as case

-- its ASCII letters raised
abbrev pub raised : List ℕ → List ℕ
raised s = map to_ascii_uppercase s

-- its ASCII letters lowered
abbrev pub lowered : List ℕ → List ℕ
lowered s = map to_ascii_lowercase s

-- its first character raised, and the rest lowered
abbrev pub capitalized : List ℕ → List ℕ
capitalized [] = []
capitalized (b ∷ bs) = to_ascii_uppercase b ∷ lowered bs

abbrev pub in_case : Case → List ℕ → List ℕ
in_case case.Upper = raised
in_case case.Capital = capitalized
in_case case.Lower = lowered

-- a blank, a form feed or a vertical tab: a space, or one of the control characters from the tab to the carriage return
abbrev pub is_space : ℕ → Bool
is_space b = b == 32 || (nat_le 9 b && nat_le b 13)

abbrev pub without_front : List ℕ → List ℕ
without_front [] = []
without_front (b ∷ bs) = if is_space b then without_front bs else b ∷ bs

-- a byte in front of what is left of the rest
abbrev pub before_end : ℕ → List ℕ → List ℕ
before_end b [] = if is_space b then [] else b ∷ []
before_end b (c ∷ cs) = b ∷ c ∷ cs

abbrev pub without_end : List ℕ → List ℕ
without_end [] = []
without_end (b ∷ bs) = before_end b (without_end bs)

-- without those at both ends
abbrev pub stripped : List ℕ → List ℕ
stripped s = without_end (without_front s)

-- a text, with the separator in front of a later one
abbrev pub behind_separator : List ℕ → Bool → List ℕ → List ℕ
behind_separator separator later t = (if later then separator else []) ++ t

abbrev pub between : List ℕ → Bool → List (List ℕ) → List ℕ
between separator later [] = []
between separator later (t ∷ ts) = behind_separator separator later t ++ between separator true ts

-- texts with a separator between them
abbrev pub joined_by : List ℕ → List (List ℕ) → List ℕ
joined_by separator ts = between separator false ts
