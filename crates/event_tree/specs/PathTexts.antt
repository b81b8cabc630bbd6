-- Which texts are paths, and where the first fault of another text stands.
use Rattle.std.specs.Prelude.{◌≡◌, ◌≢◌, ℕ, ◌+◌, ◌-◌, ◌<◌, ◌==◌, ◌||◌, ◌⊎◌, List, [], ◌∷◌, ◌++◌, length, take, drop, slice_index, Bool, true, false, if◌then◌else◌, codes, bytes_eq, Result, Ok, Err, ⊤}
use Rattle.event_tree.specs.Characters.{opening_bracket, closing_bracket}
use Rattle.event_tree.specs.Events.{Way}
use Rattle.event_tree.specs.declared.fault.PathFault.{PathFault}
use Rattle.event_tree.specs.declared.fault.PathFault.TheVariants.{Empty, Unclosed, Stray, Memory}

-- `[` or `]`
abbrev pub is_bracket : ℕ → Bool
is_bracket b = b == opening_bracket || b == closing_bracket

abbrev pub NoBracket : List ℕ → Type 0
NoBracket [] = ⊤
NoBracket (b ∷ bs) = (is_bracket b ≡ false) × NoBracket bs

-- what may stand as one part
abbrev pub IsName : List ℕ → Type 0
IsName p = (0 < length p) × NoBracket p

abbrev pub AreNames : List (List ℕ) → Type 0
AreNames [] = ⊤
AreNames (p ∷ ps) = IsName p × AreNames ps

-- each part in brackets, one behind the other
abbrev pub bracketed : List (List ℕ) → List ℕ
bracketed [] = []
bracketed (p ∷ ps) = opening_bracket ∷ (p ++ closing_bracket ∷ bracketed ps)

-- the text is a bare name, or one part or more in brackets
abbrev pub IsPathText : List (List ℕ) → List ℕ → Type 0
IsPathText ps text = (IsName text × (ps ≡ text ∷ [])) ⊎ ((0 < length ps) × AreNames ps × (text ≡ bracketed ps))

-- the text is empty, or an empty pair of brackets stands behind parts that are in order
abbrev pub IsEmptyFault : List ℕ → Type 0
IsEmptyFault text = (text ≡ [])
    ⊎ ((ps : List (List ℕ)) × (more : List ℕ) × AreNames ps
    × (text ≡ bracketed ps ++ opening_bracket ∷ closing_bracket ∷ more))

-- the text ends here, or another `[` stands here
abbrev pub EndsOrOpens : List ℕ → Type 0
EndsOrOpens rest = (rest ≡ []) ⊎ ((more : List ℕ) × (rest ≡ opening_bracket ∷ more))

-- behind parts that are in order stands a `[`, and behind it and a name another `[` or the end
abbrev pub IsUnclosed : ℕ → List ℕ → Type 0
IsUnclosed at text = (ps : List (List ℕ)) × (name : List ℕ) × (rest : List ℕ)
    × AreNames ps × NoBracket name × (text ≡ bracketed ps ++ opening_bracket ∷ (name ++ rest))
    × EndsOrOpens rest × (at ≡ length (bracketed ps))

-- behind one part or more that are in order stands a byte that is no `[`
abbrev pub IsStrayOutside : ℕ → List ℕ → Type 0
IsStrayOutside at text = (ps : List (List ℕ)) × (b : ℕ) × (more : List ℕ)
    × (0 < length ps) × AreNames ps × (b ≢ opening_bracket)
    × (text ≡ bracketed ps ++ b ∷ more) × (at ≡ length (bracketed ps))

-- the text begins with no `[`, and has a bracket behind bytes that are none
abbrev pub IsStrayInside : ℕ → List ℕ → Type 0
IsStrayInside at text = (name : List ℕ) × (b : ℕ) × (more : List ℕ)
    × NoBracket name × (is_bracket b ≡ true) × (b ≡ opening_bracket → 0 < length name)
    × (text ≡ name ++ b ∷ more) × (at ≡ length name)

abbrev pub IsPathFault : PathFault → List ℕ → Type 0
IsPathFault Empty text = IsEmptyFault text
IsPathFault (Unclosed at) text = IsUnclosed at text
IsPathFault (Stray at) text = IsStrayOutside at text ⊎ IsStrayInside at text
IsPathFault Memory text = ⊤

-- the parts that the text has, or its first fault from the left
abbrev pub PartsRead : Result (List (List ℕ)) PathFault → List ℕ → Type 0
PartsRead (Ok ps) text = IsPathText ps text
PartsRead (Err fault) text = IsPathFault fault text

-- a name stands between a bracket at one place and the closing one at the other
pub record IsPartAt (text : List ℕ) (at end : ℕ) : Type 0 where
  pub some : at + 1 < end
  pub within : end < length text
  pub name : NoBracket (take (end - (at + 1)) (drop (at + 1) text))
  pub closed : slice_index text end ≡ closing_bracket

-- behind parts that are in order, up to this place, the text has this fault
abbrev pub IsFaultAt : List ℕ → ℕ → PathFault → Type 0
IsFaultAt text at fault = (ps : List (List ℕ)) → AreNames ps → text ≡ bracketed ps ++ drop at text
    → at ≡ length (bracketed ps) → IsPathFault fault text

-- where the parts of a text lead
abbrev pub way_of : List (List ℕ) → Way
way_of [] = record { meta = false; parts = [] }
way_of (p ∷ ps) = if bytes_eq p (codes "@metadata") then (record { meta = true; parts = ps }) else (record { meta = false; parts = p ∷ ps })

-- the text is a path that leads there, or has that as its first fault from the left
abbrev pub PathReads : Result Way PathFault → List ℕ → Type 0
PathReads (Ok way) text = (ps : List (List ℕ)) × IsPathText ps text × (way ≡ way_of ps)
PathReads (Err fault) text = IsPathFault fault text
