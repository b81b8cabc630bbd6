-- Parcels with events and last parcels, and how the parcels and the answers of one link are numbered.
use Rattle.std.specs.Prelude.{◌≡◌, ◌==◌, ◌&&◌, ℕ, ◌+◌, ◌-◌, Bool, true, false, if◌then◌else◌, List, [], ◌∷◌, length, take}
use Rattle.pipeline_bus.specs.declared.parcel.Parcel.{Parcel}
use Rattle.pipeline_bus.specs.declared.parcel.Answer.{Answer}

-- a parcel without events
abbrev pub is_last : Parcel → Bool
is_last p = length p.events == 0

-- how many parcels with events it is: one, or none
abbrev pub filled : Parcel → ℕ
filled p = if is_last p then 0 else 1

-- how many of the parcels have events
unfoldable pub with_events : List Parcel → ℕ
with_events [] = 0
with_events (p ∷ ps) = filled p + with_events ps

-- the number of a parcel behind so many with events
abbrev pub number_behind : ℕ → Parcel → ℕ
number_behind n p = if is_last p then 0 else n + 1

-- it has the next number of its link
abbrev pub HasNextNumber : List Parcel → Parcel → Type 0
HasNextNumber before p = p.number ≡ number_behind (with_events before) p

-- each of the parcels behind n with events has the next number
unfoldable pub numbered : ℕ → List Parcel → Bool
numbered n [] = true
numbered n (p ∷ ps) = (p.number == number_behind n p) && numbered (n + filled p) ps

-- whether the last of the parcels is a last parcel
unfoldable pub ends_with_last : List Parcel → Bool
ends_with_last [] = false
ends_with_last (p ∷ []) = is_last p
ends_with_last (p ∷ q ∷ ps) = ends_with_last (q ∷ ps)

-- the answer is of the oldest parcel with events that has none
abbrev pub IsInTurn : List Answer → Answer → Type 0
IsInTurn before a = a.number ≡ length before + 1

-- of the parcels that came out of a ring, those that don't wait in the room
abbrev pub taken_of : List Parcel → List Parcel → List Parcel
taken_of out room = take (length out - length room) out
