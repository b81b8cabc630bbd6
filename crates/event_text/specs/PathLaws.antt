-- What stands at a path after a put.
use Rattle.std.specs.Prelude.{◌≡◌, ◌≢◌, ℕ, ◌<◌, ◌≤◌, ◌==◌, List, [], ◌∷◌, ◌++◌, length, Bool, false, if◌then◌else◌, Option, Some, option_and_then, slice_get}
use Rattle.plain_data.specs.Members.{get_member}
use Rattle.event_tree.specs.Paths.{list_place, over}
use Rattle.event_tree.specs.Characters.{minus}
use Rattle.event_tree.specs.Events.{Ev, Way, to, event_at, event_depth, event_size}
use Rattle.event_tree.specs.declared.value.Value.{Value, out-Value}
use Rattle.event_tree.specs.declared.value.Value.TheOpen.{Value-F}
use Rattle.event_tree.specs.declared.value.Value.TheVariants as v

-- the part counts from the end of a list: it begins with `-`
abbrev pub is_from_end : List ℕ → Bool
is_from_end [] = false
is_from_end (b ∷ bs) = b == minus

-- whether a put goes behind the last item of a list whose end the part counts from, as `-0` does: the part then names the place behind the new item
abbrev pub passes_end_in : List ℕ → (Value → Bool) → Value-F Value → Bool
passes_end_in p deeper Value-F.Null = false
passes_end_in p deeper (Value-F.Bool b) = false
passes_end_in p deeper (Value-F.Num n) = false
passes_end_in p deeper (Value-F.Text s) = false
passes_end_in p deeper (Value-F.Time t) = false
passes_end_in p deeper (Value-F.List vs) = over deeper (is_from_end p) (option_and_then (λ i. slice_get vs i) (list_place p (length vs)))
passes_end_in p deeper (Value-F.Object ms) = over deeper false (get_member p ms)

abbrev pub passes_end : List (List ℕ) → Value → Bool
passes_end [] old = false
passes_end (p ∷ ps) old = passes_end_in p (passes_end ps) (out-Value old)

-- the same of an event
abbrev pub event_passes_end : Way → Ev → Bool
event_passes_end w e = if w.meta then passes_end w.parts e.meta else passes_end w.parts e.fields

-- no list stands there
abbrev pub IsNoList : Option Value → Type 0
IsNoList found = (items : List Value) → found ≡ Some (v.List items) → ⊥

-- two paths into one of the objects of an event, which first differ in a part
pub record Fork : Type 0 where
  pub meta : Bool
  pub front : List (List ℕ)
  pub part : List ℕ
  pub more : List (List ℕ)
  pub other : List ℕ
  pub others : List (List ℕ)

-- where they part, and where each leads
abbrev pub trunk : Fork → Way
trunk fork = to fork.meta fork.front

abbrev pub one_end : Fork → Way
one_end fork = to fork.meta (fork.front ++ fork.part ∷ fork.more)

abbrev pub other_end : Fork → Way
other_end fork = to fork.meta (fork.front ++ fork.other ∷ fork.others)

-- they differ in a part at a place where no list stands
abbrev pub PartsIn : Fork → Ev → Type 0
PartsIn fork event = (fork.part ≢ fork.other) × IsNoList (event_at (trunk fork) event)

-- a path to a key of an object
abbrev pub key_of : Bool → List (List ℕ) → List ℕ → Way
key_of meta front key = to meta (front ++ key ∷ [])

-- an event within the limits
abbrev pub IsWithinLimits : Ev → Type 0
IsWithinLimits event = (event_depth event ≤ 128) × (event_size event ≤ 16777216)

-- an event that is too large, and not too deep
abbrev pub IsTooLarge : Ev → Type 0
IsTooLarge event = (event_depth event ≤ 128) × (16777216 < event_size event)

-- a part that names a place in the list that stands at the end of a front
pub record Item : Type 0 where
  pub meta : Bool
  pub front : List (List ℕ)
  pub part : List ℕ
  pub items : List Value
  pub place : ℕ

-- the paths to the list and to the place
abbrev pub list_of : Item → Way
list_of item = to item.meta item.front

abbrev pub way_of : Item → Way
way_of item = to item.meta (item.front ++ item.part ∷ [])

abbrev pub StandsIn : Item → Ev → Type 0
StandsIn item event = (event_at (list_of item) event ≡ Some (v.List item.items)) × (list_place item.part (length item.items) ≡ Some item.place)
