-- What a change answers and leaves.
use Rattle.std.specs.Prelude.{◌≡◌, ◌≢◌, ℕ, ◌+◌, ◌<◌, ◌≤◌, ◌==◌, ◌&&◌, not, nat_lt, is_some, length, List, Bool, true, false, Option, Some, None, IsSome, IfSome, Result, Ok, Err, option_map}
use Rattle.event_tree.specs.Values.{depth}
use Rattle.event_tree.specs.Sizes.{size, less}
use Rattle.event_tree.specs.Sound.{sound}
use Rattle.event_tree.specs.Paths.{put, append, take}
use Rattle.event_tree.specs.Growth.{room_at_end}
use Rattle.event_tree.specs.Events.{Ev, Way, object, object_put, object_append, event_size, event_put, event_append, event_take, event_move, limited}
use Rattle.event_tree.specs.declared.cut.Cut.{Cut}
use Rattle.event_tree.specs.declared.moving.FoundValue.{FoundValue}
use Rattle.event_tree.specs.declared.value.Value.{Value}
use Rattle.event_tree.specs.declared.within.WriteKind.{WriteKind}
use Rattle.event_tree.specs.declared.within.WriteKind.TheVariants as how
use Rattle.event_tree.specs.declared.fault.PutFault.{PutFault}
use Rattle.event_tree.specs.declared.fault.PutFault.TheVariants.{ThroughScalar, Deep, Large, Memory}

-- one of the two objects of an event would become a value that is no object
abbrev pub ends_as_no_object : List (List ℕ) → Value → Bool
ends_as_no_object ps d = (length ps == 0) && not (is_some (object d))

-- said is the event that there will be, or why there will be none; a refusal leaves the event as it was, and memory runs out only where nothing else is wrong
abbrev pub PutsEvent : Result (Unit {0}) PutFault → Result Ev PutFault → Ev → Ev → Type 0
PutsEvent (Ok u) said old new = said ≡ Ok new
PutsEvent (Err ThroughScalar) said old new = (said ≡ Err ThroughScalar) × (new ≡ old)
PutsEvent (Err Deep) said old new = (said ≡ Err Deep) × (new ≡ old)
PutsEvent (Err Large) said old new = (said ≡ Err Large) × (new ≡ old)
PutsEvent (Err Memory) said old new = ((e : Ev) × (said ≡ Ok e)) × (new ≡ old)

-- the same where one of the two objects becomes another
abbrev pub ChangesEvent : Result (Unit {0}) PutFault → (Ev → Value → Ev) → Option Value → Ev → Ev → Type 0
ChangesEvent r with_object said old new = PutsEvent r (limited (option_map (with_object old) said)) old new

-- the same of a put that way
abbrev pub PutEventAt : Result (Unit {0}) PutFault → Way → Value → Ev → Ev → Type 0
PutEventAt r way d old new = PutsEvent r (limited (event_put way d old)) old new

-- the same of what is added to the list that stands there
abbrev pub AppendEventAt : Result (Unit {0}) PutFault → Way → Value → Ev → Ev → Type 0
AppendEventAt r way d old new = PutsEvent r (limited (event_append way d old)) old new

-- said is the event that there will be once taken was put elsewhere, or why there will be none; a refusal leaves the event as it was, and where memory runs out, which it does only where nothing else is wrong, what was taken is gone
abbrev pub Moves : Result Bool PutFault → Option (Value × Ev) → Option (Result Ev PutFault) → Ev → Ev → Type 0
Moves (Ok false) taken said old new = (said ≡ None) × (new ≡ old)
Moves (Ok true) taken said old new = said ≡ Some (Ok new)
Moves (Err ThroughScalar) taken said old new = (said ≡ Some (Err ThroughScalar)) × (new ≡ old)
Moves (Err Deep) taken said old new = (said ≡ Some (Err Deep)) × (new ≡ old)
Moves (Err Large) taken said old new = (said ≡ Some (Err Large)) × (new ≡ old)
Moves (Err Memory) taken said old new = ((e : Ev) × (said ≡ Some (Ok e))) × (option_map (λ r. r.1) taken ≡ Some new)

-- said is the event that there will be, so that nothing but want of memory is in the way, or why there will be none
abbrev pub Foretells : Option (Result (Unit {0}) PutFault) → Option (Result Ev PutFault) → Type 0
Foretells None said = said ≡ None
Foretells (Some (Ok u)) said = (e : Ev) × (said ≡ Some (Ok e))
Foretells (Some (Err fault)) said = (said ≡ Some (Err fault)) × (fault ≢ Memory)

-- the same of a move from one path to another
abbrev pub MovesEvent : Result Bool PutFault → Way → Way → Ev → Ev → Type 0
MovesEvent r from target old new = Moves r (event_take from old) (event_move from target old) old new

-- said is what the value becomes, if the way leads there; a refusal leaves the value as it was, and memory runs out only where the way leads there
abbrev pub Puts : Result (Unit {0}) PutFault → Option Value → Value → Value → Type 0
Puts (Ok u) said old new = said ≡ Some new
Puts (Err ThroughScalar) said old new = (said ≡ None) × (new ≡ old)
Puts (Err Deep) said old new = ⊥
Puts (Err Large) said old new = ⊥
Puts (Err Memory) said old new = IsSome said × (new ≡ old)

-- the same of a put at the end of these parts
abbrev pub PutAt : Result (Unit {0}) PutFault → List (List ℕ) → Value → Value → Value → Type 0
PutAt r ps d old new = Puts r (put ps d old) old new

-- the same of what is added to the list at the end of these parts
abbrev pub AppendAt : Result (Unit {0}) PutFault → List (List ℕ) → Value → Value → Value → Type 0
AppendAt r ps d old new = Puts r (append ps d old) old new

-- said is what is taken and what is left, if the parts lead anywhere
abbrev pub Takes : {X : Type 0} → Option Value → Option (Value × X) → X → X → Type 0
Takes None said old new = (said ≡ None) × (new ≡ old)
Takes (Some x) said old new = said ≡ Some (x, new)

-- what stands at the end of these parts could be taken, and the encoding would be so many bytes shorter
abbrev pub Finds : Option FoundValue → Option (Value × Value) → Value → Type 0
Finds None said old = said ≡ None
Finds (Some found) said old = (left : Value) × (said ≡ Some (found.value.now, left)) × (size left + found.bytes ≡ size old)

-- the same of what a path leads to
abbrev pub FindsAt : Option FoundValue → Option (Value × Ev) → Ev → Type 0
FindsAt None said old = said ≡ None
FindsAt (Some found) said old = (left : Ev) × (said ≡ Some (found.value.now, left)) × (event_size left + found.bytes ≡ event_size old)

-- the room at the end of the parts where so many bytes are free once something was taken
abbrev pub RoomBehind : Option (Option ℕ) → Option (Value × Value) → ℕ → ℕ → List (List ℕ) → Value → Type 0
RoomBehind r taken room freed ps old = (x left : Value) → taken ≡ Some (x, left) → size left + freed ≡ size old → r ≡ room_at_end room ps left

-- what was cut away at the end of these parts
abbrev pub Cuts : Option Cut → List (List ℕ) → Value → Value → Type 0
Cuts r ps old new = Takes (option_map (λ cut. cut.value) r) (take ps old) old new

-- the encoding is shorter for it by its bytes and those of its key
abbrev pub CutsBytes : Option Cut → Value → Value → Type 0
CutsBytes r old new = IfSome r (λ cut. size new + size cut.value + cut.key_size ≡ size old)

-- what is taken at the end of these parts from an object of an event, which then has what is left in its place
abbrev pub TakesFrom : Option Value → (Ev → Value → Ev) → List (List ℕ) → Value → Ev → Ev → Type 0
TakesFrom r with_left ps object old new = Takes r (option_map (λ x. (x.0, with_left old x.1)) (take ps object)) old new

-- a value for which there is this room at the end of the parts may stand there, and leaves so much of it
pub record Passes (found : Option (Option ℕ)) (ps : List (List ℕ)) (d : Value) (left : ℕ) : Type 0 where
  pub free : ℕ
  pub found_is : found ≡ Some (Some free)
  pub left_is : less free (size d) ≡ Some left
  pub whole : ends_as_no_object ps d ≡ false
  pub shallow : nat_lt 128 (length ps + depth d) ≡ false
  pub sound_is : sound d ≡ true

-- what becomes of the object, by how the value is put there
abbrev pub changed : WriteKind → List (List ℕ) → Value → Value → Option Value
changed how.Put ps d old = object_put ps d old
changed how.Append ps d old = object_append ps d old

-- said is the object that there will be: so many bytes of the room are left, or the first of the reasons why it can't stand in an event with that much room
abbrev pub PutsWithin : Result ℕ PutFault → Option Value → ℕ → Value → Value → Type 0
PutsWithin (Ok left) said room old new = (said ≡ Some new) × (depth new ≤ 128) × (size new + left ≡ size old + room) × (sound new ≡ true)
PutsWithin (Err ThroughScalar) said room old new = (said ≡ None) × (new ≡ old)
PutsWithin (Err Deep) said room old new = ((x : Value) × (said ≡ Some x) × (128 < depth x)) × (new ≡ old)
PutsWithin (Err Large) said room old new = ((x : Value) × (said ≡ Some x) × (depth x ≤ 128) × (size old + room < size x)) × (new ≡ old)
PutsWithin (Err Memory) said room old new = ((x : Value) × (said ≡ Some x) × (depth x ≤ 128) × (size x ≤ size old + room)) × (new ≡ old)
