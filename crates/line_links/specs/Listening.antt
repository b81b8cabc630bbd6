-- An input that listens on an address: the takers of its address, one for each pipeline that sends to it.
use Rattle.std.specs.Prelude.{◌≡◌, ◌<◌, ◌≤◌, ◌⊎◌, ◌+◌, ◌-◌, ◌++◌, ℕ, zero, suc, min, Bool, true, false, not, nat_le, if◌then◌else◌, List, [], ◌∷◌, length, slice_index_or, slice_set, Option, Some, None, is_none, Result, Ok, Err, map}
use Rattle.std.specs.declared.alloc.AllocError.{AllocError}
use Rattle.event_tree.specs.Events.{Ev}
use Rattle.pipeline_bus.specs.declared.parcel.Answer.{Answer}
use Rattle.line_links.specs.Answers.{numbers_from}
use Rattle.line_links.specs.Takers.{EndsBy, Gives, PartState, Polls, Settles, TakeState, has_given, may_poll, noted, take_state}
use Rattle.line_links.specs.declared.taker.AddressTaker.{AddressTaker}
use Rattle.line_links.specs.declared.taker.Polled.{Polled}
use Rattle.line_links.specs.declared.taker.Polled.TheVariants as polled
use Rattle.line_links.specs.declared.taker.WholeParcel.{WholeParcel}

-- the takers, and the place of the one that is polled first
pub record Listening : Type 0 where
  pub takers : List TakeState
  pub first : ℕ

abbrev pub states : List AddressTaker → List TakeState
states takers = map take_state takers

-- ---- the parcel whose events are given

-- of a taker a parcel was taken of which not all events stand in rows
abbrev pub is_giving : TakeState → Bool
is_giving t = not (is_none t.part)

-- the place of the first such taker, or how many takers there are
abbrev pub giving_place : List TakeState → ℕ
giving_place [] = 0
giving_place (t ∷ ts) = if is_giving t then 0 else suc (giving_place ts)

-- the events of its parcel that weren't given
abbrev pub left_of : Option PartState → List Ev
left_of None = []
left_of (Some p) = p.left

abbrev pub events_left : List TakeState → List Ev
events_left [] = []
events_left (t ∷ ts) = if is_giving t then left_of t.part else events_left ts

-- ---- one taker after another

-- one of the takers is changed so
pub record ChangesAt (Changes : TakeState → TakeState → Type 0) (place : ℕ) (old new : List TakeState) : Type 0 where
  pub before : TakeState
  pub after : TakeState
  pub there : place < length old
  pub is : before ≡ slice_index_or old place before
  pub changes : Changes before after
  pub behind : new ≡ slice_set old place after

module _ {A : Type 0} (Passes : TakeState → TakeState → Type 0) (Stops : A → ℕ → List TakeState → List TakeState → Type 0) (all : A) where
  -- the takers at these places were gone through, each so, up to the first at which it stopped; where it stopped at none, the answer is that of all
  abbrev pub InTurn : List ℕ → A → List TakeState → List TakeState → Type 0
  InTurn [] answer old new = (answer ≡ all) × (new ≡ old)
  InTurn (p ∷ ps) answer old new = Stops answer p old new ⊎ ((mid : List TakeState) × (ChangesAt Passes p old mid × InTurn ps answer mid new))

-- the places of so many takers in turn, from the one that is polled first on
abbrev pub in_turn : ℕ → ℕ → List ℕ
in_turn first many = numbers_from (min first many) (many - min first many) ++ numbers_from 0 (min first many)

-- ---- polls

-- a taker that may not be polled, or whose poll found no parcel with events
abbrev pub PassesOver : TakeState → TakeState → Type 0
PassesOver old new = ((may_poll old ≡ false) × (new ≡ old)) ⊎ ((may_poll old ≡ true) × (Polls polled.NotYet old new ⊎ Polls polled.Ended old new))

-- one whose poll found one
abbrev pub Finds : TakeState → TakeState → Type 0
Finds old new = (may_poll old ≡ true) × Polls polled.Events old new

-- where polls in turn stopped: at the taker of a place, which gave a parcel with events; at none; or for want of memory, at one that is as it was
abbrev pub StopsPolls : Result (Option ℕ) AllocError → ℕ → List TakeState → List TakeState → Type 0
StopsPolls (Ok (Some place)) p old new = (p ≡ place) × ChangesAt Finds p old new
StopsPolls (Ok None) p old new = ⊥
StopsPolls (Err e) p old new = new ≡ old

-- the takers at these places were polled in turn
abbrev pub PollsInTurn : List ℕ → Result (Option ℕ) AllocError → List TakeState → List TakeState → Type 0
PollsInTurn = InTurn PassesOver StopsPolls (Ok None)

-- Polls in turn were made at these places: they stopped there, whatever places stand behind them, or they go on at those.
abbrev pub PollsOn : Result (Option ℕ) AllocError → List ℕ → List TakeState → List TakeState → Type 0
PollsOn (Ok (Some place)) ps old new = (more : List ℕ) → PollsInTurn (ps ++ more) (Ok (Some place)) old new
PollsOn (Ok None) ps old new = (more : List ℕ) (answer : Result (Option ℕ) AllocError) (last : List TakeState) → PollsInTurn more answer new last → PollsInTurn (ps ++ more) answer old last
PollsOn (Err e) ps old new = (more : List ℕ) → PollsInTurn (ps ++ more) (Err e) old new

-- ---- the end of the input

-- one of them isn't at its end
abbrev pub StopsAtOne : Bool → ℕ → List TakeState → List TakeState → Type 0
StopsAtOne ended p old new = (ended ≡ false) × ChangesAt (EndsBy false) p old new

-- each of so many takers is at its end, or one of them isn't
abbrev pub EndsAll : Bool → List TakeState → List TakeState → Type 0
EndsAll ended old new = InTurn (EndsBy true) StopsAtOne true (numbers_from 0 (length old)) ended old new

-- A poll where no parcel is held: each taker was polled in turn, up to the first that gave a parcel with events, behind which the next poll begins; where
-- none did, whether each is at its end then.
abbrev pub PollsAll : Result Polled AllocError → Listening → Listening → Type 0
PollsAll (Ok polled.Events) old new = (place : ℕ) × (PollsInTurn (in_turn old.first (length old.takers)) (Ok (Some place)) old.takers new.takers × (new.first ≡ place + 1))
PollsAll (Ok polled.NotYet) old new = (mid : List TakeState) × (PollsInTurn (in_turn old.first (length old.takers)) (Ok None) old.takers mid × (EndsAll false mid new.takers × (new.first ≡ old.first)))
PollsAll (Ok polled.Ended) old new = (mid : List TakeState) × (PollsInTurn (in_turn old.first (length old.takers)) (Ok None) old.takers mid × (EndsAll true mid new.takers × (new.first ≡ old.first)))
PollsAll (Err e) old new = PollsInTurn (in_turn old.first (length old.takers)) (Err e) old.takers new.takers × (new.first ≡ old.first)

-- ---- events and rows

-- the next event of the parcel that is held was given; none, where none is held
abbrev pub GivesNext : Option Ev → Listening → Listening → Type 0
GivesNext event old new = ((giving_place old.takers ≡ length old.takers) × ((event ≡ None) × (new ≡ old)))
    ⊎ (ChangesAt (Gives event) (giving_place old.takers) old.takers new.takers × (new.first ≡ old.first))

-- one of some takers is changed
abbrev pub change_at : (TakeState → TakeState) → ℕ → List TakeState → List TakeState
change_at f at [] = []
change_at f zero (t ∷ ts) = f t ∷ ts
change_at f (suc at) (t ∷ ts) = t ∷ change_at f at ts

-- the oldest event that was given and isn't in a row stands in this one, where there is such an event
abbrev pub row_noted : ℕ → TakeState → TakeState
row_noted row t = if has_given t then noted row t.part t else t

abbrev pub with_row : ℕ → Listening → Listening
with_row row l = record l { takers = change_at (row_noted row) (giving_place l.takers) l.takers }

-- ---- answers

-- the oldest parcel that waits has its rows up to this one
abbrev due_in : ℕ → List WholeParcel → Bool
due_in front [] = false
due_in front (oldest ∷ rest) = nat_le oldest.row front

abbrev pub is_due : ℕ → TakeState → Bool
is_due front t = due_in front t.whole

-- the same, of the taker at a place
abbrev pub is_due_at : ℕ → ℕ → List TakeState → Bool
is_due_at front at [] = false
is_due_at front zero (t ∷ ts) = is_due front t
is_due_at front (suc at) (t ∷ ts) = is_due_at front at ts

-- the taker at a place was asked to answer; there is none where there is no such taker
abbrev pub AnswersAt : ℕ → ℕ → Option Answer → Listening → Listening → Type 0
AnswersAt at front answer old new = ((length old.takers ≤ at) × ((answer ≡ None) × (new ≡ old)))
    ⊎ (ChangesAt (Settles front answer) at old.takers new.takers × (new.first ≡ old.first))
