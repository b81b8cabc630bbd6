-- What an input takes of an address, and what it answers.
use Rattle.std.specs.Prelude.{◌≡◌, ◌≤◌, ◌<◌, ◌==◌, ◌&&◌, ◌+◌, ◌-◌, ◌⊎◌, ℕ, Bool, true, false, not, List, [], ◌∷◌, ◌++◌, length, nat_lt, Option, Some, None, is_none}
use Rattle.event_tree.specs.Events.{Ev}
use Rattle.pipeline_bus.specs.Ends.{Taking, taking, taken_as, told_as, Waits}
use Rattle.pipeline_bus.specs.Parcels.{ends_with_last, is_last, with_events}
use Rattle.pipeline_bus.specs.declared.link.LinkTaker.{LinkTaker}
use Rattle.pipeline_bus.specs.declared.parcel.Answer.{Answer}
use Rattle.pipeline_bus.specs.declared.parcel.Heard.TheVariants.{Assured, NotListening}
use Rattle.pipeline_bus.specs.declared.parcel.Parcel.{Parcel}
use Rattle.line_links.specs.Answers.{one_if_some}
use Rattle.line_links.specs.declared.taker.AddressTaker.{AddressTaker}
use Rattle.line_links.specs.declared.taker.PartParcel.{PartParcel}
use Rattle.line_links.specs.declared.taker.Polled.{Polled}
use Rattle.line_links.specs.declared.taker.Polled.TheVariants as polled
use Rattle.line_links.specs.declared.taker.WholeParcel.{WholeParcel}

-- A parcel of which not all events stand in rows: the events that weren't given yet, how many it has, and how many of them stand in rows.
pub record PartState : Type 0 where
  pub number : ℕ
  pub left : List Ev
  pub total : ℕ
  pub rows : ℕ

-- The address, what went through the end of the link, whether the input listens, the parcel whose events are given, those that wait for an answer, each with the
-- number of its last row, the number of a parcel that was dropped and isn't answered, and how many are to be refused behind it.
pub record TakeState : Type 0 where
  pub address : List ℕ
  pub taking : Taking
  pub listens : Bool
  pub part : Option PartState
  pub whole : List WholeParcel
  pub refusing : Option ℕ
  pub lost : ℕ

abbrev pub part_state : Option PartParcel → Option PartState
part_state None = None
part_state (Some p) = Some (record { number = p.number; left = p.left.items; total = p.total; rows = p.rows })

abbrev pub take_state : AddressTaker → TakeState
take_state t = record {
  address = t.address;
  taking = taking t.end;
  listens = t.listens;
  part = part_state t.part;
  whole = t.whole.items;
  refusing = t.refusing;
  lost = t.lost;
}

-- the end of the link itself
abbrev pub taker_end : AddressTaker → LinkTaker
taker_end t = t.end

-- ---- polls

-- the input listens, and each event of the parcels that it took stands in a row
abbrev pub may_poll : TakeState → Bool
may_poll s = s.listens && is_none s.part

-- a parcel with events was taken, and is held
abbrev pub with_parcel : Parcel → TakeState → TakeState
with_parcel p s = record s {
  taking = taken_as (Some p) s.taking;
  part = Some (record { number = p.number; left = p.events; total = length p.events; rows = 0 });
}

abbrev pub Polls : Polled → TakeState → TakeState → Type 0
Polls polled.Events old new = (p : Parcel) × ((is_last p ≡ false) × (new ≡ with_parcel p old))
Polls polled.NotYet old new = (ends_with_last old.taking.taken ≡ false) × (new ≡ record old { taking = taken_as None old.taking })
Polls polled.Ended old new = (ends_with_last new.taking.taken ≡ true)
    × (((p : Parcel) × (new ≡ record old { taking = taken_as (Some p) old.taking })) ⊎ (new ≡ record old { taking = taken_as None old.taking }))

-- ---- events

abbrev holds_part : Option PartState → Bool
holds_part None = false
holds_part (Some p) = not (length p.left == 0)

abbrev pub holds : TakeState → Bool
holds s = holds_part s.part

-- the next event was given
pub record GivesOne (event : Ev) (old new : TakeState) : Type 0 where
  pub part : PartState
  pub has : old.part ≡ Some part
  pub rest : List Ev
  pub next : part.left ≡ event ∷ rest
  pub behind : new ≡ record old { part = Some (record part { left = rest }) }

abbrev pub Gives : Option Ev → TakeState → TakeState → Type 0
Gives None old new = (holds old ≡ false) × (new ≡ old)
Gives (Some event) old new = GivesOne event old new

-- an event was given that doesn't stand in a row yet
abbrev given_of : Option PartState → Bool
given_of None = false
given_of (Some p) = nat_lt (length p.left) (p.total - p.rows)

abbrev pub has_given : TakeState → Bool
has_given s = given_of s.part

-- a row was made of one event more: of all, or of a part
abbrev noted_in : ℕ → Bool → PartState → TakeState → TakeState
noted_in row true p s = record s { part = Some (record p { rows = p.rows + 1 }) }
noted_in row false p s = record s { part = None; whole = s.whole ++ record { number = p.number; row = row } ∷ [] }

abbrev pub noted : ℕ → Option PartState → TakeState → TakeState
noted row None s = s
noted row (Some p) s = noted_in row (nat_lt (p.rows + 1) p.total) p s

abbrev pub Notes : ℕ → TakeState → TakeState → Type 0
Notes row old new = new ≡ noted row old.part old

-- ---- answers

-- The oldest parcel that waits has its rows up to this one, and was answered.
pub record SettlesOne (front : ℕ) (a : Answer) (old new : TakeState) : Type 0 where
  pub oldest : WholeParcel
  pub rest : List WholeParcel
  pub waits : old.whole ≡ oldest ∷ rest
  pub settled : oldest.row ≤ front
  pub is : a ≡ record { number = oldest.number; answer = Assured }
  pub behind : new ≡ record old { taking = told_as None a old.taking; whole = rest }

-- No parcel waits, or the last row of the oldest stands behind this one; or the answer came back.
abbrev pub NotSettled : ℕ → List WholeParcel → TakeState → TakeState → Type 0
NotSettled front [] old new = new ≡ old
NotSettled front (oldest ∷ rest) old new = ((front < oldest.row) × (new ≡ old))
    ⊎ ((oldest.row ≤ front) × ((a : Answer) × (new ≡ record old { taking = told_as (Some a) a old.taking })))

abbrev pub Settles : ℕ → Option Answer → TakeState → TakeState → Type 0
Settles front (Some a) old new = SettlesOne front a old new
Settles front None old new = NotSettled front old.whole old new

-- ---- the end of listening

-- nobody listens any more, and the parcels with events that the ring showed then, or sixteen parcels of it, are to be refused
pub record Closes (old new : TakeState) : Type 0 where
  pub shown : Waits new.lost old.taking new.taking
  pub same : new ≡ record old { taking = new.taking; listens = false; lost = new.lost }

-- a parcel with events was dropped
abbrev pub dropped : Parcel → TakeState → TakeState
dropped p s = record s { taking = taken_as (Some p) s.taking; refusing = Some p.number; lost = s.lost - 1 }

-- of those that are to be refused the oldest was dropped
pub record DropsOne (old new : TakeState) : Type 0 where
  pub none : old.refusing ≡ None
  pub some : 0 < old.lost
  pub parcel : Parcel
  pub filled : is_last parcel ≡ false
  pub behind : new ≡ dropped parcel old

-- none was dropped: none is to be, or the ring showed none, or a last parcel, which was passed over
pub data DropsNone (old new : TakeState) : Type 0 where
  Has_none : old.lost ≡ 0 → new ≡ old → DropsNone old new
  Shows_none : new ≡ record old { taking = taken_as None old.taking } → DropsNone old new
  Passes_over : (p : Parcel) → is_last p ≡ true → new ≡ record old { taking = taken_as (Some p) old.taking } → DropsNone old new

-- one was dropped, before or now, and isn't answered
abbrev pub IsRefusing : TakeState → TakeState → Type 0
IsRefusing old new = ((0 < one_if_some old.refusing) × (new ≡ old)) ⊎ DropsOne old new

-- it was answered
pub record RefusesOne (a : Answer) (old new : TakeState) : Type 0 where
  pub part : old.part ≡ None
  pub whole : old.whole ≡ []
  pub is : a ≡ record { number = length old.taking.given + 1; answer = NotListening }
  pub refusing : TakeState
  pub drops : IsRefusing old refusing
  pub behind : new ≡ record refusing { taking = told_as None a refusing.taking; refusing = None }

-- A parcel that was taken waits for its answer; or none is dropped; or the answer came back.
pub data RefusesNone (old new : TakeState) : Type 0 where
  Waits_first : 0 < one_if_some old.part + length old.whole → new ≡ old → RefusesNone old new
  Drops_none : old.refusing ≡ None → DropsNone old new → RefusesNone old new
  Comes_back : (refusing : TakeState) → IsRefusing old refusing → (a : Answer) → new ≡ record refusing { taking = told_as (Some a) a refusing.taking } → RefusesNone old new

abbrev pub Refuses : Option Answer → TakeState → TakeState → Type 0
Refuses (Some a) old new = RefusesOne a old new
Refuses None old new = RefusesNone old new

abbrev pub is_free : TakeState → Bool
is_free s = not s.listens && (is_none s.part && (length s.whole == 0 && (is_none s.refusing && s.lost == 0)))

-- ---- the end of an input

-- the last parcel came last, nothing of an earlier one is to be given, and the ring shows none with events
abbrev pub EndsBy : Bool → TakeState → TakeState → Type 0
EndsBy true old new = (old.part ≡ None) × ((ends_with_last old.taking.taken ≡ true) × ((with_events new.taking.room ≡ 0) × ((new ≡ record old { taking = new.taking }) × Waits 0 old.taking new.taking)))
EndsBy false old new = (new ≡ record old { taking = new.taking }) × ((old.part ≡ None) → (ends_with_last old.taking.taken ≡ true) → 0 < with_events new.taking.room)
