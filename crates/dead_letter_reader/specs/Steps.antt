-- What a call makes of the work, by its answer.
use Rattle.std.specs.Prelude.{◌≡◌, ◌⊎◌, ◌<◌, ◌+◌, ◌-◌, ◌^◌, ⊤, ℕ, Bool, true, false, List, [], ◌∷◌, ◌++◌, length, take, drop, Option, Some, None, slice_get, Result, Ok, Err}
use Rattle.io_traits.specs.Counts.{one_more}
use Rattle.io_traits.specs.declared.faults.Failed.{Failed}
use Rattle.crc_frame.specs.Slots.{next_turn}
use Rattle.io_traits.specs.declared.queue_faults.QueueFault.{QueueFault}
use Rattle.io_traits.specs.declared.queue_faults.QueueFault.TheVariants as f
use Rattle.pipeline_bus.specs.Parcels.{is_last, with_events, ends_with_last, IsInTurn}
use Rattle.pipeline_bus.specs.Ends.{pushed_as, heard_as}
use Rattle.pipeline_bus.specs.declared.parcel.Parcel.{Parcel as ParcelOf}
use Rattle.pipeline_bus.specs.declared.parcel.Answer.{Answer}
use Rattle.pipeline_bus.specs.declared.parcel.Heard.{Heard}
use Rattle.pipeline_bus.specs.declared.parcel.Heard.TheVariants.{Assured, NotListening}
use Rattle.dead_letters.specs.Segments.{segments}
use Rattle.dead_letters.specs.declared.segments.Counted.{Counted}
use Rattle.dead_letters.specs.declared.segments.Counted.TheVariants.{Nothing, Count, Damaged}
use Rattle.dead_letters.specs.declared.rows.DeadRow.{DeadRow}
use Rattle.dead_letter_reader.specs.Marks.{events_of}
use Rattle.dead_letter_reader.specs.Work.{InOrder, IsAllSent, Work}
use Rattle.dead_letter_reader.specs.declared.sender.SendOutcome.{SendOutcome}
use Rattle.dead_letter_reader.specs.declared.sender.SendOutcome.TheVariants.{Parcel, NotYet, Ended}

-- ---- parcels

-- the letters of the next parcel: 125, or those that are left
abbrev pub next_rows : Work → List DeadRow
next_rows w = take 125 (drop w.done w.rows)

abbrev pub next_parcel : Work → ParcelOf
next_parcel w = record { number = with_events w.sends.sent + 1; address = w.address; events = events_of (next_rows w) }

abbrev pub last_parcel : Work → ParcelOf
last_parcel w = record { number = 0; address = w.address; events = [] }

-- behind a push, by what came back
abbrev pub after_push : Option ParcelOf → Work → Work
after_push None w = record w { out = length (next_rows w); sends = pushed_as None (next_parcel w) w.sends }
after_push (Some back) w = record w { sends = pushed_as (Some back) (next_parcel w) w.sends }

abbrev pub after_last : Option ParcelOf → Work → Work
after_last back w = record w { sends = pushed_as back (last_parcel w) w.sends }

-- ---- answers

-- the slot behind the newest one
abbrev pub turn_after : Counted → ℕ
turn_after Nothing = 0
turn_after (Count turn s) = next_turn turn
turn_after (Damaged found expected) = 0

-- turns have 64 bits
abbrev pub TurnFits : Counted → Type 0
TurnFits Nothing = ⊤
TurnFits (Count turn s) = turn < 2 ^ 64
TurnFits (Damaged found expected) = ⊤

-- the slot of the next turn, which says the place of a letter
abbrev pub recorded_at : Counted → DeadRow → Counted
recorded_at recorded r = Count (turn_after recorded) (segments r.segment r.segment r.length)

abbrev pub no_answer : Work → Work
no_answer w = record w { sends = heard_as None w.sends }

-- so many letters more were answered, or they are to be sent again
abbrev pub done_by : Heard → ℕ → ℕ → ℕ
done_by Assured done out = done + out
done_by NotListening done out = done

-- behind an answer, and what the file says then
abbrev pub answered : Answer → Counted → Work → Work
answered a recorded w = record w { done = done_by a.answer w.done w.out; out = 0; recorded = recorded; sends = heard_as (Some a) w.sends }

-- the place of the last letter that was answered Assured was recorded
pub record IsRecorded (w : Work) (done : ℕ) (recorded : Counted) : Type 0 where
  pub last : DeadRow
  pub is_last : slice_get w.rows (done - 1) ≡ Some last
  pub is : recorded ≡ recorded_at w.recorded last

abbrev pub Recorded : Heard → Work → Counted → Type 0
Recorded Assured w recorded = IsRecorded w (w.done + w.out) recorded
Recorded NotListening w recorded = recorded ≡ w.recorded

-- an answer was heard, which is that of the parcel that is out, and where it was Assured, the place was recorded
pub record Hears (old new : Work) : Type 0 where
  pub out : 0 < old.out
  pub answer : Answer
  pub in_turn : IsInTurn old.sends.heard answer
  pub recorded : Counted
  pub place : Recorded answer.answer old recorded
  pub new_is : new ≡ answered answer recorded old

-- nothing was heard; an answer was; or it was Assured, and the place was not recorded
pub record Fails (old new : Work) : Type 0 where
  pub out : 0 < old.out
  pub answer : Answer
  pub in_turn : IsInTurn old.sends.heard answer
  pub is_assured : answer.answer ≡ Assured
  pub new_is : new ≡ answered answer old.recorded old

abbrev pub HearsBy : Result Bool Failed → Work → Work → Type 0
HearsBy (Ok true) old new = Hears old new
HearsBy (Ok false) old new = new ≡ no_answer old
HearsBy (Err e) old new = Fails old new

-- ---- steps

-- the parcel was sent, or it came back
abbrev pub told : SendOutcome → Option ParcelOf → SendOutcome
told sent None = sent
told sent (Some back) = NotYet

abbrev pub SendsNext : Work → Work → SendOutcome → Type 0
SendsNext old new sent = (back : Option ParcelOf) × (new ≡ after_push back old) × (sent ≡ told Parcel back)

abbrev pub SendsLast : Work → Work → SendOutcome → Type 0
SendsLast old new sent = (back : Option ParcelOf) × (new ≡ after_last back old) × (sent ≡ told Ended back)

-- what is done where nothing is out
pub data Pushes (old new : Work) (result : Result SendOutcome QueueFault) : Type 0 where
  pushes : (back : Option ParcelOf) → old.done < length old.rows → new ≡ after_push back old → result ≡ Ok (told Parcel back) → Pushes old new result
  no_memory : ends_with_last old.sends.sent ≡ false → new ≡ old → result ≡ Err f.Memory → Pushes old new result
  ends : (back : Option ParcelOf) → old.done ≡ length old.rows → ends_with_last old.sends.sent ≡ false → new ≡ after_last back old → result ≡ Ok (told Ended back) → Pushes old new result
  has_ended : old.done ≡ length old.rows → ends_with_last old.sends.sent ≡ true → new ≡ old → result ≡ Ok Ended → Pushes old new result

pub data Steps (old new : Work) (result : Result SendOutcome QueueFault) : Type 0 where
  -- nothing is out
  goes_on : old.out ≡ 0 → Pushes old new result → Steps old new result
  -- a parcel is out, and the ring showed no answer
  waits : 0 < old.out → new ≡ no_answer old → result ≡ Ok NotYet → Steps old new result
  -- it was answered
  hears : (mid : Work) → Hears old mid → Pushes mid new result → Steps old new result
  -- it was answered Assured, and the place was not recorded
  fails : Fails old new → result ≡ Err f.Fault → Steps old new result

-- a parcel with events was sent
pub record HasPushed (old new : Work) : Type 0 where
  pub parcel : ParcelOf
  pub sent : new.sends.sent ≡ old.sends.sent ++ parcel ∷ []
  pub filled : is_last parcel ≡ false

-- the ring showed no free slot to a push, or no answer while a parcel with events was out
abbrev pub HasMissed : Work → Work → Type 0
HasMissed old new = (new.sends.push_misses ≡ one_more old.sends.push_misses) ⊎ ((0 < old.out) × (new.sends.answer_misses ≡ one_more old.sends.answer_misses))

-- ---- runs

-- calls one after the other, the last one at the end
pub data Runs (start : Work) : List (Result SendOutcome QueueFault) → Work → Type 0 where
  none : Runs start [] start
  more : (results : List (Result SendOutcome QueueFault)) (w v : Work) (result : Result SendOutcome QueueFault) → Runs start results w → Steps w v result → Runs start (results ++ result ∷ []) v

-- nothing was sent on the link, and no letter is out
pub record Begins (w : Work) : Type 0 where
  pub done : w.done ≡ 0
  pub out : w.out ≡ 0
  pub sent : w.sends.sent ≡ []
  pub heard : w.sends.heard ≡ []

-- ---- laws

-- Behind any calls the parcels, less those that were answered NotListening, have a front of the letters, in order and each once, and those that were answered Assured have
-- the first of them; the letters are those from the beginning.
abbrev pub LettersAreSentInOrder : Type 0
LettersAreSentInOrder =
    (start w : Work) (results : List (Result SendOutcome QueueFault)) → Begins start → Runs start results w → (w.rows ≡ start.rows) × InOrder w

-- Behind a call that answers Ended, each letter was answered Assured, and the last parcel was sent.
abbrev pub AllAreSentAtTheEnd : Type 0
AllAreSentAtTheEnd =
    (start w v : Work) (results : List (Result SendOutcome QueueFault)) → Begins start → Runs start results w → Steps w v (Ok Ended) → (v.rows ≡ start.rows) × IsAllSent v
