-- What a pipeline sends to an address, and what it hears.
use Rattle.std.specs.Prelude.{◌≡◌, ◌<◌, ◌+◌, ◌-◌, ℕ, Bool, true, false, List, [], ◌++◌, length, Option, Some, None}
use Rattle.event_tree.specs.Events.{Ev}
use Rattle.pipeline_bus.specs.Ends.{Sending, sending, pushed_as, heard_as}
use Rattle.pipeline_bus.specs.Parcels.{ends_with_last, with_events}
use Rattle.pipeline_bus.specs.declared.link.LinkSender.{LinkSender}
use Rattle.pipeline_bus.specs.declared.parcel.Answer.{Answer}
use Rattle.pipeline_bus.specs.declared.parcel.Heard.{Heard}
use Rattle.pipeline_bus.specs.declared.parcel.Parcel.{Parcel}
use Rattle.line_links.specs.declared.sender.AddressSender.{AddressSender}

-- the address, and what went through the end of the link
pub record SendState : Type 0 where
  pub address : List ℕ
  pub sends : Sending

abbrev pub send_state : AddressSender → SendState
send_state s = record { address = s.address; sends = sending s.end }

-- the end of the link itself
abbrev pub end_of : AddressSender → LinkSender
end_of s = s.end

-- ---- parcels

-- events in a parcel of a number, to the address
abbrev pub parcel_of : List Ev → ℕ → SendState → Parcel
parcel_of events n s = record { number = n; address = s.address; events = events }

-- behind a push of a parcel: it was sent, or the ring showed no free slot
abbrev pub behind_push : Bool → Parcel → SendState → SendState
behind_push true p s = record s { sends = pushed_as None p s.sends }
behind_push false p s = record s { sends = pushed_as (Some p) p s.sends }

-- the events were sent in the next parcel, which has this number; or the ring showed no free slot
abbrev pub SendsNext : List Ev → Option ℕ → SendState → SendState → Type 0
SendsNext events (Some n) old new = (n ≡ with_events old.sends.sent + 1) × (new ≡ behind_push true (parcel_of events n old) old)
SendsNext events None old new = new ≡ behind_push false (parcel_of events 0 old) old

-- behind a call that sends a last parcel where none was sent last: it did, or the ring showed no free slot
abbrev pub with_last : Bool → Bool → SendState → SendState
with_last true sent s = s
with_last false sent s = behind_push sent (parcel_of [] 0 s) s

-- a last parcel was sent, unless one was sent behind all others; or the ring showed no free slot
abbrev pub SendsLast : Bool → SendState → SendState → Type 0
SendsLast sent old new = (new ≡ with_last (ends_with_last old.sends.sent) sent old) × (ends_with_last old.sends.sent ≡ true → sent ≡ true)

-- ---- answers

-- one answer was heard, or the ring showed none
abbrev pub HearsOne : Bool → SendState → SendState → Type 0
HearsOne true old new = (a : Answer) × (new ≡ record old { sends = heard_as (Some a) old.sends })
HearsOne false old new = new ≡ record old { sends = heard_as None old.sends }

-- with so many answers more
abbrev pub with_heard : List Answer → SendState → SendState
with_heard answers s = record s { sends = record s.sends { heard = s.sends.heard ++ answers } }

-- Answers were heard up to that of a parcel, or those that the ring showed and no more.
abbrev pub Hears : ℕ → SendState → SendState → Option Heard → Type 0
Hears n old new (Some h) = (more : List Answer) × ((new ≡ with_heard more old) × (length more ≡ n - length old.sends.heard))
Hears n old new None = (more : List Answer) × ((length new.sends.heard < n) × (new ≡ record (with_heard more old) { sends = heard_as None (with_heard more old).sends }))
