-- What is kept of a batch that was put off.
use Rattle.std.specs.Prelude.{◌≡◌, ◌≤◌, ℕ, List, [], ◌∷◌, length, Option, Some, None, option_and_then, slice_get, Contains}
use Rattle.bulk_replies.specs.Answers.{Answer}
use Rattle.bulk_replies.specs.Replies.{IsGood}
use Rattle.event_tree.specs.Events.{Ev}
use Rattle.foreign_parts.specs.declared.output.Fate.{Fate}
use Rattle.foreign_parts.specs.declared.output.Fate.TheVariants as f
use Rattle.out_bulk.specs.Exchanges.{Exchange}
use Rattle.out_bulk.specs.Fates.{Settled, fate_of}
use Rattle.out_bulk.specs.Requests.{request_of}
use Rattle.out_bulk.specs.Settings.{Target}

-- its events, and those of their fates that are settled; nothing where no batch is kept
pub record Kept : Type 0 where
  pub events : List Ev
  pub settled : Settled

abbrev pub nothing_kept : Kept
nothing_kept = record { events = []; settled = [] }

-- what is said of a fate that is settled isn't too long
abbrev pub IsShort : Option Fate → Type 0
IsShort None = Unit {0}
IsShort (Some f.Took) = Unit {0}
IsShort (Some (f.Rejected status reason)) = length reason ≤ 65536

-- there is a fate for each event
abbrev pub AreFor : List Ev → Settled → Type 0
AreFor [] [] = Unit {0}
AreFor [] (x ∷ fs) = ⊥
AreFor (e ∷ es) [] = ⊥
AreFor (e ∷ es) (x ∷ fs) = IsShort x × AreFor es fs

-- or for none
abbrev pub AreForOrNone : List Ev → Settled → Type 0
AreForOrNone es [] = Unit {0}
AreForOrNone es (x ∷ fs) = AreFor es (x ∷ fs)

-- what is kept once events are handed in: of the same events all, and of others nothing
pub record Begins (events : List Ev) (old start : Kept) : Type 0 where
  pub same : old.events ≡ events → start ≡ old
  pub others : (old.events ≡ events → ⊥) → start ≡ nothing_kept

-- the event stood in a request to the target that was sent, and the good reply to it settles its fate so
pub record Settles (target : Target) (asked : List Exchange) (event : Ev) (fate : Fate) : Type 0 where
  pub exchange : Exchange
  pub was_made : Contains asked exchange
  pub host : exchange.host ≡ target.host
  pub events : List Ev
  pub request : exchange.request ≡ request_of target events
  pub reply : List ℕ
  pub came : exchange.reply ≡ Some reply
  pub answers : List Answer
  pub good : IsGood (length events) reply answers
  pub place : ℕ
  pub sent : slice_get events place ≡ Some event
  pub answered : option_and_then fate_of (slice_get answers place) ≡ Some fate

-- each fate that is settled is so by a reply
abbrev pub AreSettled : Target → List Exchange → List Ev → Settled → Type 0
AreSettled target asked [] fs = Unit {0}
AreSettled target asked (e ∷ es) [] = Unit {0}
AreSettled target asked (e ∷ es) (None ∷ fs) = AreSettled target asked es fs
AreSettled target asked (e ∷ es) (Some f ∷ fs) = Settles target asked e f × AreSettled target asked es fs

-- the same where the peer tells what it was asked
abbrev pub Witnessed : Target → Option (List Exchange) → List Ev → Settled → Type 0
Witnessed target told events fs = (asked : List Exchange) → told ≡ Some asked → AreSettled target asked events fs

-- what is always true of what is kept of a batch
pub record IsKept (target : Target) (told : Option (List Exchange)) (kept : Kept) : Type 0 where
  pub witnessed : Witnessed target told kept.events kept.settled
  pub are_for : AreForOrNone kept.events kept.settled
