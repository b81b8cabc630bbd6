-- The senders of a pipeline, found by their addresses, and why a delivery waits.
use Rattle.std.specs.Prelude.{◌≡◌, ◌<◌, ◌⊎◌, ℕ, suc, List, [], ◌∷◌, length, map, slice_index_or, false, if◌then◌else◌, Some}
use Rattle.std.specs.Str.{bytes_eq}
use Rattle.io_traits.specs.Counts.{Rose}
use Rattle.pipeline_bus.specs.Ends.{sending}
use Rattle.pipeline_bus.specs.declared.link.LinkSender.{LinkSender}
use Rattle.pipeline_bus.specs.declared.parcel.Heard.TheVariants.{Assured, NotListening}
use Rattle.line_links.specs.Answers.{answer_to}
use Rattle.line_links.specs.Senders.{SendState, send_state}
use Rattle.line_links.specs.declared.sender.AddressSender.{AddressSender}
use Rattle.line_links.specs.declared.senders.AddressSenders.{AddressSenders}

abbrev pub states_of : List AddressSender → List SendState
states_of senders = map send_state senders

-- what went through the ends of a pipeline's links
abbrev pub send_states : AddressSenders → List SendState
send_states s = states_of s.senders.items

-- nothing was sent on a link yet, and so nothing heard
abbrev pub IsFresh : List ℕ × LinkSender → Type 0
IsFresh end = ((sending end.1).sent ≡ []) × ((sending end.1).heard ≡ [])

-- the place of the first sender to an address, or how many senders there are
abbrev pub sender_place : List ℕ → List AddressSender → ℕ
sender_place address [] = 0
sender_place address (s ∷ senders) = if bytes_eq s.address address then 0 else suc (sender_place address senders)

-- a parcel was answered Assured
abbrev pub AssuredNow : SendState → Type 0
AssuredNow s = (n : ℕ) × (answer_to n s.sends.heard ≡ Some Assured)

-- one of the senders heard so
pub record IsAssured (states : List SendState) : Type 0 where
  pub place : ℕ
  pub there : place < length states
  pub sender : SendState
  pub is : sender ≡ slice_index_or states place sender
  pub assured : AssuredNow sender

-- why what is sent isn't answered Assured: the ring showed no free slot, or no answer, or a parcel was answered NotListening
pub data WaitsOn (old new : SendState) : Type 0 where
  No_slot : Rose old.sends.push_misses new.sends.push_misses → WaitsOn old new
  No_answer : Rose old.sends.answer_misses new.sends.answer_misses → WaitsOn old new
  Not_listening : (n : ℕ) → answer_to n new.sends.heard ≡ Some NotListening → WaitsOn old new

-- one of the senders, to this address, waits so
pub record OneWaits (address : List ℕ) (old new : List SendState) : Type 0 where
  pub place : ℕ
  pub there : place < length old
  pub before : SendState
  pub after : SendState
  pub was : before ≡ slice_index_or old place before
  pub is : after ≡ slice_index_or new place after
  pub address_is : before.address ≡ address
  pub waits : WaitsOn before after

-- no sender is one to this address
abbrev pub HasNoSender : List ℕ → List SendState → Type 0
HasNoSender address [] = Unit {0}
HasNoSender address (s ∷ states) = (bytes_eq s.address address ≡ false) × HasNoSender address states

abbrev pub HasToWait : List ℕ → List SendState → List SendState → Type 0
HasToWait address old new = HasNoSender address old ⊎ OneWaits address old new
