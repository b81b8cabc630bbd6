-- What is asked of a peer, and what it replies.
use Rattle.std.specs.Prelude.{ℕ, List, [], ◌∷◌, Option, Some, None, Result, Ok, Err, Vec}
use Rattle.std.specs.declared.alloc.Global.{Global}
use Rattle.io_traits.specs.Telling.{Grows, GrowsInPart}
use Rattle.foreign_parts.specs.declared.output.DeliverFault.{DeliverFault}
use Rattle.foreign_parts.specs.declared.output.DeliverFault.TheVariants as deliver
use Rattle.out_bulk.specs.declared.peer.PeerFault.{PeerFault}
use Rattle.out_bulk.specs.declared.peer.PeerFault.TheVariants.{Failed, Memory}

-- a request to a host, and the reply where one came
pub record Exchange : Type 0 where
  pub host : List ℕ
  pub request : List ℕ
  pub reply : Option (List ℕ)

abbrev pub exchange : List ℕ → List ℕ → Option (List ℕ) → Exchange
exchange host request reply = record { host = host; request = request; reply = reply }

-- a call told its exchange, with the reply that came. Where none came it may have told nothing.
abbrev pub Asks : Result (Unit {0}) PeerFault → List ℕ → List ℕ → List ℕ → Option (List Exchange) → Option (List Exchange) → Type 0
Asks (Ok u) host request reply old new = Grows old new (exchange host request (Some reply) ∷ [])
Asks (Err fault) host request reply old new = GrowsInPart old new (exchange host request None ∷ [])

-- the peer failed
abbrev pub HasFailed : Result (Unit {0}) PeerFault → Type 0
HasFailed (Ok u) = ⊥
HasFailed (Err Failed) = Unit {0}
HasFailed (Err Memory) = ⊥

-- what a fault of the peer is to whoever delivers
abbrev pub delivers_as : PeerFault → DeliverFault
delivers_as Failed = deliver.Failed
delivers_as Memory = deliver.Memory

-- the same of a call that hands the reply on
abbrev pub Sends : Result (Vec ℕ Global) DeliverFault → List ℕ → List ℕ → Option (List Exchange) → Option (List Exchange) → Type 0
Sends (Ok reply) host request old new = Grows old new (exchange host request (Some reply.items) ∷ [])
Sends (Err fault) host request old new = GrowsInPart old new (exchange host request None ∷ [])

abbrev pub IsFailed : {A : Type 0} → Result A DeliverFault → Type 0
IsFailed (Ok x) = ⊥
IsFailed (Err deliver.Failed) = Unit {0}
IsFailed (Err deliver.Memory) = ⊥
