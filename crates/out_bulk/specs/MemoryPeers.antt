-- What a peer in memory holds, and what its calls do.
use Rattle.std.specs.Prelude.{ℕ, List, [], ◌∷◌, ◌++◌, drop, option_map, Some, None, Result, Ok, Err, Vec}
use Rattle.std.specs.declared.alloc.Global.{Global}
use Rattle.io_memory.specs.Scripts.{Course, worked, failed}
use Rattle.out_bulk.specs.Exchanges.{Exchange, exchange}
use Rattle.out_bulk.specs.declared.memory_peer.PeerRequest.{PeerRequest}
use Rattle.out_bulk.specs.declared.peer.PeerFault.{PeerFault}
use Rattle.out_bulk.specs.declared.peer.PeerFault.TheVariants.{Failed, Memory}

-- what it was asked, the replies that are left, and its script
pub record Replying : Type 0 where
  pub asked : List Exchange
  pub left : List (List ℕ)
  pub script : Course

abbrev pub bytes_of : Vec ℕ Global → List ℕ
bytes_of v = v.items

abbrev pub exchange_of : PeerRequest → Exchange
exchange_of a = exchange a.host a.request.items (option_map bytes_of a.reply)

-- the next reply: an empty one once none is left
abbrev first_of : List (List ℕ) → List ℕ
first_of [] = []
first_of (reply ∷ rest) = reply

abbrev pub next_reply : Replying → List ℕ
next_reply r = first_of r.left

-- what it holds after a call, by the answer of that call
abbrev pub after_ask : Replying → List ℕ → List ℕ → Result (Unit {0}) PeerFault → Replying
after_ask r host request (Ok u) = record r { asked = r.asked ++ exchange host request (Some (next_reply r)) ∷ []; left = drop 1 r.left; script = worked r.script }
after_ask r host request (Err Failed) = record r { asked = r.asked ++ exchange host request None ∷ []; script = failed r.script }
after_ask r host request (Err Memory) = r
