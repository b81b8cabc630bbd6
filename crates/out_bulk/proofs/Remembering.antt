-- What a call leaves of a peer in memory.
use Rattle.std.proofs.Common.{◌≡◌, ℕ, ◌+◌, List, ◌∷◌, ◌++◌, [], drop, map, Some, Result, Ok, Err, OnOk, refl, sym, ap, ◌∙◌}
use Rattle.std.proofs.lemmas.List.{drop-drop, drop-map}
use Rattle.std.specs.Prelude.{Vec}
use Rattle.std.specs.declared.alloc.Global.{Global}
use Rattle.io_traits.proofs.Growth.{grows_same, grows_some, in_part_none, in_part_whole}
use Rattle.out_bulk.specs.Exchanges.{Asks, exchange}
use Rattle.out_bulk.specs.MemoryPeers.{Replying, after_ask, bytes_of, next_reply}
use Rattle.out_bulk.specs.declared.peer.PeerFault.{PeerFault}
use Rattle.out_bulk.specs.declared.peer.PeerFault.TheVariants.{Failed, Memory}

-- the replies behind the next one
pub behind : (n : ℕ) (replies : List (Vec ℕ Global)) → map bytes_of (drop (n + 1) replies) ≡ drop 1 (map bytes_of (drop n replies))
behind n replies = ap (map bytes_of) (sym (drop-drop 1 n replies)) ∙ sym (drop-map bytes_of 1 (drop n replies))

-- what a call tells
pub asks : (old : Replying) (host request reply : List ℕ) (result : Result (Unit {0}) PeerFault) → OnOk result (reply ≡ next_reply old)
    → Asks result host request reply (Some old.asked) (Some (after_ask old host request result).asked)
asks old host request reply (Ok u) is = grows_some _ (ap (λ r. old.asked ++ exchange host request (Some r) ∷ []) (sym is))
asks old host request reply (Err Failed) is = in_part_whole (grows_some _ refl)
asks old host request reply (Err Memory) is = in_part_none _ (grows_same (Some old.asked))
