use Rattle.std.proofs.Common.{◌≡◌, ℕ, List, get_or, ap, arith}
use Rattle.slot_files.proofs.Staying.{has_room}
use Rattle.history_tests.proofs.calls.write_bytes.Goals as goal

pub append_batch-requires : goal.append_batch-requires
append_batch-requires g c =
    has_room g.S.Store c.in_ok-out.out c.open_on.new.store (c.in_ok-out.ensures.ready (λ same. let e : 108 ≡ 112 = ap (λ (l : List ℕ). get_or l 4 0) same in omega (arith, e)))
