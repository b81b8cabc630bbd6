use Rattle.std.proofs.Common.{◌≡◌, List, ℕ, sym, subst}
use Rattle.queue_core.specs.Bits.{bit_of}
use Rattle.queue_core.proofs.BitLists.{zero_more}
use Rattle.queue_core.proofs.words.make_room.Goals as goal

pub returns-in_ok-push-clause-bits : goal.returns-in_ok-push-clause-bits
returns-in_ok-push-clause-bits c k =
    subst (λ (l : List ℕ). bit_of l k ≡ bit_of c.args.words.now.items k) (sym c.in_ok-push.ensures.items) (zero_more c.args.words.now.items k)
