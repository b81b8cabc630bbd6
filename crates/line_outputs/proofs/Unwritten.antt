-- Letters that are not appended, and a folder that isn't opened.
use Rattle.std.proofs.Common.{inl, ℕ, List}
use Rattle.io_traits.specs.Moments.{EachMoment, ImagesTell}
use Rattle.io_traits.specs.declared.stores.Store.{Ghosts as StoreWords}
use Rattle.io_traits.proofs.Beside.{beside_none}
use Rattle.io_traits.proofs.Moments.{started}
use Rattle.dead_letters.specs.Appends.{append_to}
use Rattle.dead_letters.specs.Opening.{LeavesHeld}
use Rattle.dead_letters.specs.Views.{DeadQueue, IsOwn, sheds}
use Rattle.dead_letters.specs.Ready.{AppendLeaves, IsReady, LeavesOldOrNew, held_now}
use Rattle.dead_letters.specs.declared.letter.DeadLetter.{DeadLetter}
use Rattle.dead_letters.proofs.Staying.{holds_beside}

-- while nothing was called, a stop leaves what the queue holds
pub not_begun : {S : Type 0} (store : StoreWords S) (tell : ImagesTell store) (q : DeadQueue) (letters : List DeadLetter) (s : S) → IsReady store q s → AppendLeaves store q letters s s
not_begun store tell q letters s ready =
    started store s (LeavesOldOrNew store q.folder (held_now q (store.seen s)) (append_to q.limit (held_now q (store.seen s)) (sheds q letters) letters) s)
    (λ i left. record {
      own = λ chance. inl (holds_beside store q s ready (λ n. ⊥) (λ n own m. m) i (tell s (store.moment s) i left) (beside_none store (λ n. ⊥) s i (inl left)));
      beside = beside_none store (IsOwn q.folder) s i (inl left);
    })

-- and of a folder what it may have left before
pub not_opened : {S : Type 0} (store : StoreWords S) (folder : List ℕ) (s : S) → EachMoment store s s (LeavesHeld store folder s)
not_opened store folder s = started store s (LeavesHeld store folder s) (λ i left. record { own = inl left; beside = beside_none store (IsOwn folder) s i (inl left) })
