-- An open queue beside calls of others on its store, which change no file of its folder.
use Rattle.std.specs.Prelude.{ℕ, Bool, IsTrue, List}
use Rattle.io_traits.specs.Images.{Image}
use Rattle.io_traits.specs.Moments.{MayLeaveNow, LeavesBeside, ReadsBeside}
use Rattle.io_traits.specs.declared.stores.Store.{Ghosts as StoreWords}
use Rattle.queue_files.specs.Folders.{IsOwn, names_in, folder_in}
use Rattle.queue_files.specs.Kept.{Queue, Kept}
use Rattle.queue_files.specs.Marks.{NoChances}
use Rattle.queue_core.specs.Opens.{IsReady, Opens}
use Rattle.queue_core.specs.Views.{QueueView}

-- files of others, by a test
abbrev pub IsApart : (List ℕ → Bool) → QueueView → Type 0
IsApart others v = (name : List ℕ) → IsOwn (names_in v.folder) name → IsTrue (others name) → ⊥

module _ {S : Type 0} (store : StoreWords S) where
  -- whatever a stop leaves while others change their files holds the queue
  abbrev pub HoldsBeside : Type 0
  HoldsBeside =
      (others : List ℕ → Bool) (v : QueueView) (q : Queue) (s : S) (i : Image) → Opens store v q s → IsApart others v → IsTrue store.tells → LeavesBeside store (λ name. IsTrue (others name)) s i
      → NoChances (names_in v.folder) i → Kept q (folder_in (names_in v.folder) i)

  -- and the store holds it when they are done
  abbrev pub StaysOpen : Type 0
  StaysOpen =
      (others : List ℕ → Bool) (v : QueueView) (q : Queue) (old new : S) → Opens store v q old → IsApart others v
      → ((i : Image) → MayLeaveNow store new i → LeavesBeside store (λ name. IsTrue (others name)) old i) → ReadsBeside store (λ name. IsTrue (others name)) old new → Opens store v q new

  -- a queue that takes calls does so then
  abbrev pub StaysReady : Type 0
  StaysReady = (others : List ℕ → Bool) (v : QueueView) (old new : S) → IsReady store v old → IsApart others v → ReadsBeside store (λ name. IsTrue (others name)) old new → IsReady store v new
