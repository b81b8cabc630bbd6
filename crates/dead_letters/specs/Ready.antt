-- A queue of dead letters that is open on a store: when it is ready for an append, and what a stop leaves.
use Rattle.std.specs.Prelude.{◌≡◌, ◌⊎◌, ◌<◌, ◌≤◌, ◌^◌, Bool, ℕ, zero, suc, ◌+◌, IsTrue, List, [], ◌∷◌, length, map, Ok}
use Rattle.io_traits.specs.Folders.{Content}
use Rattle.io_traits.specs.Reads.{bytes_of}
use Rattle.crc_frame.specs.Slots.{is_slot}
use Rattle.io_traits.specs.Images.{Image, at_rest}
use Rattle.io_traits.specs.Chance.{NoChance}
use Rattle.io_traits.specs.Tails.{passes}
use Rattle.io_traits.specs.Moments.{MayLeaveNow, EachMoment, LeavesBeside, ReadsBeside}
use Rattle.io_traits.specs.declared.stores.Store.{Ghosts as StoreWords}
use Rattle.slot_files.specs.Contents.{left_in}
use Rattle.dead_letters.specs.Queues.{segment, names, name_in}
use Rattle.dead_letters.specs.Segments.{counted_in}
use Rattle.dead_letters.specs.Found.{Held, bytes_in, found}
use Rattle.dead_letters.specs.Appends.{append_to}
use Rattle.dead_letters.specs.Views.{DeadQueue, IsOwn, last_of, named, sheds}
use Rattle.dead_letters.specs.declared.segments.Counted.TheVariants.{Count}
use Rattle.dead_letters.specs.declared.letter.DeadLetter.{DeadLetter}

-- so many segments from a number on, each to the end of its file
abbrev pub files_from : List ℕ → Content → ℕ → ℕ → List (List ℕ)
files_from folder content n zero = []
files_from folder content n (suc more) = bytes_in folder content n ∷ files_from folder content (suc n) more

-- what a queue that is open holds
abbrev pub held_now : DeadQueue → Content → Held
held_now q content = record { first = q.first; segments = files_from q.folder content q.first (length q.sizes) }

-- of what reads give: which segments count is said, each ends where it does, and none stands behind the last
pub record IsSaid (q : DeadQueue) (content : Content) : Type 0 where
  pub counted : counted_in (bytes_of (content (name_in q.folder names))) ≡ Count q.turn (named q)
  pub sizes : map length (files_from q.folder content q.first (length q.sizes)) ≡ q.sizes
  pub fresh : (n : ℕ) → last_of q < n → n < 2 ^ 32 → bytes_in q.folder content n ≡ []

module _ {S : Type 0} (store : StoreWords S) where
  -- it is so, it has a segment, and nothing is unsettled of the segments from the first on and of the file that names them
  pub record IsReady (q : DeadQueue) (s : S) : Type 0 where
    pub some : 0 < length q.sizes
    pub numbers : q.first + length q.sizes ≤ 2 ^ 32
    pub turn_fits : q.turn < 2 ^ 64
    pub said : IsTrue store.tells → IsSaid q (store.seen s)
    pub names_rest : (i : Image) → MayLeaveNow store s i → i (name_in q.folder names) ≡ at_rest (store.seen s (name_in q.folder names))
    pub segments_rest : (i : Image) → MayLeaveNow store s i → (n : ℕ) → q.first ≤ n → n < 2 ^ 32 → i (name_in q.folder (segment n)) ≡ at_rest (store.seen s (name_in q.folder (segment n)))

  -- What a stop at any moment of an append leaves: the queue from before or that from after, if no slot stands by chance; and all other files as they
  -- might have been left before.
  pub record LeavesOldOrNew (folder : List ℕ) (old new : Held) (s : S) (i : Image) : Type 0 where
    pub own : NoChance (passes (is_slot 32)) (i (name_in folder names)) → (found folder (left_in i) ≡ Ok old) ⊎ (found folder (left_in i) ≡ Ok new)
    pub beside : LeavesBeside store (IsOwn folder) s i

  abbrev pub AppendLeaves : DeadQueue → List DeadLetter → S → S → Type 0
  AppendLeaves q letters old new =
      EachMoment store old new (LeavesOldOrNew q.folder (held_now q (store.seen old)) (append_to q.limit (held_now q (store.seen old)) (sheds q letters) letters) old)

  -- after an append
  pub record IsAppended (q : DeadQueue) (letters : List DeadLetter) (old : S) (grown : DeadQueue) (new : S) : Type 0 where
    pub ready : IsReady grown new
    pub held : IsTrue store.tells → held_now grown (store.seen new) ≡ append_to q.limit (held_now q (store.seen old)) (sheds q letters) letters

  -- ---- laws

  -- files of others, by a test
  abbrev pub IsApart : (List ℕ → Bool) → DeadQueue → Type 0
  IsApart others q = (name : List ℕ) → IsOwn q.folder name → IsTrue (others name) → ⊥

  -- whatever a stop leaves while others change their files, a queue that was ready holds what it held
  abbrev pub HoldsBeside : Type 0
  HoldsBeside =
      (others : List ℕ → Bool) (q : DeadQueue) (s : S) (i : Image) → IsReady q s → IsApart others q → IsTrue store.tells → LeavesBeside store (λ name. IsTrue (others name)) s i
      → found q.folder (left_in i) ≡ Ok (held_now q (store.seen s))

  -- and it is ready when they are done
  abbrev pub StaysReady : Type 0
  StaysReady =
      (others : List ℕ → Bool) (q : DeadQueue) (old new : S) → IsReady q old → IsApart others q → ((i : Image) → MayLeaveNow store new i → LeavesBeside store (λ name. IsTrue (others name)) old i)
      → ReadsBeside store (λ name. IsTrue (others name)) old new → IsReady q new
