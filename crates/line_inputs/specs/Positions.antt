-- The positions that the files of an input record: when their position files are ready for the next, and what a stop leaves.
use Rattle.std.specs.Prelude.{◌≡◌, ◌⊎◌, ℕ, Bool, IsTrue, List, [], ◌∷◌, map, Option, Some, None}
use Rattle.std.specs.List.{AllByRecursion}
use Rattle.io_traits.specs.Images.{Image}
use Rattle.io_traits.specs.Moments.{LeavesBeside, MayLeaveNow, ReadsBeside}
use Rattle.io_traits.specs.declared.stores.Store.{Ghosts as StoreWords}
use Rattle.in_file.specs.Positions.{IsOwn, IsReady, LeavesOldOrNew, recorded_left, recorded_now}
use Rattle.in_file.specs.Views.{Watched}
use Rattle.line_inputs.specs.Rows.{Noted}

-- the position files of some files
abbrev pub IsOfThese : List Noted → List ℕ → Type 0
IsOfThese [] name = ⊥
IsOfThese (n ∷ files) name = IsOwn n.watched name ⊎ IsOfThese files name

-- no two of them have one position file
abbrev pub HasOwn : Noted → Noted → Type 0
HasOwn n other = other.watched.slot ≡ n.watched.slot → ⊥

abbrev pub Apart : List Noted → Type 0
Apart [] = Unit {0}
Apart (n ∷ files) = AllByRecursion (HasOwn n) files × Apart files

-- files of others, by a test
abbrev pub IsApart : (List ℕ → Bool) → List Noted → Type 0
IsApart others files = (name : List ℕ) → IsOfThese files name → IsTrue (others name) → ⊥

-- what stands in a file's position file: its name, where a reading without one began, the position, and the turn that comes next
abbrev pub stored_of : Watched → List ℕ × ℕ × ℕ × ℕ
stored_of w = (w.slot, w.began, w.position, w.turn)

abbrev pub stored : List Noted → List (List ℕ × ℕ × ℕ × ℕ)
stored files = map (λ (n : Noted). stored_of n.watched) files

module _ {S : Type 0} (store : StoreWords S) where
  -- what a stop leaves while the place that rows reach is recorded: where there is none, what was recorded
  abbrev pub LeavesReached : Option ℕ → Watched → S → Image → Type 0
  LeavesReached None w s i = (recorded_left w.slot i ≡ recorded_now store w s) × LeavesBeside store (IsOwn w) s i
  LeavesReached (Some place) w s i = LeavesOldOrNew store w place s i

  -- each of some files is ready, and no two have one position file
  pub record AreReady (files : List Noted) (s : S) : Type 0 where
    pub each : AllByRecursion (λ (n : Noted). IsReady store n.watched s) files
    pub apart : Apart files

  -- ---- laws

  -- the files are ready when others have changed files of their own
  abbrev pub StaysReady : Type 0
  StaysReady =
      (others : List ℕ → Bool) (files : List Noted) (old new : S) → AreReady files old → IsApart others files → ((i : Image) → MayLeaveNow store new i → LeavesBeside store (λ name. IsTrue (others name)) old i)
      → ReadsBeside store (λ name. IsTrue (others name)) old new → AreReady files new

  -- and where what stands in their position files stays as it was
  abbrev pub StoredReady : Type 0
  StoredReady = (before after : List Noted) (s : S) → stored after ≡ stored before → AreReady before s → AreReady after s
