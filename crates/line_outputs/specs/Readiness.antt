-- The output files and the dead letters of a pipeline beside each other, and beside others on their store.
use Rattle.std.specs.Prelude.{◌≡◌, Bool, IsTrue, List, ℕ, Some, Ok}
use Rattle.io_traits.specs.Reads.{file_length}
use Rattle.io_traits.specs.Images.{Image}
use Rattle.io_traits.specs.Moments.{MayLeaveNow, LeavesBeside, ReadsBeside}
use Rattle.io_traits.specs.declared.stores.Store.{Ghosts as StoreWords}
use Rattle.slot_files.specs.Views.{Output}
use Rattle.slot_files.specs.Contents.{counted_in}
use Rattle.dead_letters.specs.Views.{DeadQueue, IsOwn}
use Rattle.dead_letters.specs.Ready.{IsReady, IsApart}
use Rattle.line_outputs.specs.OpenFiles.{AreApart, FilesReady, IsFileOf, IsOutside, OpenFiles, file_of, slot_in}

module _ {S : Type 0} (store : StoreWords S) where
  -- all that stand in one folder: each file that is open is ready for a batch, and the letters for an append
  pub record OutputsReady (o : OpenFiles) (q : DeadQueue) (s : S) : Type 0 where
    pub folder : q.folder ≡ o.folder
    pub files : FilesReady store o s
    pub letters : IsReady store q s

  -- what a run leaves of all files but those that are Mine, by its clauses
  pub record LeavesOthers (Mine : List ℕ → Type 0) (old new : S) : Type 0 where
    pub now : (i : Image) → MayLeaveNow store new i → LeavesBeside store Mine old i
    pub reads : ReadsBeside store Mine old new

  -- ---- laws

  -- others, by a test of names, whose files are neither those of an open output nor those of the letters
  abbrev pub OutputsStayReady : Type 0
  OutputsStayReady =
      (others : List ℕ → Bool) (o : OpenFiles) (q : DeadQueue) (old new : S) → OutputsReady o q old → AreApart store others o → IsApart store others q
      → LeavesOthers (λ name. IsTrue (others name)) old new → OutputsReady o q new

  -- a delivery to the file of a path outside of the folder leaves the letters ready
  abbrev pub FilesKeepLetters : Type 0
  FilesKeepLetters =
      (folder path : List ℕ) (q : DeadQueue) (old new : S) → q.folder ≡ folder → IsOutside folder path → IsReady store q old → LeavesOthers (IsFileOf folder path) old new → IsReady store q new

  -- an append of letters, or their opening, leaves the open files ready
  abbrev pub LettersKeepFiles : Type 0
  LettersKeepFiles = (o : OpenFiles) (old new : S) → FilesReady store o old → LeavesOthers (IsOwn o.folder) old new → FilesReady store o new

  -- of a file that is open all counts
  abbrev pub OpenCountsWhole : Type 0
  OpenCountsWhole =
      (o : OpenFiles) (path : List ℕ) (f : Output) (s : S) → FilesReady store o s → file_of path o.files ≡ Some f → IsTrue store.tells
      → counted_in path (slot_in o.folder path) (store.seen s) ≡ Ok (file_length (store.seen s path))
