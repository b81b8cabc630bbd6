-- The queue, the dead letters and the output files of a pipeline beside each other, and beside its inputs.
use Rattle.std.specs.Prelude.{◌≡◌, ◌≢◌, Bool, false, List, ℕ}
use Rattle.crc_frame.specs.Bytes.{IsBytes}
use Rattle.io_traits.specs.Moments.{ReadsBeside}
use Rattle.io_traits.specs.declared.stores.Store.{Ghosts as StoreWords}
use Rattle.in_file.specs.Positions.{IsApart as IsInputApart, IsOwn as IsOfInput, IsReady as InputReady}
use Rattle.in_file.specs.Views.{Watched}
use Rattle.dead_letters.specs.Ready.{IsApart as AreLettersApart}
use Rattle.dead_letters.specs.Views.{DeadQueue, IsOwn as IsOfLetters}
use Rattle.queue_files.specs.Folders.{IsOwn as IsOfQueue, names_in}
use Rattle.queue_files.specs.Kept.{Queue}
use Rattle.queue_core.specs.Beside.{IsApart}
use Rattle.queue_core.specs.Calls.{behind_acknowledge}
use Rattle.queue_core.specs.Opens.{IsReady as QueueReady, Opens}
use Rattle.queue_core.specs.Views.{QueueView}
use Rattle.queue_core.specs.declared.limits.Numbers.{Numbers}
use Rattle.line_outputs.specs.OpenFiles.{AreApart, FilesReady, IsFileOf, IsOutside, OpenFiles}
use Rattle.line_outputs.specs.Readiness.{LeavesOthers, OutputsReady}
use Rattle.line_outputs.specs.declared.stored.StoredOutputs.{StoredOutputs}
use Rattle.line_folder.specs.FileNames.{FilePart, of_queue, of_letters, of_outputs, of_inputs, of_outside, in_parts, input_slot}
use Rattle.line_folder.specs.declared.folder.LineFolder.{LineFolder}

module _ {S : Type 0} (store : StoreWords S) where
  -- each output file that is open is ready for a batch, and the dead letters for an append
  abbrev pub AreOutputsReady : StoredOutputs → S → Type 0
  AreOutputsReady o s = OutputsReady store o.files o.letters s

  -- all parts take calls, in one folder
  pub record IsFolderReady (f : LineFolder) (s : S) : Type 0 where
    pub folder : f.outputs.files.folder ≡ f.queue.folder
    pub queue : QueueReady store f.queue s
    pub outputs : AreOutputsReady f.outputs s

  -- ---- laws

  -- Files of other parts, by a test of parts, are none of a queue, of dead letters, of output files that are open, or of an input: so all that lower laws say of others on the store holds of the calls of these parts.
  pub record PartsAreApart : Type 0 where
    pub queue : (parts : FilePart → Bool) (v : QueueView) → parts of_queue ≡ false → IsApart (in_parts parts v.folder) v
    pub letters : (parts : FilePart → Bool) (q : DeadQueue) → parts of_letters ≡ false → AreLettersApart store (in_parts parts q.folder) q
    pub outputs : (parts : FilePart → Bool) (o : OpenFiles) (s : S) → parts of_outputs ≡ false → parts of_outside ≡ false → FilesReady store o s → AreApart store (in_parts parts o.folder) o
    pub inputs : (parts : FilePart → Bool) (folder path : List ℕ) (w : Watched) → parts of_inputs ≡ false → w.slot ≡ input_slot folder path → IsInputApart store (in_parts parts folder) w

  -- a call of the queue leaves the outputs and the letters ready
  abbrev pub QueueKeepsOutputs : Type 0
  QueueKeepsOutputs =
      (folder : List ℕ) (o : StoredOutputs) (old new : S) → o.files.folder ≡ folder → AreOutputsReady o old → LeavesOthers store (IsOfQueue (names_in folder)) old new → AreOutputsReady o new

  -- a delivery to a file outside of the folder leaves the queue ready, and what it holds
  abbrev pub DeliveryKeepsQueue : Type 0
  DeliveryKeepsQueue =
      (v : QueueView) (path : List ℕ) (old new : S) → IsOutside v.folder path → ReadsBeside store (IsFileOf v.folder path) old new → QueueReady store v old → QueueReady store v new

  abbrev pub DeliveryKeepsOpen : Type 0
  DeliveryKeepsOpen =
      (v : QueueView) (q : Queue) (path : List ℕ) (old new : S) → IsOutside v.folder path → LeavesOthers store (IsFileOf v.folder path) old new → Opens store v q old → Opens store v q new

  -- so does an append of letters
  abbrev pub LettersKeepQueue : Type 0
  LettersKeepQueue = (v : QueueView) (old new : S) → ReadsBeside store (IsOfLetters v.folder) old new → QueueReady store v old → QueueReady store v new

  abbrev pub LettersKeepOpen : Type 0
  LettersKeepOpen = (v : QueueView) (q : Queue) (old new : S) → LeavesOthers store (IsOfLetters v.folder) old new → Opens store v q old → Opens store v q new

  -- all of them leave the position of an input ready
  abbrev pub QueueKeepsInputs : Type 0
  QueueKeepsInputs =
      (folder path : List ℕ) (w : Watched) (old new : S) → w.slot ≡ input_slot folder path → LeavesOthers store (IsOfQueue (names_in folder)) old new → InputReady store w old → InputReady store w new

  abbrev pub DeliveryKeepsInputs : Type 0
  DeliveryKeepsInputs =
      (folder path : List ℕ) (w : Watched) (out : List ℕ) (old new : S) → w.slot ≡ input_slot folder path → IsOutside folder out → LeavesOthers store (IsFileOf folder out) old new
      → InputReady store w old → InputReady store w new

  abbrev pub LettersKeepInputs : Type 0
  LettersKeepInputs =
      (folder path : List ℕ) (w : Watched) (old new : S) → w.slot ≡ input_slot folder path → LeavesOthers store (IsOfLetters folder) old new → InputReady store w old → InputReady store w new

  -- an input that records its position leaves those ready that read other paths
  abbrev pub InputsKeepInputs : Type 0
  InputsKeepInputs =
      (folder path other : List ℕ) (w u : Watched) (old new : S) → w.slot ≡ input_slot folder path → u.slot ≡ input_slot folder other → path ≢ other → IsBytes path → IsBytes other
      → LeavesOthers store (IsOfInput w) old new → InputReady store u old → InputReady store u new

  -- an assurance of an input leaves all parts ready, and what the queue holds
  abbrev pub InputsKeepFolder : Type 0
  InputsKeepFolder =
      (f : LineFolder) (path : List ℕ) (w : Watched) (old new : S) → w.slot ≡ input_slot f.queue.folder path → LeavesOthers store (IsOfInput w) old new → IsFolderReady f old → IsFolderReady f new

  abbrev pub InputsKeepOpen : Type 0
  InputsKeepOpen =
      (v : QueueView) (q : Queue) (path : List ℕ) (w : Watched) (old new : S) → w.slot ≡ input_slot v.folder path → LeavesOthers store (IsOfInput w) old new → Opens store v q old → Opens store v q new

  -- acknowledged rows leave all parts ready: the queue alone changes, and nothing of the store
  abbrev pub AcknowledgedKeepsFolder : Type 0
  AcknowledgedKeepsFolder =
      (f : LineFolder) (numbers : Numbers) (s : S) → IsFolderReady f s → IsFolderReady (record f { queue = behind_acknowledge numbers f.queue }) s
