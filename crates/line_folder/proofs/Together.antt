-- The parts of a folder, each behind the calls of the others.
use Rattle.std.proofs.lemmas.Bool.{false≢true}
use Rattle.std.proofs.Common.{◌≡◌, inl, inr, ℕ, Bool, true, false, Result, Ok, Err, OnOk, IsTrue, List, refl, sym, ap, ◌∙◌, subst}
use Rattle.std.proofs.lemmas.List.{append_cancel_left}
use Rattle.io_traits.specs.Moments.{EachMoment, LeavesBeside, ReadsBeside, ImagesTell}
use Rattle.io_traits.specs.declared.stores.Store.{Ghosts as StoreWords}
use Rattle.io_traits.proofs.Beside.{beside_more}
use Rattle.io_traits.proofs.Moments.{holds_now}
use Rattle.in_file.specs.Positions.{IsOwn as IsOfInput, IsReady as InputReady}
use Rattle.in_file.specs.Views.{Watched}
use Rattle.in_file.proofs.Staying.{ready_beside as input_beside}
use Rattle.dead_letters.specs.Views.{DeadQueue, IsOwn as IsOfLetters}
use Rattle.dead_letters.proofs.Staying.{ready_beside as letters_beside}
use Rattle.slot_files.specs.Names.{position_name}
use Rattle.slot_files.specs.declared.name.PositionOf.TheVariants.{Input as OfInput}
use Rattle.slot_files.proofs.PathNames.{names_differ}
use Rattle.queue_files.specs.Folders.{IsOwn as IsOfQueue, names_in}
use Rattle.queue_files.specs.Kept.{Queue}
use Rattle.queue_core.specs.Beside.{IsApart}
use Rattle.queue_core.specs.Opens.{IsReady as QueueReady, Opens}
use Rattle.queue_core.specs.Views.{QueueView}
use Rattle.queue_core.specs.Writing.{behind_write, made_ready, needs_page}
use Rattle.queue_core.proofs.Acknowledging.{acknowledged_is_ready}
use Rattle.queue_core.proofs.BesideOthers.{stays_open, stays_ready}
use Rattle.line_outputs.specs.OpenFiles.{IsFileOf, IsOutside, OpenFiles}
use Rattle.line_outputs.specs.Readiness.{LeavesOthers}
use Rattle.line_outputs.specs.declared.stored.StoredOutputs.{StoredOutputs}
use Rattle.line_outputs.proofs.Keeping.{all_stay, its_ready}
use Rattle.line_folder.specs.FileNames.{FilePart, of_queue, of_letters, of_outputs, of_inputs, of_outside, in_parts, part_named, belongs, is_delivered_to, input_slot}
use Rattle.line_folder.specs.Readiness.{PartsAreApart, AreOutputsReady, IsFolderReady, QueueKeepsOutputs, DeliveryKeepsQueue, DeliveryKeepsOpen, LettersKeepQueue, LettersKeepOpen, QueueKeepsInputs, DeliveryKeepsInputs, LettersKeepInputs, InputsKeepInputs, InputsKeepFolder, InputsKeepOpen, AcknowledgedKeepsFolder}
use Rattle.line_folder.specs.declared.folder.LineFolder.{LineFolder}
use Rattle.line_folder.proofs.NameParts.{file_part, input_part, letters_part, queue_part, queue_or_letters, queue_or_file, input_or_queue, input_or_letters, input_or_file, tests_letters, tests_input, tests_file, queue_not_letters, queue_not_input, queue_not_file}

-- a file isn't of parts among which its own isn't
no_part : (folder name : List ℕ) (part : FilePart) (parts : FilePart → Bool) → parts part ≡ false → part_named folder name ≡ part → IsTrue (in_parts parts folder name) → ⊥
no_part folder name part parts none at is = false≢true (sym none ∙ ap parts (sym at) ∙ is)

-- two facts of an answer that is Ok make a third
pub both_give : {T E A B C : Type 0} (r : Result T E) → (A → B → C) → OnOk r A → OnOk r B → OnOk r C
both_give (Ok x) makes a b = makes a b
both_give (Err e) makes a b = tt

-- a row that is written leaves the folder
made_folder : (needed : Bool) (v : QueueView) → (made_ready needed v).folder ≡ v.folder
made_folder true v = refl
made_folder false v = refl

pub written_folder : (size : ℕ) (v : QueueView) → (behind_write size v).folder ≡ v.folder
written_folder size v = made_folder (needs_page size v) v

module _ {S : Type 0} (store : StoreWords S) (tell : ImagesTell store) where
  -- outputs and letters, while others change files that are neither theirs nor those of a path outside of the folder
  outputs_beside : (o : StoredOutputs) (Mine : List ℕ → Type 0) (old new : S) → AreOutputsReady store o old → LeavesOthers store Mine old new
      → ((name : List ℕ) → IsOfLetters o.files.folder name → Mine name → ⊥) → ((path name : List ℕ) → IsOutside o.files.folder path → IsFileOf o.files.folder path name → Mine name → ⊥)
      → AreOutputsReady store o new
  outputs_beside o Mine old new ready leaves letters files = record {
    folder = ready.folder;
    files = all_stay store o.files.folder tell Mine old new leaves.now leaves.reads o.files.files ready.files
        (λ path f at. let its = its_ready store o.files.folder old path o.files.files f ready.files at in λ name own mine. files path name (subst (IsOutside o.files.folder) its.1 its.0.outside) own mine);
    letters = letters_beside store o.letters old ready.letters Mine (λ name own mine. letters name (subst (λ folder. IsOfLetters folder name) ready.folder own) mine) tell new leaves.now leaves.reads;
  }

  pub parts_are_apart : PartsAreApart store
  parts_are_apart = record {
    queue = λ parts v none name own is. no_part v.folder name of_queue parts none (queue_part v.folder name own) is;
    letters = λ parts q none name own is. no_part q.folder name of_letters parts none (letters_part q.folder name own) is;
    outputs = λ parts o s none none_outside ready path f at name own is.
        let its = its_ready store o.folder s path o.files f ready at in
        elim (file_part o.folder path name (subst (IsOutside o.folder) its.1 its.0.outside) own) [
          | inl out ↦ no_part o.folder name of_outside parts none_outside out is
          | inr slot ↦ no_part o.folder name of_outputs parts none slot is
        ];
    inputs = λ parts folder path w none at name own is. no_part folder name of_inputs parts none (ap (part_named folder) (own ∙ at) ∙ input_part folder path) is;
  }

  pub queue_keeps_outputs : QueueKeepsOutputs store
  queue_keeps_outputs folder o old new same ready leaves =
      let own = subst (λ f. LeavesOthers store (IsOfQueue (names_in f)) old new) (sym same) leaves in
      outputs_beside o (IsOfQueue (names_in o.files.folder)) old new ready own
      (λ name letter queue. queue_or_letters o.files.folder name queue letter)
      (λ path name outside file queue. queue_or_file o.files.folder path name outside queue file)

  -- a queue, while others change files that a test tells from its own
  module _ (v : QueueView) (Mine : List ℕ → Type 0) (others : List ℕ → Bool) (tests : (name : List ℕ) → Mine name → IsTrue (others name)) (apart : IsApart others v) (old new : S) where
    reads_others : ReadsBeside store Mine old new → ReadsBeside store (λ name. IsTrue (others name)) old new
    reads_others reads told name none = reads told name (λ mine. none (tests name mine))

    queue_beside : ReadsBeside store Mine old new → QueueReady store v old → QueueReady store v new
    queue_beside reads ready = stays_ready store others v old new ready apart (reads_others reads)

    open_beside : (q : Queue) → LeavesOthers store Mine old new → Opens store v q old → Opens store v q new
    open_beside q leaves opens =
        stays_open store others v q old new opens apart (λ i left. beside_more store Mine (λ name. IsTrue (others name)) tests old i (leaves.now i left)) (reads_others leaves.reads)

  module _ (v : QueueView) (path : List ℕ) (old new : S) (outside : IsOutside v.folder path) where
    file_test : (name : List ℕ) → IsFileOf v.folder path name → IsTrue (is_delivered_to v.folder name)
    file_test name own = tests_file v.folder path name outside own

    pub delivery_keeps : ReadsBeside store (IsFileOf v.folder path) old new → QueueReady store v old → QueueReady store v new
    delivery_keeps reads ready = queue_beside v (IsFileOf v.folder path) (is_delivered_to v.folder) file_test (queue_not_file v.folder) old new reads ready

    pub delivery_opens : (q : Queue) → LeavesOthers store (IsFileOf v.folder path) old new → Opens store v q old → Opens store v q new
    delivery_opens q leaves opens = open_beside v (IsFileOf v.folder path) (is_delivered_to v.folder) file_test (queue_not_file v.folder) old new q leaves opens

  pub delivery_keeps_queue : DeliveryKeepsQueue store
  delivery_keeps_queue v path old new outside reads ready = delivery_keeps v path old new outside reads ready

  pub delivery_keeps_open : DeliveryKeepsOpen store
  delivery_keeps_open v q path old new outside leaves opens = delivery_opens v path old new outside q leaves opens

  pub letters_keep_queue : LettersKeepQueue store
  letters_keep_queue v old new reads ready = queue_beside v (IsOfLetters v.folder) (belongs of_letters v.folder) (tests_letters v.folder) (queue_not_letters v.folder) old new reads ready

  pub letters_keep_open : LettersKeepOpen store
  letters_keep_open v q old new leaves opens = open_beside v (IsOfLetters v.folder) (belongs of_letters v.folder) (tests_letters v.folder) (queue_not_letters v.folder) old new q leaves opens

  -- an input
  module _ (w : Watched) (old new : S) (Mine : List ℕ → Type 0) (leaves : LeavesOthers store Mine old new) where
    input_stays : (Mine w.slot → ⊥) → InputReady store w old → InputReady store w new
    input_stays apart ready = input_beside store w old ready Mine (λ name is mine. apart (subst Mine is mine)) tell new leaves.now leaves.reads

  pub queue_keeps_inputs : QueueKeepsInputs store
  queue_keeps_inputs folder path w old new is leaves ready = input_stays w old new (IsOfQueue (names_in folder)) leaves (input_or_queue folder path w.slot is) ready

  pub delivery_keeps_inputs : DeliveryKeepsInputs store
  delivery_keeps_inputs folder path w out old new is outside leaves ready = input_stays w old new (IsFileOf folder out) leaves (input_or_file folder path out w.slot is outside) ready

  pub letters_keep_inputs : LettersKeepInputs store
  letters_keep_inputs folder path w old new is leaves ready = input_stays w old new (IsOfLetters folder) leaves (input_or_letters folder path w.slot is) ready

  pub inputs_keep_inputs : InputsKeepInputs store
  inputs_keep_inputs folder path other w u old new is at differ bytes them leaves ready =
      input_stays u old new (IsOfInput w) leaves
      (λ same. differ (sym (names_differ OfInput other path them bytes (append_cancel_left folder (position_name OfInput other) (position_name OfInput path) (sym at ∙ same ∙ is))))) ready

  -- all parts, while an input records its position
  module _ (v : QueueView) (path : List ℕ) (w : Watched) (old new : S) (is : w.slot ≡ input_slot v.folder path) where
    input_test : (name : List ℕ) → IsOfInput w name → IsTrue (belongs of_inputs v.folder name)
    input_test name own = tests_input v.folder path name (own ∙ is)

    input_queue : ReadsBeside store (IsOfInput w) old new → QueueReady store v old → QueueReady store v new
    input_queue reads ready = queue_beside v (IsOfInput w) (belongs of_inputs v.folder) input_test (queue_not_input v.folder) old new reads ready

    input_open : (q : Queue) → LeavesOthers store (IsOfInput w) old new → Opens store v q old → Opens store v q new
    input_open q leaves opens = open_beside v (IsOfInput w) (belongs of_inputs v.folder) input_test (queue_not_input v.folder) old new q leaves opens

  pub inputs_keep_open : InputsKeepOpen store
  inputs_keep_open v q path w old new is leaves opens = input_open v path w old new is q leaves opens

  pub inputs_keep_folder : InputsKeepFolder store
  inputs_keep_folder f path w old new is leaves ready =
      let here : w.slot ≡ input_slot f.outputs.files.folder path = is ∙ ap (λ folder. input_slot folder path) (sym ready.folder) in
      record {
        folder = ready.folder;
        queue = input_queue f.queue path w old new is leaves.reads ready.queue;
        outputs = outputs_beside f.outputs (IsOfInput w) old new ready.outputs leaves
            (λ name letter own. input_or_letters f.outputs.files.folder path name (own ∙ here) letter)
            (λ out name outside file own. input_or_file f.outputs.files.folder path out name (own ∙ here) outside file);
      }

  pub acknowledged_keeps_folder : AcknowledgedKeepsFolder store
  acknowledged_keeps_folder f numbers s ready = record { folder = ready.folder; queue = acknowledged_is_ready store f.queue s numbers ready.queue; outputs = ready.outputs }

  -- ---- behind a call of the queue

  module _ (f : LineFolder) (old new : S) (run : EachMoment store old new (LeavesBeside store (IsOfQueue (names_in f.queue.folder)) old)) (reads : ReadsBeside store (IsOfQueue (names_in f.queue.folder)) old new) where
    pub queue_leaves : LeavesOthers store (IsOfQueue (names_in f.queue.folder)) old new
    queue_leaves = record { now = holds_now store old new (LeavesBeside store (IsOfQueue (names_in f.queue.folder)) old) run; reads = reads }

    pub outputs_behind : IsFolderReady store f old → AreOutputsReady store f.outputs new
    outputs_behind ready = queue_keeps_outputs f.queue.folder f.outputs old new ready.folder ready.outputs queue_leaves

    pub folder_behind : (queue : QueueView) → IsFolderReady store f old → queue.folder ≡ f.queue.folder → QueueReady store queue new → IsFolderReady store (record f { queue = queue }) new
    folder_behind queue ready same queue_ready = record { folder = ready.folder ∙ sym same; queue = queue_ready; outputs = outputs_behind ready }

  -- ---- behind a call of the outputs

  pub delivered_behind : (f : LineFolder) (outputs : StoredOutputs) (path : List ℕ) (old new : S) → IsFolderReady store f old → IsOutside f.queue.folder path → outputs.letters ≡ f.outputs.letters
      → AreOutputsReady store outputs new → ReadsBeside store (IsFileOf f.outputs.files.folder path) old new → IsFolderReady store (record f { outputs = outputs }) new
  delivered_behind f outputs path old new ready outside letters outputs_ready reads = record {
    folder = sym outputs_ready.folder ∙ ap (λ (q : DeadQueue). q.folder) letters ∙ ready.outputs.folder ∙ ready.folder;
    queue = delivery_keeps_queue f.queue path old new outside (subst (λ folder. ReadsBeside store (IsFileOf folder path) old new) ready.folder reads) ready.queue;
    outputs = outputs_ready;
  }

  module _ (f : LineFolder) (old new : S) (ready : IsFolderReady store f old) (reads : ReadsBeside store (IsOfLetters f.outputs.letters.folder) old new) where
    pub queue_behind : QueueReady store f.queue new
    queue_behind = letters_keep_queue f.queue old new (subst (λ folder. ReadsBeside store (IsOfLetters folder) old new) (ready.outputs.folder ∙ ready.folder) reads) ready.queue

    pub appended_behind : (outputs : StoredOutputs) → outputs.files ≡ f.outputs.files → AreOutputsReady store outputs new → IsFolderReady store (record f { outputs = outputs }) new
    appended_behind outputs files outputs_ready = record { folder = ap (λ (o : OpenFiles). o.folder) files ∙ ready.folder; queue = queue_behind; outputs = outputs_ready }
