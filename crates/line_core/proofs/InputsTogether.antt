-- The position files of all inputs of a line behind calls of its folder and of one of the inputs, and the connections that came.
use Rattle.std.proofs.Common.{◌≡◌, inl, inr, ⊎_elim, ◌<◌, ◌≤◌, ℕ, zero, suc, List, [], ◌∷◌, ◌++◌, length, map, get_or, slice_set, refl, sym, ap, ap₂, ◌∙◌, subst, arith}
use Rattle.std.specs.List.{AllByRecursion}
use Rattle.std.proofs.lemmas.List.{map-append}
use Rattle.io_traits.specs.Moments.{EachMoment, ImagesTell, LeavesBeside, ReadsBeside}
use Rattle.io_traits.specs.declared.stores.Store.{Ghosts as StoreWords}
use Rattle.in_file.specs.Positions.{IsReady}
use Rattle.in_file.specs.Views.{Watched}
use Rattle.in_file.proofs.Staying.{ready_beside}
use Rattle.in_tcp.specs.Reads.{AllCame}
use Rattle.dead_letters.specs.Views.{IsOwn as IsOfLetters}
use Rattle.dead_letters.proofs.Staying.{ready_beside as letters_beside}
use Rattle.queue_files.specs.Folders.{IsOwn as IsOfQueue, names_in}
use Rattle.queue_core.specs.Opens.{IsReady as QueueReady}
use Rattle.queue_core.proofs.BesideOthers.{stays_ready}
use Rattle.line_inputs.specs.Openings.{slots_of}
use Rattle.line_inputs.specs.Positions.{Apart, AreReady, HasOwn, IsOfThese, stored, stored_of}
use Rattle.line_inputs.specs.Rows.{Noted}
use Rattle.line_inputs.specs.Sources.{connections_of, files_of}
use Rattle.line_inputs.proofs.Together.{all_then}
use Rattle.line_outputs.specs.OpenFiles.{IsFileOf, IsOutside}
use Rattle.line_outputs.specs.Readiness.{LeavesOthers}
use Rattle.line_outputs.specs.declared.stored.StoredOutputs.{StoredOutputs}
use Rattle.line_outputs.proofs.Keeping.{all_stay, its_ready}
use Rattle.line_folder.specs.FileNames.{belongs, input_slot, of_inputs}
use Rattle.line_folder.specs.Readiness.{IsFolderReady}
use Rattle.line_folder.specs.declared.folder.LineFolder.{LineFolder}
use Rattle.line_folder.proofs.NameParts.{input_or_file, input_or_letters, queue_not_input, tests_input}
use Rattle.line_folder.proofs.Together.{delivery_keeps_inputs, letters_keep_inputs, queue_keeps_inputs, queue_leaves}
use Rattle.line_core.specs.Readiness.{InputsReady, IsRecordedIn, connections_by, watched_by}
use Rattle.line_core.specs.declared.line.LineInput.{LineInput}
use Rattle.line_core.proofs.EachOf.{each_front, each_joined, each_last, each_then}

-- ---- files that are no others

-- files in the folder that are ready stay so, where each that is recorded does
module _ {S : Type 0} (store : StoreWords S) (folder : List ℕ) (old new : S)
    (stays : (path : List ℕ) (w : Watched) → w.slot ≡ input_slot folder path → IsReady store w old → IsReady store w new) where
  pub inputs_stay : (inputs : List LineInput) → InputsReady store folder inputs old → InputsReady store folder inputs new
  inputs_stay inputs ready = record {
    files = record {
      each = all_then (λ (n : Noted). IsReady store n.watched old) (IsRecordedIn folder) (λ (n : Noted). IsReady store n.watched new)
          (λ n was recorded. stays recorded.0 n.watched recorded.1 was) (watched_by inputs) ready.files.each ready.recorded;
      apart = ready.files.apart;
    };
    recorded = ready.recorded;
  }

module _ {S : Type 0} (store : StoreWords S) (tell : ImagesTell store) (folder : List ℕ) (inputs : List LineInput) (old new : S) where
  -- behind a call of the queue
  pub queue_keeps : LeavesOthers store (IsOfQueue (names_in folder)) old new → InputsReady store folder inputs old → InputsReady store folder inputs new
  queue_keeps leaves ready = inputs_stay store folder old new (λ path w is was. queue_keeps_inputs store tell folder path w old new is leaves was) inputs ready

  -- behind a delivery to a file outside of the folder
  pub delivery_keeps : (out : List ℕ) → IsOutside folder out → LeavesOthers store (IsFileOf folder out) old new → InputsReady store folder inputs old → InputsReady store folder inputs new
  delivery_keeps out outside leaves ready = inputs_stay store folder old new (λ path w is was. delivery_keeps_inputs store tell folder path w out old new is outside leaves was) inputs ready

  -- behind an append of letters
  pub letters_keep : LeavesOthers store (IsOfLetters folder) old new → InputsReady store folder inputs old → InputsReady store folder inputs new
  letters_keep leaves ready = inputs_stay store folder old new (λ path w is was. letters_keep_inputs store tell folder path w old new is leaves was) inputs ready

-- behind a call of the queue, which leaves the folder's path
pub behind_queue : {S : Type 0} (store : StoreWords S) (tell : ImagesTell store) (f g : LineFolder) (inputs : List LineInput) (old new : S) → g.queue.folder ≡ f.queue.folder
    → EachMoment store old new (LeavesBeside store (IsOfQueue (names_in f.queue.folder)) old) → ReadsBeside store (IsOfQueue (names_in f.queue.folder)) old new
    → InputsReady store f.queue.folder inputs old → InputsReady store g.queue.folder inputs new
behind_queue store tell f g inputs old new same run reads ready =
    subst (λ folder. InputsReady store folder inputs new) (sym same) (queue_keeps store tell f.queue.folder inputs old new (queue_leaves store tell f old new run reads) ready)

-- ---- what is stored of the files of one input stays

cons_same : {X : Type 0} (x y : X) (xs ys : List X) → x ∷ xs ≡ y ∷ ys → (x ≡ y) × (xs ≡ ys)
cons_same x y xs ys same = (ap (λ l. get_or l 0 x) same, ap tail same)
  where
    tail : {X : Type 0} → List X → List X
    tail [] = []
    tail (z ∷ zs) = zs

stored_slots : (before after : List Noted) → stored after ≡ stored before → slots_of after ≡ slots_of before
stored_slots [] [] same = refl
stored_slots [] (a ∷ after) same = absurd cc
stored_slots (b ∷ before) [] same = absurd cc
stored_slots (b ∷ before) (a ∷ after) same =
    let both = cons_same (stored_of a.watched) (stored_of b.watched) (stored after) (stored before) same in
    ap₂ (λ x xs. x ∷ xs) (ap (λ p. p.0) both.0) (stored_slots before after both.1)

own_same : (a b : Noted) → a.watched.slot ≡ b.watched.slot → (before after : List Noted) → slots_of after ≡ slots_of before → AllByRecursion (HasOwn b) before → AllByRecursion (HasOwn a) after
own_same a b here before [] same own = tt
own_same a b here [] (c ∷ after) same own = absurd cc
own_same a b here (d ∷ before) (c ∷ after) same own =
    let both = cons_same c.watched.slot d.watched.slot (slots_of after) (slots_of before) same in
    (λ eq. own.0 (sym both.0 ∙ eq ∙ here), own_same a b here before after both.1 own.1)

apart_same : (before after : List Noted) → slots_of after ≡ slots_of before → Apart before → Apart after
apart_same before [] same apart = tt
apart_same [] (a ∷ after) same apart = absurd cc
apart_same (b ∷ before) (a ∷ after) same apart =
    let both = cons_same a.watched.slot b.watched.slot (slots_of after) (slots_of before) same in
    (own_same a b both.0 before after both.1 apart.0, apart_same before after both.1 apart.1)

recorded_same : (folder : List ℕ) (before after : List Noted) → slots_of after ≡ slots_of before → AllByRecursion (IsRecordedIn folder) before → AllByRecursion (IsRecordedIn folder) after
recorded_same folder before [] same recorded = tt
recorded_same folder [] (a ∷ after) same recorded = absurd cc
recorded_same folder (b ∷ before) (a ∷ after) same recorded =
    let both = cons_same a.watched.slot b.watched.slot (slots_of after) (slots_of before) same in
    ((recorded.0.0, both.0 ∙ recorded.0.1), recorded_same folder before after both.1 recorded.1)

module _ {S : Type 0} (store : StoreWords S) (s : S) where
  one_same : (w after : Watched) → stored_of after ≡ stored_of w → IsReady store w s → IsReady store after s
  one_same w after same ready =
      let moved = subst (λ p. IsReady store (record w { slot = p.0; began = p.1; position = p.2; turn = p.3 }) s) (sym same) (record { next = ready.next; position = ready.position; settled = ready.settled }) in
      record { next = moved.next; position = moved.position; settled = moved.settled }

  each_same : (before after : List Noted) → stored after ≡ stored before → AllByRecursion (λ (m : Noted). IsReady store m.watched s) before → AllByRecursion (λ (m : Noted). IsReady store m.watched s) after
  each_same before [] same ready = tt
  each_same [] (a ∷ after) same ready = absurd cc
  each_same (b ∷ before) (a ∷ after) same ready =
      let both = cons_same (stored_of a.watched) (stored_of b.watched) (stored after) (stored before) same in
      (one_same b.watched a.watched both.0 ready.0, each_same before after both.1 ready.1)

  -- where the same is stored of all files
  pub stored_ready : (folder : List ℕ) (before after : List LineInput) → stored (watched_by after) ≡ stored (watched_by before) → InputsReady store folder before s → InputsReady store folder after s
  stored_ready folder before after same ready =
      let slots = stored_slots (watched_by before) (watched_by after) same in
      record {
        files = record { each = each_same (watched_by before) (watched_by after) same ready.files.each; apart = apart_same (watched_by before) (watched_by after) slots ready.files.apart };
        recorded = recorded_same folder (watched_by before) (watched_by after) slots ready.recorded;
      }

-- where the same files are watched
pub same_files : {S : Type 0} (store : StoreWords S) (folder : List ℕ) (before after : List LineInput) (s : S) → watched_by after ≡ watched_by before → InputsReady store folder before s
    → InputsReady store folder after s
same_files store folder before after s same ready =
    record { files = subst (λ fs. AreReady store fs s) (sym same) ready.files; recorded = subst (AllByRecursion (IsRecordedIn folder)) (sym same) ready.recorded }

-- a list that is made of each input's files, where one input is changed and its part stays
module _ {X : Type 0} (f : Noted → X) where
  made_same : (a b rest : List Noted) → map f a ≡ map f b → map f (a ++ rest) ≡ map f (b ++ rest)
  made_same a b rest same = map-append f a rest ∙ ap (λ l. l ++ map f rest) same ∙ sym (map-append f b rest)

  pub made_set : (inputs : List LineInput) (at : ℕ) (i new : LineInput) → i ≡ get_or inputs at i → map f (files_of new.open.source) ≡ map f (files_of i.open.source)
      → map f (watched_by (slice_set inputs at new)) ≡ map f (watched_by inputs)
  made_set [] at i new is same = refl
  made_set (x ∷ inputs) zero i new is same =
      made_same (files_of new.open.source) (files_of x.open.source) (watched_by inputs) (same ∙ ap (λ (k : LineInput). map f (files_of k.open.source)) is)
  made_set (x ∷ inputs) (suc at) i new is same =
      map-append f (files_of x.open.source) (watched_by (slice_set inputs at new)) ∙ ap (λ l. map f (files_of x.open.source) ++ l) (made_set inputs at i new is same)
      ∙ sym (map-append f (files_of x.open.source) (watched_by inputs))

-- one input is changed, and its files stay
pub watched_set : (inputs : List LineInput) (at : ℕ) (i new : LineInput) → i ≡ get_or inputs at i → files_of new.open.source ≡ files_of i.open.source → watched_by (slice_set inputs at new) ≡ watched_by inputs
watched_set [] at i new is same = refl
watched_set (x ∷ inputs) zero i new is same = ap (λ fs. fs ++ watched_by inputs) (same ∙ ap (λ (k : LineInput). files_of k.open.source) is)
watched_set (x ∷ inputs) (suc at) i new is same = ap (λ fs. files_of x.open.source ++ fs) (watched_set inputs at i new is same)

-- one input is changed, and what is stored of its files stays
pub stored_set : (inputs : List LineInput) (at : ℕ) (i new : LineInput) → i ≡ get_or inputs at i → stored (files_of new.open.source) ≡ stored (files_of i.open.source)
    → stored (watched_by (slice_set inputs at new)) ≡ stored (watched_by inputs)
stored_set inputs at i new is same = made_set (λ (n : Noted). stored_of n.watched) inputs at i new is same

-- ---- one input is assured

-- the files of two lists that stand one behind the other are no others
apart_from : (n : Noted) (files : List Noted) → AllByRecursion (HasOwn n) files → IsOfThese files n.watched.slot → ⊥
apart_from n [] own this = this
apart_from n (m ∷ files) own this = ⊎_elim (λ is. own.0 (sym is)) (λ later. apart_from n files own.1 later) this

apart_between : (xs ys : List Noted) → Apart (xs ++ ys) → (name : List ℕ) → IsOfThese xs name → IsOfThese ys name → ⊥
apart_between [] ys apart name this that = this
apart_between (x ∷ xs) ys apart name this that =
    ⊎_elim (λ is. apart_from x ys (each_last (HasOwn x) xs ys apart.0) (subst (IsOfThese ys) is that)) (λ later. apart_between xs ys apart.1 name later that) this

apart_front : (xs ys : List Noted) → Apart (xs ++ ys) → Apart xs
apart_front [] ys apart = tt
apart_front (x ∷ xs) ys apart = (each_front (HasOwn x) xs ys apart.0, apart_front xs ys apart.1)

apart_behind : (xs ys : List Noted) → Apart (xs ++ ys) → Apart ys
apart_behind [] ys apart = apart
apart_behind (x ∷ xs) ys apart = apart_behind xs ys apart.1

-- a file of one of the inputs
of_front : (xs ys : List Noted) (name : List ℕ) → IsOfThese xs name → IsOfThese (xs ++ ys) name
of_front [] ys name this = absurd this
of_front (x ∷ xs) ys name this = ⊎_elim (λ is. inl is) (λ later. inr (of_front xs ys name later)) this

of_behind : (xs ys : List Noted) (name : List ℕ) → IsOfThese ys name → IsOfThese (xs ++ ys) name
of_behind [] ys name this = this
of_behind (x ∷ xs) ys name this = inr (of_behind xs ys name this)

pub of_one : (inputs : List LineInput) (at : ℕ) (i : LineInput) → at < length inputs → i ≡ get_or inputs at i → (name : List ℕ) → IsOfThese (files_of i.open.source) name → IsOfThese (watched_by inputs) name
of_one [] at i lt is name this = absurd (omega (arith, lt))
of_one (x ∷ inputs) zero i lt is name this = of_front (files_of x.open.source) (watched_by inputs) name (subst (λ (k : LineInput). IsOfThese (files_of k.open.source) name) is this)
of_one (x ∷ inputs) (suc at) i lt is name this = of_behind (files_of x.open.source) (watched_by inputs) name (of_one inputs at i (omega (arith, lt)) is name this)

-- a fact of all files is one of those of an input
pub all_of_one : (P : Noted → Type 0) (inputs : List LineInput) (at : ℕ) (i : LineInput) → at < length inputs → i ≡ get_or inputs at i → AllByRecursion P (watched_by inputs) → AllByRecursion P (files_of i.open.source)
all_of_one P [] at i lt is all = absurd (omega (arith, lt))
all_of_one P (x ∷ inputs) zero i lt is all = subst (λ (k : LineInput). AllByRecursion P (files_of k.open.source)) (sym is) (each_front P (files_of x.open.source) (watched_by inputs) all)
all_of_one P (x ∷ inputs) (suc at) i lt is all = all_of_one P inputs at i (omega (arith, lt)) is (each_last P (files_of x.open.source) (watched_by inputs) all)

apart_of_one : (inputs : List LineInput) (at : ℕ) (i : LineInput) → at < length inputs → i ≡ get_or inputs at i → Apart (watched_by inputs) → Apart (files_of i.open.source)
apart_of_one [] at i lt is apart = absurd (omega (arith, lt))
apart_of_one (x ∷ inputs) zero i lt is apart = subst (λ (k : LineInput). Apart (files_of k.open.source)) (sym is) (apart_front (files_of x.open.source) (watched_by inputs) apart)
apart_of_one (x ∷ inputs) (suc at) i lt is apart = apart_of_one inputs at i (omega (arith, lt)) is (apart_behind (files_of x.open.source) (watched_by inputs) apart)

pub one_ready : {S : Type 0} (store : StoreWords S) (s : S) (inputs : List LineInput) (at : ℕ) (i : LineInput) → at < length inputs → i ≡ get_or inputs at i → AreReady store (watched_by inputs) s
    → AreReady store (files_of i.open.source) s
one_ready store s inputs at i lt is ready = record { each = all_of_one (λ (m : Noted). IsReady store m.watched s) inputs at i lt is ready.each; apart = apart_of_one inputs at i lt is ready.apart }

module _ {S : Type 0} (store : StoreWords S) (tell : ImagesTell store) (Mine : List ℕ → Type 0) (old new : S) (leaves : LeavesOthers store Mine old new) where
  -- files stay ready beside a run that changes none of theirs
  others_stay : (files : List Noted) → ((name : List ℕ) → IsOfThese files name → Mine name → ⊥) → AllByRecursion (λ (m : Noted). IsReady store m.watched old) files
      → AllByRecursion (λ (m : Noted). IsReady store m.watched new) files
  others_stay [] apart ready = tt
  others_stay (n ∷ files) apart ready =
      (ready_beside store n.watched old ready.0 Mine (λ name own. apart name (inl own)) tell new leaves.now leaves.reads, others_stay files (λ name this. apart name (inr this)) ready.1)

-- the files of an input were assured, and the others are ready still
module _ {S : Type 0} (store : StoreWords S) (tell : ImagesTell store) (i after : LineInput) (old new : S) (leaves : LeavesOthers store (IsOfThese (files_of i.open.source)) old new)
    (own : AllByRecursion (λ (m : Noted). IsReady store m.watched new) (files_of after.open.source)) where
  each_assured : (inputs : List LineInput) (at : ℕ) → at < length inputs → i ≡ get_or inputs at i → Apart (watched_by inputs) → AllByRecursion (λ (m : Noted). IsReady store m.watched old) (watched_by inputs)
      → AllByRecursion (λ (m : Noted). IsReady store m.watched new) (watched_by (slice_set inputs at after))
  each_assured [] at lt is apart ready = absurd (omega (arith, lt))
  each_assured (x ∷ inputs) zero lt is apart ready =
      each_joined (λ (m : Noted). IsReady store m.watched new) (files_of after.open.source) (watched_by inputs) own
      (others_stay store tell (IsOfThese (files_of i.open.source)) old new leaves (watched_by inputs)
      (λ name those mine. apart_between (files_of x.open.source) (watched_by inputs) apart name (subst (λ (k : LineInput). IsOfThese (files_of k.open.source) name) is mine) those)
      (each_last (λ (m : Noted). IsReady store m.watched old) (files_of x.open.source) (watched_by inputs) ready))
  each_assured (x ∷ inputs) (suc at) lt is apart ready =
      each_joined (λ (m : Noted). IsReady store m.watched new) (files_of x.open.source) (watched_by (slice_set inputs at after))
      (others_stay store tell (IsOfThese (files_of i.open.source)) old new leaves (files_of x.open.source)
      (λ name those mine. apart_between (files_of x.open.source) (watched_by inputs) apart name those (of_one inputs at i (omega (arith, lt)) is name mine))
      (each_front (λ (m : Noted). IsReady store m.watched old) (files_of x.open.source) (watched_by inputs) ready))
      (each_assured inputs at (omega (arith, lt)) is (apart_behind (files_of x.open.source) (watched_by inputs) apart)
      (each_last (λ (m : Noted). IsReady store m.watched old) (files_of x.open.source) (watched_by inputs) ready))

  pub assured_ready : (folder : List ℕ) (inputs : List LineInput) (at : ℕ) → at < length inputs → i ≡ get_or inputs at i → slots_of (files_of after.open.source) ≡ slots_of (files_of i.open.source)
      → InputsReady store folder inputs old → InputsReady store folder (slice_set inputs at after) new
  assured_ready folder inputs at lt is slots ready =
      let same = made_set (λ (n : Noted). n.watched.slot) inputs at i after is slots in
      record {
        files = record {
          each = each_assured inputs at lt is ready.files.apart ready.files.each;
          apart = apart_same (watched_by inputs) (watched_by (slice_set inputs at after)) same ready.files.apart;
        };
        recorded = recorded_same folder (watched_by inputs) (watched_by (slice_set inputs at after)) same ready.recorded;
      }

-- the folder beside files that are recorded in it
recorded_name : (folder : List ℕ) (files : List Noted) → AllByRecursion (IsRecordedIn folder) files → (name : List ℕ) → IsOfThese files name → (path : List ℕ) × (name ≡ input_slot folder path)
recorded_name folder [] recorded name this = absurd this
recorded_name folder (n ∷ files) recorded name this = ⊎_elim (λ is. (recorded.0.0, is ∙ recorded.0.1)) (λ later. recorded_name folder files recorded.1 name later) this

module _ {S : Type 0} (store : StoreWords S) (tell : ImagesTell store) (f : LineFolder) (files : List Noted) (recorded : AllByRecursion (IsRecordedIn f.queue.folder) files) (old new : S)
    (leaves : LeavesOthers store (IsOfThese files) old new) where
  named : (name : List ℕ) → IsOfThese files name → (path : List ℕ) × (name ≡ input_slot f.queue.folder path)
  named name this = recorded_name f.queue.folder files recorded name this

  queue_still : IsFolderReady store f old → QueueReady store f.queue new
  queue_still ready =
      stays_ready store (belongs of_inputs f.queue.folder) f.queue old new ready.queue (queue_not_input f.queue.folder)
      (λ told name none. leaves.reads told name (λ mine. let at = named name mine in none (tests_input f.queue.folder at.0 name at.1)))

  pub folder_assured : IsFolderReady store f old → IsFolderReady store f new
  folder_assured ready =
      let o : StoredOutputs = f.outputs in
      let here : (name : List ℕ) → IsOfThese files name → (path : List ℕ) × (name ≡ input_slot o.files.folder path)
      = λ name mine. subst (λ folder. (path : List ℕ) × (name ≡ input_slot folder path)) (sym ready.folder) (named name mine) in
      record {
        folder = ready.folder;
        queue = queue_still ready;
        outputs = record {
          folder = ready.outputs.folder;
          files = all_stay store o.files.folder tell (IsOfThese files) old new leaves.now leaves.reads o.files.files ready.outputs.files
              (λ path g at. let its = its_ready store o.files.folder old path o.files.files g ready.outputs.files at in
              λ name own mine. let that = here name mine in input_or_file o.files.folder that.0 path name that.1 (subst (IsOutside o.files.folder) its.1 its.0.outside) own);
          letters = letters_beside store o.letters old ready.outputs.letters (IsOfThese files)
              (λ name own mine. let that = here name mine in input_or_letters o.files.folder that.0 name that.1 (subst (λ folder. IsOfLetters folder name) ready.outputs.folder own)) tell new leaves.now leaves.reads;
        };
      }

-- ---- connections

came_more : (old new : ℕ) → old ≤ new → (ns : List ℕ) → AllCame old ns → AllCame new ns
came_more old new le ns came = each_then (λ n. n < old) (λ n. n < new) (λ n lt. omega (arith, lt, le)) ns came

-- where more came
pub all_came : (old new : ℕ) → old ≤ new → (inputs : List LineInput) → AllByRecursion (AllCame old) (connections_by inputs) → AllByRecursion (AllCame new) (connections_by inputs)
all_came old new le inputs came = each_then (AllCame old) (AllCame new) (came_more old new le) (connections_by inputs) came

-- one input is changed
pub came_set : (now : ℕ) (inputs : List LineInput) (at : ℕ) (i : LineInput) → AllCame now (connections_of i.open.source) → AllByRecursion (AllCame now) (connections_by inputs)
    → AllByRecursion (AllCame now) (connections_by (slice_set inputs at i))
came_set now [] at i here came = tt
came_set now (x ∷ inputs) zero i here came = (here, came.1)
came_set now (x ∷ inputs) (suc at) i here came = (came.0, came_set now inputs at i here came.1)

pub one_came : (now : ℕ) (inputs : List LineInput) (at : ℕ) (i : LineInput) → at < length inputs → i ≡ get_or inputs at i → AllByRecursion (AllCame now) (connections_by inputs) → AllCame now (connections_of i.open.source)
one_came now [] at i lt is came = absurd (omega (arith, lt))
one_came now (x ∷ inputs) zero i lt is came = subst (λ (k : LineInput). AllCame now (connections_of k.open.source)) (sym is) came.0
one_came now (x ∷ inputs) (suc at) i lt is came = one_came now inputs at i (omega (arith, lt)) is came.1

-- the connections that one input has open stay
pub connections_set : (inputs : List LineInput) (at : ℕ) (i new : LineInput) → i ≡ get_or inputs at i → connections_of new.open.source ≡ connections_of i.open.source → connections_by (slice_set inputs at new) ≡ connections_by inputs
connections_set [] at i new is same = refl
connections_set (x ∷ inputs) zero i new is same = ap (λ c. c ∷ connections_by inputs) (same ∙ ap (λ (k : LineInput). connections_of k.open.source) is)
connections_set (x ∷ inputs) (suc at) i new is same = ap (λ l. connections_of x.open.source ∷ l) (connections_set inputs at i new is same)
