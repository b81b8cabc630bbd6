-- The names of the output files of a pipeline and those of its dead letters.
use Rattle.std.specs.Prelude.{codes}
use Rattle.std.proofs.Common.{◌≡◌, inl, inr, ℕ, zero, suc, IsTrue, List, ◌++◌, get_or, refl, sym, ap, ◌∙◌, subst, arith}
use Rattle.std.proofs.lemmas.List.{append_cancel_left}
use Rattle.io_traits.specs.Moments.{EachMoment, LeavesBeside, ReadsBeside, ImagesTell}
use Rattle.io_traits.specs.Reads.{bytes_of}
use Rattle.io_traits.specs.declared.stores.Store.{Ghosts as StoreWords}
use Rattle.io_traits.proofs.Moments.{holds_now}
use Rattle.slot_files.specs.Names.{position_name}
use Rattle.slot_files.specs.declared.name.PositionOf.TheVariants.{Output as OfOutput}
use Rattle.slot_files.specs.Views.{Output, IsOwn as IsFileOwn}
use Rattle.slot_files.specs.Contents.{Stands}
use Rattle.slot_files.proofs.Staying.{stands_beside}
use Rattle.dead_letters.specs.Queues.{Role, segment, names, position, segment_name, name_in}
use Rattle.dead_letters.specs.Views.{DeadQueue, IsOwn, sheds}
use Rattle.dead_letters.specs.Ready.{AppendLeaves, IsAppended, LeavesOldOrNew, held_now}
use Rattle.dead_letters.specs.Appends.{append_to}
use Rattle.dead_letters.specs.declared.letter.DeadLetter.{DeadLetter}
use Rattle.dead_letters.proofs.Staying.{ready_beside as letters_beside}
use Rattle.line_outputs.specs.OpenFiles.{LeavesDelivered, FilesReady, FilesStand, FilesStayReady, IsFileOf, IsFileReady, IsOutside, OpenFiles, slot_in}
use Rattle.line_outputs.specs.Readiness.{FilesKeepLetters, LettersKeepFiles, OpenCountsWhole, OutputsReady, OutputsStayReady}
use Rattle.line_outputs.proofs.Delivering.{leaves_beside}
use Rattle.line_outputs.proofs.Keeping.{all_stay, its_ready}
use Rattle.line_outputs.proofs.Opening.{counts_whole}

-- the last part of the name of a file of letters
abbrev last_of : Role → List ℕ
last_of (segment n) = segment_name n
last_of names = codes "dead.seg"
last_of position = codes "dead.pos"

name_is : (folder : List ℕ) (role : Role) → name_in folder role ≡ folder ++ last_of role
name_is folder (segment n) = refl
name_is folder names = refl
name_is folder position = refl

abbrev first : List ℕ → ℕ
first name = get_or name 0 0

first_segment : (n : ℕ) → first (segment_name n) ≡ 100
first_segment zero = refl
first_segment (suc k) = refl

first_is : (role : Role) → first (last_of role) ≡ 100
first_is (segment n) = first_segment n
first_is names = refl
first_is position = refl

first_slot : (path : List ℕ) → first (position_name OfOutput path) ≡ 111
first_slot path = refl

-- a name is not both
pub names_apart : (folder path : List ℕ) → IsOutside folder path → (name : List ℕ) → IsOwn folder name → IsFileOf folder path name → ⊥
names_apart folder path outside name (role, is, named) (inl at) = outside (last_of role) (sym at ∙ named ∙ name_is folder role)
names_apart folder path outside name (role, is, named) (inr at) =
    let same : last_of role ≡ position_name OfOutput path = append_cancel_left folder (last_of role) (position_name OfOutput path) (sym (name_is folder role) ∙ sym named ∙ at) in
    let d = first_is role in
    let o = first_slot path in
    let e : first (last_of role) ≡ first (position_name OfOutput path) = ap first same in
    absurd (omega (arith, d, o, e))

-- its names are those of its path
its_own : {S : Type 0} (store : StoreWords S) (folder : List ℕ) (s : S) (path : List ℕ) (f : Output) → IsFileReady store folder f s → f.path ≡ path → (name : List ℕ) → IsFileOwn f name → IsFileOf folder path name
its_own store folder s path f is at name (inl p) = inl (p ∙ at)
its_own store folder s path f is at name (inr n) = inr (n ∙ is.slot ∙ ap (slot_in folder) at)

module _ {S : Type 0} (store : StoreWords S) (tell : ImagesTell store) where
  pub files_keep_letters : FilesKeepLetters store
  files_keep_letters folder path q old new is outside ready leaves =
      letters_beside store q old ready (IsFileOf folder path) (λ name own mine. names_apart folder path outside name (subst (λ f. IsOwn f name) is own) mine) tell new leaves.now leaves.reads

  pub letters_keep_files : LettersKeepFiles store
  letters_keep_files o old new ready leaves =
      all_stay store o.folder tell (IsOwn o.folder) old new leaves.now leaves.reads o.files ready
      (λ path f at name mine own. let its = its_ready store o.folder old path o.files f ready at in names_apart o.folder path (subst (IsOutside o.folder) its.1 its.0.outside) name own mine)

  pub files_stay_ready : FilesStayReady store
  files_stay_ready others o old new ready apart leaves reads = all_stay store o.folder tell (λ name. IsTrue (others name)) old new leaves reads o.files ready apart

  pub files_stand : FilesStand store
  files_stand others o s i ready apart told beside path f at =
      let its = its_ready store o.folder s path o.files f ready at in
      subst (λ p. Stands p (slot_in o.folder p) (bytes_of (store.seen s p)) i) its.1
      (subst (λ n. Stands f.path n (bytes_of (store.seen s f.path)) i) its.0.slot
      (stands_beside store f s its.0.ready (λ name. IsTrue (others name))
      (λ name own other. apart path f at name (its_own store o.folder s path f its.0 its.1 name own) other) i told beside))

  pub outputs_stay_ready : OutputsStayReady store
  outputs_stay_ready others o q old new ready apart letters_apart leaves = record {
    folder = ready.folder;
    files = files_stay_ready others o old new ready.files apart leaves.now leaves.reads;
    letters = letters_beside store q old ready.letters (λ name. IsTrue (others name)) letters_apart tell new leaves.now leaves.reads;
  }

  -- ---- behind the calls of both

  pub delivered_ready : (o after : OpenFiles) (q : DeadQueue) (path batch : List ℕ) (old new : S) → OutputsReady store o q old → IsOutside o.folder path → after.folder ≡ o.folder → FilesReady store after new
      → EachMoment store old new (LeavesDelivered store o.folder path batch old) → ReadsBeside store (IsFileOf o.folder path) old new → OutputsReady store after q new
  delivered_ready o after q path batch old new ready outside same files run reads = record {
    folder = ready.folder ∙ sym same;
    files = files;
    letters = files_keep_letters o.folder path q old new ready.folder outside ready.letters
        (record { now = λ i left. leaves_beside store o.folder path batch old i (holds_now store old new (LeavesDelivered store o.folder path batch old) run i left); reads = reads });
  }

  module _ (o : OpenFiles) (q : DeadQueue) (letters : List DeadLetter) (old new : S) (ready : OutputsReady store o q old) (run : AppendLeaves store q letters old new) (reads : ReadsBeside store (IsOwn q.folder) old new) where
    pub files_behind : FilesReady store o new
    files_behind = letters_keep_files o old new ready.files (record {
      now = λ i left. subst (λ f. LeavesBeside store (IsOwn f) old i) ready.folder
          (holds_now store old new (LeavesOldOrNew store q.folder (held_now q (store.seen old)) (append_to q.limit (held_now q (store.seen old)) (sheds q letters) letters) old) run i left).beside;
      reads = subst (λ f. ReadsBeside store (IsOwn f) old new) ready.folder reads;
    })

    pub appended_ready : (grown : DeadQueue) → grown.folder ≡ q.folder → IsAppended store q letters old grown new → OutputsReady store o grown new
    appended_ready grown same appended = record { folder = same ∙ ready.folder; files = files_behind; letters = appended.ready }

  -- of a file that is open all counts
  pub open_counts_whole : OpenCountsWhole store
  open_counts_whole o path f s ready at told = let its = its_ready store o.folder s path o.files f ready at in counts_whole store tell o.folder path s f its.0 its.1 told
