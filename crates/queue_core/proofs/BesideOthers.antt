-- An open queue beside the calls of others.
use Rattle.std.proofs.Common.{◌≡◌, inl, inr, ℕ, ◌≤◌, IsTrue, List, [], ◌∷◌, refl, sym, ap, ◌∙◌, subst}
use Rattle.io_traits.specs.Folders.{Content}
use Rattle.io_traits.specs.Reads.{bytes_of, file_length}
use Rattle.io_traits.specs.Images.{Image}
use Rattle.io_traits.specs.Moments.{MayLeaveNow, NowOrSynced, LeavesBeside, ReadsBeside}
use Rattle.io_traits.specs.declared.stores.Store.{Ghosts as StoreWords}
use Rattle.queue_page.specs.Blocks.{IsPart}
use Rattle.queue_files.specs.Folders.{Role, head, page, checkpoint, Folder, Names, IsOwn, names_in, folder_in}
use Rattle.queue_files.specs.Kept.{Queue, Kept}
use Rattle.queue_files.specs.Resting.{Held, Rests}
use Rattle.queue_files.proofs.OwnFiles.{rests_on}
use Rattle.queue_files.proofs.Whole.{resting_is_kept}
use Rattle.queue_files.specs.Marks.{read_in, NoChances}
use Rattle.queue_files.specs.Ready.{Ready}
use Rattle.queue_files.proofs.Keeping.{at_rest_rests}
use Rattle.queue_core.specs.Beside.{HoldsBeside, StaysOpen, StaysReady}
use Rattle.queue_core.specs.Opens.{TailsSlotted, IsSlotted, AreLong, IsOfFiles, Opens}
use Rattle.queue_core.specs.Kept.{AreKept}
use Rattle.queue_core.specs.Views.{OpenPageView, QueueView}

-- what reads give of the files of a folder
module _ (folder : List ℕ) (old new : Content) (same : (role : Role) → new (names_in folder role) ≡ old (names_in folder role)) where
  tails_slotted : (tails : List OpenPageView) → TailsSlotted folder tails old → TailsSlotted folder tails new
  tails_slotted [] slotted = tt
  tails_slotted (o ∷ tails) slotted = (subst (λ file. 48 ≤ file_length file) (sym (same (checkpoint o.number))) slotted.0, tails_slotted tails slotted.1)

  are_long : (tails : List OpenPageView) → AreLong folder tails old → AreLong folder tails new
  are_long [] long = tt
  are_long (o ∷ tails) long = (subst (λ file. o.page.state.length ≤ file_length file) (sym (same (page o.number))) long.0, are_long tails long.1)

slotted_still : (v : QueueView) (old new : Content) → ((role : Role) → new (names_in v.folder role) ≡ old (names_in v.folder role)) → IsSlotted v old → IsSlotted v new
slotted_still v old new same slotted =
    record { climb = slotted.climb; tails = tails_slotted v.folder old new same v.tails slotted.tails; top = subst (λ file. 48 ≤ file_length file) (sym (same head)) slotted.top }

files_still : (v : QueueView) (old new : Content) → ((role : Role) → new (names_in v.folder role) ≡ old (names_in v.folder role)) → IsOfFiles v old → IsOfFiles v new
files_still v old new same files = record {
  tails = are_long v.folder old new same v.tails files.tails;
  top = ap file_length (same (page v.top.number)) ∙ files.top;
  part = λ has. subst (λ file. IsPart (bytes_of file) v.cursor.block) (sym (same (page v.cursor.page))) (files.part has);
  within = files.within;
  kept = subst (λ file. AreKept v.top.number v.top.page.version (bytes_of file) v.cursor.kept) (sym (same (page v.top.number))) files.kept;
}

module _ {S : Type 0} (store : StoreWords S) where
  module _ (v : QueueView) (q : Queue) (old : S) (opens : Opens store v q old) (Mine : List ℕ → Type 0) (apart : (name : List ℕ) → IsOwn (names_in v.folder) name → Mine name → ⊥) where
    abbrev names : Names
    names = names_in v.folder

    was_at_rest : (told : IsTrue store.tells) (d : Image) → NowOrSynced store old d → Rests q names (read_in names (store.seen old)) (opens.ready.held told) d
    was_at_rest told d (inl now) = opens.ready.images told d now
    was_at_rest told d (inr synced) = at_rest_rests names q (store.seen old) (opens.ready.held told) d synced.1

    is_at_rest : (told : IsTrue store.tells) (i : Image) → LeavesBeside store Mine old i → Rests q names (read_in names (store.seen old)) (opens.ready.held told) i
    is_at_rest told i beside =
        rests_on q names (read_in names (store.seen old)) (opens.ready.held told) i beside.0 (λ role. beside.2 (names role) (apart (names role) (role, refl))) (was_at_rest told beside.0 beside.1)

    still_held : (i : Image) → IsTrue store.tells → LeavesBeside store Mine old i → NoChances names i → Kept q (folder_in names i)
    still_held i told beside chances = resting_is_kept q names (read_in names (store.seen old)) i opens.ready.is (opens.ready.held told) (is_at_rest told i beside) (chances.elements (page q.top.number))

    module _ (new : S) (stays : (i : Image) → MayLeaveNow store new i → LeavesBeside store Mine old i) (reads : ReadsBeside store Mine old new) where
      same_reads : IsTrue store.tells → (role : Role) → store.seen new (names role) ≡ store.seen old (names role)
      same_reads told role = reads told (names role) (apart (names role) (role, refl))

      abbrev HeldRests : Folder → Type 0
      HeldRests folder = (held : Held q folder) × ((i : Image) → MayLeaveNow store new i → Rests q names folder held i)

      ready_still : Ready store names q new
      ready_still =
          let same : IsTrue store.tells → read_in names (store.seen new) ≡ read_in names (store.seen old) = λ told k role. same_reads told role k in
          let carried : IsTrue store.tells → HeldRests (read_in names (store.seen new)) =
          λ told. subst HeldRests (sym (same told)) (opens.ready.held told, λ i left. is_at_rest told i (stays i left)) in
          record { is = opens.ready.is; held = λ told. (carried told).0; images = λ told i left. (carried told).1 i left }

      still_open : Opens store v q new
      still_open = record { ready = ready_still; tails = opens.tails; top = opens.top; files = λ told. files_still v (store.seen old) (store.seen new) (same_reads told) (opens.files told) }

  pub holds_beside : HoldsBeside store
  holds_beside others v q s i opens apart told beside chances = still_held v q s opens (λ name. IsTrue (others name)) apart i told beside chances

  pub stays_open : StaysOpen store
  stays_open others v q old new opens apart stays reads = still_open v q old opens (λ name. IsTrue (others name)) apart new stays reads

  pub stays_ready : StaysReady store
  stays_ready others v old new ready apart reads told =
      slotted_still v (store.seen old) (store.seen new) (λ role. reads told (names_in v.folder role) (apart (names_in v.folder role) (role, refl))) (ready told)
