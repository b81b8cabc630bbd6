-- A folder that is opened: what holds behind the opening of its queue, and then of its letters.
use Rattle.std.proofs.Common.{◌≡◌, inl, ℕ, IsTrue, List, Result, Ok, Err, IfOk, sym, ap, ◌∙◌, subst}
use Rattle.io_traits.specs.Folders.{Content}
use Rattle.io_traits.specs.Images.{Image, FileImage}
use Rattle.io_traits.specs.Moments.{MayLeaveNow, EachMoment, LeavesBeside, NowOrSynced, ReadsBeside, ImagesTell}
use Rattle.io_traits.specs.declared.stores.Store.{Ghosts as StoreWords}
use Rattle.io_traits.proofs.Beside.{beside_more, beside_none, both_beside, both_read, fact_beside, holds_beside}
use Rattle.io_traits.proofs.Moments.{holds_now, one_then_other, started, weaker}
use Rattle.crc_frame.specs.Slots.{is_slot}
use Rattle.io_traits.specs.Chance.{NoChance}
use Rattle.io_traits.specs.Tails.{passes}
use Rattle.slot_files.specs.Contents.{left_in}
use Rattle.dead_letters.specs.Found.{Held, found as letters_found}
use Rattle.dead_letters.specs.Opening.{LeavesHeld, NoChances}
use Rattle.dead_letters.specs.Queues.{names, position, name_in}
use Rattle.dead_letters.specs.Views.{IsOwn as IsOfLetters}
use Rattle.dead_letters.proofs.OpeningRun.{kept_held}
use Rattle.queue_files.specs.Folders.{IsOwn as IsOfQueue, names_in}
use Rattle.queue_core.specs.Opening.{OpensFolder}
use Rattle.queue_core.specs.Opens.{IsReady as QueueReady}
use Rattle.queue_core.specs.Views.{QueueView}
use Rattle.queue_core.specs.declared.limits.Limits.{Limits}
use Rattle.line_outputs.specs.Readiness.{LeavesOthers}
use Rattle.line_outputs.specs.declared.stored.StoredOutputs.{StoredOutputs}
use Rattle.line_folder.specs.FileNames.{of_letters, part_named}
use Rattle.line_folder.specs.Openings.{IsOfEither, KeepsLetters}
use Rattle.line_folder.specs.Readiness.{AreOutputsReady, IsFolderReady}
use Rattle.line_folder.proofs.LettersFound.{found_same}
use Rattle.line_folder.proofs.NameParts.{letters_role, queue_part}
use Rattle.line_folder.proofs.Together.{letters_keep_open, letters_keep_queue}

-- files of the letters, by their names
abbrev IsNamed : List ℕ → List ℕ → Type 0
IsNamed folder name = part_named folder name ≡ of_letters

named_apart : (folder name : List ℕ) → IsNamed folder name → IsOfQueue (names_in folder) name → ⊥
named_apart folder name is own = let e = sym (queue_part folder name own) ∙ is in cc

pub content_same : (folder : List ℕ) (c d : Content) → ((name : List ℕ) → IsNamed folder name → c name ≡ d name) → letters_found folder c ≡ letters_found folder d
content_same folder c d same = found_same folder c d (λ role. same (name_in folder role) (letters_role folder role))

module _ (folder : List ℕ) (h : Held) where
  abbrev Holds : Image → Type 0
  Holds i = NoChances folder i → letters_found folder (left_in i) ≡ Ok h

  holds_local : (c d : Image) → ((name : List ℕ) → IsNamed folder name → c name ≡ d name) → Holds d → Holds c
  holds_local c d same holds chance =
      content_same folder (left_in c) (left_in d) (λ name is. ap (λ (x : FileImage). x.file) (same name is))
      ∙ holds (
        subst (λ x. NoChance (passes (is_slot 32)) x) (same (name_in folder names) (letters_role folder names)) chance.0,
        subst (λ x. NoChance (passes (is_slot 24)) x) (same (name_in folder position) (letters_role folder position)) chance.1,
      )

module _ {S : Type 0} (store : StoreWords S) (tell : ImagesTell store) (folder : List ℕ) (old mid : S)
    (run : EachMoment store old mid (LeavesBeside store (IsOfQueue (names_in folder)) old)) (reads : ReadsBeside store (IsOfQueue (names_in folder)) old mid) where
  abbrev Queues : List ℕ → Type 0
  Queues = IsOfQueue (names_in folder)

  -- behind the opening of the queue the letters read as before
  pub letters_read : IsTrue store.tells → letters_found folder (store.seen mid) ≡ letters_found folder (store.seen old)
  letters_read told = content_same folder (store.seen mid) (store.seen old) (λ name is. reads told name (named_apart folder name is))

  queue_now : (i : Image) → MayLeaveNow store mid i → LeavesBeside store Queues old i
  queue_now i left = holds_now store old mid (LeavesBeside store Queues old) run i left

  kept_first : (h : Held) → ((i : Image) → NowOrSynced store old i → Holds folder h i) → EachMoment store old mid (Holds folder h)
  kept_first h holds =
      weaker store tell old mid (LeavesBeside store Queues old) (Holds folder h) run (λ i told beside. fact_beside store (Holds folder h) (IsNamed folder) Queues (named_apart folder) (holds_local folder h) old holds i beside)

  -- where the queue isn't opened
  pub letters_stay : KeepsLetters store folder old mid
  letters_stay h holds = kept_first h holds

  pub either_read : ReadsBeside store (IsOfEither folder) old mid
  either_read told name others = reads told name (λ own. others (inl own))

  pub either_beside : EachMoment store old mid (LeavesBeside store (IsOfEither folder) old)
  either_beside =
      weaker store tell old mid (LeavesBeside store Queues old) (LeavesBeside store (IsOfEither folder) old) run (λ i told beside. beside_more store Queues (IsOfEither folder) (λ name own. inl own) old i beside)

  -- and then the letters are
  module _ (new : S) (then : EachMoment store mid new (LeavesHeld store folder mid)) (then_reads : ReadsBeside store (IsOfLetters folder) mid new) where
    pub letters_kept : KeepsLetters store folder old new
    letters_kept h holds =
        let at_mid = holds_beside store (Holds folder h) (IsNamed folder) Queues (named_apart folder) (holds_local folder h) old holds mid queue_now reads in
        one_then_other store tell old mid new (Holds folder h) (Holds folder h) (Holds folder h) (kept_first h holds) (kept_held store tell folder h mid new then at_mid) (λ i told is. is) (λ i told is. is)

    pub both_reads : ReadsBeside store (IsOfEither folder) old new
    both_reads = both_read store Queues (IsOfLetters folder) old mid new reads then_reads

    pub both_moments : EachMoment store old new (LeavesBeside store (IsOfEither folder) old)
    both_moments =
        one_then_other store tell old mid new (LeavesBeside store Queues old) (LeavesHeld store folder mid) (LeavesBeside store (IsOfEither folder) old) run then
        (λ i told beside. beside_more store Queues (IsOfEither folder) (λ name own. inl own) old i beside)
        (λ i told held. both_beside store Queues (IsOfLetters folder) old mid queue_now reads i held.beside)

    pub opens_then : (limits : Limits) (v : QueueView) → OpensFolder store folder limits old mid v → OpensFolder store folder limits old new v
    opens_then limits v opens =
        let at : v.folder ≡ folder = ap (λ (q : QueueView). q.folder) opens.is in
        let leaves : LeavesOthers store (IsOfLetters v.folder) mid new = record {
          now = λ i left. subst (λ x. LeavesBeside store (IsOfLetters x) mid i) (sym at) (holds_now store mid new (LeavesHeld store folder mid) then i left).beside;
          reads = subst (λ x. ReadsBeside store (IsOfLetters x) mid new) (sym at) then_reads;
        } in
        record {
          opened = opens.opened;
          is = opens.is;
          reads = opens.reads;
          ready = λ told. let r = opens.ready told in record { queue = r.queue; is = r.is; opens = letters_keep_open store tell v r.queue mid new leaves r.opens };
        }

-- nothing is opened of the letters
pub not_begun : {S : Type 0} (store : StoreWords S) (folder : List ℕ) (s : S) → EachMoment store s s (LeavesHeld store folder s)
not_begun store folder s = started store s (LeavesHeld store folder s) (λ i left. record { own = inl left; beside = beside_none store (IsOfLetters folder) s i (inl left) })

-- an answer that is Ok
pub on_value : {T E : Type 0} {P Q : T → Type 0} (r : Result T E) → ((x : T) → P x → Q x) → IfOk r P → IfOk r Q
on_value (Ok x) makes p = makes x p
on_value (Err e) makes p = tt

pub opened_ready : {S : Type 0} (store : StoreWords S) (tell : ImagesTell store) (folder : List ℕ) (queue : QueueView) (outputs : StoredOutputs) (mid new : S) → queue.folder ≡ folder → QueueReady store queue mid
    → ReadsBeside store (IsOfLetters folder) mid new → outputs.files.folder ≡ folder → AreOutputsReady store outputs new → IsFolderReady store (record { queue = queue; outputs = outputs }) new
opened_ready store tell folder queue outputs mid new same ready reads files outputs_ready = record {
  folder = files ∙ sym same;
  queue = letters_keep_queue store tell queue mid new (subst (λ x. ReadsBeside store (IsOfLetters x) mid new) (sym same) reads) ready;
  outputs = outputs_ready;
}
