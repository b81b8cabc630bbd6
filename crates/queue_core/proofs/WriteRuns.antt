-- A row that is written to an open queue: a mark, a new head page, and the row in it; or the row alone.
use Rattle.std.proofs.Common.{◌≡◌, ◌≢◌, ◌⊎◌, inl, inr, ℕ, suc, ◌-◌, ◌<◌, ◌≤◌, ◌^◌, IsTrue, List, ◌++◌, length, Some, Result, Ok, Err, refl, sym, ◌∙◌, ap, subst, arith}
use Rattle.io_traits.specs.Reads.{bytes_of, file_length}
use Rattle.crc_frame.specs.Slots.{next_turn, place_of}
use Rattle.io_traits.specs.Moments.{ImagesTell, ReadsBeside}
use Rattle.io_traits.specs.declared.stores.Store.{Ghosts as StoreWords}
use Rattle.io_traits.proofs.Moments.{one_then_other, weaker}
use Rattle.event_tree.specs.Events.{Ev}
use Rattle.queue_page.specs.Grammar.{row_framed, IsElement, IsNext}
use Rattle.queue_page.specs.declared.row.PageRow.{PageRow}
use Rattle.queue_files.specs.Folders.{Role, head, page, checkpoint, folder_in, names_in}
use Rattle.queue_files.specs.Kept.{Kept, Queue}
use Rattle.queue_files.specs.Steps.{marked, rolled, with_row}
use Rattle.queue_files.proofs.ApartNames.{names_apart}
use Rattle.queue_files.proofs.FolderKeeping.{marked_keeps}
use Rattle.queue_files.specs.Marks.{NoChances}
use Rattle.queue_files.specs.Ready.{IsOfNext, Keeps, MarkKeeps, MarkRecords, PageKeeps, PageReady, RowKept, RowReady}
use Rattle.queue_files.specs.Writes.{NoneShorter, Settled, writes_of}
use Rattle.queue_files.specs.declared.marking.Mark.{Mark}
use Rattle.queue_files.specs.declared.rolling.NextPage.{NextPage}
use Rattle.queue_core.specs.Calls.{behind_mark, end_of}
use Rattle.queue_core.specs.Opens.{IsReady, Opens}
use Rattle.queue_core.specs.Views.{QueueView}
use Rattle.queue_core.specs.Writing.{behind_append, behind_roll, row_behind, row_here, Begun, IsFrame, IsPlan, KeepsEither, KeepsRow, AddsRow, TakesRow}
use Rattle.queue_core.specs.declared.writing.WriteFault.{WriteFault}
use Rattle.queue_core.specs.declared.writing.WriteFault.TheVariants as w
use Rattle.queue_core.proofs.AppendRuns.{keeps_row, opens_row, ready_with}
use Rattle.queue_core.proofs.MarkRuns.{becomes_marked, keeps_marked, ready_marked}
use Rattle.queue_core.proofs.PurgeRuns.{untouched}
use Rattle.queue_core.proofs.RollRuns.{keeps_page, opens_rolled, ready_rolled}

abbrev fault_of : {A : Type 0} → Result A WriteFault → WriteFault
fault_of (Ok x) = w.Fault
fault_of (Err fault) = fault

no_memory : w.Fault ≡ w.Memory → ⊥
no_memory is = absurd cc

place_fits : (turn : ℕ) → place_of 48 turn ≤ 48
place_fits turn = omega arith

no_checkpoint : (n : ℕ) → head ≡ checkpoint n → ⊥
no_checkpoint n is = absurd cc

no_page : (n : ℕ) → head ≡ page n → ⊥
no_page n is = absurd cc

module _ {S : Type 0} (store : StoreWords S) (tell : ImagesTell store) where
  -- a call that does nothing
  pub untouched_either : (step : Queue → Queue) (v : QueueView) (s : S) → KeepsEither store step v s s
  untouched_either step v s q opens =
      weaker store tell s s (λ i. NoChances (names_in v.folder) i → Kept q (folder_in (names_in v.folder) i)) _ (untouched store v tell s q opens) (λ i told kept chances. inl (kept chances))

  pub same_keeps : (step : QueueView → List ℕ → Ev → Queue → Queue) (v : QueueView) (frame : List ℕ) (old new : S) → new ≡ old → KeepsRow store step v frame old new
  same_keeps step v frame old new is = subst (KeepsRow store step v frame old) (sym is) (λ origin event framed. untouched_either (step v origin event) v old)

  -- a call that did nothing where memory ran out
  pub keeps_fault : {A : Type 0} (step : QueueView → List ℕ → Ev → Queue → Queue) (v : QueueView) (frame : List ℕ) (old new : S) (fault : WriteFault) → (fault ≡ w.Memory) ⊎ (fault ≡ w.Fault)
      → (◌≡◌ {A = Result A WriteFault} (Err fault) (Err w.Memory) → new ≡ old) → ((◌≡◌ {A = Result A WriteFault} (Err fault) (Err w.Memory) → ⊥) → KeepsRow store step v frame old new)
      → KeepsRow store step v frame old new
  keeps_fault step v frame old new fault (inl is) memory keeps = same_keeps step v frame old new (memory (ap Err is))
  keeps_fault step v frame old new fault (inr is) memory keeps = keeps (λ same. no_memory (sym is ∙ ap fault_of same))

  -- ---- the row alone

  module _ (v : QueueView) (frame : List ℕ) (old new : S) (takes : TakesRow (length frame) v.top) (fits : end_of v.top < 2 ^ 63 - 1) (name : List ℕ) (named : name ≡ names_in v.folder (page v.top.number)) where
    abbrev here : (origin : List ℕ) (event : Ev) → PageRow
    here origin event = row_framed (end_of v.top) origin event v.top.page.state.length

    element_here : (origin : List ℕ) (event : Ev) → IsFrame (end_of v.top) origin event frame → IsElement v.top.page.version v.top.page.state.length (here origin event) frame
    element_here origin event is = subst (λ (n : ℕ). IsElement n v.top.page.state.length (here origin event) frame) (sym takes.version) (is.element v.top.page.state.length)

    pub keeps_here : RowKept store name frame old new → KeepsRow store row_here v frame old new
    keeps_here keeps origin event is q opens =
        weaker store tell old new (λ i. NoChances (names_in v.folder) i → Kept (with_row (here origin event) q) (folder_in (names_in v.folder) i)) _
        (keeps_row store v frame old new name named (here origin event) refl (element_here origin event is) fits takes.few takes.recorded takes.short q opens keeps)
        (λ i told kept chances. inr (kept chances))

    pub adds_here : IsReady store v old → ReadsBeside store (λ n. n ≡ name) old new → (IsTrue store.tells → store.seen new name ≡ Some (bytes_of (store.seen old name) ++ frame)) → RowReady store name frame old new
        → AddsRow store row_here v (behind_append (length frame) v) frame old new
    adds_here is_ready beside written ready origin event is q opens =
        opens_row store v frame old new name named (here origin event) refl (element_here origin event is) fits takes.few takes.recorded takes.short q opens is_ready beside written ready

  -- ---- a mark, a new head page, and the row in it

  module _ (v : QueueView) (marks : List Mark) (next : NextPage) (frame : List ℕ) (plan : IsPlan v marks next) (old : S) (is_ready : IsReady store v old) (mid : S) (mark_keeps : MarkKeeps store marks old mid) where
    abbrev names : Role → List ℕ
    names = names_in v.folder

    keeps_first : (q : Queue) → Opens store v q old → Keeps store names q old mid
    keeps_first q opens = keeps_marked store v plan.given old mid plan.named marks plan.marks_are mark_keeps q opens

    pub keeps_mark : KeepsRow store row_behind v frame old mid
    keeps_mark origin event is q opens = weaker store tell old mid (λ i. NoChances names i → Kept q (folder_in names i)) _ (keeps_first q opens) (λ i told kept chances. inl (kept chances))

    -- what the calls behind the mark ask for
    pub place_begun : Settled store old (writes_of marks) mid → IsTrue store.tells → place_of 48 next.turn ≤ file_length (store.seen mid next.head)
    place_begun settled told =
        let ready = ready_marked store v plan.given old mid plan.named marks plan.marks_are is_ready settled in
        subst (λ (n : NextPage). place_of 48 n.turn ≤ file_length (store.seen mid n.head)) (sym plan.next_is) (omega (arith, (ready told).top, place_fits (next_turn (next_turn v.top.turn))))

    pub head_no_checkpoint : next.head ≢ next.checkpoint
    head_no_checkpoint = subst (λ (n : NextPage). n.head ≢ n.checkpoint) (sym plan.next_is) (λ is. no_checkpoint v.top.number (names_apart v.folder head (checkpoint v.top.number) is))

    pub head_no_page : next.head ≢ next.file
    head_no_page = subst (λ (n : NextPage). n.head ≢ n.file) (sym plan.next_is) (λ is. no_page (suc v.top.number) (names_apart v.folder head (page (suc v.top.number)) is))

    pub next_element : (origin : List ℕ) (event : Ev) → IsFrame (end_of v.top) origin event frame → IsNext (record { version = 2; state = next.state }) (row_framed (end_of v.top) origin event 1) frame
    next_element origin event is =
        subst (λ (n : NextPage). IsNext (record { version = 2; state = n.state }) (row_framed (end_of v.top) origin event 1) frame) (sym plan.next_is) (record { number = omega arith; element = is.element 1 })

    pub begun_count : next.state.count ≡ 0
    begun_count = ap (λ (n : NextPage). n.state.count) plan.next_is

    pub begun_length : next.state.length ≡ 1
    begun_length = ap (λ (n : NextPage). n.state.length) plan.next_is

    module _ (settled : Settled store old (writes_of marks) mid) (records : MarkRecords store marks old mid) (rolled_to : S) (page_keeps : PageKeeps store next mid rolled_to) where
      ready_first : IsReady store (behind_mark v) mid
      ready_first = ready_marked store v plan.given old mid plan.named marks plan.marks_are is_ready settled

      opens_first : (q : Queue) → Opens store v q old → Opens store (behind_mark v) (marked q) mid
      opens_first q opens = becomes_marked store v plan.given old mid plan.named marks plan.marks_are is_ready settled records q opens

      pub keeps_begun : KeepsRow store row_behind v frame old rolled_to
      keeps_begun origin event is q opens =
          one_then_other store tell old mid rolled_to (λ i. NoChances names i → Kept q (folder_in names i)) (λ i. NoChances names i → Kept (marked q) (folder_in names i)) _
          (keeps_first q opens) (keeps_page store (behind_mark v) mid rolled_to next plan.next_is plan.number refl (marked q) refl (opens_first q opens) page_keeps)
          (λ i told kept chances. inl (kept chances)) (λ i told kept chances. inl (marked_keeps q (folder_in names i) (opens.ready.held told).top.marked (kept chances)))

      module _ (short : length frame < 2 ^ 32) (new : S) where
        abbrev grown : QueueView
        grown = behind_roll (behind_mark v)

        abbrev first : (origin : List ℕ) (event : Ev) → PageRow
        first origin event = row_framed (end_of v.top) origin event 1

        module _ (page_ready : PageReady store next mid rolled_to) (page_beside : ReadsBeside store (IsOfNext next) mid rolled_to) where
          opens_second : (q : Queue) → Opens store v q old → Opens store grown (rolled (marked q)) rolled_to
          opens_second q opens = opens_rolled store (behind_mark v) mid rolled_to next plan.next_is plan.number refl (marked q) refl (opens_first q opens) page_ready page_beside

          pub keeps_added : RowKept store next.file frame rolled_to new → KeepsRow store row_behind v frame old new
          keeps_added row_kept origin event is q opens =
              one_then_other store tell old rolled_to new _ (λ i. NoChances names i → Kept (with_row (first origin event) (rolled (marked q))) (folder_in names i)) _
              (keeps_begun origin event is q opens)
              (keeps_row store grown frame rolled_to new next.file (ap (λ (n : NextPage). n.file) plan.next_is) (first origin event) (omega arith) (is.element 1) (omega (arith, plan.fits)) (omega arith) (omega arith) (omega (arith, short))
              (rolled (marked q)) (opens_second q opens) row_kept)
              (λ i told kept. kept) (λ i told kept chances. inr (kept chances))

          pub begun : (IsTrue store.tells → NoneShorter (store.seen mid) (store.seen rolled_to)) → (IsTrue store.tells → 48 ≤ file_length (store.seen rolled_to next.checkpoint))
              → (IsTrue store.tells → NoneShorter (store.seen rolled_to) (store.seen new)) → ReadsBeside store (λ n. n ≡ next.file) rolled_to new
              → (IsTrue store.tells → store.seen new next.file ≡ Some (bytes_of (store.seen rolled_to next.file) ++ frame)) → RowReady store next.file frame rolled_to new → Begun store v frame old new
          begun longer slot more beside written row_ready =
              let ready_second = ready_rolled store (behind_mark v) mid rolled_to next plan.next_is longer slot ready_first in
              record {
                ready = ready_with store grown frame rolled_to new more ready_second;
                adds = λ origin event is q opens.
                    opens_row store grown frame rolled_to new next.file (ap (λ (n : NextPage). n.file) plan.next_is) (first origin event) (omega arith) (is.element 1) (omega (arith, plan.fits)) (omega arith) (omega arith)
                    (omega (arith, short)) (rolled (marked q)) (opens_second q opens) ready_second beside written row_ready;
              }
