-- A line stands where its history does behind each entry that delivers nothing.
use Rattle.std.proofs.Common.{◌≡◌, ◌≢◌, ◌⊎◌, inl, inr, ⊎_elim, ℕ, suc, ◌<◌, ◌+◌, true, List, [], ◌∷◌, ◌++◌, length, take, Option, Some, None, refl, sym, ap, ap₂, ◌∙◌, subst, arith, append_assoc}
use Rattle.std.proofs.lemmas.Option.{same_Some}
use Rattle.event_tree.specs.Events.{Ev}
use Rattle.config_tree.specs.declared.tree.Config.{Config}
use Rattle.element_code.specs.declared.row.Origin.{Origin}
use Rattle.foreign_parts.specs.declared.filter.Verdict.{Verdict}
use Rattle.event_flow.specs.Meaning.{Makes, Due, UsesExactly}
use Rattle.event_flow.specs.Meaning as due
use Rattle.queue_files.specs.Found.{row_of}
use Rattle.queue_files.specs.Kept.{Queue, IsQueue}
use Rattle.queue_files.specs.Steps.{marked, with_row}
use Rattle.history_book.specs.Contents.{Bytes}
use Rattle.history_book.specs.Entries.{Entry, ParcelAt, Accept, Mark, Assure, Read, Back, Ack, Purge, Adopt}
use Rattle.history_book.specs.Inputs.{AreInputs, Renumbered, named_from}
use Rattle.history_book.specs.Legal.{Names, IsRunning, IsBack, MayAdopt, WasOpened, Legal_at}
use Rattle.history_book.specs.Links.{Listening}
use Rattle.history_book.specs.Lists.{IsIn}
use Rattle.history_book.specs.Queues.{IsQueueAt, AreRowsOf, AcknowledgesMore, next_in}
use Rattle.history_book.specs.Sound.{Places}
use Rattle.history_book.specs.States.{Plan, Out, State, Limits, start, newest, unread, reads, fresh, brought_back, numbers_found, events_of, numbers_out, out_of, written, next, after}
use Rattle.history_book.proofs.Following.{accepted_is_written, marked_is_settled, rolled_is_of, acknowledged_is_of, purged_is_of, others_leave_it}
use Rattle.history_book.proofs.Lists.{in_either}
use Rattle.history_book.proofs.Unread.{accepted_comes_last, first_are_read, others_leave_unread, numbers_same}
use Rattle.line_machine.specs.Effects.{with_queue, with_written, with_batch, new_batch, back_with, assured_now, with_mark, adopted, acknowledging}
use Rattle.line_machine.specs.Ends.{TakerView}
use Rattle.line_machine.specs.Finds.{IsHome, TakesRows, Rolls, IsRowFor, Acknowledges, HasSpent, Changes, Uses, without_page}
use Rattle.line_machine.specs.Stands.{IsBatchOf, Knows, Stands}
use Rattle.line_machine.specs.Views.{Kit, InputView, Batch, LineView, batch_of, inputs_of, input_of, input_at, change_input, change_batch}
use Rattle.line_machine.proofs.Arrives.{one_entry}
use Rattle.line_machine.proofs.Batches.{Beside, beside, changed_both, changed_below, without_both, without_below, one_more_both, events_same, rows_first}
use Rattle.line_machine.proofs.Inputs.{inputs_same, is_input, carried_are}

module _ (makes : Makes) (listening : Listening) (bytes : Bytes) (places : Places) (told : List Entry) (i : LineView places) (stands : Stands makes bytes places told i) where
  abbrev s : State
  s = after makes start told

  pub running : IsRunning s
  running = record { plan = i.plan; newest = stands.knows.running; between = stands.knows.between }

  -- ---- a row

  module _ (v : InputView) (event : Ev) (r : IsRowFor listening i v event) where
    -- the queue with room for it
    room_at : IsQueueAt s r.before
    room_at = ⊎_elim (λ e. subst (IsQueueAt s) (sym e) stands.holds.queue) rolled_at r.room
      where
        rolled_at : Rolls i.holds.queue r.before → IsQueueAt s r.before
        rolled_at rolls =
            let marked_at = (rolled_is_of s i.holds.queue stands.holds.queue).0 rolls.recorded in
            subst (IsQueueAt s) (sym rolls.new_is) ((rolled_is_of s (marked i.holds.queue) marked_at).1 rolls.can rolls.is)

    module _ (n : ℕ) (has : input_at n i.inputs ≡ Some v) (parcel : Option ParcelAt) (comes : (v.is_open ≡ true) ⊎ (parcel ≢ None)) (inputs : List InputView) (same : inputs_of inputs ≡ inputs_of i.inputs) (takers : List TakerView) where
      abbrev entry : Entry
      entry = Accept n parcel r.row.number r.row.event

      names : Names r.row.origin (written s n r.row.number r.row.event)
      names =
          subst (λ (o : Origin). Names o (written s n r.row.number r.row.event)) (sym r.origin)
          (input_of v, is_input n v s.plans i.inputs stands.knows.inputs has, refl)

      accepted : Legal_at makes s entry × IsQueueAt (next makes s entry) (with_row r.row r.before)
      accepted = accepted_is_written makes told r.before r.row n parcel r.row.event stands.holds.legal running
          (record { input = input_of v; is_input = is_input n v s.plans i.inputs stands.knows.inputs has; is_open = comes }) room_at r.is r.number refl names

      abbrev with_it : LineView places
      with_it = with_written i inputs takers r.row r.before

      pub accepts : Stands makes bytes places (told ++ entry ∷ []) with_it
      accepts = one_entry makes bytes places told entry i with_it stands accepted.0 (record { queue = accepted.1; files = λ file m. refl; dead = refl }) (record {
        running = stands.knows.running;
        between = stands.knows.between;
        limits = stands.knows.limits;
        unread = subst (λ l. AreRowsOf l (unread (next makes s entry))) (append_assoc i.kept i.unread (row_of r.row ∷ []))
            (accepted_comes_last makes told (i.kept ++ i.unread) (row_of r.row) n parcel r.row.event stands.holds.legal accepted.0 stands.knows.unread
            (record { number = refl; event = refl; names = names }));
        batches = stands.knows.batches;
        below = stands.knows.below;
        used = stands.knows.used;
        inputs = subst (AreInputs s.plans) (sym same) stands.knows.inputs;
        mark = stands.knows.mark;
      })

  -- ---- a batch is read

  none_used : IsIn i.next_batch s.used → ⊥
  none_used has = let less = stands.knows.used i.next_batch has in omega (arith, less)

  module _ (t : TakesRows i) (kit : Option Kit) (kits : List Kit) where
    abbrev numbers : List ℕ
    numbers = numbers_found t.rows

    abbrev with_them : LineView places
    with_them = with_batch (i.batches ++ new_batch i t.rows kit ∷ []) t.rest kits i

    rows_are : AreRowsOf (t.rows ++ t.rest) (unread s)
    rows_are = subst (λ l. AreRowsOf l (unread s)) t.parts stands.knows.unread

    read_now : Legal_at makes s (Read i.next_batch i.plan.generation numbers) × AreRowsOf t.rest (unread (next makes s (Read i.next_batch i.plan.generation numbers)))
    read_now = first_are_read makes told t.rows t.rest i.next_batch stands.holds.legal (record { plan = i.plan; newest = stands.knows.running; between = stands.knows.between }) none_used t.some rows_are

    read_knows : Knows (reads s i.next_batch numbers (Some i.plan)) with_them
    read_knows = record {
      running = stands.knows.running;
      between = stands.knows.between;
      limits = stands.knows.limits;
      unread = subst (λ (p : Option Plan). AreRowsOf t.rest (unread (reads s i.next_batch numbers p))) stands.knows.running read_now.1;
      batches = one_more_both i.batches s.out (new_batch i t.rows kit) (fresh i.next_batch i.plan (take (length numbers) (unread s))) stands.knows.batches
          (record { number = refl; plan = refl; rows = rows_first t.rows t.rest (unread s) rows_are; verdicts = refl; left = refl });
      below = below_now;
      used = used_now;
      inputs = stands.knows.inputs;
      mark = stands.knows.mark;
    }
      where
        below_now : (b : Batch) → IsIn b (i.batches ++ new_batch i t.rows kit ∷ []) → b.number < suc i.next_batch
        below_now b has = ⊎_elim (λ (j : IsIn b i.batches). let less = stands.knows.below b j in omega (arith, less)) (λ (j : IsIn b (new_batch i t.rows kit ∷ [])). newest_below j) (in_either b i.batches (new_batch i t.rows kit ∷ []) has)
          where
            newest_below : IsIn b (new_batch i t.rows kit ∷ []) → b.number < suc i.next_batch
            newest_below (inl e) = let same = ap (λ (x : Batch). x.number) e in omega (arith, same)
            newest_below (inr never) = absurd never

        used_now : (n : ℕ) → IsIn n (i.next_batch ∷ s.used) → n < suc i.next_batch
        used_now n (inl e) = omega (arith, e)
        used_now n (inr has) = let less = stands.knows.used n has in omega (arith, less)

    pub reads_it : Stands makes bytes places (told ++ Read i.next_batch i.plan.generation numbers ∷ []) with_them
    reads_it = one_entry makes bytes places told (Read i.next_batch i.plan.generation numbers) i with_them stands read_now.0
        (record { queue = others_leave_it makes s i.holds.queue (Read i.next_batch i.plan.generation numbers) tt stands.holds.queue; files = λ file m. refl; dead = refl })
        (subst (λ (p : Option Plan). Knows (reads s i.next_batch numbers p) with_them) (sym stands.knows.running) read_knows)

  -- ---- it comes back

  module _ (n : ℕ) (b : Batch) (has : batch_of n i.batches ≡ Some b) (away : b.verdicts ≡ None) (verdicts : List Verdict) (uses : Uses makes b verdicts) (kits : List Kit) where
    abbrev with_result : LineView places
    with_result = record i { batches = change_batch (back_with makes verdicts) n i.batches; kits = kits }

    its_out : Beside n b s.out
    its_out = beside n b i.batches s.out stands.knows.batches has

    legal_back : Legal_at makes s (Back n verdicts)
    legal_back = (
      running,
      record {
        out = its_out.out;
        has = its_out.has;
        away = its_out.is.verdicts ∙ away;
        exactly = subst (λ (p : Plan). UsesExactly makes p.config p.draws (events_of its_out.out.rows) verdicts) (sym its_out.is.plan)
            (subst (λ es. UsesExactly makes b.plan.config b.plan.draws es verdicts) (events_same b.rows its_out.out.rows its_out.is.rows) uses);
      },
    )

    both_back : (x : Batch) (o : Out) → batch_of n i.batches ≡ Some x → out_of n s.out ≡ Some o → IsBatchOf x o
        → IsBatchOf (back_with makes verdicts x) (brought_back makes verdicts o)
    both_back x o x_is o_is is = record {
      number = is.number;
      plan = is.plan;
      rows = is.rows;
      verdicts = refl;
      left = ap₂ (λ (p : Plan) (es : List Ev). due.due makes p.config p.draws es verdicts) is.plan (sym (events_same x.rows o.rows is.rows));
    }

    pub comes_back : Stands makes bytes places (told ++ Back n verdicts ∷ []) with_result
    comes_back = one_entry makes bytes places told (Back n verdicts) i with_result stands legal_back
        (record { queue = others_leave_it makes s i.holds.queue (Back n verdicts) tt stands.holds.queue; files = λ file m. refl; dead = refl }) (record {
          running = stands.knows.running;
          between = stands.knows.between;
          limits = stands.knows.limits;
          unread = subst (AreRowsOf (i.kept ++ i.unread)) (sym (others_leave_unread makes told (Back n verdicts) stands.holds.legal legal_back tt)) stands.knows.unread;
          batches = changed_both n (back_with makes verdicts) (brought_back makes verdicts) i.batches s.out stands.knows.batches both_back;
          below = changed_below (back_with makes verdicts) (λ x. refl) n i.next_batch i.batches stands.knows.below;
          used = stands.knows.used;
          inputs = stands.knows.inputs;
          mark = stands.knows.mark;
        })

  -- ---- a batch that is home

  -- the history has it out, and back with the same left
  abbrev pub is_back : (n : ℕ) (left : List Due) → IsHome i n left → IsBack s n left
  is_back n left h =
      let o = beside n h.batch i.batches s.out stands.knows.batches h.has in
      record { out = o.out; has = o.has; verdicts = h.verdicts; back = o.is.verdicts ∙ h.back; left_is = o.is.left ∙ h.left_is }

  module _ (n : ℕ) (h : IsHome i n []) (queue : Queue) (a : Acknowledges (numbers_found h.batch.rows) i.holds.queue queue) where
    abbrev without_now : LineView places
    without_now = (acknowledging i n queue (length h.batch.rows)).line

    legal_ack : Legal_at makes s (Ack n)
    legal_ack = (running, is_back n [] h)

    numbers_are : numbers_found h.batch.rows ≡ numbers_out (out_of n s.out)
    numbers_are =
        let o = beside n h.batch i.batches s.out stands.knows.batches h.has in
        numbers_same h.batch.rows o.out.rows o.is.rows ∙ sym (ap numbers_out o.has)

    pub acknowledges : Stands makes bytes places (told ++ Ack n ∷ []) without_now
    acknowledges = one_entry makes bytes places told (Ack n) i without_now stands legal_ack
        (record {
          queue = acknowledged_is_of makes s i.holds.queue queue n stands.holds.queue (subst (λ l. AcknowledgesMore l i.holds.queue queue) numbers_are a.more);
          files = λ file m. refl;
          dead = refl;
        }) (record {
          running = stands.knows.running;
          between = stands.knows.between;
          limits = stands.knows.limits;
          unread = subst (AreRowsOf (i.kept ++ i.unread)) (sym (others_leave_unread makes told (Ack n) stands.holds.legal legal_ack tt)) stands.knows.unread;
          batches = without_both n i.batches s.out stands.knows.batches;
          below = without_below n i.next_batch i.batches stands.knows.below;
          used = stands.knows.used;
          inputs = stands.knows.inputs;
          mark = stands.knows.mark;
        })

  -- ---- marks, assurances, pages that go

  module _ (front : ℕ) (last : front + 1 ≡ next_in i.holds.queue) (is : IsQueue (marked i.holds.queue)) where
    marked_now : Legal_at makes s (Mark front) × IsQueueAt (next makes s (Mark front)) (marked i.holds.queue)
    marked_now = marked_is_settled makes told i.holds.queue front stands.holds.legal running stands.holds.queue is last

    pub marks : Stands makes bytes places (told ++ Mark front ∷ []) (with_mark front i)
    marks = one_entry makes bytes places told (Mark front) i (with_mark front i) stands marked_now.0 (record { queue = marked_now.1; files = λ file m. refl; dead = refl }) (record {
      running = stands.knows.running;
      between = stands.knows.between;
      limits = stands.knows.limits;
      unread = subst (AreRowsOf (i.kept ++ i.unread)) (sym (others_leave_unread makes told (Mark front) stands.holds.legal marked_now.0 tt)) stands.knows.unread;
      batches = stands.knows.batches;
      below = stands.knows.below;
      used = stands.knows.used;
      inputs = stands.knows.inputs;
      mark = λ f e. sym (same_Some front f e);
    })

  pub marked_at : IsQueue (marked i.holds.queue) → IsQueueAt s (marked i.holds.queue)
  marked_at is = (rolled_is_of s i.holds.queue stands.holds.queue).0 is

  module _ (n front : ℕ) (is : i.mark ≡ Some front) where
    abbrev with_front : LineView places
    with_front = record i { inputs = change_input (assured_now front) n i.inputs }

    pub assures : Stands makes bytes places (told ++ Assure n front ∷ []) with_front
    assures = one_entry makes bytes places told (Assure n front) i with_front stands (running, stands.knows.mark front is)
        (record { queue = stands.holds.queue; files = λ file m. refl; dead = refl }) (record {
          running = stands.knows.running;
          between = stands.knows.between;
          limits = stands.knows.limits;
          unread = stands.knows.unread;
          batches = stands.knows.batches;
          below = stands.knows.below;
          used = stands.knows.used;
          inputs = subst (AreInputs s.plans) (sym (inputs_same (assured_now front) (λ v. refl) n i.inputs)) stands.knows.inputs;
          mark = stands.knows.mark;
        })

  module _ (h : HasSpent i.holds.queue) where
    abbrev with_fewer : LineView places
    with_fewer = record i { holds = with_queue (without_page i.holds.queue h) i.holds }

    pub purged_at : IsQueueAt s (without_page i.holds.queue h)
    purged_at = purged_is_of makes s i.holds.queue h.before h.behind h.page h.page.number h.tails h.spent h.is stands.holds.queue

    pub purges : Stands makes bytes places (told ++ Purge h.page.number ∷ []) with_fewer
    purges = one_entry makes bytes places told (Purge h.page.number) i with_fewer stands running (record { queue = purged_at; files = λ file m. refl; dead = refl }) (record {
      running = stands.knows.running;
      between = stands.knows.between;
      limits = stands.knows.limits;
      unread = stands.knows.unread;
      batches = stands.knows.batches;
      below = stands.knows.below;
      used = stands.knows.used;
      inputs = stands.knows.inputs;
      mark = stands.knows.mark;
    })

  -- ---- another configuration

  opened_by : (l : Option Limits) → l ≡ Some i.limits → WasOpened l
  opened_by None e = absurd (cc)
  opened_by (Some limits) e = tt

  may_adopt : (generation : ℕ) (config : Config) → config ≢ i.plan.config → generation ≡ i.plan.generation + 1 → (plans : List Plan) → newest plans ≡ Some i.plan → MayAdopt plans generation config
  may_adopt generation config differs next_is [] e = tt
  may_adopt generation config differs next_is (p ∷ plans) e =
      let same = same_Some p i.plan e in
      (λ c. differs (c ∙ ap (λ (x : Plan). x.config) same), next_is ∙ ap (λ (x : Plan). x.generation + 1) (sym same))

  module _ (c : Changes listening i) where
    pub adopts : Stands makes bytes places (told ++ Adopt c.plan.generation c.plan.config c.plan.draws ∷ []) (adopted listening i c)
    adopts =
        let e = Adopt c.plan.generation c.plan.config c.plan.draws in
        let legal : Legal_at makes s e = (opened_by s.limits stands.knows.limits, stands.knows.between, may_adopt c.plan.generation c.plan.config c.differs c.generation s.plans stands.knows.running, c.draws) in
        one_entry makes bytes places told e i (adopted listening i c) stands legal
        (record { queue = others_leave_it makes s i.holds.queue e tt stands.holds.queue; files = λ file m. refl; dead = refl }) (record {
          running = refl;
          between = stands.knows.between;
          limits = stands.knows.limits;
          unread = subst (AreRowsOf (i.kept ++ i.unread)) (sym (others_leave_unread makes told e stands.holds.legal legal tt)) stands.knows.unread;
          batches = stands.knows.batches;
          below = stands.knows.below;
          used = stands.knows.used;
          inputs = (inputs_of i.inputs, stands.knows.inputs, subst (Renumbered (length (inputs_of i.inputs)) (inputs_of i.inputs) (named_from 1 c.plan.config.inputs)) (sym (carried_are i.inputs c.inputs)) c.renumbered);
          mark = stands.knows.mark;
        })
