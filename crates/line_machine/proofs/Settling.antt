-- Each step keeps what is recorded; and a line at rest is done.
use Rattle.std.proofs.Common.{◌≡◌, ◌⊎◌, inl, inr, ⊎_elim, ℕ, zero, suc, ◌≤◌, ◌+◌, ◌&&◌, not, nat_le, Bool, true, false, List, [], ◌∷◌, ◌++◌, map, Option, Some, None, refl, sym, ap, ◌∙◌, subst, arith}
use Rattle.std.specs.Prelude.{⊤}
use Rattle.std.proofs.lemmas.Bool.{cases_Bool}
use Rattle.std.proofs.lemmas.Option.{same_Some}
use Rattle.event_tree.specs.declared.lists.DeadPart.{DeadPart}
use Rattle.event_tree.specs.Events.{Ev}
use Rattle.pipeline_bus.specs.declared.parcel.Answer.{Answer}
use Rattle.pipeline_bus.specs.declared.parcel.Parcel.{Parcel}
use Rattle.foreign_parts.specs.declared.place.Place.TheVariants as place
use Rattle.io_traits.specs.Images.{Image}
use Rattle.event_flow.specs.Meaning.{Makes, Due}
use Rattle.event_flow.specs.Meaning as due
use Rattle.dead_letters.specs.Appends.{kept_from}
use Rattle.queue_files.specs.Found.{Row, row_of}
use Rattle.queue_files.specs.Kept.{Queue, all_rows, Rising}
use Rattle.queue_files.specs.Steps.{marked, with_row, rolled}
use Rattle.history_book.specs.Contents.{Bytes}
use Rattle.history_book.specs.Deeds.{Deed, told_of}
use Rattle.history_book.specs.Entries.{Entry, ParcelAt, Accept, Mark, Assure, Read, Back, Shed, Deliver, Letters, Ack, Purge, Adopt, Opened}
use Rattle.history_book.specs.Holdings.{StopLeaves}
use Rattle.history_book.specs.Legal.{rejections}
use Rattle.history_book.specs.Links.{Listening}
use Rattle.history_book.specs.Lists.{IsIn}
use Rattle.history_book.specs.Queues.{acknowledged_in, next_in, AreRowsOf}
use Rattle.history_book.specs.Sound.{Places}
use Rattle.history_book.specs.States.{Plan, Written, Out, State, start, newest, unread, is_unread, is_among, reads, left_of, out_of, tells_letters, opens, numbers_out, numbers_found, top_of, next, after}
use Rattle.history_book.proofs.Following.{row_known, acknowledged_same, marked_open, marked_numbers, rolled_rows, rolled_numbers, less_open}
use Rattle.history_book.proofs.Histories.{after_both}
use Rattle.history_book.proofs.Lists.{in_either, filter_keeps, filter_passes}
use Rattle.history_book.proofs.Numbers.{and_second, start_sane, all_sane}
use Rattle.history_book.proofs.Opening.{among_in, in_among}
use Rattle.history_book.proofs.Unread.{numbers_same}
use Rattle.line_machine.specs.Answering.{LinksStand}
use Rattle.line_machine.specs.Effects.{shed_told, letters_told}
use Rattle.line_machine.specs.Doing.{IsSent, DoesLegally}
use Rattle.line_machine.specs.Coming.{WasAssured, InputsStand}
use Rattle.line_machine.specs.Finds.{IsRowFor, ends_served}
use Rattle.line_machine.specs.Openings.{opening}
use Rattle.line_machine.specs.Recorded.{AreRecorded, IsRecorded}
use Rattle.line_machine.specs.Resting.{RowsAreAssured, TakenAreAnswered, SentAreAnswered, RestIsDone, StopIsStopped}
use Rattle.line_machine.specs.Settling.{Settles, StepsSettle, OpenedLineSettles}
use Rattle.line_machine.specs.Ends.{Waiting, TakerView, IsServed}
use Rattle.line_machine.specs.Stands.{AreBatchesOf, Stands}
use Rattle.line_machine.specs.Steps as m
use Rattle.line_machine.specs.Steps.{Step, effect, GoesOn}
use Rattle.line_machine.specs.Views.{Batch, Incoming, RowAt, InputView, LineView}
use Rattle.line_machine.proofs.Accounted.{IsOut, all_accounted, start_accounted}
use Rattle.line_machine.proofs.Batches.{beside}
use Rattle.line_machine.proofs.Recording.{acked_without, all_spent, nothing_kept, marked_recorded, recorded_without}

-- ---- entries that acknowledge nothing

abbrev NoAck : List Entry → Type 0
NoAck [] = ⊤
NoAck (Ack batch ∷ es) = ⊥
NoAck (Opened rows limit policy ∷ es) = ⊥
NoAck (e ∷ es) = NoAck es

shed_none : (n older : ℕ) (newer : List ℕ) (rest : List Entry) → NoAck rest → NoAck (shed_told n older newer ++ rest)
shed_none n zero [] rest none = none
shed_none n zero (x ∷ newer) rest none = none
shed_none n (suc older) newer rest none = none

letters_none : (n older : ℕ) (newer : List ℕ) (letters : List DeadPart) (rest : List Entry) → NoAck rest → NoAck ((shed_told n older newer ++ Letters n letters ∷ []) ++ rest)
letters_none n zero [] letters rest none = none
letters_none n zero (x ∷ newer) letters rest none = none
letters_none n (suc older) newer letters rest none = none

module _ (makes : Makes) where
  read_acks : (s : State) (batch : ℕ) (numbers : List ℕ) (plan : Option Plan) → (reads s batch numbers plan).acknowledged ≡ s.acknowledged
  read_acks s batch numbers None = refl
  read_acks s batch numbers (Some plan) = refl

  letters_acks : (s : State) (batch : ℕ) (letters : List DeadPart) (left : List Due) → (tells_letters s batch letters left).acknowledged ≡ s.acknowledged
  letters_acks s batch letters [] = refl
  letters_acks s batch letters (due.Letters ds ∷ rest) = refl
  letters_acks s batch letters (due.Events id at es ∷ rest) = refl

  one_ack : (s : State) (e : Entry) (es : List Entry) → NoAck (e ∷ es) → ((next makes s e).acknowledged ≡ s.acknowledged) × NoAck es
  one_ack s (Accept input parcel number event) es none = (refl, none)
  one_ack s (Mark front) es none = (refl, none)
  one_ack s (Assure input front) es none = (refl, none)
  one_ack s (Read batch generation numbers) es none = (read_acks s batch numbers (newest s.plans), none)
  one_ack s (Back batch verdicts) es none = (refl, none)
  one_ack s (Shed batch older newer) es none = (refl, none)
  one_ack s (Deliver batch place events fates) es none = (refl, none)
  one_ack s (Letters batch letters) es none = (letters_acks s batch letters (left_of (out_of batch s.out)), none)
  one_ack s (Ack batch) es none = absurd none
  one_ack s (Purge page) es none = (refl, none)
  one_ack s (Adopt generation config draws) es none = (refl, none)
  one_ack s (Opened rows limit policy) es none = absurd none

  acks : (s : State) (more : List Entry) → NoAck more → (after makes s more).acknowledged ≡ s.acknowledged
  acks s [] none = refl
  acks s (e ∷ more) none = let one = one_ack s e more none in acks (next makes s e) more one.1 ∙ one.0

  acks_same : (told more : List Entry) → NoAck more → (after makes start (told ++ more)).acknowledged ≡ (after makes start told).acknowledged
  acks_same told more none = ap (λ (x : State). x.acknowledged) (after_both makes start told more) ∙ acks (after makes start told) more none

true_false : true ≡ false → ⊥
true_false e = cc

module _ (makes : Makes) (listening : Listening) (bytes : Bytes) (places : Places) (told : List Entry) (i : LineView places) (stands : Stands makes bytes places told i) (is : Settles (after makes start told) i) where
  abbrev s : State
  s = after makes start told

  abbrev queue : Queue
  queue = i.holds.queue

  -- what is acknowledged there, of a queue
  abbrev There : List ℕ → Queue → Type 0
  There numbers q = (r : Row) → IsIn r (all_rows q.tails q.top) → IsIn r.number numbers → IsIn r.number (acknowledged_in q.tails q.top)

  -- the queue stays, and nothing else is acknowledged
  same : (more : List Entry) (j : LineView places) → NoAck more → j.holds.queue ≡ queue → j.uncovered ≡ i.uncovered → j.mark ≡ i.mark → Settles (after makes start (told ++ more)) j
  same more j none q uncovered mark = record {
    there = λ r has acked. subst (λ (x : Queue). IsIn r.number (acknowledged_in x.tails x.top)) (sym q)
        (is.there r (subst (λ (x : Queue). IsIn r (all_rows x.tails x.top)) q has) (subst (IsIn r.number) (acks_same makes told more none) acked));
    recorded = λ covered. subst IsRecorded (sym q) (is.recorded (sym uncovered ∙ covered));
    last = λ covered front marks. is.last (sym uncovered ∙ covered) front (sym mark ∙ marks) ∙ ap next_in (sym q);
  }

  quiet_same : (j : LineView places) → j.holds.queue ≡ queue → j.uncovered ≡ i.uncovered → j.mark ≡ i.mark → Settles (after makes start (told ++ [])) j
  quiet_same j q uncovered mark = same [] j tt q uncovered mark

  -- ---- a row

  marked_there : (q : Queue) (numbers : List ℕ) → Rising 0 0 q.tails q.top → There numbers q → There numbers (marked q)
  marked_there q numbers rising there r has acked =
      subst (IsIn r.number) (sym (marked_numbers q.tails q.top)) (there r (marked_open 0 0 q.tails q.top rising r has) acked)

  rolled_there : (q : Queue) (numbers : List ℕ) → There numbers q → There numbers (rolled q)
  rolled_there q numbers there r has acked =
      subst (IsIn r.number) (sym (rolled_numbers q.tails q.top)) (there r (subst (IsIn r) (rolled_rows q.tails q.top) has) acked)

  module _ (v : InputView) (event : Ev) (r : IsRowFor listening i v event) where
    room_there : There s.acknowledged r.before
    room_there = ⊎_elim (λ e. subst (There s.acknowledged) (sym e) is.there)
        (λ e. subst (There s.acknowledged) (sym e.new_is) (rolled_there (marked queue) s.acknowledged (marked_there queue s.acknowledged stands.holds.queue.is is.there))) r.room

    next_before : next_in queue ≤ next_in r.before
    next_before = ⊎_elim (λ e. let one = ap next_in e in omega (arith, one)) (λ e. let one = ap next_in e.new_is in omega (arith, one)) r.room

    -- the new row isn't acknowledged
    row_there : (n : ℕ) (parcel : Option ParcelAt) → There (after makes start (told ++ Accept n parcel r.row.number r.row.event ∷ [])).acknowledged (with_row r.row r.before)
    row_there n parcel x has acked =
        let before = subst (IsIn x.number) (acks_same makes told (Accept n parcel r.row.number r.row.event ∷ []) tt) acked in
        subst (IsIn x.number) (sym (acknowledged_same r.row r.before.tails r.before.top))
        (⊎_elim (λ (j : IsIn x (all_rows r.before.tails r.before.top)). room_there x j before)
        (λ (e : x ≡ row_of r.row).
        absurd (let less = (all_sane makes start told stands.holds.legal start_sane).acked x.number before in
        let low = stands.holds.queue.low in let room = next_before in let number = r.number in let one = ap (λ (y : Row). y.number) e in
        omega (arith, less, low, room, number, one)))
        (row_known r.row r.before.tails r.before.top x has))

  -- ---- the steps

  pub settle : (x : Step makes listening bytes i) → GoesOn makes listening bytes i x → Settles (after makes start (told ++ (effect makes listening bytes i x).told)) (effect makes listening bytes i x).line
  settle (m.Accepts n c r false) on = record { there = row_there c.by.input c.first.event r n None; recorded = λ covered. absurd (true_false covered); last = λ covered. absurd (true_false covered) }
  settle (m.Accepts n c r true) on = absurd on
  settle (m.Accepts_parcel n a r false) on = record { there = row_there a.by.input a.event r n (Some a.at); recorded = λ covered. absurd (true_false covered); last = λ covered. absurd (true_false covered) }
  settle (m.Accepts_parcel n a r true) on = absurd on
  settle (m.Reads t k) on = same _ _ tt refl refl refl
  settle (m.Works t k verdicts uses) on = same _ _ tt refl refl refl
  settle (m.Collects n a verdicts uses) on = same _ _ tt refl refl refl
  settle (m.Tells n parts rest h a) on = same (letters_told n a.shed parts) _ (shed_none n a.shed.older a.shed.newer (Letters n (kept_from a.shed.newer 0 parts) ∷ []) tt) refl refl refl
  settle (m.Gives n id at events rest h plain) on = same _ _ tt refl refl refl
  settle (m.Is_taken n id number events rest h fates are none) on = same _ _ tt refl refl refl
  settle (m.Is_rejected n id number events rest h fates are some a) on =
      let letters = kept_from a.shed.newer 0 (rejections h.batch.plan.config id fates events) in
      same (letters_told n a.shed (rejections h.batch.plan.config id fates events) ++ Deliver n (place.Foreign number) events fates ∷ []) _
      (letters_none n a.shed.older a.shed.newer letters (Deliver n (place.Foreign number) events fates ∷ []) tt) refl refl refl
  settle (m.Is_heard n id address events rest h number sent was) on = same _ _ tt refl refl refl
  settle (m.Fails_to_deliver n left h f why printed out given took) on = absurd on
  settle (m.Acknowledges_it n h new a) on = record { there = acked_there; recorded = λ covered. absurd (true_false covered); last = λ covered. absurd (true_false covered) }
    where
      numbers_are : numbers_found h.batch.rows ≡ numbers_out (out_of n s.out)
      numbers_are =
          let o = beside n h.batch i.batches s.out stands.knows.batches h.has in
          numbers_same h.batch.rows o.out.rows o.is.rows ∙ sym (ap numbers_out o.has)

      acked_there : There (after makes start (told ++ Ack n ∷ [])).acknowledged new
      acked_there r has acked =
          ⊎_elim (λ (j : IsIn r.number s.acknowledged). a.still r.number (is.there r (subst (IsIn r) a.more.open_rows has) j))
          (λ (j : IsIn r.number (numbers_out (out_of n s.out))). a.all r.number (subst (IsIn r.number) (sym numbers_are) j))
          (in_either r.number s.acknowledged (numbers_out (out_of n s.out)) (subst (λ (x : State). IsIn r.number x.acknowledged) (after_both makes start told (Ack n ∷ [])) acked))
  settle (m.Marks front last marks) on = record {
    there = λ r has acked. marked_there queue s.acknowledged stands.holds.queue.is is.there r has (subst (IsIn r.number) (acks_same makes told (Mark front ∷ []) tt) acked);
    recorded = λ covered. record { tails = marked_recorded queue.tails; top = refl; all = refl };
    last = λ covered f e. ap (λ n. n + 1) (sym (same_Some front f e)) ∙ last;
  }
  settle (m.Assures n front h marks) on = same _ _ tt refl refl refl
  settle (m.Fails_to_assure n front h marks) on = absurd on
  settle (m.Purges h) on = record {
    there = λ r has acked. acked_without h.page h.behind queue.top 0 0 h.before (subst (λ l. Rising 0 0 l queue.top) h.tails stands.holds.queue.is) r has
        (subst (λ l. IsIn r.number (acknowledged_in l queue.top)) h.tails
        (is.there r (subst (λ l. IsIn r (all_rows l queue.top)) (sym h.tails) (less_open h.page h.behind queue.top h.before r has)) (subst (IsIn r.number) (acks_same makes told (Purge h.page.number ∷ []) tt) acked)));
    recorded = λ covered.
        let all = is.recorded covered in
        record { tails = recorded_without h.before h.behind h.page (subst AreRecorded h.tails all.tails); top = all.top; all = all.all };
    last = λ covered front marks. is.last covered front marks;
  }
  settle (m.Adopts c) on = same _ _ tt refl refl refl
  settle (m.Only_fails x fails) on = absurd on
  settle x on = quiet_same _ refl refl refl

pub steps_settle : (makes : Makes) (listening : Listening) (bytes : Bytes) (places : Places) → StepsSettle makes listening bytes places
steps_settle makes listening bytes places told i x stands is on = settle makes listening bytes places told i stands is x on

pub opened_settles : (makes : Makes) (listening : Listening) (bytes : Bytes) (places : Places) → OpenedLineSettles makes listening bytes places
opened_settles makes listening bytes places told image sound i is = record {
  there = λ r has acked. absurd (not_acked r (subst (IsIn r) is.opened.queue.rows has) (subst (λ (x : State). IsIn r.number x.acknowledged) (after_both makes start told (opening makes listening bytes places told image sound i)) acked));
  recorded = is.covered;
  last = λ covered front e. absurd (differs front (sym is.unmarked ∙ e));
}
  where
    differs : (front : ℕ) → None ≡ Some front → ⊥
    differs front e = cc

    number_found : (r : Row) (rows : List Row) → IsIn r rows → IsIn r.number (numbers_found rows)
    number_found r [] j = absurd j
    number_found r (x ∷ rows) (inl e) = inl (ap (λ (y : Row). y.number) e)
    number_found r (x ∷ rows) (inr j) = inr (number_found r rows j)

    both : (b : Bool) → b ≡ true → not b ≡ true → ⊥
    both true e c = cc
    both false e c = cc

    not_acked : (r : Row) → IsIn r sound.rows.rows → IsIn r.number (opens (after makes start told) sound.rows.rows i.limits).acknowledged → ⊥
    not_acked r has acked =
        let passes = filter_passes r.number (λ n. nat_le n (top_of (after makes start told) sound.rows.rows) && not (is_among n (numbers_found sound.rows.rows))) (after makes start told).acknowledged acked in
        both (is_among r.number (numbers_found sound.rows.rows)) (among_in r.number (numbers_found sound.rows.rows) (number_found r sound.rows.rows has)) (and_second (nat_le r.number (top_of (after makes start told) sound.rows.rows)) (not (is_among r.number (numbers_found sound.rows.rows))) passes)

-- ---- at rest

nowhere : {X : Type 0} (x : X) (xs : List X) → xs ≡ [] → IsIn x xs → ⊥
nowhere x xs none has = subst (IsIn x) none has

none_out : (bs : List Batch) (os : List Out) → AreBatchesOf bs os → bs ≡ [] → os ≡ []
none_out [] [] are none = refl
none_out [] (o ∷ os) are none = absurd are
none_out (b ∷ bs) os are none = absurd (differs none)
  where
    differs : b ∷ bs ≡ [] → ⊥
    differs e = cc

no_rows : (rows : List Row) (ws : List Written) → AreRowsOf rows ws → rows ≡ [] → ws ≡ []
no_rows [] [] are none = refl
no_rows [] (w ∷ ws) are none = absurd are
no_rows (r ∷ rows) ws are none = absurd (differs none)
  where
    differs : r ∷ rows ≡ [] → ⊥
    differs e = cc

both_not : (a b : Bool) → a ≡ false → b ≡ false → (not a && not b) ≡ true
both_not true b e f = absurd (true_false e)
both_not false true e f = absurd (true_false f)
both_not false false e f = refl

pub by_account : (t : TakerView) → t.waits ≡ [] → (p : Parcel) → ((w : Waiting) × IsIn w t.waits × (w.number ≡ p.number)) ⊎ ((a : Answer) × IsIn a t.given × (a.number ≡ p.number))
    → (a : Answer) × IsIn a t.given × (a.number ≡ p.number)
by_account t none p (inl w) = absurd (nowhere w.0 t.waits none w.1)
by_account t none p (inr a) = a

module _ (makes : Makes) (listening : Listening) (bytes : Bytes) (places : Places) (told : List Entry) (i : LineView places) (stands : Stands makes bytes places told i) where
  -- no batch is out and no row is unread: all are acknowledged
  all_acked : i.batches ≡ [] → i.kept ++ i.unread ≡ [] → (w : Written) → IsIn w (after makes start told).rows → IsIn w.number (after makes start told).acknowledged
  all_acked batches none w has =
      let s = after makes start told in
      ⊎_elim (λ (a : is_among w.number s.acknowledged ≡ true). in_among w.number s.acknowledged a)
      (λ (fresh : is_among w.number s.acknowledged ≡ false).
      ⊎_elim (λ (read : is_among w.number s.read ≡ true).
      ⊎_elim (λ (a : IsIn w.number s.acknowledged). a)
      (λ (o : IsOut w.number s.out). absurd (nowhere o.out s.out (none_out i.batches s.out stands.knows.batches batches) o.is_in))
      (all_accounted makes start told stands.holds.legal start_accounted w.number (in_among w.number s.read read)))
      (λ (unread_now : is_among w.number s.read ≡ false).
      absurd (nowhere w (unread s) (no_rows (i.kept ++ i.unread) (unread s) stands.knows.unread none)
      (filter_keeps w (is_unread s) s.rows has (both_not (is_among w.number s.acknowledged) (is_among w.number s.read) fresh unread_now))))
      (cases_Bool (is_among w.number s.read)))
      (cases_Bool (is_among w.number s.acknowledged))

  -- nothing is found where all is acknowledged, and that is recorded
  none_found : Settles (after makes start told) i → i.uncovered ≡ false → i.batches ≡ [] → i.kept ++ i.unread ≡ [] → (image : Image) → (left : StopLeaves makes bytes places told i.holds image) → left.queue.held.rows ≡ []
  none_found is covered batches none image left =
      let recorded = is.recorded covered in
      nothing_kept i.holds.queue 0 0 i.holds.queue.tails left.queue.held.rows left.queue.held.next stands.holds.queue.is recorded.tails recorded.top
      (all_spent 0 0 i.holds.queue.tails i.holds.queue.top stands.holds.queue.is recorded.tails recorded.top there) left.queue.kept
    where
      there : (r : Row) → IsIn r (all_rows i.holds.queue.tails i.holds.queue.top) → IsIn r.number (acknowledged_in i.holds.queue.tails i.holds.queue.top)
      there r has =
          let known = stands.holds.queue.known r has in
          is.there r has (subst (λ n. IsIn n (after makes start told).acknowledged) (sym known.2.number) (all_acked batches none known.0 known.1))

  -- inputs were told of all rows of which none is left
  all_assured : (came : ℕ → List Incoming) → InputsStand listening told came i → ((v : InputView) → IsIn v i.inputs → v.rows ≡ []) → RowsAreAssured listening told i
  all_assured came are none v has opens lines r known =
      ⊎_elim (λ (was : WasAssured told v.number r.number). was)
      (λ (kept : IsIn r.number (map (λ (x : RowAt). x.number) v.rows)). absurd (subst (λ rs. IsIn r.number (map (λ (x : RowAt). x.number) rs)) (none v has) kept))
      ((are.each v has opens lines).known r known)

  -- and parcels have their answers where none waits, and no batch waits for one
  sent_answered : (earlier : List Entry) (deeds : List Deed) → DoesLegally makes earlier deeds i.batches i.senders → i.batches ≡ [] → SentAreAnswered i
  sent_answered earlier deeds are none address s at p sent some =
      ⊎_elim (λ (a : (a : Answer) × IsIn a s.sends.heard × (a.number ≡ p.number)). a)
      (λ (b : (b : Batch) × IsIn b i.batches × IsSent b address p.number). absurd (nowhere b.0 i.batches none b.1)) (are.heard address s at p sent some)

  taken_answered : LinksStand makes listening told i.takers i.next_place → ((t : TakerView) → IsIn t i.takers → IsServed (ends_served i) t.place → (t.waits ≡ []) × (t.lost ≡ [])) → TakenAreAnswered i
  taken_answered links answered t has served p taken some = by_account t (answered t has served).0 p ((links.each t has).accounted p taken some)

pub rest_is_done : (makes : Makes) (listening : Listening) (bytes : Bytes) (places : Places) → RestIsDone makes listening bytes places
rest_is_done makes listening bytes places earlier deeds came i line rest = record {
  rows = all_acked makes listening bytes places (told_of deeds) i line.stands rest.ended.batches rest.ended.unread;
  out = none_out i.batches (after makes start (told_of deeds)).out line.stands.knows.batches rest.ended.batches;
  found = none_found makes listening bytes places (told_of deeds) i line.stands line.settles rest.covered rest.ended.batches rest.ended.unread;
  inputs = rest.ended.inputs;
  assured = all_assured makes listening bytes places (told_of deeds) i line.stands came line.inputs rest.assured;
  taken = taken_answered makes listening bytes places (told_of deeds) i line.stands line.links rest.ended.answered;
  sent = sent_answered makes listening bytes places (told_of deeds) i line.stands earlier deeds line.senders rest.ended.batches;
}

pub stop_is_stopped : (makes : Makes) (listening : Listening) (bytes : Bytes) (places : Places) → StopIsStopped makes listening bytes places
stop_is_stopped makes listening bytes places earlier deeds came i line stop = record {
  marked = λ n has. let covered = (line.rows n has).1 stop.covered in let front = line.stands.knows.mark covered.0 covered.1 in let most = covered.2 in omega (arith, front, most);
  assured = all_assured makes listening bytes places (told_of deeds) i line.stands came line.inputs stop.assured;
  rows = λ drains. let ended = stop.drained drains in all_acked makes listening bytes places (told_of deeds) i line.stands ended.batches ended.unread;
  recorded = λ drains. let ended = stop.drained drains in none_found makes listening bytes places (told_of deeds) i line.stands line.settles stop.covered ended.batches ended.unread;
  taken = taken_answered makes listening bytes places (told_of deeds) i line.stands line.links stop.answered;
  sent = λ drains. sent_answered makes listening bytes places (told_of deeds) i line.stands earlier deeds line.senders (stop.drained drains).batches;
}
