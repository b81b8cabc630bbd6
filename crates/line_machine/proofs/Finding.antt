-- There is something to do for each step that is chosen.
use Rattle.std.proofs.Common.{◌≡◌, ◌⊎◌, inl, inr, ⊎_elim, ℕ, ◌+◌, ◌≤◌, ◌<◌, ◌==◌, ◌&&◌, ◌||◌, not, nat_le, Bool, true, false, List, [], ◌∷◌, ◌++◌, length, Option, Some, None, if◌then◌else◌, refl, sym, ap, ◌∙◌, subst, arith, ◌≢◌}
use Rattle.std.specs.Prelude.{nat_lt}
use Rattle.std.specs.List.{list_any, list_all}
use Rattle.std.proofs.lemmas.Bool.{eqb-true, ltb-true, leb-true, not-true}
use Rattle.event_flow.specs.Meaning.{Makes, Due}
use Rattle.pipeline_bus.specs.declared.parcel.Parcel.{Parcel}
use Rattle.history_book.specs.Contents.{Bytes}
use Rattle.history_book.specs.Deeds.{Deed}
use Rattle.history_book.specs.Entries.{Entry}
use Rattle.history_book.specs.Links.{Listening}
use Rattle.history_book.specs.Lists.{IsIn}
use Rattle.history_book.specs.Sound.{Places}
use Rattle.history_book.specs.States.{is_among}
use Rattle.history_book.proofs.Opening.{in_among}
use Rattle.line_machine.specs.Ends.{Waiting, TakerView, taker_at, IsServed, AreUpTo, MayAssure, MayRefuse}
use Rattle.line_machine.specs.Finds.{AreNextParcels, IsHome, IsAtEnd, ends_served, HasInput}
use Rattle.line_machine.specs.Lines.{LineStands}
use Rattle.line_machine.specs.Views.{Batch, Incoming, RowAt, InputView, LineView, batch_of, input_at}
use Rattle.line_machine.proofs.Takers.{taker_in}
use Rattle.line_machine.specs.Summaries.{Given, Refused, has_some, least, is_empty, is_away, is_due, is_finished, is_up_to, is_settled, oldest_settled, is_due_answer, is_served, is_part, has_event, goes_on, is_spent, holds, holds_by, polls, polls_by, wants, wants_by, batches_of, inputs_of, places_of, drains_on, has_few_out, unread_now, summary_of, is_home}
use Rattle.line_machine.proofs.Choosing.{some_of, any_in, away_of, finished_of, end_of, home_of, possible_of}
use Rattle.line_machine.proofs.Least.{none_some, true_false, not_both, both_of, least_found, next_found}
use Rattle.line_machine.proofs.Resting.{empty_of, all_of}
use Rattle.line_machine.specs.declared.calls.Act.{Act}
use Rattle.line_machine.specs.declared.calls.Act.TheVariants as act
use Rattle.line_machine.specs.Choices.{HasFewOut, ShowsParcel, HoldsEvent, HasSettled, HasWork, ChoicesHaveWork}
use Rattle.line_machine.specs.Turns.{IsPossible}

pub either_true : (a b : Bool) → (a || b) ≡ true → (a ≡ true) ⊎ (b ≡ true)
either_true true b e = inl refl
either_true false b e = inr e

pub served_of : (only : Option (List ℕ)) (place : ℕ) → is_served only place ≡ true → IsServed only place
served_of None place e = tt
served_of (Some served) place e = in_among place served e

all_up_to : (front : ℕ) (ns : List ℕ) → ((n : ℕ) → IsIn n ns → n ≤ front) → AreUpTo front ns
all_up_to front [] each = tt
all_up_to front (n ∷ ns) each = (each n (inl refl), all_up_to front ns (λ m i. each m (inr i)))

module _ (makes : Makes) (listening : Listening) (bytes : Bytes) (places : Places) (earlier : List Entry) (deeds : List Deed) (came : ℕ → List Incoming) (i : LineView places)
    (line : LineStands makes listening bytes places earlier deeds came i) where
  pub may_answer : (t : TakerView) → is_due_answer i.mark (Some t) ≡ true → IsIn t i.takers → MayAssure i.mark t ⊎ MayRefuse t
  may_answer t is has = ⊎_elim (λ (oldest : oldest_settled i.mark t.waits ≡ true). inl (assures t.waits refl oldest)) (λ closed. inr (refuses closed)) (either_true (oldest_settled i.mark t.waits) _ is)
    where
      assures : (ws : List Waiting) → t.waits ≡ ws → oldest_settled i.mark ws ≡ true → MayAssure i.mark t
      assures [] e oldest = absurd (true_false (sym oldest))
      assures (w ∷ ws) e oldest =
          let parts = both_of (has_some i.mark) (is_settled i.mark w) oldest in
          let front = some_of i.mark parts.0 in
          let settled = both_of (length w.rows == length w.events) (list_all (is_up_to i.mark) w.rows) parts.1 in
          record {
            front = front.0;
            marked = front.1;
            oldest = w;
            rest = ws;
            waits = e;
            whole = eqb-true (length w.rows) (length w.events) settled.0;
            settled = all_up_to front.0 w.rows (λ n row. leb-true n front.0 (sym (ap (λ (m : Option ℕ). is_up_to m n) front.1) ∙ all_of (is_up_to i.mark) w.rows settled.1 n row));
          }

      refuses : (not t.listens && (is_empty t.waits && not (is_empty t.lost))) ≡ true → MayRefuse t
      refuses closed = by_lost t.lost refl
        where
          behind : (is_empty t.waits && not (is_empty t.lost)) ≡ true
          behind = (both_of (not t.listens) _ closed).1

          by_lost : (lost : List Parcel) → t.lost ≡ lost → MayRefuse t
          by_lost [] e = absurd (not_both (not (is_empty t.lost)) (both_of (is_empty t.waits) _ behind).1 (ap (λ (l : List Parcel). not (is_empty l)) e))
          by_lost (p ∷ lost) e = record {
            closed = not-true t.listens (both_of (not t.listens) _ closed).0;
            none = empty_of t.waits (both_of (is_empty t.waits) _ behind).0;
            parcel = p;
            rest = lost;
            lost = e;
            number = (subst (AreNextParcels t.next) e (line.ends t has).lost).1;
          }

  due_left : (n : ℕ) → is_due (batch_of n i.batches) ≡ true → (d : Due) × (left : List Due) × IsHome i n (d ∷ left)
  due_left n is = by_batch (batch_of n i.batches) refl is
    where
      by_left : (b : Batch) → batch_of n i.batches ≡ Some b → is_due (Some b) ≡ true → (left : List Due) → b.left ≡ left → (d : Due) × (rest : List Due) × IsHome i n (d ∷ rest)
      by_left b has e [] f = absurd (not_both (not (is_empty b.left)) (both_of (is_home b) (not (is_empty b.left)) e).1 (ap (λ (l : List Due). not (is_empty l)) f))
      by_left b has e (d ∷ left) f = (d, left, subst (IsHome i n) f (home_of i n b has (both_of (is_home b) (not (is_empty b.left)) e).0))

      by_batch : (o : Option Batch) → batch_of n i.batches ≡ o → is_due o ≡ true → (d : Due) × (left : List Due) × IsHome i n (d ∷ left)
      by_batch None has e = absurd (true_false (sym e))
      by_batch (Some b) has e = by_left b has e b.left refl

  settled_of : (n : ℕ) → wants listening i (input_at n i.inputs) ≡ true → (h : HasInput i n) × (h.input.is_open ≡ true) × HasSettled i h.input
  settled_of n is = by_input (input_at n i.inputs) refl is
    where
      up_to : (v : InputView) (r : RowAt) → IsIn r v.rows → (mark : Option ℕ) → i.mark ≡ mark → is_up_to mark r.number ≡ true → HasSettled i v
      up_to v r has None e test = absurd (true_false (sym test))
      up_to v r has (Some front) e test = record { front = front; marked = e; row = r; has = has; settled = leb-true r.number front test }

      by_address : (v : InputView) (o : Option (List ℕ)) → wants_by listening i v o ≡ true → (v.is_open ≡ true) × HasSettled i v
      by_address v (Some address) e = absurd (true_false (sym e))
      by_address v None e =
          let both = both_of v.is_open _ e in let r = any_in (λ (x : RowAt). is_up_to i.mark x.number) v.rows both.1 in (both.0, up_to v r.0 r.1 i.mark refl r.2)

      by_input : (o : Option InputView) → input_at n i.inputs ≡ o → wants listening i o ≡ true → (h : HasInput i n) × (h.input.is_open ≡ true) × HasSettled i h.input
      by_input None has e = absurd (true_false (sym e))
      by_input (Some v) has e = let both = by_address v (listening.address v.statement) e in (record { input = v; has = has }, both.0, both.1)

  held_of : (n : ℕ) → holds listening i (input_at n i.inputs) ≡ true → (h : HasInput i n) × HoldsEvent listening i h.input
  held_of n is = by_input (input_at n i.inputs) refl is
    where
      by_address : (v : InputView) (o : Option (List ℕ)) → listening.address v.statement ≡ o → holds_by listening i v o ≡ true → HoldsEvent listening i v
      by_address v None f e =
          let both = both_of v.is_open _ e in let more = both_of (not i.stopped) (not (is_empty v.held)) both.1 in
          inl (f, both.0, not-true i.stopped more.0, λ none. not_both (not (is_empty v.held)) more.1 (ap (λ (l : List Incoming). not (is_empty l)) none))
      by_address v (Some address) f e =
          let t = any_in (has_event (ends_served i) v.number) i.takers e in
          let parts = both_of (t.0.input == v.number) _ t.2 in
          let more = both_of (is_served (ends_served i) t.0.place) (list_any is_part t.0.waits) parts.1 in
          let w = any_in is_part t.0.waits more.1 in
          inr (record {
            taker = t.0;
            has = t.1;
            input_is = eqb-true t.0.input v.number parts.0;
            served = served_of (ends_served i) t.0.place more.0;
            waiting = w.0;
            waits = w.1;
            part = ltb-true (length w.0.rows) (length w.0.events) w.2;
          })

      by_input : (o : Option InputView) → input_at n i.inputs ≡ o → holds listening i o ≡ true → (h : HasInput i n) × HoldsEvent listening i h.input
      by_input None has e = absurd (true_false (sym e))
      by_input (Some v) has e = (record { input = v; has = has }, by_address v (listening.address v.statement) refl e)

  polled_of : (showing : List ℕ) (n : ℕ) → polls listening showing i (input_at n i.inputs) ≡ true → (h : HasInput i n) × (h.input.is_open ≡ true) × ((IsAtEnd listening i h.input → ⊥) ⊎ ShowsParcel showing i h.input)
  polled_of showing n is = by_input (input_at n i.inputs) refl is
    where
      lines : (v : InputView) → listening.address v.statement ≡ None → polls_by listening showing i v None ≡ true → IsAtEnd listening i v → ⊥
      lines v f e (inl ends) = none_some ends.0 (sym f ∙ ends.1)
      lines v f e (inr (g, inl stopped)) = not_both i.stopped stopped (not-true i.stopped (both_of (not i.stopped) _ (both_of v.is_open _ e).1).0)
      lines v f e (inr (g, inr ended)) =
          not_both v.ended ended.0 (not-true v.ended (both_of (is_empty v.held) (not v.ended) (both_of (not i.stopped) _ (both_of v.is_open _ e).1).1).1)

      parcels : (v : InputView) (address : List ℕ) → listening.address v.statement ≡ Some address → polls_by listening showing i v (Some address) ≡ true → (IsAtEnd listening i v → ⊥) ⊎ ShowsParcel showing i v
      parcels v address f e =
          let t = any_in (goes_on (ends_served i) showing v.number) i.takers (both_of (not (list_any (has_event (ends_served i) v.number) i.takers)) _ (both_of v.is_open _ e).1).1 in
          let parts = both_of (t.0.input == v.number) _ t.2 in
          let more = both_of (is_served (ends_served i) t.0.place) _ parts.1 in
          let served = served_of (ends_served i) t.0.place more.0 in
          ⊎_elim (λ (more : not t.0.ended ≡ true). inl (goes_on_at v address f t.0 t.1 (eqb-true t.0.input v.number parts.0) served (not-true t.0.ended more)))
          (λ (shows : is_among t.0.place showing ≡ true).
          inr (record { taker = t.0; has = t.1; input_is = eqb-true t.0.input v.number parts.0; served = served; shows = in_among t.0.place showing shows }))
          (either_true (not t.0.ended) (is_among t.0.place showing) more.1)
        where
          goes_on_at : (v : InputView) (address : List ℕ) → listening.address v.statement ≡ Some address → (t : TakerView) → IsIn t i.takers → t.input ≡ v.number → IsServed (ends_served i) t.place → t.ended ≡ false
              → IsAtEnd listening i v → ⊥
          goes_on_at v address f t has input served goes (inr ends) = none_some address (sym ends.0 ∙ f)
          goes_on_at v address f t has input served goes (inl ends) = not_both t.ended (ends.3 t has input served) goes

      by_address : (v : InputView) (o : Option (List ℕ)) → listening.address v.statement ≡ o → polls_by listening showing i v o ≡ true → (v.is_open ≡ true) × ((IsAtEnd listening i v → ⊥) ⊎ ShowsParcel showing i v)
      by_address v None f e = ((both_of v.is_open _ e).0, inl (lines v f e))
      by_address v (Some address) f e = ((both_of v.is_open _ e).0, parcels v address f e)

      by_input : (o : Option InputView) → input_at n i.inputs ≡ o → polls listening showing i o ≡ true → (h : HasInput i n) × (h.input.is_open ≡ true) × ((IsAtEnd listening i h.input → ⊥) ⊎ ShowsParcel showing i h.input)
      by_input None has e = absurd (true_false (sym e))
      by_input (Some v) has e = let both = by_address v (listening.address v.statement) refl e in (record { input = v; has = has }, both.0, both.1)

  marks_of : (nat_le i.due_writes i.written || nat_le i.due_acknowledged i.acknowledged) ≡ true → (i.due_writes ≤ i.written) ⊎ (i.due_acknowledged ≤ i.acknowledged) ⊎ (i.uncovered ≡ true)
  marks_of is =
      ⊎_elim (λ (e : nat_le i.due_writes i.written ≡ true). inl (leb-true i.due_writes i.written e)) (λ (e : nat_le i.due_acknowledged i.acknowledged ≡ true). inr (inl (leb-true i.due_acknowledged i.acknowledged e)))
      (either_true (nat_le i.due_writes i.written) _ is)

  few_out : has_few_out i ≡ true → HasFewOut i
  few_out is =
      ⊎_elim (λ (e : is_empty i.batches ≡ true). inl (empty_of i.batches e))
      (λ (e : nat_lt (length i.batches) (i.workers + i.workers) ≡ true). inr (ltb-true (length i.batches) (i.workers + i.workers) e)) (either_true (is_empty i.batches) _ is)

  some_unread : (drains again few : Bool) → has_few_out i ≡ few → 0 < (if drains && (again && few) then length (i.kept ++ i.unread) else 0) → (i.kept ++ i.unread ≢ []) × HasFewOut i
  some_unread true true true few is = (λ none. let long = ap length none in omega (arith, is, long), few_out few)
  some_unread true true false few is = absurd (omega (arith, is))
  some_unread true false out few is = absurd (omega (arith, is))
  some_unread false again out few is = absurd (omega (arith, is))

  work_of : (g : Given) (r : Refused) (showing : List ℕ) (a : Act) → IsPossible (summary_of listening g r showing i) a → HasWork listening showing i a
  work_of g r showing act.Take is =
      let some = some_of (least (λ n. is_away (batch_of n i.batches)) (batches_of i)) (both_of _ (not r.take) is).0 in
      (some.0, away_of i some.0 (least_found (λ n. is_away (batch_of n i.batches)) (batches_of i) some.0 some.1).1)
  work_of g r showing (act.Deliver n) is =
      let test = (least_found (λ k. drains_on i && (is_due (batch_of k i.batches) && not (is_among k r.deliveries))) (batches_of i) n is).1 in
      due_left n (both_of (is_due (batch_of n i.batches)) _ (both_of (drains_on i) _ test).1).0
  work_of g r showing (act.Acknowledge n) is = finished_of i n (least_found (λ k. is_finished (batch_of k i.batches)) (batches_of i) n is).1
  work_of g r showing (act.Answer place) is =
      let test = (next_found (λ k. is_served (ends_served i) k && (is_due_answer i.mark (taker_at k i.takers) && not (is_among k r.answers))) (places_of i) g.answer place is).1 in
      let due = (both_of (is_due_answer i.mark (taker_at place i.takers)) _ (both_of (is_served (ends_served i) place) _ test).1).0 in
      let end = end_of i place due in
      (end.0, end.1, may_answer end.0 (sym (ap (is_due_answer i.mark) end.1) ∙ due) (taker_in place end.0 i.takers end.1).0)
  work_of g r showing act.Mark (inl is) = marks_of is
  work_of g r showing act.Mark (inr is) = inr (inr is)
  work_of g r showing (act.Assure n) is = settled_of n (next_found (λ k. wants listening i (input_at k i.inputs)) (inputs_of i) g.assure n is).1
  work_of g r showing act.Purge is = let p = any_in is_spent i.holds.queue.tails is in (p.0, p.1, leb-true (p.0.least + length p.0.rows) p.0.from p.2)
  work_of g r showing (act.Accept n) (inl is) =
      let test = (next_found (λ k. holds listening i (input_at k i.inputs) && not (is_among k r.accepts)) (inputs_of i) g.held n is).1 in
      let h = held_of n (both_of (holds listening i (input_at n i.inputs)) _ test).0 in (h.0, inl h.1)
  work_of g r showing (act.Accept n) (inr is) =
      let test = (next_found (λ k. polls listening showing i (input_at k i.inputs) && not (is_among k r.accepts)) (inputs_of i) g.poll n is).1 in
      let h = polled_of showing n (both_of (polls listening showing i (input_at n i.inputs)) _ test).0 in (h.0, inr (h.1, h.2))
  work_of g r showing act.Read (inl is) = some_unread (drains_on i) (not r.read) (has_few_out i) refl (ltb-true 0 (unread_now r i) (both_of (nat_lt 0 (unread_now r i)) _ is).0)
  work_of g r showing act.Read (inr is) = some_unread (drains_on i) (not r.read) (has_few_out i) refl is

pub choices_have_work : (makes : Makes) (listening : Listening) (bytes : Bytes) (places : Places) → ChoicesHaveWork makes listening bytes places
choices_have_work makes listening bytes places earlier deeds came g r showing i a line is =
    work_of makes listening bytes places earlier deeds came i line g r showing a (possible_of (summary_of listening g r showing i) a is)
