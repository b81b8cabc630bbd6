-- Where a line has nothing to do, nothing is chosen.
use Rattle.std.proofs.Common.{◌≡◌, ◌⊎◌, inl, inr, ⊎_elim, ℕ, ◌+◌, ◌<◌, ◌==◌, ◌&&◌, ◌||◌, not, nat_le, Bool, true, false, List, [], ◌++◌, length, map, Option, Some, None, if◌then◌else◌, refl, sym, ap, ◌∙◌, subst, arith}
use Rattle.std.specs.List.{list_any}
use Rattle.std.proofs.lemmas.Bool.{eqb-true, ltb-true, leb-true, not-true}
use Rattle.std.proofs.lemmas.Option.{same_Some}
use Rattle.event_flow.specs.Meaning.{Makes}
use Rattle.history_book.specs.Contents.{Bytes}
use Rattle.history_book.specs.Deeds.{Deed}
use Rattle.history_book.specs.Entries.{Entry}
use Rattle.history_book.specs.Links.{Listening}
use Rattle.history_book.specs.Lists.{IsIn}
use Rattle.history_book.specs.Sound.{Places}
use Rattle.history_book.specs.States.{is_among}
use Rattle.line_machine.specs.Ends.{Waiting, TakerView, taker_at, IsServed, MayAssure, MayRefuse}
use Rattle.line_machine.specs.Finds.{IsAway, IsHome, IsAtEnd, ends_served}
use Rattle.line_machine.specs.Lines.{LineStands}
use Rattle.line_machine.specs.Resting.{IsAtRest, IsAtStop}
use Rattle.line_machine.specs.Unchanged.{HasNoneSpent}
use Rattle.line_machine.specs.Views.{Batch, Incoming, RowAt, InputView, LineView, batch_of, input_at}
use Rattle.history_book.proofs.Opening.{in_among}
use Rattle.line_machine.proofs.Inputs.{found_view, view_found}
use Rattle.line_machine.proofs.Takers.{taker_in}
use Rattle.line_machine.specs.Choices.{GoesOnDraining, HasNothingToDo, ShowsParcel, NoneShows, RestHasNone}
use Rattle.line_machine.specs.Summaries.{Given, Refused, has_some, least, is_empty, is_away, is_due, is_finished, is_up_to, is_due_answer, is_served, is_part, has_event, goes_on, is_spent, holds, holds_by, polls, polls_by, wants, wants_by, batches_of, inputs_of, places_of, drains_on, has_few_out, unread_now, is_whole, summary_of}
use Rattle.line_machine.specs.Turns as t
use Rattle.line_machine.proofs.Choosing.{any_in, away_of, finished_of, end_of}
use Rattle.line_machine.proofs.Ending.{apart}
use Rattle.line_machine.proofs.Finding.{either_true, served_of, may_answer}
use Rattle.line_machine.proofs.Least.{none_some, not_both, both_of, first_not, second_not, none_least, none_next}
use Rattle.line_machine.proofs.Resting.{nothing_shown, not_so, in_none, any_none}

both_false : (a b : Bool) → a ≡ false → b ≡ false → (a || b) ≡ false
both_false a b e f = ap (λ x. x || b) e ∙ f

not_reached : (due counted : ℕ) → 0 < due → counted ≡ 0 → nat_le due counted ≡ false
not_reached due counted some none = not_so (nat_le due counted) (λ is. let reached = leb-true due counted is in omega (arith, some, none, reached))

none_unread : (drains again : Bool) (n : ℕ) → (drains ≡ true → n ≡ 0) → (if drains && again then n else 0) ≡ 0
none_unread true true n none = none refl
none_unread true false n none = refl
none_unread false again n none = refl

-- an end where no parcel waits, and none is lost, is due no answer
none_due : (mark : Option ℕ) (t : TakerView) → (t.waits ≡ []) × (t.lost ≡ []) → (MayAssure mark t ⊎ MayRefuse t) → ⊥
none_due mark t none (inl may) = in_none may.oldest t.waits none.0 (subst (IsIn may.oldest) (sym may.waits) (inl refl))
none_due mark t none (inr may) = in_none may.parcel t.lost none.1 (subst (IsIn may.parcel) (sym may.lost) (inl refl))

-- ---- what such a line lacks

module _ (listening : Listening) {places : Places} where
  record HasNone (i : LineView places) : Type 0 where
    jobs : (n : ℕ) → IsAway i n → ⊥
    finished : (n : ℕ) → IsHome i n [] → ⊥
    batches : drains_on i ≡ true → i.batches ≡ []
    unread : drains_on i ≡ true → i.kept ++ i.unread ≡ []
    answers : (place : ℕ) (t : TakerView) → taker_at place i.takers ≡ Some t → IsServed (ends_served i) place → (MayAssure i.mark t ⊎ MayRefuse t) → ⊥
    uncovered : i.uncovered ≡ false
    rows : (v : InputView) → IsIn v i.inputs → v.rows ≡ []
    spent : HasNoneSpent i
    parts : (t : TakerView) → IsIn t i.takers → IsServed (ends_served i) t.place → (w : Waiting) → IsIn w t.waits → length w.rows < length w.events → ⊥
    inputs : (v : InputView) → IsIn v i.inputs → v.is_open ≡ true → IsAtEnd listening i v

  at_rest : (i : LineView places) → IsAtRest listening i → HasNone i
  at_rest i rest = record {
    jobs = λ n a. none_some a.batch (subst (λ bs. batch_of n bs ≡ Some a.batch) rest.ended.batches a.has);
    finished = λ n h. none_some h.batch (subst (λ bs. batch_of n bs ≡ Some h.batch) rest.ended.batches h.has);
    batches = λ on. rest.ended.batches;
    unread = λ on. rest.ended.unread;
    answers = λ place t found served may. none_due i.mark t (rest.ended.answered t (taker_in place t i.takers found).0 (all_served t.place)) may;
    uncovered = rest.covered;
    rows = rest.assured;
    spent = rest.none_spent;
    parts = λ t has served w waits part. in_none w t.waits (rest.ended.answered t has served).0 waits;
    inputs = rest.ended.inputs;
  }
    where
      all_served : (place : ℕ) → IsServed (ends_served i) place
      all_served place = subst (λ (b : Bool). IsServed (if b then Some i.going else None) place) (sym rest.running) tt

  at_stop : (i : LineView places) → GoesOnDraining i → IsAtStop listening i → HasNone i
  at_stop i goes stop = record {
    jobs = stop.no_jobs;
    finished = stop.none_finished;
    batches = λ on. (stop.drained (drains_of on)).batches;
    unread = λ on. (stop.drained (drains_of on)).unread;
    answers = λ place t found served may.
        let there = taker_in place t i.takers found in none_due i.mark t (stop.answered t there.0 (subst (λ (x : ℕ). IsServed (ends_served i) x) (sym there.1) served)) may;
    uncovered = stop.covered;
    rows = stop.assured;
    spent = stop.none_spent;
    parts = parts i.drains refl;
    inputs = inputs i.drains refl;
  }
    where
      drains_of : drains_on i ≡ true → i.drains ≡ true
      drains_of on = sym (ap (λ (b : Bool). not b || i.drains) stop.told_to) ∙ on

      none_served : i.drains ≡ false → (place : ℕ) → IsServed (ends_served i) place → ⊥
      none_served e place served = subst (λ (only : Option (List ℕ)). IsServed only place) (ap (λ (b : Bool). if b then Some i.going else None) stop.told_to ∙ ap Some (goes e)) served

      parts : (b : Bool) → i.drains ≡ b → (t : TakerView) → IsIn t i.takers → IsServed (ends_served i) t.place → (w : Waiting) → IsIn w t.waits → length w.rows < length w.events → ⊥
      parts true e t has served w waits part = in_none w t.waits ((stop.drained e).answered t has served).0 waits
      parts false e t has served w waits part = none_served e t.place served

      inputs : (b : Bool) → i.drains ≡ b → (v : InputView) → IsIn v i.inputs → v.is_open ≡ true → IsAtEnd listening i v
      inputs true e v has opens = (stop.drained e).inputs v has opens
      inputs false e v has opens = by_address (listening.address v.statement) refl
        where
          by_address : (o : Option (List ℕ)) → listening.address v.statement ≡ o → IsAtEnd listening i v
          by_address None f = inr (f, inl stop.told_to)
          by_address (Some address) f = inl (address, f, λ part. none_served e part.taker.place part.served, λ t is_in input served. absurd (none_served e t.place served))

  has_none : (i : LineView places) → GoesOnDraining i → HasNothingToDo listening i → HasNone i
  has_none i goes (inl rest) = at_rest i rest
  has_none i goes (inr stop) = at_stop i goes stop

  -- ---- what its summary shows

  module _ (i : LineView places) (none : HasNone i) where
    holds_none : (n : ℕ) (o : Option InputView) → input_at n i.inputs ≡ o → holds listening i o ≡ false
    holds_none n None e = refl
    holds_none n (Some v) e = by_address (listening.address v.statement) refl v.is_open refl
      where
        here : IsIn v i.inputs
        here = (found_view n v i.inputs e).0

        no_event : (t : TakerView) → IsIn t i.takers → has_event (ends_served i) v.number t ≡ true → ⊥
        no_event t has is =
            let behind = both_of (is_served (ends_served i) t.place) (list_any is_part t.waits) (both_of (t.input == v.number) _ is).1 in
            let part = any_in is_part t.waits behind.1 in
            none.parts t has (served_of (ends_served i) t.place behind.0) part.0 part.1 (ltb-true (length part.0.rows) (length part.0.events) part.2)

        at_end : IsAtEnd listening i v → listening.address v.statement ≡ None → (v.is_open && (not i.stopped && not (is_empty v.held))) ≡ false
        at_end (inl ends) f = absurd (none_some ends.0 (sym f ∙ ends.1))
        at_end (inr (f, inl stopped)) g = second_not v.is_open _ (first_not (not i.stopped) _ (ap not stopped))
        at_end (inr (f, inr ended)) g = second_not v.is_open _ (second_not (not i.stopped) _ (ap (λ (l : List Incoming). not (is_empty l)) ended.1))

        by_address : (o : Option (List ℕ)) → listening.address v.statement ≡ o → (b : Bool) → v.is_open ≡ b → holds_by listening i v o ≡ false
        by_address (Some address) f b opens = any_none (has_event (ends_served i) v.number) i.takers (λ t has. not_so (has_event (ends_served i) v.number t) (no_event t has))
        by_address None f false opens = first_not v.is_open _ opens
        by_address None f true opens = at_end (none.inputs v here opens) f

    polls_none : (showing : List ℕ) → ((v : InputView) → IsIn v i.inputs → v.is_open ≡ true → ShowsParcel showing i v → ⊥) → (n : ℕ) (o : Option InputView) → input_at n i.inputs ≡ o → polls listening showing i o ≡ false
    polls_none showing shows n None e = refl
    polls_none showing shows n (Some v) e = by_open (listening.address v.statement) refl v.is_open refl
      where
        lines : IsAtEnd listening i v → listening.address v.statement ≡ None → polls_by listening showing i v None ≡ false
        lines (inl ends) f = absurd (none_some ends.0 (sym f ∙ ends.1))
        lines (inr (f, inl stopped)) g = second_not v.is_open _ (first_not (not i.stopped) _ (ap not stopped))
        lines (inr (f, inr ended)) g = second_not v.is_open _ (second_not (not i.stopped) _ (second_not (is_empty v.held) (not v.ended) (ap not ended.0)))

        here : IsIn v i.inputs
        here = (found_view n v i.inputs e).0

        parcels : (address : List ℕ) → IsAtEnd listening i v → listening.address v.statement ≡ Some address → v.is_open ≡ true → polls_by listening showing i v (Some address) ≡ false
        parcels address (inr ends) f opens = absurd (none_some address (sym ends.0 ∙ f))
        parcels address (inl ends) f opens =
            second_not v.is_open _ (second_not (not (list_any (has_event (ends_served i) v.number) i.takers)) _
            (any_none (goes_on (ends_served i) showing v.number) i.takers (λ t has. not_so (goes_on (ends_served i) showing v.number t) (λ is.
            let behind = both_of (t.input == v.number) _ is in
            let last = both_of (is_served (ends_served i) t.place) _ behind.1 in
            let input = eqb-true t.input v.number behind.0 in
            let served = served_of (ends_served i) t.place last.0 in
            ⊎_elim (λ (goes : not t.ended ≡ true). not_both t.ended (ends.3 t has input served) (not-true t.ended goes))
            (λ (shown : is_among t.place showing ≡ true). shows v here opens (record { taker = t; has = has; input_is = input; served = served; shows = in_among t.place showing shown }))
            (either_true (not t.ended) (is_among t.place showing) last.1)))))

        by_open : (o : Option (List ℕ)) → listening.address v.statement ≡ o → (b : Bool) → v.is_open ≡ b → polls_by listening showing i v o ≡ false
        by_open (Some address) f false opens = first_not v.is_open _ opens
        by_open None f false opens = first_not v.is_open _ opens
        by_open (Some address) f true opens = parcels address (none.inputs v here opens) f opens
        by_open None f true opens = lines (none.inputs v here opens) f

    wants_none : (n : ℕ) (o : Option InputView) → input_at n i.inputs ≡ o → wants listening i o ≡ false
    wants_none n None e = refl
    wants_none n (Some v) e = by_address (listening.address v.statement)
      where
        by_address : (o : Option (List ℕ)) → wants_by listening i v o ≡ false
        by_address (Some address) = refl
        by_address None = second_not v.is_open _ (ap (list_any (λ (r : RowAt). is_up_to i.mark r.number)) (none.rows v (found_view n v i.inputs e).0))

module _ (makes : Makes) (listening : Listening) (bytes : Bytes) (places : Places) (earlier : List Entry) (deeds : List Deed) (came : ℕ → List Incoming) (i : LineView places)
    (line : LineStands makes listening bytes places earlier deeds came i) (none : HasNone listening i) where
  -- none shows at an end of an open input
  shows_none : (showing : List ℕ) → NoneShows showing i → (v : InputView) → IsIn v i.inputs → v.is_open ≡ true → ShowsParcel showing i v → ⊥
  shows_none showing none_shows v has opens s =
      let e = line.ends s.taker s.has in
      let views = apart makes listening bytes places earlier deeds came i line in
      let one = same_Some v e.input (sym (view_found v i.inputs views has) ∙ ap (λ n. input_at n i.inputs) (sym (e.number_is ∙ s.input_is)) ∙ view_found e.input i.inputs views e.has) in
      none_shows s.taker s.has (e.listens ∙ ap (λ (x : InputView). x.is_open) (sym one) ∙ opens) s.served s.shows

  none_unread_now : (r : Refused) → unread_now r i ≡ 0
  none_unread_now r = none_unread (drains_on i) (not r.read && has_few_out i) (length (i.kept ++ i.unread)) (λ on. ap length (none.unread on))

  nothing_due : (g : Given) (r : Refused) (showing : List ℕ) → 0 < i.due_writes → 0 < i.due_acknowledged → NoneShows showing i → t.IsAtRest (summary_of listening g r showing i)
  nothing_due g r showing writes acknowledged none_shows = record {
    take = first_not (has_some (least (λ n. is_away (batch_of n i.batches)) (batches_of i))) _
        (ap has_some (none_least (λ n. is_away (batch_of n i.batches)) (batches_of i) (λ n has. not_so (is_away (batch_of n i.batches)) (λ is. none.jobs n (away_of i n is)))));
    deliver = none_least (λ n. drains_on i && (is_due (batch_of n i.batches) && not (is_among n r.deliveries))) (batches_of i) (λ n has. none_delivered n has (drains_on i) refl);
    finished = none_least (λ n. is_finished (batch_of n i.batches)) (batches_of i) (λ n has. not_so (is_finished (batch_of n i.batches)) (λ is. none.finished n (finished_of i n is)));
    answer = none_next (λ n. is_served (ends_served i) n && (is_due_answer i.mark (taker_at n i.takers) && not (is_among n r.answers))) (places_of i) g.answer
        (λ n has. not_so (is_served (ends_served i) n && (is_due_answer i.mark (taker_at n i.takers) && not (is_among n r.answers))) (none_answered n));
    due = both_false (nat_le i.due_writes i.written) _ (not_reached i.due_writes i.written writes (line.marks.counted none.uncovered).0)
        (not_reached i.due_acknowledged i.acknowledged acknowledged (line.marks.counted none.uncovered).1);
    assure = none_next (λ n. wants listening i (input_at n i.inputs)) (inputs_of i) g.assure (λ n has. wants_none listening i none n (input_at n i.inputs) refl);
    purge = any_none is_spent i.holds.queue.tails (λ p has. not_so (is_spent p) (λ is. none.spent p has (leb-true (p.least + length p.rows) p.from is)));
    held = none_next (λ n. holds listening i (input_at n i.inputs) && not (is_among n r.accepts)) (inputs_of i) g.held
        (λ n has. first_not (holds listening i (input_at n i.inputs)) _ (holds_none listening i none n (input_at n i.inputs) refl));
    whole_batch = ap (is_whole i.size) (none_unread_now r);
    unread = none_unread_now r;
    uncovered = none.uncovered;
    poll = none_next (λ n. polls listening showing i (input_at n i.inputs) && not (is_among n r.accepts)) (inputs_of i) g.poll
        (λ n has. first_not (polls listening showing i (input_at n i.inputs)) _ (polls_none listening i none showing (shows_none showing none_shows) n (input_at n i.inputs) refl));
  }
    where
      none_delivered : (n : ℕ) → IsIn n (batches_of i) → (b : Bool) → drains_on i ≡ b → (drains_on i && (is_due (batch_of n i.batches) && not (is_among n r.deliveries))) ≡ false
      none_delivered n has true e = absurd (subst (λ bs. IsIn n (map (λ (b : Batch). b.number) bs)) (none.batches e) has)
      none_delivered n has false e = first_not (drains_on i) _ e

      none_answered : (n : ℕ) → (is_served (ends_served i) n && (is_due_answer i.mark (taker_at n i.takers) && not (is_among n r.answers))) ≡ true → ⊥
      none_answered n is =
          let both = both_of (is_served (ends_served i) n) _ is in
          let due = (both_of (is_due_answer i.mark (taker_at n i.takers)) _ both.1).0 in
          let end = end_of i n due in
          none.answers n end.0 end.1 (served_of (ends_served i) n both.0)
          (may_answer makes listening bytes places earlier deeds came i line end.0 (sym (ap (is_due_answer i.mark) end.1) ∙ due) (taker_in n end.0 i.takers end.1).0)

pub rest_has_none : (makes : Makes) (listening : Listening) (bytes : Bytes) (places : Places) → RestHasNone makes listening bytes places
rest_has_none makes listening bytes places earlier deeds came g r showing i line goes writes acknowledged none_shows nothing =
    nothing_shown (summary_of listening g r showing i) (nothing_due makes listening bytes places earlier deeds came i line (has_none listening i goes nothing) g r showing writes acknowledged none_shows)
