-- Where nothing is chosen and nothing was refused, a line has nothing to do.
use Rattle.std.proofs.Common.{◌≡◌, ◌⊎◌, inl, inr, ⊎_elim, ℕ, ◌+◌, ◌≤◌, ◌<◌, ◌==◌, ◌&&◌, ◌||◌, not, Bool, true, false, List, [], ◌∷◌, ◌++◌, length, Option, Some, None, if◌then◌else◌, refl, sym, ap, ap₂, ◌∙◌, subst, arith}
use Rattle.std.specs.Prelude.{nat_lt}
use Rattle.std.specs.List.{list_any}
use Rattle.std.proofs.lemmas.Bool.{cases_Bool, eq-eqb, lt-ltb, ltb-true, ltb-false, le-leb}
use Rattle.std.proofs.lemmas.List.{length-map}
use Rattle.event_tree.specs.Events.{Ev}
use Rattle.event_flow.specs.Meaning.{Makes, Due}
use Rattle.foreign_parts.specs.declared.filter.Verdict.{Verdict}
use Rattle.pipeline_bus.specs.Parcels.{is_last}
use Rattle.pipeline_bus.specs.declared.parcel.Parcel.{Parcel}
use Rattle.history_book.specs.Contents.{Bytes}
use Rattle.history_book.specs.Deeds.{Deed, told_of}
use Rattle.history_book.specs.Entries.{Entry}
use Rattle.history_book.specs.Links.{Listening, AreMadeOf}
use Rattle.history_book.specs.Lists.{IsIn}
use Rattle.history_book.specs.Sound.{Places}
use Rattle.history_book.specs.States.{Written, start, after, is_among}
use Rattle.history_book.proofs.Opening.{among_in}
use Rattle.line_machine.specs.Answering.{rows_at}
use Rattle.line_machine.specs.Ends.{Waiting, TakerView, taker_at, IsServed}
use Rattle.line_machine.specs.Finds.{IsAway, IsHome, IsAtEnd, HasEnded, ends_served}
use Rattle.line_machine.specs.Lines.{LineStands}
use Rattle.line_machine.specs.Unchanged.{HasNoneSpent}
use Rattle.line_machine.specs.Views as views
use Rattle.line_machine.specs.Views.{Kit, Batch, Incoming, RowAt, InputView, LineView, batch_of, input_at}
use Rattle.line_machine.proofs.BatchLists.{found_in, batch_found}
use Rattle.line_machine.proofs.Inputs.{AreViewsApart, inputs_apart, views_apart, view_found}
use Rattle.line_machine.proofs.Settling.{rest_is_done, stop_is_stopped}
use Rattle.line_machine.proofs.Takers.{taker_in, taker_found}
use Rattle.line_machine.specs.Choices.{NoneLost, HasNothingToDo, NoneShows, NoneIsRest, NoneIsDone}
use Rattle.line_machine.specs.Summaries.{Given, none_refused, least, has_some, is_empty, is_away, is_home, is_due, is_finished, is_up_to, is_settled, oldest_settled, is_due_answer, is_served, is_part, has_event, goes_on, is_spent, holds, holds_by, polls, polls_by, wants, wants_by, batches_of, inputs_of, places_of, drains_on, summary_of}
use Rattle.line_machine.specs.Turns as t
use Rattle.line_machine.proofs.Least.{none_some, true_false, not_both, both_are, least_none, next_none}
use Rattle.line_machine.proofs.Resting.{shows_nothing, false_with, false_behind, false_both, or_second_is, not_is, not_false, no_option, empty_of, no_length, none_in, any_is, none_is, all_are, number_in}

pub served_is : (only : Option (List ℕ)) (place : ℕ) → IsServed only place → is_served only place ≡ true
served_is None place served = refl
served_is (Some served) place has = among_in place served has

made_short : (listening : Listening) (address : List ℕ) (ws : List Written) (es : List Ev) → AreMadeOf listening address ws es → length ws ≤ length es
made_short listening address [] es made = omega (arith)
made_short listening address (w ∷ ws) [] made = absurd made
made_short listening address (w ∷ ws) (e ∷ es) made = let rest = made_short listening address ws es made.1 in omega (arith, rest)

module _ (makes : Makes) (listening : Listening) (bytes : Bytes) (places : Places) (earlier : List Entry) (deeds : List Deed) (came : ℕ → List Incoming) (i : LineView places)
    (line : LineStands makes listening bytes places earlier deeds came i) where
  pub apart : AreViewsApart i.inputs
  apart = views_apart i.inputs (inputs_apart (after makes start (told_of deeds)).plans (views.inputs_of i.inputs) line.stands.knows.inputs).0

  number_of : (n : ℕ) (b : Batch) → batch_of n i.batches ≡ Some b → IsIn n (batches_of i)
  number_of n b has = let found = found_in n b i.batches has in subst (λ k. IsIn k (batches_of i)) found.1 (number_in (λ (x : Batch). x.number) b i.batches found.0)

  rows_at_most : (t : TakerView) → IsIn t i.takers → (w : Waiting) → IsIn w t.waits → length w.rows ≤ length w.events
  rows_at_most t has w waits =
      let stands = line.links.each t has in let is = stands.waits w waits in
      let made = made_short listening t.address (rows_at makes listening (told_of deeds) t is.parcel.number) is.parcel.events (stands.sound.made is.parcel is.taken is.some) in
      let long = sym (ap length is.rows) ∙ length-map (rows_at makes listening (told_of deeds) t w.number) (λ (x : Written). x.number) in
      let number = ap (λ n. length (rows_at makes listening (told_of deeds) t n)) is.number in
      let events = ap length is.events in
      omega (arith, made, long, number, events)

  module _ (g : Given) (showing : List ℕ) (no_loss : NoneLost i) (rest : t.IsAtRest (summary_of listening g none_refused showing i)) where
    covered : i.uncovered ≡ false
    covered = rest.uncovered

    -- ---- batches

    no_jobs : (n : ℕ) → IsAway i n → ⊥
    no_jobs n a =
        let is = ap is_away a.has ∙ both_are (has_some a.batch.kit) (not (has_some a.batch.verdicts)) (ap has_some a.kit_is) (ap (λ (v : Option (List Verdict)). not (has_some v)) a.away) in
        let none = no_option (least (λ k. is_away (batch_of k i.batches)) (batches_of i)) (false_with _ true rest.take refl) in
        not_both (is_away (batch_of n i.batches)) is (least_none (λ k. is_away (batch_of k i.batches)) (batches_of i) none n (number_of n a.batch a.has))

    home_is : (b : Batch) (verdicts : List Verdict) → b.verdicts ≡ Some verdicts → b.kit ≡ None → is_home b ≡ true
    home_is b verdicts back none = both_are (has_some b.verdicts) (not (has_some b.kit)) (ap has_some back) (ap (λ (k : Option Kit). not (has_some k)) none)

    none_finished : (n : ℕ) → IsHome i n [] → ⊥
    none_finished n h =
        not_both (is_finished (batch_of n i.batches)) (ap is_finished h.has ∙ both_are (is_home h.batch) (is_empty h.batch.left) (home_is h.batch h.verdicts h.back h.no_kit) (ap is_empty h.left_is))
        (least_none (λ k. is_finished (batch_of k i.batches)) (batches_of i) rest.finished n (number_of n h.batch h.has))

    none_due : drains_on i ≡ true → (n : ℕ) (d : Due) (left : List Due) → IsHome i n (d ∷ left) → ⊥
    none_due on n d left h =
        not_both (drains_on i && (is_due (batch_of n i.batches) && not (is_among n none_refused.deliveries)))
        (both_are (drains_on i) _ on (both_are (is_due (batch_of n i.batches)) _
        (ap is_due h.has ∙ both_are (is_home h.batch) (not (is_empty h.batch.left)) (home_is h.batch h.verdicts h.back h.no_kit) (ap (λ (l : List Due). not (is_empty l)) h.left_is)) refl))
        (least_none (λ k. drains_on i && (is_due (batch_of k i.batches) && not (is_among k none_refused.deliveries))) (batches_of i) rest.deliver n (number_of n h.batch h.has))

    no_batch : drains_on i ≡ true → (b : Batch) → IsIn b i.batches → ⊥
    no_batch on b has = by_parts b.verdicts refl b.kit refl
      where
        found : batch_of b.number i.batches ≡ Some b
        found = batch_found b i.batches line.senders.differ has

        by_left : (verdicts : List Verdict) → b.verdicts ≡ Some verdicts → b.kit ≡ None → (left : List Due) → b.left ≡ left → ⊥
        by_left verdicts back none [] e = none_finished b.number (record { batch = b; has = found; verdicts = verdicts; back = back; no_kit = none; left_is = e })
        by_left verdicts back none (d ∷ left) e = none_due on b.number d left (record { batch = b; has = found; verdicts = verdicts; back = back; no_kit = none; left_is = e })

        by_parts : (v : Option (List Verdict)) → b.verdicts ≡ v → (k : Option Kit) → b.kit ≡ k → ⊥
        by_parts None e (Some kit) f = no_jobs b.number (record { batch = b; has = found; away = e; kit = kit; kit_is = f })
        by_parts None e None f = no_loss b has e f
        by_parts (Some v) e (Some kit) f = none_some v (sym (line.kits.out b has kit f).1 ∙ e)
        by_parts (Some v) e None f = by_left v e f b.left refl

    no_unread : drains_on i ≡ true → i.kept ++ i.unread ≡ []
    no_unread on =
        let few = ap (λ (b : Bool). b || nat_lt (length i.batches) (i.workers + i.workers)) (ap is_empty (none_in i.batches (no_batch on))) in
        no_length (i.kept ++ i.unread) (sym (ap₂ (λ (b c : Bool). if b && (true && c) then length (i.kept ++ i.unread) else 0) on few) ∙ rest.unread)

    -- ---- inputs

    held_none : (v : InputView) → IsIn v i.inputs → holds listening i (Some v) ≡ false
    held_none v has =
        false_with (holds listening i (Some v)) true
        (ap (λ (o : Option InputView). holds listening i o && not (is_among v.number none_refused.accepts)) (sym (view_found v i.inputs apart has))
        ∙ next_none (λ k. holds listening i (input_at k i.inputs) && not (is_among k none_refused.accepts)) (inputs_of i) g.held rest.held v.number (number_in (λ (x : InputView). x.number) v i.inputs has)) refl

    polls_none : (v : InputView) → IsIn v i.inputs → polls listening showing i (Some v) ≡ false
    polls_none v has =
        false_with (polls listening showing i (Some v)) true
        (ap (λ (o : Option InputView). polls listening showing i o && not (is_among v.number none_refused.accepts)) (sym (view_found v i.inputs apart has))
        ∙ next_none (λ k. polls listening showing i (input_at k i.inputs) && not (is_among k none_refused.accepts)) (inputs_of i) g.poll rest.poll v.number (number_in (λ (x : InputView). x.number) v i.inputs has)) refl

    wants_none : (v : InputView) → IsIn v i.inputs → wants listening i (Some v) ≡ false
    wants_none v has =
        ap (wants listening i) (sym (view_found v i.inputs apart has))
        ∙ next_none (λ k. wants listening i (input_at k i.inputs)) (inputs_of i) g.assure rest.assure v.number (number_in (λ (x : InputView). x.number) v i.inputs has)

    -- ---- ends of links

    no_part : (t : TakerView) → IsIn t i.takers → IsServed (ends_served i) t.place → (w : Waiting) → IsIn w t.waits → length w.rows < length w.events → ⊥
    no_part t has served w waits part =
        let e = line.ends t has in
        let shows = any_is (has_event (ends_served i) e.input.number) i.takers t has (both_are (t.input == e.input.number) _ (eq-eqb t.input e.input.number (sym e.number_is))
        (both_are (is_served (ends_served i) t.place) _ (served_is (ends_served i) t.place served) (any_is is_part t.waits w waits (lt-ltb (length w.rows) (length w.events) part)))) in
        not_both (holds listening i (Some e.input)) (ap (holds_by listening i e.input) e.address_is ∙ shows) (held_none e.input e.has)

    whole : (t : TakerView) → IsIn t i.takers → IsServed (ends_served i) t.place → (w : Waiting) → IsIn w t.waits → length w.rows ≡ length w.events
    whole t has served w waits =
        ⊎_elim (λ (less : nat_lt (length w.rows) (length w.events) ≡ true). absurd (no_part t has served w waits (ltb-true (length w.rows) (length w.events) less)))
        (λ (enough : nat_lt (length w.rows) (length w.events) ≡ false). let least = ltb-false (length w.rows) (length w.events) enough in let most = rows_at_most t has w waits in omega (arith, least, most))
        (cases_Bool (nat_lt (length w.rows) (length w.events)))

    up_to_mark : (t : TakerView) → IsIn t i.takers → (w : Waiting) → IsIn w t.waits → (n : ℕ) → IsIn n w.rows → is_up_to i.mark n ≡ true
    up_to_mark t has w waits n row = let front = (line.marks.takers t has w waits n row).1 covered in ap (λ (m : Option ℕ). is_up_to m n) front.1 ∙ le-leb n front.0 front.2

    has_mark : (t : TakerView) → IsIn t i.takers → IsServed (ends_served i) t.place → (w : Waiting) → IsIn w t.waits → has_some i.mark ≡ true
    has_mark t has served w waits = by_rows w.rows refl
      where
        by_rows : (rows : List ℕ) → w.rows ≡ rows → has_some i.mark ≡ true
        by_rows [] e =
            let is = (line.links.each t has).waits w waits in
            let none = ap length e in let all = whole t has served w waits in let events = ap length is.events in
            absurd (not_both (is_last is.parcel) (eq-eqb (length is.parcel.events) 0 (omega (arith, none, all, events))) is.some)
        by_rows (n ∷ rows) e = let front = (line.marks.takers t has w waits n (subst (IsIn n) (sym e) (inl refl))).1 covered in ap has_some front.1

    none_answered : (place : ℕ) (t : TakerView) → taker_at place i.takers ≡ Some t → IsServed (ends_served i) place → is_due_answer i.mark (Some t) ≡ false
    none_answered place t found served =
        let there = taker_in place t i.takers found in
        let none = false_behind (is_served (ends_served i) place) _
        (next_none (λ k. is_served (ends_served i) k && (is_due_answer i.mark (taker_at k i.takers) && not (is_among k none_refused.answers))) (places_of i) g.answer rest.answer place
        (subst (λ k. IsIn k (places_of i)) there.1 (number_in (λ (x : TakerView). x.place) t i.takers there.0))) (served_is (ends_served i) place served) in
        false_with (is_due_answer i.mark (Some t)) true (ap (λ (o : Option TakerView). is_due_answer i.mark o && not (is_among place none_refused.answers)) (sym found) ∙ none) refl

    answered : (t : TakerView) → IsIn t i.takers → IsServed (ends_served i) t.place → (t.waits ≡ []) × (t.lost ≡ [])
    answered t has served = (none_waits, by_listens t.listens refl)
      where
        none : (oldest_settled i.mark t.waits ≡ false) × ((not t.listens && (is_empty t.waits && not (is_empty t.lost))) ≡ false)
        none = false_both (oldest_settled i.mark t.waits) _ (none_answered t.place t (taker_found t i.takers line.links.apart has) served)

        by_waits : (ws : List Waiting) → t.waits ≡ ws → t.waits ≡ []
        by_waits [] e = e
        by_waits (w ∷ ws) e =
            let there = subst (IsIn w) (sym e) (inl refl) in
            absurd (not_both (oldest_settled i.mark t.waits) (ap (oldest_settled i.mark) e ∙ both_are (has_some i.mark) (is_settled i.mark w) (has_mark t has served w there)
            (both_are (length w.rows == length w.events) _ (eq-eqb (length w.rows) (length w.events) (whole t has served w there)) (all_are (is_up_to i.mark) w.rows (up_to_mark t has w there)))) none.0)

        none_waits : t.waits ≡ []
        none_waits = by_waits t.waits refl

        by_lost : t.listens ≡ false → (lost : List Parcel) → t.lost ≡ lost → t.lost ≡ []
        by_lost closed [] e = e
        by_lost closed (p ∷ lost) e =
            absurd (not_both (not t.listens && (is_empty t.waits && not (is_empty t.lost)))
            (both_are (not t.listens) _ (not_is t.listens closed) (both_are (is_empty t.waits) _ (ap is_empty none_waits) (ap (λ (l : List Parcel). not (is_empty l)) e))) none.1)

        by_listens : (b : Bool) → t.listens ≡ b → t.lost ≡ []
        by_listens true e = (line.ends t has).none_lost e
        by_listens false e = by_lost e t.lost refl

    -- ---- what is left

    at_end : (v : InputView) → IsIn v i.inputs → v.is_open ≡ true → IsAtEnd listening i v
    at_end v has opens = by_address (listening.address v.statement) refl
      where
        held : (o : Option (List ℕ)) → listening.address v.statement ≡ o → holds_by listening i v o ≡ false
        held o e = ap (holds_by listening i v) (sym e) ∙ held_none v has

        polled : (o : Option (List ℕ)) → listening.address v.statement ≡ o → polls_by listening showing i v o ≡ false
        polled o e = ap (polls_by listening showing i v) (sym e) ∙ polls_none v has

        by_stop : listening.address v.statement ≡ None → (b : Bool) → i.stopped ≡ b → (i.stopped ≡ true) ⊎ ((v.ended ≡ true) × (v.held ≡ []))
        by_stop lines true e = inl e
        by_stop lines false e =
            let none_held = not_false (is_empty v.held) (false_behind (not i.stopped) _ (false_behind v.is_open _ (held None lines) opens) (not_is i.stopped e)) in
            inr (not_false v.ended (false_behind (is_empty v.held) _ (false_behind (not i.stopped) _ (false_behind v.is_open _ (polled None lines) opens) (not_is i.stopped e)) none_held), empty_of v.held none_held)

        by_address : (o : Option (List ℕ)) → listening.address v.statement ≡ o → IsAtEnd listening i v
        by_address None e = inr (e, by_stop e i.stopped refl)
        by_address (Some address) e =
            let none = false_behind (not (list_any (has_event (ends_served i) v.number) i.takers)) _ (false_behind v.is_open _ (polled (Some address) e) opens)
            (not_is (list_any (has_event (ends_served i) v.number) i.takers) (held (Some address) e)) in
            inl (
              address,
              e,
              λ part. no_part part.taker part.has part.served part.waiting part.waits part.part,
              λ t is_in input served. not_false t.ended (false_both (not t.ended) (is_among t.place showing) (false_behind (is_served (ends_served i) t.place) _
                  (false_behind (t.input == v.number) _ (none_is (goes_on (ends_served i) showing v.number) i.takers none t is_in) (eq-eqb t.input v.number input)) (served_is (ends_served i) t.place served))).0,
            )

    none_shows : NoneShows showing i
    none_shows t has listens served shows =
        let e = line.ends t has in
        let polled = ap (polls_by listening showing i e.input) (sym e.address_is) ∙ polls_none e.input e.has in
        let held = ap (holds_by listening i e.input) (sym e.address_is) ∙ held_none e.input e.has in
        let none = false_behind (not (list_any (has_event (ends_served i) e.input.number) i.takers)) _ (false_behind e.input.is_open _ polled (sym e.listens ∙ listens))
        (not_is (list_any (has_event (ends_served i) e.input.number) i.takers) held) in
        let its = false_behind (is_served (ends_served i) t.place) _
        (false_behind (t.input == e.input.number) _ (none_is (goes_on (ends_served i) showing e.input.number) i.takers none t has) (eq-eqb t.input e.input.number (sym e.number_is)))
        (served_is (ends_served i) t.place served) in
        not_both (is_among t.place showing) (among_in t.place showing shows) (false_both (not t.ended) (is_among t.place showing) its).1

    ends : drains_on i ≡ true → HasEnded listening i
    ends on = record { inputs = at_end; batches = none_in i.batches (no_batch on); unread = no_unread on; answered = answered }

    no_rows : (v : InputView) → IsIn v i.inputs → v.rows ≡ []
    no_rows v has = by_open v.is_open refl (listening.address v.statement) refl
      where
        by_open : (b : Bool) → v.is_open ≡ b → (o : Option (List ℕ)) → listening.address v.statement ≡ o → v.rows ≡ []
        by_open false e o f = line.inputs.others v has (λ both. true_false (sym both.0 ∙ e))
        by_open true e (Some address) f = line.inputs.others v has (λ both. none_some address (sym both.1 ∙ f))
        by_open true e None f =
            none_in v.rows (λ r row.
            let front = (line.marks.inputs v has r row).1 covered in
            not_both (is_up_to i.mark r.number) (ap (λ (m : Option ℕ). is_up_to m r.number) front.1 ∙ le-leb r.number front.0 front.2)
            (none_is (λ (x : RowAt). is_up_to i.mark x.number) v.rows (false_behind v.is_open _ (ap (wants_by listening i v) (sym f) ∙ wants_none v has) e) r row))

    none_spent : HasNoneSpent i
    none_spent p has spent = not_both (is_spent p) (le-leb (p.least + length p.rows) p.from spent) (none_is is_spent i.holds.queue.tails rest.purge p has)

    nothing_to_do : HasNothingToDo listening i
    nothing_to_do = by_stop i.stopped refl
      where
        by_stop : (b : Bool) → i.stopped ≡ b → HasNothingToDo listening i
        by_stop false e = inl (record { running = e; ended = ends (ap (λ (b : Bool). not b || i.drains) e); covered = covered; assured = no_rows; none_spent = none_spent })
        by_stop true e = inr (record {
          told_to = e;
          no_jobs = no_jobs;
          none_finished = none_finished;
          covered = covered;
          assured = no_rows;
          answered = answered;
          none_spent = none_spent;
          drained = λ drains. ends (or_second_is (not i.stopped) i.drains drains);
        })

pub none_is_rest : (makes : Makes) (listening : Listening) (bytes : Bytes) (places : Places) → NoneIsRest makes listening bytes places
none_is_rest makes listening bytes places earlier deeds came g showing i line no_loss none =
    let rest = shows_nothing (summary_of listening g none_refused showing i) none in
    (nothing_to_do makes listening bytes places earlier deeds came i line g showing no_loss rest, none_shows makes listening bytes places earlier deeds came i line g showing no_loss rest)

pub none_is_done : (makes : Makes) (listening : Listening) (bytes : Bytes) (places : Places) → NoneIsDone makes listening bytes places
none_is_done makes listening bytes places earlier deeds came g showing i line no_loss none =
    ⊎_elim (λ rest. inl (rest.running, rest_is_done makes listening bytes places earlier deeds came i line rest))
    (λ stop. inr (stop.told_to, stop_is_stopped makes listening bytes places earlier deeds came i line stop)) (none_is_rest makes listening bytes places earlier deeds came g showing i line no_loss none).0
