-- What is chosen by a summary can be done, and wasn't refused.
use Rattle.std.proofs.Common.{◌≡◌, ◌⊎◌, inl, inr, ⊎_elim, ℕ, ◌<◌, ◌==◌, ◌&&◌, ◌||◌, not, Bool, true, false, List, [], ◌∷◌, Option, Some, None, if◌then◌else◌, refl, sym, ap, ◌∙◌, subst, arith}
use Rattle.std.specs.Prelude.{nat_lt, ⊤}
use Rattle.std.specs.List.{list_any}
use Rattle.std.specs.Option.{option_map}
use Rattle.std.proofs.lemmas.Bool.{ltb-true, eqb-true, not-true}
use Rattle.std.proofs.lemmas.Option.{same_Some}
use Rattle.event_flow.specs.Meaning.{Due}
use Rattle.history_book.specs.Links.{Listening}
use Rattle.history_book.specs.Lists.{IsIn}
use Rattle.history_book.specs.Sound.{Places}
use Rattle.history_book.specs.States.{is_among}
use Rattle.history_book.proofs.Opening.{among_in}
use Rattle.line_machine.specs.declared.calls.Act.{Act}
use Rattle.line_machine.specs.declared.calls.Act.TheVariants as act
use Rattle.line_machine.specs.Ends.{TakerView, taker_at}
use Rattle.line_machine.specs.Finds.{IsAway, IsHome, HasInput, ends_served}
use Rattle.line_machine.specs.Unchanged.{IsAsked, CanDo}
use Rattle.line_machine.specs.Views.{Batch, RowAt, InputView, LineView, batch_of, input_at}
use Rattle.line_machine.specs.declared.summary.Summary.{Summary}
use Rattle.line_machine.specs.Choices.{choice, IsRefused, ChoicesCanBeDone, ChoicesAreNew}
use Rattle.line_machine.specs.Summaries.{Given, Refused, least, has_some, is_empty, is_away, is_home, is_due, is_finished, is_due_answer, is_served, is_up_to, is_part, has_event, holds, holds_by, polls, polls_by, wants, wants_by, batches_of, inputs_of, places_of, drains_on, has_few_out, unread_now, summary_of}
use Rattle.line_machine.specs.Turns.{or_else, when, next_of, IsPossible}
use Rattle.line_machine.proofs.Least.{none_some, true_false, not_both, both_of, least_found, next_found}

-- ---- the first that a summary shows

pub either_of : (x y : Option Act) (a : Act) → or_else x y ≡ Some a → (x ≡ Some a) ⊎ (y ≡ Some a)
either_of None y a e = inr e
either_of (Some b) y a e = inl e

pub when_some : (b : Bool) (x a : Act) → when b x ≡ Some a → (b ≡ true) × (a ≡ x)
when_some true x a e = (refl, sym (same_Some x a e))
when_some false x a e = absurd (none_some a e)

pub mapped_some : (f : ℕ → Act) (o : Option ℕ) (a : Act) → option_map f o ≡ Some a → (n : ℕ) × (o ≡ Some n) × (a ≡ f n)
mapped_some f None a e = absurd (none_some a e)
mapped_some f (Some n) a e = (n, refl, sym (same_Some (f n) a e))

-- the summary shows that it is possible
pub possible_of : (s : Summary) (a : Act) → next_of s ≡ Some a → IsPossible s a
possible_of s a is =
    ⊎_elim (λ (e : when s.take act.Take ≡ Some a). let w = when_some s.take act.Take a e in subst (IsPossible s) (sym w.1) w.0) (λ e1. ⊎_elim
    (λ (e : option_map act.Deliver s.deliver ≡ Some a). let w = mapped_some act.Deliver s.deliver a e in subst (IsPossible s) (sym w.2) w.1) (λ e2. ⊎_elim
    (λ (e : option_map act.Acknowledge s.finished ≡ Some a). let w = mapped_some act.Acknowledge s.finished a e in subst (IsPossible s) (sym w.2) w.1) (λ e3. ⊎_elim
    (λ (e : option_map act.Answer s.answer ≡ Some a). let w = mapped_some act.Answer s.answer a e in subst (IsPossible s) (sym w.2) w.1) (λ e4. ⊎_elim
    (λ (e : when s.due act.Mark ≡ Some a). let w = when_some s.due act.Mark a e in subst (IsPossible s) (sym w.1) (inl w.0)) (λ e5. ⊎_elim
    (λ (e : option_map act.Assure s.assure ≡ Some a). let w = mapped_some act.Assure s.assure a e in subst (IsPossible s) (sym w.2) w.1) (λ e6. ⊎_elim
    (λ (e : when s.purge act.Purge ≡ Some a). let w = when_some s.purge act.Purge a e in subst (IsPossible s) (sym w.1) w.0) (λ e7. ⊎_elim
    (λ (e : when s.whole_batch act.Read ≡ Some a). let w = when_some s.whole_batch act.Read a e in subst (IsPossible s) (sym w.1) (inl w.0)) (λ e8. ⊎_elim
    (λ (e : option_map act.Accept s.held ≡ Some a). let w = mapped_some act.Accept s.held a e in subst (IsPossible s) (sym w.2) (inl w.1)) (λ e9. ⊎_elim
    (λ (e : when (nat_lt 0 s.unread) act.Read ≡ Some a). let w = when_some (nat_lt 0 s.unread) act.Read a e in subst (IsPossible s) (sym w.1) (inr (ltb-true 0 s.unread w.0))) (λ e10. ⊎_elim
    (λ (e : when s.uncovered act.Mark ≡ Some a). let w = when_some s.uncovered act.Mark a e in subst (IsPossible s) (sym w.1) (inr w.0))
    (λ (e : option_map act.Accept s.poll ≡ Some a). let w = mapped_some act.Accept s.poll a e in subst (IsPossible s) (sym w.2) (inr w.1))
    (either_of _ _ a e10)) (either_of _ _ a e9)) (either_of _ _ a e8)) (either_of _ _ a e7)) (either_of _ _ a e6)) (either_of _ _ a e5)) (either_of _ _ a e4)) (either_of _ _ a e3)) (either_of _ _ a e2)) (either_of _ _ a e1)) (either_of _ _ a is)

-- ---- members

pub some_of : {X : Type 0} (o : Option X) → has_some o ≡ true → (x : X) × (o ≡ Some x)
some_of None e = absurd (true_false (sym e))
some_of (Some x) e = (x, refl)

pub none_of : {X : Type 0} (o : Option X) → not (has_some o) ≡ true → o ≡ None
none_of None e = refl
none_of (Some x) e = absurd (true_false (sym e))

pub any_in : {X : Type 0} (p : X → Bool) (xs : List X) → list_any p xs ≡ true → (x : X) × IsIn x xs × (p x ≡ true)
any_in p [] e = absurd (true_false (sym e))
any_in {X = X} p (x ∷ xs) e = by_test (p x) refl (any_in p xs) e
  where
    by_test : (b : Bool) → p x ≡ b → (list_any p xs ≡ true → (y : X) × IsIn y xs × (p y ≡ true)) → (b || list_any p xs) ≡ true → (y : X) × IsIn y (x ∷ xs) × (p y ≡ true)
    by_test true test rest is = (x, inl refl, test)
    by_test false test rest is = let more = rest is in (more.0, inr more.1, more.2)

-- ---- where the line stands

module _ {places : Places} (i : LineView places) where
  pub away_of : (n : ℕ) → is_away (batch_of n i.batches) ≡ true → IsAway i n
  away_of n is = by_batch (batch_of n i.batches) refl is
    where
      by_batch : (o : Option Batch) → batch_of n i.batches ≡ o → is_away o ≡ true → IsAway i n
      by_batch None has e = absurd (true_false (sym e))
      by_batch (Some b) has e =
          let both = both_of (has_some b.kit) (not (has_some b.verdicts)) e in
          let kit = some_of b.kit both.0 in
          record { batch = b; has = has; away = none_of b.verdicts both.1; kit = kit.0; kit_is = kit.1 }

  pub home_of : (n : ℕ) (b : Batch) → batch_of n i.batches ≡ Some b → is_home b ≡ true → IsHome i n b.left
  home_of n b has is =
      let both = both_of (has_some b.verdicts) (not (has_some b.kit)) is in
      let back = some_of b.verdicts both.0 in
      record { batch = b; has = has; verdicts = back.0; back = back.1; no_kit = none_of b.kit both.1; left_is = refl }

  due_of : (n : ℕ) → is_due (batch_of n i.batches) ≡ true → (left : List Due) × IsHome i n left
  due_of n is = by_batch (batch_of n i.batches) refl is
    where
      by_batch : (o : Option Batch) → batch_of n i.batches ≡ o → is_due o ≡ true → (left : List Due) × IsHome i n left
      by_batch None has e = absurd (true_false (sym e))
      by_batch (Some b) has e = (b.left, home_of n b has (both_of (is_home b) (not (is_empty b.left)) e).0)

  pub finished_of : (n : ℕ) → is_finished (batch_of n i.batches) ≡ true → IsHome i n []
  finished_of n is = by_batch (batch_of n i.batches) refl is
    where
      none_left : (left : List Due) → is_empty left ≡ true → left ≡ []
      none_left [] e = refl
      none_left (d ∷ left) e = absurd (true_false (sym e))

      by_batch : (o : Option Batch) → batch_of n i.batches ≡ o → is_finished o ≡ true → IsHome i n []
      by_batch None has e = absurd (true_false (sym e))
      by_batch (Some b) has e =
          let both = both_of (is_home b) (is_empty b.left) e in subst (IsHome i n) (none_left b.left both.1) (home_of n b has both.0)

  pub end_of : (place : ℕ) → is_due_answer i.mark (taker_at place i.takers) ≡ true → (t : TakerView) × (taker_at place i.takers ≡ Some t)
  end_of place is = by_taker (taker_at place i.takers) refl is
    where
      by_taker : (o : Option TakerView) → taker_at place i.takers ≡ o → is_due_answer i.mark o ≡ true → (t : TakerView) × (taker_at place i.takers ≡ Some t)
      by_taker None has e = absurd (true_false (sym e))
      by_taker (Some t) has e = (t, has)

module _ (listening : Listening) {places : Places} (i : LineView places) where
  holds_of : (n : ℕ) → holds listening i (input_at n i.inputs) ≡ true → (h : HasInput i n) × IsAsked i h.input
  holds_of n is = by_input (input_at n i.inputs) refl is
    where
      asked : (v : InputView) (address : Option (List ℕ)) → holds_by listening i v address ≡ true → IsAsked i v
      asked v None e = inl (both_of v.is_open _ e).0
      asked v (Some address) e =
          let t = any_in (has_event (ends_served i) v.number) i.takers e in
          let parts = both_of (t.0.input == v.number) _ t.2 in
          let w = any_in is_part t.0.waits (both_of _ (list_any is_part t.0.waits) parts.1).1 in
          inr (t.0, t.1, eqb-true t.0.input v.number parts.0, λ none. subst (IsIn w.0) none w.1)

      by_input : (o : Option InputView) → input_at n i.inputs ≡ o → holds listening i o ≡ true → (h : HasInput i n) × IsAsked i h.input
      by_input None has e = absurd (true_false (sym e))
      by_input (Some v) has e = (record { input = v; has = has }, asked v (listening.address v.statement) e)

  polls_of : (showing : List ℕ) (n : ℕ) → polls listening showing i (input_at n i.inputs) ≡ true → (h : HasInput i n) × IsAsked i h.input
  polls_of showing n is = by_input (input_at n i.inputs) refl is
    where
      opens : (v : InputView) (address : Option (List ℕ)) → polls_by listening showing i v address ≡ true → v.is_open ≡ true
      opens v None e = (both_of v.is_open _ e).0
      opens v (Some address) e = (both_of v.is_open _ e).0

      by_input : (o : Option InputView) → input_at n i.inputs ≡ o → polls listening showing i o ≡ true → (h : HasInput i n) × IsAsked i h.input
      by_input None has e = absurd (true_false (sym e))
      by_input (Some v) has e = (record { input = v; has = has }, inl (opens v (listening.address v.statement) e))

  wants_of : (n : ℕ) → wants listening i (input_at n i.inputs) ≡ true → (h : HasInput i n) × IsAsked i h.input × (i.mark ≡ None → ⊥)
  wants_of n is = by_input (input_at n i.inputs) refl is
    where
      no_mark : (rows : List RowAt) → list_any (λ (r : RowAt). is_up_to i.mark r.number) rows ≡ true → i.mark ≡ None → ⊥
      no_mark rows e none =
          let r = any_in (λ (x : RowAt). is_up_to i.mark x.number) rows e in true_false (sym r.2 ∙ ap (λ mark. is_up_to mark r.0.number) none)

      both : (v : InputView) (address : Option (List ℕ)) → wants_by listening i v address ≡ true → (v.is_open ≡ true) × (i.mark ≡ None → ⊥)
      both v None e = let parts = both_of v.is_open _ e in (parts.0, no_mark v.rows parts.1)
      both v (Some address) e = absurd (true_false (sym e))

      by_input : (o : Option InputView) → input_at n i.inputs ≡ o → wants listening i o ≡ true → (h : HasInput i n) × IsAsked i h.input × (i.mark ≡ None → ⊥)
      by_input None has e = absurd (true_false (sym e))
      by_input (Some v) has e = let parts = both v (listening.address v.statement) e in (record { input = v; has = has }, inl parts.0, parts.1)

  -- ---- the laws

  can_of : (g : Given) (r : Refused) (showing : List ℕ) (a : Act) → IsPossible (summary_of listening g r showing i) a → CanDo i a
  can_of g r showing act.Take is =
      let some = some_of (least (λ n. is_away (batch_of n i.batches)) (batches_of i)) (both_of _ (not r.take) is).0 in
      (some.0, away_of i some.0 (least_found (λ n. is_away (batch_of n i.batches)) (batches_of i) some.0 some.1).1)
  can_of g r showing (act.Deliver n) is =
      let test = (least_found (λ k. drains_on i && (is_due (batch_of k i.batches) && not (is_among k r.deliveries))) (batches_of i) n is).1 in
      due_of i n (both_of (is_due (batch_of n i.batches)) _ (both_of (drains_on i) _ test).1).0
  can_of g r showing (act.Acknowledge n) is = finished_of i n (least_found (λ k. is_finished (batch_of k i.batches)) (batches_of i) n is).1
  can_of g r showing (act.Answer place) is =
      let test = (next_found (λ k. is_served (ends_served i) k && (is_due_answer i.mark (taker_at k i.takers) && not (is_among k r.answers))) (places_of i) g.answer place is).1 in
      end_of i place (both_of (is_due_answer i.mark (taker_at place i.takers)) _ (both_of (is_served (ends_served i) place) _ test).1).0
  can_of g r showing act.Mark is = tt
  can_of g r showing (act.Assure n) is = wants_of n (next_found (λ k. wants listening i (input_at k i.inputs)) (inputs_of i) g.assure n is).1
  can_of g r showing act.Purge is = tt
  can_of g r showing (act.Accept n) (inl is) =
      let test = (next_found (λ k. holds listening i (input_at k i.inputs) && not (is_among k r.accepts)) (inputs_of i) g.held n is).1 in
      holds_of n (both_of (holds listening i (input_at n i.inputs)) _ test).0
  can_of g r showing (act.Accept n) (inr is) =
      let test = (next_found (λ k. polls listening showing i (input_at k i.inputs) && not (is_among k r.accepts)) (inputs_of i) g.poll n is).1 in
      polls_of showing n (both_of (polls listening showing i (input_at n i.inputs)) _ test).0
  can_of g r showing act.Read is = tt

-- ---- and it wasn't refused

abbrev NotAmong : List ℕ → ℕ → Type 0
NotAmong tried n = is_among n tried ≡ false

-- it is one of those there, and wasn't refused
abbrev pub IsFresh : {places : Places} → LineView places → Refused → Act → Type 0
IsFresh i r (act.Accept n) = IsIn n (inputs_of i) × NotAmong r.accepts n
IsFresh i r act.Read = r.read ≡ false
IsFresh i r act.Take = r.take ≡ false
IsFresh i r (act.Deliver n) = IsIn n (batches_of i) × NotAmong r.deliveries n
IsFresh i r (act.Answer place) = IsIn place (places_of i) × NotAmong r.answers place
IsFresh i r a = ⊤

read_new : (drains read few : Bool) (n : ℕ) → 0 < (if drains && (not read && few) then n else 0) → read ≡ false
read_new true true few n is = absurd (omega (arith, is))
read_new true false few n is = refl
read_new false read few n is = absurd (omega (arith, is))

module _ (listening : Listening) {places : Places} (i : LineView places) (g : Given) (r : Refused) (showing : List ℕ) where
  fresh_of : (a : Act) → IsPossible (summary_of listening g r showing i) a → IsFresh i r a
  fresh_of act.Take is = not-true r.take (both_of _ (not r.take) is).1
  fresh_of (act.Deliver n) is =
      let found = least_found (λ k. drains_on i && (is_due (batch_of k i.batches) && not (is_among k r.deliveries))) (batches_of i) n is in
      (found.0, not-true _ (both_of (is_due (batch_of n i.batches)) _ (both_of (drains_on i) _ found.1).1).1)
  fresh_of (act.Acknowledge n) is = tt
  fresh_of (act.Answer place) is =
      let found = next_found (λ k. is_served (ends_served i) k && (is_due_answer i.mark (taker_at k i.takers) && not (is_among k r.answers))) (places_of i) g.answer place is in
      (found.0, not-true _ (both_of (is_due_answer i.mark (taker_at place i.takers)) _ (both_of (is_served (ends_served i) place) _ found.1).1).1)
  fresh_of act.Mark is = tt
  fresh_of (act.Assure n) is = tt
  fresh_of act.Purge is = tt
  fresh_of (act.Accept n) (inl is) =
      let found = next_found (λ k. holds listening i (input_at k i.inputs) && not (is_among k r.accepts)) (inputs_of i) g.held n is in
      (found.0, not-true _ (both_of (holds listening i (input_at n i.inputs)) _ found.1).1)
  fresh_of (act.Accept n) (inr is) =
      let found = next_found (λ k. polls listening showing i (input_at k i.inputs) && not (is_among k r.accepts)) (inputs_of i) g.poll n is in
      (found.0, not-true _ (both_of (polls listening showing i (input_at n i.inputs)) _ found.1).1)
  fresh_of act.Read (inl is) = read_new (drains_on i) r.read (has_few_out i) _ (ltb-true 0 (unread_now r i) (both_of (nat_lt 0 (unread_now r i)) _ is).0)
  fresh_of act.Read (inr is) = read_new (drains_on i) r.read (has_few_out i) _ is

  pub choice_fresh : (a : Act) → choice listening g r showing i ≡ Some a → IsFresh i r a
  choice_fresh a is = fresh_of a (possible_of (summary_of listening g r showing i) a is)

fresh_new : {places : Places} (i : LineView places) (r : Refused) (a : Act) → IsFresh i r a → IsRefused r a → ⊥
fresh_new i r (act.Accept n) fresh was = not_both (is_among n r.accepts) (among_in n r.accepts was) fresh.1
fresh_new i r act.Read fresh was = not_both r.read was fresh
fresh_new i r act.Take fresh was = not_both r.take was fresh
fresh_new i r (act.Deliver n) fresh was = not_both (is_among n r.deliveries) (among_in n r.deliveries was) fresh.1
fresh_new i r (act.Answer place) fresh was = not_both (is_among place r.answers) (among_in place r.answers was) fresh.1
fresh_new i r a fresh was = absurd was

pub choices_can_be_done : (listening : Listening) (places : Places) → ChoicesCanBeDone listening places
choices_can_be_done listening places g r showing i a is = can_of listening i g r showing a (possible_of (summary_of listening g r showing i) a is)

pub choices_are_new : (listening : Listening) (places : Places) → ChoicesAreNew listening places
choices_are_new listening places g r showing i a is was = fresh_new i r a (choice_fresh listening i g r showing a is) was
