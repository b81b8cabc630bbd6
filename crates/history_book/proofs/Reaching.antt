-- What pipelines of one run deliver to each other arrives, whatever any of them told since.
use Rattle.std.proofs.Common.{◌≡◌, ◌≢◌, ◌⊎◌, inl, inr, ⊎_elim, ℕ, zero, suc, ◌==◌, Bool, true, false, if◌then◌else◌, List, [], ◌∷◌, ◌++◌, refl, sym, ap, ◌∙◌, subst, append_assoc, append-nil}
use Rattle.std.proofs.lemmas.Bool.{eqb-true}
use Rattle.std.proofs.lemmas.List.Concat.{flat_map-cons}
use Rattle.io_traits.specs.Images.{Image}
use Rattle.event_tree.specs.Events.{Ev}
use Rattle.foreign_parts.specs.declared.place.Place.TheVariants as place
use Rattle.event_flow.specs.Meaning.{Makes, Due}
use Rattle.event_flow.specs.Meaning as due
use Rattle.queue_files.specs.Found.{Found}
use Rattle.history_book.specs.Contents.{Bytes}
use Rattle.history_book.specs.Deeds.{Deed, Tell, Send, Hear, DeedOf, Mail, deeds_by, told_of, told_by, mail_of, sent_on, heard_on, AreTold, IsAnswered}
use Rattle.history_book.specs.Entries.{Entry, Deliver, Ack}
use Rattle.history_book.specs.Laws.{WasDelivered, WasTold, fates_of}
use Rattle.history_book.specs.Legal.{Legal, Fits, IsFound}
use Rattle.history_book.specs.Links.{Listening, Link, WasAssured, EachStands, AllArrived, IsSettledRow, StandsThere, assured}
use Rattle.history_book.specs.Sound.{Places, LineSound, AllStands}
use Rattle.history_book.specs.States.{Plan, Written, start, after}
use Rattle.history_book.specs.Lists.{IsIn}
use Rattle.history_book.specs.Steps.{NoOpening}
use Rattle.history_book.specs.Yards.{OpensFirst, LinksSound, AreSteps, all_done, DeliveriesReach, StandsEverywhere, StandsOver, EverythingStands}
use Rattle.history_book.proofs.Arriving.{assured_arrived}
use Rattle.history_book.proofs.Giving.{delivery_of}
use Rattle.history_book.proofs.Histories.{settled_stays, settled_stand}
use Rattle.history_book.proofs.Mailing.{told_by_both, mail_since, deliveries_are_answered}
use Rattle.history_book.proofs.Standing.{told_since, all_stands}
use Rattle.history_book.proofs.Telling.{deliveries_were_told}

-- one of the members of two lists together is in the first or in the second
split_at : {X : Type 0} (xs ys front : List X) (x : X) (back : List X) → xs ++ ys ≡ front ++ x ∷ back
    → ((more : List X) × (xs ≡ front ++ x ∷ more)) ⊎ ((less : List X) × (ys ≡ less ++ x ∷ back))
split_at [] ys front x back e = inr (front, e)
split_at (y ∷ xs) ys [] x back e = inl (xs, first e)
  where
    first : y ∷ (xs ++ ys) ≡ x ∷ back → y ∷ xs ≡ x ∷ xs
    first is = cc
split_at (y ∷ xs) ys (z ∷ front) x back e = behind (split_at xs ys front x back (rest e))
  where
    rest : y ∷ (xs ++ ys) ≡ z ∷ (front ++ x ∷ back) → xs ++ ys ≡ front ++ x ∷ back
    rest is = cc

    first : (more : List _) → y ∷ (xs ++ ys) ≡ z ∷ (front ++ x ∷ back) → xs ≡ front ++ x ∷ more → y ∷ xs ≡ z ∷ (front ++ x ∷ more)
    first more is same = cc

    behind : ((more : List _) × (xs ≡ front ++ x ∷ more)) ⊎ ((less : List _) × (ys ≡ less ++ x ∷ back))
        → ((more : List _) × (y ∷ xs ≡ z ∷ (front ++ x ∷ more))) ⊎ ((less : List _) × (ys ≡ less ++ x ∷ back))
    behind (inl l) = inl (l.0, first l.0 e l.1)
    behind (inr r) = inr r

-- behind an entry of a step no opening of its pipeline stands in the step
unopened : (step : List DeedOf) → OpensFirst step → (k : ℕ) (front : List Entry) (e : Entry) (back : List Entry) → told_by k step ≡ front ++ e ∷ back → NoOpening back
unopened [] opens k [] e back is = absurd (cc)
unopened [] opens k (x ∷ front) e back is = absurd (cc)
unopened (d ∷ done) opens k front e back is = by_test (λ before j. unopened done opens.1 k before e back j) (k == d.line) refl is
  where
    here : (before : List Entry) → ((xs : List Entry) → told_by k done ≡ xs ++ e ∷ back → NoOpening back) → k ≡ d.line → (x : Entry) → x ∷ told_by k done ≡ before ++ e ∷ back → NoOpening back
    here [] rest same x is' = subst NoOpening (tail is') (subst (λ n. NoOpening (told_by n done)) (sym same) opens.0)
      where
        tail : x ∷ told_by k done ≡ e ∷ back → told_by k done ≡ back
        tail both = cc
    here (y ∷ before) rest same x is' = rest before (tail is')
      where
        tail : x ∷ told_by k done ≡ y ∷ (before ++ e ∷ back) → told_by k done ≡ before ++ e ∷ back
        tail both = cc

    by_deed : ((xs : List Entry) → told_by k done ≡ xs ++ e ∷ back → NoOpening back) → k ≡ d.line → (x : Deed) → told_of (x ∷ deeds_by k done) ≡ front ++ e ∷ back → NoOpening back
    by_deed rest same (Tell x) is' = here front rest same x is'
    by_deed rest same (Send to p) is' = rest front is'
    by_deed rest same (Hear from a) is' = rest front is'

    by_test : ((xs : List Entry) → told_by k done ≡ xs ++ e ∷ back → NoOpening back) → (b : Bool) → (k == d.line) ≡ b
        → told_of (if b then d.deed ∷ deeds_by k done else deeds_by k done) ≡ front ++ e ∷ back → NoOpening back
    by_test rest true test is' = by_deed rest (eqb-true k d.line test) d.deed is'
    by_test rest false test is' = rest front is'

module _ (makes : Makes) (listening : Listening) (first : List DeedOf) (entries : AreTold first) (k : ℕ) (address : List ℕ) (plan : Plan) (id : List ℕ) (events : List Ev) where
  abbrev here : Due
  here = due.Events id (place.Address address) events

  abbrev Told : List DeedOf → Type 0
  Told done = WasTold makes start (told_by k done) plan here

  abbrev Reaches : List DeedOf → (ℕ → Found) → Type 0
  Reaches done found = (to : ℕ) × AllArrived listening address events (StandsThere makes (told_by to done) (found to))

  abbrev AllLegal : List DeedOf → Type 0
  AllLegal done = (n : ℕ) → Legal makes start (told_by n done)

  abbrev AllFit : List DeedOf → (ℕ → Found) → Type 0
  AllFit done found = (n : ℕ) → Fits (after makes start (told_by n done)) (found n)

  -- the delivery was told in this step, behind which the links are sound
  at_step : (since step more : List DeedOf) (links : List Link) (found : ℕ → Found) → LinksSound makes listening first (since ++ step) step links → deeds_by k step ≢ []
      → (w : Told (first ++ (since ++ step))) (less : List Entry) → told_by k step ≡ less ++ w.entry ∷ w.rest
      → NoOpening w.rest → AllLegal ((first ++ (since ++ step)) ++ more) → AllFit ((first ++ (since ++ step)) ++ more) found → Reaches ((first ++ (since ++ step)) ++ more) found
  at_step since step more links found sound acts w less is none legal fits =
      let run = since ++ step in
      let now = first ++ run in
      let e = Deliver w.batch (place.Address address) events (fates_of w.entry) in
      let parts = told_by_both k since step ∙ ap (λ (l : List Entry). told_by k since ++ l) is ∙ sym (append_assoc (told_by k since) less (w.entry ∷ w.rest))
      ∙ ap (λ (x : Entry). (told_by k since ++ less) ++ x ∷ w.rest) (delivery_of w.entry w.batch id (place.Address address) events w.tells) in
      let a : IsAnswered (mail_of k run) address events =
      deliveries_are_answered makes (told_by k first) (deeds_by k run) (sound.legal k) (told_by k since ++ less) w.batch address events (fates_of w.entry) w.rest parts none in
      let b = subst (λ (m : Mail). IsAnswered m address events) (sym (mail_since k first run entries)) a in
      let given = sound.heard k address a.parcel.number acts a.heard in
      let l = given.link in
      let both = told_by_both l.to now more in
      let was : WasAssured (mail_of k now) l b.parcel.number events = record {
        parcel = b.parcel;
        sent = subst (λ (x : List ℕ). IsIn b.parcel (sent_on x (mail_of k now).sent)) (sym given.to_address) b.sent;
        number_is = refl;
        events_are = b.events_are;
        heard = subst (λ (x : List ℕ). IsIn (assured b.parcel.number) (heard_on x (mail_of k now).heard)) (sym given.to_address) b.heard;
        given = given.given;
      } in (
        l.to,
        subst (λ told. AllArrived listening address events (StandsThere makes told (found l.to))) (sym both)
            (subst (λ x. AllArrived listening x events (StandsThere makes (told_by l.to now ++ told_by l.to more) (found l.to))) given.to_address
            (assured_arrived makes listening first run l k b.parcel.number events entries (sound.legal k) given.from (sound.sound l given.is_link) was (told_by l.to more) (found l.to)
            (subst (Legal makes start) both (legal l.to)) (subst (λ told. Fits (after makes start told) (found l.to)) both (fits l.to)))),
      )

  in_steps : (since : List DeedOf) (old : List Link) (steps : List (List DeedOf)) (last : List Link) (found : ℕ → Found) → AreSteps makes listening first since old steps last
      → AllLegal (first ++ (since ++ all_done steps)) → AllFit (first ++ (since ++ all_done steps)) found
      → Told (first ++ (since ++ all_done steps)) → Told (first ++ since) ⊎ Reaches (first ++ (since ++ all_done steps)) found
  in_steps since old [] last found are legal fits w = inl (subst Told (ap (λ l. first ++ l) (append-nil since)) w)
  in_steps since old (step ∷ steps) last found are legal fits w =
      let parts = ap (λ l. first ++ l) (ap (λ l. since ++ l) (flat_map-cons (λ (s : List DeedOf). s) step steps) ∙ sym (append_assoc since step (all_done steps))) in
      let legal_now = subst AllLegal parts legal in
      let fits_now = subst (λ l. AllFit l found) parts fits in
      ⊎_elim (λ (t : Told (first ++ (since ++ step))).
      by_place t (split_at (told_by k (first ++ since)) (told_by k step) t.before t.entry t.rest (sym (told_by_both k (first ++ since) step) ∙ ap (told_by k) (append_assoc first since step) ∙ t.parts)) legal_now
      fits_now parts) (λ (r : Reaches (first ++ ((since ++ step) ++ all_done steps)) found). inr (subst (λ l. Reaches l found) (sym parts) r))
      (in_steps (since ++ step) are.1.0 steps last found are.1.3 legal_now fits_now (subst Told parts w))
    where
      acts : (less : List Entry) (e : Entry) (rest : List Entry) → told_by k step ≡ less ++ e ∷ rest → deeds_by k step ≢ []
      acts [] e rest is none = absurd (differ (sym (ap told_of none) ∙ is))
        where
          differ : [] ≡ e ∷ rest → ⊥
          differ same = cc
      acts (x ∷ less) e rest is none = absurd (differ (sym (ap told_of none) ∙ is))
        where
          differ : [] ≡ x ∷ (less ++ e ∷ rest) → ⊥
          differ same = cc

      by_place : (t : Told (first ++ (since ++ step)))
          → ((more : List Entry) × (told_by k (first ++ since) ≡ t.before ++ t.entry ∷ more)) ⊎ ((less : List Entry) × (told_by k step ≡ less ++ t.entry ∷ t.rest))
          → AllLegal (first ++ ((since ++ step) ++ all_done steps)) → AllFit (first ++ ((since ++ step) ++ all_done steps)) found
          → first ++ (since ++ all_done (step ∷ steps)) ≡ first ++ ((since ++ step) ++ all_done steps) → Told (first ++ since) ⊎ Reaches (first ++ (since ++ all_done (step ∷ steps))) found
      by_place t (inl before) legal_now fits_now parts = inl (record {
        before = t.before;
        entry = t.entry;
        rest = before.0;
        parts = before.1;
        batch = t.batch;
        tells = t.tells;
        out = t.out;
        was_out = t.was_out;
        plan_is = t.plan_is;
        left = t.left;
        next = t.next;
      })
      by_place t (inr second) legal_now fits_now parts =
          let whole = append_assoc first (since ++ step) (all_done steps) in
          inr (subst (λ l. Reaches l found) (whole ∙ sym parts)
          (at_step since step (all_done steps) are.1.0 found are.1.2 (acts second.0 t.entry t.rest second.1) t second.0 second.1 (unopened step are.0 k second.0 t.entry t.rest second.1)
          (subst AllLegal (sym whole) legal_now) (subst (λ l. AllFit l found) (sym whole) fits_now)))

pub deliveries_reach : DeliveriesReach
deliveries_reach makes listening first steps last found entries are legal fits k address plan id events w =
    ⊎_elim (λ (t : WasTold makes start (told_by k (first ++ [])) plan (due.Events id (place.Address address) events)).
    inl (subst (λ l. WasTold makes start (told_by k l) plan (due.Events id (place.Address address) events)) (append-nil first) t)) (λ r. inr r)
    (in_steps makes listening first entries k address plan id events [] [] steps last found are legal fits w)

-- ---- all that an event is for

module _ (makes : Makes) (listening : Listening) (bytes : Bytes) (places : ℕ → Places) (images : ℕ → Image) (first : List DeedOf) (steps : List (List DeedOf)) (last : List Link) (entries : AreTold first)
    (are : AreSteps makes listening first [] [] steps last) (sound : (n : ℕ) → LineSound makes bytes (places n) (told_by n (first ++ all_done steps)) (images n)) where
  abbrev told : ℕ → List Entry
  told k = told_by k (first ++ all_done steps)

  abbrev Over : ℕ → ℕ → Written → Type 0
  Over links k w = StandsOver makes listening bytes places images first (all_done steps) (λ n. (sound n).rows) links k w

  -- so it is with each row that is found, or of which all was told that was due
  abbrev AllOver : ℕ → Type 0
  AllOver links = (k : ℕ) (w : Written) → IsSettledRow makes (told k) w → IsFound (sound k).rows.rows w ⊎ WasDelivered makes start (told k) w → Over links k w

  each_over : (links to : ℕ) → AllOver links → (rows : List Written) → EachStands (StandsThere makes (told to) (sound to).rows) rows → EachStands (Over links to) rows
  each_over links to over [] each = tt
  each_over links to over (w ∷ rows) each = (over to w each.0.0 each.0.1, each_over links to over rows each.1)

  arrived : (links : ℕ) → AllOver links → (k : ℕ) (w : Written) (stands : AllStands makes bytes (places k) (told k) (images k) w) (id address : List ℕ) (events : List Ev)
      → IsIn (due.Events id (place.Address address) events) stands.delivered.out.told
      → WasTold makes start (told_by k first) stands.delivered.out.plan (due.Events id (place.Address address) events) ⊎ ((to : ℕ) × AllArrived listening address events (Over links to))
  arrived links over k w stands id address events i =
      let was = stands.delivered in
      let d = due.Events id (place.Address address) events in
      let told_then = deliveries_were_told makes (told k) w (sound k).legal was d i in
      let told_now = subst (λ l. WasTold makes start l was.out.plan d) (sym was.parts) (told_since makes was.out.plan d was.before (Ack was.batch ∷ was.rest) told_then) in
      ⊎_elim (λ (t : WasTold makes start (told_by k first) was.out.plan d). inl t)
      (λ (r : (to : ℕ) × AllArrived listening address events (StandsThere makes (told to) (sound to).rows)). inr (
        r.0,
        record {
          rows = r.1.rows;
          made = r.1.made;
          whole = r.1.whole;
          stand = each_over links r.0 over r.1.rows r.1.stand;
        },
      ))
      (deliveries_reach makes listening first steps last (λ n. (sound n).rows) entries are (λ n. (sound n).legal) (λ n. (sound n).fits) k address was.out.plan id events told_now)

  all_over : (links : ℕ) → AllOver links
  all_over zero k w settled stands = settled
  all_over (suc links) k w settled stands = (
    settled,
    ⊎_elim (λ (f : IsFound (sound k).rows.rows w). inl f)
        (λ (d : WasDelivered makes start (told k) w).
        let here = all_stands makes bytes (places k) (told k) (images k) w (sound k).legal (sound k).files (sound k).dead d in
        inr (record { here = here; elsewhere = arrived links (all_over links) k w here }))
        stands,
  )

pub everything_stands : EverythingStands
everything_stands makes listening bytes places images first steps last links k before rest w entries are sound parts has =
    let told = told_by k (first ++ all_done steps) in
    let legal = subst (Legal makes start) parts (sound k).legal in
    all_over makes listening bytes places images first steps last entries are sound links k w
    (subst (λ l. IsSettledRow makes l w) (sym parts) (settled_stays makes before rest w legal has.0 has.1))
    (subst (λ l. IsFound (sound k).rows.rows w ⊎ WasDelivered makes start l w) (sym parts)
    (settled_stand makes before rest w (sound k).rows legal has.0 has.1 (subst (λ l. Fits (after makes start l) (sound k).rows) parts (sound k).fits)))
