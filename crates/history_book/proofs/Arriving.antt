-- What one pipeline delivers to another arrives there.
use Rattle.std.proofs.Common.{◌≡◌, ◌≢◌, ◌⊎◌, inl, inr, ⊎_elim, ℕ, ◌≤◌, ◌<◌, ◌+◌, ◌==◌, Bool, true, false, if◌then◌else◌, List, [], ◌∷◌, ◌++◌, length, Option, Some, None, Result, Ok, refl, sym, ap, ◌∙◌, subst, arith, append-nil, append_assoc}
use Rattle.std.specs.Prelude.{flat_map}
use Rattle.std.proofs.lemmas.Bool.{eqb-true}
use Rattle.std.proofs.lemmas.Grind.{flat_map-append}
use Rattle.std.proofs.lemmas.List.Concat.{flat_map-cons}
use Rattle.event_tree.specs.Events.{Ev}
use Rattle.event_tree.specs.declared.lists.DeadPart.{DeadPart}
use Rattle.pipeline_bus.specs.Ends.{Sending, InOrder}
use Rattle.pipeline_bus.specs.Parcels.{is_last, filled, number_behind, numbered}
use Rattle.pipeline_bus.specs.declared.parcel.Parcel.{Parcel}
use Rattle.event_flow.specs.Meaning.{Makes, Due}
use Rattle.event_flow.specs.Meaning as due
use Rattle.queue_files.specs.Found.{Found}
use Rattle.history_book.specs.Deeds.{Deed, Send, DeedOf, Mail, told_of, sent_on, deeds_by, told_by, mail_of, IsNextFor}
use Rattle.history_book.specs.Entries.{Entry, ParcelAt, Accept, Mark, Assure, Read, Back, Shed, Deliver, Letters, Ack, Purge, Adopt, Opened}
use Rattle.history_book.specs.Legal.{Legal, Fits, IsFound}
use Rattle.history_book.specs.Links.{Listening, Link, IsPart, row_of, rows_of, is_same, IsMadeOf, AreMadeOf, AreSettled, assured, sending_on, IsSentBy, IsSentFrom, LinkSound, EachStands, StandsThere, AssuredArrived, ArrivalsWereDue}
use Rattle.history_book.specs.Lists.{IsIn}
use Rattle.history_book.specs.States.{Plan, Written, State, start, newest, reads, left_of, out_of, tells_letters, written, next, after}
use Rattle.history_book.specs.Steps.{Step, NoOpening, one_more, steps}
use Rattle.history_book.specs.Turns.{AnsweredRowsStand}
use Rattle.history_book.proofs.Histories.{after_both, settled_stays, settled_stand}
use Rattle.history_book.proofs.Lists.{in_front, in_behind, in_either}
use Rattle.history_book.proofs.Mailing.{told_both, deeds_both, mail_numbered, mail_since, was_sent}
use Rattle.history_book.proofs.Numbers.{and_first, and_second}

-- ---- parcels with events have numbers of their own

filled_one : (p : Parcel) → is_last p ≡ false → filled p ≡ 1
filled_one p some = ap (λ (b : Bool). if b then 0 else 1) some

number_one : (k : ℕ) (p : Parcel) → is_last p ≡ false → number_behind k p ≡ k + 1
number_one k p some = ap (λ (b : Bool). if b then 0 else k + 1) some

numbered_above : (k : ℕ) (ps : List Parcel) → numbered k ps ≡ true → (p : Parcel) → IsIn p ps → is_last p ≡ false → k < p.number
unfolding numbered
numbered_above k [] are p i some = absurd i
numbered_above k (x ∷ ps) are p (inl e) some =
    let is = eqb-true x.number (number_behind k x) (and_first _ _ are) in
    let same = ap (λ (y : Parcel). y.number) e in
    let one = number_one k x (ap is_last (sym e) ∙ some) in
    omega (arith, is, same, one)
numbered_above k (x ∷ ps) are p (inr i) some = let more = numbered_above (k + filled x) ps (and_second (x.number == number_behind k x) _ are) p i some in omega (arith, more)

last_zero : (k : ℕ) (ps : List Parcel) → numbered k ps ≡ true → (p : Parcel) → IsIn p ps → is_last p ≡ true → p.number ≡ 0
unfolding numbered
last_zero k [] are p i last = absurd i
last_zero k (x ∷ ps) are p (inl e) last =
    ap (λ (y : Parcel). y.number) e ∙ eqb-true x.number (number_behind k x) (and_first _ _ are)
    ∙ ap (λ (b : Bool). if b then 0 else k + 1) (ap is_last (sym e) ∙ last)
last_zero k (x ∷ ps) are p (inr i) last = last_zero (k + filled x) ps (and_second (x.number == number_behind k x) _ are) p i last

-- the first parcel has another number than one with events behind it
first_apart : (k : ℕ) (x : Parcel) (ps : List Parcel) → numbered k (x ∷ ps) ≡ true → is_last x ≡ false → (q : Parcel) → IsIn q ps → is_last q ≡ false → x.number ≡ q.number → ⊥
unfolding numbered
first_apart k x ps are some q j other same =
    let is = eqb-true x.number (number_behind k x) (and_first _ _ are) in
    let one = number_one k x some in
    let filled_is = filled_one x some in
    let more = numbered_above (k + filled x) ps (and_second (x.number == number_behind k x) _ are) q j other in
    omega (arith, is, one, filled_is, more, same)

numbered_apart : (k : ℕ) (ps : List Parcel) → numbered k ps ≡ true → (p q : Parcel) → IsIn p ps → IsIn q ps → is_last p ≡ false → is_last q ≡ false → p.number ≡ q.number → p ≡ q
unfolding numbered
numbered_apart k [] are p q i j some_p some_q same = absurd i
numbered_apart k (x ∷ ps) are p q (inl e) (inl f) some_p some_q same = e ∙ sym f
numbered_apart k (x ∷ ps) are p q (inl e) (inr j) some_p some_q same =
    absurd (first_apart k x ps are (ap is_last (sym e) ∙ some_p) q j some_q (ap (λ (y : Parcel). y.number) (sym e) ∙ same))
numbered_apart k (x ∷ ps) are p q (inr i) (inl f) some_p some_q same =
    absurd (first_apart k x ps are (ap is_last (sym f) ∙ some_q) p i some_p (ap (λ (y : Parcel). y.number) (sym f) ∙ sym same))
numbered_apart k (x ∷ ps) are p q (inr i) (inr j) some_p some_q same =
    numbered_apart (k + filled x) ps (and_second (x.number == number_behind k x) _ are) p q i j some_p some_q same

-- a parcel that has the number of one with events is that one
numbered_same : (ps : List Parcel) → numbered 0 ps ≡ true → (p q : Parcel) → IsIn p ps → IsIn q ps → is_last q ≡ false → p.number ≡ q.number → p ≡ q
numbered_same ps are p q i j some same = by_last (is_last p) refl
  where
    by_last : (b : Bool) → is_last p ≡ b → p ≡ q
    by_last false is = numbered_apart 0 ps are p q i j is some same
    by_last true is = absurd (let none = last_zero 0 ps are p i is in let more = numbered_above 0 ps are q j some in omega (arith, none, more, same))

-- ---- rows that were accepted since the pipeline was last opened are rows

module _ (makes : Makes) where
  read_rows : (s : State) (batch : ℕ) (numbers : List ℕ) (plan : Option Plan) (w : Written) → IsIn w s.rows → IsIn w (reads s batch numbers plan).rows
  read_rows s batch numbers None w i = i
  read_rows s batch numbers (Some plan) w i = i

  letter_rows : (s : State) (batch : ℕ) (letters : List DeadPart) (left : List Due) (w : Written) → IsIn w s.rows → IsIn w (tells_letters s batch letters left).rows
  letter_rows s batch letters [] w i = i
  letter_rows s batch letters (due.Letters ds ∷ rest) w i = i
  letter_rows s batch letters (due.Events id at es ∷ rest) w i = i

  next_rows : (s : State) (e : Entry) → NoOpening (e ∷ []) → (w : Written) → IsIn w s.rows → IsIn w (next makes s e).rows
  next_rows s (Accept input parcel number event) none w i = in_front w s.rows _ i
  next_rows s (Mark front) none w i = i
  next_rows s (Assure input front) none w i = i
  next_rows s (Read batch generation numbers) none w i = read_rows s batch numbers (newest s.plans) w i
  next_rows s (Back batch verdicts) none w i = i
  next_rows s (Shed batch older newer) none w i = i
  next_rows s (Deliver batch at events fates) none w i = i
  next_rows s (Letters batch letters) none w i = letter_rows s batch letters (left_of (out_of batch s.out)) w i
  next_rows s (Ack batch) none w i = i
  next_rows s (Purge page) none w i = i
  next_rows s (Adopt generation config draws) none w i = i
  next_rows s (Opened rows limit policy) none w i = absurd none

  module _ (at : ParcelAt) where
    abbrev row_in : Step → List Written
    row_in step = row_of at step.before step.entry

    -- that of an accepted event is one
    new_row : (s : State) (e : Entry) (w : Written) → IsIn w (row_of at s e) → IsIn w (next makes s e).rows
    new_row s (Accept input parcel number event) w i = by_test (is_same at parcel) i
      where
        by_test : (b : Bool) → IsIn w (if b then written s input number event ∷ [] else []) → IsIn w (s.rows ++ written s input number event ∷ [])
        by_test true j = in_behind w s.rows (written s input number event ∷ []) j
        by_test false j = absurd j
    new_row s (Mark front) w i = absurd i
    new_row s (Assure input front) w i = absurd i
    new_row s (Read batch generation numbers) w i = absurd i
    new_row s (Back batch verdicts) w i = absurd i
    new_row s (Shed batch older newer) w i = absurd i
    new_row s (Deliver batch at events fates) w i = absurd i
    new_row s (Letters batch letters) w i = absurd i
    new_row s (Ack batch) w i = absurd i
    new_row s (Purge page) w i = absurd i
    new_row s (Adopt generation config draws) w i = absurd i
    new_row s (Opened rows limit policy) w i = absurd i

    abbrev AreRows : List Step → State → Type 0
    AreRows old s = (w : Written) → IsIn w (flat_map row_in old) → IsIn w s.rows

    more_rows : (s : State) (e : Entry) → NoOpening (e ∷ []) → (old : List Step) → AreRows old s → AreRows (old ++ record { before = s; entry = e } ∷ []) (next makes s e)
    more_rows s e none old are w i =
        let step : Step = record { before = s; entry = e } in
        let parts = flat_map-append row_in old (step ∷ []) ∙ ap (λ l. flat_map row_in old ++ l) (flat_map-cons row_in step [] ∙ append-nil (row_of at s e)) in
        ⊎_elim (λ (j : IsIn w (flat_map row_in old)). next_rows s e none w (are w j)) (λ (j : IsIn w (row_of at s e)). new_row s e w j)
        (in_either w (flat_map row_in old) (row_of at s e) (subst (IsIn w) parts i))

    step_rows : (s : State) (e : Entry) (old : List Step) → AreRows old s → AreRows (one_more old s e) (next makes s e)
    step_rows s (Accept input parcel number event) old are = more_rows s (Accept input parcel number event) tt old are
    step_rows s (Mark front) old are = more_rows s (Mark front) tt old are
    step_rows s (Assure input front) old are = more_rows s (Assure input front) tt old are
    step_rows s (Read batch generation numbers) old are = more_rows s (Read batch generation numbers) tt old are
    step_rows s (Back batch verdicts) old are = more_rows s (Back batch verdicts) tt old are
    step_rows s (Shed batch older newer) old are = more_rows s (Shed batch older newer) tt old are
    step_rows s (Deliver batch at events fates) old are = more_rows s (Deliver batch at events fates) tt old are
    step_rows s (Letters batch letters) old are = more_rows s (Letters batch letters) tt old are
    step_rows s (Ack batch) old are = more_rows s (Ack batch) tt old are
    step_rows s (Purge page) old are = more_rows s (Purge page) tt old are
    step_rows s (Adopt generation config draws) old are = more_rows s (Adopt generation config draws) tt old are
    step_rows s (Opened rows limit policy) old are = λ w i. absurd i

    all_rows : (s : State) (told : List Entry) (old : List Step) → AreRows old s → AreRows (steps makes s old told) (after makes s told)
    all_rows s [] old are = are
    all_rows s (e ∷ told) old are = all_rows (next makes s e) told (one_more old s e) (step_rows s e old are)

-- ---- deliveries

-- what a link between pipelines has
sent_by : (makes : Makes) (listening : Listening) (done : List DeedOf) (l : Link) (k : ℕ) → l.from ≡ Some k → LinkSound makes listening done l → IsSentBy makes listening done k l
sent_by makes listening done l k from sound = subst (IsSentFrom makes listening done l) from sound.sender

-- a parcel that was taken was sent
taken_sent : (sends : Sending) (l : Link) → InOrder sends l.takes → IsPart l.taken l.takes.taken → (p : Parcel) → IsIn p l.taken → IsIn p sends.sent
taken_sent sends l order part p i =
    let here = subst (IsIn p) (sym part.2) (in_front p (part.0 ++ l.taken) part.1 (in_behind p part.0 l.taken i)) in
    subst (IsIn p) (sym order.parcels) (in_front p (l.takes.taken ++ l.takes.room) order.on_the_way (in_front p l.takes.taken l.takes.room here))

each_stands : (makes : Makes) (told more : List Entry) (found : Found) → Legal makes start (told ++ more) → Fits (after makes start (told ++ more)) found → (rows : List Written)
    → ((w : Written) → IsIn w rows → IsIn w (after makes start told).rows) → AreSettled (after makes start told).front rows → EachStands (StandsThere makes (told ++ more) found) rows
each_stands makes told more found legal fits [] are settled = tt
each_stands makes told more found legal fits (w ∷ rows) are settled = (
  (
    settled_stays makes told more w legal (are w (inl refl)) settled.0,
    settled_stand makes told more w found legal (are w (inl refl)) settled.0 fits,
  ),
  each_stands makes told more found legal fits rows (λ v i. are v (inr i)) settled.1,
)

-- rows that are settled are found or acknowledged
settled_in : (front : ℕ) (ws : List Written) → AreSettled front ws → (w : Written) → IsIn w ws → w.number ≤ front
settled_in front [] are w i = absurd i
settled_in front (x ∷ ws) are w (inl e) = subst (λ (v : Written). v.number ≤ front) (sym e) are.0
settled_in front (x ∷ ws) are w (inr i) = settled_in front ws are.1 w i

ok_same : {X M : Type 0} (x y : X) → ◌≡◌ {A = Result X M} (Ok x) (Ok y) → x ≡ y
ok_same x y is = cc

pub answered_rows_stand : AnsweredRowsStand
answered_rows_stand makes listening bytes places told l number i sound settled rows is w there =
    let at : ParcelAt = record { place = l.place; number = number } in
    let same : sound.rows ≡ rows = ok_same sound.rows rows (sym sound.is_found ∙ is) in
    let among = all_rows makes at start told [] (λ v i. absurd i) w there in
    subst (λ (f : Found). IsFound f.rows w ⊎ IsIn w.number (after makes start told).acknowledged) same
    (sound.fits.rows.settled w among (settled_in (after makes start told).front (rows_of makes at told) settled.settled w there))

pub assured_arrived : AssuredArrived
assured_arrived makes listening first since l k number events entries legal_deeds from sound was more found legal fits =
    let done = first ++ since in
    let takes = told_by l.to done in
    let taker = sound.taker in
    let settled = taker.answers (assured number) was.given in
    let sends = sending_on l.address (mail_of k done) in
    let was_sent = taken_sent sends l (sent_by makes listening done l k from sound).order sound.taken settled.parcel settled.is_taken in
    let numbers = subst (λ (m : Mail). numbered 0 (sent_on l.address m.sent) ≡ true) (sym (mail_since k first since entries)) (mail_numbered makes (told_by k first) (deeds_by k since) legal_deeds l.address) in
    let same = numbered_same sends.sent numbers was.parcel settled.parcel was.sent was_sent settled.some (was.number_is ∙ sym settled.number_is) in
    let is : settled.parcel.events ≡ events = ap (λ (p : Parcel). p.events) (sym same) ∙ was.events_are in
    let at : ParcelAt = record { place = l.place; number = number } in
    let rows = rows_of makes at takes in
    record {
      rows = rows;
      made =
          subst (AreMadeOf listening l.address rows) is
          (subst (λ n. AreMadeOf listening l.address (rows_of makes (record { place = l.place; number = n }) takes) settled.parcel.events) settled.number_is
          (taker.made settled.parcel settled.is_taken settled.some));
      whole = settled.whole ∙ ap length is;
      stand = each_stands makes takes more found legal fits rows (all_rows makes at start takes [] (λ v i. absurd i)) settled.settled;
    }

made_of : (listening : Listening) (address : List ℕ) (ws : List Written) (es : List Ev) → AreMadeOf listening address ws es → (w : Written) → IsIn w ws
    → (e : Ev) × IsIn e es × IsMadeOf listening address w e
made_of listening address [] es are w i = absurd i
made_of listening address (x ∷ ws) [] are w i = absurd are
made_of listening address (x ∷ ws) (e ∷ es) are w (inl same) = (e, inl refl, subst (λ v. IsMadeOf listening address v e) (sym same) are.0)
made_of listening address (x ∷ ws) (e ∷ es) are w (inr i) = let rest = made_of listening address ws es are.1 w i in (rest.0, inr rest.1, rest.2)

pub some_of : {X : Type 0} (x : X) (xs : List X) → IsIn x xs → xs ≢ []
some_of x [] i e = i
some_of x (y ∷ ys) i e = cc

pub arrivals_were_due : ArrivalsWereDue
arrivals_were_due makes listening first since l k number w entries legal_deeds from sound i =
    let done = first ++ since in
    let takes = told_by l.to done in
    let rows_at = (λ (n : ℕ). rows_of makes (record { place = l.place; number = n }) takes) in
    let known = sound.taker.known number (some_of w (rows_at number) i) in
    let made = made_of listening l.address (rows_at known.0.number) known.0.events (sound.taker.made known.0 known.1 known.3) w (subst (λ n. IsIn w (rows_at n)) (sym known.2) i) in
    let sent = taken_sent (sending_on l.address (mail_of k done)) l (sent_by makes listening done l k from sound).order sound.taken known.0 known.1 in
    let here = subst (λ (m : Mail). IsIn known.0 (sent_on l.address m.sent)) (mail_since k first since entries) sent in
    let was = was_sent makes l.address known.0 known.3 (told_by k first) (deeds_by k since) legal_deeds here in
    let before = deeds_by k first ++ was.before in
    let stood = ap (after makes start) (told_both (deeds_by k first) was.before) ∙ after_both makes start (told_by k first) (told_of was.before) in
    record {
      events = known.0.events;
      sent = record {
        before = before;
        parcel = known.0;
        rest = was.rest;
        parts = deeds_both k first since ∙ ap (λ (l : List Deed). deeds_by k first ++ l) was.parts ∙ sym (append_assoc (deeds_by k first) was.before (Send l.address known.0 ∷ was.rest));
        unopened = was.unopened;
        events_are = refl;
        next = subst (λ (s : State). IsNextFor s l.address known.0.events) (sym stood) was.next;
      };
      event = made.0;
      has = made.1;
      made = made.2;
    }
