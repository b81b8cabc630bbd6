-- A line that is at rest, or has come to an end, is done, or stopped, as a pipeline of a run.
use Rattle.std.proofs.Common.{◌≡◌, ◌⊎◌, inl, inr, ⊎_elim, ℕ, ◌==◌, ◌&&◌, Bool, true, false, List, [], ◌∷◌, ◌++◌, length, map, Option, Some, None, if◌then◌else◌, refl, sym, ap, ap₂, ◌∙◌, subst, append-nil}
use Rattle.std.specs.Prelude.{flat_map, Result, Ok}
use Rattle.std.proofs.lemmas.Bool.{eq-eqb}
use Rattle.std.proofs.lemmas.List.Concat.{flat_map-cons}
use Rattle.event_tree.specs.Events.{Ev}
use Rattle.pipeline_bus.specs.Parcels.{is_last}
use Rattle.pipeline_bus.specs.declared.parcel.Answer.{Answer}
use Rattle.pipeline_bus.specs.declared.parcel.Heard.{Heard}
use Rattle.pipeline_bus.specs.declared.parcel.Heard.TheVariants.{Assured, NotListening}
use Rattle.pipeline_bus.specs.declared.parcel.Parcel.{Parcel}
use Rattle.io_traits.specs.Images.{Image}
use Rattle.event_flow.specs.Meaning.{Makes}
use Rattle.queue_files.specs.Found.{Found}
use Rattle.history_book.specs.Contents.{Bytes}
use Rattle.history_book.specs.Deeds.{Deed, Tell, DeedOf, deeds_by, told_of, told_by, tell_all, mail_of, heard_on, AreTold}
use Rattle.history_book.specs.Ends as run
use Rattle.history_book.specs.Ends.{WasAssuredOf, IsClosed, IsAcknowledged, AreAnswered, IsEmpty}
use Rattle.history_book.specs.Entries.{Entry, ParcelAt, Accept, Mark, Assure, Read, Back, Shed, Deliver, Letters, Ack, Purge, Adopt, Opened}
use Rattle.history_book.specs.Holdings.{StopLeaves}
use Rattle.history_book.specs.Inputs.{Input, IsInput}
use Rattle.history_book.specs.Links.{Listening, Link, AreMadeOf, AreSettled, TakerSound, MayAnswer, is_same, row_of, rows_of, assured}
use Rattle.history_book.specs.Lists.{IsIn}
use Rattle.history_book.specs.Sound.{Places}
use Rattle.history_book.specs.Sources.{SourceLook, Sources, came_in, came_by, InputSound, IsReadOut}
use Rattle.history_book.specs.States.{Written, Out, State, start, next, after}
use Rattle.history_book.specs.Steps.{Step, steps, steps_of}
use Rattle.history_book.specs.Yards.{Accepted, accepted_in, accepted}
use Rattle.history_book.proofs.InputLists.{inputs_one}
use Rattle.history_book.proofs.Lists.{in_front, in_behind, in_either}
use Rattle.history_book.proofs.Mailing.{deeds_both}
use Rattle.history_book.proofs.Moments.{left_is_sound}
use Rattle.line_machine.specs.Accepting.{way_in, MayGive, IsWayIn}
use Rattle.line_machine.specs.Answering.{own_link, rows_at}
use Rattle.line_machine.specs.Choices.{NoneLost}
use Rattle.line_machine.specs.Coming.{RowIn, row_accepted, rows_by, WasAssured, AreRowsFor}
use Rattle.line_machine.specs.Covering.{number_accepted}
use Rattle.line_machine.specs.Ends.{TakerView, IsServed, SenderView, sender_at}
use Rattle.line_machine.specs.Finds.{IsAtEnd, ends_served}
use Rattle.line_machine.specs.Joining.{IsLinkOf, AreLinksOf, LooksStand, InputsAreSound, TakersAreSound, LinesDoLegally, ReleasedAreAnswered, RestIsDoneThere, StopIsStoppedThere, PipelinesAreSound}
use Rattle.line_machine.specs.Lines.{LineStands}
use Rattle.line_machine.specs.Resting.{RowsAreAssured, SentAreAnswered, IsAtStop}
use Rattle.line_machine.specs.Since.{since_behind, since, of_each}
use Rattle.line_machine.specs.Stands.{IsBatchOf, AreBatchesOf}
use Rattle.line_machine.specs.Steps as m
use Rattle.line_machine.specs.Views as views
use Rattle.line_machine.specs.Views.{Kit, Batch, Incoming, InputView, LineView, input_of}
use Rattle.line_machine.proofs.BatchLists.{batch_found}
use Rattle.line_machine.proofs.Inputs.{view_in, in_view}
use Rattle.line_machine.proofs.Inside.{did_behind}
use Rattle.line_machine.proofs.Settling.{by_account, rest_is_done, stop_is_stopped}
use Rattle.line_machine.proofs.Takers.{taker_in}

-- ---- lists

module _ {X Y : Type 0} (f : X → List Y) where
  in_flat : (y : Y) (xs : List X) (x : X) → IsIn x xs → IsIn y (f x) → IsIn y (flat_map f xs)
  in_flat y [] x has is = absurd has
  in_flat y (z ∷ xs) x (inl e) is = subst (IsIn y) (sym (flat_map-cons f z xs)) (in_front y (f z) (flat_map f xs) (subst (λ (w : X). IsIn y (f w)) e is))
  in_flat y (z ∷ xs) x (inr j) is = subst (IsIn y) (sym (flat_map-cons f z xs)) (in_behind y (f z) (flat_map f xs) (in_flat y xs x j is))

  from_flat : (y : Y) (xs : List X) → IsIn y (flat_map f xs) → (x : X) × IsIn x xs × IsIn y (f x)
  from_flat y [] has = absurd has
  from_flat y (x ∷ xs) has =
      ⊎_elim (λ (here : IsIn y (f x)). (x, inl refl, here)) (λ (later : IsIn y (flat_map f xs)). let rest = from_flat y xs later in (rest.0, inr rest.1, rest.2))
      (in_either y (f x) (flat_map f xs) (subst (IsIn y) (flat_map-cons f x xs) has))

map_both : {X Y : Type 0} (f : X → Y) (xs ys : List X) → map f (xs ++ ys) ≡ map f xs ++ map f ys
map_both f [] ys = refl
map_both f (x ∷ xs) ys = ap (λ l. f x ∷ l) (map_both f xs ys)

mapped : {X Y : Type 0} (f : X → Y) (x : X) (xs : List X) → IsIn x xs → IsIn (f x) (map f xs)
mapped f x [] has = absurd has
mapped f x (y ∷ xs) (inl e) = inl (ap f e)
mapped f x (y ∷ xs) (inr j) = inr (mapped f x xs j)

in_each : {X : Type 0} (f : Entry → List X) (x : X) (e : Entry) (es : List Entry) → IsIn e es → IsIn x (f e) → IsIn x (of_each f es)
in_each f x e [] has is = absurd has
in_each f x e (y ∷ es) (inl same) is = in_front x (f y) (of_each f es) (subst (λ (z : Entry). IsIn x (f z)) same is)
in_each f x e (y ∷ es) (inr j) is = in_behind x (f y) (of_each f es) (in_each f x e es j is)

ok_same : {X M : Type 0} (x y : X) → ◌≡◌ {A = Result X M} (Ok x) (Ok y) → x ≡ y
ok_same x y is = cc

some_none : {X : Type 0} (x : X) → None ≡ Some x → ⊥
some_none x e = cc

true_false : true ≡ false → ⊥
true_false e = cc

-- ---- what was told since the line was opened

abbrev entry_in : Step → Entry
entry_in step = step.entry

abbrev event_of : RowIn → Ev
event_of r = r.event

module _ (makes : Makes) where
  entries_behind : (s : State) (old : List Step) (found : List Entry) (told : List Entry) → map entry_in old ≡ found → map entry_in (steps makes s old told) ≡ since_behind found told
  entries_behind s old found [] same = same
  entries_behind s old found (Opened rows limit policy ∷ told) same = entries_behind (next makes s (Opened rows limit policy)) [] [] told refl
  entries_behind s old found (e ∷ told) same =
      entries_behind (next makes s e) (old ++ record { before = s; entry = e } ∷ []) (found ++ e ∷ []) told (map_both entry_in old (record { before = s; entry = e } ∷ []) ∙ ap (λ l. l ++ e ∷ []) same)

  entries_since : (told : List Entry) → map entry_in (steps_of makes told) ≡ since told
  entries_since told = entries_behind start [] [] told refl

  each_of_steps : {X : Type 0} (f : Entry → List X) (told : List Step) → flat_map (λ (step : Step). f step.entry) told ≡ of_each f (map entry_in told)
  each_of_steps f [] = refl
  each_of_steps f (step ∷ told) = flat_map-cons (λ (x : Step). f x.entry) step told ∙ ap (λ l. f step.entry ++ l) (each_of_steps f told)

  -- ---- what came to an input

  one_came : (n : ℕ) (e : Entry) → map event_of (row_accepted n e) ≡ came_in n e
  one_came n (Accept input None number event) = by_test (n == input)
    where
      by_test : (b : Bool) → map event_of (if b then record { number = number; event = event } ∷ [] else []) ≡ (if b then event ∷ [] else [])
      by_test true = refl
      by_test false = refl
  one_came n (Accept input (Some at) number event) = refl
  one_came n (Mark front) = refl
  one_came n (Assure input front) = refl
  one_came n (Read batch generation numbers) = refl
  one_came n (Back batch verdicts) = refl
  one_came n (Shed batch older newer) = refl
  one_came n (Deliver batch at events fates) = refl
  one_came n (Letters batch letters) = refl
  one_came n (Ack batch) = refl
  one_came n (Purge page) = refl
  one_came n (Adopt generation config draws) = refl
  one_came n (Opened rows limit policy) = refl

  all_came : (n : ℕ) (es : List Entry) → map event_of (of_each (row_accepted n) es) ≡ of_each (came_in n) es
  all_came n [] = refl
  all_came n (e ∷ es) = map_both event_of (row_accepted n e) (of_each (row_accepted n) es) ∙ ap₂ (λ (x y : List Ev). x ++ y) (one_came n e) (all_came n es)

  came_is : (n : ℕ) (told : List Entry) → came_by makes n told ≡ map event_of (rows_by n told)
  came_is n told = each_of_steps (came_in n) (steps_of makes told) ∙ ap (of_each (came_in n)) (entries_since told) ∙ sym (all_came n (since told))

rows_made : (applies : Ev → Ev) (rows : List RowIn) (xs : List Incoming) → AreRowsFor applies rows xs → map event_of rows ≡ map applies (map (λ (x : Incoming). x.event) xs)
rows_made applies [] [] are = refl
rows_made applies [] (x ∷ xs) are = absurd are
rows_made applies (r ∷ rows) [] are = absurd are
rows_made applies (r ∷ rows) (x ∷ xs) are = ap₂ (λ (e : Ev) (l : List Ev). e ∷ l) are.0 (rows_made applies rows xs are.1)

-- ---- what was accepted

-- the step at which the row was accepted
record IsAcceptedAt (makes : Makes) (told : List Entry) (a : Accepted) : Type 0 where
  step : Step
  is_step : IsIn step (steps_of makes told)
  event : Ev
  entry_is : step.entry ≡ Accept a.row.input a.parcel a.row.number event

module _ (makes : Makes) (told : List Entry) (a : Accepted) where
  accepted_at : IsIn a (accepted makes told) → IsAcceptedAt makes told a
  accepted_at has =
      let from = from_flat (λ (step : Step). accepted_in step.before step.entry) a (steps_of makes told) has in
      by_entry from.0 from.1 from.0.entry refl from.2
    where
      by_entry : (step : Step) → IsIn step (steps_of makes told) → (e : Entry) → step.entry ≡ e → IsIn a (accepted_in step.before e) → IsAcceptedAt makes told a
      by_entry step is (Accept input parcel number event) e (inl same) = record {
        step = step;
        is_step = is;
        event = event;
        entry_is = e ∙ ap (λ (y : Accepted). Accept y.row.input y.parcel y.row.number event) (sym same);
      }
      by_entry step is (Accept input parcel number event) e (inr never) = absurd never
      by_entry step is (Mark front) e has = absurd has
      by_entry step is (Assure input front) e has = absurd has
      by_entry step is (Read batch generation numbers) e has = absurd has
      by_entry step is (Back batch verdicts) e has = absurd has
      by_entry step is (Shed batch older newer) e has = absurd has
      by_entry step is (Deliver batch at events fates) e has = absurd has
      by_entry step is (Letters batch letters) e has = absurd has
      by_entry step is (Ack batch) e has = absurd has
      by_entry step is (Purge page) e has = absurd has
      by_entry step is (Adopt generation config draws) e has = absurd has
      by_entry step is (Opened rows limit policy) e has = absurd has

  module _ (is : IsAcceptedAt makes told a) where
    -- the entry is one of those since the line was opened
    accepted_since : IsIn (Accept a.row.input a.parcel a.row.number is.event) (since told)
    accepted_since = subst (IsIn (Accept a.row.input a.parcel a.row.number is.event)) (entries_since makes told) (subst (λ (e : Entry). IsIn e (map entry_in (steps_of makes told))) is.entry_is (mapped entry_in is.step (steps_of makes told) is.is_step))

    came_so : IsIn (record { input = a.row.input; parcel = a.parcel }) (of_each way_in (since told))
    came_so = in_each way_in (record { input = a.row.input; parcel = a.parcel }) (Accept a.row.input a.parcel a.row.number is.event) (since told) accepted_since (inl refl)

    number_so : IsIn a.row.number (of_each number_accepted (since told))
    number_so = in_each number_accepted a.row.number (Accept a.row.input a.parcel a.row.number is.event) (since told) accepted_since (inl refl)

    row_so : a.parcel ≡ None → IsIn (record { number = a.row.number; event = is.event }) (rows_by a.row.input told)
    row_so none =
        in_each (row_accepted a.row.input) made (Accept a.row.input None a.row.number is.event) (since told)
        (subst (λ (p : Option ParcelAt). IsIn (Accept a.row.input p a.row.number is.event) (since told)) none accepted_since)
        (subst (λ (b : Bool). IsIn made (if b then made ∷ [] else [])) (sym (eq-eqb a.row.input a.row.input refl)) (inl refl))
      where
        made : RowIn
        made = record { number = a.row.number; event = is.event }

    -- a row names the parcel
    named : (at : ParcelAt) → a.parcel ≡ Some at → rows_of makes at told ≡ [] → ⊥
    named at parcel none =
        subst (IsIn there) none (in_flat (λ (step : Step). row_of at step.before step.entry) there (steps_of makes told) is.step is.is_step
        (subst (λ (e : Entry). IsIn there (row_of at is.step.before e)) (sym (is.entry_is ∙ ap (λ (p : Option ParcelAt). Accept a.row.input p a.row.number is.event) parcel))
        (subst (λ (b : Bool). IsIn there (if b then there ∷ [] else [])) (sym same) (inl refl))))
      where
        there : Written
        there = record { number = a.row.number; input = a.row.input; under = is.step.before.plans; event = is.event }

        same : is_same at (Some at) ≡ true
        same = ap₂ (λ (x y : Bool). x && y) (eq-eqb at.place at.place refl) (eq-eqb at.number at.number refl)

-- ---- a line

module _ (makes : Makes) (listening : Listening) (bytes : Bytes) (places : Places) (earlier : List Entry) (came : ℕ → List Incoming) (i : LineView places) (done : List DeedOf) (k : ℕ)
    (line : LineStands makes listening bytes places earlier (deeds_by k done) came i) where
  abbrev told : List Entry
  told = told_by k done

  -- an input by what was told is one that the line has
  as_view : (n : ℕ) (x : Input) → IsInput (after makes start told).plans n x → (v : InputView) × IsIn v i.inputs × (x ≡ input_of v)
  as_view n x is =
      in_view x i.inputs (subst (IsIn x) (inputs_one (after makes start told).plans is.inputs (views.inputs_of i.inputs) is.are line.stands.knows.inputs) is.has)

  closed_here : (v : InputView) (n : ℕ) → IsIn v i.inputs → v.number ≡ n → v.is_open ≡ false → IsClosed makes listening told n
  closed_here v n has number closed =
      (input_of v, record { inputs = views.inputs_of i.inputs; are = line.stands.knows.inputs; has = view_in v i.inputs has; number_is = number }, closed)

  -- it was told so since the line was opened
  was_assured : (n number : ℕ) → WasAssured told n number → WasAssuredOf makes listening told n number
  was_assured n number was = record { front = was.0; is_told = subst (IsIn (Assure n was.0)) (sym (entries_since makes told)) was.1; covers = was.2 }

  -- ---- rows that came in no parcel

  lines_known : RowsAreAssured listening told i → (a : Accepted) → IsIn a (accepted makes told) → a.parcel ≡ None
      → IsClosed makes listening told a.row.input ⊎ WasAssuredOf makes listening told a.row.input a.row.number
  lines_known all a has none = by_open way.input.is_open refl
    where
      at : IsAcceptedAt makes told a
      at = accepted_at makes told a has

      way : IsWayIn listening i.inputs i.takers (record { input = a.row.input; parcel = a.parcel })
      way = line.ways (record { input = a.row.input; parcel = a.parcel }) (came_so makes told a at)

      row : IsIn (record { number = a.row.number; event = at.event }) (rows_by way.input.number told)
      row = subst (λ (n : ℕ). IsIn (record { number = a.row.number; event = at.event }) (rows_by n told)) (sym way.number_is) (row_so makes told a at none)

      by_open : (b : Bool) → way.input.is_open ≡ b → IsClosed makes listening told a.row.input ⊎ WasAssuredOf makes listening told a.row.input a.row.number
      by_open false e = inl (closed_here way.input a.row.input way.has way.number_is e)
      by_open true e =
          inr (was_assured a.row.input a.row.number (subst (λ (n : ℕ). WasAssured told n a.row.number) way.number_is
          (all way.input way.has e (subst (MayGive listening i.takers way.input) none (way.gives e)) (record { number = a.row.number; event = at.event }) row)))

  -- ---- parcels

  -- a parcel of which a row was made, and that was answered, was assured
  answered_so : (t : TakerView) → IsIn t i.takers → (number : ℕ) → (rows_at makes listening told t number ≡ [] → ⊥) → t.waits ≡ [] → IsIn (assured number) t.given
  answered_so t has number some none = subst (λ (x : Answer). IsIn x t.given) (is answer.0.answer refl) answer.1
    where
      parcel : (p : Parcel) × IsIn p t.taken × (p.number ≡ number) × (is_last p ≡ false)
      parcel = (line.links.each t has).sound.known number some

      answer : (a : Answer) × IsIn a t.given × (a.number ≡ parcel.0.number)
      answer = by_account t none parcel.0 ((line.links.each t has).accounted parcel.0 parcel.1 parcel.3)

      number_is : answer.0.number ≡ number
      number_is = answer.2 ∙ parcel.2

      refused : (h : Heard) → answer.0.answer ≡ h → MayAnswer makes listening told (own_link t) answer.0.number h
      refused h e = subst (MayAnswer makes listening told (own_link t) answer.0.number) e ((line.links.each t has).sound.answers answer.0 answer.1)

      is : (h : Heard) → answer.0.answer ≡ h → answer.0 ≡ assured number
      is Assured e = ap₂ (λ (n : ℕ) (x : Heard). record { number = n; answer = x }) number_is e
      is NotListening e = absurd (some (ap (rows_at makes listening told t) (sym number_is) ∙ (refused NotListening e).1))

  -- and that is known, where no end has a parcel that waits
  parcels_known : (links : List Link) → AreLinksOf k links i.takers → ((t : TakerView) → IsIn t i.takers → t.waits ≡ []) → (a : Accepted) → IsIn a (accepted makes told) → (at : ParcelAt) → a.parcel ≡ Some at
      → IsClosed makes listening told a.row.input ⊎ IsAcknowledged makes listening told k links a.row (Some at)
  parcels_known links are none a has at parcel = by_open way.input.is_open refl
    where
      accepted_there : IsAcceptedAt makes told a
      accepted_there = accepted_at makes told a has

      way : IsWayIn listening i.inputs i.takers (record { input = a.row.input; parcel = a.parcel })
      way = line.ways (record { input = a.row.input; parcel = a.parcel }) (came_so makes told a accepted_there)

      some_row : (t : TakerView) → t.place ≡ at.place → rows_at makes listening told t at.number ≡ [] → ⊥
      some_row t place empty = named makes told a accepted_there at parcel (ap (λ (p : ℕ). rows_of makes (record { place = p; number = at.number }) told) (sym place) ∙ empty)

      at_end : (t : TakerView) × IsIn t i.takers × (t.place ≡ at.place) × (t.input ≡ way.input.number) → IsAcknowledged makes listening told k links a.row (Some at)
      at_end end =
          let t = end.0 in
          let l = are.there t end.1 in
          (l.0, l.1, l.2.to, l.2.place_is ∙ end.2, subst (IsIn (assured at.number)) (sym l.2.given_is) (answered_so t end.1 at.number (some_row t end.2) (none t end.1)))

      by_open : (b : Bool) → way.input.is_open ≡ b → IsClosed makes listening told a.row.input ⊎ IsAcknowledged makes listening told k links a.row (Some at)
      by_open false e = inl (closed_here way.input a.row.input way.has way.number_is e)
      by_open true e = inr (at_end (subst (MayGive listening i.takers way.input) parcel (way.gives e)))

  all_known : (links : List Link) → AreLinksOf k links i.takers → ((t : TakerView) → IsIn t i.takers → t.waits ≡ []) → RowsAreAssured listening told i → (a : Accepted) → IsIn a (accepted makes told)
      → IsClosed makes listening told a.row.input ⊎ IsAcknowledged makes listening told k links a.row a.parcel
  all_known links are none all a has = by_parcel a.parcel refl
    where
      by_parcel : (p : Option ParcelAt) → a.parcel ≡ p → IsClosed makes listening told a.row.input ⊎ IsAcknowledged makes listening told k links a.row a.parcel
      by_parcel None e = subst (λ (p : Option ParcelAt). IsClosed makes listening told a.row.input ⊎ IsAcknowledged makes listening told k links a.row p) (sym e) (lines_known all a has e)
      by_parcel (Some at) e = subst (λ (p : Option ParcelAt). IsClosed makes listening told a.row.input ⊎ IsAcknowledged makes listening told k links a.row p) (sym e) (parcels_known links are none a has at e)

  -- what was taken at an end where no parcel waits
  taken_so : (t : TakerView) (l : Link) → IsIn t i.takers → IsLinkOf k t l → t.waits ≡ [] → AreAnswered l.taken l.given
  taken_so t l has is none p taken some =
      let answer = by_account t none p ((line.links.each t has).accounted p (subst (IsIn p) is.taken_is taken) some) in
      (answer.0, subst (IsIn answer.0) (sym is.given_is) answer.1, answer.2)

  -- what was sent
  sent_so : SentAreAnswered i → run.SentAnswered done k
  sent_so all address p sent some = by_end (sender_at address i.senders) refl
    where
      by_end : (o : Option SenderView) → sender_at address i.senders ≡ o → (a : Answer) × IsIn a (heard_on address (mail_of k done).heard) × (a.number ≡ p.number)
      by_end None e = absurd (subst (IsIn p) (line.senders.none address e).0 sent)
      by_end (Some s) e =
          let mail = line.senders.mail address s e in
          let answer = all address s e p (subst (IsIn p) (sym mail.sent) sent) some in
          (answer.0, subst (IsIn answer.0) mail.heard answer.1, answer.2)

  -- ---- its queue

  empty_so : (sources : Sources) (image : Image) → ((w : Written) → IsIn w (after makes start told).rows → IsIn w.number (after makes start told).acknowledged) → (left : StopLeaves makes bytes places told i.holds image)
      → left.queue.held.rows ≡ [] → IsEmpty makes listening sources places told image
  empty_so sources image acked left none = record {
    rows = acked;
    none_found = λ rows is. ap (λ (x : Found). x.rows) (ok_same rows left.queue.held (sym is ∙ left.queue.is_found)) ∙ none;
  }

  -- ---- its inputs

  input_so : (sources : Sources) (looks : ℕ → List SourceLook) → LooksStand listening sources i came looks → (v : InputView) → IsIn v i.inputs → v.is_open ≡ true → listening.address v.statement ≡ None
      → InputSound makes listening sources told (looks v.number) (input_of v)
  input_so sources looks stand v has opens lines =
      let is = line.inputs.each v has opens lines in
      let look = stand v has opens lines in
      record {
        accepted = map (λ (x : Incoming). x.event) is.accepted;
        held = map (λ (x : Incoming). x.event) v.held;
        gave = look.gave ∙ ap (map (λ (x : Incoming). x.event)) is.came_is ∙ map_both (λ (x : Incoming). x.event) is.accepted v.held;
        came = came_is makes v.number told ∙ rows_made (listening.applies v.statement) (rows_by v.number told) is.accepted is.rows_are;
      }

  read_so : (sources : Sources) (looks : ℕ → List SourceLook) → LooksStand listening sources i came looks → i.stopped ≡ false → (v : InputView) → IsIn v i.inputs → v.is_open ≡ true
      → listening.address v.statement ≡ None → IsAtEnd listening i v → IsReadOut makes listening sources told (looks v.number) (input_of v)
  read_so sources looks stand running v has opens lines (inl at) = absurd (some_none at.0 (sym lines ∙ at.1))
  read_so sources looks stand running v has opens lines (inr (other, inl stopped)) = absurd (true_false (sym stopped ∙ running))
  read_so sources looks stand running v has opens lines (inr (other, inr ends)) =
      let is = line.inputs.each v has opens lines in
      let look = stand v has opens lines in
      let all : is.accepted ≡ came v.number = sym (is.came_is ∙ ap (λ l. is.accepted ++ l) ends.1 ∙ append-nil is.accepted) in
      record {
        ended = look.ended running ends.0;
        came = came_is makes v.number told ∙ rows_made (listening.applies v.statement) (rows_by v.number told) is.accepted is.rows_are
            ∙ ap (map (listening.applies v.statement)) (ap (map (λ (x : Incoming). x.event)) all ∙ sym look.gave);
      }

  -- ---- batches

  batch_for : (o : Out) (bs : List Batch) (os : List Out) → AreBatchesOf bs os → IsIn o os → (b : Batch) × IsIn b bs × IsBatchOf b o
  batch_for o [] [] are has = absurd has
  batch_for o [] (x ∷ os) are has = absurd are
  batch_for o (b ∷ bs) [] are has = absurd are
  batch_for o (b ∷ bs) (x ∷ os) are (inl e) = (b, inl refl, subst (IsBatchOf b) (sym e) are.0)
  batch_for o (b ∷ bs) (x ∷ os) are (inr j) = let rest = batch_for o bs os are.1 j in (rest.0, inr rest.1, rest.2)

  no_job : NoneLost i → IsAtStop listening i → (o : Out) → IsIn o (after makes start told).out → o.verdicts ≡ None → ⊥
  no_job none stop o has away =
      let b = batch_for o i.batches (after makes start told).out line.stands.knows.batches has in
      by_kit b.0 b.1 (sym b.2.verdicts ∙ away) b.0.kit refl
    where
      by_kit : (b : Batch) → IsIn b i.batches → b.verdicts ≡ None → (kit : Option Kit) → b.kit ≡ kit → ⊥
      by_kit b there out None e = none b there out e
      by_kit b there out (Some kit) e = stop.no_jobs b.number (record { batch = b; has = batch_found b i.batches line.senders.differ there; away = out; kit = kit; kit_is = e })

-- ---- the laws

pub inputs_are_sound : (makes : Makes) (listening : Listening) (bytes : Bytes) (places : Places) → InputsAreSound makes listening bytes places
inputs_are_sound makes listening bytes places sources earlier came i done k looks line stand x is opens lines =
    let view = as_view makes listening bytes places earlier came i done k line x.number x is in
    subst (λ (y : Input). InputSound makes listening sources (told_by k done) (looks y.number) y) (sym view.2)
    (input_so makes listening bytes places earlier came i done k line sources looks stand view.0 view.1 (sym (ap (λ (y : Input). y.is_open) view.2) ∙ opens)
    (sym (ap (λ (y : Input). listening.address y.statement) view.2) ∙ lines))

pub takers_are_sound : (makes : Makes) (listening : Listening) (bytes : Bytes) (places : Places) → TakersAreSound makes listening bytes places
takers_are_sound makes listening bytes places earlier came i done k t l line has is = record {
  made = λ p taken some. subst (λ (x : ℕ). AreMadeOf listening l.address (rows_of makes (record { place = x; number = p.number }) told) p.events) (sym is.place_is)
      (subst (λ (address : List ℕ). AreMadeOf listening address (rows_at makes listening told t p.number) p.events) (sym is.address_is) (sound.made p (subst (IsIn p) is.taken_is taken) some));
  known = λ number some.
      let parcel = sound.known number (λ none. some (ap (λ (x : ℕ). rows_of makes (record { place = x; number = number }) told) is.place_is ∙ none)) in
      (parcel.0, subst (IsIn parcel.0) (sym is.taken_is) parcel.1, parcel.2, parcel.3);
  answers = λ a given. moved a.number a.answer (sound.answers a (subst (IsIn a) is.given_is given));
}
  where
    told : List Entry
    told = told_by k done

    sound : TakerSound makes listening told (own_link t)
    sound = (line.links.each t has).sound

    moved : (n : ℕ) (h : Heard) → MayAnswer makes listening told (own_link t) n h → MayAnswer makes listening told l n h
    moved n Assured s = record {
      parcel = s.parcel;
      is_taken = subst (IsIn s.parcel) (sym is.taken_is) s.is_taken;
      number_is = s.number_is;
      some = s.some;
      whole = subst (λ (x : ℕ). length (rows_of makes (record { place = x; number = n }) told) ≡ length s.parcel.events) (sym is.place_is) s.whole;
      settled = subst (λ (x : ℕ). AreSettled (after makes start told).front (rows_of makes (record { place = x; number = n }) told)) (sym is.place_is) s.settled;
    }
    moved n NotListening s = (λ p taken. s.0 p (subst (IsIn p) is.taken_is taken), ap (λ (x : ℕ). rows_of makes (record { place = x; number = n }) told) is.place_is ∙ s.1)

-- what a pipeline did in earlier runs are entries alone
told_deeds : (k : ℕ) (first : List DeedOf) → AreTold first → deeds_by k first ≡ tell_all (told_by k first)
told_deeds k [] are = refl
told_deeds k (d ∷ first) are = by_test (told_deeds k first are.1) (k == d.line)
  where
    by_test : deeds_by k first ≡ tell_all (told_by k first) → (b : Bool)
        → (if b then d.deed ∷ deeds_by k first else deeds_by k first) ≡ tell_all (told_of (if b then d.deed ∷ deeds_by k first else deeds_by k first))
    by_test rest true =
        subst (λ (x : Deed). x ∷ deeds_by k first ≡ tell_all (told_of (x ∷ deeds_by k first))) (sym are.0.1) (ap (λ (l : List Deed). Tell are.0.0 ∷ l) rest)
    by_test rest false = rest

pub lines_do_legally : (makes : Makes) (listening : Listening) (bytes : Bytes) (places : Places) → LinesDoLegally makes listening bytes places
lines_do_legally makes listening bytes places came i first since k entries line =
    did_behind makes (told_by k first) (deeds_by k (first ++ since)) (deeds_by k since) line.senders.left
    (deeds_both k first since ∙ ap (λ (l : List Deed). l ++ deeds_by k since) (told_deeds k first entries)) line.senders.legal

pub pipelines_are_sound : PipelinesAreSound
pipelines_are_sound m bases earlier came done k i files image line left positions = record {
  line = left_is_sound m.makes m.bytes (bases.places k) (told_by k done) i.holds image line.stands.holds left;
  positions = positions;
}

pub released_are_answered : (makes : Makes) (listening : Listening) (bytes : Bytes) (places : Places) → ReleasedAreAnswered makes listening bytes places
released_are_answered makes listening bytes places entries i (m.Releases place t at free) links u (inl same) p taken some =
    by_account u (ap (λ (x : TakerView). x.waits) same ∙ free.none) p ((links.each u (subst (λ (x : TakerView). IsIn x i.takers) (sym same) (taker_in place t i.takers at).0)).accounted p taken some)
released_are_answered makes listening bytes places entries i (m.Releases place t at free) links u (inr never) p taken some = absurd never
released_are_answered makes listening bytes places entries i x links u has p taken some = absurd has

pub rest_is_done_there : (makes : Makes) (listening : Listening) (bytes : Bytes) (places : Places) → RestIsDoneThere makes listening bytes places
rest_is_done_there makes listening bytes places sources earlier came i done links k looks image line stand are rest left =
    let is = rest_is_done makes listening bytes places earlier (deeds_by k done) came i line rest in
    record {
      ended = λ x input opens lines.
          let view = as_view makes listening bytes places earlier came i done k line x.number x input in
          let now_open = sym (ap (λ (y : Input). y.is_open) view.2) ∙ opens in
          subst (λ (y : Input). IsReadOut makes listening sources (told_by k done) (looks y.number) y) (sym view.2)
          (read_so makes listening bytes places earlier came i done k line sources looks stand rest.running view.0 view.1 now_open
          (sym (ap (λ (y : Input). listening.address y.statement) view.2) ∙ lines) (is.inputs view.0 view.1 now_open));
      empty = empty_so makes listening bytes places earlier came i done k line sources image is.rows left (is.found image left);
      none_out = is.out;
      known = λ a has. all_known makes listening bytes places earlier came i done k line links are (λ t there. (rest.ended.answered t there (all_served t.place)).0) is.assured a has;
      taken = λ l has to always. answered l (are.each l has to);
      sent = sent_so makes listening bytes places earlier came i done k line is.sent;
    }
  where
    all_served : (place : ℕ) → IsServed (ends_served i) place
    all_served place = subst (λ (b : Bool). IsServed (if b then Some i.going else None) place) (sym rest.running) tt

    answered : (l : Link) → ((t : TakerView) × IsIn t i.takers × IsLinkOf k t l) ⊎ AreAnswered l.taken l.given → AreAnswered l.taken l.given
    answered l (inl end) = taken_so makes listening bytes places earlier came i done k line end.0 l end.1 end.2 (rest.ended.answered end.0 end.1 (all_served end.0.place)).0
    answered l (inr all) = all

pub stop_is_stopped_there : (makes : Makes) (listening : Listening) (bytes : Bytes) (places : Places) → StopIsStoppedThere makes listening bytes places
stop_is_stopped_there makes listening bytes places sources earlier came i done links k drains image line none are goes drained stop left =
    let is = stop_is_stopped makes listening bytes places earlier (deeds_by k done) came i line stop in
    record {
      no_jobs = no_job makes listening bytes places earlier came i done k line none stop;
      settled = λ a has. is.marked a.row.number (number_so makes (told_by k done) a (accepted_at makes (told_by k done) a has));
      known = λ a has parcel. lines_known makes listening bytes places earlier came i done k line is.assured a has parcel;
      taken = λ l has to served. answered l has served (are.each l has to);
      empty = λ on. empty_so makes listening bytes places earlier came i done k line sources image (is.rows (drained on)) left (is.recorded (drained on) image left);
      sent = λ on. sent_so makes listening bytes places earlier came i done k line (is.sent (drained on));
    }
  where
    answered : (l : Link) → IsIn l links → run.IsServed drains l → ((t : TakerView) × IsIn t i.takers × IsLinkOf k t l) ⊎ AreAnswered l.taken l.given → AreAnswered l.taken l.given
    answered l has drained_by (inl end) =
        let served = subst (λ (b : Bool). IsServed (if b then Some i.going else None) end.0.place) (sym stop.told_to) (goes end.0 l end.1 has end.2 drained_by) in
        taken_so makes listening bytes places earlier came i done k line end.0 l end.1 end.2 (stop.answered end.0 end.1 served).0
    answered l has drained_by (inr all) = all
