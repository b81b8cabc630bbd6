-- What stdout and boxes were given of what was told.
use Rattle.std.proofs.Common.{◌≡◌, ℕ, ◌==◌, List, [], ◌∷◌, ◌++◌, Bool, true, false, if◌then◌else◌, refl, sym, ap, ap₂, ◌∙◌, append-nil, append_assoc}
use Rattle.std.proofs.lemmas.Bool.{eqb-true, eq-eqb}
use Rattle.event_tree.specs.Events.{Ev}
use Rattle.event_tree.specs.declared.lists.DeadPart.{DeadPart}
use Rattle.foreign_parts.specs.Delivering.{taken}
use Rattle.foreign_parts.specs.declared.place.Place.{Place}
use Rattle.foreign_parts.specs.declared.place.Place.TheVariants as place
use Rattle.event_flow.specs.Meaning.{Makes, Due}
use Rattle.event_flow.specs.Meaning as due
use Rattle.history_book.specs.Contents.{bytes_at, next_bytes, is_stdout}
use Rattle.history_book.specs.Deeds.{Deed, Tell, Send, Hear, DeedOf, deeds_by, told_of, told_by}
use Rattle.history_book.specs.Entries.{Entry, Accept, Mark, Assure, Read, Back, Shed, Deliver, Letters, Ack, Purge, Adopt, Opened}
use Rattle.history_book.specs.Givings.{OpensNone, NoneOpened, with_entry, with_deed, given_from, given_by, WasDone, ToldWereDone, RunsGiveToStdout, RunsGiveToBoxes}
use Rattle.history_book.specs.Laws.{Tells, fates_of}
use Rattle.history_book.specs.States.{Plan, State, start, out_of, after}
use Rattle.history_book.specs.Steps.{NoOpening, given_in, printed_in}

-- an entry that tells events is their delivery
pub delivery_of : (e : Entry) (batch : ℕ) (id : List ℕ) (at : Place) (events : List Ev) → Tells e batch (due.Events id at events) → e ≡ Deliver batch at events (fates_of e)
delivery_of (Deliver b to es fates) batch id at events tells = same tells.0 tells.2
  where
    same : b ≡ batch → due.Events id at events ≡ due.Events tells.1 to es → Deliver b to es fates ≡ Deliver batch at events fates
    same one two = cc
delivery_of (Letters b letters) batch id at events tells = absurd (differ tells.1 tells.2)
  where
    differ : (ds : List DeadPart) → due.Events id at events ≡ due.Letters ds → ⊥
    differ ds e = cc
delivery_of (Accept input parcel number event) batch id at events tells = absurd tells
delivery_of (Mark front) batch id at events tells = absurd tells
delivery_of (Assure input front) batch id at events tells = absurd tells
delivery_of (Read b generation numbers) batch id at events tells = absurd tells
delivery_of (Back b verdicts) batch id at events tells = absurd tells
delivery_of (Shed b older newer) batch id at events tells = absurd tells
delivery_of (Ack b) batch id at events tells = absurd tells
delivery_of (Purge page) batch id at events tells = absurd tells
delivery_of (Adopt generation config draws) batch id at events tells = absurd tells
delivery_of (Opened rows limit policy) batch id at events tells = absurd tells

-- ---- at which moment of the run a pipeline told an entry

record IsAt (k : ℕ) (done : List DeedOf) (front : List Entry) (e : Entry) : Type 0 where
  pub before : List DeedOf
  pub rest : List DeedOf
  pub parts : done ≡ before ++ record { line = k; deed = Tell e } ∷ rest
  pub told : told_by k before ≡ front

module _ (k : ℕ) (e : Entry) (back : List Entry) where
  behind : (d : DeedOf) (done : List DeedOf) (front now : List Entry) → ((xs : List Deed) → told_of (if k == d.line then d.deed ∷ xs else xs) ≡ now ++ told_of xs) → IsAt k done front e → IsAt k (d ∷ done) (now ++ front) e
  behind d done front now adds i =
      record { before = d ∷ i.before; rest = i.rest; parts = ap (λ l. d ∷ l) i.parts; told = adds (deeds_by k i.before) ∙ ap (λ l. now ++ l) i.told }

  told_at : (done : List DeedOf) (front : List Entry) → told_by k done ≡ front ++ e ∷ back → IsAt k done front e
  told_at [] [] is = absurd (cc)
  told_at [] (x ∷ front) is = absurd (cc)
  told_at (d ∷ done) front is = by_test (λ xs j. told_at done xs j) (k == d.line) refl is
    where
      same : {b : Bool} → (k == d.line) ≡ b → (xs : List Deed) → told_of (if k == d.line then d.deed ∷ xs else xs) ≡ told_of (if b then d.deed ∷ xs else xs)
      same test xs = ap (λ (c : Bool). told_of (if c then d.deed ∷ xs else xs)) test

      it_is : (x : Entry) → d.deed ≡ Tell x → k ≡ d.line → d ≡ record { line = k; deed = Tell x }
      it_is x deed line = ap₂ (λ (n : ℕ) (y : Deed). record { line = n; deed = y }) (sym line) deed

      of_deed : ((xs : List Entry) → told_by k done ≡ xs ++ e ∷ back → IsAt k done xs e) → (k == d.line) ≡ true → (deed : Deed) → d.deed ≡ deed → (xs : List Entry)
          → told_of (deed ∷ deeds_by k done) ≡ xs ++ e ∷ back → IsAt k (d ∷ done) xs e
      of_deed rest test (Tell x) deed [] told = record {
        before = [];
        rest = done;
        parts = ap (λ (y : DeedOf). y ∷ done) (it_is x deed (eqb-true k d.line test) ∙ ap (λ (y : Entry). record { line = k; deed = Tell y }) (head told));
        told = refl;
      }
        where
          head : x ∷ told_by k done ≡ e ∷ back → x ≡ e
          head both = cc
      of_deed rest test (Tell x) deed (y ∷ xs) told =
          behind d done xs (y ∷ []) (λ l. same test l ∙ ap (λ (z : Deed). told_of (z ∷ l)) deed ∙ ap (λ (z : Entry). z ∷ told_of l) (head told)) (rest xs (tail told))
        where
          head : x ∷ told_by k done ≡ y ∷ (xs ++ e ∷ back) → x ≡ y
          head both = cc

          tail : x ∷ told_by k done ≡ y ∷ (xs ++ e ∷ back) → told_by k done ≡ xs ++ e ∷ back
          tail both = cc
      of_deed rest test (Send to p) deed xs told = behind d done xs [] (λ l. same test l ∙ ap (λ (z : Deed). told_of (z ∷ l)) deed) (rest xs told)
      of_deed rest test (Hear from a) deed xs told = behind d done xs [] (λ l. same test l ∙ ap (λ (z : Deed). told_of (z ∷ l)) deed) (rest xs told)

      by_test : ((xs : List Entry) → told_by k done ≡ xs ++ e ∷ back → IsAt k done xs e) → (b : Bool) → (k == d.line) ≡ b → told_of (if b then d.deed ∷ deeds_by k done else deeds_by k done) ≡ front ++ e ∷ back
          → IsAt k (d ∷ done) front e
      by_test rest true test told = of_deed rest test d.deed refl front told
      by_test rest false test told = behind d done front [] (λ l. same test l) (rest front told)

pub told_were_done : ToldWereDone
told_were_done makes done k plan d w =
    let i = told_at k w.entry w.rest done w.before w.parts in
    record {
      before = i.before;
      entry = w.entry;
      rest = i.rest;
      parts = i.parts;
      batch = w.batch;
      tells = w.tells;
      out = w.out;
      was_out = ap (λ (l : List Entry). out_of w.batch (after makes start l).out) i.told ∙ w.was_out;
      plan_is = w.plan_is;
      left = w.left;
      next = w.next;
    }

-- ---- what is given since any pipeline was last opened

module _ {X : Type 0} (makes : Makes) (gives : State → Entry → List X) where
  -- an entry that is no opening adds what it gives
  entry_adds : (old : List X) (s : State) (e : Entry) → NoOpening (e ∷ []) → with_entry makes gives old s e ≡ old ++ gives s e
  entry_adds old s (Accept input parcel number event) none = refl
  entry_adds old s (Mark front) none = refl
  entry_adds old s (Assure input front) none = refl
  entry_adds old s (Read batch generation numbers) none = refl
  entry_adds old s (Back batch verdicts) none = refl
  entry_adds old s (Shed batch older newer) none = refl
  entry_adds old s (Deliver batch at events fates) none = refl
  entry_adds old s (Letters batch letters) none = refl
  entry_adds old s (Ack batch) none = refl
  entry_adds old s (Purge page) none = refl
  entry_adds old s (Adopt generation config draws) none = refl
  entry_adds old s (Opened rows limit policy) none = absurd none

  deed_adds : (before : List DeedOf) (old : List X) (k : ℕ) (d : Deed) → OpensNone d → (more : List X) × (with_deed makes gives before old k d ≡ old ++ more)
  deed_adds before old k (Tell e) none = (gives (after makes start (told_by k before)) e, entry_adds old (after makes start (told_by k before)) e none)
  deed_adds before old k (Send to p) none = ([], sym (append-nil old))
  deed_adds before old k (Hear from a) none = ([], sym (append-nil old))

  given_stays : (before : List DeedOf) (old : List X) (done : List DeedOf) → NoneOpened done → (more : List X) × (given_from makes gives before old done ≡ old ++ more)
  given_stays before old [] none = ([], sym (append-nil old))
  given_stays before old (d ∷ done) none =
      let one = deed_adds before old d.line d.deed none.0 in
      let rest = given_stays (before ++ d ∷ []) (with_deed makes gives before old d.line d.deed) done none.1 in
      (one.0 ++ rest.0, rest.1 ∙ ap (λ l. l ++ rest.0) one.1 ∙ append_assoc old one.0 rest.0)

  given_both : (before : List DeedOf) (old : List X) (xs ys : List DeedOf) → given_from makes gives before old (xs ++ ys) ≡ given_from makes gives (before ++ xs) (given_from makes gives before old xs) ys
  given_both before old [] ys = ap (λ (b : List DeedOf). given_from makes gives b old ys) (sym (append-nil before))
  given_both before old (d ∷ xs) ys =
      given_both (before ++ d ∷ []) (with_deed makes gives before old d.line d.deed) xs ys
      ∙ ap (λ (b : List DeedOf). given_from makes gives b (given_from makes gives (before ++ d ∷ []) (with_deed makes gives before old d.line d.deed) xs) ys) (append_assoc before (d ∷ []) xs)

  -- of an entry behind which no pipeline was opened it is part
  given_at : (before : List DeedOf) (k : ℕ) (e : Entry) (rest : List DeedOf) → NoOpening (e ∷ []) → NoneOpened rest
      → (front : List X) × (back : List X) × (given_by makes gives (before ++ record { line = k; deed = Tell e } ∷ rest) ≡ (front ++ gives (after makes start (told_by k before)) e) ++ back)
  given_at before k e rest one none =
      let d : DeedOf = record { line = k; deed = Tell e } in
      let s = after makes start (told_by k before) in
      let front = given_by makes gives before in
      let more = given_stays (before ++ d ∷ []) (with_entry makes gives front s e) rest none in (
        front,
        more.0,
        given_both [] [] before (d ∷ rest) ∙ more.1 ∙ ap (λ l. l ++ more.0) (entry_adds front s e one),
      )

-- an entry that tells a delivery is no opening
telling_unopened : (e : Entry) (batch : ℕ) (d : Due) → Tells e batch d → NoOpening (e ∷ [])
telling_unopened (Accept input parcel number event) batch d tells = tt
telling_unopened (Mark front) batch d tells = tt
telling_unopened (Assure input front) batch d tells = tt
telling_unopened (Read b generation numbers) batch d tells = tt
telling_unopened (Back b verdicts) batch d tells = tt
telling_unopened (Shed b older newer) batch d tells = tt
telling_unopened (Letters b letters) batch d tells = tt
telling_unopened (Ack b) batch d tells = tt
telling_unopened (Purge page) batch d tells = tt
telling_unopened (Adopt generation config draws) batch d tells = tt
telling_unopened (Deliver b at events fates) batch d tells = tt
telling_unopened (Opened rows limit policy) batch d tells = tells

module _ {X : Type 0} (makes : Makes) (gives : State → Entry → List X) (done : List DeedOf) (k : ℕ) (plan : Plan) (id : List ℕ) (at : Place) (events : List Ev)
    (w : WasDone makes done k plan (due.Events id at events)) (none : NoneOpened w.rest) where
  given_there : (front : List X) × (back : List X)
      × (given_by makes gives done ≡ (front ++ gives (after makes start (told_by k w.before)) (Deliver w.batch at events (fates_of w.entry))) ++ back)
  given_there =
      let found = given_at makes gives w.before k w.entry w.rest (telling_unopened w.entry w.batch (due.Events id at events) w.tells) none in (
        found.0,
        found.1,
        ap (given_by makes gives) w.parts ∙ found.2
            ∙ ap (λ (e : Entry). (found.0 ++ gives (after makes start (told_by k w.before)) e) ++ found.1) (delivery_of w.entry w.batch id at events w.tells),
      )

pub runs_give_to_stdout : RunsGiveToStdout
runs_give_to_stdout makes bytes done k plan id events w none =
    let found = given_there makes (printed_in bytes) done k plan id place.Stdout events w none in (
      found.0,
      found.1,
      found.2 ∙ ap (λ (l : List ℕ). (found.0 ++ l) ++ found.1)
          (ap (next_bytes bytes is_stdout) w.was_out ∙ ap (bytes_at bytes is_stdout w.out.plan.config) w.next ∙ ap (λ (p : Plan). bytes p.config id events) w.plan_is),
    )

pub runs_give_to_boxes : RunsGiveToBoxes
runs_give_to_boxes makes number done k plan id events w none =
    let found = given_there makes (λ s. given_in number) done k plan id (place.Foreign number) events w none in (
      found.0,
      found.1,
      found.2 ∙ ap (λ (b : Bool). (found.0 ++ (if b then taken (fates_of w.entry) events else [])) ++ found.1) (eq-eqb number number refl),
    )
