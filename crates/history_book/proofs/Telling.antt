-- What was told of batches, and what files hold of it.
use Rattle.std.proofs.Common.{◌≡◌, ◌⊎◌, inl, inr, ⊎_elim, ℕ, List, [], ◌∷◌, ◌++◌, length, take, Option, Some, None, refl, sym, ap, ◌∙◌, subst}
use Rattle.event_tree.specs.declared.lists.DeadPart.{DeadPart}
use Rattle.event_tree.specs.Events.{Ev}
use Rattle.foreign_parts.specs.declared.output.Fate.{Fate}
use Rattle.foreign_parts.specs.declared.place.Place.{Place}
use Rattle.std.proofs.lemmas.Option.{same_Some}
use Rattle.event_flow.specs.Meaning.{Makes, Due}
use Rattle.event_flow.specs.Meaning as due
use Rattle.history_book.specs.Entries.{Entry, Accept, Mark, Assure, Read, Back, Shed, Deliver, Letters, Ack, Purge, Adopt, Opened}
use Rattle.history_book.specs.Lists.{IsIn}
use Rattle.history_book.specs.States.{Plan, Out, State, start, newest, unread, out_of, change, fresh, brought_back, told_from, told_next, left_of, reads, tells_letters, next, after}
use Rattle.history_book.specs.Legal.{MayDeliver, Legal_at, Legal}
use Rattle.history_book.specs.Laws.{Tells, WasTold, DeliveriesWereTold}
use Rattle.history_book.proofs.Lists.{in_either}
use Rattle.history_book.proofs.Histories.{legal_first}
use Rattle.history_book.proofs.Outs.{IsChanged, change_in, without_in, out_in}

-- the entry tells the delivery that is next of the batch
abbrev TellsFirst : Entry → ℕ → Out → Type 0
TellsFirst e batch was = (x : Due) (left : List Due) → was.left ≡ x ∷ left → Tells e batch x

first_same : (x y : Due) (xs ys : List Due) → x ∷ xs ≡ y ∷ ys → x ≡ y
first_same x y xs ys e = cc

delivery_tells : (s : State) (batch : ℕ) (at : Place) (events : List Ev) (fates : List Fate) → MayDeliver s batch at events fates → (was : Out) → out_of batch s.out ≡ Some was
    → TellsFirst (Deliver batch at events fates) batch was
delivery_tells s batch at events fates may was found x left is =
    let one = same_Some may.is_back.out was (sym may.is_back.has ∙ found) in
    (refl, may.id, first_same x (due.Events may.id at events) left may.rest (sym is ∙ sym (ap (λ (o : Out). o.left) one) ∙ may.is_back.left_is))

letters_tell : (s : State) (batch : ℕ) (letters ds : List DeadPart) (rest : List Due) → left_of (out_of batch s.out) ≡ due.Letters ds ∷ rest → (was : Out) → out_of batch s.out ≡ Some was
    → TellsFirst (Letters batch letters) batch was
letters_tell s batch letters ds rest left_is was found x left is =
    (refl, ds, first_same x (due.Letters ds) left rest (sym is ∙ sym (ap left_of found) ∙ left_is))

-- it was told of a batch with this plan
abbrev ToldOf : Plan → Due → Out → Type 0
ToldOf plan d o = (o.plan ≡ plan) × IsIn d o.told

module _ (makes : Makes) (plan : Plan) (d : Due) where
  -- it was told before of some batch that is out, or since
  abbrev WasKnown : State → List Entry → Type 0
  WasKnown s told = ((o : Out) × IsIn o s.out × ToldOf plan d o) ⊎ WasTold makes s told plan d

  at_once : (s : State) (e : Entry) (told : List Entry) (batch : ℕ) (was : Out) → out_of batch s.out ≡ Some was → TellsFirst e batch was → (left : List Due) → was.left ≡ left
      → ToldOf plan d (told_next was) → WasKnown s (e ∷ told)
  at_once s e told batch was found tells [] none t = inl (was, out_in batch was s.out found, subst (ToldOf plan d) (told_none was none) t)
    where
      told_none : (o : Out) → o.left ≡ [] → told_next o ≡ o
      told_none o empty = ap (told_from o) empty
  at_once s e told batch was found tells (x ∷ left) some t = by_part (in_either d was.told (x ∷ []) (subst (λ (o : Out). IsIn d o.told) (told_some was some) t.1))
    where
      told_some : (o : Out) → o.left ≡ x ∷ left → told_next o ≡ record o { told = o.told ++ x ∷ []; left = left }
      told_some o is = ap (told_from o) is

      plan_of : was.plan ≡ plan
      plan_of = ap (λ (o : Out). o.plan) (sym (told_some was some)) ∙ t.0

      by_part : IsIn d was.told ⊎ IsIn d (x ∷ []) → WasKnown s (e ∷ told)
      by_part (inl i) = inl (was, out_in batch was s.out found, (plan_of, i))
      by_part (inr (inl same)) = inr (record {
        before = [];
        entry = e;
        rest = told;
        parts = refl;
        batch = batch;
        tells = subst (Tells e batch) (sym same) (tells x left some);
        out = was;
        was_out = found;
        plan_is = plan_of;
        left = left;
        next = some ∙ ap (λ (y : Due). y ∷ left) (sym same);
      })
      by_part (inr (inr never)) = absurd never

  changed_known : (s : State) (e : Entry) (told : List Entry) (batch : ℕ) → ((was : Out) → out_of batch s.out ≡ Some was → TellsFirst e batch was) → (o : Out) → IsIn o (change told_next batch s.out) → ToldOf plan d o → WasKnown s (e ∷ told)
  changed_known s e told batch tells o i t =
      ⊎_elim (λ (j : IsIn o s.out). inl (o, j, t))
      (λ (c : IsChanged told_next batch s.out o). at_once s e told batch c.was c.found (tells c.was c.found) c.was.left refl (subst (ToldOf plan d) c.is t))
      (change_in batch o told_next s.out i)

  back_known : (s : State) (told : List Entry) (batch : ℕ) (f : Out → Out) → ((x : Out) → (f x).told ≡ []) → (e : Entry) (o : Out) → IsIn o (change f batch s.out) → ToldOf plan d o
      → WasKnown s (e ∷ told)
  back_known s told batch f none e o i t =
      ⊎_elim (λ (j : IsIn o s.out). inl (o, j, t))
      (λ (c : IsChanged f batch s.out o). absurd (subst (IsIn d) (ap (λ (x : Out). x.told) c.is ∙ none c.was) t.1))
      (change_in batch o f s.out i)

  read_known : (s : State) (e : Entry) (told : List Entry) (batch : ℕ) (numbers : List ℕ) (p : Option Plan) (o : Out) → IsIn o (reads s batch numbers p).out → ToldOf plan d o
      → WasKnown s (e ∷ told)
  read_known s e told batch numbers None o i t = inl (o, i, t)
  read_known s e told batch numbers (Some p) o i t =
      ⊎_elim (λ (j : IsIn o s.out). inl (o, j, t)) new (in_either o s.out (fresh batch p (take (length numbers) (unread s)) ∷ []) i)
    where
      new : IsIn o (fresh batch p (take (length numbers) (unread s)) ∷ []) → WasKnown s (e ∷ told)
      new (inl same) = absurd (subst (IsIn d) (ap (λ (x : Out). x.told) same) t.1)
      new (inr never) = absurd never

  letters_known : (s : State) (told : List Entry) (batch : ℕ) (letters : List DeadPart) (left : List Due) → left_of (out_of batch s.out) ≡ left → (o : Out)
      → IsIn o (tells_letters s batch letters left).out → ToldOf plan d o → WasKnown s (Letters batch letters ∷ told)
  letters_known s told batch letters [] is o i t = inl (o, i, t)
  letters_known s told batch letters (due.Letters ds ∷ rest) is o i t =
      changed_known s (Letters batch letters) told batch (letters_tell s batch letters ds rest is) o i t
  letters_known s told batch letters (due.Events id at es ∷ rest) is o i t = inl (o, i, t)

  step_known : (s : State) (e : Entry) (told : List Entry) → Legal_at makes s e → (o : Out) → IsIn o (next makes s e).out → ToldOf plan d o → WasKnown s (e ∷ told)
  step_known s (Accept input parcel number event) told legal o i t = inl (o, i, t)
  step_known s (Mark front) told legal o i t = inl (o, i, t)
  step_known s (Assure input front) told legal o i t = inl (o, i, t)
  step_known s (Read batch generation numbers) told legal o i t = read_known s (Read batch generation numbers) told batch numbers (newest s.plans) o i t
  step_known s (Back batch verdicts) told legal o i t = back_known s told batch (brought_back makes verdicts) (λ x. refl) (Back batch verdicts) o i t
  step_known s (Shed batch older newer) told legal o i t = inl (o, i, t)
  step_known s (Deliver batch at events fates) told legal o i t = changed_known s (Deliver batch at events fates) told batch (delivery_tells s batch at events fates legal) o i t
  step_known s (Letters batch letters) told legal o i t = letters_known s told batch letters (left_of (out_of batch s.out)) refl o i t
  step_known s (Ack batch) told legal o i t = inl (o, without_in batch o s.out i, t)
  step_known s (Purge page) told legal o i t = inl (o, i, t)
  step_known s (Adopt generation config draws) told legal o i t = inl (o, i, t)
  step_known s (Opened rows limit policy) told legal o i t = absurd i

  later : (s : State) (e : Entry) (told : List Entry) → WasTold makes (next makes s e) told plan d → WasTold makes s (e ∷ told) plan d
  later s e told w = record {
    before = e ∷ w.before;
    entry = w.entry;
    rest = w.rest;
    parts = ap (λ (l : List Entry). e ∷ l) w.parts;
    batch = w.batch;
    tells = w.tells;
    out = w.out;
    was_out = w.was_out;
    plan_is = w.plan_is;
    left = w.left;
    next = w.next;
  }

  known : (s : State) (told : List Entry) → Legal makes s told → (o : Out) → IsIn o (after makes s told).out → ToldOf plan d o → WasKnown s told
  known s [] legal o i t = inl (o, i, t)
  known s (e ∷ told) legal o i t =
      ⊎_elim (λ (k : (x : Out) × IsIn x (next makes s e).out × ToldOf plan d x). step_known s e told legal.0 k.0 k.1 k.2)
      (λ (w : WasTold makes (next makes s e) told plan d). inr (later s e told w)) (known (next makes s e) told legal.1 o i t)

pub deliveries_were_told : DeliveriesWereTold
deliveries_were_told makes told row legal w d i =
    let legal_before = legal_first makes start w.before (Ack w.batch ∷ w.rest) (subst (Legal makes start) w.parts legal) in
    ⊎_elim (λ (k : (x : Out) × IsIn x start.out × ToldOf w.out.plan d x). absurd k.1) (λ (t : WasTold makes start w.before w.out.plan d). t)
    (known makes w.out.plan d start w.before legal_before w.out (out_in w.batch w.out (after makes start w.before).out w.was_out) (refl, i))
