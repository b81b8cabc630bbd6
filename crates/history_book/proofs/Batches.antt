-- What was told of a batch that is back, and what is left of it, are what is due of it.
use Rattle.std.proofs.Common.{◌≡◌, ⊎_elim, ℕ, ◌==◌, true, false, List, [], ◌∷◌, ◌++◌, length, take, Option, Some, None, sym, ap, ◌∙◌, subst, append_assoc, refl}
use Rattle.std.proofs.lemmas.Option.{same_Some}
use Rattle.std.specs.Prelude.{⊤}
use Rattle.std.proofs.lemmas.Bool.{cases_Bool}
use Rattle.std.specs.List.{AllByRecursion}
use Rattle.event_tree.specs.declared.lists.DeadPart.{DeadPart}
use Rattle.foreign_parts.specs.declared.filter.Verdict.{Verdict}
use Rattle.event_flow.specs.Meaning.{Makes, Due}
use Rattle.event_flow.specs.Meaning as due
use Rattle.history_book.specs.Entries.{Entry, Accept, Mark, Assure, Read, Back, Shed, Deliver, Letters, Ack, Purge, Adopt, Opened}
use Rattle.history_book.specs.States.{Plan, Out, State, out_of, change, without, fresh, due_of, brought_back, told_from, told_next, left_of, newest, unread, reads, tells_letters, next}
use Rattle.history_book.proofs.Outs.{changed_by, left_by, found_by}

module _ (makes : Makes) where
  abbrev pub AsDue : Out → Option (List Verdict) → Type 0
  AsDue o None = ⊤
  AsDue o (Some verdicts) = o.told ++ o.left ≡ due_of makes o verdicts

  abbrev pub IsDue : Out → Type 0
  IsDue o = AsDue o o.verdicts

  abbrev pub AreDue : List Out → Type 0
  AreDue os = AllByRecursion IsDue os

  told_due : (o : Out) (left : List Due) → o.left ≡ left → IsDue o → IsDue (told_from o left)
  told_due o [] is due_now = due_now
  told_due o (d ∷ rest) is due_now = by_verdicts o.verdicts due_now
    where
      by_verdicts : (vs : Option (List Verdict)) → AsDue o vs → AsDue (record o { told = o.told ++ d ∷ []; left = rest }) vs
      by_verdicts None now = tt
      by_verdicts (Some vs) now = append_assoc o.told (d ∷ []) rest ∙ ap (λ (l : List Due). o.told ++ l) (sym is) ∙ now

  change_due : (f : Out → Out) → ((o : Out) → IsDue o → IsDue (f o)) → (batch : ℕ) (os : List Out) → AreDue os → AreDue (change f batch os)
  change_due f keeps batch [] all = tt
  change_due f keeps batch (o ∷ os) all =
      ⊎_elim (λ (yes : (batch == o.batch) ≡ true). subst (λ b. AreDue (changed_by f batch o os b)) (sym yes) (keeps o all.0, all.1))
      (λ (no : (batch == o.batch) ≡ false). subst (λ b. AreDue (changed_by f batch o os b)) (sym no) (all.0, change_due f keeps batch os all.1))
      (cases_Bool (batch == o.batch))

  without_due : (batch : ℕ) (os : List Out) → AreDue os → AreDue (without batch os)
  without_due batch [] all = tt
  without_due batch (o ∷ os) all =
      ⊎_elim (λ (yes : (batch == o.batch) ≡ true). subst (λ b. AreDue (left_by batch o os b)) (sym yes) all.1)
      (λ (no : (batch == o.batch) ≡ false). subst (λ b. AreDue (left_by batch o os b)) (sym no) (all.0, without_due batch os all.1))
      (cases_Bool (batch == o.batch))

  with_due : (os : List Out) (o : Out) → AreDue os → IsDue o → AreDue (os ++ o ∷ [])
  with_due [] o all is = (is, tt)
  with_due (x ∷ os) o all is = (all.0, with_due os o all.1 is)

  pub found_due : (batch : ℕ) (os : List Out) (o : Out) → AreDue os → out_of batch os ≡ Some o → IsDue o
  found_due batch [] o all is = absurd (cc)
  found_due batch (x ∷ os) o all is =
      ⊎_elim (λ (yes : (batch == x.batch) ≡ true). some_due (subst (λ b. found_by batch x os b ≡ Some o) yes is))
      (λ (no : (batch == x.batch) ≡ false). found_due batch os o all.1 (subst (λ b. found_by batch x os b ≡ Some o) no is))
      (cases_Bool (batch == x.batch))
    where
      some_due : Some x ≡ Some o → IsDue o
      some_due same = subst IsDue (same_Some x o same) all.0

  reads_due : (s : State) (batch : ℕ) (numbers : List ℕ) (plan : Option Plan) → AreDue s.out → AreDue (reads s batch numbers plan).out
  reads_due s batch numbers None all = all
  reads_due s batch numbers (Some plan) all = with_due s.out (fresh batch plan (take (length numbers) (unread s))) all tt

  letters_due : (s : State) (batch : ℕ) (letters : List DeadPart) (left : List Due) → AreDue s.out → AreDue (tells_letters s batch letters left).out
  letters_due s batch letters [] all = all
  letters_due s batch letters (due.Letters ds ∷ rest) all = change_due told_next (λ o is. told_due o o.left refl is) batch s.out all
  letters_due s batch letters (due.Events id at es ∷ rest) all = all

  pub next_due : (s : State) (entry : Entry) → AreDue s.out → AreDue (next makes s entry).out
  next_due s (Accept input parcel number event) all = all
  next_due s (Mark front) all = all
  next_due s (Assure input front) all = all
  next_due s (Read batch generation numbers) all = reads_due s batch numbers (newest s.plans) all
  next_due s (Back batch verdicts) all = change_due (brought_back makes verdicts) (λ o is. refl) batch s.out all
  next_due s (Shed batch older newer) all = all
  next_due s (Deliver batch at events fates) all = change_due told_next (λ o is. told_due o o.left refl is) batch s.out all
  next_due s (Letters batch letters) all = letters_due s batch letters (left_of (out_of batch s.out)) all
  next_due s (Ack batch) all = without_due batch s.out all
  next_due s (Purge page) all = all
  next_due s (Adopt generation config draws) all = all
  next_due s (Opened rows limit policy) all = tt
