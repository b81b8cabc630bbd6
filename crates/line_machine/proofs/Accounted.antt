-- A row that a batch was given is acknowledged, or in a batch that is out.
use Rattle.std.proofs.Common.{◌≡◌, ◌⊎◌, inl, inr, ⊎_elim, ℕ, ◌==◌, Bool, true, false, List, [], ◌∷◌, ◌++◌, length, take, Option, Some, None, if◌then◌else◌, refl, sym, ap, ap₂, ◌∙◌, subst, arith}
use Rattle.std.proofs.lemmas.List.{length-map, take-append-le, take_all}
use Rattle.event_tree.specs.declared.lists.DeadPart.{DeadPart}
use Rattle.event_flow.specs.Meaning.{Makes, Due}
use Rattle.event_flow.specs.Meaning as due
use Rattle.history_book.specs.Entries.{Entry, Accept, Mark, Assure, Read, Back, Shed, Deliver, Letters, Ack, Purge, Adopt, Opened}
use Rattle.history_book.specs.Legal.{Legal_at, Legal}
use Rattle.history_book.specs.Lists.{IsIn}
use Rattle.history_book.specs.States.{Plan, Written, Out, State, start, newest, unread, numbers_of, numbers_out, out_of, change, without, fresh, brought_back, told_from, told_next, reads, left_of, tells_letters, next, after}
use Rattle.history_book.proofs.Lists.{in_front, in_behind, in_either}

-- it is in one of these batches
pub record IsOut (n : ℕ) (os : List Out) : Type 0 where
  pub out : Out
  pub is_in : IsIn out os
  pub has : IsIn n (numbers_of out.rows)

abbrev pub IsAccounted : State → Type 0
IsAccounted s = (n : ℕ) → IsIn n s.read → IsIn n s.acknowledged ⊎ IsOut n s.out

out_later : (n : ℕ) (o : Out) (os : List Out) → IsOut n os → IsOut n (o ∷ os)
out_later n o os x = record { out = x.out; is_in = inr x.is_in; has = x.has }

module _ (n batch : ℕ) where
  -- a batch that is changed keeps its rows
  out_changed : (f : Out → Out) → ((o : Out) → (f o).rows ≡ o.rows) → (os : List Out) → IsOut n os → IsOut n (change f batch os)
  out_changed f keeps [] x = absurd x.is_in
  out_changed f keeps (o ∷ os) x = by_place (λ y. out_changed f keeps os y) x.is_in
    where
      here : x.out ≡ o → (b : Bool) → IsOut n (if b then f o ∷ os else o ∷ change f batch os)
      here e true = record { out = f o; is_in = inl refl; has = subst (λ ws. IsIn n (numbers_of ws)) (ap (λ (y : Out). y.rows) e ∙ sym (keeps o)) x.has }
      here e false = record { out = o; is_in = inl refl; has = subst (λ ws. IsIn n (numbers_of ws)) (ap (λ (y : Out). y.rows) e) x.has }

      there : IsIn x.out os → IsOut n (change f batch os) → (b : Bool) → IsOut n (if b then f o ∷ os else o ∷ change f batch os)
      there i rest true = record { out = x.out; is_in = inr i; has = x.has }
      there i rest false = out_later n o (change f batch os) rest

      by_place : (IsOut n os → IsOut n (change f batch os)) → IsIn x.out (o ∷ os) → IsOut n (change f batch (o ∷ os))
      by_place rest (inl e) = here e (batch == o.batch)
      by_place rest (inr i) = there i (rest (record { out = x.out; is_in = i; has = x.has })) (batch == o.batch)

  -- a batch that leaves was the one of this number
  out_left : (os : List Out) → IsOut n os → IsIn n (numbers_out (out_of batch os)) ⊎ IsOut n (without batch os)
  out_left [] x = absurd x.is_in
  out_left (o ∷ os) x = by_place (λ y. out_left os y) x.is_in
    where
      here : x.out ≡ o → (b : Bool) → IsIn n (numbers_out (if b then Some o else out_of batch os)) ⊎ IsOut n (if b then os else o ∷ without batch os)
      here e true = inl (subst (λ ws. IsIn n (numbers_of ws)) (ap (λ (y : Out). y.rows) e) x.has)
      here e false = inr (record { out = o; is_in = inl refl; has = subst (λ ws. IsIn n (numbers_of ws)) (ap (λ (y : Out). y.rows) e) x.has })

      there : IsIn x.out os → IsIn n (numbers_out (out_of batch os)) ⊎ IsOut n (without batch os) → (b : Bool)
          → IsIn n (numbers_out (if b then Some o else out_of batch os)) ⊎ IsOut n (if b then os else o ∷ without batch os)
      there i rest true = inr (record { out = x.out; is_in = i; has = x.has })
      there i (inl left) false = inl left
      there i (inr left) false = inr (out_later n o (without batch os) left)

      by_place : (IsOut n os → IsIn n (numbers_out (out_of batch os)) ⊎ IsOut n (without batch os)) → IsIn x.out (o ∷ os) → IsIn n (numbers_out (out_of batch (o ∷ os))) ⊎ IsOut n (without batch (o ∷ os))
      by_place rest (inl e) = here e (batch == o.batch)
      by_place rest (inr i) = there i (rest (record { out = x.out; is_in = i; has = x.has })) (batch == o.batch)

module _ (makes : Makes) where
  changed : (s : State) (f : Out → Out) (batch : ℕ) → ((o : Out) → (f o).rows ≡ o.rows) → IsAccounted s → (n : ℕ) → IsIn n s.read → IsIn n s.acknowledged ⊎ IsOut n (change f batch s.out)
  changed s f batch keeps is n has = ⊎_elim (λ (a : IsIn n s.acknowledged). inl a) (λ (o : IsOut n s.out). inr (out_changed n batch f keeps s.out o)) (is n has)

  told_rows : (o : Out) (left : List Due) → (told_from o left).rows ≡ o.rows
  told_rows o [] = refl
  told_rows o (d ∷ left) = refl

  read_by : (s : State) (batch : ℕ) (numbers : List ℕ) (plan : Option Plan) (rows rest : List Written) → unread s ≡ rows ++ rest → numbers ≡ numbers_of rows → IsAccounted s → IsAccounted (reads s batch numbers plan)
  read_by s batch numbers None rows rest first are is = is
  read_by s batch numbers (Some plan) rows rest first are is = λ n has.
      ⊎_elim (λ (i : IsIn n s.read).
      ⊎_elim (λ (a : IsIn n s.acknowledged). inl a) (λ (o : IsOut n s.out). inr (record { out = o.out; is_in = in_front o.out s.out (new ∷ []) o.is_in; has = o.has })) (is n i))
      (λ (i : IsIn n numbers). inr (record { out = new; is_in = in_behind new s.out (new ∷ []) (inl refl); has = subst (IsIn n) (are ∙ ap numbers_of (sym taken)) i }))
      (in_either n s.read numbers has)
    where
      new : Out
      new = fresh batch plan (take (length numbers) (unread s))

      taken : take (length numbers) (unread s) ≡ rows
      taken =
          ap₂ (λ (k : ℕ) (l : List Written). take k l) (ap length are ∙ length-map rows (λ (w : Written). w.number)) first ∙ take-append-le (length rows) rows rest (omega arith)
          ∙ take_all (length rows) rows (omega arith)

  letters_by : (s : State) (batch : ℕ) (letters : List DeadPart) (left : List Due) → IsAccounted s → IsAccounted (tells_letters s batch letters left)
  letters_by s batch letters [] is = is
  letters_by s batch letters (due.Letters ds ∷ rest) is = changed s told_next batch (λ o. told_rows o o.left) is
  letters_by s batch letters (due.Events id at es ∷ rest) is = is

  next_accounted : (s : State) (e : Entry) → Legal_at makes s e → IsAccounted s → IsAccounted (next makes s e)
  next_accounted s (Accept input parcel number event) legal is = is
  next_accounted s (Mark front) legal is = is
  next_accounted s (Assure input front) legal is = is
  next_accounted s (Read batch generation numbers) legal is = read_by s batch numbers (newest s.plans) legal.rows legal.rest legal.first legal.numbers_are is
  next_accounted s (Back batch verdicts) legal is = changed s (brought_back makes verdicts) batch (λ o. refl) is
  next_accounted s (Shed batch older newer) legal is = is
  next_accounted s (Deliver batch place events fates) legal is = changed s told_next batch (λ o. told_rows o o.left) is
  next_accounted s (Letters batch letters) legal is = letters_by s batch letters (left_of (out_of batch s.out)) is
  next_accounted s (Ack batch) legal is = λ n has.
      ⊎_elim (λ (a : IsIn n s.acknowledged). inl (in_front n s.acknowledged (numbers_out (out_of batch s.out)) a))
      (λ (o : IsOut n s.out).
      ⊎_elim (λ (a : IsIn n (numbers_out (out_of batch s.out))). inl (in_behind n s.acknowledged (numbers_out (out_of batch s.out)) a)) (λ (l : IsOut n (without batch s.out)). inr l) (out_left n batch s.out o)) (is n has)
  next_accounted s (Purge page) legal is = is
  next_accounted s (Adopt generation config draws) legal is = is
  next_accounted s (Opened rows limit policy) legal is = λ n has. absurd has

  pub all_accounted : (s : State) (told : List Entry) → Legal makes s told → IsAccounted s → IsAccounted (after makes s told)
  all_accounted s [] legal is = is
  all_accounted s (e ∷ told) legal is = all_accounted (next makes s e) told legal.1 (next_accounted s e legal.0 is)

pub start_accounted : IsAccounted start
start_accounted n has = absurd has
