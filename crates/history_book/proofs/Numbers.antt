-- The numbers of rows, and the rows of batches, behind a legal history.
use Rattle.std.proofs.Common.{◌≡◌, inl, inr, ⊎_elim, ℕ, zero, suc, ◌≤◌, ◌<◌, ◌+◌, ◌&&◌, not, nat_le, Bool, true, false, List, [], ◌∷◌, ◌++◌, length, take, Option, Some, None, refl, sym, ap, ◌∙◌, subst, arith}
use Rattle.std.proofs.lemmas.Bool.{leb-true}
use Rattle.event_tree.specs.declared.lists.DeadPart.{DeadPart}
use Rattle.event_flow.specs.Meaning.{Makes, Due}
use Rattle.event_flow.specs.Meaning as due
use Rattle.queue_files.specs.Found.{Row}
use Rattle.history_book.specs.Entries.{Entry, Accept, Mark, Assure, Read, Back, Shed, Deliver, Letters, Ack, Purge, Adopt, Opened}
use Rattle.history_book.specs.Legal.{Legal_at, Legal}
use Rattle.history_book.specs.Lists.{IsIn}
use Rattle.history_book.specs.States.{Plan, Written, Out, Limits, State, start, newest, unread, is_unread, out_of, change, without, fresh, brought_back, told_from, told_next, left_of, numbers_of, numbers_out, is_among, numbers_found, top_of, reads, tells_letters, opens, written, next, after}
use Rattle.history_book.proofs.Lists.{in_front, in_either, filter_has, filter_passes}
use Rattle.history_book.proofs.Outs.{IsChanged, change_in, without_in, out_in}

-- ---- numbers of rows

-- rows have numbers below the least that may come next, and no two have one
pub record AreNumbered (rows : List Written) (low : ℕ) : Type 0 where
  pub below : (w : Written) → IsIn w rows → w.number < low
  pub unique : (v w : Written) → IsIn v rows → IsIn w rows → v.number ≡ w.number → v ≡ w

one_more : (rows : List Written) (low : ℕ) (x : Written) → low ≤ x.number → AreNumbered rows low → AreNumbered (rows ++ x ∷ []) (x.number + 1)
one_more rows low x least are = record {
  below = λ w i. ⊎_elim (λ (j : IsIn w rows). let less = are.below w j in omega (arith, less, least)) (λ (j : IsIn w (x ∷ [])). is_last w j) (in_either w rows (x ∷ []) i);
  unique = λ v w i j same.
      ⊎_elim (λ (a : IsIn v rows). ⊎_elim (λ (b : IsIn w rows). are.unique v w a b same) (λ (b : IsIn w (x ∷ [])). absurd (apart v w a b same)) (in_either w rows (x ∷ []) j))
      (λ (a : IsIn v (x ∷ [])). ⊎_elim (λ (b : IsIn w rows). absurd (apart w v b a (sym same))) (λ (b : IsIn w (x ∷ [])). only v a ∙ sym (only w b)) (in_either w rows (x ∷ []) j))
      (in_either v rows (x ∷ []) i);
}
  where
    only : (w : Written) → IsIn w (x ∷ []) → w ≡ x
    only w (inl e) = e
    only w (inr never) = absurd never

    is_last : (w : Written) → IsIn w (x ∷ []) → w.number < x.number + 1
    is_last w (inl e) = let same = ap (λ (v : Written). v.number) e in omega (arith, same)
    is_last w (inr never) = absurd never

    apart : (v w : Written) → IsIn v rows → IsIn w (x ∷ []) → v.number ≡ w.number → ⊥
    apart v w a (inl e) same = let less = are.below v a in let is = ap (λ (u : Written). u.number) e in omega (arith, less, least, is, same)
    apart v w a (inr never) same = absurd never

weaker : (rows : List Written) (low more : ℕ) → low ≤ more → AreNumbered rows low → AreNumbered rows more
weaker rows low more less are = record { below = λ w i. let b = are.below w i in omega (arith, b, less); unique = are.unique }

-- Rows are numbered, what is acknowledged has numbers below the next, and the rows of batches are rows.
pub record IsSane (s : State) : Type 0 where
  pub numbered : AreNumbered s.rows s.low
  pub acked : (n : ℕ) → IsIn n s.acknowledged → n < s.low
  pub outs : (o : Out) (w : Written) → IsIn o s.out → IsIn w o.rows → IsIn w s.rows

pub start_sane : IsSane start
start_sane = record { numbered = record { below = λ w i. absurd i; unique = λ v w i. absurd i }; acked = λ n i. absurd i; outs = λ o w i. absurd i }

pub take_has : {X : Type 0} (x : X) (n : ℕ) (xs : List X) → IsIn x (take n xs) → IsIn x xs
take_has x zero xs i = absurd i
take_has x (suc n) [] i = absurd i
take_has x (suc n) (y ∷ ys) (inl e) = inl e
take_has x (suc n) (y ∷ ys) (inr i) = inr (take_has x n ys i)

-- a row with this number
pub numbers_have : (n : ℕ) (rows : List Written) → IsIn n (numbers_of rows) → (w : Written) × IsIn w rows × (n ≡ w.number)
numbers_have n [] i = absurd i
numbers_have n (w ∷ rows) (inl e) = (w, inl refl, e)
numbers_have n (w ∷ rows) (inr i) = let rest = numbers_have n rows i in (rest.0, inr rest.1, rest.2)

-- the batches with one of them changed, whose rows stay
change_sane : (s : State) (f : Out → Out) (batch : ℕ) → ((o : Out) → (f o).rows ≡ o.rows) → IsSane s → (o : Out) (w : Written) → IsIn o (change f batch s.out) → IsIn w o.rows → IsIn w s.rows
change_sane s f batch keeps sane o w i j =
    ⊎_elim (λ (k : IsIn o s.out). sane.outs o w k j)
    (λ (c : IsChanged f batch s.out o). sane.outs c.was w (out_in batch c.was s.out c.found) (subst (IsIn w) (ap (λ (x : Out). x.rows) c.is ∙ keeps c.was) j))
    (change_in batch o f s.out i)

told_rows : (o : Out) (left : List Due) → (told_from o left).rows ≡ o.rows
told_rows o [] = refl
told_rows o (d ∷ rest) = refl

pub and_first : (x y : Bool) → (x && y) ≡ true → x ≡ true
and_first true y e = refl
and_first false y e = e

pub and_second : (x y : Bool) → (x && y) ≡ true → y ≡ true
and_second true y e = e
and_second false y e = absurd (cc)

module _ (makes : Makes) where
  accept_sane : (s : State) (input number : ℕ) (w : Written) → w.number ≡ number → s.low ≤ number → IsSane s
      → IsSane (record s { rows = s.rows ++ w ∷ []; low = number + 1; high = number + 1 })
  accept_sane s input number w same least sane = record {
    numbered = subst (λ (n : ℕ). AreNumbered (s.rows ++ w ∷ []) (n + 1)) same (one_more s.rows s.low w (omega (arith, same, least)) sane.numbered);
    acked = λ n i. let less = sane.acked n i in omega (arith, less, least);
    outs = λ o v i j. in_front v s.rows (w ∷ []) (sane.outs o v i j);
  }

  read_sane : (s : State) (batch : ℕ) (numbers : List ℕ) (plan : Option Plan) → IsSane s → IsSane (reads s batch numbers plan)
  read_sane s batch numbers None sane = sane
  read_sane s batch numbers (Some plan) sane = record {
    numbered = sane.numbered;
    acked = sane.acked;
    outs = λ o w i j. ⊎_elim (λ (k : IsIn o s.out). sane.outs o w k j) (λ (k : IsIn o (new ∷ [])). new_rows o w k j) (in_either o s.out (new ∷ []) i);
  }
    where
      new : Out
      new = fresh batch plan (take (length numbers) (unread s))

      new_rows : (o : Out) (w : Written) → IsIn o (fresh batch plan (take (length numbers) (unread s)) ∷ []) → IsIn w o.rows → IsIn w s.rows
      new_rows o w (inl e) j = filter_has w (is_unread s) s.rows (take_has w (length numbers) (unread s) (subst (IsIn w) (ap (λ (x : Out). x.rows) e) j))
      new_rows o w (inr never) j = absurd never

  letters_sane : (s : State) (batch : ℕ) (letters : List DeadPart) (left : List Due) → IsSane s → IsSane (tells_letters s batch letters left)
  letters_sane s batch letters [] sane = sane
  letters_sane s batch letters (due.Letters ds ∷ rest) sane =
      record { numbered = sane.numbered; acked = sane.acked; outs = change_sane s told_next batch (λ o. told_rows o o.left) sane }
  letters_sane s batch letters (due.Events id at es ∷ rest) sane = record { numbered = sane.numbered; acked = sane.acked; outs = sane.outs }

  some_numbers : (s : State) (o : Option Out) (batch : ℕ) → out_of batch s.out ≡ o → IsSane s → (n : ℕ) → IsIn n (numbers_out o) → n < s.low
  some_numbers s None batch is sane n i = absurd i
  some_numbers s (Some o) batch is sane n i =
      let row = numbers_have n o.rows i in
      let less = sane.numbered.below row.0 (sane.outs o row.0 (out_in batch o s.out is) row.1) in
      omega (arith, less, row.2)

  ack_sane : (s : State) (batch : ℕ) → IsSane s → IsSane (record s { acknowledged = s.acknowledged ++ numbers_out (out_of batch s.out); out = without batch s.out })
  ack_sane s batch sane = record {
    numbered = sane.numbered;
    acked = λ n i. ⊎_elim (sane.acked n) (some_numbers s (out_of batch s.out) batch refl sane n) (in_either n s.acknowledged (numbers_out (out_of batch s.out)) i);
    outs = λ o w i j. sane.outs o w (without_in batch o s.out i) j;
  }

  -- those up to the top
  abbrev up_to : State → List Row → Written → Bool
  up_to s rows w = nat_le w.number (top_of s rows)

  abbrev still : State → List Row → ℕ → Bool
  still s rows n = nat_le n (top_of s rows) && not (is_among n (numbers_found rows))

  opened_sane : (s : State) (rows : List Row) (limits : Limits) → IsSane s → IsSane (opens s rows limits)
  opened_sane s rows limits sane = record {
    numbered = record {
      below = λ w i. let less = leb-true w.number (top_of s rows) (filter_passes w (up_to s rows) s.rows i) in omega (arith, less);
      unique = λ v w i j same. sane.numbered.unique v w (filter_has v (up_to s rows) s.rows i) (filter_has w (up_to s rows) s.rows j) same;
    };
    acked = λ n i. let less = leb-true n (top_of s rows) (and_first _ _ (filter_passes n (still s rows) s.acknowledged i)) in omega (arith, less);
    outs = λ o w i. absurd i;
  }

  mark_sane : (s : State) (front : ℕ) → s.low ≤ front + 1 → IsSane s → IsSane (record s { front = front; low = front + 1; high = front + 1 })
  mark_sane s front less sane =
      record { numbered = weaker s.rows s.low (front + 1) less sane.numbered; acked = λ n i. let b = sane.acked n i in omega (arith, b, less); outs = sane.outs }

  pub next_sane : (s : State) (e : Entry) → Legal_at makes s e → IsSane s → IsSane (next makes s e)
  next_sane s (Accept input parcel number event) legal sane = accept_sane s input number (written s input number event) refl legal.1 sane
  next_sane s (Mark front) legal sane = mark_sane s front legal.1 sane
  next_sane s (Assure input front) legal sane = sane
  next_sane s (Read batch generation numbers) legal sane = read_sane s batch numbers (newest s.plans) sane
  next_sane s (Back batch verdicts) legal sane =
      record { numbered = sane.numbered; acked = sane.acked; outs = change_sane s (brought_back makes verdicts) batch (λ o. refl) sane }
  next_sane s (Shed batch older newer) legal sane = record { numbered = sane.numbered; acked = sane.acked; outs = sane.outs }
  next_sane s (Deliver batch at events fates) legal sane =
      record { numbered = sane.numbered; acked = sane.acked; outs = change_sane s told_next batch (λ o. told_rows o o.left) sane }
  next_sane s (Letters batch letters) legal sane = letters_sane s batch letters (left_of (out_of batch s.out)) sane
  next_sane s (Ack batch) legal sane = ack_sane s batch sane
  next_sane s (Purge page) legal sane = sane
  next_sane s (Adopt generation config draws) legal sane = record { numbered = sane.numbered; acked = sane.acked; outs = sane.outs }
  next_sane s (Opened rows limit policy) legal sane = opened_sane s rows (record { limit = limit; policy = policy }) sane

  pub all_sane : (s : State) (told : List Entry) → Legal makes s told → IsSane s → IsSane (after makes s told)
  all_sane s [] legal sane = sane
  all_sane s (e ∷ told) legal sane = all_sane (next makes s e) told legal.1 (next_sane s e legal.0 sane)
