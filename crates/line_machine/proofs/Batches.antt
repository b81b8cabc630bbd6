-- Batches of a line and of its history, one beside the other.
use Rattle.std.proofs.Common.{◌≡◌, inl, inr, ⊎_elim, ℕ, ◌<◌, ◌==◌, arith, Bool, true, false, List, [], ◌∷◌, ◌++◌, length, take, Some, None, if◌then◌else◌, refl, sym, ap, ap₂, ◌∙◌, subst}
use Rattle.std.proofs.lemmas.Bool.{cases_Bool, eqb-true, eq-eqb}
use Rattle.event_tree.specs.Events.{Ev}
use Rattle.queue_files.specs.Found.{Row}
use Rattle.history_book.specs.Lists.{IsIn}
use Rattle.history_book.specs.Queues.{AreRowsOf}
use Rattle.history_book.specs.States.{Written, Out, out_of, change, without, numbers_found, events_of}
use Rattle.line_machine.specs.Stands.{IsBatchOf, AreBatchesOf}
use Rattle.line_machine.specs.Views.{Batch, batch_of, change_batch, without_batch, events_in}

pub events_same : (rows : List Row) (ws : List Written) → AreRowsOf rows ws → events_in rows ≡ events_of ws
events_same [] [] are = refl
events_same [] (w ∷ ws) are = absurd are
events_same (r ∷ rows) [] are = absurd are
events_same (r ∷ rows) (w ∷ ws) are = ap₂ (λ (e : Ev) (l : List Ev). e ∷ l) are.0.event (events_same rows ws are.1)

pub rows_first : (rows rest : List Row) (ws : List Written) → AreRowsOf (rows ++ rest) ws → AreRowsOf rows (take (length (numbers_found rows)) ws)
rows_first [] rest ws are = tt
rows_first (r ∷ rows) rest [] are = absurd are
rows_first (r ∷ rows) rest (w ∷ ws) are = (are.0, rows_first rows rest ws are.1)

-- the batch of the history that stands beside one of the line
pub record Beside (n : ℕ) (b : Batch) (os : List Out) : Type 0 where
  pub out : Out
  pub has : out_of n os ≡ Some out
  pub is : IsBatchOf b out

module _ (n : ℕ) where
  same_test : (b : Batch) (o : Out) → IsBatchOf b o → (n == o.batch) ≡ (n == b.number)
  same_test b o is = ap (λ (k : ℕ). n == k) is.number

  pub beside : (b : Batch) (bs : List Batch) (os : List Out) → AreBatchesOf bs os → batch_of n bs ≡ Some b → Beside n b os
  beside b [] os are is = absurd (cc)
  beside b (x ∷ bs) [] are is = absurd are
  beside b (x ∷ bs) (o ∷ os) are is = by_test (beside b bs os are.1) (n == x.number) refl is
    where
      by_test : (batch_of n bs ≡ Some b → Beside n b os) → (t : Bool) → (n == x.number) ≡ t → (if t then Some x else batch_of n bs) ≡ Some b → Beside n b (o ∷ os)
      by_test rest true test found = record {
        out = o;
        has = ap (λ (t : Bool). if t then Some o else out_of n os) (same_test x o are.0 ∙ test);
        is = subst (λ y. IsBatchOf y o) (same_of found) are.0;
      }
        where
          same_of : Some x ≡ Some b → x ≡ b
          same_of e = cc
      by_test rest false test found =
          let more = rest found in
          record { out = more.out; has = ap (λ (t : Bool). if t then Some o else out_of n os) (same_test x o are.0 ∙ test) ∙ more.has; is = more.is }

  -- both are changed
  pub changed_both : (f : Batch → Batch) (g : Out → Out) (bs : List Batch) (os : List Out) → AreBatchesOf bs os
      → ((b : Batch) (o : Out) → batch_of n bs ≡ Some b → out_of n os ≡ Some o → IsBatchOf b o → IsBatchOf (f b) (g o)) → AreBatchesOf (change_batch f n bs) (change g n os)
  changed_both f g [] [] are keeps = tt
  changed_both f g [] (o ∷ os) are keeps = absurd are
  changed_both f g (x ∷ bs) [] are keeps = absurd are
  changed_both f g (x ∷ bs) (o ∷ os) are keeps = by_test (changed_both f g bs os are.1) (n == x.number) refl
    where
      by_test : (((b : Batch) (p : Out) → batch_of n bs ≡ Some b → out_of n os ≡ Some p → IsBatchOf b p → IsBatchOf (f b) (g p)) → AreBatchesOf (change_batch f n bs) (change g n os))
          → (t : Bool) → (n == x.number) ≡ t → AreBatchesOf (change_batch f n (x ∷ bs)) (change g n (o ∷ os))
      by_test rest true test =
          subst (λ (t : Bool). AreBatchesOf (if t then f x ∷ bs else x ∷ change_batch f n bs) (change g n (o ∷ os))) (sym test)
          (subst (λ (t : Bool). AreBatchesOf (f x ∷ bs) (if t then g o ∷ os else o ∷ change g n os)) (sym (same_test x o are.0 ∙ test))
          (keeps x o (ap (λ (t : Bool). if t then Some x else batch_of n bs) test) (ap (λ (t : Bool). if t then Some o else out_of n os) (same_test x o are.0 ∙ test)) are.0, are.1))
      by_test rest false test =
          subst (λ (t : Bool). AreBatchesOf (if t then f x ∷ bs else x ∷ change_batch f n bs) (change g n (o ∷ os))) (sym test)
          (subst (λ (t : Bool). AreBatchesOf (x ∷ change_batch f n bs) (if t then g o ∷ os else o ∷ change g n os)) (sym (same_test x o are.0 ∙ test)) (
            are.0,
            rest (λ b p has out is. keeps b p (ap (λ (t : Bool). if t then Some x else batch_of n bs) test ∙ has) (ap (λ (t : Bool). if t then Some o else out_of n os) (same_test x o are.0 ∙ test) ∙ out) is),
          ))

  -- one alone is changed, in what the history doesn't say
  pub changed_one : (f : Batch → Batch) (bs : List Batch) (os : List Out) → AreBatchesOf bs os → ((b : Batch) (o : Out) → IsBatchOf b o → IsBatchOf (f b) o)
      → AreBatchesOf (change_batch f n bs) os
  changed_one f [] [] are keeps = tt
  changed_one f [] (o ∷ os) are keeps = absurd are
  changed_one f (x ∷ bs) [] are keeps = absurd are
  changed_one f (x ∷ bs) (o ∷ os) are keeps = by_test (changed_one f bs os are.1 keeps) (n == x.number)
    where
      by_test : AreBatchesOf (change_batch f n bs) os → (t : Bool) → AreBatchesOf (if t then f x ∷ bs else x ∷ change_batch f n bs) (o ∷ os)
      by_test rest true = (keeps x o are.0, are.1)
      by_test rest false = (are.0, rest)

  pub without_both : (bs : List Batch) (os : List Out) → AreBatchesOf bs os → AreBatchesOf (without_batch n bs) (without n os)
  without_both [] [] are = tt
  without_both [] (o ∷ os) are = absurd are
  without_both (x ∷ bs) [] are = absurd are
  without_both (x ∷ bs) (o ∷ os) are = by_test (without_both bs os are.1) (n == x.number) refl
    where
      by_test : AreBatchesOf (without_batch n bs) (without n os) → (t : Bool) → (n == x.number) ≡ t → AreBatchesOf (without_batch n (x ∷ bs)) (without n (o ∷ os))
      by_test rest true test =
          subst (λ (t : Bool). AreBatchesOf (if t then bs else x ∷ without_batch n bs) (without n (o ∷ os))) (sym test)
          (subst (λ (t : Bool). AreBatchesOf bs (if t then os else o ∷ without n os)) (sym (same_test x o are.0 ∙ test)) are.1)
      by_test rest false test =
          subst (λ (t : Bool). AreBatchesOf (if t then bs else x ∷ without_batch n bs) (without n (o ∷ os))) (sym test)
          (subst (λ (t : Bool). AreBatchesOf (x ∷ without_batch n bs) (if t then os else o ∷ without n os)) (sym (same_test x o are.0 ∙ test)) (are.0, rest))

pub one_more_both : (bs : List Batch) (os : List Out) (b : Batch) (o : Out) → AreBatchesOf bs os → IsBatchOf b o → AreBatchesOf (bs ++ b ∷ []) (os ++ o ∷ [])
one_more_both [] [] b o are is = (is, tt)
one_more_both [] (p ∷ os) b o are is = absurd are
one_more_both (x ∷ bs) [] b o are is = absurd are
one_more_both (x ∷ bs) (p ∷ os) b o are is = (are.0, one_more_both bs os b o are.1 is)

-- ---- numbers of batches

module _ (f : Batch → Batch) (keeps : (b : Batch) → (f b).number ≡ b.number) (n m : ℕ) where
  -- they are below a number still
  pub changed_below : (bs : List Batch) → ((b : Batch) → IsIn b bs → b.number < m) → (b : Batch) → IsIn b (change_batch f n bs) → b.number < m
  changed_below [] below b has = absurd has
  changed_below (x ∷ bs) below b has = by_test (changed_below bs (λ y i. below y (inr i)) b) (n == x.number) has
    where
      first : b ≡ f x → b.number < m
      first e = let less = below x (inl refl) in let same = ap (λ (y : Batch). y.number) e ∙ keeps x in omega (arith, less, same)

      by_test : (IsIn b (change_batch f n bs) → b.number < m) → (t : Bool) → IsIn b (if t then f x ∷ bs else x ∷ change_batch f n bs) → b.number < m
      by_test rest true (inl e) = first e
      by_test rest true (inr i) = below b (inr i)
      by_test rest false (inl e) = below b (inl e)
      by_test rest false (inr i) = rest i

pub without_below : (n m : ℕ) (bs : List Batch) → ((b : Batch) → IsIn b bs → b.number < m) → (b : Batch) → IsIn b (without_batch n bs) → b.number < m
without_below n m [] below b has = absurd has
without_below n m (x ∷ bs) below b has = by_test (without_below n m bs (λ y i. below y (inr i)) b) (n == x.number) has
  where
    by_test : (IsIn b (without_batch n bs) → b.number < m) → (t : Bool) → IsIn b (if t then bs else x ∷ without_batch n bs) → b.number < m
    by_test rest true i = below b (inr i)
    by_test rest false (inl e) = below b (inl e)
    by_test rest false (inr i) = rest i

module _ (n : ℕ) (b : Batch) (is : b.number ≡ n) where
  other_number : (x : Batch) → x.number < n → (n == x.number) ≡ false
  other_number x less = ⊎_elim (λ (e : (n == x.number) ≡ true). absurd (let same = eqb-true n x.number e in omega (arith, same, less))) (λ e. e) (cases_Bool (n == x.number))

  -- the one with the next number is the last
  pub last_found : (bs : List Batch) → ((x : Batch) → IsIn x bs → x.number < n) → batch_of n (bs ++ b ∷ []) ≡ Some b
  last_found [] below = ap (λ (t : Bool). if t then Some b else None) (eq-eqb n b.number (sym is))
  last_found (x ∷ bs) below =
      ap (λ (t : Bool). if t then Some x else batch_of n (bs ++ b ∷ [])) (other_number x (below x (inl refl))) ∙ last_found bs (λ y i. below y (inr i))

  pub last_changed : (f : Batch → Batch) (bs : List Batch) → ((x : Batch) → IsIn x bs → x.number < n) → change_batch f n (bs ++ b ∷ []) ≡ bs ++ f b ∷ []
  last_changed f [] below = ap (λ (t : Bool). if t then f b ∷ [] else b ∷ []) (eq-eqb n b.number (sym is))
  last_changed f (x ∷ bs) below =
      ap (λ (t : Bool). if t then f x ∷ (bs ++ b ∷ []) else x ∷ change_batch f n (bs ++ b ∷ [])) (other_number x (below x (inl refl)))
      ∙ ap (λ l. x ∷ l) (last_changed f bs (λ y i. below y (inr i)))
