-- Rows that take the numbers of a queue.
use Rattle.std.proofs.Common.{◌≡◌, ◌↔◌, ◌||◌, ℕ, Bool, true, false, List, [], ◌∷◌, ◌++◌, Result, Ok, Err, refl, sym, ◌∙◌, ap}
use Rattle.queue_files.specs.Found.{Row}
use Rattle.queue_core.specs.Views.{QueueView}
use Rattle.queue_core.specs.Writing.{behind_write, numbers_spent}
use Rattle.queue_core.specs.declared.writing.WriteFault.{WriteFault}
use Rattle.queue_core.specs.declared.writing.WriteFault.TheVariants as w
use Rattle.pq_tools.specs.Numbers.{behind_rows, row_size, runs_out}

-- ---- rows behind others

pub rows_behind : (v : QueueView) (xs ys : List Row) → behind_rows v (xs ++ ys) ≡ behind_rows (behind_rows v xs) ys
rows_behind v [] ys = refl
rows_behind v (r ∷ xs) ys = rows_behind (behind_write (row_size r) v) xs ys

either : (a b c : Bool) → (a || (b || c)) ≡ ((a || b) || c)
either true b c = refl
either false b c = refl

runs_behind : (v : QueueView) (xs ys : List Row) → runs_out v (xs ++ ys) ≡ (runs_out v xs || runs_out (behind_rows v xs) ys)
runs_behind v [] ys = refl
runs_behind v (r ∷ xs) ys =
    let next = behind_write (row_size r) v in
    ap (λ b. numbers_spent (row_size r) v || b) (runs_behind next xs ys) ∙ either (numbers_spent (row_size r) v) (runs_out next xs) (runs_out (behind_rows next xs) ys)

module _ (v w : QueueView) (xs ys : List Row) (is : w ≡ behind_rows v xs) (fits : runs_out v xs ≡ false) where
  both_out : runs_out v (xs ++ ys) ≡ runs_out w ys
  both_out = runs_behind v xs ys ∙ ap (λ a. a || runs_out (behind_rows v xs) ys) fits ∙ ap (λ q. runs_out q ys) (sym is)

  pub fits_both : runs_out w ys ≡ false → runs_out v (xs ++ ys) ≡ false
  fits_both none = both_out ∙ none

  pub spent_then : runs_out w ys ≡ true → runs_out v (xs ++ ys) ≡ true
  spent_then out = both_out ∙ out

-- ---- more rows

pub spent_more : (v : QueueView) (xs ys : List Row) → runs_out v xs ≡ true → runs_out v (xs ++ ys) ≡ true
spent_more v xs ys out = runs_behind v xs ys ∙ ap (λ a. a || runs_out (behind_rows v xs) ys) out

-- ---- one row

abbrev pub IsSpent : Bool → Result ℕ WriteFault → Type 0
IsSpent spent result = (result ≡ Err w.NumbersSpent) ↔ (spent ≡ true)

not_spent : (spent : Bool) (number : ℕ) → IsSpent spent (Ok number) → spent ≡ false
not_spent true number is = absurd (ok_err (is.1 refl))
  where
    ok_err : ◌≡◌ {A = Result ℕ WriteFault} (Ok number) (Err w.NumbersSpent) → ⊥
    ok_err is = absurd cc
not_spent false number is = refl

pub one_fits : (v : QueueView) (r : Row) (number : ℕ) → IsSpent (numbers_spent (row_size r) v) (Ok number) → runs_out v (r ∷ []) ≡ false
one_fits v r number is = ap (λ b. b || false) (not_spent (numbers_spent (row_size r) v) number is)

pub one_spent : (v : QueueView) (r : Row) → IsSpent (numbers_spent (row_size r) v) (Err w.NumbersSpent) → runs_out v (r ∷ []) ≡ true
one_spent v r is = ap (λ b. b || false) (is.0 refl)
