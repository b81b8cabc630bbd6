-- Rows of a page, read one behind the other.
use Rattle.std.proofs.Common.{◌≡◌, ℕ, zero, suc, ◌+◌, ◌-◌, ◌<◌, ◌≤◌, ◌⊎◌, ⊎_elim, ◌||◌, not, nat_lt, Bool, true, false, IsTrue, length, List, [], ◌∷◌, ◌++◌, Option, Some, Result, Ok, Err, refl, sym, ap, ◌∙◌, subst, arith, if◌then◌else◌}
use Rattle.std.proofs.lemmas.Bool.{cond-true, cond-false, true≢false}
use Rattle.std.proofs.lemmas.Bool.Decides.{nat_tests}
use Rattle.std.proofs.lemmas.Result.{err_from_is_err_and}
use Rattle.std.specs.Result.{IsErrAnd}
use Rattle.io_traits.specs.declared.queue_faults.Damage.{Damage}
use Rattle.io_traits.specs.declared.queue_faults.QueueFault.{QueueFault}
use Rattle.io_traits.specs.declared.queue_faults.QueueFault.TheVariants as f
use Rattle.queue_page.specs.Answers.{Answers}
use Rattle.queue_page.specs.Blocks.{left_of}
use Rattle.queue_page.specs.Elements.{element_at, and_then}
use Rattle.queue_page.specs.Views.{PageView}
use Rattle.queue_page.specs.declared.row.PageRow.{PageRow}
use Rattle.queue_core.specs.Batching.{given, with_more, is_over, behind_row, joined, or_damage, place_in, next_at, rows_read, Finds}
use Rattle.queue_core.specs.declared.page_rows.QueueRow.{QueueRow}
use Rattle.queue_core.specs.declared.page_rows.BatchReader.{BatchReader}

-- a row that isn't passed over
pub row_joins : (from place : ℕ) (row : PageRow) (r : BatchReader) (bytes : Option ℕ) → from ≤ r.number → bytes ≡ with_more r.most_bytes r.bytes (row.next - place - 16) → joined row bytes r ≡ behind_row from place row r
row_joins from place row r bytes late is = let t : nat_lt r.number from ≡ false = grind (arith, nat_tests, late) in ap (λ b. joined row b r) is ∙ sym (cond-false _ _ _ t)

pub row_added : (from place : ℕ) (row : PageRow) (r : BatchReader) (bytes : ℕ) (item : QueueRow) (rows : List QueueRow) → from ≤ r.number → Some bytes ≡ with_more r.most_bytes r.bytes (row.next - place - 16)
    → rows ≡ r.rows ++ item ∷ [] → item ≡ given row → record r { number = r.number + 1; place = row.next; bytes = Some bytes; rows = rows } ≡ behind_row from place row r
row_added from place row r bytes item rows late is more same =
    let all = more ∙ ap (λ (x : QueueRow). r.rows ++ x ∷ []) same in
    (λ i. record r { number = r.number + 1; place = row.next; bytes = Some bytes; rows = all i }) ∙ row_joins from place row r (Some bytes) late is

-- what a `?` hands on
pub handed_on : {X Y : Type 0} (view : X → Y) (result : Result X QueueFault) (lost : QueueFault) (whole read : Result Y Damage) → IsErrAnd result (λ e. e ≡ lost) → whole ≡ read
    → ((view : X → Y) → Finds view (Err lost) read) → Finds view result whole
handed_on view result lost whole read err same found =
    let p = err_from_is_err_and result err in
    subst (λ x. Finds view x whole) (sym (p.1 ∙ ap Err p.2)) (subst (λ w. Finds view (Err lost) w) (sym same) (found view))

module _ (name : List ℕ) (p : PageView) (from : ℕ) (file : List ℕ) where
  abbrev rest : ℕ → BatchReader → Result PageRow Damage → Result BatchReader Damage
  rest n r read = and_then read (λ row. rows_read name p from file n (behind_row from (place_in p r) row r))

  rows_if : (n : ℕ) (r : BatchReader) → rows_read name p from file (suc n) r ≡ (if is_over r then Ok r else rest n r (next_at name p file r))
  unfolding rows_read
  rows_if n r = refl

  pub rows_none : (r : BatchReader) → rows_read name p from file 0 r ≡ Ok r
  unfolding rows_read
  rows_none r = refl

  pub rows_over : (n : ℕ) (r : BatchReader) → is_over r ≡ true → rows_read name p from file n r ≡ Ok r
  rows_over zero r over = rows_none r
  rows_over (suc n) r over = rows_if n r ∙ cond-true _ _ _ over

  -- one row that was read
  pub row_step : (r : BatchReader) (n : ℕ) → is_over r ≡ false → (row : PageRow) → element_at p.version r.number (place_in p r) (left_of file (place_in p r) p.state.length) ≡ Ok row
      → rows_read name p from file (suc n) r ≡ rows_read name p from file n (behind_row from (place_in p r) row r)
  row_step r n goes_on row read =
      rows_if n r ∙ cond-false _ _ _ goes_on ∙ ap (rest n r) (ap (λ e. or_damage e (λ m. record { file = name; place = m.place; found = m.found; expected = m.expected })) read)

  -- where none is left, or the batch has as many as it may
  pub rows_end : (end : ℕ) (r : BatchReader) → end ≤ r.number → rows_read name p from file (end - r.number) r ≡ Ok r
  rows_end end r all = let none : end - r.number ≡ 0 = omega arith in ap (λ n. rows_read name p from file n r) none ∙ rows_none r

  pub rows_full : (end : ℕ) (r : BatchReader) → is_over r ≡ true → rows_read name p from file (end - r.number) r ≡ Ok r
  rows_full end r over = rows_over (end - r.number) r over

  module _ (end : ℕ) (r : BatchReader) (less : r.number < end) (goes_on : is_over r ≡ false) where
    one : rows_read name p from file (end - r.number) r ≡ rest (end - (r.number + 1)) r (next_at name p file r)
    one = let more : end - r.number ≡ suc (end - (r.number + 1)) = omega arith in ap (λ n. rows_read name p from file n r) more ∙ rows_if (end - (r.number + 1)) r ∙ cond-false _ _ _ goes_on

    module _ (row : PageRow) (read : element_at p.version r.number (place_in p r) (left_of file (place_in p r) p.state.length) ≡ Ok row) where
      this : next_at name p file r ≡ Ok row
      this = ap (λ e. or_damage e (λ m. record { file = name; place = m.place; found = m.found; expected = m.expected })) read

      -- one row more
      pub row_more : (next : BatchReader) → next ≡ behind_row from (place_in p r) row r → next.number ≡ r.number + 1 → rows_read name p from file (end - r.number) r ≡ rows_read name p from file (end - next.number) next
      row_more next is number =
          one ∙ ap (rest (end - (r.number + 1)) r) this ∙ (λ i. rows_read name p from file (end - sym number i) (sym is i))

      -- one that has no room
      pub row_closes : (next : BatchReader) → next ≡ behind_row from (place_in p r) row r → is_over next ≡ true → rows_read name p from file (end - r.number) r ≡ Ok next
      row_closes next is over =
          one ∙ ap (rest (end - (r.number + 1)) r) this ∙ ap (rows_read name p from file (end - (r.number + 1))) (sym is) ∙ rows_over (end - (r.number + 1)) next over

    -- one at fault
    pub row_lost : {X : Type 0} (view : X → BatchReader) (fault : QueueFault)
        → Answers (λ (row : PageRow). row) name (Err fault) (element_at p.version r.number (place_in p r) (left_of file (place_in p r) p.state.length))
        → Finds view (Err fault) (rows_read name p from file (end - r.number) r)
    row_lost view (f.Damaged d) said =
        one ∙ ap (rest (end - (r.number + 1)) r)
        (ap (λ e. or_damage e (λ m. record { file = name; place = m.place; found = m.found; expected = m.expected })) said.1
        ∙ (λ i. Err (record { file = sym said.0 i; place = d.place; found = d.found; expected = d.expected })))
    row_lost view f.Fault said = tt
    row_lost view f.Memory said = tt

-- a batch without room for the row
pub closed_over : (more : Bool) (r : BatchReader) → IsTrue more ⊎ IsTrue r.closed → more ≡ false → is_over r ≡ true
closed_over more r either never = ⊎_elim (λ yes. absurd (true≢false (sym yes ∙ never))) (λ closed. ap (λ b. b || not (nat_lt (length r.rows) r.most_rows)) closed) either
