-- A run of elements, read one behind the other.
use Rattle.std.proofs.Common.{◌≡◌, ◌⊎◌, inl, inr, ℕ, zero, suc, ◌+◌, ◌-◌, ◌==◌, ◌≤◌, ◌<◌, false, List, [], ◌∷◌, ◌++◌, length, take, drop, Option, Some, None, Result, Ok, Err, refl, sym, ap, ◌∙◌, subst, arith, if◌then◌else◌, append_assoc, append-nil, length-append}
use Rattle.std.proofs.Math.Path.{ap₂}
use Rattle.std.proofs.lemmas.Bool.{cond-true, cond-false, cases_lt, eq-eqb}
use Rattle.std.proofs.lemmas.Bool.Decides.{nat_tests}
use Rattle.std.proofs.lemmas.List.{drop-drop}
use Rattle.queue_page.specs.Blocks.{left_of}
use Rattle.queue_page.specs.Elements.{element_at, total_of}
use Rattle.queue_page.specs.Runs.{Run, run, no_run, behind, run_by, end_of}
use Rattle.queue_page.specs.declared.element.ElementPosition.{ElementPosition}
use Rattle.queue_page.specs.declared.fault.Mismatch.{Mismatch}
use Rattle.queue_page.specs.declared.row.PageRow.{PageRow}
use Rattle.queue_page.specs.declared.run.RunEnd.{RunEnd}
use Rattle.queue_page.proofs.Fronts.{length-left}
use Rattle.queue_page.proofs.ElementReads.{element_took}

-- ---- a run, step by step

pub run_none : (version number place : ℕ) (bytes : List ℕ) → run 0 version number place bytes ≡ no_run place None
unfolding run
run_none version number place bytes = refl

module _ (limit version number place : ℕ) (bytes : List ℕ) where
  run_if : run (suc limit) version number place bytes ≡ (if length bytes == 0 then no_run place None
      else run_by place (element_at version number place bytes) (run limit version (number + 1) (place + total_of bytes) (drop (total_of bytes) bytes)))
  unfolding run
  run_if = refl

  pub run_empty : length bytes ≡ 0 → run limit version number place bytes ≡ no_run place None
  unfolding run
  run_empty none = by_limit limit
    where
      by_limit : (n : ℕ) → run n version number place bytes ≡ no_run place None
      by_limit zero = refl
      by_limit (suc n) = cond-true _ _ _ (eq-eqb _ _ none)

  -- what stands behind its first element
  abbrev pub run_rest : Run
  run_rest = run limit version (number + 1) (place + total_of bytes) (drop (total_of bytes) bytes)

  pub run_with : (read : Result PageRow Mismatch) → 0 < length bytes → element_at version number place bytes ≡ read → run (suc limit) version number place bytes ≡ run_by place read run_rest
  run_with read some is = let t : (length bytes == 0) ≡ false = grind (arith, nat_tests, some) in run_if ∙ cond-false _ _ _ t ∙ ap (λ e. run_by place e run_rest) is

-- What holds of no element, of a fault, and of an element with a run behind it for which it holds, holds of each run.
module _ (version : ℕ) (Holds : ℕ → ℕ → ℕ → List ℕ → Run → Type 0)
    (none : (limit number place : ℕ) (bytes : List ℕ) → (limit ≡ 0) ⊎ (length bytes ≡ 0) → Holds limit number place bytes (no_run place None))
    (fault : (limit number place : ℕ) (bytes : List ℕ) (m : Mismatch) → 0 < length bytes → element_at version number place bytes ≡ Err m → Holds (suc limit) number place bytes (no_run place (Some m)))
    (more : (limit number place : ℕ) (bytes : List ℕ) (row : PageRow) → 0 < length bytes → element_at version number place bytes ≡ Ok row
    → Holds limit (number + 1) (place + total_of bytes) (drop (total_of bytes) bytes) (run_rest limit version number place bytes) → Holds (suc limit) number place bytes (behind (row ∷ []) (run_rest limit version number place bytes))) where
  by_first : (limit number place : ℕ) (bytes : List ℕ) → 0 < length bytes → Holds limit (number + 1) (place + total_of bytes) (drop (total_of bytes) bytes) (run_rest limit version number place bytes)
      → (read : Result PageRow Mismatch) → element_at version number place bytes ≡ read → Holds (suc limit) number place bytes (run_by place read (run_rest limit version number place bytes))
  by_first limit number place bytes some of_rest (Ok row) is = more limit number place bytes row some is of_rest
  by_first limit number place bytes some of_rest (Err m) is = fault limit number place bytes m some is

  pub each_run : (limit number place : ℕ) (bytes : List ℕ) → Holds limit number place bytes (run limit version number place bytes)
  each_run zero number place bytes = subst (Holds 0 number place bytes) (sym (run_none version number place bytes)) (none 0 number place bytes (inl refl))
  each_run (suc limit) number place bytes = elim (cases_lt 0 (length bytes)) [
    | inr empty ↦
        let is : length bytes ≡ 0 = omega (arith, empty) in
        subst (Holds (suc limit) number place bytes) (sym (run_empty (suc limit) version number place bytes is)) (none (suc limit) number place bytes (inr is))
    | inl some ↦
        subst (Holds (suc limit) number place bytes) (sym (run_with limit version number place bytes (element_at version number place bytes) some refl))
        (by_first limit number place bytes some (each_run limit (number + 1) (place + total_of bytes) (drop (total_of bytes) bytes)) (element_at version number place bytes) refl)
  ]

-- ---- as the code reads it

-- what was read so far, and the run of what is left: together they are the run
pub record SoFar (limit : ℕ) (first : ElementPosition) (count : ℕ) (now : ElementPosition) (file : List ℕ) : Type 0 where
  pub rows : List PageRow
  pub many : length rows ≡ count
  pub is : behind rows (run (limit - count) first.version (first.number + count) now.place (left_of file now.place first.end)) ≡ run limit first.version first.number first.place (left_of file first.place first.end)

behind_none : (r : Run) → behind [] r ≡ r
behind_none r = refl

behind_both : (rows : List PageRow) (row : PageRow) (r : Run) → behind rows (behind (row ∷ []) r) ≡ behind (rows ++ row ∷ []) r
behind_both rows row r = let same = append_assoc rows (row ∷ []) r.rows in λ i. record { rows = sym same i; end = r.end; stop = r.stop }

pub start : (limit : ℕ) (first : ElementPosition) (file : List ℕ) → SoFar limit first 0 first file
start limit first file =
    let whole : limit - 0 ≡ limit = omega arith in
    let same : first.number + 0 ≡ first.number = omega arith in
    record {
      rows = [];
      many = refl;
      is = ap₂ (λ (l n : ℕ). run l first.version n first.place (left_of file first.place first.end)) whole same;
    }

pub left_more : (file : List ℕ) (place end total : ℕ) → drop total (left_of file place end) ≡ left_of file (place + total) end
left_more file place end total = drop-drop total place (take end file)

-- one element more
pub turn : (limit : ℕ) (first : ElementPosition) (count : ℕ) (now : ElementPosition) (file : List ℕ) (row : PageRow) (next : ElementPosition) → SoFar limit first count now file → count < limit → now.place < first.end → first.end ≤ length file
    → element_at first.version (first.number + count) now.place (left_of file now.place first.end) ≡ Ok row → next.place ≡ row.next → SoFar limit first (count + 1) next file
turn limit first count now file row next so_far less before within read there =
    let v = first.version in
    let left = left_of file now.place first.end in
    let took = element_took v (first.number + count) now.place left row read in
    let more : limit - count ≡ suc (limit - (count + 1)) = omega arith in
    let number : first.number + count + 1 ≡ first.number + (count + 1) = omega arith in
    let place : now.place + total_of left ≡ next.place = sym (there ∙ took.next) in
    let left_is : drop (total_of left) left ≡ left_of file next.place first.end = left_more file now.place first.end (total_of left) ∙ ap (λ p. left_of file p first.end) place in
    let some : 0 < length left = omega (arith, length-left file now.place first.end within) in
    let rest = run (limit - (count + 1)) v (first.number + (count + 1)) next.place (left_of file next.place first.end) in
    let one : run (limit - count) v (first.number + count) now.place left ≡ behind (row ∷ []) rest =
    ap (λ l. run l v (first.number + count) now.place left) more
    ∙ run_with (limit - (count + 1)) v (first.number + count) now.place left (Ok row) some read
    ∙ (λ i. behind (row ∷ []) (run (limit - (count + 1)) v (number i) (place i) (left_is i))) in
    record {
      rows = so_far.rows ++ row ∷ [];
      many = length-append so_far.rows (row ∷ []) ∙ ap (λ n. n + 1) so_far.many;
      is = sym (behind_both so_far.rows row rest) ∙ ap (behind so_far.rows) (sym one) ∙ so_far.is;
    }

abbrev pub ran : RunEnd → Result RunEnd Mismatch
ran end = Ok end

-- what was read at a spot, by the first one
pub read_at : (first now : ElementPosition) (count : ℕ) (file : List ℕ) (read : Result PageRow Mismatch) → now.version ≡ first.version → now.number ≡ first.number + count → now.end ≡ first.end
    → element_at now.version now.number now.place (left_of file now.place now.end) ≡ read → element_at first.version (first.number + count) now.place (left_of file now.place first.end) ≡ read
read_at first now count file read version number end h =
    ap (λ k. element_at k (first.number + count) now.place (left_of file now.place first.end)) (sym version) ∙ ap (λ k. element_at now.version k now.place (left_of file now.place first.end)) (sym number)
    ∙ ap (λ k. element_at now.version now.number now.place (left_of file now.place k)) (sym end) ∙ h

-- where it ends, with nothing or with a fault
ended : (limit : ℕ) (first : ElementPosition) (count : ℕ) (now : ElementPosition) (file : List ℕ) (stop : Option Mismatch) → (so_far : SoFar limit first count now file)
    → run (limit - count) first.version (first.number + count) now.place (left_of file now.place first.end) ≡ no_run now.place stop
    → Ok (end_of (run limit first.version first.number first.place (left_of file first.place first.end))) ≡ ran (record { count = count; end = now.place; stop = stop })
ended limit first count now file stop so_far none =
    let all : behind so_far.rows (no_run now.place stop) ≡ run limit first.version first.number first.place (left_of file first.place first.end) = ap (behind so_far.rows) (sym none) ∙ so_far.is in
    let many : length (so_far.rows ++ []) ≡ count = ap length (append-nil so_far.rows) ∙ so_far.many in
    ap (λ r. Ok (end_of r)) (sym all) ∙ ap (λ n. Ok (record { count = n; end = now.place; stop = stop })) many

pub ended_at_limit : (limit : ℕ) (first : ElementPosition) (count : ℕ) (now : ElementPosition) (file : List ℕ) → SoFar limit first count now file → limit ≤ count
    → Ok (end_of (run limit first.version first.number first.place (left_of file first.place first.end))) ≡ ran (record { count = count; end = now.place; stop = None })
ended_at_limit limit first count now file so_far full =
    let none : limit - count ≡ 0 = omega arith in
    ended limit first count now file None so_far (ap (λ l. run l first.version (first.number + count) now.place (left_of file now.place first.end)) none ∙ run_none first.version (first.number + count) now.place (left_of file now.place first.end))

pub ended_at_end : (limit : ℕ) (first : ElementPosition) (count : ℕ) (now : ElementPosition) (file : List ℕ) → SoFar limit first count now file → first.end ≤ now.place
    → first.end ≤ length file → Ok (end_of (run limit first.version first.number first.place (left_of file first.place first.end))) ≡ ran (record { count = count; end = now.place; stop = None })
ended_at_end limit first count now file so_far past within =
    let none : length (left_of file now.place first.end) ≡ 0 = omega (arith, length-left file now.place first.end within) in
    ended limit first count now file None so_far (run_empty (limit - count) first.version (first.number + count) now.place (left_of file now.place first.end) none)

pub ended_at_fault : (limit : ℕ) (first : ElementPosition) (count : ℕ) (now : ElementPosition) (file : List ℕ) (fault : Mismatch) → SoFar limit first count now file → count < limit → now.place < first.end → first.end ≤ length file
    → element_at first.version (first.number + count) now.place (left_of file now.place first.end) ≡ Err fault
    → Ok (end_of (run limit first.version first.number first.place (left_of file first.place first.end))) ≡ ran (record { count = count; end = now.place; stop = Some fault })
ended_at_fault limit first count now file fault so_far less before within read =
    let left = left_of file now.place first.end in
    let more : limit - count ≡ suc (limit - (count + 1)) = omega arith in
    let some : 0 < length left = omega (arith, length-left file now.place first.end within) in
    ended limit first count now file (Some fault) so_far
    (ap (λ l. run l first.version (first.number + count) now.place left) more
    ∙ run_with (limit - (count + 1)) first.version (first.number + count) now.place left (Err fault) some read)
