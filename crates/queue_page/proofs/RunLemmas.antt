-- A run goes by the bytes of its elements alone.
use Rattle.std.proofs.Common.{◌≡◌, ℕ, suc, ◌+◌, ◌-◌, ◌≤◌, ◌<◌, List, [], ◌∷◌, ◌++◌, length, take, drop, Option, Some, None, Ok, refl, sym, ap, ◌∙◌, arith, length-append, length-take, length-drop}
use Rattle.std.proofs.lemmas.List.{take-take, drop-take, drop-drop, nil_from_length}
use Rattle.io_traits.specs.Tails.{passes}
use Rattle.queue_page.specs.Elements.{element_at, total_of, is_element}
use Rattle.queue_page.specs.Runs.{Run, run, no_run, behind}
use Rattle.queue_page.specs.declared.fault.Mismatch.{Mismatch}
use Rattle.queue_page.specs.declared.row.PageRow.{PageRow}
use Rattle.queue_page.proofs.ElementReads.{element_took, element_again, took_element}
use Rattle.queue_page.proofs.RunReads.{run_rest, run_with, each_run}

-- how many bytes its elements have, and that other bytes that begin with these have the same run in front
pub record RunTook (limit version number place : ℕ) (bytes : List ℕ) (r : Run) : Type 0 where
  pub size : ℕ
  pub end_is : r.end ≡ place + size
  pub within : size ≤ length bytes
  pub few : length r.rows ≤ limit
  pub again : (other : List ℕ) → take size other ≡ take size bytes
      → run limit version number place other ≡ behind r.rows (run (limit - length r.rows) version (number + length r.rows) (place + size) (drop size other))

nothing_took : (limit version number place : ℕ) (bytes : List ℕ) (stop : Option Mismatch) → RunTook limit version number place bytes (no_run place stop)
nothing_took limit version number place bytes stop =
    let whole : limit ≡ limit - 0 = omega arith in
    let same : number ≡ number + 0 = omega arith in
    let there : place ≡ place + 0 = omega arith in
    record {
      size = 0;
      end_is = there;
      within = omega arith;
      few = omega arith;
      again = λ other begins. λ i. run (whole i) version (same i) (there i) other;
    }

module _ (limit version number place : ℕ) (bytes : List ℕ) (row : PageRow) (some : 0 < length bytes) (read : element_at version number place bytes ≡ Ok row) where
  abbrev total : ℕ
  total = total_of bytes

  element_in_front : (size : ℕ) (other : List ℕ) → take (total + size) other ≡ take (total + size) bytes → take total other ≡ take total bytes
  element_in_front size other same = sym (take-take total (total + size) other (omega arith)) ∙ ap (take total) same ∙ take-take total (total + size) bytes (omega arith)

  rest_in_front : (size : ℕ) (other : List ℕ) → take (total + size) other ≡ take (total + size) bytes → take size (drop total other) ≡ take size (drop total bytes)
  rest_in_front size other same = sym (drop-take total size other) ∙ ap (drop total) same ∙ drop-take total size bytes

  -- one element of other bytes that begin so
  pub one_more : (other : List ℕ) → take total other ≡ take total bytes → run (suc limit) version number place other ≡ behind (row ∷ []) (run limit version (number + 1) (place + total) (drop total other))
  one_more other same =
      let took = element_took version number place bytes row read in
      let again = element_again version number place bytes other row read same in
      let there : 0 < length other = omega (arith, ap length same, length-take total bytes, length-take total other, took.within) in
      run_with limit version number place other (Ok row) there again.0 ∙ ap (λ t. behind (row ∷ []) (run limit version (number + 1) (place + t) (drop t other))) again.1

  more_took : (r : Run) → RunTook limit version (number + 1) (place + total) (drop total bytes) r → RunTook (suc limit) version number place bytes (behind (row ∷ []) r)
  more_took r rest =
      let took = element_took version number place bytes row read in
      let less : limit - length r.rows ≡ suc limit - suc (length r.rows) = omega arith in
      let numbers : number + 1 + length r.rows ≡ number + suc (length r.rows) = omega arith in
      let places : place + total + rest.size ≡ place + (total + rest.size) = omega arith in
      record {
        size = total + rest.size;
        end_is = rest.end_is ∙ places;
        within = omega (arith, rest.within, length-drop total bytes, took.within);
        few = omega (arith, rest.few);
        again = λ other same.
            one_more other (element_in_front rest.size other same)
            ∙ ap (behind (row ∷ [])) (rest.again (drop total other) (rest_in_front rest.size other same))
            ∙ (λ i. behind (row ∷ r.rows) (run (less i) version (numbers i) (places i) (drop-drop rest.size total other i)));
      }

pub run_took : (limit version number place : ℕ) (bytes : List ℕ) → RunTook limit version number place bytes (run limit version number place bytes)
run_took limit version = each_run version (λ l n p b r. RunTook l version n p b r)
    (λ l n p b empty. nothing_took l version n p b None)
    (λ l n p b fault some read. nothing_took (suc l) version n p b (Some fault))
    (λ l n p b row some read rest. more_took l version n p b row some read (run_rest l version n p b) rest)
    limit

-- behind a run there is none
pub none_behind : (limit version number place : ℕ) (bytes : List ℕ) (took : RunTook limit version number place bytes (run limit version number place bytes))
    → (run (limit - length (run limit version number place bytes).rows) version (number + length (run limit version number place bytes).rows) (place + took.size) (drop took.size bytes)).rows ≡ []
none_behind limit version number place bytes took =
    let r = run limit version number place bytes in
    let rest = run (limit - length r.rows) version (number + length r.rows) (place + took.size) (drop took.size bytes) in
    let all : r.rows ≡ r.rows ++ rest.rows = ap (λ (x : Run). x.rows) (took.again bytes refl) in
    nil_from_length rest.rows (omega (arith, ap length all, length-append r.rows rest.rows))

-- ---- what may stand behind it

-- an element at the front of these bytes stands at the front of those
abbrev pub FrontStands : List ℕ → List ℕ → Type 0
FrontStands bytes tail = (frame : List ℕ) → passes is_element 0 frame → 0 < length frame → take (length frame) bytes ≡ frame → take (length frame) tail ≡ frame

-- so what is read there is read of those too
pub read_of_tail : (version number place : ℕ) (bytes tail : List ℕ) (row : PageRow) → FrontStands bytes tail → element_at version number place bytes ≡ Ok row
    → (element_at version number place tail ≡ Ok row) × (total_of tail ≡ total_of bytes) × (take (total_of bytes) tail ≡ take (total_of bytes) bytes)
read_of_tail version number place bytes tail row stands read =
    let took = element_took version number place bytes row read in
    let total = total_of bytes in
    let frame = take total bytes in
    let long : length frame ≡ total = omega (arith, length-take total bytes, took.within) in
    let here : take (length frame) bytes ≡ frame = ap (λ n. take n bytes) long in
    let there : take total tail ≡ frame = ap (λ n. take n tail) (sym long) ∙ stands frame (took_element version number place bytes row took) (omega (arith, long)) here in
    let again = element_again version number place bytes tail row read there in
    (again.0, again.1, there)

-- no rows, and no bytes
pub record IsNone (place : ℕ) (r : Run) : Type 0 where
  pub rows : r.rows ≡ []
  pub end : r.end ≡ place

pub none_there : (limit version number place : ℕ) (bytes tail : List ℕ) → FrontStands bytes tail → (run limit version number place tail).rows ≡ [] → IsNone place (run limit version number place bytes)
none_there limit version = each_run version (λ l n p b r. (tail : List ℕ) → FrontStands b tail → (run l version n p tail).rows ≡ [] → IsNone p r)
    (λ l n p b empty tail stands none. record { rows = refl; end = refl })
    (λ l n p b fault some read tail stands none. record { rows = refl; end = refl })
    (λ l n p b row some read rest tail stands none.
    let of_tail = read_of_tail version n p b tail row stands read in
    let took = element_took version n p tail row of_tail.0 in
    let more = run_with l version n p tail (Ok row) (omega (arith, took.within)) of_tail.0 in
    absurd (let some_rows : row ∷ (run_rest l version n p tail).rows ≡ [] = ap (λ (x : Run). x.rows) (sym more) ∙ none in cc))
    limit
