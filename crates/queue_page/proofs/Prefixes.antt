-- Behind what is settled only the first of the elements that were appended are read.
use Rattle.std.proofs.Common.{◌≡◌, ℕ, suc, ◌+◌, ◌≤◌, ◌<◌, List, [], ◌∷◌, ◌++◌, length, take, drop, Result, Ok, refl, sym, ap, ◌∙◌, subst, arith}
use Rattle.std.proofs.lemmas.List.{drop-drop}
use Rattle.std.proofs.Math.Seq.{drop-append-add}
use Rattle.io_traits.specs.Chance.{StandsAt}
use Rattle.io_traits.specs.Tails.{passes}
use Rattle.queue_page.specs.Elements.{element_at, total_of, is_element}
use Rattle.queue_page.specs.Grammar.{AreElements}
use Rattle.queue_page.specs.Runs.{Run, run}
use Rattle.queue_page.specs.declared.fault.Mismatch.{Mismatch}
use Rattle.queue_page.specs.declared.row.PageRow.{PageRow}
use Rattle.queue_page.proofs.ElementReads.{element_took}
use Rattle.queue_page.proofs.RunReads.{run_rest, each_run}
use Rattle.queue_page.proofs.RunLemmas.{read_of_tail}
use Rattle.queue_page.proofs.Elements.{element_read}

-- each element that stands in these bytes stands at its place in those
abbrev pub AllStand : List ℕ → List ℕ → Type 0
AllStand bytes tail = (place : ℕ) (frame : List ℕ) → passes is_element place frame → 0 < length frame → StandsAt place frame bytes → StandsAt place frame tail

-- the rows are the first of these
pub record IsPrefix (rows all : List PageRow) : Type 0 where
  pub count : ℕ
  pub few : count ≤ length all
  pub are : rows ≡ take count all

none_first : (all : List PageRow) → IsPrefix [] all
none_first all = record { count = 0; few = omega arith; are = refl }

abbrev row_read : PageRow → Result PageRow Mismatch
row_read row = Ok row

-- bytes behind the first total
stand_behind : (bytes front rest : List ℕ) → AllStand bytes (front ++ rest) → AllStand (drop (length front) bytes) rest
stand_behind bytes front rest all place frame is some here =
    let there = all (length front + place) frame is some (ap (take (length frame)) (sym (drop-drop place (length front) bytes)) ∙ here) in
    ap (take (length frame)) (sym (drop-append-add front rest place)) ∙ there

module _ (version number place : ℕ) (bytes : List ℕ) (row : PageRow) (read : element_at version number place bytes ≡ Ok row) where
  -- an element that stands there with a run behind it
  first_more : (rest : Run) → ((rows : List PageRow) (tail : List ℕ) → AreElements version (number + 1) (place + total_of bytes) rows tail → AllStand (drop (total_of bytes) bytes) tail → IsPrefix rest.rows rows)
      → (rows : List PageRow) (tail : List ℕ) → AreElements version number place rows tail → AllStand bytes tail → IsPrefix (row ∷ rest.rows) rows
  first_more behind_it rec [] tail are all =
      let of_tail = read_of_tail version number place bytes tail row (λ frame is some_bytes here. all 0 frame is some_bytes here) read in
      let took = element_took version number place tail row of_tail.0 in
      absurd (omega (arith, took.within, ap length are))
  first_more behind_it rec (first ∷ rows) tail are all =
      let front = are.0 in
      let rest = are.1 in
      let of_tail = read_of_tail version number place bytes tail row (λ frame is some_bytes here. all 0 frame is some_bytes here) read in
      let known = element_read version place first front rest are.4 in
      let first_read : element_at version number place tail ≡ row_read first = ap (λ n. element_at version n place tail) (sym are.3) ∙ ap (element_at version first.number place) (sym are.2) ∙ known.element in
      let same : first ≡ row = let both : row_read first ≡ row_read row = sym first_read ∙ of_tail.0 in cc in
      let total : total_of bytes ≡ length front = sym of_tail.1 ∙ ap total_of (sym are.2) ∙ known.total in
      let next : first.next ≡ place + total_of bytes = are.4.next ∙ ap (λ n. place + n) (sym total) in
      let stand : AllStand (drop (total_of bytes) bytes) rest =
      subst (λ n. AllStand (drop n bytes) rest) (sym total) (stand_behind bytes front rest (subst (AllStand bytes) (sym are.2) all)) in
      let more = rec rows rest (subst (λ p. AreElements version (number + 1) p rows rest) next are.5) stand in
      record { count = suc more.count; few = omega (arith, more.few); are = (λ i. sym same i ∷ more.are i) }

pub run_prefix : (limit version number place : ℕ) (bytes : List ℕ) (rows : List PageRow) (tail : List ℕ) → AreElements version number place rows tail → AllStand bytes tail
    → IsPrefix (run limit version number place bytes).rows rows
run_prefix limit version = each_run version (λ l n p b r. (rows : List PageRow) (tail : List ℕ) → AreElements version n p rows tail → AllStand b tail → IsPrefix r.rows rows)
    (λ l n p b empty rows tail are all. none_first rows)
    (λ l n p b fault some read rows tail are all. none_first rows)
    (λ l n p b row some read rest. first_more version n p b row read (run_rest l version n p b) rest)
    limit
