-- What a stop leaves of a page to which an element is appended.
use Rattle.std.proofs.Common.{◌≡◌, ℕ, ◌+◌, ◌-◌, ◌≤◌, ◌<◌, true, List, [], ◌∷◌, ◌++◌, length, take, drop, Result, Ok, refl, sym, ap, ◌∙◌, subst, arith, append-nil, append_assoc, length-append}
use Rattle.std.proofs.lemmas.List.{take_all, drop-take, drop-drop}
use Rattle.io_traits.specs.Reads.{bytes_of, file_length}
use Rattle.io_traits.specs.Images.{TornFile}
use Rattle.io_traits.specs.Chance.{NoChance, StandsAt}
use Rattle.io_traits.specs.Moments.{EachMoment, ImagesTell}
use Rattle.io_traits.specs.Tails.{passes, HasTail, HoldsNamed}
use Rattle.io_traits.specs.declared.stores.Store.{Ghosts as StoreWords}
use Rattle.io_traits.proofs.Moments.{weaker}
use Rattle.io_traits.proofs.TailRuns.{Changes, appended_run}
use Rattle.io_traits.specs.declared.pages.PageState.{PageState}
use Rattle.queue_page.specs.Elements.{is_element, and_then}
use Rattle.queue_page.specs.Runs.{Run, run, behind}
use Rattle.queue_page.specs.Pages.{PageRows, recorded, room_of, run_behind, with_run, extended}
use Rattle.queue_page.specs.Grammar.{IsElement, AreElements}
use Rattle.queue_page.specs.Leaving.{IsOpenPage, ComesBehind, SaysFirst}
use Rattle.queue_page.specs.declared.fault.Mismatch.{Mismatch}
use Rattle.queue_page.specs.declared.row.PageRow.{PageRow}
use Rattle.queue_page.proofs.ElementReads.{and_then_ok}
use Rattle.queue_page.proofs.RunLemmas.{run_took}
use Rattle.queue_page.proofs.PageReads.{recorded_took}
use Rattle.queue_page.proofs.Leftovers.{same_recorded}
use Rattle.queue_page.proofs.Prefixes.{AllStand, run_prefix}

-- one element more
are_more : (version number place : ℕ) (rows : List PageRow) (bytes : List ℕ) (row : PageRow) (frame : List ℕ) → AreElements version number place rows bytes
    → row.number ≡ number + length rows → IsElement version (place + length bytes) row frame → AreElements version number place (rows ++ row ∷ []) (bytes ++ frame)
are_more version number place [] bytes row frame are number_is element =
    let none : length bytes ≡ 0 = ap length are in
    let here : place + length bytes ≡ place = omega (arith, none) in
    let same : row.number ≡ number = omega (arith, number_is) in
    (frame, [], append-nil frame ∙ ap (λ b. b ++ frame) (sym are), same, subst (λ p. IsElement version p row frame) here element, refl)
are_more version number place (first ∷ rows) bytes row frame are number_is element =
    let front = are.0 in
    let rest = are.1 in
    let long : length bytes ≡ length front + length rest = ap length (sym are.2) ∙ length-append front rest in
    let there : place + length bytes ≡ first.next + length rest = omega (arith, long, are.4.next) in
    let numbers : row.number ≡ number + 1 + length rows = omega (arith, number_is) in (
      front,
      rest ++ frame,
      sym (append_assoc front rest frame) ∙ ap (λ b. b ++ frame) are.2,
      are.3,
      are.4,
      are_more version (number + 1) first.next rows rest row frame are.5 numbers (subst (λ p. IsElement version p row frame) there element),
    )

abbrev of_rows : PageRows → Result PageRows Mismatch
of_rows page = Ok page

module _ (s : PageState) (version : ℕ) (rows pending : List PageRow) (front tail : List ℕ) (file : List ℕ) (stands : take (length front) file ≡ front)
    (only : (place : ℕ) (frame : List ℕ) → length front ≤ place → passes is_element place frame → 0 < length frame → StandsAt place frame file → StandsAt (place - length front) frame tail) where
  all_stand : AllStand (drop (length front) file) tail
  all_stand place frame is some here =
      let n = length front in
      let there : StandsAt (n + place) frame file = ap (take (length frame)) (sym (drop-drop place n file)) ∙ here in
      let same : n + place - n ≡ place = omega arith in
      subst (λ p. StandsAt p frame tail) same (only (n + place) frame (omega arith) is some there)

  first_by : (recorded_page : PageRows) → recorded s front ≡ Ok recorded_page → with_run recorded_page (run_behind s recorded_page.version front) ≡ record { version = version; rows = rows; length = length front }
      → AreElements version (s.least + length rows) (length front) pending tail → SaysFirst s version rows pending file
  first_by page read whole are =
      let n = length front in
      let took = recorded_took s front page read in
      let r = run_behind s page.version front in
      let ran = run_took (room_of s) page.version (s.least + s.count) s.length (drop s.length front) in
      let size = ran.size in
      let end : r.end ≡ n = ap (λ (p : PageRows). p.length) whole in
      let v : page.version ≡ version = ap (λ (p : PageRows). p.version) whole in
      let all : page.rows ++ r.rows ≡ rows = ap (λ (p : PageRows). p.rows) whole in
      let sum : s.length + size ≡ n = sym ran.end_is ∙ end in
      let begins_all : take n file ≡ take n front = stands ∙ sym (take_all n front (omega arith)) in
      let same = same_recorded s front file n (omega (arith, sum)) (omega arith) begins_all in
      let ends : take (s.length + size) file ≡ take (s.length + size) front = subst (λ k. take k file ≡ take k front) (sym sum) begins_all in
      let begins : take size (drop s.length file) ≡ take size (drop s.length front) = sym (drop-take s.length size file) ∙ ap (drop s.length) ends ∙ drop-take s.length size front in
      let rest = run (room_of s - length r.rows) page.version (s.least + s.count + length r.rows) (s.length + size) (drop size (drop s.length file)) in
      let again : run_behind s page.version file ≡ behind r.rows rest = ran.again (drop s.length file) begins in
      let where_is : drop size (drop s.length file) ≡ drop n file = drop-drop size s.length file ∙ ap (λ k. drop k file) sum in
      let numbers : s.least + length rows ≡ s.least + s.count + length r.rows = omega (arith, ap length (sym all), length-append page.rows r.rows, took.count) in
      let are_there : AreElements page.version (s.least + s.count + length r.rows) (s.length + size) pending tail =
      subst (λ w. AreElements w (s.least + s.count + length r.rows) (s.length + size) pending tail) (sym v)
      (subst (λ k. AreElements version k (s.length + size) pending tail) numbers (subst (λ p. AreElements version (s.least + length rows) p pending tail) (sym sum) are)) in
      let prefix = run_prefix (room_of s - length r.rows) page.version (s.least + s.count + length r.rows) (s.length + size) (drop size (drop s.length file)) pending tail are_there
      (subst (λ b. AllStand b tail) (sym where_is) all_stand) in
      record {
        page = with_run page (run_behind s page.version file);
        says = ap (λ x. and_then x (λ p. Ok (extended true s file p))) (same ∙ read);
        version_is = v;
        count = prefix.count;
        few = prefix.few;
        rows_are = ap (λ (x : Run). page.rows ++ x.rows) again ∙ sym (append_assoc page.rows r.rows rest.rows) ∙ ap (λ l. l ++ rest.rows) all ∙ ap (λ l. rows ++ l) prefix.are;
      }

  pub says_first : IsOpenPage s version rows pending front tail → SaysFirst s version rows pending file
  says_first is =
      let b = and_then_ok (recorded s front) (λ page. Ok (extended true s front page)) (record { version = version; rows = rows; length = length front }) is.says in
      let made : of_rows (with_run b.0 (run_behind s b.0.version front)) ≡ of_rows (record { version = version; rows = rows; length = length front }) = b.2 in
      first_by b.0 b.1 (cc) is.behind

pub appended_first : {S : Type 0} (store : StoreWords S) → ImagesTell store → (name : List ℕ) (s : PageState) (version : ℕ) (rows pending : List PageRow) (front tail : List ℕ) (row : PageRow) (frame : List ℕ) (old mid : S)
    → HasTail store old name front tail → IsOpenPage s version rows pending front tail → ComesBehind s version rows pending front tail row frame
    → Changes store old mid name (TornFile (file_length (store.seen old name)) frame)
    → EachMoment store old mid (λ i. NoChance (passes is_element) (i name) → SaysFirst s version rows (pending ++ row ∷ []) (bytes_of (i name).file))
appended_first store tell name s version rows pending front tail row frame old mid has is next change =
    let with_row : IsOpenPage s version rows (pending ++ row ∷ []) front (tail ++ frame) =
    record { says = is.says; behind = are_more version (s.least + length rows) (length front) pending tail row frame is.behind next.number next.element } in
    weaker store tell old mid (HoldsNamed store is_element name front (tail ++ frame))
    (λ i. NoChance (passes is_element) (i name) → SaysFirst s version rows (pending ++ row ∷ []) (bytes_of (i name).file))
    (appended_run store tell name front tail frame old mid has change is_element)
    (λ i told holds chance. let h = holds chance in says_first s version rows (pending ++ row ∷ []) front (tail ++ frame) (bytes_of (i name).file) h.stands h.only with_row)
