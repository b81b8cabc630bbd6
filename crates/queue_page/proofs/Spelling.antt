-- Pages of the grammar are what is read, and what is read is a page.
use Rattle.std.proofs.Common.{◌≡◌, ◌⊎◌, inl, inr, ⊎_elim, ℕ, zero, suc, ◌+◌, ◌-◌, ◌*◌, ◌^◌, ◌==◌, ◌≤◌, ◌<◌, true, List, [], ◌∷◌, ◌++◌, length, take, drop, get_or, Option, Some, None, Result, Ok, Err, refl, sym, ap, ◌∙◌, subst, arith, append-nil, append_assoc, length-append, length-take, length-drop, if◌then◌else◌}
use Rattle.std.proofs.Math.Seq.{take-add}
use Rattle.std.proofs.lemmas.Bool.{cond-true, cases_lt, cases_eq, eq-eqb}
use Rattle.std.proofs.lemmas.Bool.Decides.{nat_tests}
use Rattle.std.proofs.lemmas.List.{take_all, take_at, take-take, drop-take, drop_all, nil_from_length}
use Rattle.byteorder.specs.Numbers.{big_from-lt}
use Rattle.crc_frame.specs.Crc.{is_checked}
use Rattle.crc_frame.specs.Frames.{frame_of}
use Rattle.crc_frame.specs.Bytes.{IsBytes}
use Rattle.crc_frame.proofs.Numbers.{IsBytes-drop, IsBytes-take}
use Rattle.crc_frame.proofs.FrameLemmas.{ReadsAs, read_framed}
use Rattle.event_tree.specs.Events.{Ev}
use Rattle.element_code.specs.declared.row.Origin.{Origin}
use Rattle.queue_page.specs.Bodies.{body_at}
use Rattle.queue_page.specs.Elements.{total_of, body_of, element_at, row_by, misfit}
use Rattle.queue_page.specs.Runs.{Run, run, no_run, behind}
use Rattle.queue_page.specs.Pages.{counted, counted_by, is_version, version_of, within}
use Rattle.queue_page.specs.Grammar.{IsElement, AreElements, IsPage}
use Rattle.queue_page.specs.Laws.{ElementsAreRead, ElementsAreSpelled, NoElementBeginsAnother, RunsAreLongest, PagesAreRead, PagesAreSpelled}
use Rattle.queue_page.specs.declared.fault.Mismatch.{Mismatch}
use Rattle.queue_page.specs.declared.row.PageRow.{PageRow}
use Rattle.queue_page.proofs.BodyReads.{body_sound}
use Rattle.queue_page.proofs.ElementReads.{number_long, size_long, same_head, ElementTook, element_took, frame_took}
use Rattle.queue_page.proofs.Elements.{element_read}
use Rattle.queue_page.proofs.RunReads.{run_empty, run_rest, run_with, each_run}
use Rattle.queue_page.proofs.PageReads.{recorded_long_if, recorded_took}
use Rattle.queue_page.proofs.RunLemmas.{run_took}

-- ---- elements

pub elements_are_read : ElementsAreRead
elements_are_read version place row front rest is = (element_read version place row front rest is).element

-- what was said of a body that is a row
record Said (version place number : ℕ) (frame : List ℕ) (row : PageRow) : Type 0 where
  body : body_at version (body_of frame) ≡ Ok (row.origin, row.event)

abbrev a_row : PageRow → Result PageRow Mismatch
a_row row = Ok row

said_by : (version number place : ℕ) (frame : List ℕ) (row : PageRow) (said : Result (Origin × Ev) ℕ) → body_at version (body_of frame) ≡ said → row_by number place frame said ≡ a_row row → Said version place number frame row
said_by version number place frame row (Err left) is h = absurd cc
said_by version number place frame row (Ok x) is h =
    let same : made number place frame x ≡ row = cc in
    record { body = is ∙ (λ i. Ok ((same i).origin, (same i).event)) }
  where
    made : ℕ → ℕ → List ℕ → Origin × Ev → PageRow
    made number place frame x = record { number = number; origin = x.0; event = x.1; next = place + length frame }

-- the whole of an element, which was read
module _ (version number place : ℕ) (bytes : List ℕ) (row : PageRow) (known : (version ≡ 1) ⊎ (version ≡ 2)) (frame_fit : IsBytes (take (total_of bytes) bytes)) (read : element_at version number place bytes ≡ Ok row) where
  took : ElementTook version number place bytes row
  took = element_took version number place bytes row read

  abbrev frame : List ℕ
  frame = take (total_of bytes) bytes

  long : length frame ≡ total_of bytes
  long = omega (arith, length-take (total_of bytes) bytes, took.within)

  body_long : length (body_of frame) + 16 ≡ length frame
  body_long = omega (arith, length-drop 12 (take (length frame - 4) frame), length-take (length frame - 4) frame, long)

  frame_reads : ReadsAs frame number (body_of frame)
  unfolding is_checked
  frame_reads =
      let heads = same_head frame bytes (take-take 12 (total_of bytes) bytes (omega arith)) (omega (arith, long)) (omega (arith, took.within)) in
      let size : length frame - 4 ≡ 12 + length (body_of frame) = omega (arith, body_long) in
      let whole : take (length (body_of frame) + 16) frame ≡ frame = take_all (length (body_of frame) + 16) frame (omega (arith, body_long)) in
      record {
        long = omega (arith, body_long);
        number_read = number_long frame (omega (arith, long)) ∙ heads.number ∙ took.number_is;
        length_read = size_long frame (omega (arith, long)) ∙ heads.size ∙ omega (arith, body_long, long);
        body_read = sym (drop-take 12 (length (body_of frame)) frame) ∙ ap (λ n. drop 12 (take n frame)) (sym size);
        checked = ap is_checked whole ∙ eq-eqb _ _ (frame_took version number place frame row took.frame).checked;
      }

  pub is_element_of : IsElement version place row frame
  is_element_of =
      let f = frame_took version number place frame row took.frame in
      let said = said_by version number place frame row (body_at version (body_of frame)) refl f.said in
      let body_fit : IsBytes (body_of frame) = IsBytes-drop 12 (take (length frame - 4) frame) (IsBytes-take (length frame - 4) frame frame_fit) in
      let none : drop (length (body_of frame) + 16) frame ≡ [] = drop_all (length (body_of frame) + 16) frame (omega (arith, body_long)) in
      let framed : frame ≡ frame_of number (body_of frame) =
      read_framed frame number (body_of frame) frame_fit frame_reads ∙ ap (λ l. frame_of number (body_of frame) ++ l) none ∙ append-nil (frame_of number (body_of frame)) in
      let low : number < 2 ^ 64 = omega (arith, frame_reads.number_read, big_from-lt 0 8 frame frame_fit) in
      let short : length (body_of frame) < 2 ^ 32 = omega (arith, frame_reads.length_read, big_from-lt 0 4 (drop 8 frame) (IsBytes-drop 8 frame frame_fit)) in
      record {
        body = body_of frame;
        is_body = body_sound version (body_of frame) row.origin row.event known body_fit said.body;
        number_fits = omega (arith, low, took.row_number);
        body_fits = short;
        framed = ap (λ n. frame_of n (body_of frame)) took.row_number ∙ sym framed;
        next = f.next;
      }

pub elements_are_spelled : ElementsAreSpelled
elements_are_spelled version number place bytes row known fit read =
    let took = element_took version number place bytes row read in
    (total_of bytes, took.within, is_element_of version number place bytes row known (IsBytes-take (total_of bytes) bytes fit) read)

pub none_begins_another : NoElementBeginsAnother
none_begins_another version place row other bytes more one two =
    let whole = bytes ++ more in
    let a = element_read version place row bytes more one in
    let b = element_read version place other whole [] two in
    let nil = append-nil whole in
    let b_read : element_at version other.number place whole ≡ a_row other = ap (element_at version other.number place) (sym nil) ∙ b.element in
    let b_total : total_of whole ≡ length whole = ap total_of (sym nil) ∙ b.total in
    let ta = element_took version row.number place whole row a.element in
    let tb = element_took version other.number place whole other b_read in
    let numbers : row.number ≡ other.number = sym ta.number_is ∙ tb.number_is in
    let both : a_row row ≡ a_row other = sym a.element ∙ ap (λ n. element_at version n place whole) numbers ∙ b_read in
    (cc, nil_from_length more (omega (arith, a.total, b_total, length-append bytes more)))

-- ---- runs

pub runs_are_longest : RunsAreLongest
runs_are_longest limit version number place [] front rest are few =
    let none : front ++ rest ≡ rest = ap (λ f. f ++ rest) are in
    let whole : limit ≡ limit - 0 = omega arith in
    let same : number ≡ number + 0 = omega arith in
    let there : place ≡ place + length front = omega (arith, ap length are) in
    λ i. run (whole i) version (same i) (there i) (none i)
runs_are_longest zero version number place (row ∷ rows) front rest are few = absurd (omega (arith, few))
runs_are_longest (suc limit) version number place (row ∷ rows) front rest are few =
    let one = are.0 in
    let others = are.1 in
    let bytes = front ++ rest in
    let parts : bytes ≡ one ++ (others ++ rest) = ap (λ f. f ++ rest) (sym are.2) ∙ append_assoc one others rest in
    let known = element_read version place row one (others ++ rest) are.4 in
    let read : element_at version number place bytes ≡ Ok row = ap (λ n. element_at version n place bytes) (sym are.3) ∙ ap (element_at version row.number place) parts ∙ known.element in
    let total : total_of bytes ≡ length one = ap total_of parts ∙ known.total in
    let took = element_took version number place bytes row read in
    let next : place + total_of bytes ≡ row.next = sym took.next in
    let behind_one : drop (total_of bytes) bytes ≡ others ++ rest = (λ i. drop (total i) (parts i)) ∙ drop_front one (others ++ rest) in
    let rec = runs_are_longest limit version (number + 1) row.next rows others rest are.5 (omega (arith, few)) in
    let less : limit - length rows ≡ suc limit - suc (length rows) = omega arith in
    let numbers : number + 1 + length rows ≡ number + suc (length rows) = omega arith in
    let places : row.next + length others ≡ place + length front = omega (arith, are.4.next, ap length (sym are.2), length-append one others) in
    run_with limit version number place bytes (Ok row) (omega (arith, took.within)) read
    ∙ (λ i. behind (row ∷ []) (run limit version (number + 1) (next i) (behind_one i)))
    ∙ ap (behind (row ∷ [])) rec
    ∙ (λ i. behind (row ∷ rows) (run (less i) version (numbers i) (places i) rest))
  where
    drop_front : (xs ys : List ℕ) → drop (length xs) (xs ++ ys) ≡ ys
    drop_front [] ys = refl
    drop_front (x ∷ xs) ys = drop_front xs ys

-- what a run is made of
pub record IsRunOf (limit version number place : ℕ) (bytes : List ℕ) (r : Run) : Type 0 where
  pub size : ℕ
  pub within : size ≤ length bytes
  pub many : 16 * length r.rows ≤ size
  pub are : AreElements version number place r.rows (take size bytes)
  pub all : r.stop ≡ None → length r.rows < limit → size ≡ length bytes

none_of : (limit version number place : ℕ) (bytes : List ℕ) (stop : Option Mismatch) → (stop ≡ None → 0 < limit → 0 ≡ length bytes) → IsRunOf limit version number place bytes (no_run place stop)
none_of limit version number place bytes stop all = record { size = 0; within = omega arith; many = omega arith; are = refl; all = all }

module _ (version : ℕ) (known : (version ≡ 1) ⊎ (version ≡ 2)) where
  more_of : (limit number place : ℕ) (bytes : List ℕ) → IsBytes (take (total_of bytes) bytes) → (row : PageRow) (read : element_at version number place bytes ≡ Ok row) (r : Run)
      → IsRunOf limit version (number + 1) (place + total_of bytes) (drop (total_of bytes) bytes) r → IsRunOf (suc limit) version number place bytes (behind (row ∷ []) r)
  more_of limit number place bytes fit row read r rest =
      let total = total_of bytes in
      let took = element_took version number place bytes row read in
      record {
        size = total + rest.size;
        within = omega (arith, rest.within, length-drop total bytes, took.within);
        many = omega (arith, rest.many);
        are = (
          take total bytes,
          take rest.size (drop total bytes),
          sym (take-add total rest.size bytes),
          took.row_number,
          is_element_of version number place bytes row known fit read,
          subst (λ p. AreElements version (number + 1) p r.rows (take rest.size (drop total bytes))) (sym took.next) rest.are,
        );
        all = λ stop few. omega (arith, rest.all stop (omega (arith, few)), length-drop total bytes, took.within);
      }

-- the bytes of its elements
abbrev HasBytes : ℕ → List ℕ → Run → Type 0
HasBytes place bytes r = (size : ℕ) → r.end ≡ place + size → IsBytes (take size bytes)

-- those of its first element, and those of the rest
first_bytes : (limit version number place : ℕ) (bytes : List ℕ) (row : PageRow) → element_at version number place bytes ≡ Ok row → HasBytes place bytes (behind (row ∷ []) (run_rest limit version number place bytes))
    → IsBytes (take (total_of bytes) bytes) × HasBytes (place + total_of bytes) (drop (total_of bytes) bytes) (run_rest limit version number place bytes)
first_bytes limit version number place bytes row read have =
    let total = total_of bytes in
    let rest = run_took limit version (number + 1) (place + total) (drop total bytes) in
    let all = have (total + rest.size) (omega (arith, rest.end_is)) in (
      subst IsBytes (take-take total (total + rest.size) bytes (omega arith)) (IsBytes-take total (take (total + rest.size) bytes) all),
      λ size ends.
          let whole : IsBytes (take (total + size) bytes) = have (total + size) (omega (arith, ends)) in
          subst IsBytes (drop-take total size bytes) (IsBytes-drop total (take (total + size) bytes) whole),
    )

pub is_run : (limit version number place : ℕ) (bytes : List ℕ) → (version ≡ 1) ⊎ (version ≡ 2) → HasBytes place bytes (run limit version number place bytes)
    → IsRunOf limit version number place bytes (run limit version number place bytes)
is_run limit version number place bytes known = each_run version (λ l n p b r. HasBytes p b r → IsRunOf l version n p b r)
    (λ l n p b empty fit. none_of l version n p b None (λ stop few. ⊎_elim (λ none. absurd (omega (arith, none, few))) (λ none. sym none) empty))
    (λ l n p b fault some read fit. none_of (suc l) version n p b (Some fault) (λ none few. absurd cc))
    (λ l n p b row some read rest fit.
    let parts = first_bytes l version n p b row read fit in
    more_of version known l n p b parts.0 row read (run_rest l version n p b) (rest parts.1))
    limit number place bytes

-- ---- pages

known_version : (version : ℕ) → is_version version ≡ true → (version ≡ 1) ⊎ (version ≡ 2)
known_version version is = elim (cases_eq version 1) [
  | inl one ↦ inl one
  | inr other ↦ inr (grind (arith, nat_tests, is, other))
]

version_known : (version : ℕ) → (version ≡ 1) ⊎ (version ≡ 2) → is_version version ≡ true
version_known version (inl one) = grind (arith, nat_tests, one)
version_known version (inr two) = grind (arith, nat_tests, two)

-- a list with a first item
begins_with : (extent : List ℕ) → 0 < length extent → extent ≡ get_or extent 0 0 ∷ drop 1 extent
begins_with [] some = absurd (omega (arith, some))
begins_with (x ∷ xs) some = refl

pub pages_are_spelled : PagesAreSpelled
pages_are_spelled s file page fit read =
    let took = recorded_took s file page read in
    let extent = take s.length file in
    let version = version_of extent in
    let known = known_version version took.known in
    let long : length extent ≡ s.length = omega (arith, length-take s.length file, took.long) in
    let r = within s extent in
    let of = is_run s.length version s.least 1 (drop 1 extent) known (λ size ends. IsBytes-take size (drop 1 extent) (IsBytes-drop 1 extent fit)) in
    let some : 0 < length extent = ⊎_elim (λ yes. yes) (λ none. absurd (not_known extent (omega (arith, none)) took.known)) (cases_lt 0 (length extent)) in
    let few : length r.rows < s.length = omega (arith, of.many, of.within, length-drop 1 extent, long, some) in
    let whole : take of.size (drop 1 extent) ≡ drop 1 extent = take_all of.size (drop 1 extent) (omega (arith, of.all took.stop few)) in
    let are : AreElements version s.least 1 page.rows (drop 1 extent) =
    subst (λ rs. AreElements version s.least 1 rs (drop 1 extent)) (sym took.rows_are) (subst (AreElements version s.least 1 r.rows) whole of.are) in (
      subst (λ v. IsPage extent v s.least page.rows) (sym took.version_is) (record { is_version = known; elements = drop 1 extent; begins = begins_with extent some; are = are }),
      took.count,
      took.length_is,
    )
  where
    not_known : (extent : List ℕ) → length extent ≡ 0 → is_version (version_of extent) ≡ true → ⊥
    not_known [] none is = cc
    not_known (x ∷ xs) none is = omega (arith, none)

pub pages_are_read : PagesAreRead
pages_are_read s version rows page rest is long count =
    let file = page ++ rest in
    let extent_is : take s.length file ≡ version ∷ is.elements = take_at page rest s.length (sym long) ∙ is.begins in
    let within_file : s.length ≤ length file = omega (arith, long, length-append page rest) in
    let elements = is.elements in
    let size : length elements + 1 ≡ s.length = omega (arith, ap length is.begins, long) in
    let few : length rows ≤ s.length = omega (arith, many version s.least 1 rows elements is.are, size) in
    let run_is : run s.length version s.least 1 elements ≡ behind rows (no_run (1 + length elements) None) =
    ap (run s.length version s.least 1) (sym (append-nil elements)) ∙ runs_are_longest s.length version s.least 1 rows elements [] is.are few
    ∙ ap (behind rows) (run_empty (s.length - length rows) version (s.least + length rows) (1 + length elements) [] refl) in
    let plain : rows ++ [] ≡ rows = append-nil rows in
    let t : (length rows == s.count) ≡ true = eq-eqb _ _ (sym count) in
    recorded_long_if s file within_file
    ∙ ap (λ (e : List ℕ). if is_version (version_of e) then counted s (version_of e) (within s e) else Err (misfit 0 (version_of e) 2)) extent_is
    ∙ cond-true _ _ _ (version_known version is.is_version)
    ∙ ap (λ (r : Run). counted_by s version r r.stop) (run_is ∙ (λ i. record { rows = plain i; end = 1 + length elements; stop = None }))
    ∙ cond-true _ _ _ t
  where
    many : (version number place : ℕ) (rows : List PageRow) (bytes : List ℕ) → AreElements version number place rows bytes → length rows ≤ length bytes
    many version number place [] bytes are = omega arith
    many version number place (row ∷ rows) bytes are =
        let known = element_read version place row are.0 [] are.4 in
        omega (arith, many version (number + 1) row.next rows are.1 are.5, ap length (sym are.2), length-append are.0 are.1, known.total)
