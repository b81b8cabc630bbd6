-- The next rows of a page are those of its elements.
use Rattle.std.proofs.Common.{◌≡◌, inl, inr, ℕ, zero, suc, ◌+◌, ◌-◌, ◌<◌, ◌≤◌, not, ◌||◌, nat_lt, Bool, true, false, if◌then◌else◌, List, [], ◌∷◌, ◌++◌, length, map, drop, Option, Some, None, Ok, refl, sym, ap, ◌∙◌, subst, arith, append-nil, append_assoc, length-append}
use Rattle.std.proofs.lemmas.Bool.{cond-true, cond-false, cases_lt, true≢false}
use Rattle.std.proofs.lemmas.Bool.Decides.{nat_tests}
use Rattle.std.proofs.lemmas.List.{map-append, drop_at}
use Rattle.crc_frame.proofs.FrameLemmas.{length-frame_of}
use Rattle.event_tree.specs.Events.{Ev}
use Rattle.element_code.specs.declared.row.Origin.{Origin}
use Rattle.element_code.specs.declared.row.Origin.TheVariants.{Unknown, Id}
use Rattle.queue_page.specs.Blocks.{left_of}
use Rattle.queue_page.specs.Bodies.{IsBody, body_spelling}
use Rattle.queue_page.specs.Elements.{element_at}
use Rattle.queue_page.specs.Grammar.{IsElement, AreElements}
use Rattle.queue_page.specs.Views.{PageView}
use Rattle.queue_page.specs.declared.row.PageRow.{PageRow}
use Rattle.queue_page.proofs.Elements.{element_read}
use Rattle.queue_page.proofs.Fronts.{length-left}
use Rattle.queue_page.proofs.RunReads.{left_more}
use Rattle.queue_files.specs.Found.{Row, row_of, since}
use Rattle.queue_core.specs.Batching.{given, with_more, is_over, passed, joined, behind_row, place_in, rows_read}
use Rattle.queue_core.specs.Unread.{told, body_size, taken, taken_on, taken_with, IsReadOn}
use Rattle.queue_core.specs.declared.page_rows.BatchReader.{BatchReader}
use Rattle.queue_core.proofs.RowReads.{rows_none, rows_over, row_step}

pub spelled : (version : ℕ) (body : List ℕ) (origin : Origin) (event : Ev) → IsBody version body origin event → body_spelling origin event ≡ body
spelled version body Unknown event is = is.1.spelled
spelled version body (Id id) event is = is.1.spelled

none_taken : (most count : ℕ) (bytes : Option ℕ) → taken most count bytes [] ≡ []
none_taken most zero bytes = refl
none_taken most (suc count) bytes = refl

-- what a batch that isn't closed takes of further rows, and of none
pub still_on : (r : BatchReader) → r.closed ≡ false → (more : List Row) → taken_on r more ≡ taken r.most_bytes (r.most_rows - length r.rows) r.bytes more
still_on r still more = cond-false _ _ _ still

none_if : (closed : Bool) (rows : List Row) → rows ≡ [] → (if closed then [] else rows) ≡ []
none_if true rows none = refl
none_if false rows none = none

pub nothing_on : (r : BatchReader) → taken_on r [] ≡ []
nothing_on r = none_if r.closed (taken r.most_bytes (r.most_rows - length r.rows) r.bytes []) (none_taken r.most_bytes (r.most_rows - length r.rows) r.bytes)

module _ (name : List ℕ) (p : PageView) (from : ℕ) (file : List ℕ) (long : p.state.length ≤ length file) where
  abbrev left : BatchReader → List ℕ
  left r = left_of file r.place p.state.length

  -- what is read of rows, and that the batch has those that it may have
  pub record Reads (rows : List PageRow) (r : BatchReader) : Type 0 where
    pub next : BatchReader
    pub is : rows_read name p from file (length rows) r ≡ Ok next
    pub on : IsReadOn p from file rows r next

  -- a batch that has as many as it may
  full : (rows : List PageRow) (r : BatchReader) → r.closed ≡ false → r.place ≤ p.state.length → AreElements p.version r.number r.place rows (left_of file r.place p.state.length) → r.most_rows ≤ length r.rows → Reads rows r
  full rows r still within els all =
      let t : nat_lt (length r.rows) r.most_rows ≡ false = grind (arith, nat_tests, all) in
      let over : is_over r ≡ true = ap (λ b. b || not (nat_lt (length r.rows) r.most_rows)) still ∙ ap not t in
      let none : r.most_rows - length r.rows ≡ 0 = omega arith in
      record {
        next = r;
        is = rows_over name p from file (length rows) r over;
        on = record {
          count = 0;
          few = omega arith;
          number = omega arith;
          within = within;
          left = els;
          given = refl;
          goes_on = λ more. ap (λ n. map told r.rows ++ taken r.most_bytes n r.bytes (since from rows ++ more)) none ∙ ap (λ n. map told r.rows ++ taken r.most_bytes n r.bytes more) (sym none)
              ∙ ap (λ l. map told r.rows ++ l) (sym (still_on r still more));
          most_rows = refl;
          most_bytes = refl;
          all = λ not_over. absurd (true≢false (sym over ∙ not_over));
        };
      }

  -- the first row of those that stand there
  module _ (row : PageRow) (rows : List PageRow) (r : BatchReader) (still : r.closed ≡ false) (room : length r.rows < r.most_rows) (within : r.place ≤ p.state.length)
      (els : AreElements p.version r.number r.place (row ∷ rows) (left r)) where
    abbrev front : List ℕ
    front = els.0

    parts : els.0 ++ els.1 ≡ left r
    parts = els.2

    number : row.number ≡ r.number
    number = els.3

    element : IsElement p.version r.place row els.0
    element = els.4

    place_is : place_in p r ≡ r.place
    place_is = omega (arith, within)

    read : element_at p.version r.number (place_in p r) (left_of file (place_in p r) p.state.length) ≡ Ok row
    read =
        let here = ap (λ b. element_at p.version r.number r.place b) (sym parts) ∙ ap (λ n. element_at p.version n r.place (els.0 ++ els.1)) (sym number)
        ∙ (element_read p.version r.place row els.0 els.1 element).element in
        subst (λ n. element_at p.version r.number n (left_of file n p.state.length) ≡ Ok row) (sym place_is) here

    pub inside : row.next ≤ p.state.length
    inside = omega (arith, element.next, ap length parts, length-append els.0 els.1, length-left file r.place p.state.length long, within)

    behind : left_of file row.next p.state.length ≡ els.1
    behind =
        ap (λ n. left_of file n p.state.length) element.next ∙ sym (left_more file r.place p.state.length (length els.0)) ∙ ap (drop (length els.0)) (sym parts)
        ∙ drop_at els.0 els.1 (length els.0) refl

    pub more : AreElements p.version (r.number + 1) row.next rows (left_of file row.next p.state.length)
    more = subst (AreElements p.version (r.number + 1) row.next rows) (sym behind) els.5

    size : row.next - place_in p r - 16 ≡ body_size (row_of row)
    size =
        let framed = ap length element.framed in
        let body = ap length (spelled p.version element.body row.origin row.event element.is_body) in
        omega (arith, element.next, place_is, framed, body, length-frame_of row.number element.body)

    pub step : rows_read name p from file (suc (length rows)) r ≡ rows_read name p from file (length rows) (behind_row from (place_in p r) row r)
    step =
        let t : nat_lt (length r.rows) r.most_rows ≡ true = grind (arith, nat_tests, room) in
        let goes_on : is_over r ≡ false = ap (λ b. b || not (nat_lt (length r.rows) r.most_rows)) still ∙ ap not t in
        row_step name p from file r (length rows) goes_on row read

    -- one that is passed over
    pub one_passed : r.number < from → Reads rows (passed row r) → Reads (row ∷ rows) r
    one_passed below rest =
        let t : nat_lt r.number from ≡ true = grind (arith, nat_tests, below) in
        let u : nat_lt row.number from ≡ true = grind (arith, nat_tests, below, number) in
        record {
          next = rest.next;
          is = step ∙ ap (rows_read name p from file (length rows)) (cond-true _ _ _ t) ∙ rest.is;
          on = record {
            count = suc rest.on.count;
            few = omega (arith, rest.on.few);
            number = omega (arith, rest.on.number);
            within = rest.on.within;
            left = rest.on.left;
            given = rest.on.given ∙ ap (λ (l : List Row). map told r.rows ++ l) (sym (cond-true _ _ _ u));
            goes_on = λ more. ap (λ (l : List Row). map told r.rows ++ taken r.most_bytes (r.most_rows - length r.rows) r.bytes (l ++ more)) (cond-true _ _ _ u) ∙ rest.on.goes_on more;
            most_rows = rest.on.most_rows;
            most_bytes = rest.on.most_bytes;
            all = rest.on.all;
          };
        }

    module _ (late : from ≤ r.number) where
      stepped : (bytes : Option ℕ) → bytes ≡ with_more r.most_bytes r.bytes (body_size (row_of row)) → rows_read name p from file (suc (length rows)) r ≡ rows_read name p from file (length rows) (joined row bytes r)
      stepped bytes is =
          let t : nat_lt r.number from ≡ false = grind (arith, nat_tests, late) in
          step ∙ ap (rows_read name p from file (length rows)) (cond-false _ _ _ t ∙ ap (λ n. joined row (with_more r.most_bytes r.bytes n) r) size ∙ ap (λ b. joined row b r) (sym is))

      since_is : since from (row ∷ rows) ≡ row_of row ∷ since from rows
      since_is = let u : nat_lt row.number from ≡ false = grind (arith, nat_tests, late, number) in cond-false _ _ _ u

      rows_then : (bytes : Option ℕ) → bytes ≡ with_more r.most_bytes r.bytes (body_size (row_of row)) → (more : List Row)
          → taken r.most_bytes (r.most_rows - length r.rows) r.bytes (since from (row ∷ rows) ++ more) ≡ taken_with bytes (row_of row) (λ b. taken r.most_bytes (r.most_rows - (length r.rows + 1)) b (since from rows ++ more))
      rows_then bytes is more =
          let count : r.most_rows - length r.rows ≡ suc (r.most_rows - (length r.rows + 1)) = omega (arith, room) in
          ap (λ n. taken r.most_bytes n r.bytes (since from (row ∷ rows) ++ more)) count
          ∙ ap (λ (l : List Row). taken r.most_bytes (suc (r.most_rows - (length r.rows + 1))) r.bytes (l ++ more)) since_is
          ∙ ap (λ b. taken_with b (row_of row) (λ b. taken r.most_bytes (r.most_rows - (length r.rows + 1)) b (since from rows ++ more))) (sym is)

      -- one that has no room
      pub one_closes : None ≡ with_more r.most_bytes r.bytes (body_size (row_of row)) → Reads (row ∷ rows) r
      one_closes is = record {
        next = joined row None r;
        is = stepped None is ∙ rows_over name p from file (length rows) (joined row None r) refl;
        on = record {
          count = 0;
          few = omega arith;
          number = omega arith;
          within = within;
          left = els;
          given = refl;
          goes_on = λ more. ap (λ l. map told r.rows ++ l) (rows_then None is more);
          most_rows = refl;
          most_bytes = refl;
          all = λ not_over. absurd (true≢false not_over);
        };
      }

      -- one that joins
      pub one_joins : (bytes : ℕ) → Some bytes ≡ with_more r.most_bytes r.bytes (body_size (row_of row)) → Reads rows (joined row (Some bytes) r) → Reads (row ∷ rows) r
      one_joins bytes is rest =
          let rest_is : List Row → List Row = λ more. taken r.most_bytes (r.most_rows - (length r.rows + 1)) (Some bytes) (since from rows ++ more) in
          let count : length (r.rows ++ given row ∷ []) ≡ length r.rows + 1 = length-append r.rows (given row ∷ []) in
          record {
            next = rest.next;
            is = stepped (Some bytes) is ∙ rest.is;
            on = record {
              count = suc rest.on.count;
              few = omega (arith, rest.on.few);
              number = omega (arith, rest.on.number);
              within = rest.on.within;
              left = rest.on.left;
              given = rest.on.given ∙ ap (λ (l : List Row). l ++ since from rows) (map-append told r.rows (given row ∷ []))
                  ∙ append_assoc (map told r.rows) (row_of row ∷ []) (since from rows) ∙ ap (λ (l : List Row). map told r.rows ++ l) (sym since_is);
              goes_on = λ more. ap (λ l. map told r.rows ++ l) (rows_then (Some bytes) is more)
                  ∙ sym (append_assoc (map told r.rows) (row_of row ∷ []) (rest_is more))
                  ∙ (λ i. sym (map-append told r.rows (given row ∷ [])) i ++ taken r.most_bytes (r.most_rows - sym count i) (Some bytes) (since from rows ++ more))
                  ∙ rest.on.goes_on more;
              most_rows = rest.on.most_rows;
              most_bytes = rest.on.most_bytes;
              all = rest.on.all;
            };
          }

  pub next_rows : (rows : List PageRow) (r : BatchReader) → r.closed ≡ false → r.place ≤ p.state.length → AreElements p.version r.number r.place rows (left_of file r.place p.state.length) → Reads rows r
  next_rows [] r still within els = record {
    next = r;
    is = rows_none name p from file r;
    on = record {
      count = 0;
      few = omega arith;
      number = omega arith;
      within = within;
      left = els;
      given = refl;
      goes_on = λ more. ap (λ l. map told r.rows ++ l) (sym (still_on r still more));
      most_rows = refl;
      most_bytes = refl;
      all = λ not_over. refl;
    };
  }
  next_rows (row ∷ rows) r still within els = elim (cases_lt (length r.rows) r.most_rows) [
    | inr all ↦ full (row ∷ rows) r still within els (omega (arith, all))
    | inl room ↦ elim (cases_lt r.number from) [
      | inl below ↦ one_passed row rows r still room within els below (next_rows rows (passed row r) still (inside row rows r still room within els) (more row rows r still room within els))
      | inr late ↦ by (omega (arith, late)) room (with_more r.most_bytes r.bytes (body_size (row_of row))) refl (λ bytes. next_rows rows (joined row (Some bytes) r) still (inside row rows r still room within els) (more row rows r still room within els))
    ]
  ]
    where
      by : from ≤ r.number → length r.rows < r.most_rows → (bytes : Option ℕ) → bytes ≡ with_more r.most_bytes r.bytes (body_size (row_of row)) → ((bytes : ℕ) → Reads rows (joined row (Some bytes) r)) → Reads (row ∷ rows) r
      by late room None is again = one_closes row rows r still room within els late is
      by late room (Some bytes) is again = one_joins row rows r still room within els late bytes is (again bytes)

  -- those that the batch has then
  pub rows_got : (rows : List PageRow) (r next : BatchReader) → IsReadOn p from file rows r next → map told next.rows ≡ map told r.rows ++ taken r.most_bytes (r.most_rows - length r.rows) r.bytes (since from rows)
  rows_got rows r next on =
      sym (append-nil (map told next.rows)) ∙ ap (λ l. map told next.rows ++ l) (sym (nothing_on next)) ∙ sym (on.goes_on [])
      ∙ ap (λ (l : List Row). map told r.rows ++ taken r.most_bytes (r.most_rows - length r.rows) r.bytes l) (append-nil (since from rows))
