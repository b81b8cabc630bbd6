-- The numbers of the unread rows of a queue rise from that of the next row on.
use Rattle.std.proofs.Common.{◌≡◌, ◌⊎◌, inl, inr, ⊎_elim, ℕ, zero, suc, ◌+◌, ◌-◌, ◌≤◌, ◌==◌, nat_lt, Bool, true, false, if◌then◌else◌, List, [], ◌∷◌, ◌++◌, length, drop, Result, Ok, Err, refl, sym, ap, ◌∙◌, subst, arith, append-nil}
use Rattle.std.proofs.lemmas.Bool.{cond-false, cond-true}
use Rattle.std.proofs.lemmas.Bool.Decides.{nat_tests}
use Rattle.io_traits.specs.Folders.{Content}
use Rattle.io_traits.specs.Reads.{bytes_of}
use Rattle.io_traits.specs.declared.queue_faults.Damage.{Damage}
use Rattle.queue_page.specs.Elements.{and_then}
use Rattle.queue_page.specs.declared.row.PageRow.{PageRow}
use Rattle.queue_files.specs.Found.{Row, row_of, since}
use Rattle.queue_files.specs.Kept.{Page, AreNumbered, IsSound, Rising, all_rows}
use Rattle.queue_core.specs.Calls.{end_of}
use Rattle.queue_core.specs.GivenOnce.{AreRising}
use Rattle.queue_core.specs.NextBatch.{StandsAt, left_in, unread_rows_in}
use Rattle.queue_core.specs.Opens.{ArePagesOf, IsAmong, IsPageOf}
use Rattle.queue_core.specs.QueueBatches.{CursorStands}
use Rattle.queue_core.specs.Taking.{Stand, stand, begun, entered, is_passed, rows_of, page_read, pages_read}
use Rattle.queue_core.specs.Views.{CursorView, OpenPageView}
use Rattle.queue_core.specs.declared.page_rows.BatchReader.{BatchReader}
use Rattle.queue_core.proofs.PageNumbers.{ok_same}
use Rattle.queue_core.proofs.UnreadCalls.{left_by, numbered_left}
use Rattle.queue_core.proofs.UnreadRows.{rows_with}

-- ---- lists of rows

pub less_from : (a b : ℕ) (rows : List Row) (end : ℕ) → b ≤ a → AreRising a rows end → AreRising b rows end
less_from a b [] end less rise = omega (arith, less, rise)
less_from a b (r ∷ rows) end less rise = (let here = rise.0 in omega (arith, less, here), rise.1)

pub rise_rest : (from : ℕ) (front rest : List Row) (end : ℕ) → AreRising from (front ++ rest) end → AreRising from rest end
rise_rest from [] rest end rise = rise
rise_rest from (r ∷ front) rest end rise = let here = rise.0 in less_from (suc r.number) from rest end (omega (arith, here)) (rise_rest (suc r.number) front rest end rise.1)

pub rise_then : (from : ℕ) (front : List Row) (mid : ℕ) (rows : List Row) (end : ℕ) → AreRising from front mid → AreRising mid rows end → AreRising from (front ++ rows) end
rise_then from [] mid rows end rise then_rise = less_from mid from rows end rise then_rise
rise_then from (r ∷ front) mid rows end rise then_rise = (rise.0, rise_then (suc r.number) front mid rows end rise.1 then_rise)

-- ---- rows of a page

rise_since : (from start : ℕ) (rows : List PageRow) → AreNumbered start rows → AreRising start (since from rows) (start + length rows)
rise_since from start [] are = omega arith
rise_since from start (r ∷ rows) are = by (nat_lt r.number from) (rise_since from (suc start) rows are.1)
  where
    by : (b : Bool) → AreRising (suc start) (since from rows) (suc start + length rows) → AreRising start (if b then since from rows else row_of r ∷ since from rows) (start + suc (length rows))
    by true rest =
        let end : suc start + length rows ≡ start + suc (length rows) = omega arith in
        subst (λ e. AreRising start (since from rows) e) end (less_from (suc start) start (since from rows) (suc start + length rows) (omega arith) rest)
    by false rest =
        let end : suc start + length rows ≡ start + suc (length rows) = omega arith in
        let here : r.number ≡ start = are.0 in
        (omega (arith, here), subst (λ n. AreRising (suc n) (since from rows) (start + suc (length rows))) (sym here) (subst (λ e. AreRising (suc start) (since from rows) e) end rest))

rise_drop : (from start end k : ℕ) (rows : List PageRow) → AreRising start (since from rows) end → AreRising start (since from (drop k rows)) end
rise_drop from start end zero rows rise = rise
rise_drop from start end (suc k) [] rise = rise
rise_drop from start end (suc k) (r ∷ rows) rise = rise_drop from start end k rows (by (nat_lt r.number from) rise)
  where
    by : (b : Bool) → AreRising start (if b then since from rows else row_of r ∷ since from rows) end → AreRising start (since from rows) end
    by true rise = rise
    by false rise = let here = rise.0 in less_from (suc r.number) start (since from rows) end (omega (arith, here)) rise.1

module _ (o : OpenPageView) (p : Page) (is : IsPageOf o p) (sound : IsSound p) where
  rise_page : AreRising o.page.state.least (since o.from p.rows) (end_of o)
  rise_page =
      let end : o.page.state.least + length p.rows ≡ end_of o = omega (arith, is.count) in
      subst (λ e. AreRising o.page.state.least (since o.from p.rows) e) end (rise_since o.from o.page.state.least p.rows (subst (λ n. AreNumbered n p.rows) is.least sound.numbered))

  rise_left : (s : Stand) → AreRising o.page.state.least (since o.from (left_in s o p.rows)) (end_of o)
  rise_left s = left_by (λ rows. AreRising o.page.state.least (since o.from rows) (end_of o)) s o p.rows
      (λ below. omega arith)
      (λ this. rise_drop o.from o.page.state.least (end_of o) (s.reading.number - o.page.state.least) p.rows rise_page)
      (λ later. rise_page)

  -- from the next row on, if that stands in this page
  rise_here : (content : Content) (c : CursorView) → StandsAt o p.rows (bytes_of (content o.file)) c.number c.place → c.page ≡ o.number → AreRising c.number (since o.from (left_in (begun 0 c) o p.rows)) (end_of o)
  rise_here content c at same =
      let k = c.number - o.page.state.least in
      let above : nat_lt o.number c.page ≡ false = grind (arith, nat_tests, same) in
      let this : (o.number == c.page) ≡ true = grind (arith, nat_tests, same) in
      let left : left_in (begun 0 c) o p.rows ≡ drop k p.rows = cond-false _ _ _ above ∙ cond-true _ _ _ this in
      let start : o.page.state.least + k ≡ c.number = omega (arith, at.behind) in
      let numbered = subst (λ n. AreNumbered n (drop k p.rows)) start (numbered_left o.page.state.least k p.rows (subst (λ n. AreNumbered n p.rows) is.least sound.numbered)) in
      subst (λ (l : List PageRow). AreRising c.number (since o.from l) (end_of o)) (sym left)
      (subst (λ e. AreRising c.number (since o.from (drop k p.rows)) e) at.count (rise_since o.from c.number (drop k p.rows) numbered))

-- ---- rows of all pages

pub rise_pages : (s : Stand) (number end : ℕ) (tails : List OpenPageView) (top : OpenPageView) (pages : List Page) (last : Page) → ArePagesOf tails pages → IsPageOf top last → Rising number end pages last
    → AreRising end (unread_rows_in s (tails ++ top ∷ []) (rows_with pages last)) (end_of top)
rise_pages s number end [] top [] last are is rising =
    subst (λ (l : List Row). AreRising end l (end_of top)) (sym (append-nil (since top.from (left_in s top last.rows))))
    (less_from top.page.state.least end (since top.from (left_in s top last.rows)) (end_of top) (omega (arith, rising.1, is.least)) (rise_left top last is rising.2 s))
rise_pages s number end [] top (p ∷ pages) last are is rising = elim are [ ]
rise_pages s number end (o ∷ tails) top [] last are is rising = elim are [ ]
rise_pages s number end (o ∷ tails) top (p ∷ pages) last are is rising =
    let rest = rise_pages s (suc p.number) (p.least + length p.rows) tails top pages last are.1 is rising.4 in
    let ends : p.least + length p.rows ≡ end_of o = omega (arith, are.0.least, are.0.count) in
    rise_then end (since o.from (left_in s o p.rows)) (end_of o) (unread_rows_in s (tails ++ top ∷ []) (rows_with pages last)) (end_of top)
    (less_from o.page.state.least end (since o.from (left_in s o p.rows)) (end_of o) (omega (arith, rising.2, are.0.least)) (rise_left o p are.0 rising.3 s))
    (subst (λ n. AreRising n (unread_rows_in s (tails ++ top ∷ []) (rows_with pages last)) (end_of top)) ends rest)

-- the page of a number is at least the first of pages that rise
among_above : (n number end : ℕ) (tails : List OpenPageView) (top : OpenPageView) (pages : List Page) (last : Page) → ArePagesOf tails pages → IsPageOf top last → Rising number end pages last → IsAmong n (tails ++ top ∷ []) → number ≤ n
among_above n number end [] top [] last are is rising (inl same) = omega (arith, same, rising.0, is.number)
among_above n number end [] top [] last are is rising (inr none) = elim none [ ]
among_above n number end [] top (p ∷ pages) last are is rising among = elim are [ ]
among_above n number end (o ∷ tails) top [] last are is rising among = elim are [ ]
among_above n number end (o ∷ tails) top (p ∷ pages) last are is rising (inl same) = omega (arith, same, rising.0, are.0.number)
among_above n number end (o ∷ tails) top (p ∷ pages) last are is rising (inr among) =
    let rest = among_above n (suc p.number) (p.least + length p.rows) tails top pages last are.1 is rising.4 among in
    omega (arith, rest, rising.0)

-- where the page of the next row is among them, those of all of them rise from its number on
pub rise_next : (content : Content) (c : CursorView) (number end : ℕ) (tails : List OpenPageView) (top : OpenPageView) (pages : List Page) (last : Page) → ArePagesOf tails pages → IsPageOf top last → Rising number end pages last
    → CursorStands content c (tails ++ top ∷ []) (rows_with pages last) → IsAmong c.page (tails ++ top ∷ [])
    → AreRising c.number (unread_rows_in (begun 0 c) (tails ++ top ∷ []) (rows_with pages last)) (end_of top)
rise_next content c number end [] top [] last are is rising stands (inl same) =
    subst (λ (l : List Row). AreRising c.number l (end_of top)) (sym (append-nil (since top.from (left_in (begun 0 c) top last.rows)))) (rise_here top last is rising.2 content c (stands.0 same) same)
rise_next content c number end [] top [] last are is rising stands (inr none) = elim none [ ]
rise_next content c number end [] top (p ∷ pages) last are is rising stands among = elim are [ ]
rise_next content c number end (o ∷ tails) top [] last are is rising stands among = elim are [ ]
rise_next content c number end (o ∷ tails) top (p ∷ pages) last are is rising stands (inl same) =
    let rest = rise_pages (begun 0 c) (suc p.number) (p.least + length p.rows) tails top pages last are.1 is rising.4 in
    let ends : p.least + length p.rows ≡ end_of o = omega (arith, are.0.least, are.0.count) in
    rise_then c.number (since o.from (left_in (begun 0 c) o p.rows)) (end_of o) (unread_rows_in (begun 0 c) (tails ++ top ∷ []) (rows_with pages last)) (end_of top)
    (rise_here o p are.0 rising.3 content c (stands.0 same) same) (subst (λ n. AreRising n (unread_rows_in (begun 0 c) (tails ++ top ∷ []) (rows_with pages last)) (end_of top)) ends rest)
rise_next content c number end (o ∷ tails) top (p ∷ pages) last are is rising stands (inr among) =
    let above = among_above c.page (suc p.number) (p.least + length p.rows) tails top pages last are.1 is rising.4 among in
    let below : nat_lt o.number c.page ≡ true = grind (arith, nat_tests, above, are.0.number) in
    let none : left_in (begun 0 c) o p.rows ≡ [] = cond-true _ _ _ below in
    subst (λ (l : List PageRow). AreRising c.number (since o.from l ++ unread_rows_in (begun 0 c) (tails ++ top ∷ []) (rows_with pages last)) (end_of top)) (sym none)
    (rise_next content c (suc p.number) (p.least + length p.rows) tails top pages last are.1 is rising.4 stands.1 among)

-- those that were found when the queue was opened
pub rise_all : (number end : ℕ) (tails : List OpenPageView) (top : OpenPageView) (pages : List Page) (last : Page) → ArePagesOf tails pages → IsPageOf top last → Rising number end pages last → AreRising end (all_rows pages last) (end_of top)
rise_all number end [] top [] last are is rising =
    subst (λ n. AreRising end (since n last.rows) (end_of top)) (sym is.from)
    (less_from top.page.state.least end (since top.from last.rows) (end_of top) (omega (arith, rising.1, is.least)) (rise_page top last is rising.2))
rise_all number end [] top (p ∷ pages) last are is rising = elim are [ ]
rise_all number end (o ∷ tails) top [] last are is rising = elim are [ ]
rise_all number end (o ∷ tails) top (p ∷ pages) last are is rising =
    let rest = rise_all (suc p.number) (p.least + length p.rows) tails top pages last are.1 is rising.4 in
    let ends : p.least + length p.rows ≡ end_of o = omega (arith, are.0.least, are.0.count) in
    rise_then end (since p.from p.rows) (end_of o) (all_rows pages last) (end_of top)
    (subst (λ n. AreRising end (since n p.rows) (end_of o)) (sym are.0.from) (less_from o.page.state.least end (since o.from p.rows) (end_of o) (omega (arith, rising.2, are.0.least)) (rise_page o p are.0 rising.3)))
    (subst (λ n. AreRising n (all_rows pages last) (end_of top)) ends rest)

-- ---- where a reading ends

module _ (content : Content) where
  -- where it began, or in the page that it went through
  page_ends : (o : OpenPageView) (s next : Stand) → page_read content o s ≡ Ok next → (next ≡ s) ⊎ (next.page ≡ o.number)
  unfolding page_read
  page_ends o s next is = by_test (is_passed o s) is
    where
      by_rows : (rows : Result BatchReader Damage) → and_then rows (λ r. Ok (stand o.number r)) ≡ Ok next → (next ≡ s) ⊎ (next.page ≡ o.number)
      by_rows (Ok r) e = inr (ap (λ (x : Stand). x.page) (sym (ok_same e)))
      by_rows (Err d) e = absurd (cc)

      by_test : (b : Bool) → ◌≡◌ {A = Result Stand Damage} (if b then Ok s else and_then (rows_of content o (entered o s)) (λ r. Ok (stand o.number r))) (Ok next) → (next ≡ s) ⊎ (next.page ≡ o.number)
      by_test true e = inl (sym (ok_same e))
      by_test false e = by_rows (rows_of content o (entered o s)) e

  pub reads_among : (pages : List OpenPageView) (s next : Stand) → pages_read content pages s ≡ Ok next → (next ≡ s) ⊎ IsAmong next.page pages
  reads_among [] s next is = inl (sym (ok_same is))
  reads_among (o ∷ pages) s next is = by_page (page_read content o s) refl is (λ mid read. reads_among pages mid next read)
    where
      by_page : (r : Result Stand Damage) → page_read content o s ≡ r → and_then r (pages_read content pages) ≡ Ok next → ((mid : Stand) → pages_read content pages mid ≡ Ok next → (next ≡ mid) ⊎ IsAmong next.page pages)
          → (next ≡ s) ⊎ IsAmong next.page (o ∷ pages)
      by_page (Ok mid) first behind rest = ⊎_elim
          (λ (same : next ≡ mid). ⊎_elim (λ (still : mid ≡ s). inl (same ∙ still)) (λ (here : mid.page ≡ o.number). inr (inl (ap (λ (x : Stand). x.page) same ∙ here))) (page_ends o s mid first))
          (λ (among : IsAmong next.page pages). inr (inr among))
          (rest mid behind)
      by_page (Err d) first behind rest = absurd (cc)
