-- What calls that change files make of the unread rows of a queue.
use Rattle.std.proofs.Common.{◌≡◌, ◌⊎◌, ⊎_elim, inl, inr, ℕ, zero, suc, ◌+◌, ◌-◌, ◌<◌, ◌≤◌, ◌^◌, ◌==◌, ◌||◌, not, nat_lt, min, Bool, true, false, if◌then◌else◌, IsTrue, List, [], ◌∷◌, ◌++◌, length, map, drop, refl, sym, ap, ◌∙◌, subst, arith, append_assoc, append-nil, length-append, length-drop}
use Rattle.std.proofs.Math.Path.{ap₂}
use Rattle.std.proofs.lemmas.Bool.{cond-false, cond-true, cases_Bool, true≢false}
use Rattle.std.proofs.lemmas.Bool.Decides.{nat_tests}
use Rattle.std.proofs.lemmas.List.{drop-append-le, length-map}
use Rattle.io_traits.specs.Folders.{Content}
use Rattle.io_traits.specs.Reads.{bytes_of}
use Rattle.io_traits.specs.declared.stores.Store.{Ghosts as StoreWords}
use Rattle.event_tree.specs.Events.{Ev}
use Rattle.queue_page.specs.Grammar.{row_framed}
use Rattle.queue_page.specs.declared.row.PageRow.{PageRow}
use Rattle.queue_files.specs.Folders.{page, names_in}
use Rattle.queue_files.specs.Found.{Row, row_of, since}
use Rattle.queue_files.specs.Kept.{Page, Queue, AreNumbered, IsSound, Rising, first_open_of, leading}
use Rattle.queue_files.specs.Steps.{marked, marked_pages, page_with, recorded_page, rolled, with_row}
use Rattle.queue_files.specs.Steps.{sealed as sealed_page}
use Rattle.queue_files.proofs.Whole.{rising_top}
use Rattle.queue_core.specs.Calls.{behind_mark, behind_purge, end_of, first_open, is_spent, with_marked, with_recorded, without_spent}
use Rattle.queue_core.specs.NextBatch.{StandsAt, left_in, unread_rows_in}
use Rattle.queue_core.specs.Opens.{ArePagesOf, IsPageOf, Opens, purged, unspent}
use Rattle.queue_core.specs.QueueBatches.{AreNamed, CursorStands, page_rows}
use Rattle.queue_core.specs.Taking.{Stand, all_pages, begun}
use Rattle.queue_core.specs.UnreadRows.{AreGiven, HasUnread, MarkLeavesUnread, PurgeLeavesUnread, WrittenComesLast, next_in, next_row}
use Rattle.queue_core.specs.Views.{OpenPageView, CursorView, QueueView}
use Rattle.queue_core.specs.Writing.{behind_append, behind_roll, frame_size, has_no_room, is_closed, made_ready, needs_page, next_top, sealed, with_open_row, written}
use Rattle.queue_core.proofs.PlacedRows.{few_before, stands_again}
use Rattle.queue_core.proofs.UnreadRows.{AllFirst, StandsFirst, rows_with, stand_first, whole_left}

-- ---- pages one behind the other

as_many : (tails : List OpenPageView) (pages : List Page) → ArePagesOf tails pages → length tails ≡ length (map (λ (p : Page). p.rows) pages)
as_many [] [] are = refl
as_many [] (p ∷ pages) are = elim are [ ]
as_many (o ∷ tails) [] are = elim are [ ]
as_many (o ∷ tails) (p ∷ pages) are = ap suc (as_many tails pages are.1)

unread_more : (s : Stand) (pages : List OpenPageView) (rows : List (List PageRow)) (o : OpenPageView) (last : List PageRow) → length pages ≡ length rows
    → unread_rows_in s (pages ++ o ∷ []) (rows ++ last ∷ []) ≡ unread_rows_in s pages rows ++ since o.from (left_in s o last)
unread_more s [] [] o last same = append-nil (since o.from (left_in s o last))
unread_more s [] (r ∷ rows) o last same = absurd (omega (arith, same))
unread_more s (p ∷ pages) [] o last same = absurd (omega (arith, same))
unread_more s (p ∷ pages) (r ∷ rows) o last same =
    ap (λ (l : List Row). since p.from (left_in s p r) ++ l) (unread_more s pages rows o last (omega (arith, same))) ∙ sym (append_assoc (since p.from (left_in s p r)) (unread_rows_in s pages rows) (since o.from (left_in s o last)))

named_more : (folder : List ℕ) (pages : List OpenPageView) (o : OpenPageView) → AreNamed folder pages → o.file ≡ names_in folder (page o.number) → AreNamed folder (pages ++ o ∷ [])
named_more folder [] o named is = (is, tt)
named_more folder (p ∷ pages) o named is = (named.0, named_more folder pages o named.1 is)

named_front : (folder : List ℕ) (pages : List OpenPageView) (o : OpenPageView) → AreNamed folder (pages ++ o ∷ []) → AreNamed folder pages × (o.file ≡ names_in folder (page o.number))
named_front folder [] o named = (tt, named.0)
named_front folder (p ∷ pages) o named = let rest = named_front folder pages o named.1 in ((named.0, rest.0), rest.1)

first_front : (content : Content) (pages : List OpenPageView) (rows : List (List PageRow)) (o : OpenPageView) (last : List PageRow) → length pages ≡ length rows → AllFirst content (pages ++ o ∷ []) (rows ++ last ∷ [])
    → AllFirst content pages rows × StandsFirst content o last
first_front content [] [] o last same firsts = (tt, firsts.0)
first_front content [] (r ∷ rows) o last same firsts = absurd (omega (arith, same))
first_front content (p ∷ pages) [] o last same firsts = absurd (omega (arith, same))
first_front content (p ∷ pages) (r ∷ rows) o last same firsts = let rest = first_front content pages rows o last (omega (arith, same)) firsts.1 in ((firsts.0, rest.0), rest.1)

-- the next row stands where the cursor says, if it is one of this page
abbrev StandsHere : Content → CursorView → OpenPageView → List PageRow → Type 0
StandsHere content c o rows = c.page ≡ o.number → StandsAt o rows (bytes_of (content o.file)) c.number c.place

stands_front : (content : Content) (c : CursorView) (pages : List OpenPageView) (rows : List (List PageRow)) (o : OpenPageView) (last : List PageRow) → length pages ≡ length rows
    → CursorStands content c (pages ++ o ∷ []) (rows ++ last ∷ []) → CursorStands content c pages rows × StandsHere content c o last
stands_front content c [] [] o last same stands = (tt, stands.0)
stands_front content c [] (r ∷ rows) o last same stands = absurd (omega (arith, same))
stands_front content c (p ∷ pages) [] o last same stands = absurd (omega (arith, same))
stands_front content c (p ∷ pages) (r ∷ rows) o last same stands = let rest = stands_front content c pages rows o last (omega (arith, same)) stands.1 in ((stands.0, rest.0), rest.1)

stands_more : (content : Content) (c : CursorView) (pages : List OpenPageView) (rows : List (List PageRow)) (o : OpenPageView) (last : List PageRow) → length pages ≡ length rows
    → CursorStands content c pages rows → StandsHere content c o last → CursorStands content c (pages ++ o ∷ []) (rows ++ last ∷ [])
stands_more content c [] [] o last same stands here = (here, tt)
stands_more content c [] (r ∷ rows) o last same stands here = absurd (omega (arith, same))
stands_more content c (p ∷ pages) [] o last same stands here = absurd (omega (arith, same))
stands_more content c (p ∷ pages) (r ∷ rows) o last same stands here = (stands.0, stands_more content c pages rows o last (omega (arith, same)) stands.1 here)

-- ---- the same rows in other files

module _ (content new : Content) (c : CursorView) where
  here_again : (o x : OpenPageView) (rows more : List PageRow) → x.number ≡ o.number → x.page.state.least ≡ o.page.state.least → StandsFirst content o rows → StandsFirst new x (rows ++ more) → StandsHere content c o rows
      → StandsHere new c x (rows ++ more)
  here_again o x rows more number least first then_first stands here =
      stands_again o rows (bytes_of (content o.file)) (omega (arith, first.long)) first.first c.number c.place (stands (here ∙ number)) x more (bytes_of (new x.file)) least (omega (arith, then_first.long)) then_first.first

  same_again : (o x : OpenPageView) (rows : List PageRow) → x.number ≡ o.number → x.page.state.least ≡ o.page.state.least → StandsFirst content o rows → StandsFirst new x rows → StandsHere content c o rows → StandsHere new c x rows
  same_again o x rows number least first then_first stands =
      subst (λ (l : List PageRow). StandsHere new c x l) (append-nil rows)
      (here_again o x rows [] number least first (subst (λ (l : List PageRow). StandsFirst new x l) (sym (append-nil rows)) then_first) stands)

  still_again : (pages : List OpenPageView) (rows : List (List PageRow)) → AllFirst content pages rows → AllFirst new pages rows → CursorStands content c pages rows → CursorStands new c pages rows
  still_again [] rows firsts then_firsts stands = tt
  still_again (o ∷ pages) [] firsts then_firsts stands = tt
  still_again (o ∷ pages) (r ∷ rows) firsts then_firsts stands =
      (same_again o o r refl refl firsts.0 then_firsts.0 stands.0, still_again pages rows firsts.1 then_firsts.1 stands.1)

  marked_again : (pages : List OpenPageView) (rows : List (List PageRow)) → AllFirst content pages rows → AllFirst new (map with_marked pages) rows → CursorStands content c pages rows → CursorStands new c (map with_marked pages) rows
  marked_again [] rows firsts then_firsts stands = tt
  marked_again (o ∷ pages) [] firsts then_firsts stands = tt
  marked_again (o ∷ pages) (r ∷ rows) firsts then_firsts stands =
      (same_again o (with_marked o) r refl refl firsts.0 then_firsts.0 stands.0, marked_again pages rows firsts.1 then_firsts.1 stands.1)

-- ---- rows with consecutive numbers

pub numbered_left : (number k : ℕ) (rows : List PageRow) → AreNumbered number rows → AreNumbered (number + k) (drop k rows)
numbered_left number zero rows are = let same : number ≡ number + 0 = omega arith in subst (λ n. AreNumbered n rows) same are
numbered_left number (suc k) [] are = tt
numbered_left number (suc k) (r ∷ rows) are = let same : suc number + k ≡ number + suc k = omega arith in subst (λ n. AreNumbered n (drop k rows)) same (numbered_left (suc number) k rows are.1)

none_from : (from number end : ℕ) (rows : List PageRow) → AreNumbered number rows → length rows ≡ end - number → end ≤ from → since from rows ≡ []
none_from from number end [] are long past = refl
none_from from number end (r ∷ rows) are long past =
    let t : nat_lt r.number from ≡ true = grind (arith, nat_tests, are.0, long, past) in
    cond-true _ _ _ t ∙ none_from from (suc number) end rows are.1 (omega (arith, long)) past

all_from : (from number : ℕ) (rows : List PageRow) → AreNumbered number rows → from ≤ number → since from rows ≡ map row_of rows
all_from from number [] are less = refl
all_from from number (r ∷ rows) are less =
    let t : nat_lt r.number from ≡ false = grind (arith, nat_tests, are.0, less) in
    cond-false _ _ _ t ∙ ap (λ (l : List Row). row_of r ∷ l) (all_from from (suc number) rows are.1 (omega (arith, less)))

since_few : (from : ℕ) (rows : List PageRow) → length (since from rows) ≤ length rows
since_few from [] = omega arith
since_few from (r ∷ rows) = by (nat_lt r.number from) (since_few from rows)
  where
    by : (b : Bool) → length (since from rows) ≤ length rows → length (if b then since from rows else row_of r ∷ since from rows) ≤ suc (length rows)
    by true rest = omega (arith, rest)
    by false rest = omega (arith, rest)

since_more : (from : ℕ) (rows : List PageRow) (row : PageRow) → from ≤ row.number → since from (rows ++ row ∷ []) ≡ since from rows ++ row_of row ∷ []
since_more from [] row late = let t : nat_lt row.number from ≡ false = grind (arith, nat_tests, late) in cond-false _ _ _ t
since_more from (r ∷ rows) row late = by (nat_lt r.number from) (since_more from rows row late)
  where
    by : (b : Bool) → since from (rows ++ row ∷ []) ≡ since from rows ++ row_of row ∷ []
        → (if b then since from (rows ++ row ∷ []) else row_of r ∷ since from (rows ++ row ∷ [])) ≡ (if b then since from rows else row_of r ∷ since from rows) ++ row_of row ∷ []
    by true rest = rest
    by false rest = ap (λ (l : List Row). row_of r ∷ l) rest

-- ---- what is left of a page

-- none of its rows, those from the next one on, or all of them
pub left_by : (P : List PageRow → Type 0) (s : Stand) (o : OpenPageView) (rows : List PageRow) → (o.number < s.page → P []) → (o.number ≡ s.page → P (drop (s.reading.number - o.page.state.least) rows)) → (s.page < o.number → P rows)
    → P (left_in s o rows)
left_by P s o rows none some all = elim (cases_Bool (nat_lt o.number s.page)) [
  | inl below ↦ subst P (sym (cond-true _ _ _ below)) (none (grind (arith, nat_tests, below)))
  | inr above ↦ elim (cases_Bool (o.number == s.page)) [
    | inl this ↦ subst P (sym (cond-false _ _ _ above ∙ cond-true _ _ _ this)) (some (grind (arith, nat_tests, this)))
    | inr other ↦ subst P (sym (cond-false _ _ _ above ∙ cond-false _ _ _ other)) (all (grind (arith, nat_tests, above, other)))
  ]
]

left_few : (s : Stand) (o : OpenPageView) (rows : List PageRow) → length (left_in s o rows) ≤ length rows
left_few s o rows =
    left_by (λ l. length l ≤ length rows) s o rows (λ below. omega arith) (λ this. omega (arith, length-drop (s.reading.number - o.page.state.least) rows)) (λ later. omega arith)

-- ---- no more rows are unread than there are numbers

few_unread : (s : Stand) (number end : ℕ) (tails : List OpenPageView) (top : OpenPageView) (pages : List Page) (last : Page) → ArePagesOf tails pages → Rising number end pages last
    → end + length (unread_rows_in s (tails ++ top ∷ []) (rows_with pages last)) ≤ last.least + length last.rows
few_unread s number end [] top [] last are rising =
    omega (arith, rising.1, ap length (append-nil (since top.from (left_in s top last.rows))), since_few top.from (left_in s top last.rows), left_few s top last.rows)
few_unread s number end [] top (p ∷ pages) last are rising = elim are [ ]
few_unread s number end (o ∷ tails) top [] last are rising = elim are [ ]
few_unread s number end (o ∷ tails) top (p ∷ pages) last are rising =
    let rest = few_unread s (suc p.number) (p.least + length p.rows) tails top pages last are.1 rising.4 in
    omega (arith, rest, rising.2, length-append (since o.from (left_in s o p.rows)) (unread_rows_in s (tails ++ top ∷ []) (rows_with pages last)), since_few o.from (left_in s o p.rows), left_few s o p.rows)

-- ---- a page of which what is acknowledged is recorded

module _ (c : CursorView) (o : OpenPageView) (p : Page) (is : IsPageOf o p) (sound : IsSound p) where
  first_same : first_open_of p ≡ first_open o
  first_same = λ i. is.least i + leading (is.acknowledged i)

  -- rows from a number on, none of which is behind what is recorded or given
  same_rows : (start : ℕ) (rows : List PageRow) → AreNumbered start rows → length rows ≡ end_of o - start → (first_open o ≤ o.from) ⊎ (first_open o ≤ start) → since (first_open o) rows ≡ since o.from rows
  same_rows start [] are long given = refl
  same_rows start (r ∷ rows) are long given = ⊎_elim
      (λ (less : p.from ≤ first_open_of p). ⊎_elim
      (λ (recorded : first_open o ≤ o.from). let same : first_open o ≡ o.from = omega (arith, less, recorded, first_same, is.from) in ap (λ n. since n (r ∷ rows)) same)
      (λ (before : first_open o ≤ start). all_from (first_open o) start (r ∷ rows) are before ∙ sym (all_from o.from start (r ∷ rows) are (omega (arith, less, before, first_same, is.from))))
      given)
      (λ (all : p.least + length p.rows ≤ first_open_of p). ⊎_elim
      (λ (recorded : first_open o ≤ o.from).
      none_from (first_open o) start (end_of o) (r ∷ rows) are long (omega (arith, all, first_same, is.least, is.count))
      ∙ sym (none_from o.from start (end_of o) (r ∷ rows) are long (omega (arith, all, recorded, first_same, is.least, is.count))))
      (λ (before : first_open o ≤ start). absurd (omega (arith, all, before, long, first_same, is.least, is.count)))
      given)
      sound.from

  -- so the same rows of it are unread
  one_marked : (o.number < c.page) ⊎ ((first_open o ≤ o.from) ⊎ (first_open o ≤ next_in c o)) → since (first_open o) (left_in (begun 0 c) o p.rows) ≡ since o.from (left_in (begun 0 c) o p.rows)
  one_marked given = left_by (λ rows. since (first_open o) rows ≡ since o.from rows) (begun 0 c) o p.rows
      (λ below. refl)
      (λ this.
      let k = c.number - o.page.state.least in
      let t : (o.number == c.page) ≡ true = grind (arith, nat_tests, this) in
      let next : next_in c o ≡ c.number = cond-true _ _ _ t in
      same_rows (o.page.state.least + k) (drop k p.rows) (numbered_left o.page.state.least k p.rows (subst (λ n. AreNumbered n p.rows) is.least sound.numbered)) (omega (arith, length-drop k p.rows, is.count))
      (⊎_elim (λ (less : o.number < c.page). absurd (omega (arith, less, this)))
      (λ later. ⊎_elim (λ (recorded : first_open o ≤ o.from). inl recorded) (λ (before : first_open o ≤ next_in c o). inr (omega (arith, before, next))) later) given))
      (λ later.
      let t : (o.number == c.page) ≡ false = grind (arith, nat_tests, later) in
      let next : next_in c o ≡ o.page.state.least = cond-false _ _ _ t in
      same_rows o.page.state.least p.rows (subst (λ n. AreNumbered n p.rows) is.least sound.numbered) (omega (arith, is.count))
      (⊎_elim (λ (less : o.number < c.page). absurd (omega (arith, less, later)))
      (λ more. ⊎_elim (λ (recorded : first_open o ≤ o.from). inl recorded) (λ (before : first_open o ≤ next_in c o). inr (omega (arith, before, next))) more) given))

given_front : (c : CursorView) (pages : List OpenPageView) (o : OpenPageView) → AreGiven c (pages ++ o ∷ []) → AreGiven c pages × ((o.number < c.page) ⊎ ((first_open o ≤ o.from) ⊎ (first_open o ≤ next_in c o)))
given_front c [] o given = (tt, given.0)
given_front c (p ∷ pages) o given = let rest = given_front c pages o given.1 in ((given.0, rest.0), rest.1)

marked_unread : (c : CursorView) (number end : ℕ) (tails : List OpenPageView) (pages : List Page) (last : Page) → ArePagesOf tails pages → Rising number end pages last → AreGiven c tails
    → unread_rows_in (begun 0 c) (map with_marked tails) (map (λ (p : Page). p.rows) pages) ≡ unread_rows_in (begun 0 c) tails (map (λ (p : Page). p.rows) pages)
marked_unread c number end [] [] last are rising given = refl
marked_unread c number end [] (p ∷ pages) last are rising given = elim are [ ]
marked_unread c number end (o ∷ tails) [] last are rising given = elim are [ ]
marked_unread c number end (o ∷ tails) (p ∷ pages) last are rising given = ap₂ (λ (a b : List Row). a ++ b)
    (one_marked c o p are.0 rising.3 given.0)
    (marked_unread c (suc p.number) (p.least + length p.rows) tails pages last are.1 rising.4 given.1)

marked_rows : (pages : List Page) → map (λ (p : Page). p.rows) (marked_pages pages) ≡ map (λ (p : Page). p.rows) pages
marked_rows [] = refl
marked_rows (p ∷ pages) = ap (λ (l : List (List PageRow)). p.rows ∷ l) (marked_rows pages)

marked_named : (folder : List ℕ) (pages : List OpenPageView) → AreNamed folder pages → AreNamed folder (map with_marked pages)
marked_named folder [] named = tt
marked_named folder (o ∷ pages) named = (named.0, marked_named folder pages named.1)

rolled_rows : (pages : List Page) (p : Page) → map (λ (p : Page). p.rows) (marked_pages pages ++ p ∷ []) ≡ map (λ (p : Page). p.rows) pages ++ p.rows ∷ []
rolled_rows [] p = refl
rolled_rows (x ∷ pages) p = ap (λ (l : List (List PageRow)). x.rows ∷ l) (rolled_rows pages p)

-- ---- pages without the first one that is spent

spent_same : (o : OpenPageView) (p : Page) → IsPageOf o p → not (nat_lt p.from (p.least + length p.rows)) ≡ is_spent o
spent_same o p is = λ i. not (nat_lt (is.from i) (is.least i + is.count i))

-- it has no unread row
spent_none : (s : Stand) (o : OpenPageView) (p : Page) → IsPageOf o p → IsSound p → is_spent o ≡ true → since o.from (left_in s o p.rows) ≡ []
spent_none s o p is sound spent =
    let far : end_of o ≤ o.from = grind (arith, nat_tests, spent) in
    let numbered = subst (λ n. AreNumbered n p.rows) is.least sound.numbered in
    let k = s.reading.number - o.page.state.least in
    left_by (λ rows. since o.from rows ≡ []) s o p.rows
    (λ below. refl)
    (λ this. none_from o.from (o.page.state.least + k) (end_of o) (drop k p.rows) (numbered_left o.page.state.least k p.rows numbered) (omega (arith, length-drop k p.rows, is.count)) far)
    (λ later. none_from o.from o.page.state.least (end_of o) p.rows numbered (omega (arith, is.count)) far)

purged_named : (folder : List ℕ) (pages : List OpenPageView) → AreNamed folder pages → AreNamed folder (without_spent pages)
purged_named folder [] named = tt
purged_named folder (o ∷ pages) named = by (is_spent o) (purged_named folder pages named.1)
  where
    by : (b : Bool) → AreNamed folder (without_spent pages) → AreNamed folder (if b then pages else o ∷ without_spent pages)
    by true rest = named.1
    by false rest = (named.0, rest)

purged_unread : (s : Stand) (number end : ℕ) (tails : List OpenPageView) (pages : List Page) (last : Page) → ArePagesOf tails pages → Rising number end pages last
    → unread_rows_in s (without_spent tails) (map (λ (p : Page). p.rows) (unspent pages)) ≡ unread_rows_in s tails (map (λ (p : Page). p.rows) pages)
purged_unread s number end [] [] last are rising = refl
purged_unread s number end [] (p ∷ pages) last are rising = elim are [ ]
purged_unread s number end (o ∷ tails) [] last are rising = elim are [ ]
purged_unread s number end (o ∷ tails) (p ∷ pages) last are rising =
    ap (λ (b : Bool). unread_rows_in s (without_spent (o ∷ tails)) (map (λ (p : Page). p.rows) (if b then pages else p ∷ unspent pages))) (spent_same o p are.0)
    ∙ by (is_spent o) (spent_none s o p are.0 rising.3) (purged_unread s (suc p.number) (p.least + length p.rows) tails pages last are.1 rising.4)
  where
    by : (b : Bool) → (b ≡ true → since o.from (left_in s o p.rows) ≡ []) → unread_rows_in s (without_spent tails) (map (λ (p : Page). p.rows) (unspent pages)) ≡ unread_rows_in s tails (map (λ (p : Page). p.rows) pages)
        → unread_rows_in s (if b then tails else o ∷ without_spent tails) (map (λ (p : Page). p.rows) (if b then pages else p ∷ unspent pages))
        ≡ since o.from (left_in s o p.rows) ++ unread_rows_in s tails (map (λ (p : Page). p.rows) pages)
    by true none rest = ap (λ (l : List Row). l ++ unread_rows_in s tails (map (λ (p : Page). p.rows) pages)) (sym (none refl))
    by false none rest = ap (λ (l : List Row). since o.from (left_in s o p.rows) ++ l) rest

purged_stands : (content new : Content) (c : CursorView) (tails : List OpenPageView) (pages : List Page) → ArePagesOf tails pages → AllFirst content tails (map (λ (p : Page). p.rows) pages)
    → AllFirst new (without_spent tails) (map (λ (p : Page). p.rows) (unspent pages)) → CursorStands content c tails (map (λ (p : Page). p.rows) pages)
    → CursorStands new c (without_spent tails) (map (λ (p : Page). p.rows) (unspent pages))
purged_stands content new c [] [] are firsts now stands = tt
purged_stands content new c [] (p ∷ pages) are firsts now stands = elim are [ ]
purged_stands content new c (o ∷ tails) [] are firsts now stands = elim are [ ]
purged_stands content new c (o ∷ tails) (p ∷ pages) are firsts now stands =
    subst (λ (b : Bool). AllFirst new (without_spent (o ∷ tails)) (left b) → CursorStands new c (without_spent (o ∷ tails)) (left b)) (sym (spent_same o p are.0)) (by (is_spent o) (purged_stands content new c tails pages are.1 firsts.1)) now
  where
    left : Bool → List (List PageRow)
    left b = map (λ (p : Page). p.rows) (if b then pages else p ∷ unspent pages)

    by : (b : Bool)
        → (AllFirst new (without_spent tails) (map (λ (p : Page). p.rows) (unspent pages)) → CursorStands content c tails (map (λ (p : Page). p.rows) pages) → CursorStands new c (without_spent tails) (map (λ (p : Page). p.rows) (unspent pages)))
        → AllFirst new (if b then tails else o ∷ without_spent tails) (left b) → CursorStands new c (if b then tails else o ∷ without_spent tails) (left b)
    by true rest now = still_again content new c tails (map (λ (p : Page). p.rows) pages) firsts.1 now stands.1
    by false rest now = (same_again content new c o o p.rows refl refl firsts.0 now.0 stands.0, rest now.1 stands.1)

-- ---- what a call finds of the pages

module _ {S : Type 0} (store : StoreWords S) (v : QueueView) (q : Queue) (rows : List Row) (old new : S) (tells : IsTrue store.tells) (has : HasUnread store v q rows old) where
  abbrev tail_rows : List (List PageRow)
  tail_rows = map (λ (p : Page). p.rows) q.tails

  same_long : length v.tails ≡ length tail_rows
  same_long = as_many v.tails q.tails has.opens.tails

  names : AreNamed v.folder v.tails × (v.top.file ≡ names_in v.folder (page v.top.number))
  names = named_front v.folder v.tails v.top has.named

  firsts : AllFirst (store.seen old) v.tails tail_rows × StandsFirst (store.seen old) v.top q.top.rows
  firsts = first_front (store.seen old) v.tails tail_rows v.top q.top.rows same_long (stand_first store v q old tells has.opens has.named)

  stands : CursorStands (store.seen old) v.cursor v.tails tail_rows × StandsHere (store.seen old) v.cursor v.top q.top.rows
  stands = stands_front (store.seen old) v.cursor v.tails tail_rows v.top q.top.rows same_long has.unread.stands

  parts : unread_rows_in (begun 0 v.cursor) v.tails tail_rows ++ since v.top.from (left_in (begun 0 v.cursor) v.top q.top.rows) ≡ rows
  parts = sym (unread_more (begun 0 v.cursor) v.tails tail_rows v.top q.top.rows same_long) ∙ has.unread.rows_are

  within : v.cursor.page ≤ v.top.number
  within = (has.opens.files tells).within

  -- one row more has its count
  one_counted : (row : Row) → min (v.unread + 1) (2 ^ 64 - 1) ≡ length (rows ++ row ∷ [])
  one_counted row =
      let few = few_unread (begun 0 v.cursor) 0 0 v.tails v.top q.tails q.top has.opens.tails has.opens.ready.is in
      let sound = rising_top 0 0 q.tails q.top has.opens.ready.is in
      omega (arith, few, sound.numbers, has.unread.count, ap length has.unread.rows_are, length-append rows (row ∷ []))

  -- ---- a row in the head page

  module _ (row : PageRow) (size : ℕ) (late : v.top.from ≤ row.number) (opens : Opens store (behind_append size v) (record q { top = page_with row q.top }) new) where
    abbrev top : OpenPageView
    top = with_open_row size v.top

    here_named : AreNamed v.folder (v.tails ++ top ∷ [])
    here_named = named_more v.folder v.tails top names.0 names.1

    here_firsts : AllFirst (store.seen new) v.tails tail_rows × StandsFirst (store.seen new) top (q.top.rows ++ row ∷ [])
    here_firsts = first_front (store.seen new) v.tails tail_rows top (q.top.rows ++ row ∷ []) same_long (stand_first store (behind_append size v) (record q { top = page_with row q.top }) new tells opens here_named)

    here_left : left_in (begun 0 v.cursor) top (q.top.rows ++ row ∷ []) ≡ left_in (begun 0 v.cursor) v.top q.top.rows ++ row ∷ []
    here_left =
        let t : nat_lt v.top.number v.cursor.page ≡ false = grind (arith, nat_tests, within) in
        cond-false _ _ _ t ∙ elim (cases_Bool (v.top.number == v.cursor.page)) [
          | inl this ↦
              let same : v.cursor.page ≡ v.top.number = grind (arith, nat_tests, this) in
              let few = few_before v.top q.top.rows (bytes_of (store.seen old v.top.file)) (omega (arith, firsts.1.long)) firsts.1.first v.cursor.number v.cursor.place (stands.1 same) in
              cond-true _ _ _ this ∙ drop-append-le (v.cursor.number - v.top.page.state.least) q.top.rows (row ∷ []) few
              ∙ ap (λ (l : List PageRow). l ++ row ∷ []) (sym (cond-false _ _ _ t ∙ cond-true _ _ _ this))
          | inr other ↦ cond-false _ _ _ other ∙ ap (λ (l : List PageRow). l ++ row ∷ []) (sym (cond-false _ _ _ t ∙ cond-false _ _ _ other))
        ]

    here_rows : unread_rows_in (begun 0 v.cursor) (v.tails ++ top ∷ []) (tail_rows ++ (q.top.rows ++ row ∷ []) ∷ []) ≡ rows ++ row_of row ∷ []
    here_rows =
        let s = begun 0 v.cursor in
        unread_more s v.tails tail_rows top (q.top.rows ++ row ∷ []) same_long
        ∙ ap (λ (l : List Row). unread_rows_in s v.tails tail_rows ++ l) (ap (since v.top.from) here_left ∙ since_more v.top.from (left_in s v.top q.top.rows) row late)
        ∙ sym (append_assoc (unread_rows_in s v.tails tail_rows) (since v.top.from (left_in s v.top q.top.rows)) (row_of row ∷ [])) ∙ ap (λ (l : List Row). l ++ row_of row ∷ []) parts

    here_stands : CursorStands (store.seen new) v.cursor (v.tails ++ top ∷ []) (tail_rows ++ (q.top.rows ++ row ∷ []) ∷ [])
    here_stands =
        stands_more (store.seen new) v.cursor v.tails tail_rows top (q.top.rows ++ row ∷ []) same_long
        (still_again (store.seen old) (store.seen new) v.cursor v.tails tail_rows firsts.0 here_firsts.0 stands.0)
        (here_again (store.seen old) (store.seen new) v.cursor v.top top q.top.rows (row ∷ []) refl refl firsts.1 here_firsts.1 stands.1)

    pub row_here_unread : HasUnread store (behind_append size v) (record q { top = page_with row q.top }) (rows ++ row_of row ∷ []) new
    row_here_unread = record { opens = opens; named = here_named; unread = record { stands = here_stands; rows_are = here_rows; count = one_counted (row_of row) } }

  -- ---- all that is acknowledged is recorded

  module _ (turn : ℕ) (given : AreGiven v.cursor (all_pages v)) where
    -- the head page then, with a slot of any turn
    abbrev recorded : OpenPageView
    recorded = record v.top { from = first_open v.top; turn = turn }

    abbrev marked_tails : List OpenPageView
    marked_tails = map with_marked v.tails

    marked_long : length marked_tails ≡ length tail_rows
    marked_long = length-map v.tails with_marked ∙ same_long

    pub recorded_named : AreNamed v.folder (marked_tails ++ recorded ∷ [])
    recorded_named = named_more v.folder marked_tails recorded (marked_named v.folder v.tails names.0) names.1

    pub recorded_rows : unread_rows_in (begun 0 v.cursor) (marked_tails ++ recorded ∷ []) (tail_rows ++ q.top.rows ∷ []) ≡ rows
    recorded_rows =
        let each = given_front v.cursor v.tails v.top given in
        unread_more (begun 0 v.cursor) marked_tails tail_rows recorded q.top.rows marked_long
        ∙ ap₂ (λ (a b : List Row). a ++ b) (marked_unread v.cursor 0 0 v.tails q.tails q.top has.opens.tails has.opens.ready.is each.0)
        (one_marked v.cursor v.top q.top has.opens.top (rising_top 0 0 q.tails q.top has.opens.ready.is) each.1)
        ∙ parts

    pub recorded_stands : AllFirst (store.seen new) (marked_tails ++ recorded ∷ []) (tail_rows ++ q.top.rows ∷ []) → CursorStands (store.seen new) v.cursor (marked_tails ++ recorded ∷ []) (tail_rows ++ q.top.rows ∷ [])
    recorded_stands all =
        let now = first_front (store.seen new) marked_tails tail_rows recorded q.top.rows marked_long all in
        stands_more (store.seen new) v.cursor marked_tails tail_rows recorded q.top.rows marked_long
        (marked_again (store.seen old) (store.seen new) v.cursor v.tails tail_rows firsts.0 now.0 stands.0)
        (same_again (store.seen old) (store.seen new) v.cursor v.top recorded q.top.rows refl refl firsts.1 now.1 stands.1)

  pub marked_leaves : AreGiven v.cursor (all_pages v) → Opens store (behind_mark v) (marked q) new → HasUnread store (behind_mark v) (marked q) rows new
  marked_leaves given opens =
      let turn = (with_recorded v.top).turn in
      let pages = all_pages (behind_mark v) in
      let same : page_rows (marked q) ≡ tail_rows ++ q.top.rows ∷ [] = ap (λ (l : List (List PageRow)). l ++ q.top.rows ∷ []) (marked_rows q.tails) in
      let named = recorded_named turn given in
      let all = subst (λ (l : List (List PageRow)). AllFirst (store.seen new) pages l) same (stand_first store (behind_mark v) (marked q) new tells opens named) in
      record {
        opens = opens;
        named = named;
        unread = record {
          stands = subst (λ (l : List (List PageRow)). CursorStands (store.seen new) v.cursor pages l) (sym same) (recorded_stands turn given all);
          rows_are = ap (unread_rows_in (begun 0 v.cursor) pages) same ∙ recorded_rows turn given;
          count = has.unread.count;
        };
      }

  -- ---- a row in a new head page

  module _ (row : PageRow) (size : ℕ) (late : end_of v.top ≤ row.number) (given : AreGiven v.cursor (all_pages v))
      (opens : Opens store (behind_append size (behind_roll (behind_mark v))) (with_row row (rolled (marked q))) new) where
    abbrev front : List OpenPageView
    front = map with_marked v.tails ++ sealed (with_recorded v.top) ∷ []

    abbrev front_rows : List (List PageRow)
    front_rows = tail_rows ++ q.top.rows ∷ []

    abbrev next : OpenPageView
    next = with_open_row size (next_top v.folder (with_recorded v.top))

    front_long : length front ≡ length front_rows
    front_long = omega (arith, length-append (map with_marked v.tails) (sealed (with_recorded v.top) ∷ []), length-append tail_rows (q.top.rows ∷ []), marked_long 0 given)

    next_named : AreNamed v.folder (front ++ next ∷ [])
    next_named = named_more v.folder front next (recorded_named 0 given) refl

    next_same : page_rows (with_row row (rolled (marked q))) ≡ front_rows ++ (row ∷ []) ∷ []
    next_same = ap (λ (l : List (List PageRow)). l ++ (row ∷ []) ∷ []) (rolled_rows q.tails (sealed_page (recorded_page q.top)))

    next_firsts : AllFirst (store.seen new) front front_rows × StandsFirst (store.seen new) next (row ∷ [])
    next_firsts = first_front (store.seen new) front front_rows next (row ∷ []) front_long
        (subst (λ (l : List (List PageRow)). AllFirst (store.seen new) (front ++ next ∷ []) l) next_same
        (stand_first store (behind_append size (behind_roll (behind_mark v))) (with_row row (rolled (marked q))) new tells opens next_named))

    next_rows : unread_rows_in (begun 0 v.cursor) (front ++ next ∷ []) (front_rows ++ (row ∷ []) ∷ []) ≡ rows ++ row_of row ∷ []
    next_rows =
        let s = begun 0 v.cursor in
        unread_more s front front_rows next (row ∷ []) front_long
        ∙ ap₂ (λ (a b : List Row). a ++ b) (recorded_rows 0 given)
        (ap (since next.from) (whole_left s next (row ∷ []) (omega (arith, within)) (λ here. absurd (omega (arith, here, within)))) ∙ since_more next.from [] row late)

    pub row_behind_unread : HasUnread store (behind_append size (behind_roll (behind_mark v))) (with_row row (rolled (marked q))) (rows ++ row_of row ∷ []) new
    row_behind_unread = record {
      opens = opens;
      named = next_named;
      unread = record {
        stands = subst (λ (l : List (List PageRow)). CursorStands (store.seen new) v.cursor (front ++ next ∷ []) l) (sym next_same)
            (stands_more (store.seen new) v.cursor front front_rows next (row ∷ []) front_long (recorded_stands 0 given next_firsts.0) (λ here. absurd (omega (arith, here, within))));
        rows_are = ap (unread_rows_in (begun 0 v.cursor) (front ++ next ∷ [])) next_same ∙ next_rows;
        count = one_counted (row_of row);
      };
    }

  -- ---- a page that goes

  pub purged_leaves : Opens store (behind_purge v) (purged q) new → HasUnread store (behind_purge v) (purged q) rows new
  purged_leaves opens =
      let s = begun 0 v.cursor in
      let tails = without_spent v.tails in
      let left = map (λ (p : Page). p.rows) (unspent q.tails) in
      let long = as_many tails (unspent q.tails) opens.tails in
      let named = named_more v.folder tails v.top (purged_named v.folder v.tails names.0) names.1 in
      let now = first_front (store.seen new) tails left v.top q.top.rows long (stand_first store (behind_purge v) (purged q) new tells opens named) in
      record {
        opens = opens;
        named = named;
        unread = record {
          stands = stands_more (store.seen new) v.cursor tails left v.top q.top.rows long
              (purged_stands (store.seen old) (store.seen new) v.cursor v.tails q.tails has.opens.tails firsts.0 now.0 stands.0)
              (same_again (store.seen old) (store.seen new) v.cursor v.top v.top q.top.rows refl refl firsts.1 now.1 stands.1);
          rows_are = unread_more s tails left v.top q.top.rows long
              ∙ ap (λ (l : List Row). l ++ since v.top.from (left_in s v.top q.top.rows)) (purged_unread s 0 0 v.tails q.tails q.top has.opens.tails has.opens.ready.is) ∙ parts;
          count = has.unread.count;
        };
      }

-- ---- the laws

or_right : (a b : Bool) → a || b ≡ false → (a ≡ false) × (b ≡ false)
or_right true b is = absurd (true≢false is)
or_right false b is = (refl, is)

recorded_here : (o : OpenPageView) → is_closed o ≡ false → o.from ≤ end_of o
unfolding is_closed
recorded_here o still =
    let past : nat_lt (end_of o) o.from ≡ false = (or_right (not (o.page.version == 2) || (o.page.state.count == 2 ^ 32 - 1)) (nat_lt (end_of o) o.from) still).1 in
    grind (arith, nat_tests, past)

module _ {S : Type 0} (store : StoreWords S) where
  pub mark_leaves_unread : MarkLeavesUnread store
  mark_leaves_unread v q rows old new tells becomes given has = marked_leaves store v q rows old new tells has given (becomes q has.opens)

  pub purge_leaves_unread : PurgeLeavesUnread store
  purge_leaves_unread v q rows old new tells becomes has = purged_leaves store v q rows old new tells has (becomes q has.opens)

  written_last : (v : QueueView) (q : Queue) (rows : List Row) (origin : List ℕ) (event : Ev) (old new : S) → IsTrue store.tells → HasUnread store v q rows old → (needed : Bool) → needs_page (frame_size origin event) v ≡ needed
      → Opens store (behind_append (frame_size origin event) (made_ready needed v)) (written needed v origin event q) new → (needed ≡ true → AreGiven v.cursor (all_pages v))
      → HasUnread store (behind_append (frame_size origin event) (made_ready needed v)) (written needed v origin event q) (rows ++ next_row v origin event ∷ []) new
  written_last v q rows origin event old new tells has true is opens given =
      row_behind_unread store v q rows old new tells has (row_framed (end_of v.top) origin event 1) (frame_size origin event) (omega arith) (given refl) opens
  written_last v q rows origin event old new tells has false is opens given =
      let still = (or_right (is_closed v.top) (has_no_room v.limits.page_capacity (frame_size origin event) v.top) is).0 in
      row_here_unread store v q rows old new tells has (row_framed (end_of v.top) origin event v.top.page.state.length) (frame_size origin event) (recorded_here v.top still) opens

  pub written_comes_last : WrittenComesLast store
  written_comes_last v q rows origin event old new tells becomes given has =
      written_last v q rows origin event old new tells has (needs_page (frame_size origin event) v) refl (becomes q has.opens) given
