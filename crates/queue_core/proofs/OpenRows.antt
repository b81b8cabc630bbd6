-- No unread row of a queue is acknowledged, through all calls; so a mark passes over none.
use Rattle.std.proofs.Common.{◌≡◌, ◌⊎◌, inl, inr, ⊎_elim, ℕ, zero, suc, ◌+◌, ◌-◌, ◌<◌, ◌≤◌, ◌==◌, ◌&&◌, ◌||◌, nat_lt, not, Bool, true, false, if◌then◌else◌, List, [], ◌∷◌, ◌++◌, length, map, drop, refl, sym, ap, ◌∙◌, subst, arith, append-nil}
use Rattle.std.specs.Prelude.{⊤}
use Rattle.std.proofs.Math.Path.{ap₂}
use Rattle.std.proofs.Math.Bool.{or-false}
use Rattle.std.proofs.lemmas.Bool.{cond-false, cond-true, cases_Bool, cases_lt, true≢false}
use Rattle.std.proofs.lemmas.Bool.Decides.{nat_tests}
use Rattle.io_traits.specs.Folders.{Content}
use Rattle.io_traits.specs.Reads.{bytes_of}
use Rattle.queue_page.specs.Views.{PageView}
use Rattle.queue_page.specs.declared.row.PageRow.{PageRow}
use Rattle.queue_files.specs.Found.{Row, row_of, since}
use Rattle.queue_files.specs.Kept.{Page, AreNumbered, IsSound, Rising, all_rows, leading}
use Rattle.queue_files.specs.declared.sealed_pages.SealedPage.{SealedPage}
use Rattle.queue_core.specs.Bits.{is_among, with_range}
use Rattle.queue_core.specs.Calls.{end_of, first_open, is_spent, with_acknowledged, with_marked, without_spent}
use Rattle.queue_core.specs.GivenOnce.{AreOpen, AreRising, is_acknowledged, is_set_at}
use Rattle.queue_core.specs.NextBatch.{StandsAt, left_in, unread_rows_in}
use Rattle.queue_core.specs.Opening.{below_number, tails_opened}
use Rattle.queue_core.specs.Opens.{ArePagesOf, IsPageOf}
use Rattle.queue_core.specs.QueueBatches.{CursorStands}
use Rattle.queue_core.specs.Taking.{begun}
use Rattle.queue_core.specs.UnreadRows.{AreGiven, next_in}
use Rattle.queue_core.specs.Views.{CursorView, OpenPageView}
use Rattle.queue_core.specs.Writing.{with_open_row}
use Rattle.queue_core.specs.declared.limits.Numbers.{Numbers}
use Rattle.queue_core.proofs.Ranges.{leading_short}
use Rattle.queue_core.proofs.RisingRows.{rise_all}
use Rattle.queue_core.proofs.UnreadCalls.{numbered_left}
use Rattle.queue_core.proofs.UnreadRows.{rows_with}

-- ---- tests

either_false : (a b : Bool) → a || b ≡ false → (a ≡ false) × (b ≡ false)
either_false true b is = absurd (true≢false is)
either_false false b is = (refl, is)

both_false : (a b : Bool) → a ≡ false → b ≡ false → a || b ≡ false
both_false a b none other = ap (λ x. x || b) none ∙ other

and_none : (a b : Bool) → b ≡ false → a && b ≡ false
and_none true b is = is
and_none false b is = refl

among_below : (from to k : ℕ) → to ≤ k → is_among from to k ≡ false
unfolding is_among
among_below from to k less = let t : nat_lt k to ≡ false = grind (arith, nat_tests, less) in and_none (not (nat_lt k from)) (nat_lt k to) t

-- ---- rows of a page

unset_outside : (number : ℕ) (bits : List Bool) (n : ℕ) → (n < number) ⊎ (number + length bits ≤ n) → is_set_at number bits n ≡ false
unset_outside number [] n out = refl
unset_outside number (b ∷ bits) n out =
    let other : (number == n) ≡ false = ⊎_elim (λ (less : n < number). grind (arith, nat_tests, less)) (λ (more : number + suc (length bits) ≤ n). grind (arith, nat_tests, more)) out in
    let rest = unset_outside (suc number) bits n (⊎_elim (λ (less : n < number). inl (omega (arith, less))) (λ (more : number + suc (length bits) ≤ n). inr (omega (arith, more))) out) in
    both_false (b && (number == n)) (is_set_at (suc number) bits n) (and_none b (number == n) other) rest

-- a row more, which isn't acknowledged
unset_more : (number : ℕ) (bits : List Bool) (n : ℕ) → is_set_at number (bits ++ false ∷ []) n ≡ is_set_at number bits n
unset_more number [] n = refl
unset_more number (b ∷ bits) n = ap (λ x. (b && (number == n)) || x) (unset_more (suc number) bits n)

-- rows that are acknowledged beside this one
set_beside : (from to n number : ℕ) (bits : List Bool) → is_among from to n ≡ false → is_set_at number (with_range number from to bits) n ≡ is_set_at number bits n
set_beside from to n number [] none = refl
set_beside from to n number (b ∷ bits) none = ap₂ (λ (x y : Bool). x || y) here (set_beside from to n (suc number) bits none)
  where
    here : (b || is_among from to number) && (number == n) ≡ b && (number == n)
    here = elim (cases_Bool (number == n)) [
      | inl same ↦
          let this : number ≡ n = grind (arith, nat_tests, same) in
          ap (λ x. (b || x) && (number == n)) (ap (is_among from to) this ∙ none) ∙ ap (λ x. x && (number == n)) (or-false b)
      | inr other ↦ and_none (b || is_among from to number) (number == n) other ∙ sym (and_none b (number == n) other)
    ]

-- those in front of the first that isn't acknowledged are
set_in_front : (number n : ℕ) (bits : List Bool) → number ≤ n → n < number + leading bits → is_set_at number bits n ≡ true
set_in_front number n [] less more = absurd (omega (arith, less, more))
set_in_front number n (false ∷ bits) less more = absurd (omega (arith, less, more))
set_in_front number n (true ∷ bits) less more = elim (cases_Bool (number == n)) [
  | inl same ↦ ap (λ x. x || is_set_at (suc number) bits n) same
  | inr other ↦
      let next : suc number ≤ n = grind (arith, nat_tests, less, other) in
      ap (λ x. x || is_set_at (suc number) bits n) other ∙ set_in_front (suc number) n bits next (omega (arith, more))
]

-- ---- rows of all pages

pub open_by : (pages others : List OpenPageView) (rows : List Row) → ((n : ℕ) → is_acknowledged pages n ≡ false → is_acknowledged others n ≡ false) → AreOpen pages rows → AreOpen others rows
open_by pages others [] same still = tt
open_by pages others (r ∷ rows) same still = (same r.number still.0, open_by pages others rows same still.1)

open_then : (pages : List OpenPageView) (front rows : List Row) → AreOpen pages front → AreOpen pages rows → AreOpen pages (front ++ rows)
open_then pages [] rows still then_still = then_still
open_then pages (r ∷ front) rows still then_still = (still.0, open_then pages front rows still.1 then_still)

open_front : (pages : List OpenPageView) (front rows : List Row) → AreOpen pages (front ++ rows) → AreOpen pages front
open_front pages [] rows still = tt
open_front pages (r ∷ front) rows still = (still.0, open_front pages front rows still.1)

pub open_rest : (pages : List OpenPageView) (front rows : List Row) → AreOpen pages (front ++ rows) → AreOpen pages rows
open_rest pages [] rows still = still
open_rest pages (r ∷ front) rows still = open_rest pages front rows still.1

pub one_more_open : (pages : List OpenPageView) (rows : List Row) (row : Row) → AreOpen pages rows → is_acknowledged pages row.number ≡ false → AreOpen pages (rows ++ row ∷ [])
one_more_open pages rows row still none = open_then pages rows (row ∷ []) still (none, tt)

-- no row of pages has a number in front of them, or behind them
unset_before : (n number end : ℕ) (tails : List OpenPageView) (top : OpenPageView) (pages : List Page) (last : Page) → ArePagesOf tails pages → IsPageOf top last → Rising number end pages last → n < end → is_acknowledged (tails ++ top ∷ []) n ≡ false
unset_before n number end [] top [] last are is rising less =
    both_false (is_set_at top.page.state.least top.acknowledged n) false (unset_outside top.page.state.least top.acknowledged n (inl (omega (arith, less, rising.1, is.least)))) refl
unset_before n number end [] top (p ∷ pages) last are is rising less = elim are [ ]
unset_before n number end (o ∷ tails) top [] last are is rising less = elim are [ ]
unset_before n number end (o ∷ tails) top (p ∷ pages) last are is rising less =
    both_false (is_set_at o.page.state.least o.acknowledged n) (is_acknowledged (tails ++ top ∷ []) n) (unset_outside o.page.state.least o.acknowledged n (inl (omega (arith, less, rising.2, are.0.least))))
    (unset_before n (suc p.number) (p.least + length p.rows) tails top pages last are.1 is rising.4 (omega (arith, less, rising.2)))

rising_most : (number end : ℕ) (pages : List Page) (last : Page) → Rising number end pages last → end ≤ last.least
rising_most number end [] last rising = rising.1
rising_most number end (p ∷ pages) last rising = let rest = rising_most (suc p.number) (p.least + length p.rows) pages last rising.4 in let here = rising.2 in omega (arith, rest, here)

pub unset_behind : (n number end : ℕ) (tails : List OpenPageView) (top : OpenPageView) (pages : List Page) (last : Page) → ArePagesOf tails pages → IsPageOf top last → Rising number end pages last → end_of top ≤ n
    → is_acknowledged (tails ++ top ∷ []) n ≡ false
unset_behind n number end [] top [] last are is rising most =
    let long : length top.acknowledged ≡ top.page.state.count = sym (ap length is.acknowledged) ∙ rising.2.each ∙ is.count in
    both_false (is_set_at top.page.state.least top.acknowledged n) false (unset_outside top.page.state.least top.acknowledged n (inr (omega (arith, most, long)))) refl
unset_behind n number end [] top (p ∷ pages) last are is rising most = elim are [ ]
unset_behind n number end (o ∷ tails) top [] last are is rising most = elim are [ ]
unset_behind n number end (o ∷ tails) top (p ∷ pages) last are is rising most =
    let long : length o.acknowledged ≡ o.page.state.count = sym (ap length are.0.acknowledged) ∙ rising.3.each ∙ are.0.count in
    let behind = rising_most (suc p.number) (p.least + length p.rows) pages last rising.4 in
    both_false (is_set_at o.page.state.least o.acknowledged n) (is_acknowledged (tails ++ top ∷ []) n)
    (unset_outside o.page.state.least o.acknowledged n (inr (omega (arith, most, long, behind, are.0.least, are.0.count, is.least))))
    (unset_behind n (suc p.number) (p.least + length p.rows) tails top pages last are.1 is rising.4 most)

unset_last : (n : ℕ) (pages : List OpenPageView) (o : OpenPageView) → is_acknowledged pages n ≡ false → is_set_at o.page.state.least o.acknowledged n ≡ false → is_acknowledged (pages ++ o ∷ []) n ≡ false
unset_last n [] o none here = both_false (is_set_at o.page.state.least o.acknowledged n) false here refl
unset_last n (p ∷ pages) o none here =
    let each = either_false (is_set_at p.page.state.least p.acknowledged n) (is_acknowledged pages n) none in
    both_false (is_set_at p.page.state.least p.acknowledged n) (is_acknowledged (pages ++ o ∷ []) n) each.0 (unset_last n pages o each.1 here)

-- ---- what calls make of them

-- rows are acknowledged that are all below these
pub open_acknowledged : (numbers : Numbers) (tails : List OpenPageView) (top : OpenPageView) (from : ℕ) (rows : List Row) (end : ℕ) → numbers.behind ≤ from → AreRising from rows end → AreOpen (tails ++ top ∷ []) rows
    → AreOpen (map (with_acknowledged numbers) tails ++ with_acknowledged numbers top ∷ []) rows
open_acknowledged numbers tails top from [] end less rise still = tt
open_acknowledged numbers tails top from (r ∷ rows) end less rise still = (
  same tails ∙ still.0,
  open_acknowledged numbers tails top (suc r.number) rows end (let here = rise.0 in omega (arith, less, here)) rise.1 still.1,
)
  where
    none : is_among numbers.first numbers.behind r.number ≡ false
    none = among_below numbers.first numbers.behind r.number (let here = rise.0 in omega (arith, less, here))

    same : (pages : List OpenPageView) → is_acknowledged (map (with_acknowledged numbers) pages ++ with_acknowledged numbers top ∷ []) r.number ≡ is_acknowledged (pages ++ top ∷ []) r.number
    same [] = ap (λ x. x || false) (set_beside numbers.first numbers.behind r.number top.page.state.least top.acknowledged none)
    same (o ∷ pages) = ap₂ (λ (x y : Bool). x || y) (set_beside numbers.first numbers.behind r.number o.page.state.least o.acknowledged none) (same pages)

pub unset_marked : (n : ℕ) (tails : List OpenPageView) → is_acknowledged (map with_marked tails) n ≡ is_acknowledged tails n
unset_marked n [] = refl
unset_marked n (o ∷ tails) = ap (λ x. is_set_at o.page.state.least o.acknowledged n || x) (unset_marked n tails)

unset_top : (n : ℕ) (tails : List OpenPageView) (top : OpenPageView) → is_acknowledged (tails ++ top ∷ []) n ≡ false → (is_acknowledged tails n ≡ false) × (is_set_at top.page.state.least top.acknowledged n ≡ false)
unset_top n [] top none = (refl, (either_false (is_set_at top.page.state.least top.acknowledged n) false none).0)
unset_top n (o ∷ tails) top none =
    let each = either_false (is_set_at o.page.state.least o.acknowledged n) (is_acknowledged (tails ++ top ∷ []) n) none in
    let rest = unset_top n tails top each.1 in
    (both_false (is_set_at o.page.state.least o.acknowledged n) (is_acknowledged tails n) each.0 rest.0, rest.1)

-- what is acknowledged in the head page stays, with another page of the same numbers and these rows in its place
pub unset_with : (n : ℕ) (tails others : List OpenPageView) (top x : OpenPageView) → (is_acknowledged tails n ≡ false → is_acknowledged others n ≡ false)
    → (is_set_at top.page.state.least top.acknowledged n ≡ false → is_set_at x.page.state.least x.acknowledged n ≡ false) → is_acknowledged (tails ++ top ∷ []) n ≡ false → is_acknowledged (others ++ x ∷ []) n ≡ false
unset_with n tails others top x front last none = let each = unset_top n tails top none in unset_last n others x (front each.0) (last each.1)

pub unset_spent : (n : ℕ) (tails : List OpenPageView) → is_acknowledged tails n ≡ false → is_acknowledged (without_spent tails) n ≡ false
unset_spent n [] none = refl
unset_spent n (o ∷ tails) none =
    let each = either_false (is_set_at o.page.state.least o.acknowledged n) (is_acknowledged tails n) none in
    by (is_spent o) each.0 each.1 (unset_spent n tails each.1)
  where
    by : (b : Bool) → is_set_at o.page.state.least o.acknowledged n ≡ false → is_acknowledged tails n ≡ false → is_acknowledged (without_spent tails) n ≡ false → is_acknowledged (if b then tails else o ∷ without_spent tails) n ≡ false
    by true here rest left = rest
    by false here rest left = both_false (is_set_at o.page.state.least o.acknowledged n) (is_acknowledged (without_spent tails) n) here left

pub unset_row : (n size : ℕ) (o : OpenPageView) → is_set_at o.page.state.least o.acknowledged n ≡ false → is_set_at (with_open_row size o).page.state.least (with_open_row size o).acknowledged n ≡ false
unset_row n size o none = unset_more o.page.state.least o.acknowledged n ∙ none

pub unset_page : (n : ℕ) (pages : List OpenPageView) (o : OpenPageView) → o.acknowledged ≡ false ∷ [] → is_acknowledged pages n ≡ false → is_acknowledged (pages ++ o ∷ []) n ≡ false
unset_page n pages o first none = unset_last n pages o none (ap (λ (bits : List Bool). is_set_at o.page.state.least bits n) first)

-- ---- a queue that was opened

unset_below : (from number count n : ℕ) → from ≤ n → is_set_at number (below_number from number count) n ≡ false
unset_below from number zero n less = refl
unset_below from number (suc count) n less = both_false (nat_lt number from && (number == n)) (is_set_at (suc number) (below_number from (suc number) count) n) here (unset_below from (suc number) count n less)
  where
    here : nat_lt number from && (number == n) ≡ false
    here = elim (cases_Bool (number == n)) [
      | inl same ↦
          let none : nat_lt number from ≡ false = grind (arith, nat_tests, same, less) in
          ap (λ x. x && (number == n)) none
      | inr other ↦ and_none (nat_lt number from) (number == n) other
    ]

-- what is acknowledged of a page are the rows below its recorded number
abbrev pub IsFresh : OpenPageView → Type 0
IsFresh o = o.acknowledged ≡ below_number o.from o.page.state.least o.page.state.count

abbrev pub AreFresh : List OpenPageView → Type 0
AreFresh [] = ⊤
AreFresh (o ∷ pages) = IsFresh o × AreFresh pages

fresh_rows : (o : OpenPageView) (others : List OpenPageView) (number : ℕ) (rows : List PageRow) → IsFresh o → AreNumbered number rows → number + length rows ≤ end_of o
    → ((n : ℕ) → n < end_of o → is_acknowledged others n ≡ false) → AreOpen (o ∷ others) (since o.from rows)
fresh_rows o others number [] fresh are within rest = tt
fresh_rows o others number (r ∷ rows) fresh are within rest = by (nat_lt r.number o.from) refl (fresh_rows o others (suc number) rows fresh are.1 (omega (arith, within)) rest)
  where
    by : (b : Bool) → nat_lt r.number o.from ≡ b → AreOpen (o ∷ others) (since o.from rows) → AreOpen (o ∷ others) (if b then since o.from rows else row_of r ∷ since o.from rows)
    by true test still = still
    by false test still =
        let late : o.from ≤ r.number = grind (arith, nat_tests, test) in (
          both_false (is_set_at o.page.state.least o.acknowledged r.number) (is_acknowledged others r.number)
              (ap (λ (bits : List Bool). is_set_at o.page.state.least bits r.number) fresh ∙ unset_below o.from o.page.state.least o.page.state.count r.number late)
              (rest r.number (let here = are.0 in omega (arith, here, within))),
          still,
        )

later_open : (o : OpenPageView) (others : List OpenPageView) (from : ℕ) (rows : List Row) (end : ℕ) → length o.acknowledged ≡ o.page.state.count → end_of o ≤ from → AreRising from rows end → AreOpen others rows → AreOpen (o ∷ others) rows
later_open o others from [] end long less rise still = tt
later_open o others from (r ∷ rows) end long less rise still =
    let here = rise.0 in (
      both_false (is_set_at o.page.state.least o.acknowledged r.number) (is_acknowledged others r.number) (unset_outside o.page.state.least o.acknowledged r.number (inr (omega (arith, long, less, here)))) still.0,
      later_open o others (suc r.number) rows end long (omega (arith, less, here)) rise.1 still.1,
    )

pub fresh_open : (number end : ℕ) (tails : List OpenPageView) (top : OpenPageView) (pages : List Page) (last : Page) → ArePagesOf tails pages → IsPageOf top last → Rising number end pages last → AreFresh tails → IsFresh top
    → AreOpen (tails ++ top ∷ []) (all_rows pages last)
fresh_open number end [] top [] last are is rising fresh top_fresh =
    subst (λ n. AreOpen (top ∷ []) (since n last.rows)) (sym is.from) (fresh_rows top [] last.least last.rows top_fresh rising.2.numbered (omega (arith, is.least, is.count)) (λ n less. refl))
fresh_open number end [] top (p ∷ pages) last are is rising fresh top_fresh = elim are [ ]
fresh_open number end (o ∷ tails) top [] last are is rising fresh top_fresh = elim are [ ]
fresh_open number end (o ∷ tails) top (p ∷ pages) last are is rising fresh top_fresh =
    let long : length o.acknowledged ≡ o.page.state.count = sym (ap length are.0.acknowledged) ∙ rising.3.each ∙ are.0.count in
    let rest = fresh_open (suc p.number) (p.least + length p.rows) tails top pages last are.1 is rising.4 fresh.1 top_fresh in
    let rise = rise_all (suc p.number) (p.least + length p.rows) tails top pages last are.1 is rising.4 in
    open_then (o ∷ tails ++ top ∷ []) (since p.from p.rows) (all_rows pages last)
    (subst (λ n. AreOpen (o ∷ tails ++ top ∷ []) (since n p.rows)) (sym are.0.from)
    (fresh_rows o (tails ++ top ∷ []) p.least p.rows fresh.0 rising.3.numbered (omega (arith, are.0.least, are.0.count))
    (λ n less. unset_before n (suc p.number) (p.least + length p.rows) tails top pages last are.1 is rising.4 (omega (arith, less, are.0.least, are.0.count)))))
    (later_open o (tails ++ top ∷ []) (p.least + length p.rows) (all_rows pages last) (end_of top) long (omega (arith, are.0.least, are.0.count)) rise rest)

pub tails_fresh : (folder : List ℕ) (tails : List SealedPage) (views : List PageView) → AreFresh (tails_opened folder tails views)
tails_fresh folder [] views = tt
tails_fresh folder (t ∷ tails) [] = tt
tails_fresh folder (t ∷ tails) (v ∷ views) = (refl, tails_fresh folder tails views)

-- ---- each acknowledged row was given, or is recorded

-- a row that isn't below these numbers is among those that are left, and so isn't acknowledged
left_unset : (o : OpenPageView) (others : List OpenPageView) (start n : ℕ) (rows : List PageRow) → AreNumbered start rows → start ≤ n → n < start + length rows → o.from ≤ n → AreOpen (o ∷ others) (since o.from rows)
    → is_set_at o.page.state.least o.acknowledged n ≡ false
left_unset o others start n [] are first within late still = absurd (omega (arith, first, within))
left_unset o others start n (r ∷ rows) are first within late still = elim (cases_lt start n) [
  | inl less ↦ left_unset o others (suc start) n rows are.1 (omega (arith, less)) (omega (arith, within)) late (behind (nat_lt r.number o.from) still)
  | inr more ↦
      let this : r.number ≡ n = let here = are.0 in omega (arith, here, first, more) in
      let test : nat_lt r.number o.from ≡ false = grind (arith, nat_tests, this, late) in
      let shown = subst (λ (b : Bool). AreOpen (o ∷ others) (if b then since o.from rows else row_of r ∷ since o.from rows)) test still in
      ap (is_set_at o.page.state.least o.acknowledged) (sym this) ∙ (either_false (is_set_at o.page.state.least o.acknowledged r.number) (is_acknowledged others r.number) shown.0).0
]
  where
    behind : (b : Bool) → AreOpen (o ∷ others) (if b then since o.from rows else row_of r ∷ since o.from rows) → AreOpen (o ∷ others) (since o.from rows)
    behind true shown = shown
    behind false shown = shown.1

module _ (content : Content) (c : CursorView) where
  one_given : (o : OpenPageView) (p : Page) (others : List OpenPageView) → IsPageOf o p → IsSound p → (c.page ≡ o.number → StandsAt o p.rows (bytes_of (content o.file)) c.number c.place)
      → AreOpen (o ∷ others) (since o.from (left_in (begun 0 c) o p.rows)) → (o.number < c.page) ⊎ ((first_open o ≤ o.from) ⊎ (first_open o ≤ next_in c o))
  one_given o p others is sound stands still = elim (cases_lt o.number c.page) [
    | inl below ↦ inl below
    | inr above ↦ inr (elim (cases_lt o.from (first_open o)) [
      | inr recorded ↦ inl recorded
      | inl due ↦ inr (elim (cases_Bool (o.number == c.page)) [
        | inl this ↦
            let same : c.page ≡ o.number = grind (arith, nat_tests, this) in
            let at = stands same in
            let k = c.number - o.page.state.least in
            let start : o.page.state.least + k ≡ c.number = omega (arith, at.behind) in
            let not_below : nat_lt o.number c.page ≡ false = grind (arith, nat_tests, above) in
            let left : left_in (begun 0 c) o p.rows ≡ drop k p.rows = cond-false _ _ _ not_below ∙ cond-true _ _ _ this in
            let next : next_in c o ≡ c.number = cond-true _ _ _ this in
            let few = unless c.number (drop k p.rows) (subst (λ n. AreNumbered n (drop k p.rows)) start (numbered_left o.page.state.least k p.rows (subst (λ n. AreNumbered n p.rows) is.least sound.numbered)))
            at.count at.behind due (subst (λ (l : List PageRow). AreOpen (o ∷ others) (since o.from l)) left still) in
            omega (arith, few, next)
        | inr other ↦
            let not_below : nat_lt o.number c.page ≡ false = grind (arith, nat_tests, above) in
            let left : left_in (begun 0 c) o p.rows ≡ p.rows = cond-false _ _ _ not_below ∙ cond-false _ _ _ other in
            let next : next_in c o ≡ o.page.state.least = cond-false _ _ _ other in
            let few = unless o.page.state.least p.rows (subst (λ n. AreNumbered n p.rows) is.least sound.numbered) (omega (arith, is.count)) (omega arith) due
            (subst (λ (l : List PageRow). AreOpen (o ∷ others) (since o.from l)) left still) in
            omega (arith, few, next)
      ])
    ])
  ]
    where
      fits : first_open o ≤ end_of o
      fits =
          let long : length o.acknowledged ≡ o.page.state.count = sym (ap length is.acknowledged) ∙ sound.each ∙ is.count in
          omega (arith, long, leading_short o.acknowledged)

      unless : (start : ℕ) (rows : List PageRow) → AreNumbered start rows → start + length rows ≡ end_of o → o.page.state.least ≤ start → o.from < first_open o → AreOpen (o ∷ others) (since o.from rows) → first_open o ≤ start
      unless start rows are long first due shown = elim (cases_lt start (first_open o)) [
        | inr few ↦ few
        | inl more ↦
            let n = first_open o - 1 in
            let set = set_in_front o.page.state.least n o.acknowledged (omega (arith, first, more)) (omega (arith, first, more)) in
            let unset = left_unset o others start n rows are (omega (arith, more)) (omega (arith, more, fits, long)) (omega (arith, due)) shown in
            absurd (true≢false (sym set ∙ unset))
      ]

  pub open_given : (number end : ℕ) (tails : List OpenPageView) (top : OpenPageView) (pages : List Page) (last : Page) → ArePagesOf tails pages → IsPageOf top last → Rising number end pages last
      → CursorStands content c (tails ++ top ∷ []) (rows_with pages last) → AreOpen (tails ++ top ∷ []) (unread_rows_in (begun 0 c) (tails ++ top ∷ []) (rows_with pages last)) → AreGiven c (tails ++ top ∷ [])
  open_given number end [] top [] last are is rising stands still =
      (one_given top last [] is rising.2 stands.0 (subst (AreOpen (top ∷ [])) (append-nil (since top.from (left_in (begun 0 c) top last.rows))) still), tt)
  open_given number end [] top (p ∷ pages) last are is rising stands still = elim are [ ]
  open_given number end (o ∷ tails) top [] last are is rising stands still = elim are [ ]
  open_given number end (o ∷ tails) top (p ∷ pages) last are is rising stands still =
      let part = since o.from (left_in (begun 0 c) o p.rows) in
      let rest = unread_rows_in (begun 0 c) (tails ++ top ∷ []) (rows_with pages last) in (
        one_given o p (tails ++ top ∷ []) are.0 rising.3 stands.0 (open_front (o ∷ tails ++ top ∷ []) part rest still),
        open_given (suc p.number) (p.least + length p.rows) tails top pages last are.1 is rising.4 stands.1
            (open_by (o ∷ tails ++ top ∷ []) (tails ++ top ∷ []) rest (λ n none. (either_false (is_set_at o.page.state.least o.acknowledged n) (is_acknowledged (tails ++ top ∷ []) n) none).1) (open_rest (o ∷ tails ++ top ∷ []) part rest still)),
      )
