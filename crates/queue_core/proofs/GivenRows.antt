-- Rows that are acknowledged were given or are recorded, once a queue is opened, and behind a mark.
use Rattle.std.proofs.Common.{◌≡◌, ◌⊎◌, inl, inr, ⊎_elim, ℕ, zero, suc, ◌+◌, ◌<◌, ◌≤◌, ◌==◌, nat_lt, Bool, true, false, List, [], ◌∷◌, ◌++◌, map, if◌then◌else◌, refl, ap, ◌∙◌, arith}
use Rattle.std.proofs.lemmas.Bool.{cond-false, cond-true, cases_Bool, cases_lt}
use Rattle.std.proofs.lemmas.Bool.Decides.{nat_tests}
use Rattle.io_traits.specs.declared.stores.Store.{Ghosts as StoreWords}
use Rattle.queue_page.specs.Views.{PageView}
use Rattle.queue_files.specs.Kept.{leading}
use Rattle.queue_files.specs.declared.sealed_pages.SealedPage.{SealedPage}
use Rattle.queue_core.specs.Calls.{first_open, with_marked, with_recorded}
use Rattle.queue_core.specs.NextBatch.{Rise}
use Rattle.queue_core.specs.Opening.{below_number, cursor_at, first_of, page_opened, queue_opened, tails_opened}
use Rattle.queue_core.specs.UnreadRows.{AllAreGiven, AreGiven, next_in}
use Rattle.queue_core.specs.Views.{OpenPageView, CursorView}
use Rattle.queue_core.proofs.QueueBatch.{all_rise}

-- what is acknowledged from the first row on is below the recorded number, or nothing is
led : (from number count : ℕ) → (number + leading (below_number from number count) ≤ from) ⊎ (number + leading (below_number from number count) ≤ number)
led from number zero = inr (omega arith)
led from number (suc count) = elim (cases_lt number from) [
  | inl less ↦
      let here : nat_lt number from ≡ true = grind (arith, nat_tests, less) in
      let one : leading (below_number from number (suc count)) ≡ suc (leading (below_number from (suc number) count)) =
      ap (λ (b : Bool). if b then suc (leading (below_number from (suc number) count)) else 0) here in
      inl (⊎_elim
      (λ (recorded : suc number + leading (below_number from (suc number) count) ≤ from). omega (arith, recorded, one))
      (λ (none : suc number + leading (below_number from (suc number) count) ≤ suc number). omega (arith, none, one, less))
      (led from (suc number) count))
  | inr more ↦
      let here : nat_lt number from ≡ false = grind (arith, nat_tests, more) in
      let none : leading (below_number from number (suc count)) ≡ 0 = ap (λ (b : Bool). if b then suc (leading (below_number from (suc number) count)) else 0) here in
      inr (omega (arith, none))
]

next_is : (c : CursorView) (o : OpenPageView) → (o.number ≡ c.page → c.number ≡ o.page.state.least) → next_in c o ≡ o.page.state.least
next_is c o first = elim (cases_Bool (o.number == c.page)) [
  | inl this ↦ cond-true _ _ _ this ∙ first (grind (arith, nat_tests, this))
  | inr other ↦ cond-false _ _ _ other
]

module _ (folder : List ℕ) (c : CursorView) where
  one_given : (number turn from : ℕ) (view : PageView) → (number ≡ c.page → c.number ≡ view.state.least)
      → (number < c.page) ⊎ ((first_open (page_opened folder number turn from view) ≤ from) ⊎ (first_open (page_opened folder number turn from view) ≤ next_in c (page_opened folder number turn from view)))
  one_given number turn from view first =
      let o = page_opened folder number turn from view in
      let next = next_is c o first in
      inr (⊎_elim (λ (recorded : first_open o ≤ from). inl recorded) (λ (none : first_open o ≤ view.state.least). inr (omega (arith, none, next))) (led from view.state.least view.state.count))

  module _ (number turn first_open_number : ℕ) (view : PageView) where
    abbrev top : OpenPageView
    top = page_opened folder number turn first_open_number view

    later_given : (from : ℕ) (tails : List SealedPage) (views : List PageView) → Rise from (tails_opened folder tails views ++ top ∷ []) → c.page < from → AreGiven c (tails_opened folder tails views ++ top ∷ [])
    later_given from [] views rise less = (one_given number turn first_open_number view (λ is. absurd (omega (arith, is, less, rise.0))), tt)
    later_given from (t ∷ tails) [] rise less = (one_given number turn first_open_number view (λ is. absurd (omega (arith, is, less, rise.0))), tt)
    later_given from (t ∷ tails) (v ∷ views) rise less = (
      one_given t.number t.turn t.state.first_open v (λ is. absurd (omega (arith, is, less, rise.0))),
      later_given (suc t.number) tails views rise.1 (omega (arith, less, rise.0)),
    )

module _ (folder : List ℕ) (number turn first_open_number : ℕ) (view : PageView) where
  first_given : (tails : List SealedPage) (views : List PageView) → Rise 0 (tails_opened folder tails views ++ page_opened folder number turn first_open_number view ∷ [])
      → AreGiven (cursor_at (first_of (tails_opened folder tails views) (page_opened folder number turn first_open_number view))) (tails_opened folder tails views ++ page_opened folder number turn first_open_number view ∷ [])
  first_given [] views rise = (one_given folder (cursor_at (page_opened folder number turn first_open_number view)) number turn first_open_number view (λ is. refl), tt)
  first_given (t ∷ tails) [] rise = (one_given folder (cursor_at (page_opened folder number turn first_open_number view)) number turn first_open_number view (λ is. refl), tt)
  first_given (t ∷ tails) (v ∷ views) rise =
      let c = cursor_at (page_opened folder t.number t.turn t.state.first_open v) in
      (one_given folder c t.number t.turn t.state.first_open v (λ is. refl), later_given folder c number turn first_open_number view (suc t.number) tails views rise.1 (omega arith))

marked_given : (c : CursorView) (tails : List OpenPageView) (top : OpenPageView) → AreGiven c (map with_marked tails ++ with_recorded top ∷ [])
marked_given c [] top = (inr (inl (omega arith)), tt)
marked_given c (o ∷ tails) top = (inr (inl (omega arith)), marked_given c tails top)

pub all_are_given : {S : Type 0} (store : StoreWords S) → AllAreGiven store
all_are_given store = record {
  opened = λ folder limits o old new made.
      let v = queue_opened folder limits o in
      let rise = all_rise 0 0 v.tails v.top made.queue.tails made.queue.top made.opens.tails made.opens.top made.opens.ready.is in
      first_given folder o.state.page o.turn o.state.first_open o.pages.top o.pages.tails.items o.pages.pages.items rise;
  marked = λ v. marked_given v.cursor v.tails v.top;
}
