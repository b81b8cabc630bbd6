-- The pages below the head, from a list of all pages.
use Rattle.std.proofs.Common.{◌≡◌, ⊎_elim, ℕ, suc, ◌<◌, ◌≤◌, ◌^◌, nat_lt, List, [], ◌∷◌, filter, Option, IsSome, Ok, sym, ◌∙◌, ap, subst, arith}
use Rattle.std.proofs.lemmas.Bool.Decides.{nat_tests}
use Rattle.std.proofs.lemmas.List.Kept.{IsStrictlyIncreasing-filter}
use Rattle.std.proofs.lemmas.Map.Keys.{below_from_sorted, sorted_tail, sorted_from_strictly_increasing, IsStrictlyIncreasing-from_sorted}
use Rattle.std.specs.List.Sorted.{IsStrictlyIncreasing}
use Rattle.std.specs.Ordering.{nat_cmp}
use Rattle.std.specs.Prelude.{Contains}
use Rattle.io_traits.specs.declared.pages.PageState.{PageState}
use Rattle.queue_files.specs.Folders.{head, page, Folder}
use Rattle.queue_files.specs.Checkpoints.{told}
use Rattle.queue_files.specs.Found.{found}
use Rattle.queue_files.specs.Listing.{AreNumbers}
use Rattle.queue_files.specs.Reading.{AreStanding, found_of}
use Rattle.queue_files.specs.Unread.{IsTidied}
use Rattle.queue_files.proofs.Members.{is_first, is_later, first_or_later, filter_has, has_filtered}
use Rattle.queue_files.proofs.StandingPages.{pages_are_found}
use Rattle.queue_files.proofs.Tidying.{none_if_not}

later_above : (m : ℕ) (numbers : List ℕ) → IsStrictlyIncreasing (m ∷ numbers) → (n : ℕ) → Contains numbers n → m < n
later_above m numbers rises n c =
    subst (λ (k : ℕ). m < k) c.2 (below_from_sorted (m ∷ numbers) 0 (suc c.0) n (sorted_from_strictly_increasing (m ∷ numbers) rises) (omega arith) (omega (arith, c.1)))

rest_rises : (m : ℕ) (numbers : List ℕ) → IsStrictlyIncreasing (m ∷ numbers) → IsStrictlyIncreasing numbers
rest_rises m numbers rises = IsStrictlyIncreasing-from_sorted numbers (sorted_tail nat_cmp m numbers (sorted_from_strictly_increasing (m ∷ numbers) rises))

pub standing_from : (from end : ℕ) (folder : Folder) (numbers : List ℕ) → IsStrictlyIncreasing numbers → ((n : ℕ) → Contains numbers n → (from ≤ n) × (n < end) × IsSome (folder (page n)))
    → ((n : ℕ) → from ≤ n → n < end → IsSome (folder (page n)) → Contains numbers n) → AreStanding from end folder numbers
standing_from from end folder [] rises has all = λ n past within. none_if_not (folder (page n)) (λ some. omega (arith, (all n past within some).1))
standing_from from end folder (m ∷ numbers) rises has all =
    let here = has m (is_first m numbers) in
    let above = later_above m numbers rises in (
      here.0,
      here.1,
      here.2,
      (λ n past less. none_if_not (folder (page n)) (λ some. ⊎_elim (λ same. omega (arith, same, less)) (λ later. omega (arith, less, above n later)) (first_or_later m numbers n (all n past (omega (arith, less, here.1)) some)))),
      standing_from (suc m) end folder numbers (rest_rises m numbers rises) (λ n c. let h = has n (is_later m numbers n c) in (omega (arith, above n c), h.1, h.2))
          (λ n past within some. ⊎_elim (λ same. absurd (omega (arith, same, past))) (λ later. later) (first_or_later m numbers n (all n (omega (arith, past, here.0)) within some))),
    )

pub below_stand : (h : ℕ) (a b : Folder) (pages : List ℕ) → AreNumbers page a pages → ((n : ℕ) → n < h → b (page n) ≡ a (page n)) → h ≤ 2 ^ 32 → AreStanding 0 h b (filter (λ n. nat_lt n h) pages)
below_stand h a b pages are same fits =
    let below : (n : ℕ) → Contains (filter (λ n. nat_lt n h) pages) n → n < h = λ n c. grind (arith, nat_tests, (has_filtered (λ n. nat_lt n h) pages n c).1) in
    standing_from 0 h b (filter (λ n. nat_lt n h) pages) (IsStrictlyIncreasing-filter (λ n. nat_lt n h) pages are.rises)
    (λ n c. (omega arith, below n c, subst (λ (o : Option (List ℕ)). IsSome o) (sym (same n (below n c))) ((are.each n).0 (has_filtered (λ n. nat_lt n h) pages n c).0).1))
    (λ n past within some. filter_has (λ n. nat_lt n h) pages n ((are.each n).1 (omega (arith, within, fits), subst (λ (o : Option (List ℕ)). IsSome o) (same n within) some)) (grind (arith, nat_tests, within)))

-- What a folder holds is what is found of the pages that are listed below its head, once it is tidied.
pub found_tidied : (a b : Folder) (s : PageState) (pages : List ℕ) → AreNumbers page a pages → told (a head) ≡ Ok s → s.page < 2 ^ 32 → IsTidied s a b → found a ≡ found_of b s (filter (λ n. nat_lt n s.page) pages)
found_tidied a b s pages are tells fits tidied =
    sym tidied.found_is
    ∙ pages_are_found b s (filter (λ n. nat_lt n s.page) pages) (ap told tidied.head_is ∙ tells)
    (below_stand s.page a b pages are (λ n less. tidied.pages n (omega (arith, less))) (omega (arith, fits)))
