-- What a folder holds goes by the pages up to the head.
use Rattle.std.proofs.Common.{◌≡◌, ◌⊎◌, ⊎_elim, ℕ, zero, suc, ◌+◌, ◌<◌, nat_lt, true, false, List, [], ◌∷◌, ◌++◌, Option, Some, None, Result, Ok, Err, refl, sym, ◌∙◌, ap, arith, if◌then◌else◌}
use Rattle.std.proofs.Math.Path.{ap₂}
use Rattle.io_traits.specs.Reads.{bytes_of}
use Rattle.io_traits.specs.declared.pages.PageState.{PageState}
use Rattle.queue_page.specs.Elements.{and_then}
use Rattle.queue_page.specs.Pages.{opened}
use Rattle.queue_files.specs.Folders.{page, checkpoint, Folder}
use Rattle.queue_files.specs.Checkpoints.{misfit}
use Rattle.queue_files.specs.Found.{Damaged, or_damage, Found, Held, held_by, held, head_held, falling, unless, opened_page, top_found, with_page, read_all, found_in}
use Rattle.queue_files.specs.Laws.{FoundGoesByPages}
use Rattle.queue_files.proofs.Kept.{found_as}

module _ (a b : Folder) where
  held_same : (count from : ℕ) → ((n : ℕ) → n < from + count → b (page n) ≡ a (page n)) → ((n : ℕ) → n < from + count → (b (checkpoint n) ≡ a (checkpoint n)) ⊎ (a (page n) ≡ None))
      → held count from b ≡ held count from a
  held_same zero from pages slots = refl
  held_same (suc count) from pages slots =
      let rest = held_same count (suc from) (λ n less. pages n (omega (arith, less))) (λ n less. slots n (omega (arith, less))) in
      ap (held_by from (b (checkpoint from)) (b (page from))) rest
      ∙ ⊎_elim
      (λ same. ap₂ (λ (c p : Option (List ℕ)). held_by from c p (held count (suc from) a)) same (pages from (omega arith)))
      (λ missing.
      ap (λ (p : Option (List ℕ)). held_by from (b (checkpoint from)) p (held count (suc from) a)) (pages from (omega arith) ∙ missing)
      ∙ sym (ap (λ (p : Option (List ℕ)). held_by from (a (checkpoint from)) p (held count (suc from) a)) missing))
      (slots from (omega arith))

module _ (s : PageState) (x y : List ℕ) where
  abbrev top_of : List ℕ → Held
  top_of bytes = record { number = s.page; state = s; bytes = bytes }

  falling_same : (end : ℕ) (pages : List Held) → falling end (pages ++ top_of x ∷ []) ≡ falling end (pages ++ top_of y ∷ [])
  falling_same end [] = refl
  falling_same end (p ∷ pages) =
      ap (λ (o : Option Damaged). if nat_lt p.state.least end then Some (page p.number, misfit 0 p.state.least end) else o) (falling_same (p.state.least + p.state.count) pages)

  read_same : opened true s x ≡ opened true s y → (pages : List Held) → read_all pages (top_of x) ≡ read_all pages (top_of y)
  read_same opens [] = ap (λ r. and_then (or_damage r (λ m. (page s.page, misfit m.place m.found m.expected))) (λ read. Ok (top_found (top_of y) read))) opens
  read_same opens (p ∷ pages) =
      ap (λ (r : Result Found Damaged). and_then (opened_page false p) (λ read. and_then r (λ found. Ok (with_page p read found)))) (read_same opens pages)

  found_same : opened true s x ≡ opened true s y → (pages : List Held) → found_in (top_of x) pages ≡ found_in (top_of y) pages
  found_same opens pages = ap₂ unless (falling_same 0 pages) (read_same opens pages)

pub found_goes_by_pages : FoundGoesByPages
found_goes_by_pages a b s is again pages slots opens =
    let tails : held s.page 0 b ≡ held s.page 0 a = held_same a b s.page 0 (λ n less. pages n (omega (arith, less))) (λ n less. slots n (omega (arith, less))) in
    found_as b s again
    ∙ ap (λ (l : Result (List Held) Damaged). and_then l (found_in (head_held b s))) tails
    ∙ and_then_same (held s.page 0 a)
    ∙ sym (found_as a s is)
  where
    and_then_same : (l : Result (List Held) Damaged) → and_then l (found_in (head_held b s)) ≡ and_then l (found_in (head_held a s))
    and_then_same (Ok l) = found_same s (bytes_of (b (page s.page))) (bytes_of (a (page s.page))) opens l
    and_then_same (Err e) = refl
