-- Pages of a queue, read one behind the other for a batch.
use Rattle.std.proofs.Common.{◌≡◌, ◌⊎◌, ⊎_elim, inl, inr, ℕ, zero, suc, ◌+◌, ◌<◌, true, false, List, [], ◌∷◌, ◌++◌, length, drop, get_or, Result, Ok, Err, sym, ap, ◌∙◌, subst, arith}
use Rattle.std.proofs.lemmas.Bool.{cond-true, cond-false}
use Rattle.std.proofs.lemmas.List.{drop_more}
use Rattle.io_traits.specs.Folders.{Content}
use Rattle.io_traits.specs.Reads.{bytes_of}
use Rattle.io_traits.specs.declared.queue_faults.Damage.{Damage}
use Rattle.io_traits.specs.declared.queue_faults.QueueFault.{QueueFault}
use Rattle.io_traits.specs.declared.queue_faults.QueueFault.TheVariants as f
use Rattle.queue_page.specs.Blocks.{IsPart}
use Rattle.queue_page.specs.Elements.{and_then}
use Rattle.queue_page.specs.Views.{PageBufferView}
use Rattle.queue_core.specs.Batching.{Finds}
use Rattle.queue_core.specs.Taking.{Stand, stand, entered, is_passed, rows_of, page_read, pages_read, IsThere, AreThere, WasRead}
use Rattle.queue_core.specs.Views.{OpenPageView}
use Rattle.queue_core.specs.declared.page_rows.BatchReader.{BatchReader}

-- ---- what is read

module _ (content : Content) where
  pub page_passed : (o : OpenPageView) (s : Stand) → is_passed o s ≡ true → page_read content o s ≡ Ok s
  unfolding page_read
  page_passed o s is = cond-true _ _ _ is

  page_on : (o : OpenPageView) (s : Stand) → is_passed o s ≡ false → page_read content o s ≡ and_then (rows_of content o (entered o s)) (λ r. Ok (stand o.number r))
  unfolding page_read
  page_on o s is = cond-false _ _ _ is

  -- what was read of a page that is entered
  pub page_found : {X : Type 0} (o : OpenPageView) (s : Stand) (result : Result X QueueFault) (r next : BatchReader) (page : ℕ) → is_passed o s ≡ false → r ≡ entered o s → page ≡ o.number
      → Finds (λ _. next) result (rows_of content o r) → Finds (λ _. stand page next) result (page_read content o s)
  page_found o s (Ok x) r next page goes_on is number read =
      page_on o s goes_on ∙ ap (λ r. and_then (rows_of content o r) (λ r. Ok (stand o.number r))) (sym is) ∙ ap (λ q. and_then q (λ r. Ok (stand o.number r))) read
      ∙ ap (λ n. Ok (stand n next)) (sym number)
  page_found o s (Err (f.Damaged d)) r next page goes_on is number read =
      page_on o s goes_on ∙ ap (λ r. and_then (rows_of content o r) (λ r. Ok (stand o.number r))) (sym is) ∙ ap (λ q. and_then q (λ r. Ok (stand o.number r))) read
  page_found o s (Err f.Fault) r next page goes_on is number read = tt
  page_found o s (Err f.Memory) r next page goes_on is number read = tt

  -- one page and then the others
  pub page_then : (o : OpenPageView) (pages : List OpenPageView) (s next : Stand) → page_read content o s ≡ Ok next → pages_read content (o ∷ pages) s ≡ pages_read content pages next
  page_then o pages s next is = ap (λ q. and_then q (pages_read content pages)) is

  pub page_lost : {X Y : Type 0} (view : X → Stand) (whole : Y → Stand) (o : OpenPageView) (pages : List OpenPageView) (s : Stand) (fault : QueueFault) → Finds view (Err fault) (page_read content o s)
      → Finds whole (Err fault) (pages_read content (o ∷ pages) s)
  page_lost view whole o pages s (f.Damaged d) lost = ap (λ q. and_then q (pages_read content pages)) lost
  page_lost view whole o pages s f.Fault lost = tt
  page_lost view whole o pages s f.Memory lost = tt

  pub any_view : {X Y : Type 0} (view : X → Stand) (whole : Y → Stand) (fault : QueueFault) (read : Result Stand Damage) → Finds view (Err fault) read → Finds whole (Err fault) read
  any_view view whole (f.Damaged d) read lost = lost
  any_view view whole f.Fault read lost = tt
  any_view view whole f.Memory read lost = tt

  -- the last page
  pub last_read : {X : Type 0} (view : X → Stand) (result : Result X QueueFault) (o : OpenPageView) (s : Stand) → Finds view result (page_read content o s) → Finds view result (pages_read content (o ∷ []) s)
  last_read view (Ok x) o s read = page_then o [] s (view x) read
  last_read view (Err fault) o s lost = page_lost view view o [] s fault lost

-- ---- the pages in which rows are read

-- the page at a place, and those behind it
pub from_place : (pages : List OpenPageView) (i : ℕ) (o : OpenPageView) → i < length pages → o ≡ get_or pages i o → drop i pages ≡ o ∷ drop (i + 1) pages
from_place pages i o less is = drop_more pages i o less ∙ ap (λ x. x ∷ drop (i + 1) pages) (sym is)

-- what is found in the file of a page, which reads give as before
pub as_before : (now before : Content) (o : OpenPageView) (page : ℕ) (held : PageBufferView) (P : Content → Type 0) → now ≡ before → ((page ≡ o.number → IsPart (bytes_of (now o.file)) held) → P now)
    → (page ≡ o.number → IsPart (bytes_of (before o.file)) held) → P before
as_before now before o page held P same so = subst (λ (content : Content). (page ≡ o.number → IsPart (bytes_of (content o.file)) held) → P content) same so

module _ (names : ℕ → List ℕ) (content : Content) (page : ℕ) (block : PageBufferView) where
  pub there_at : (pages : List OpenPageView) (top : OpenPageView) (i : ℕ) (o : OpenPageView) → i < length pages → o ≡ get_or pages i o → AreThere names content page block (pages ++ top ∷ []) → IsThere names content page block o
  there_at [] top i o less is there = absurd (omega (arith, less))
  there_at (p ∷ pages) top zero o less is there = subst (IsThere names content page block) (sym is) there.0
  there_at (p ∷ pages) top (suc i) o less is there = there_at pages top i o (omega (arith, less)) is there.1

  pub top_there : (pages : List OpenPageView) (top : OpenPageView) → AreThere names content page block (pages ++ top ∷ []) → IsThere names content page block top
  top_there [] top there = there.0
  top_there (p ∷ pages) top there = top_there pages top there.1

  -- the part of a page that was read last, where the next row stands in it
  pub part_now : (o : OpenPageView) (now : ℕ) (held : PageBufferView) → IsThere names content page block o → WasRead names content page block now held → now ≡ o.number → IsPart (bytes_of (content o.file)) held
  part_now o now held there was is = ⊎_elim
      (λ same. subst (IsPart (bytes_of (content o.file))) (sym same.1) (there.part (sym same.0 ∙ is)))
      (λ part. subst (λ (name : List ℕ). IsPart (bytes_of (content name)) held) (ap names is ∙ sym there.file) part)
      was.either

  pub was_read : (o : OpenPageView) (now next : ℕ) (held last : PageBufferView) → IsThere names content page block o → WasRead names content page block now held
      → ((next ≡ now) × (last ≡ held)) ⊎ ((next ≡ o.number) × IsPart (bytes_of (content o.file)) last) → WasRead names content page block next last
  was_read o now next held last there was either = ⊎_elim
      (λ same. record { either = ⊎_elim (λ yet. inl (same.0 ∙ yet.0, same.1 ∙ yet.1)) (λ part. inr (subst (λ n. IsPart (bytes_of (content (names n))) last) (sym same.0) (subst (IsPart (bytes_of (content (names now)))) (sym same.1) part))) was.either })
      (λ part. record { either = inr (subst (λ (name : List ℕ). IsPart (bytes_of (content name)) last) (there.file ∙ ap names (sym part.0)) part.1) })
      either
