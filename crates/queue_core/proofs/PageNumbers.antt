-- Numbers of the pages of an open queue: none is above that of the head page.
use Rattle.std.specs.Prelude.{⊤}
use Rattle.std.proofs.Common.{◌≡◌, ℕ, suc, ◌+◌, length, ◌≤◌, Bool, true, false, if◌then◌else◌, List, [], ◌∷◌, ◌++◌, Result, Ok, Err, refl, subst, arith}
use Rattle.io_traits.specs.Folders.{Content}
use Rattle.io_traits.specs.declared.queue_faults.Damage.{Damage}
use Rattle.queue_page.specs.Elements.{and_then}
use Rattle.queue_files.specs.Kept.{Page, Rising}
use Rattle.queue_core.specs.Opening.{first_of}
use Rattle.queue_core.specs.Opens.{Climb, IsPageOf, ArePagesOf}
use Rattle.queue_core.specs.Taking.{Stand, stand, entered, is_passed, rows_of, page_read, pages_read}
use Rattle.queue_core.specs.Views.{OpenPageView}
use Rattle.queue_core.specs.declared.page_rows.BatchReader.{BatchReader}

-- none of these is above this
abbrev pub AreWithin : ℕ → List OpenPageView → Type 0
AreWithin top [] = ⊤
AreWithin top (o ∷ pages) = (o.number ≤ top) × AreWithin top pages

pub ok_same : {x y : Stand} → ◌≡◌ {A = Result Stand Damage} (Ok x) (Ok y) → x ≡ y
ok_same is = cc

module _ (content : Content) (top : ℕ) where
  -- a reading ends in the page where it began, or in one of those that it goes through
  after_rows : (o : OpenPageView) (rows : Result BatchReader Damage) (next : Stand) → o.number ≤ top → and_then rows (λ r. Ok (stand o.number r)) ≡ Ok next → next.page ≤ top
  after_rows o (Ok r) next within is = subst (λ (s : Stand). s.page ≤ top) (ok_same is) within
  after_rows o (Err d) next within is = absurd (cc)

  page_within : (o : OpenPageView) (s next : Stand) → o.number ≤ top → s.page ≤ top → page_read content o s ≡ Ok next → next.page ≤ top
  unfolding page_read
  page_within o s next within from is = by_test (is_passed o s) is
    where
      by_test : (b : Bool) → ◌≡◌ {A = Result Stand Damage} (if b then Ok s else and_then (rows_of content o (entered o s)) (λ r. Ok (stand o.number r))) (Ok next) → next.page ≤ top
      by_test true e = subst (λ (x : Stand). x.page ≤ top) (ok_same e) from
      by_test false e = after_rows o (rows_of content o (entered o s)) next within e

  pub read_within : (pages : List OpenPageView) (s next : Stand) → AreWithin top pages → s.page ≤ top → pages_read content pages s ≡ Ok next → next.page ≤ top
  read_within [] s next all from is = subst (λ (x : Stand). x.page ≤ top) (ok_same is) from
  read_within (o ∷ pages) s next all from is = by_page (page_read content o s) refl is (λ mid less read. read_within pages mid next all.1 less read)
    where
      by_page : (r : Result Stand Damage) → page_read content o s ≡ r → and_then r (pages_read content pages) ≡ Ok next → ((mid : Stand) → mid.page ≤ top → pages_read content pages mid ≡ Ok next → next.page ≤ top)
          → next.page ≤ top
      by_page (Ok mid) first behind rest = rest mid (page_within o s mid all.0 from first) behind
      by_page (Err d) first behind rest = absurd (cc)

pub all_within : (os : List OpenPageView) (t : OpenPageView) (ps : List Page) (top : Page) → ArePagesOf os ps → IsPageOf t top → (is : Rising 0 0 ps top) → AreWithin t.number (os ++ t ∷ [])
all_within os t ps top are is rising = go 0 0 os ps are rising
  where
    go : (number end : ℕ) (xs : List OpenPageView) (ys : List Page) → ArePagesOf xs ys → Rising number end ys top → AreWithin t.number (xs ++ t ∷ [])
    go number end [] ys a r = (omega arith, tt)
    go number end (x ∷ xs) [] a r = absurd a
    go number end (x ∷ xs) (y ∷ ys) a r = (let same = a.0.number in let less = r.1 in let last = is.number in omega (arith, same, less, last), go (suc y.number) (y.least + length y.rows) xs ys a.1 r.4)

climb_most : (from top : ℕ) (os : List OpenPageView) → Climb from top os → from ≤ top
climb_most from top [] climb = climb
climb_most from top (o ∷ os) climb = let first = climb.0 in let rest = climb_most (suc o.number) top os climb.1 in omega (arith, first, rest)

pub first_within : (os : List OpenPageView) (t : OpenPageView) → Climb 0 t.number os → (first_of os t).number ≤ t.number
first_within [] t climb = omega arith
first_within (o ∷ os) t climb = let rest = climb_most (suc o.number) t.number os climb.1 in omega (arith, rest)
