-- The first page whose least number is below the end of the numbers before it, page by page.
use Rattle.std.proofs.Common.{◌≡◌, ℕ, zero, suc, ◌+◌, ◌<◌, ◌≤◌, nat_lt, true, false, List, [], ◌∷◌, ◌++◌, drop, map, Some, ◌∙◌, ap, subst, sym, arith}
use Rattle.std.proofs.lemmas.Bool.{cond-true, cond-false}
use Rattle.std.proofs.lemmas.Bool.Decides.{nat_tests}
use Rattle.queue_files.specs.Folders.{page, Folder}
use Rattle.queue_files.specs.Checkpoints.{misfit}
use Rattle.queue_files.specs.Found.{Held, falling}
use Rattle.queue_files.specs.Opening.{held_tail, IsBounded, AllBounded}
use Rattle.queue_files.specs.declared.sealed_pages.SealedPage.{SealedPage}

-- what stands for a missing item
abbrev pub no_tail : SealedPage
no_tail = record { number = 0; turn = 0; state = record { page = 0; first_open = 0; least = 0; count = 0; length = 0 } }

pub bounded_at : (tails : List SealedPage) (i : ℕ) (t : SealedPage) → drop i tails ≡ t ∷ drop (i + 1) tails → AllBounded tails → IsBounded t
bounded_at tails i t split all = (subst AllBounded split (from i tails all)).0
  where
    from : (i : ℕ) (tails : List SealedPage) → AllBounded tails → AllBounded (drop i tails)
    from zero tails all = all
    from (suc i) [] all = tt
    from (suc i) (t ∷ tails) all = from i tails all.1

one_bounded : (tails : List SealedPage) (t : SealedPage) → AllBounded tails → IsBounded t → AllBounded (tails ++ t ∷ [])
one_bounded [] t all is = (is, tt)
one_bounded (x ∷ tails) t all is = (all.0, one_bounded tails t all.1 is)

pub bounded_more : (tails items : List SealedPage) (t : SealedPage) → items ≡ tails ++ t ∷ [] → AllBounded tails → IsBounded t → AllBounded items
bounded_more tails items t more all is = subst AllBounded (sym more) (one_bounded tails t all is)

module _ (folder : Folder) (end : ℕ) (tails : List SealedPage) (i : ℕ) (t : SealedPage) (last : Held) (split : drop i tails ≡ t ∷ drop (i + 1) tails) where
  pub falls_now : t.state.least < end → falling end (map (held_tail folder) (drop i tails) ++ last ∷ []) ≡ Some (page t.number, misfit 0 t.state.least end)
  falls_now less =
      let is : nat_lt t.state.least end ≡ true = grind (arith, nat_tests, less) in
      ap (λ l. falling end (map (held_tail folder) l ++ last ∷ [])) split ∙ cond-true _ _ _ is

  pub falls_later : end ≤ t.state.least → falling end (map (held_tail folder) (drop i tails) ++ last ∷ []) ≡ falling (t.state.least + t.state.count) (map (held_tail folder) (drop (i + 1) tails) ++ last ∷ [])
  falls_later not_less =
      let is : nat_lt t.state.least end ≡ false = grind (arith, nat_tests, not_less) in
      ap (λ l. falling end (map (held_tail folder) l ++ last ∷ [])) split ∙ cond-false _ _ _ is
