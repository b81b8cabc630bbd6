-- One turn of each loop: over letters, over names, and over files.
use Rattle.std.proofs.Common.{◌≡◌, ℕ, suc, ◌+◌, List, [], ◌∷◌, ◌++◌, length, map, drop, get_or, sym, ap, ◌∙◌, refl, arith}
use Rattle.std.specs.List.{sum}
use Rattle.std.proofs.Math.Path.{ap₂}
use Rattle.std.proofs.lemmas.List.{append_assoc, take_all}
use Rattle.io_traits.specs.Folders.{Content}
use Rattle.dead_letters.specs.Letters.{record_bytes, size_of}
use Rattle.dead_letters.specs.Queues.{segment, name_in, joined}
use Rattle.dead_letters.specs.Found.{bytes_in, fronts_from}
use Rattle.dead_letters.specs.Views.{names_from}
use Rattle.dead_letters.specs.Ready.{files_from}
use Rattle.dead_letters.specs.declared.letter.DeadLetter.{DeadLetter}
use Rattle.dead_letters.proofs.Sheds.{sum_cons}

-- ---- letters

module _ (x : DeadLetter) (letters rest : List DeadLetter) (split : letters ≡ x ∷ rest) where
  pub one_summed : sum (map size_of letters) ≡ size_of x + sum (map size_of rest)
  one_summed = ap (λ l. sum (map size_of l)) split ∙ sum_cons (size_of x) (map size_of rest)

  pub one_sized : (sizes items : List ℕ) (n : ℕ) (whole : List ℕ) → items ≡ sizes ++ n ∷ [] → n ≡ size_of x → sizes ++ map size_of letters ≡ whole → items ++ map size_of rest ≡ whole
  one_sized sizes items n whole pushed is so_far =
      ap (λ l. l ++ map size_of rest) pushed ∙ append_assoc sizes (n ∷ []) (map size_of rest) ∙ ap (λ m. sizes ++ m ∷ map size_of rest) is ∙ sym (ap (λ l. sizes ++ map size_of l) split) ∙ so_far

  pub one_written : (bytes items whole : List ℕ) → items ≡ bytes ++ record_bytes x → bytes ++ joined (map record_bytes letters) ≡ whole → items ++ joined (map record_bytes rest) ≡ whole
  one_written bytes items whole written so_far =
      ap (λ l. l ++ joined (map record_bytes rest)) written ∙ append_assoc bytes (record_bytes x) (joined (map record_bytes rest)) ∙ sym (ap (λ l. bytes ++ joined (map record_bytes l)) split) ∙ so_far

-- ---- names

pub one_named : (folder : List ℕ) (n k m j : ℕ) (made items whole : List (List ℕ)) (name : List ℕ) → k ≡ suc j → m ≡ suc n → items ≡ made ++ name ∷ [] → name ≡ name_in folder (segment n) → made ++ names_from folder n k ≡ whole
    → items ++ names_from folder m j ≡ whole
one_named folder n k m j made items whole name some next pushed is so_far =
    ap (λ l. l ++ names_from folder m j) pushed ∙ append_assoc made (name ∷ []) (names_from folder m j) ∙ ap₂ (λ x y. made ++ x ∷ names_from folder y j) is next ∙ sym (ap (λ i. made ++ names_from folder n i) some) ∙ so_far

-- the bytes of one file more
pub one_measured : (folder : List ℕ) (c : Content) (n k m j : ℕ) (made items whole : List ℕ) (size : ℕ) → k ≡ suc j → m ≡ suc n → items ≡ made ++ size ∷ [] → size ≡ length (bytes_in folder c n)
    → made ++ map length (files_from folder c n k) ≡ whole → items ++ map length (files_from folder c m j) ≡ whole
one_measured folder c n k m j made items whole size some next pushed is so_far =
    ap (λ l. l ++ map length (files_from folder c m j)) pushed ∙ append_assoc made (size ∷ []) (map length (files_from folder c m j)) ∙ ap₂ (λ x y. made ++ x ∷ map length (files_from folder c y j)) is next
    ∙ sym (ap (λ i. made ++ map length (files_from folder c n i)) some) ∙ so_far

-- ---- segments

-- so many bytes of each are all that it has
pub fronts_are : (folder : List ℕ) (c : Content) (n : ℕ) (sizes : List ℕ) → map length (files_from folder c n (length sizes)) ≡ sizes → fronts_from folder c n sizes ≡ files_from folder c n (length sizes)
fronts_are folder c n [] same = refl
fronts_are folder c n (s ∷ sizes) same =
    let head : length (bytes_in folder c n) ≡ s = ap (λ l. get_or l 0 0) same in
    ap₂ (λ b l. b ∷ l) (take_all s (bytes_in folder c n) (omega (arith, head))) (fronts_are folder c (suc n) sizes (ap (drop 1) same))
