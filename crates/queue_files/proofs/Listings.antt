-- The names in a folder, as the numbers of its files.
use Rattle.std.proofs.Common.{◌≡◌, ⊎_elim, ℕ, ◌+◌, ◌<◌, ◌%◌, ◌^◌, ◌==◌, false, List, [], ◌∷◌, ◌++◌, length, IsSome, sym, ◌∙◌, ap, subst, arith, length-append}
use Rattle.std.proofs.lemmas.Bool.{false≢true}
use Rattle.std.proofs.lemmas.Fmt.{decimal_by_steps, decimal_nonempty}
use Rattle.std.proofs.lemmas.List.Elements.{Contains-append_cases}
use Rattle.std.specs.List.{list_any}
use Rattle.std.specs.List.Sorted.{IsStrictlyIncreasing}
use Rattle.std.specs.Prelude.{Contains, ◌↔◌}
use Rattle.std.specs.Fmt.{decimal}
use Rattle.io_traits.specs.Folders.{Content, IsPart, folder_start, Lists}
use Rattle.queue_files.specs.Folders.{Role, number_text, names_in}
use Rattle.queue_files.specs.Marks.{read_in}
use Rattle.queue_files.specs.Listing.{AreNumbers}
use Rattle.queue_files.proofs.FileNumbers.{number_is}
use Rattle.queue_files.proofs.Members.{any_decides, first_or_later}

-- ---- names without a slash

no_slash : (bs : List ℕ) → list_any (λ b. b == 47) bs ≡ false → Contains bs 47 → ⊥
no_slash bs none c = false≢true (sym none ∙ (any_decides bs 47).1 c)

digits_plain : (n : ℕ) → n < 2 ^ 64 → Contains (decimal n) 47 → ⊥
digits_plain n fits = decimal_by_steps (λ m ds. Contains ds 47 → ⊥)
    (λ m small c. one m c)
    (λ m ds big none c. ⊎_elim none (λ last. one (m % 10) last) (Contains-append_cases ds ((48 + m % 10) ∷ []) 47 c)) n fits
  where
    one : (m : ℕ) → Contains ((48 + m) ∷ []) 47 → ⊥
    one m c = ⊎_elim (λ same. omega (arith, same)) (λ none. omega (arith, none.1)) (first_or_later (48 + m) [] 47 c)

is_part : (kind : List ℕ) (n : ℕ) → list_any (λ b. b == 47) kind ≡ false → n < 2 ^ 32 → IsPart (kind ++ decimal n)
is_part kind n plain fits = record {
  some = λ none. omega (arith, ap length none, length-append kind (decimal n), decimal_nonempty n (omega (arith, fits)));
  plain = λ c. ⊎_elim (no_slash kind plain) (digits_plain n (omega (arith, fits))) (Contains-append_cases kind (decimal n) 47 c);
}

-- ---- what is listed

pub are_numbers : (folder : List ℕ) (content : Content) (names : List (List ℕ)) (text : List ℕ) (kind : ℕ → Role) (numbers : List ℕ) → folder_start folder ≡ folder → Lists content folder names
    → list_any (λ b. b == 47) text ≡ false → ((n : ℕ) → names_in folder (kind n) ≡ folder ++ (text ++ number_text n)) → IsStrictlyIncreasing numbers
    → ((n : ℕ) → Contains numbers n ↔ ((n < 2 ^ 32) × Contains names (text ++ decimal n))) → AreNumbers kind (read_in (names_in folder) content) numbers
are_numbers folder content names text kind numbers starts lists plain named rises each = record { rises = rises; each = λ n. (listed n, found n) }
  where
    file_is : (n : ℕ) → n < 2 ^ 32 → folder_start folder ++ (text ++ decimal n) ≡ names_in folder (kind n)
    file_is n fits = ap (λ (l : List ℕ). l ++ (text ++ decimal n)) starts ∙ ap (λ (l : List ℕ). folder ++ (text ++ l)) (number_is n fits) ∙ sym (named n)

    listed : (n : ℕ) → Contains numbers n → (n < 2 ^ 32) × IsSome (content (names_in folder (kind n)))
    listed n c = let f = (each n).0 c in (f.0, subst (λ name. IsSome (content name)) (file_is n f.0) ((lists.each (text ++ decimal n)).0 f.1).1)

    found : (n : ℕ) → (n < 2 ^ 32) × IsSome (content (names_in folder (kind n))) → Contains numbers n
    found n f = (each n).1 (f.0, (lists.each (text ++ decimal n)).1 (is_part text n plain f.0, subst (λ name. IsSome (content name)) (sym (file_is n f.0)) f.1))
