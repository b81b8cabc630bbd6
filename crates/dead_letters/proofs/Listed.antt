-- The segments of a folder, by the names that it has.
use Rattle.std.proofs.Common.{◌≡◌, ⊎_elim, ℕ, zero, suc, ◌+◌, ◌<◌, ◌%◌, ◌^◌, List, [], ◌∷◌, ◌++◌, length, codes, IsSome, sym, ap, subst, arith, length-append}
use Rattle.std.specs.Prelude.{Contains}
use Rattle.std.specs.Fmt.{decimal}
use Rattle.std.proofs.lemmas.Fmt.{decimal_by_steps}
use Rattle.std.proofs.lemmas.List.Elements.{Contains-append_cases}
use Rattle.io_traits.specs.Folders.{Content, IsPart, folder_start, Lists}
use Rattle.dead_letters.specs.Queues.{segment, segment_name, name_in}
use Rattle.dead_letters.specs.Trimming.{IsOther, AreAllOthers}
use Rattle.dead_letters.specs.declared.segments.Segments.{Segments}

-- ---- names without a slash

start_plain : Contains (codes "dead.") 47 → ⊥
start_plain (zero, less, is) = omega (arith, is)
start_plain (suc zero, less, is) = omega (arith, is)
start_plain (suc (suc zero), less, is) = omega (arith, is)
start_plain (suc (suc (suc zero)), less, is) = omega (arith, is)
start_plain (suc (suc (suc (suc zero))), less, is) = omega (arith, is)
start_plain (suc (suc (suc (suc (suc k)))), less, is) = omega (arith, less)

end_plain : Contains (codes ".log") 47 → ⊥
end_plain (zero, less, is) = omega (arith, is)
end_plain (suc zero, less, is) = omega (arith, is)
end_plain (suc (suc zero), less, is) = omega (arith, is)
end_plain (suc (suc (suc zero)), less, is) = omega (arith, is)
end_plain (suc (suc (suc (suc k))), less, is) = omega (arith, less)

digits_plain : (n : ℕ) → n < 2 ^ 64 → Contains (decimal n) 47 → ⊥
digits_plain n fits = decimal_by_steps (λ m ds. Contains ds 47 → ⊥)
    (λ m small c. one m c)
    (λ m ds big none c. ⊎_elim none (λ last. one (m % 10) last) (Contains-append_cases ds ((48 + m % 10) ∷ []) 47 c)) n fits
  where
    one : (m : ℕ) → Contains ((48 + m) ∷ []) 47 → ⊥
    one m (zero, less, is) = omega (arith, is)
    one m (suc k, less, is) = omega (arith, less)

first_plain : Contains (codes "dead.log") 47 → ⊥
first_plain c = ⊎_elim start_plain log_plain (Contains-append_cases (codes "dead.") (codes "log") 47 c)
  where
    log_plain : Contains (codes "log") 47 → ⊥
    log_plain (i, less, is) = end_plain (suc i, omega (arith, less), is)

is_part : (n : ℕ) → n < 2 ^ 32 → IsPart (segment_name n)
is_part zero fits = record { some = λ none. omega (arith, ap length none); plain = first_plain }
is_part (suc k) fits = record {
  some = λ none. omega (arith, ap length none, length-append (codes "dead.") (decimal (suc k) ++ codes ".log"));
  plain = λ c. ⊎_elim start_plain
      (λ rest. ⊎_elim (digits_plain (suc k) (omega (arith, fits))) end_plain (Contains-append_cases (decimal (suc k)) (codes ".log") 47 rest))
      (Contains-append_cases (codes "dead.") (decimal (suc k) ++ codes ".log") 47 c);
}

pub are_all : (folder : List ℕ) (s : Segments) (content : Content) (parts gone : List (List ℕ)) → folder_start folder ≡ folder → Lists content folder parts
    → ((n : ℕ) → IsOther s n → Contains parts (segment_name n) → Contains gone (name_in folder (segment n))) → AreAllOthers folder s content gone
are_all folder s content parts gone starts lists all n other stands =
    all n other ((lists.each (segment_name n)).1 (is_part n other.0, subst (λ f. IsSome (content (f ++ segment_name n))) (sym starts) stands))
