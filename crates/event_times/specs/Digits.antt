-- Decimal digits at the front of a text.
use Rattle.std.specs.Prelude.{ℕ, zero, suc, ◌+◌, ◌-◌, ◌*◌, List, [], ◌∷◌, if◌then◌else◌, Option, Some, None, option_map}
use Rattle.std.specs.Borrow.{Bor}
use Rattle.event_tree.specs.NumberTexts.{is_digit}

-- what was read at the front of a text, and what is left of it
abbrev pub Front : Type 0 → Type 0
Front A = Option (A × List ℕ)

-- the same, of a part of a text that is borrowed
abbrev pub as_front : {A : Type 0} → Option (A × Bor (List ℕ)) → Front A
as_front found = option_map (λ f. (f.0, f.1.now)) found

-- the number that exactly so many digits in front write, behind those that write n
unfoldable pub digits_behind : ℕ → ℕ → List ℕ → Front ℕ
digits_behind n zero s = Some (n, s)
digits_behind n (suc count) [] = None
digits_behind n (suc count) (b ∷ s) = if is_digit b then digits_behind (10 * n + (b - 48)) count s else None

-- the number that exactly so many digits in front write
abbrev pub digits_in : ℕ → List ℕ → Front ℕ
digits_in count s = digits_behind 0 count s
