-- A text that is cut at the first byte of a kind.
use Rattle.std.proofs.Common.{◌≡◌, ℕ, ◌<◌, ◌==◌, List, length, Option, Some, None, Bool, true, false, if◌then◌else◌, sym, ap, ap₂, ◌∙◌, arith}
use Rattle.std.proofs.lemmas.Bool.Decides.{nat_tests}
use Rattle.std.specs.Prelude.{nat_lt, option_map, MatchOption}
use Rattle.std.specs.Borrow.{Bor}
use Rattle.std.specs.List.{position_or_len, before_first, after_first}
use Rattle.grok_patterns.specs.Pieces.{cut, pair_of}

abbrev CutAt : ℕ → List ℕ → Bor (List ℕ) × Bor (List ℕ) → Type 0
CutAt c s x = (x.0.now ≡ before_first (λ b. b == c) s) × (x.1.now ≡ after_first (λ b. b == c) s) × (position_or_len (λ b. b == c) s < length s)

abbrev when : ℕ → List ℕ → Bool → Option (List ℕ × List ℕ)
when c s t = if t then Some (before_first (λ b. b == c) s, after_first (λ b. b == c) s) else None

pub of_split : (c : ℕ) (s : List ℕ) (r : Option (Bor (List ℕ) × Bor (List ℕ))) → MatchOption r (position_or_len (λ b. b == c) s ≡ length s) (CutAt c s) → option_map pair_of r ≡ cut c s
of_split c s None none =
    let past : nat_lt (position_or_len (λ b. b == c) s) (length s) ≡ false = grind (arith, nat_tests) in
    sym (ap (when c s) past)
of_split c s (Some x) here =
    let within : nat_lt (position_or_len (λ b. b == c) s) (length s) ≡ true = grind (arith, nat_tests) in
    ap₂ (λ a b. Some (a, b)) here.0 here.1 ∙ sym (ap (when c s) within)
