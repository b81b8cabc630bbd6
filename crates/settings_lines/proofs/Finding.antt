-- The pair of a key, found among those that the code holds.
use Rattle.std.proofs.Common.{◌≡◌, ℕ, List, [], ◌∷◌, map, refl, Bool, true, false, Some, cond}
use Rattle.std.specs.Prelude.{find, option_map, bytes_eq}
use Rattle.settings_lines.specs.declared.lines.Pair.{Pair}
use Rattle.settings_lines.specs.Pairs.{pair_view}
use Rattle.settings_lines.specs.Values.{value_at}

-- the value of a key is the scalar of its pair
pub found : (k : List ℕ) (ps : List Pair) → option_map (λ p. p.scalar.now) (find (λ p. bytes_eq p.key.now k) ps) ≡ value_at k (map pair_view ps)
found k [] = refl
found k (p ∷ ps) = by (bytes_eq p.key.now k) (found k ps)
  where
    by : (t : Bool) → option_map (λ q. q.scalar.now) (find (λ q. bytes_eq q.key.now k) ps) ≡ value_at k (map pair_view ps) → option_map (λ q. q.scalar.now) (cond t (Some p) (find (λ q. bytes_eq q.key.now k) ps)) ≡ option_map (λ v. v.1) (cond t (Some (pair_view p)) (find (λ v. bytes_eq v.0 k) (map pair_view ps)))
    by true rest = refl
    by false rest = rest
