-- One more plugin of a name.
use Rattle.std.proofs.Common.{◌≡◌, ℕ, ◌+◌, List, [], ◌∷◌, Bool, true, false, refl, ap, cond, Some, bytes_eq, if◌then◌else◌}
use Rattle.std.specs.Map.{lookup}
use Rattle.event_tree.specs.Paths.{over}
use Rattle.indexmap.specs.IndexMap.{insert_entry}
use Rattle.graph_checks.specs.Boxes.{Counts, count_of, one_more}

pub raised : (k : List ℕ) (cs : Counts) → insert_entry bytes_eq cs k (count_of k cs + 1) ≡ one_more k cs
raised k [] = refl
raised k (c ∷ cs) = at (bytes_eq k c.0) (raised k cs)
  where
    at : (t : Bool) → insert_entry bytes_eq cs k (count_of k cs + 1) ≡ one_more k cs
        → (if t then (c.0, over (λ n. n) 0 (cond t (Some c.1) (lookup (bytes_eq k) cs)) + 1) ∷ cs else c ∷ insert_entry bytes_eq cs k (over (λ n. n) 0 (cond t (Some c.1) (lookup (bytes_eq k) cs)) + 1))
        ≡ (if t then (c.0, c.1 + 1) ∷ cs else c ∷ one_more k cs)
    at true h = refl
    at false h = ap (λ rest. c ∷ rest) h
