-- How many boxes of a name are wanted, and that as many are left.
use Rattle.std.specs.Prelude.{bytes_eq, if◌then◌else◌, nat_lt, flat_map, replicate}
use Rattle.std.specs.Map.{lookup}
use Rattle.std.proofs.lemmas.Bool.{ltb-false}
use Rattle.std.proofs.lemmas.List.{map-append}
use Rattle.std.proofs.lemmas.Slice.Eq.{bytes_eq-Decides}
use Rattle.std.proofs.Common.{◌≡◌, ◌≤◌, ℕ, zero, suc, ◌+◌, ◌*◌, List, [], ◌∷◌, ◌++◌, length, map, refl, sym, ap, subst, ◌∙◌, arith, rules, Bool, true, false, cond, Some, None, Ok, Err}
use Rattle.event_tree.specs.Paths.{over}
use Rattle.foreign_parts.specs.Stocks.{left_of}
use Rattle.graph_checks.specs.Answers.{Checked, next}
use Rattle.graph_checks.specs.Boxes.{Stand, Counts, count_of, one_more}
use Rattle.graph_checks.specs.Wants.{times_of}
use Rattle.graph_checks.specs.Whole.{spare_checked, spares_checked}
use Rattle.graph_checks.specs.declared.fault.GraphFault.{GraphFault}
use Rattle.graph_checks.specs.declared.fault.GraphFault.TheVariants as fault

-- once, where it is this name
abbrev once : Bool → ℕ
once b = if b then 1 else 0

times_both : (k : List ℕ) (xs ys : List (List ℕ)) → times_of k (xs ++ ys) ≡ times_of k xs + times_of k ys
times_both k [] ys = omega arith
times_both k (x ∷ xs) ys = omega (arith, times_both k xs ys)

-- a name behind others
pub times_behind : (k : List ℕ) (xs : List (List ℕ)) (x : List ℕ) → times_of k (xs ++ x ∷ []) ≡ times_of k xs + once (bytes_eq k x)
times_behind k xs x = omega (arith, times_both k xs (x ∷ []))

module _ {W : Type 0} (name : W → List ℕ) (k : List ℕ) where
  times_same : (n : ℕ) (w : W) → times_of k (map name (replicate n w)) ≡ once (bytes_eq k (name w)) * n
  times_same zero w = omega arith
  times_same (suc n) w = omega (arith, times_same n w)

  -- each so often
  pub times_each : (n : ℕ) (ws : List W) → times_of k (map name (flat_map (replicate n) ws)) ≡ times_of k (map name ws) * n
  times_each n [] = omega arith
  times_each n (w ∷ ws) =
      ap (times_of k) (map-append name (replicate n w) (flat_map (replicate n) ws))
      ∙ times_both k (map name (replicate n w)) (map name (flat_map (replicate n) ws))
      ∙ omega (arith, times_same n w, times_each n ws)

more_case : (b t : Bool) (j k : List ℕ) (c : List ℕ × ℕ) (cs : Counts) → bytes_eq k c.0 ≡ b → bytes_eq j c.0 ≡ t → count_of j (one_more k cs) ≡ count_of j cs + once (bytes_eq j k)
    → count_of j (if b then (c.0, c.1 + 1) ∷ cs else c ∷ one_more k cs) ≡ count_of j (c ∷ cs) + once (bytes_eq j k)
more_case true true j k c cs is here more =
    let same : bytes_eq j k ≡ true = subst (λ x. bytes_eq j x ≡ true) (sym ((bytes_eq-Decides k c.0).0 is)) here in
    ap (λ t. over (λ m. m) 0 (cond t (Some (c.1 + 1)) (lookup (bytes_eq j) cs))) here ∙ ap (λ t. c.1 + once t) (sym same) ∙ ap (λ t. over (λ m. m) 0 (cond t (Some c.1) (lookup (bytes_eq j) cs)) + once (bytes_eq j k)) (sym here)
more_case true false j k c cs is here more =
    let apart : bytes_eq j k ≡ false = subst (λ x. bytes_eq j x ≡ false) (sym ((bytes_eq-Decides k c.0).0 is)) here in
    ap (λ t. over (λ m. m) 0 (cond t (Some (c.1 + 1)) (lookup (bytes_eq j) cs))) here
    ∙ omega (arith, ap once apart) ∙ ap (λ t. over (λ m. m) 0 (cond t (Some c.1) (lookup (bytes_eq j) cs)) + once (bytes_eq j k)) (sym here)
more_case false true j k c cs is here more =
    let apart : bytes_eq j k ≡ false = search (rules, bytes_eq-Decides) in
    ap (λ t. over (λ m. m) 0 (cond t (Some c.1) (lookup (bytes_eq j) (one_more k cs)))) here
    ∙ omega (arith, ap once apart) ∙ ap (λ t. over (λ m. m) 0 (cond t (Some c.1) (lookup (bytes_eq j) cs)) + once (bytes_eq j k)) (sym here)
more_case false false j k c cs is here more =
    ap (λ t. over (λ m. m) 0 (cond t (Some c.1) (lookup (bytes_eq j) (one_more k cs)))) here ∙ more
    ∙ ap (λ t. over (λ m. m) 0 (cond t (Some c.1) (lookup (bytes_eq j) cs)) + once (bytes_eq j k)) (sym here)

none_case : (b : Bool) → over (λ m. m) 0 (cond b (Some 1) None) ≡ 0 + once b
none_case true = refl
none_case false = refl

-- one more of a name is counted
pub counted_more : (j k : List ℕ) (cs : Counts) → count_of j (one_more k cs) ≡ count_of j cs + once (bytes_eq j k)
counted_more j k [] = none_case (bytes_eq j k)
counted_more j k (c ∷ cs) = more_case (bytes_eq k c.0) (bytes_eq j c.0) j k c cs refl refl (counted_more j k cs)

abbrev Fails : {A : Type 0} → Checked A → Type 0
Fails (Ok x) = ⊥
Fails (Err fault) = Unit {0}

enough_case : (b : Bool) (f : GraphFault) (a wanted : ℕ) → nat_lt a wanted ≡ b → ◌≡◌ {A = Checked (Unit {0})} (if b then Err f else Ok tt) (Ok tt) → wanted ≤ a
enough_case true f a wanted is said = absurd (subst Fails said tt)
enough_case false f a wanted is said = omega (arith, ltb-false a wanted is)

-- where no name is short of boxes, none of them is wanted more often than it is left
short_case : (b : Bool) (stand : Stand) (each : ℕ) (k : List ℕ) (c : List ℕ × ℕ) (cs : Counts) → bytes_eq k c.0 ≡ b → c.1 * each ≤ length (left_of c.0 stand.stocks) → count_of k cs * each ≤ length (left_of k stand.stocks)
    → count_of k (c ∷ cs) * each ≤ length (left_of k stand.stocks)
short_case true stand each k c cs is here more =
    subst (λ t. over (λ n. n) 0 (cond t (Some c.1) (lookup (bytes_eq k) cs)) * each ≤ length (left_of k stand.stocks)) (sym is)
    (subst (λ x. c.1 * each ≤ length (left_of x stand.stocks)) (sym ((bytes_eq-Decides k c.0).0 is)) here)
short_case false stand each k c cs is here more = subst (λ t. over (λ n. n) 0 (cond t (Some c.1) (lookup (bytes_eq k) cs)) * each ≤ length (left_of k stand.stocks)) (sym is) more

pub never_short : (stand : Stand) (each : ℕ) (cs : Counts) → spares_checked stand each cs ≡ Ok tt → (k : List ℕ) → count_of k cs * each ≤ length (left_of k stand.stocks)
never_short stand each [] said k = omega arith
never_short stand each (c ∷ cs) said k =
    let both = by (spare_checked stand c.0 (c.1 * each)) refl said in
    short_case (bytes_eq k c.0) stand each k c cs refl (enough_case (nat_lt (length (left_of c.0 stand.stocks)) (c.1 * each)) (fault.NoSpare c.0 (c.1 * each) (length (left_of c.0 stand.stocks))) (length (left_of c.0 stand.stocks)) (c.1 * each) refl both.0) (never_short stand each cs both.1 k)
  where
    by : (m : Checked (Unit {0})) → spare_checked stand c.0 (c.1 * each) ≡ m → next (λ u. spares_checked stand each cs) m ≡ Ok tt → (spare_checked stand c.0 (c.1 * each) ≡ Ok tt) × (spares_checked stand each cs ≡ Ok tt)
    by (Ok u) is whole = (is, whole)
    by (Err fault) is whole = absurd (subst Fails whole tt)
