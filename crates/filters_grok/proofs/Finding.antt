-- One pattern, or one value, more.
use Rattle.std.proofs.Common.{◌≡◌, ℕ, ◌+◌, ◌<◌, ◌≤◌, List, [], ◌∷◌, length, drop, get_or, slice_get, Some, Bool, true, false, refl, sym, ap, ◌∙◌, append_assoc, append-nil, add-one, arith}
use Rattle.std.specs.Prelude.{◌&&◌, if◌then◌else◌}
use Rattle.std.proofs.lemmas.Option.{slice_get-get_or, get_or_from_slice_get}
use Rattle.event_tree.specs.declared.value.Value.{Value}
use Rattle.event_text.proofs.Going.{front, behind_end}
use Rattle.filters_grok.specs.Searching.{none, and_finds, both, text_finds, pattern_finds, item_finds, values_finds}
use Rattle.grok_patterns.specs.declared.expansion.Expanded.{Expanded}
use Rattle.filters_grok.specs.declared.grok_pattern.Put.{Put}
use Rattle.filters_grok.specs.declared.searching.Finds.{Finds}
use Rattle.filters_grok.specs.declared.searching.SearchOptions.{SearchOptions}

abbrev with : Bool → List Put → Finds
with m ps = record { matched = m; puts = ps }

abbrev joined : Bool → Finds → Finds → Finds
joined ends a b = if ends && a.matched then a else and_finds a b

join_assoc : (e x y z : Bool) (a b c : List Put) → joined e (joined e (with x a) (with y b)) (with z c) ≡ joined e (with x a) (joined e (with y b) (with z c))
join_assoc true true y z a b c = refl
join_assoc true false true z a b c = refl
join_assoc true false false z a b c = ap (with z) (append_assoc a b c)
join_assoc false true y z a b c = ap (with true) (append_assoc a b c)
join_assoc false false true z a b c = ap (with true) (append_assoc a b c)
join_assoc false false false z a b c = ap (with z) (append_assoc a b c)

both_assoc : (how : SearchOptions) (a b c : Finds) → both how (both how a b) c ≡ both how a (both how b c)
both_assoc how a b c = join_assoc how.ends a.matched b.matched c.matched a.puts b.puts c.puts

join_none : (e x : Bool) (a : List Put) → joined e (with x a) none ≡ with x a
join_none true true a = refl
join_none true false a = ap (with false) (append-nil a)
join_none false true a = ap (with true) (append-nil a)
join_none false false a = ap (with false) (append-nil a)

both_none : (how : SearchOptions) (a : Finds) → both how a none ≡ a
both_none how a = join_none how.ends a.matched a.puts

-- where the first match ended it, nothing more is found
pub ended : (how : SearchOptions) (a b : Finds) → (how.ends && a.matched) ≡ true → a ≡ both how a b
ended how a b is = sym (ap (λ t. if t then a else and_finds a b) is)

pub goes_on : (how : SearchOptions) (a b : Finds) → (how.ends && a.matched) ≡ false → and_finds a b ≡ both how a b
goes_on how a b is = sym (ap (λ t. if t then a else and_finds a b) is)

module _ (how : SearchOptions) (ps : List Expanded) (xs : List Value) (i : ℕ) where
  pub values_more : (x : Value) (a a' a0 : Finds) → i < length xs → x ≡ get_or xs i x → both how a (values_finds how ps (drop i xs)) ≡ both how a0 (values_finds how ps xs)
      → a' ≡ both how a (item_finds how ps x) → both how a' (values_finds how ps (drop (i + 1) xs)) ≡ both how a0 (values_finds how ps xs)
  values_more x a a' a0 below is so_far here =
      ap (λ b. both how b (values_finds how ps (drop (i + 1) xs))) here
      ∙ both_assoc how a (item_finds how ps x) (values_finds how ps (drop (i + 1) xs))
      ∙ ap (λ ys. both how a (values_finds how ps ys)) (sym (front xs i x below is)) ∙ so_far

  pub values_end : (a a0 : Finds) → length xs ≤ i → both how a (values_finds how ps (drop i xs)) ≡ both how a0 (values_finds how ps xs) → a ≡ both how a0 (values_finds how ps xs)
  values_end a a0 end so_far = sym (both_none how a) ∙ ap (λ ys. both how a (values_finds how ps ys)) (sym (behind_end xs i end)) ∙ so_far

module _ (how : SearchOptions) (ps : List Expanded) (s : List ℕ) (i : ℕ) where
  -- what was found by the patterns in front, and what the others find
  abbrev pub FoundSoFar : Finds → Finds → Type 0
  FoundSoFar a a0 = both how a (text_finds how i (drop i ps) s) ≡ both how a0 (text_finds how 0 ps s)

  pub patterns_end : (a a0 : Finds) → length ps ≤ i → FoundSoFar a a0 → a ≡ both how a0 (text_finds how 0 ps s)
  patterns_end a a0 end so_far = sym (both_none how a) ∙ ap (λ ys. both how a (text_finds how i ys s)) (sym (behind_end ps i end)) ∙ so_far

-- by the pattern at a place
pub pattern_at : (ps : List Expanded) (i : ℕ) → i < length ps → Expanded
pattern_at [] i below = absurd (omega arith)
pattern_at (p ∷ ps) i below = p

pub patterns_more : (how : SearchOptions) (ps : List Expanded) (s : List ℕ) (i : ℕ) (a a' a0 : Finds) (below : i < length ps) → FoundSoFar how ps s i a a0
    → ((p : Expanded) → slice_get ps i ≡ Some p → a' ≡ both how a (pattern_finds how i p s)) → FoundSoFar how ps s (i + 1) a' a0
patterns_more how ps s i a a' a0 below so_far found =
    let d = pattern_at ps i below in
    let p = get_or ps i d in
    let same : p ≡ get_or ps i p = sym (get_or_from_slice_get ps i p p (slice_get-get_or ps i d below)) in
    ap (λ b. both how b (text_finds how (i + 1) (drop (i + 1) ps) s)) (found p (slice_get-get_or ps i d below))
    ∙ both_assoc how a (pattern_finds how i p s) (text_finds how (i + 1) (drop (i + 1) ps) s)
    ∙ ap (λ n. both how a (both how (pattern_finds how i p s) (text_finds how n (drop (i + 1) ps) s))) (add-one i)
    ∙ ap (λ ys. both how a (text_finds how i ys s)) (sym (front ps i p below same)) ∙ so_far

pub ruleset finding = (values_more, values_end, ended, goes_on)
