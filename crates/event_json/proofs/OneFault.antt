-- A text has one value and no fault, and bytes have one fault at most.
use Rattle.std.proofs.Common.{◌≡◌, ◌≢◌, ◌↔◌, ℕ, suc, ◌<◌, ◌≤◌, inl, inr, max, List, ◌++◌, length, take, drop, Ok, refl, sym, ap, subst, ◌∙◌, arith, append_assoc}
use Rattle.std.proofs.lemmas.List.{take-append-drop, take-take}
use Rattle.std.proofs.lemmas.Bool.{cases_order}
use Rattle.std.specs.Str.{IsUtf8, IsValidUpTo}
use Rattle.event_tree.specs.declared.value.Value.{Value}
use Rattle.event_json.specs.JsonValues.{JsonWithin, Json, IsFront, IsFrontWithin, StopsAt, PassesAt}
use Rattle.event_json.specs.Reading.{read}
use Rattle.event_json.proofs.Whole.{read_found, read_each}
use Rattle.event_json.specs.declared.fault.JsonFault.{JsonFault}
use Rattle.event_json.specs.declared.fault.JsonFault.TheVariants.{NotUtf8, At, Deep, Memory}
use Rattle.event_json.specs.Faults.{IsFault}
use Rattle.event_json.proofs.Answered.{same_ok}

widened : (levels more : ℕ) (bytes : List ℕ) (d : Value) → levels ≤ more → JsonWithin levels bytes d → JsonWithin more bytes d
widened levels more bytes d le j = (j.0, j.1, omega (arith, le, j.2), j.3, j.4, j.5)

pub one_value : (levels more : ℕ) (bytes : List ℕ) (d e : Value) → JsonWithin levels bytes d → JsonWithin more bytes e → d ≡ e
one_value levels more bytes d e j k =
    let most = max levels more in
    same_ok d e (sym (read_each most bytes d (widened levels most bytes d (omega arith) j)) ∙ read_each most bytes e (widened more most bytes e (omega arith) k))

pub computed : (levels : ℕ) (bytes : List ℕ) (d : Value) → IsUtf8 bytes → (read levels bytes ≡ Ok d) ↔ JsonWithin levels bytes d
computed levels bytes d u = (read_found levels bytes d u, read_each levels bytes d)

-- what begins the front of a text begins the text
shorter : (levels : ℕ) (bytes : List ℕ) (i j : ℕ) → i ≤ j → IsFrontWithin levels (take j bytes) → IsFrontWithin levels (take i bytes)
shorter levels bytes i j le f =
    let front : take i (take j bytes) ≡ take i bytes = take-take i j bytes le in
    let whole : take j bytes ++ f.0 ≡ take i bytes ++ (drop i (take j bytes) ++ f.0) =
    ap (λ l. l ++ f.0) (sym (take-append-drop i (take j bytes)) ∙ ap (λ l. l ++ drop i (take j bytes)) front) ∙ append_assoc (take i bytes) (drop i (take j bytes)) f.0 in
    (drop i (take j bytes) ++ f.0, f.1, subst (λ l. JsonWithin levels l f.1) whole f.2)

any_levels : (levels : ℕ) (bytes : List ℕ) → IsFrontWithin levels bytes → IsFront bytes
any_levels levels bytes f = (f.0, f.1, (levels, f.2))

whole_front : (levels : ℕ) (bytes : List ℕ) (d : Value) (i : ℕ) → JsonWithin levels bytes d → IsFrontWithin levels (take i bytes)
whole_front levels bytes d i j = (drop i bytes, d, subst (λ l. JsonWithin levels l d) (sym (take-append-drop i bytes)) j)

module _ (levels : ℕ) (bytes : List ℕ) where
  no_stop : (d : Value) (k : ℕ) → JsonWithin levels bytes d → StopsAt levels bytes k → ⊥
  no_stop d k j s = elim (cases_order k (length bytes)) [
    | inl same ↦ s.3 same d (levels, j)
    | inr (inl less) ↦ s.2 less (any_levels levels _ (whole_front levels bytes d (suc k) j))
    | inr (inr more) ↦ absurd (omega (arith, more, s.0))
  ]

  no_pass : (d : Value) (k : ℕ) → JsonWithin levels bytes d → PassesAt levels bytes k → ⊥
  no_pass d k j p = p.3 (whole_front levels bytes d (suc k) j)

  stop_before : (k j : ℕ) → k < j → StopsAt levels bytes k → IsFrontWithin levels (take j bytes) → j ≤ length bytes → ⊥
  stop_before k j less s f within = s.2 (omega (arith, less, within)) (any_levels levels _ (shorter levels bytes (suc k) j (omega (arith, less)) f))

  pass_before : (k j : ℕ) → k < j → PassesAt levels bytes k → IsFrontWithin levels (take j bytes) → ⊥
  pass_before k j less p f = p.3 (shorter levels bytes (suc k) j (omega (arith, less)) f)

  one_stop : (k j : ℕ) → StopsAt levels bytes k → StopsAt levels bytes j → k ≡ j
  one_stop k j s t = elim (cases_order k j) [
    | inl same ↦ same
    | inr (inl less) ↦ absurd (stop_before k j less s t.1 t.0)
    | inr (inr more) ↦ absurd (stop_before j k more t s.1 s.0)
  ]

  one_pass : (k j : ℕ) → PassesAt levels bytes k → PassesAt levels bytes j → k ≡ j
  one_pass k j p q = elim (cases_order k j) [
    | inl same ↦ same
    | inr (inl less) ↦ absurd (pass_before k j less p q.1)
    | inr (inr more) ↦ absurd (pass_before j k more q p.1)
  ]

  not_both : (k j : ℕ) → StopsAt levels bytes k → PassesAt levels bytes j → ⊥
  not_both k j s p = elim (cases_order k j) [
    | inl same ↦ s.2 (omega (arith, same, p.0)) (subst (λ i. IsFront (take (suc i) bytes)) (sym same) p.2)
    | inr (inl less) ↦ stop_before k j less s p.1 (omega (arith, p.0))
    | inr (inr more) ↦ pass_before j k more p s.1
  ]

  one_end : (k j : ℕ) → IsValidUpTo bytes k → IsValidUpTo bytes j → k ≡ j
  one_end k j v w = elim (cases_order k j) [
    | inl same ↦ same
    | inr (inl less) ↦ absurd (v.longest j less w.front)
    | inr (inr more) ↦ absurd (w.longest k more v.front)
  ]

  pub no_fault_of_text : (d : Value) (fault : JsonFault) → fault ≢ Memory → JsonWithin levels bytes d → IsFault levels bytes fault → ⊥
  no_fault_of_text d (NotUtf8 k) some j f = f.1 j.5
  no_fault_of_text d (At k) some j f = no_stop d k j f.1
  no_fault_of_text d (Deep k) some j f = no_pass d k j f.1
  no_fault_of_text d Memory some j f = some refl

  pub one_fault : (fault other : JsonFault) → fault ≢ Memory → other ≢ Memory → IsFault levels bytes fault → IsFault levels bytes other → fault ≡ other
  one_fault Memory other some more f g = absurd (some refl)
  one_fault fault Memory some more f g = absurd (more refl)
  one_fault (NotUtf8 k) (NotUtf8 j) some more f g = ap NotUtf8 (one_end k j f.0 g.0)
  one_fault (NotUtf8 k) (At j) some more f g = absurd (f.1 g.0)
  one_fault (NotUtf8 k) (Deep j) some more f g = absurd (f.1 g.0)
  one_fault (At k) (NotUtf8 j) some more f g = absurd (g.1 f.0)
  one_fault (At k) (At j) some more f g = ap At (one_stop k j f.1 g.1)
  one_fault (At k) (Deep j) some more f g = absurd (not_both k j f.1 g.1)
  one_fault (Deep k) (NotUtf8 j) some more f g = absurd (g.1 f.0)
  one_fault (Deep k) (At j) some more f g = absurd (not_both j k g.1 f.1)
  one_fault (Deep k) (Deep j) some more f g = ap Deep (one_pass k j f.1 g.1)
