-- What a generator gives, event by event.
use Rattle.std.proofs.Common.{◌≡◌, ◌<◌, ◌≤◌, ◌==◌, ◌/◌, ◌&&◌, ◌||◌, ℕ, ℤ, zero, suc, Bool, true, false, not, List, [], ◌∷◌, Some, None, if◌then◌else◌, nat_le, refl, sym, ap, ◌∙◌, arith}
use Rattle.std.proofs.Math.Nat.{div-mul-le_self, mul-le-mul_right}
use Rattle.std.proofs.lemmas.Bool.{false≢true, le-leb, leb-true}
use Rattle.std.proofs.lemmas.Nat.{le-div}
use Rattle.std.proofs.lemmas.Option.{none-some}
use Rattle.event_tree.specs.Events.{Ev}
use Rattle.in_lines.specs.Generators.{event_at, events_from, gave_all, generated, last_number, line_at, progress_at, progress_behind, width}
use Rattle.in_lines.specs.Samples.{sample_line}
use Rattle.in_lines.specs.declared.generator.GeneratedLines.{GeneratedLines}
use Rattle.in_lines.specs.declared.generator.GeneratedLines.TheVariants.{Sample}
use Rattle.in_lines.specs.declared.generator.Generator.{Generator}

pub no_events : (g : Generator) (moment : ℤ) (k : ℕ) → events_from g moment k 0 ≡ []
unfolding events_from
no_events g moment k = refl

pub next_event : (g : Generator) (moment : ℤ) (k n : ℕ) → events_from g moment k (suc n) ≡ (if gave_all g k then [] else generated g moment k ∷ events_from g moment (suc k) n)
unfolding events_from
next_event g moment k n = refl

positive : (n : ℕ) → (n == 0) ≡ false → 0 < n
positive zero is = absurd (false≢true (sym is))
positive (suc n) is = omega arith

-- once it gave all it gave all
pub gave_more : (g : Generator) (k n : ℕ) → k ≤ n → gave_all g k ≡ true → gave_all g n ≡ true
gave_more g k n less all = by (width g.lines == 0) refl (g.count == 0) all
  where
    w : ℕ
    w = width g.lines

    by : (empty : Bool) → (w == 0) ≡ empty → (endless : Bool) → (empty || (not endless && nat_le g.count (k / w))) ≡ true → (empty || (not endless && nat_le g.count (n / w))) ≡ true
    by true is endless found = refl
    by false is true found = found
    by false is false found =
        let some : 0 < w = positive w is in
        let rounds : g.count ≤ k / w = leb-true g.count (k / w) found in
        let front = div-mul-le_self k w in
        let product = mul-le-mul_right w rounds in
        le-leb g.count (n / w) (le-div g.count n w some (omega (arith, front, product, less)))

module _ (g : Generator) (moment : ℤ) (k : ℕ) where
  -- an event that it gave is the next of those that it gives from there on
  pub gave_one : (n : ℕ) (e : Ev) → Some e ≡ event_at g moment k → events_from g moment k (suc n) ≡ e ∷ events_from g moment (suc k) n
  gave_one n e is = next_event g moment k n ∙ by (gave_all g k) is
    where
      by : (all : Bool) → Some e ≡ (if all then None else Some (generated g moment k)) → (if all then [] else generated g moment k ∷ events_from g moment (suc k) n) ≡ e ∷ events_from g moment (suc k) n
      by true found = absurd (none-some e (sym found))
      by false found = let same : generated g moment k ≡ e = cc in ap (λ x. x ∷ events_from g moment (suc k) n) same

  pub one_behind : (e : Ev) → Some e ≡ event_at g moment k → progress_behind g k ≡ progress_at g.lines (suc k)
  one_behind e is = by (gave_all g k) is
    where
      by : (all : Bool) → Some e ≡ (if all then None else Some (generated g moment k)) → (if all then progress_at g.lines k else progress_at g.lines (suc k)) ≡ progress_at g.lines (suc k)
      by true found = absurd (none-some e (sym found))
      by false found = refl

  -- where it gave none it gave all
  pub none_left : None ≡ event_at g moment k → gave_all g k ≡ true
  none_left is = by (gave_all g k) is
    where
      by : (all : Bool) → None ≡ (if all then None else Some (generated g moment k)) → all ≡ true
      by true found = refl
      by false found = absurd (none-some (generated g moment k) found)

  pub none_more : (n : ℕ) → None ≡ event_at g moment k → events_from g moment k n ≡ []
  none_more zero is = no_events g moment k
  none_more (suc n) is = next_event g moment k n ∙ ap (λ all. if all then [] else generated g moment k ∷ events_from g moment (suc k) n) (none_left is)

  pub none_behind : None ≡ event_at g moment k → progress_behind g k ≡ progress_at g.lines k
  none_behind is = ap (λ all. if all then progress_at g.lines k else progress_at g.lines (suc k)) (none_left is)

-- the line of a sample
pub of_sample : (lines : GeneratedLines) (from at number : ℕ) (text : List ℕ) → lines ≡ Sample from → number ≡ last_number lines (suc at) → text ≡ sample_line number → text ≡ line_at lines at
of_sample lines from at number text is counted made = made ∙ ap sample_line (counted ∙ ap (λ l. last_number l (suc at)) is) ∙ sym (ap (λ l. line_at l at) is)
