-- The equations of a definition by recursion on values, whatever its step is.
use Rattle.std.proofs.Common.{◌≡◌, ℕ, List, map, Bool, ℤ, sym, ap, ◌∙◌}
use Rattle.event_tree.specs.Number.{Num}
use Rattle.event_tree.specs.Values.{Members, on_values}
use Rattle.event_tree.specs.declared.value.Value.{Value}
use Rattle.event_tree.specs.declared.value.Value.TheOpen.{Value-F}
use Rattle.event_tree.specs.declared.value.Value.TheFolds.{fold-Value, fold-roll-Value}
use Rattle.event_tree.specs.declared.value.Value.TheVariants as v

-- f is the definition with this step
pub record IsFold (X : Type 0) (step : Value-F X → X) (f : Value → X) : Type 0 where
  pub null : f v.Null ≡ step Value-F.Null
  pub bool : (b : Bool) → f (v.Bool b) ≡ step (Value-F.Bool b)
  pub number : (n : Num) → f (v.Num n) ≡ step (Value-F.Num n)
  pub text : (s : List ℕ) → f (v.Text s) ≡ step (Value-F.Text s)
  pub time : (t : ℤ) → f (v.Time t) ≡ step (Value-F.Time t)
  pub list : (vs : List Value) → f (v.List vs) ≡ step (Value-F.List (map f vs))
  pub object : (ms : Members) → f (v.Object ms) ≡ step (Value-F.Object (on_values f ms))

pub fold_is : (X : Type 0) (step : Value-F X → X) → IsFold X step (fold-Value X step)
fold_is X step = record {
  null = ap (fold-Value X step) (sym v.rolls-Null) ∙ fold-roll-Value X step Value-F.Null;
  bool = λ b. ap (fold-Value X step) (sym (v.rolls-Bool b)) ∙ fold-roll-Value X step (Value-F.Bool b);
  number = λ n. ap (fold-Value X step) (sym (v.rolls-Num n)) ∙ fold-roll-Value X step (Value-F.Num n);
  text = λ s. ap (fold-Value X step) (sym (v.rolls-Text s)) ∙ fold-roll-Value X step (Value-F.Text s);
  time = λ t. ap (fold-Value X step) (sym (v.rolls-Time t)) ∙ fold-roll-Value X step (Value-F.Time t);
  list = λ vs. ap (fold-Value X step) (sym (v.rolls-List vs)) ∙ fold-roll-Value X step (Value-F.List vs);
  object = λ ms. ap (fold-Value X step) (sym (v.rolls-Object ms)) ∙ fold-roll-Value X step (Value-F.Object ms);
}
