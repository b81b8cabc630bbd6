-- What a value is, by its variant.
use Rattle.std.proofs.Common.{◌≡◌, ℕ, List, Bool, ℤ, sym, ◌∙◌}
use Rattle.event_tree.specs.Number.{Num}
use Rattle.event_tree.specs.Values.{Members}
use Rattle.event_tree.specs.declared.value.Value.{Value, out-Value, roll-Value, roll-out-Value}
use Rattle.event_tree.specs.declared.value.Value.TheOpen.{Value-F}
use Rattle.event_tree.specs.declared.value.Value.TheVariants as v

pub data Shape (d : Value) : Type 0 where
  is_null : d ≡ v.Null → Shape d
  is_bool : (b : Bool) → d ≡ v.Bool b → Shape d
  is_number : (n : Num) → d ≡ v.Num n → Shape d
  is_text : (s : List ℕ) → d ≡ v.Text s → Shape d
  is_time : (t : ℤ) → d ≡ v.Time t → Shape d
  is_list : (vs : List Value) → d ≡ v.List vs → Shape d
  is_object : (ms : Members) → d ≡ v.Object ms → Shape d

shape_in : (d : Value) (f : Value-F Value) → d ≡ roll-Value f → Shape d
shape_in d Value-F.Null e = is_null (e ∙ v.rolls-Null)
shape_in d (Value-F.Bool b) e = is_bool b (e ∙ v.rolls-Bool b)
shape_in d (Value-F.Num n) e = is_number n (e ∙ v.rolls-Num n)
shape_in d (Value-F.Text s) e = is_text s (e ∙ v.rolls-Text s)
shape_in d (Value-F.Time t) e = is_time t (e ∙ v.rolls-Time t)
shape_in d (Value-F.List vs) e = is_list vs (e ∙ v.rolls-List vs)
shape_in d (Value-F.Object ms) e = is_object ms (e ∙ v.rolls-Object ms)

pub shape_of : (d : Value) → Shape d
shape_of d = shape_in d (out-Value d) (sym (roll-out-Value d))
