-- How deep values nest.
use Rattle.std.specs.Prelude.{ℕ, suc, max, List, [], ◌∷◌, map}
use Rattle.event_tree.specs.declared.value.Value.{Value}
use Rattle.event_tree.specs.declared.value.Value.TheOpen.{Value-F}
use Rattle.event_tree.specs.declared.value.Value.TheFolds.{fold-Value}

-- what an object has: keys with their values
abbrev pub Members : Type 0
Members = List (List ℕ × Value)

-- the members, with f of each value
abbrev pub on_values : {A B : Type 0} → (A → B) → List (List ℕ × A) → List (List ℕ × B)
on_values f ms = map (λ m. (m.0, f m.1)) ms

abbrev pub greatest : List ℕ → ℕ
greatest [] = 0
greatest (n ∷ ns) = max n (greatest ns)

abbrev pub greatest_member : List (List ℕ × ℕ) → ℕ
greatest_member [] = 0
greatest_member (m ∷ ms) = max m.1 (greatest_member ms)

-- a list or an object is one level deeper than what it has
abbrev pub depth_step : Value-F ℕ → ℕ
depth_step Value-F.Null = 0
depth_step (Value-F.Bool b) = 0
depth_step (Value-F.Num n) = 0
depth_step (Value-F.Text s) = 0
depth_step (Value-F.Time t) = 0
depth_step (Value-F.List ns) = suc (greatest ns)
depth_step (Value-F.Object ms) = suc (greatest_member ms)

unfoldable pub depth : Value → ℕ
depth = fold-Value ℕ depth_step

abbrev pub items_depth : List Value → ℕ
items_depth vs = greatest (map depth vs)

abbrev pub members_depth : Members → ℕ
members_depth ms = greatest_member (on_values depth ms)
