-- The equations of depth, and that what a value has is less deep: the measure of recursions over values.
use Rattle.std.proofs.Common.{◌≡◌, ℕ, zero, suc, ◌+◌, ◌<◌, ◌≤◌, List, [], ◌∷◌, length, Bool, ℤ, sym, subst, ◌*◌, arith, get_or}
use Rattle.event_tree.specs.Number.{Num}
use Rattle.event_tree.specs.Values.{Members, depth, depth_step, items_depth, members_depth}
use Rattle.event_tree.specs.declared.value.Value.{Value}
use Rattle.event_tree.specs.declared.value.Value.TheVariants as v
use Rattle.event_tree.proofs.Folds.{IsFold, fold_is}

depth_equations : IsFold ℕ depth_step depth
unfolding depth
depth_equations = fold_is ℕ depth_step

pub depth-Null : depth v.Null ≡ 0
depth-Null = depth_equations.null

pub depth-Bool : (b : Bool) → depth (v.Bool b) ≡ 0
depth-Bool b = depth_equations.bool b

pub depth-Num : (n : Num) → depth (v.Num n) ≡ 0
depth-Num n = depth_equations.number n

pub depth-Text : (s : List ℕ) → depth (v.Text s) ≡ 0
depth-Text s = depth_equations.text s

pub depth-Time : (t : ℤ) → depth (v.Time t) ≡ 0
depth-Time t = depth_equations.time t

pub ruleset flat = (depth-Null, depth-Bool, depth-Num, depth-Text, depth-Time)

pub depth-List : (vs : List Value) → depth (v.List vs) ≡ suc (items_depth vs)
depth-List vs = depth_equations.list vs

pub depth-Object : (ms : Members) → depth (v.Object ms) ≡ suc (members_depth ms)
depth-Object ms = depth_equations.object ms

pub depth_item : (vs : List Value) (i : ℕ) (d : Value) → i < length vs → depth (get_or vs i d) ≤ items_depth vs
depth_item [] i d h = absurd (omega arith)
depth_item (x ∷ vs) zero d h = omega arith
depth_item (x ∷ vs) (suc i) d h = omega (arith, depth_item vs i d (omega arith))

pub depth_member : (ms : Members) (i : ℕ) (m : List ℕ × Value) → i < length ms → depth (get_or ms i m).1 ≤ members_depth ms
depth_member [] i m h = absurd (omega arith)
depth_member (x ∷ ms) zero m h = omega arith
depth_member (x ∷ ms) (suc i) m h = omega (arith, depth_member ms i m (omega arith))

pub falls_member : (ms : Members) (i : ℕ) (m : List ℕ × Value) → m ≡ get_or ms i m → i < length ms → 2 * depth m.1 < 2 * members_depth ms + 1
falls_member ms i m e h = let k : depth m.1 ≤ members_depth ms = subst (λ x. depth x.1 ≤ members_depth ms) (sym e) (depth_member ms i m h) in omega (arith, k)

pub ruleset falls = (depth-List, depth-Object, depth_item, depth_member, falls_member)
