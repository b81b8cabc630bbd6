-- What stands in statements and arms, and how it is checked part by part.
use Rattle.std.proofs.Common.{◌≡◌, List, [], ◌∷◌, ◌++◌, map, refl, sym, ap, ◌∙◌, Option, Some, None, Ok, Err}
use Rattle.config_tree.specs.declared.tree.Statement.TheOpen.{Statement-F}
use Rattle.config_tree.specs.declared.tree.Statement.TheFolds.{fold-Statement, fold-roll-Statement, fold_out-Arm}
use Rattle.config_tree.specs.declared.tree.Statement.TheVariants as s
use Rattle.config_tree.specs.declared.tree.Arm.{Arm}
use Rattle.config_tree.specs.declared.tree.Condition.{Condition}
use Rattle.config_tree.specs.declared.tree.Plugin.{Plugin}
use Rattle.graph_checks.specs.Answers.{Checked, next, all_checked}
use Rattle.graph_checks.specs.Boxes.{Stand}
use Rattle.graph_checks.specs.Plugins.{plugin_checked, arm_checked, point_checked, points_checked}
use Rattle.graph_checks.specs.Points.{Point, Plugs, joined, condition_points, statement_step, arm_step, points_in, points_in_arm, points_of, points_of_arms}
use Rattle.foreign_parts.specs.declared.boxes.BoxKind.{BoxKind}
use Rattle.graph_checks.specs.declared.walk.Walk.{Walk}
use Rattle.graph_checks.proofs.Going.{next_ok, checked_join}

abbrev Ps : Type 0
Ps = List Point

pub points_in-Plugin : (p : Plugin) → points_in (s.Plugin p) ≡ Plugs p ∷ []
unfolding points_in
points_in-Plugin p = ap (fold-Statement Ps Ps statement_step arm_step) (sym (s.rolls-Plugin p)) ∙ fold-roll-Statement Ps Ps statement_step arm_step (Statement-F.Plugin p)

pub points_in-Branch : (arms : List Arm) → points_in (s.Branch arms) ≡ points_of_arms arms
unfolding points_in points_in_arm
points_in-Branch arms = ap (fold-Statement Ps Ps statement_step arm_step) (sym (s.rolls-Branch arms)) ∙ fold-roll-Statement Ps Ps statement_step arm_step (Statement-F.Branch arms)

pub points_in_arm-is : (a : Arm) → points_in_arm a ≡ condition_points a.condition ++ points_of a.block
unfolding points_in points_in_arm
points_in_arm-is a = fold_out-Arm Ps Ps statement_step arm_step a

module _ (which : BoxKind) (stand : Stand) where
  -- of items that have points each, one item after another
  pub each_checked : {X : Type 0} (f : X → List Point) (xs : List X) (w : Walk) → points_checked which stand (joined (map f xs)) w ≡ all_checked (λ x. points_checked which stand (f x)) xs w
  each_checked f [] w = refl
  each_checked f (x ∷ xs) w = checked_join (point_checked which stand) (f x) (joined (map f xs)) w ∙ at (points_checked which stand (f x) w) (each_checked f xs)
    where
      at : (m : Checked Walk) → ((v : Walk) → points_checked which stand (joined (map f xs)) v ≡ all_checked (λ x. points_checked which stand (f x)) xs v) → next (points_checked which stand (joined (map f xs))) m ≡ next (all_checked (λ x. points_checked which stand (f x)) xs) m
      at (Ok v) h = h v
      at (Err f) h = refl

  pub plugin_point : (p : Plugin) (w : Walk) → points_checked which stand (points_in (s.Plugin p)) w ≡ plugin_checked which stand p w
  plugin_point p w = ap (λ ps. points_checked which stand ps w) (points_in-Plugin p) ∙ next_ok (plugin_checked which stand p w)

  pub branch_points : (arms : List Arm) (w : Walk) → points_checked which stand (points_in (s.Branch arms)) w ≡ points_checked which stand (points_of_arms arms) w
  branch_points arms w = ap (λ ps. points_checked which stand ps w) (points_in-Branch arms)

  condition_point : (c : Option Condition) (w : Walk) → points_checked which stand (condition_points c) w ≡ arm_checked which c w
  condition_point None w = refl
  condition_point (Some c) w = next_ok (arm_checked which (Some c) w)

  -- an arm: its condition, and then its block
  pub arm_points : (a : Arm) (w : Walk) → points_checked which stand (points_in_arm a) w ≡ next (points_checked which stand (points_of a.block)) (arm_checked which a.condition w)
  arm_points a w =
      ap (λ ps. points_checked which stand ps w) (points_in_arm-is a)
      ∙ checked_join (point_checked which stand) (condition_points a.condition) (points_of a.block) w
      ∙ ap (next (points_checked which stand (points_of a.block))) (condition_point a.condition w)
