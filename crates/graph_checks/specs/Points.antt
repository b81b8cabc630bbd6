-- What stands in a section, in the order of the text: its plugins, and the conditions in front of their blocks.
use Rattle.std.specs.Prelude.{List, [], ◌∷◌, ◌++◌, map, Option, Some, None}
use Rattle.config_tree.specs.declared.tree.Statement.{Statement}
use Rattle.config_tree.specs.declared.tree.Statement.TheOpen.{Statement-F, Arm-F}
use Rattle.config_tree.specs.declared.tree.Statement.TheFolds.{fold-Statement, fold-Arm}
use Rattle.config_tree.specs.declared.tree.Arm.{Arm}
use Rattle.config_tree.specs.declared.tree.Plugin.{Plugin}
use Rattle.config_tree.specs.declared.tree.Condition.{Condition}

pub data Point : Type 0 where
  Plugs : Plugin → Point
  Tests : Condition → Point

abbrev pub joined : List (List Point) → List Point
joined [] = []
joined (ps ∷ rest) = ps ++ joined rest

abbrev pub condition_points : Option Condition → List Point
condition_points None = []
condition_points (Some c) = Tests c ∷ []

abbrev pub statement_step : Statement-F (List Point) (List Point) → List Point
statement_step (Statement-F.Plugin p) = Plugs p ∷ []
statement_step (Statement-F.Branch arms) = joined arms

abbrev pub arm_step : Arm-F (List Point) (List Point) → List Point
arm_step a = condition_points a.condition ++ joined a.block

unfoldable pub points_in : Statement → List Point
points_in = fold-Statement (List Point) (List Point) statement_step arm_step

unfoldable pub points_in_arm : Arm → List Point
points_in_arm = fold-Arm (List Point) (List Point) statement_step arm_step

-- of the statements of a section or of a block, and of the arms of a branch
abbrev pub points_of : List Statement → List Point
points_of ss = joined (map points_in ss)

abbrev pub points_of_arms : List Arm → List Point
points_of_arms arms = joined (map points_in_arm arms)
