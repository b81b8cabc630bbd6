-- What becomes of an event that meets the statements of a section, one after another in the order of the text.
use Rattle.std.specs.Prelude.{ℕ, ◌+◌, List, [], ◌∷◌, ◌++◌, length, map, Option, Some, None}
use Rattle.config_tree.specs.declared.tree.Statement.{Statement}
use Rattle.config_tree.specs.declared.tree.Statement.TheOpen.{Statement-F, Arm-F}
use Rattle.config_tree.specs.declared.tree.Statement.TheFolds.{fold-Statement, fold-Arm}
use Rattle.config_tree.specs.declared.tree.Arm.{Arm}
use Rattle.config_tree.specs.declared.tree.Plugin.{Plugin}
use Rattle.config_tree.specs.declared.tree.Condition.{Condition}
use Rattle.condition_eval.specs.Truths.{truth}
use Rattle.event_flow.specs.Flows.{Goes, led}

-- a section: what becomes of an event that meets its k-th plugin and then goes on, and the id of its k-th condition, both counted from 1
pub record Section : Type 0 where
  pub meets : ℕ → Plugin → Goes → Goes
  pub condition_id : ℕ → List ℕ

-- Statements in a row: their plugins and their conditions in the order of the text, and what becomes of an event that meets them and then goes on.
-- The numbers are those of the first plugin and of the first condition among them.
pub record Part : Type 0 where
  pub plugins : List Plugin
  pub conditions : List Condition
  pub flow : Section → ℕ → ℕ → Goes → Goes

abbrev pub empty : Part
empty = record { plugins = []; conditions = []; flow = λ section n t goes. goes }

abbrev pub one_plugin : Plugin → Part
one_plugin p = record { plugins = p ∷ []; conditions = []; flow = λ section n t goes. section.meets n p goes }

-- one part, and then another
abbrev pub follow : Part → Part → Part
follow p q = record {
  plugins = p.plugins ++ q.plugins;
  conditions = p.conditions ++ q.conditions;
  flow = λ section n t goes. p.flow section n t (q.flow section (n + length p.plugins) (t + length p.conditions) goes);
}

abbrev pub all_of : List Part → Part
all_of [] = empty
all_of (p ∷ ps) = follow p (all_of ps)

-- `if`, or `else if`: where the condition is Yes the block takes the event, and where it is No the arms behind it do
abbrev pub arm_if : Condition → Part → Part → Part
arm_if c block rest = record {
  plugins = block.plugins ++ rest.plugins;
  conditions = c ∷ block.conditions ++ rest.conditions;
  flow = λ section n t goes e. led (section.condition_id t) (truth c e)
      (block.flow section n (t + 1) goes)
      (rest.flow section (n + length block.plugins) (t + 1 + length block.conditions) goes) e;
}

-- `else`: the block takes each event that comes here. No arm stands behind it in a text.
abbrev pub arm_else : Part → Part → Part
arm_else block rest = record {
  plugins = block.plugins ++ rest.plugins;
  conditions = block.conditions ++ rest.conditions;
  flow = λ section n t goes. block.flow section n t goes;
}

-- an arm, in front of the arms behind it
abbrev pub arm : Option Condition → Part → Part → Part
arm None block rest = arm_else block rest
arm (Some c) block rest = arm_if c block rest

-- The arms of a branch. An event that none of them takes goes on behind the branch.
abbrev pub branch : List (Part → Part) → Part
branch [] = empty
branch (a ∷ more) = a (branch more)

abbrev pub statement_step : Statement-F Part (Part → Part) → Part
statement_step (Statement-F.Plugin p) = one_plugin p
statement_step (Statement-F.Branch arms) = branch arms

abbrev pub arm_step : Arm-F Part (Part → Part) → Part → Part
arm_step a rest = arm a.condition (all_of a.block) rest

unfoldable pub part_of : Statement → Part
part_of = fold-Statement Part (Part → Part) statement_step arm_step

unfoldable pub arm_of : Arm → Part → Part
arm_of = fold-Arm Part (Part → Part) statement_step arm_step

-- the statements of a section or of a block
abbrev pub parts_of : List Statement → Part
parts_of ss = all_of (map part_of ss)
