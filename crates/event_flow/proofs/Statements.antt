-- What statements and arms are, one equation for each.
use Rattle.std.proofs.Common.{◌≡◌, List, map, sym, ap, ◌∙◌}
use Rattle.config_tree.specs.declared.tree.Statement.TheOpen.{Statement-F}
use Rattle.config_tree.specs.declared.tree.Statement.TheFolds.{fold-Statement, fold-roll-Statement, fold_out-Arm}
use Rattle.config_tree.specs.declared.tree.Statement.TheVariants as s
use Rattle.config_tree.specs.declared.tree.Arm.{Arm}
use Rattle.config_tree.specs.declared.tree.Plugin.{Plugin}
use Rattle.event_flow.specs.Parts.{Part, one_plugin, parts_of, arm, branch, arm_step, statement_step, part_of, arm_of}

abbrev Arms : Type 0
Arms = Part → Part

pub part_of-Plugin : (p : Plugin) → part_of (s.Plugin p) ≡ one_plugin p
unfolding part_of
part_of-Plugin p = ap (fold-Statement Part Arms statement_step arm_step) (sym (s.rolls-Plugin p)) ∙ fold-roll-Statement Part Arms statement_step arm_step (Statement-F.Plugin p)

pub part_of-Branch : (arms : List Arm) → part_of (s.Branch arms) ≡ branch (map arm_of arms)
unfolding part_of arm_of
part_of-Branch arms = ap (fold-Statement Part Arms statement_step arm_step) (sym (s.rolls-Branch arms)) ∙ fold-roll-Statement Part Arms statement_step arm_step (Statement-F.Branch arms)

pub arm_of-is : (a : Arm) (rest : Part) → arm_of a rest ≡ arm a.condition (parts_of a.block) rest
unfolding part_of arm_of
arm_of-is a rest = ap (λ f. f rest) (fold_out-Arm Part Arms statement_step arm_step a)
