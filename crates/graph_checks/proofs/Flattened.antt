-- The plugins and the conditions of a section are the same, taken apart as what stands there or as parts.
use Rattle.std.proofs.Common.{◌≡◌, List, [], ◌∷◌, ◌++◌, map, refl, sym, ap, ap₂, subst, ◌∙◌, Option, Some, None}
use Rattle.config_tree.specs.declared.tree.Arm.{Arm, map-Arm, roll-Arm}
use Rattle.config_tree.specs.declared.tree.Condition.{Condition}
use Rattle.config_tree.specs.declared.tree.Plugin.{Plugin}
use Rattle.config_tree.specs.declared.tree.Statement.{Statement, map-Statement, roll-Statement}
use Rattle.config_tree.specs.declared.tree.Statement.TheOpen.{Statement-F, Arm-F}
use Rattle.config_tree.specs.declared.tree.Statement.TheFolds.{ind-Statement}
use Rattle.config_tree.specs.declared.tree.Statement.TheVariants as s
use Rattle.event_flow.specs.Parts.{Part, one_plugin, follow, arm, branch, parts_of, part_of, arm_of}
use Rattle.event_flow.proofs.Statements.{part_of-Plugin, part_of-Branch, arm_of-is}
use Rattle.graph_checks.specs.Points.{Point, Plugs, Tests, condition_points, points_in, points_in_arm, points_of, points_of_arms}
use Rattle.graph_checks.proofs.Pointing.{points_in-Plugin, points_in-Branch, points_in_arm-is}

-- the plugins and the conditions among what stands in a section
abbrev pub plugins_in : List Point → List Plugin
plugins_in [] = []
plugins_in (Plugs p ∷ ps) = p ∷ plugins_in ps
plugins_in (Tests c ∷ ps) = plugins_in ps

abbrev pub conditions_in : List Point → List Condition
conditions_in [] = []
conditions_in (Plugs p ∷ ps) = conditions_in ps
conditions_in (Tests c ∷ ps) = c ∷ conditions_in ps

pub record Alike (ps : List Point) (p : Part) : Type 0 where
  pub plugins : plugins_in ps ≡ p.plugins
  pub conditions : conditions_in ps ≡ p.conditions

plugins_join : (xs ys : List Point) → plugins_in (xs ++ ys) ≡ plugins_in xs ++ plugins_in ys
plugins_join [] ys = refl
plugins_join (Plugs p ∷ xs) ys = ap (λ ps. p ∷ ps) (plugins_join xs ys)
plugins_join (Tests c ∷ xs) ys = plugins_join xs ys

conditions_join : (xs ys : List Point) → conditions_in (xs ++ ys) ≡ conditions_in xs ++ conditions_in ys
conditions_join [] ys = refl
conditions_join (Plugs p ∷ xs) ys = conditions_join xs ys
conditions_join (Tests c ∷ xs) ys = ap (λ cs. c ∷ cs) (conditions_join xs ys)

alike_as : (xs ys : List Point) (p q : Part) → ys ≡ xs → q ≡ p → Alike xs p → Alike ys q
alike_as xs ys p q is same alike = subst (λ r. Alike ys r) (sym same) (subst (λ zs. Alike zs p) (sym is) alike)

alike_follow : (xs ys : List Point) (p q : Part) → Alike xs p → Alike ys q → Alike (xs ++ ys) (follow p q)
alike_follow xs ys p q a b = record {
  plugins = plugins_join xs ys ∙ ap₂ (λ k l. k ++ l) a.plugins b.plugins;
  conditions = conditions_join xs ys ∙ ap₂ (λ k l. k ++ l) a.conditions b.conditions;
}

alike_arm : (o : Option Condition) (xs ys : List Point) (block rest : Part) → Alike xs block → Alike ys rest → Alike ((condition_points o ++ xs) ++ ys) (arm o block rest)
alike_arm None xs ys block rest a b = record {
  plugins = plugins_join xs ys ∙ ap₂ (λ k l. k ++ l) a.plugins b.plugins;
  conditions = conditions_join xs ys ∙ ap₂ (λ k l. k ++ l) a.conditions b.conditions;
}
alike_arm (Some c) xs ys block rest a b = record {
  plugins = plugins_join xs ys ∙ ap₂ (λ k l. k ++ l) a.plugins b.plugins;
  conditions = ap (λ cs. c ∷ cs) (conditions_join xs ys ∙ ap₂ (λ k l. k ++ l) a.conditions b.conditions);
}

abbrev IsAlike : Statement → Type 0
IsAlike x = Alike (points_in x) (part_of x)

abbrev ArmAlike : Arm → Type 0
ArmAlike a = (ys : List Point) (rest : Part) → Alike ys rest → Alike (points_in_arm a ++ ys) (arm_of a rest)

abbrev Statements : Type 0
Statements = (x : Statement) × IsAlike x

abbrev Arms : Type 0
Arms = (a : Arm) × ArmAlike a

all_alike : (es : List Statements) → Alike (points_of (map (λ e. e.0) es)) (parts_of (map (λ e. e.0) es))
all_alike [] = record { plugins = refl; conditions = refl }
all_alike (e ∷ es) = alike_follow (points_in e.0) (points_of (map (λ x. x.0) es)) (part_of e.0) (parts_of (map (λ x. x.0) es)) e.1 (all_alike es)

arms_alike : (es : List Arms) → Alike (points_of_arms (map (λ e. e.0) es)) (branch (map arm_of (map (λ e. e.0) es)))
arms_alike [] = record { plugins = refl; conditions = refl }
arms_alike (e ∷ es) = e.1 (points_of_arms (map (λ x. x.0) es)) (branch (map arm_of (map (λ x. x.0) es))) (arms_alike es)

by_statement : (x : Statement-F Statement Arm) (y : Statement-F Statements Arms) → map-Statement Statements Arms Statement Arm (λ e. e.0) (λ e. e.0) y ≡ x → IsAlike (roll-Statement x)
by_statement x (Statement-F.Plugin p) is =
    subst (λ z. IsAlike (roll-Statement z)) is (subst IsAlike (sym (s.rolls-Plugin p))
    (alike_as (Plugs p ∷ []) (points_in (s.Plugin p)) (one_plugin p) (part_of (s.Plugin p)) (points_in-Plugin p) (part_of-Plugin p) (record { plugins = refl; conditions = refl })))
by_statement x (Statement-F.Branch es) is =
    let arms : List Arm = map (λ e. e.0) es in
    subst (λ z. IsAlike (roll-Statement z)) is (subst IsAlike (sym (s.rolls-Branch arms))
    (alike_as (points_of_arms arms) (points_in (s.Branch arms)) (branch (map arm_of arms)) (part_of (s.Branch arms)) (points_in-Branch arms) (part_of-Branch arms) (arms_alike es)))

by_arm : (x : Arm-F Statement Arm) (y : Arm-F Statements Arms) → map-Arm Statements Arms Statement Arm (λ e. e.0) (λ e. e.0) y ≡ x → ArmAlike (roll-Arm x)
by_arm x y is = subst (λ z. ArmAlike (roll-Arm z)) is λ ys rest a.
    let b = roll-Arm (map-Arm Statements Arms Statement Arm (λ e. e.0) (λ e. e.0) y) in
    alike_as ((condition_points b.condition ++ points_of b.block) ++ ys) (points_in_arm b ++ ys) (arm b.condition (parts_of b.block) rest) (arm_of b rest)
    (ap (λ zs. zs ++ ys) (points_in_arm-is b)) (arm_of-is b rest) (alike_arm b.condition (points_of b.block) ys (parts_of b.block) rest (all_alike y.block) a)

is_alike : (x : Statement) → IsAlike x
is_alike = ind-Statement IsAlike ArmAlike by_statement by_arm

-- of statements
pub alike : (xs : List Statement) → Alike (points_of xs) (parts_of xs)
alike [] = record { plugins = refl; conditions = refl }
alike (x ∷ xs) = alike_follow (points_in x) (points_of xs) (part_of x) (parts_of xs) (is_alike x) (alike xs)
