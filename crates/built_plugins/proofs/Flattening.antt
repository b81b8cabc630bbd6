-- Statements that are taken apart one by one.
use Rattle.std.proofs.Common.{◌≡◌, List, [], ◌∷◌, ◌++◌, map, sym, ap, ◌∙◌, append_assoc, append-nil, Option, Some, None, Result, Ok, Err, OnOk}
use Rattle.config_tree.specs.declared.tree.Arm.{Arm}
use Rattle.config_tree.specs.declared.tree.Condition.{Condition}
use Rattle.config_tree.specs.declared.tree.Plugin.{Plugin}
use Rattle.config_tree.specs.declared.tree.Statement.{Statement}
use Rattle.config_tree.specs.declared.tree.Statement.TheVariants as statement
use Rattle.event_flow.specs.Parts.{Part, empty, follow, arm, branch, part_of, arm_of, parts_of}
use Rattle.event_flow.proofs.Statements.{part_of-Plugin, part_of-Branch, arm_of-is}
use Rattle.built_plugins.specs.Flats.{with_part, with_condition}
use Rattle.built_plugins.specs.declared.flat.Flat.{Flat}

-- one part behind another
both : (f : Flat) (p q : Part) → with_part (with_part f p) q ≡ with_part f (follow p q)
both f p q = λ i. record { plugins = append_assoc f.plugins p.plugins q.plugins i; conditions = append_assoc f.conditions p.conditions q.conditions i }

nothing_more : (f : Flat) → with_part f empty ≡ f
nothing_more f = λ i. record { plugins = append-nil f.plugins i; conditions = append-nil f.conditions i }

-- what is taken apart, and what is left, is all
module _ (first now : Flat) (all left : List Statement) (so_far : with_part now (parts_of left) ≡ with_part first (parts_of all)) where
  pub next_statement : (new : Flat) (rest : List Statement) (s : Statement) → left ≡ s ∷ rest → new ≡ with_part now (part_of s) → with_part new (parts_of rest) ≡ with_part first (parts_of all)
  next_statement new rest s is here = ap (λ f. with_part f (parts_of rest)) here ∙ both now (part_of s) (parts_of rest) ∙ ap (λ ss. with_part now (parts_of ss)) (sym is) ∙ so_far

  pub last_statement : left ≡ [] → now ≡ with_part first (parts_of all)
  last_statement none = sym (nothing_more now) ∙ ap (λ ss. with_part now (parts_of ss)) (sym none) ∙ so_far

with_arm : (f : Flat) (condition : Option Condition) (p q : Part) → with_part (with_part (with_condition f condition) p) q ≡ with_part f (arm condition p q)
with_arm f None p q = both f p q
with_arm f (Some c) p q = λ i. record {
  plugins = append_assoc f.plugins p.plugins q.plugins i;
  conditions = (append_assoc (f.conditions ++ c ∷ []) p.conditions q.conditions ∙ append_assoc f.conditions (c ∷ []) (p.conditions ++ q.conditions)) i;
}

module _ (first now : Flat) (all left : List Arm) (so_far : with_part now (branch (map arm_of left)) ≡ with_part first (branch (map arm_of all))) where
  pub next_arm : (mid new : Flat) (rest : List Arm) (a : Arm) → left ≡ a ∷ rest → mid ≡ with_condition now a.condition → new ≡ with_part mid (parts_of a.block) → with_part new (branch (map arm_of rest)) ≡ with_part first (branch (map arm_of all))
  next_arm mid new rest a is asked here =
      let q = branch (map arm_of rest) in
      ap (λ f. with_part f q) here ∙ ap (λ f. with_part (with_part f (parts_of a.block)) q) asked ∙ with_arm now a.condition (parts_of a.block) q
      ∙ ap (with_part now) (sym (arm_of-is a q)) ∙ ap (λ xs. with_part now (branch (map arm_of xs))) (sym is) ∙ so_far

  pub last_arm : left ≡ [] → now ≡ with_part first (branch (map arm_of all))
  last_arm none = sym (nothing_more now) ∙ ap (λ xs. with_part now (branch (map arm_of xs))) (sym none) ∙ so_far

module _ {F : Type 0} (r : Result (Unit {0}) F) (old new : Flat) (s : Statement) where
  pub is_plugin : (p : Plugin) → s ≡ statement.Plugin p → OnOk r (new.plugins ≡ old.plugins ++ p ∷ []) → new.conditions ≡ old.conditions → OnOk r (new ≡ with_part old (part_of s))
  is_plugin p is plugins conditions = by r plugins
    where
      by : (x : Result (Unit {0}) F) → OnOk x (new.plugins ≡ old.plugins ++ p ∷ []) → OnOk x (new ≡ with_part old (part_of s))
      by (Ok u) more = (λ i. record { plugins = more i; conditions = (conditions ∙ sym (append-nil old.conditions)) i }) ∙ ap (with_part old) (sym (ap part_of is ∙ part_of-Plugin p))
      by (Err fault) more = tt

  pub is_branch : (arms : List Arm) → s ≡ statement.Branch arms → OnOk r (new ≡ with_part old (branch (map arm_of arms))) → OnOk r (new ≡ with_part old (part_of s))
  is_branch arms is more = by r more
    where
      by : (x : Result (Unit {0}) F) → OnOk x (new ≡ with_part old (branch (map arm_of arms))) → OnOk x (new ≡ with_part old (part_of s))
      by (Ok u) here = here ∙ ap (with_part old) (sym (ap part_of is ∙ part_of-Branch arms))
      by (Err fault) here = tt
