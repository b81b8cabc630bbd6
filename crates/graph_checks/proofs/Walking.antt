-- Statements of a section one after another, and the arms of a branch.
use Rattle.std.proofs.Common.{◌≡◌, ℕ, ◌+◌, ◌<◌, ◌≤◌, List, map, length, drop, get_or, refl, sym, ap, subst, ◌∙◌, Ok}
use Rattle.graph_checks.specs.Answers.{Checked, Refuses, all_checked}
use Rattle.graph_checks.specs.Boxes.{Stand, Keeps}
use Rattle.graph_checks.specs.Plugins.{arm_checked, points_checked}
use Rattle.graph_checks.specs.Points.{Point, joined, points_of, points_in_arm}
use Rattle.foreign_parts.specs.declared.boxes.BoxKind.{BoxKind}
use Rattle.foreign_parts.specs.declared.links.LinkPlace.{LinkPlace}
use Rattle.graph_checks.specs.declared.fault.GraphFault.{GraphFault}
use Rattle.graph_checks.specs.declared.walk.Walk.{Walk}
use Rattle.config_tree.specs.declared.tree.Arm.{Arm}
use Rattle.graph_checks.proofs.Going.{checked_more, checked_fails, checked_end, refuses_next, refuses_then, gives_then}
use Rattle.graph_checks.proofs.Keeping.{keeps_same, keeps_then}
use Rattle.graph_checks.proofs.Pointing.{each_checked, arm_points}

module _ {S X : Type 0} (stand : S → BoxKind → Stand) (links : S → List LinkPlace) (which : BoxKind) (f : X → List Point) (xs : List X) where
  abbrev one : S → X → Walk → Checked Walk
  one s x w = points_checked which (stand s which) (f x) w

  -- what is left says what all say, and the rack is as it was
  pub record WalkedSoFar (i : ℕ) (s t : S) (w v : Walk) : Type 0 where
    pub keeps : Keeps stand links s t
    pub so_far : all_checked (one s) (drop i xs) v ≡ all_checked (one s) xs w

  pub walk_begins : (s : S) (w : Walk) → WalkedSoFar 0 s s w w
  walk_begins s w = record { keeps = keeps_same stand links s; so_far = refl }

  there : (s t : S) (x : X) (v : Walk) → Keeps stand links s t → one s x v ≡ one t x v
  there s t x v keeps = ap (λ st. points_checked which st (f x) v) (sym (keeps.stands which))

  pub walk_goes : (i : ℕ) (x : X) (s t u : S) (w v n : Walk) → i < length xs → x ≡ get_or xs i x → WalkedSoFar i s t w v → points_checked which (stand t which) (f x) v ≡ Ok n → Keeps stand links t u → WalkedSoFar (i + 1) s u w n
  walk_goes i x s t u w v n below is h here keeps = record {
    keeps = keeps_then stand links s t u h.keeps keeps;
    so_far = checked_more (one s) xs i x v n w below is h.so_far (there s t x v h.keeps ∙ here);
  }

  pub walk_fails : (i : ℕ) (x : X) (s t : S) (w v : Walk) (e : GraphFault) → i < length xs → x ≡ get_or xs i x → WalkedSoFar i s t w v → Refuses e (points_checked which (stand t which) (f x) v) → Refuses e (points_checked which (stand s which) (joined (map f xs)) w)
  walk_fails i x s t w v e below is h here =
      subst (λ m. Refuses e m) (sym (each_checked which (stand s which) f xs w))
      (checked_fails (one s) xs i x v w e below is h.so_far (subst (λ m. Refuses e m) (sym (there s t x v h.keeps)) here))

  pub walk_ends : (i : ℕ) (s t : S) (w v : Walk) → length xs ≤ i → WalkedSoFar i s t w v → points_checked which (stand s which) (joined (map f xs)) w ≡ Ok v
  walk_ends i s t w v end h = each_checked which (stand s which) f xs w ∙ checked_end (one s) xs i v w end h.so_far

module _ (which : BoxKind) (stand : Stand) where
  -- an arm: its condition, and then its block
  pub arm_goes : (a : Arm) (w v n : Walk) → arm_checked which a.condition w ≡ Ok v → points_checked which stand (points_of a.block) v ≡ Ok n → points_checked which stand (points_in_arm a) w ≡ Ok n
  arm_goes a w v n first later = arm_points which stand a w ∙ gives_then (points_checked which stand (points_of a.block)) (arm_checked which a.condition w) v n first later

  pub condition_fails : (a : Arm) (w : Walk) (e : GraphFault) → Refuses e (arm_checked which a.condition w) → Refuses e (points_checked which stand (points_in_arm a) w)
  condition_fails a w e here = subst (λ m. Refuses e m) (sym (arm_points which stand a w)) (refuses_next e (points_checked which stand (points_of a.block)) (arm_checked which a.condition w) here)

  pub block_fails : (a : Arm) (w v : Walk) (e : GraphFault) → arm_checked which a.condition w ≡ Ok v → Refuses e (points_checked which stand (points_of a.block) v) → Refuses e (points_checked which stand (points_in_arm a) w)
  block_fails a w v e first here = subst (λ m. Refuses e m) (sym (arm_points which stand a w)) (refuses_then e (points_checked which stand (points_of a.block)) (arm_checked which a.condition w) v first here)
