-- The checks of paths one after another.
use Rattle.std.proofs.Common.{◌≡◌, ◌<◌, ◌+◌, ℕ, List, ◌∷◌, length, drop, get_or, Ok, sym, ap, ◌∙◌, subst}
use Rattle.std.proofs.lemmas.List.{drop_more}
use Rattle.built_plugins.specs.declared.output.Target.{Target}
use Rattle.graph_checks.specs.Answers.{Checked, Refuses, next}
use Rattle.graph_checks.specs.declared.fault.GraphFault.{GraphFault}
use Rattle.graph_checks.proofs.Going.{refuses_next}
use Rattle.logstash_top.specs.Checks.{targets_checked, place_checked}

-- the first that fails is the fault
pub path_fails : (folder : List ℕ) (targets : List Target) (i : ℕ) (p : Target) (fault : GraphFault) (whole : Checked (Unit {0})) → i < length targets → p ≡ get_or targets i p → targets_checked folder (drop i targets) ≡ whole
    → Refuses fault (place_checked folder p.place) → Refuses fault whole
path_fails folder targets i p fault whole within is so_far fails =
    subst (Refuses fault) (sym (ap (targets_checked folder) (drop_more targets i p within ∙ ap (λ x. x ∷ drop (i + 1) targets) (sym is))) ∙ so_far)
    (refuses_next fault (λ u. targets_checked folder (drop (i + 1) targets)) (place_checked folder p.place) fails)

-- one that passes leaves those behind it
pub path_passes : (folder : List ℕ) (targets : List Target) (i : ℕ) (p : Target) (whole : Checked (Unit {0})) → i < length targets → p ≡ get_or targets i p → targets_checked folder (drop i targets) ≡ whole
    → place_checked folder p.place ≡ Ok tt → targets_checked folder (drop (i + 1) targets) ≡ whole
path_passes folder targets i p whole within is so_far passes =
    sym (ap (next (λ u. targets_checked folder (drop (i + 1) targets))) passes) ∙ sym (ap (targets_checked folder) (drop_more targets i p within ∙ ap (λ x. x ∷ drop (i + 1) targets) (sym is))) ∙ so_far
