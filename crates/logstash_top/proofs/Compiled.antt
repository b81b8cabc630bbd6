-- A configuration that passed its checks is compiled, or memory runs out.
use Rattle.std.proofs.Common.{◌≡◌, ⊎_elim, ℕ, List, Ok, Err, refl, sym, ap, ◌∙◌}
use Rattle.config_tree.specs.declared.tree.Config.{Config}
use Rattle.foreign_parts.specs.Boxes.{Keeps, Stand}
use Rattle.foreign_parts.specs.Links.{addresses_of}
use Rattle.foreign_parts.specs.declared.boxes.BoxKind.{BoxKind}
use Rattle.foreign_parts.specs.declared.links.LinkPlace.{LinkPlace}
use Rattle.graph_checks.specs.Answers.{Checked, Refuses, next}
use Rattle.graph_checks.specs.Whole.{Given, checked, given_by}
use Rattle.graph_checks.specs.declared.fault.GraphFault.{GraphFault}
use Rattle.logstash_top.specs.declared.status.Status.TheVariants.{NoMemory}
use Rattle.logstash_top.specs.Checks.{checked_all}
use Rattle.logstash_top.specs.Status.{status_of_refusal}
use Rattle.logstash_top.proofs.Starting.{IsFault, memory_or}

-- what is handed in stays the same
pub same_given : {B : Type 0} (stand : B → BoxKind → Stand) (links : B → List LinkPlace) (old new : B) (workers : ℕ) → Keeps stand links old new → given_by stand links new workers ≡ given_by stand links old workers
same_given stand links old new workers keeps = λ i. record { stand = λ k. keeps.stands k i; links = addresses_of (keeps.links_stand i); workers = workers }

-- where all checks pass, the first do
passed_first : (f : Unit {0} → Checked (Unit {0})) (said : Checked (Unit {0})) → next f said ≡ Ok tt → said ≡ Ok tt
passed_first f (Ok u) is = refl
passed_first f (Err fault) is = absurd cc

-- so the only fault of a compilation is want of memory
pub memory_alone : (pipeline : List ℕ) (given later : Given) (folder : List ℕ) (config : Config) (fault : GraphFault) → checked_all given folder config ≡ Ok tt → later ≡ given → Refuses fault (checked later config)
    → status_of_refusal pipeline fault ≡ NoMemory
memory_alone pipeline given later folder config fault passed same refuses = ⊎_elim (λ is. ap (status_of_refusal pipeline) is) other (memory_or fault) where
  first : checked given config ≡ Ok tt
  first = passed_first _ (checked given config) passed

  other : IsFault fault → status_of_refusal pipeline fault ≡ NoMemory
  other is =
      let said : checked later config ≡ Err fault = is.told (checked later config) refuses in
      let both : Ok tt ≡ Err fault = sym first ∙ sym (ap (λ g. checked g config) same) ∙ said in
      absurd cc
