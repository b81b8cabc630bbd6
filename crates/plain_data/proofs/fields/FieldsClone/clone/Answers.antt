use Rattle.std.proofs.Common.{◌∙◌}
use Rattle.plain_data.proofs.ImplLemmas.{Rises-clone, same_from_clone}
use Rattle.plain_data.proofs.fields.FieldsClone.clone.Goals as goal

pub invariant_of-result : goal.invariant_of-result
invariant_of-result g c = Rises-clone g.V.Clone.is_clone _ _ c.in_ok-clone.ensures.cases.0 c.self.invariant

pub returns-clause-same : goal.returns-clause-same
returns-clause-same g c = λ same. same_from_clone g.V.Clone.is_clone same _ _ c.in_ok-clone.ensures.cases.0 ∙ c.self.view_is
