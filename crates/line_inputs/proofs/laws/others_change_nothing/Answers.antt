use Rattle.line_inputs.proofs.Staying.{stay}
use Rattle.line_inputs.proofs.laws.others_change_nothing.Goals as goal

pub returns : goal.returns
returns g c = λ others files old new ready apart beside reads. stay g.S.Store g.met.S.Store.images_tell others old new beside reads files ready apart
