use Rattle.std.proofs.Common.{IsTrue}
use Rattle.in_file.proofs.Staying.{stands_beside, ready_beside}
use Rattle.in_file.proofs.laws.others_change_nothing.Goals as goal

pub returns-clause-stands : goal.returns-clause-stands
returns-clause-stands g c = λ others w s i ready apart told beside. stands_beside g.S.Store w s ready (λ name. IsTrue (others name)) apart i beside

pub returns-clause-ready : goal.returns-clause-ready
returns-clause-ready g c = λ others w old new ready apart beside reads. ready_beside g.S.Store w old ready (λ name. IsTrue (others name)) apart g.met.S.Store.images_tell new beside reads
