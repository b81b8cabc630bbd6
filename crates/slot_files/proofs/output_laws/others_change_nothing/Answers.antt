use Rattle.std.proofs.Common.{IsTrue}
use Rattle.slot_files.proofs.Staying.{stands_beside, ready_beside}
use Rattle.slot_files.proofs.output_laws.others_change_nothing.Goals as goal

pub returns-clause-stands : goal.returns-clause-stands
returns-clause-stands g c = λ others out s i ready apart told beside. stands_beside g.S.Store out s ready (λ name. IsTrue (others name)) apart i told beside

pub returns-clause-ready : goal.returns-clause-ready
returns-clause-ready g c = λ others out old new ready apart beside reads. ready_beside g.S.Store out old ready (λ name. IsTrue (others name)) apart g.met.S.Store.images_tell new beside reads
