use Rattle.std.proofs.Common.{IsTrue}
use Rattle.dead_letters.proofs.Staying.{holds_beside, ready_beside}
use Rattle.dead_letters.proofs.laws.others_change_nothing.Goals as goal

pub returns-clause-holds : goal.returns-clause-holds
returns-clause-holds g c = λ others q s i ready apart told beside. holds_beside g.S.Store q s ready (λ name. IsTrue (others name)) apart i told beside

pub returns-clause-ready : goal.returns-clause-ready
returns-clause-ready g c = λ others q old new ready apart beside reads. ready_beside g.S.Store q old ready (λ name. IsTrue (others name)) apart g.met.S.Store.images_tell new beside reads
