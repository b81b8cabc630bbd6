use Rattle.std.proofs.Common.{IsTrue}
use Rattle.io_traits.proofs.Beside.{both_beside}
use Rattle.io_traits.proofs.store_laws.two_runs_leave_the_files_beside_both.Goals as goal

pub returns : goal.returns
returns g c = λ first second. both_beside g.S.Store (λ name. IsTrue (first name)) (λ name. IsTrue (second name))
