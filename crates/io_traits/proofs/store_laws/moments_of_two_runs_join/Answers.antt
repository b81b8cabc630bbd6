use Rattle.io_traits.proofs.Moments.{one_then_other}
use Rattle.io_traits.proofs.store_laws.moments_of_two_runs_join.Goals as goal

pub returns : goal.returns
returns g c = λ old mid new holds one other. one_then_other g.S.Store g.met.S.Store.images_tell old mid new _ _ _ one other (λ i told left. left) (λ i told left. left)
