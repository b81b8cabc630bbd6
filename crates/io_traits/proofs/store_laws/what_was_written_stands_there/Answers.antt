use Rattle.io_traits.proofs.Tearing.{part-overlaid}
use Rattle.io_traits.proofs.store_laws.what_was_written_stands_there.Goals as goal

pub returns : goal.returns
returns c = λ at bytes old within. part-overlaid at bytes old within
