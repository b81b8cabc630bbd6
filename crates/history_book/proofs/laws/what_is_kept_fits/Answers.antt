use Rattle.history_book.proofs.Holding.{kept_fits}
use Rattle.history_book.proofs.laws.what_is_kept_fits.Goals as goal

pub returns : goal.returns
returns c = kept_fits
