use Rattle.queue_files.proofs.Others.{found_goes_by_pages}
use Rattle.queue_files.proofs.laws.what_is_found_goes_by_pages.Goals as goal

pub returns : goal.returns
returns c = found_goes_by_pages
