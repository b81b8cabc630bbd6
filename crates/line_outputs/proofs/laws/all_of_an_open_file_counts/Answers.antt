use Rattle.line_outputs.proofs.Apart.{open_counts_whole}
use Rattle.line_outputs.proofs.laws.all_of_an_open_file_counts.Goals as goal

pub returns : goal.returns
returns g c = open_counts_whole g.S.Store g.met.S.Store.images_tell
