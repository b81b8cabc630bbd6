use Rattle.history_book.proofs.Histories.{prefixes_are_legal}
use Rattle.history_book.proofs.laws.what_was_told_is_legal.Goals as goal

pub returns : goal.returns
returns c = prefixes_are_legal
