use Rattle.in_lines.proofs.Receiving.{received-more}
use Rattle.in_lines.proofs.laws.each_poll_adds_the_lines_that_it_makes_whole.Goals as goal

pub returns : goal.returns
returns c = λ limit polls poll. received-more limit polls poll.moment poll.piece
