use Rattle.dead_letter_reader.specs.Work.{work}
use Rattle.dead_letter_reader.proofs.Working.{next_are}
use Rattle.dead_letter_reader.proofs.sender.DeadSender.next.Goals as goal

pub returns : goal.returns
returns c = next_are (work c.args.self.now) c.as_slice.result.now c.min.result c.as_slice.ensures c.min.ensures
