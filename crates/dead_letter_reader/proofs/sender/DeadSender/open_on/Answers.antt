use Rattle.std.proofs.Common.{sym, ap, ◌∙◌, Err}
use Rattle.pipeline_bus.specs.Parcels.{ends_with_last, with_events}
use Rattle.io_traits.specs.declared.queue_faults.QueueFault.TheVariants as f
use Rattle.dead_letter_reader.specs.declared.sender.DeadSender.{DeadSender}
use Rattle.dead_letter_reader.proofs.Opened.{fault_is}
use Rattle.dead_letter_reader.proofs.Working.{none_sent, nothing_sent}
use Rattle.dead_letter_reader.proofs.sender.DeadSender.open_on.Goals as goal

pub invariant_of-result : goal.invariant_of-result
invariant_of-result g c = record {
  numbers = sym (ap with_events c.requires.sent ∙ none_sent);
  end = sym (ap ends_with_last c.requires.sent ∙ nothing_sent);
}

pub returns-in-Err-clause-damaged : goal.returns-in-Err-clause-damaged
returns-in-Err-clause-damaged g c = λ damage is told. c.in-Err.ensures.damaged damage (ap Err (fault_is DeadSender c.args.sender c.args.sender c.in-Err.fault (f.Damaged damage) is)) told
