use Rattle.std.proofs.Common.{◌≡◌, true, sym, ap, length, ◌==◌}
use Rattle.pipeline_bus.specs.Ends.{sending}
use Rattle.dead_letter_reader.proofs.Working.{counts_last, ends_as}
use Rattle.dead_letter_reader.proofs.sender.DeadSender.send_last.Goals as goal

pub invariant_of-self-in-None : goal.invariant_of-self-in-None
invariant_of-self-in-None c =
    let last : length c.new.result == 0 ≡ true = ap (λ e. length e == 0) c.new.ensures in
    record {
      numbers = counts_last (sending c.args.self.now.sender) (sending c.push.new.self) _ c.in-None.ensures.sent c.args.self.now.number last c.args.self.now.numbers;
      end = ends_as (sending c.args.self.now.sender) (sending c.push.new.self) _ c.in-None.ensures.sent true (sym last);
    }
