use Rattle.std.proofs.Common.{◌≡◌, false, sym, ap, length, ◌==◌, ◌∙◌}
use Rattle.pipeline_bus.specs.Ends.{sending}
use Rattle.dead_letter_reader.specs.Marks.{events_of}
use Rattle.dead_letter_reader.specs.Work.{work}
use Rattle.dead_letter_reader.proofs.Working.{counts_one, ends_as, next_filled, not_ended}
use Rattle.dead_letter_reader.proofs.sender.DeadSender.send_next.Goals as goal

pub invariant_of-self-in-None : goal.invariant_of-self-in-None
invariant_of-self-in-None c =
    let w = work c.args.self.now in
    let filled : length c.in_ok-events_of.field-0 == 0 ≡ false = ap (λ e. length e == 0) (c.in_ok-events_of.ensures ∙ ap events_of c.next-next.ensures) ∙ next_filled w c.requires.some in
    record {
      numbers = counts_one (sending c.args.self.now.sender) (sending c.push.new.self) _ c.in-None.ensures.sent c.args.self.now.number c.in-Some.number filled c.args.self.now.numbers c.in-Some.ensures.1;
      end = c.args.self.now.end ∙ not_ended w c.requires.sending c.requires.some ∙ ends_as (sending c.args.self.now.sender) (sending c.push.new.self) _ c.in-None.ensures.sent false (sym filled);
    }
