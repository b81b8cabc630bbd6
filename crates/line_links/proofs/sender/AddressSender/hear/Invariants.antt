use Rattle.std.proofs.Common.{◌≡◌, ◌<◌, ◌≤◌, ◌-◌, List}
use Rattle.pipeline_bus.specs.Ends.{IsSameSender}
use Rattle.pipeline_bus.specs.declared.parcel.Answer.{Answer}
use Rattle.line_links.specs.Senders.{send_state, end_of, with_heard}
use Rattle.line_links.proofs.sender.AddressSender.hear.Given as goal

abbrev pub invariant-loop-self : goal.invariant-loop-self
invariant-loop-self l = (l.self.sent ≡ l.fn.self.sent) × ((l.fn.self.heard < l.number → l.self.heard ≤ l.number) × ((l.number ≤ l.fn.self.heard → l.self.heard ≡ l.fn.self.heard) × (IsSameSender (end_of l.fn.self) (end_of l.self)
    × ((more : List Answer) × (send_state l.self ≡ with_heard more (send_state l.fn.self))))))

abbrev pub decreases-loop-self : goal.decreases-loop-self
decreases-loop-self l = l.number - l.self.heard
