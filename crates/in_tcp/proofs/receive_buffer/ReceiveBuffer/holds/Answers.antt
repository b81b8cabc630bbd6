use Rattle.std.proofs.Common.{sym, ◌∙◌}
use Rattle.in_tcp.proofs.Searching.{none_more, some_here}
use Rattle.in_tcp.proofs.receive_buffer.ReceiveBuffer.holds.Goals as goal

pub returns-then-completes_line : goal.returns-then-completes_line
returns-then-completes_line c = some_here c.args.self.now c.loop-place.place c.loop-place.invariant (sym c.completes_line.ensures ∙ c.if-completes_line.true)

pub loop-place-preserved : goal.loop-place-preserved
loop-place-preserved c = none_more c.args.self.now c.loop-place.place c.loop-place.invariant (sym c.completes_line.ensures ∙ c.if-completes_line.false)
