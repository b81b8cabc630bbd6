use Rattle.std.proofs.Common.{◌∙◌, arith}
use Rattle.in_file.proofs.Holding.{held_by}
use Rattle.in_file.proofs.line_buffer.LineBuffer.holds.Goals as goal

pub returns : goal.returns
returns c = c.is_some.ensures ∙ held_by c.args.self.now c.first.result (omega (arith, c.first.ensures.limit)) c.first.ensures.first c.first.ensures.none
