use Rattle.std.proofs.Common.{sym, ap, arith}
use Rattle.byte_lines.specs.Unread.{Unread}
use Rattle.in_file.proofs.Holding.{line_held}
use Rattle.in_file.proofs.line_buffer.LineBuffer.has_line.Goals as goal

pub returns-in-Some-clause-line : goal.returns-in-Some-clause-line
returns-in-Some-clause-line c = line_held c.args.self.now _ _ (omega (arith, ap (λ (u : Unread). u.limit) (sym c.self.view_is))) c.in-Some.ensures.first
