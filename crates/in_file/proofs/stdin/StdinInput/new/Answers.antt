use Rattle.std.proofs.Common.{[], sym, subst, arith}
use Rattle.in_lines.specs.Readings.{IsReading}
use Rattle.in_lines.proofs.Reading.{begun}
use Rattle.in_file.specs.Openings.{line_limit}
use Rattle.in_file.proofs.stdin.StdinInput.new.Goals as goal

pub returns-clause-read : goal.returns-clause-read
returns-clause-read c = subst (λ u. IsReading [] [] u c.epoch.result) (sym c.new.ensures) (begun line_limit c.epoch.result (omega arith))
