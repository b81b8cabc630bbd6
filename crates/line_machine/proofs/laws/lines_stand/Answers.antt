use Rattle.line_machine.proofs.Openings.{opened_line_stands, runs_stand}
use Rattle.line_machine.proofs.laws.lines_stand.Goals as goal

pub returns-clause-opened : goal.returns-clause-opened
returns-clause-opened c = opened_line_stands

pub returns-clause-runs : goal.returns-clause-runs
returns-clause-runs c = runs_stand
