use Rattle.line_machine.proofs.Closing.{ends_close_once, none_is_out, faults_close_none, ends_follow}
use Rattle.line_machine.proofs.laws.ends_close_once.Goals as goal

pub returns-clause-counted : goal.returns-clause-counted
returns-clause-counted c = ends_close_once

pub returns-clause-none_out : goal.returns-clause-none_out
returns-clause-none_out c = none_is_out

pub returns-clause-faults : goal.returns-clause-faults
returns-clause-faults c = faults_close_none

pub returns-clause-follows : goal.returns-clause-follows
returns-clause-follows c = ends_follow
