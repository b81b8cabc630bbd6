use Rattle.event_flow.proofs.Statements.{part_of-Plugin, part_of-Branch, arm_of-is}
use Rattle.event_flow.proofs.laws.statements_are_plugins_and_branches.Goals as goal

pub returns-clause-plugin : goal.returns-clause-plugin
returns-clause-plugin c p = part_of-Plugin p

pub returns-clause-branch : goal.returns-clause-branch
returns-clause-branch c arms = part_of-Branch arms

pub returns-clause-arm : goal.returns-clause-arm
returns-clause-arm c a rest = arm_of-is a rest
