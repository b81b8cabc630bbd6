use Rattle.line_machine.proofs.Joining.{lines_do_legally, pipelines_are_sound, inputs_are_sound, takers_are_sound, released_are_answered}
use Rattle.line_machine.proofs.laws.lines_stand_in_runs.Goals as goal

pub returns-clause-legal : goal.returns-clause-legal
returns-clause-legal c = lines_do_legally

pub returns-clause-pipelines : goal.returns-clause-pipelines
returns-clause-pipelines c = pipelines_are_sound

pub returns-clause-inputs : goal.returns-clause-inputs
returns-clause-inputs c = inputs_are_sound

pub returns-clause-takers : goal.returns-clause-takers
returns-clause-takers c = takers_are_sound

pub returns-clause-released : goal.returns-clause-released
returns-clause-released c = released_are_answered
