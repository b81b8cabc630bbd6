use Rattle.built_plugins.proofs.Patterns.{is_compiled, is_refused}
use Rattle.built_plugins.proofs.condition.CompiledCondition.new.Goals as goal

pub returns-in-Ok : goal.returns-in-Ok
returns-in-Ok c = is_compiled c.args.says c.in-Ok.ensures.read

pub returns-in-Err : goal.returns-in-Err
returns-in-Err c = is_refused c.args.says c.in-Err.fault c.in-Err.ensures.refused
