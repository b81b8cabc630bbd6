use Rattle.std.proofs.Common.{◌++◌, length, take, drop, sym, subst}
use Rattle.condition_eval.specs.Made.{BeginWith, texts}
use Rattle.condition_eval.proofs.Making.{begin_where_read, read_same, written_back}
use Rattle.condition_eval.proofs.walk.eval.Goals as goal

pub walk-requires : goal.walk-requires
walk-requires c = subst (BeginWith (texts c.args.condition.now)) (sym c.as_mut_slice.ensures.same) (begin_where_read (texts c.args.condition.now) c.args.patterns.now c.requires)

pub returns-in_err-walk-clause-made : goal.returns-in_err-walk-clause-made
returns-in_err-walk-clause-made c = read_same (texts c.args.condition.now) c.args.patterns.now (take (length c.args.patterns.now) (c.walk.new.patterns ++ drop (length c.walk.new.patterns) c.args.patterns.now)) (written_back c.args.patterns.now c.as_mut_slice.result.now c.walk.new.patterns c.walk.ensures.same c.as_mut_slice.ensures.same) c.requires

pub returns-clause-made : goal.returns-clause-made
returns-clause-made c = read_same (texts c.args.condition.now) c.args.patterns.now (take (length c.args.patterns.now) (c.walk.new.patterns ++ drop (length c.walk.new.patterns) c.args.patterns.now)) (written_back c.args.patterns.now c.as_mut_slice.result.now c.walk.new.patterns c.walk.ensures.same c.as_mut_slice.ensures.same) c.requires
