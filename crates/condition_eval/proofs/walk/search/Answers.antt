use Rattle.std.proofs.Common.{get_or, refl}
use Rattle.condition_eval.proofs.Making.{set_same}
use Rattle.condition_eval.proofs.walk.search.Goals as goal

pub returns-in_err-truth-clause-same : goal.returns-in_err-truth-clause-same
returns-in_err-truth-clause-same c = set_same c.args.patterns.now c.args.at (get_or c.args.patterns.now c.args.at c.index-patterns-at.result) c.matching.new.pattern c.index-patterns-at.result refl (λ i. (c.matching.ensures.same.0 i, c.matching.ensures.same.1 i))

pub returns-clause-same : goal.returns-clause-same
returns-clause-same c = set_same c.args.patterns.now c.args.at (get_or c.args.patterns.now c.args.at c.index-patterns-at.result) c.matching.new.pattern c.index-patterns-at.result refl (λ i. (c.matching.ensures.same.0 i, c.matching.ensures.same.1 i))
