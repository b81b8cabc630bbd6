use Rattle.std.proofs.lemmas.Str.Pattern.{contains_text}
use Rattle.condition_eval.proofs.Holding.{is_holding}
use Rattle.condition_eval.proofs.compare.holds.Goals as goal

pub returns : goal.returns
returns c = is_holding c.contains.result c.args.part.now c.args.text.now (contains_text c.contains.result c.args.part.now c.args.text.now c.contains.ensures.cases)
