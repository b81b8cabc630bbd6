use Rattle.std.proofs.Common.{subst}
use Rattle.bulk_replies.specs.Sayings.{IsOnly}
use Rattle.bulk_replies.proofs.Additions.{not_one, one_answer}
use Rattle.bulk_replies.proofs.item.Only.saying.Goals as goal

pub returns-in-One : goal.returns-in-One
returns-in-One c ms only = let one = subst (IsOnly ms) c.in-One.is only in one_answer ms _ one.0 c.in-One.saying one.1 one.2

pub returns-in-Nothing : goal.returns-in-Nothing
returns-in-Nothing c ms only = not_one ms c.args.self only c.in-Nothing.is
