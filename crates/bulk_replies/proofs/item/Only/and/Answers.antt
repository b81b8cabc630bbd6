use Rattle.std.proofs.Common.{subst}
use Rattle.bulk_replies.specs.Sayings.{IsOnly}
use Rattle.bulk_replies.proofs.Additions.{more_keys, other_key, same_key}
use Rattle.bulk_replies.proofs.item.Only.and.Goals as goal

pub returns-then-eq : goal.returns-then-eq
returns-then-eq c ms d only says = let one = subst (IsOnly ms) c.in-One.is only in (d, same_key ms _ _ d one.0 one.1 c.if-eq.ensures, says)

pub returns-else-eq : goal.returns-else-eq
returns-else-eq c ms d only says = let one = subst (IsOnly ms) c.in-One.is only in other_key ms _ _ d one.0 one.1 c.if-eq.ensures

pub returns-in-Several : goal.returns-in-Several
returns-in-Several c ms d only says = more_keys ms _ d (subst (IsOnly ms) c.in-Several.is only)
