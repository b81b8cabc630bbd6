use Rattle.std.proofs.Common.{Some, ap, sym, ◌∙◌}
use Rattle.config_parse.proofs.Joined.{fresh_old, fresh_new}
use Rattle.config_parse.proofs.values.fresh.Goals as goal

pub returns-then-contains_key : goal.returns-then-contains_key
returns-then-contains_key c = fresh_old _ c.args.table.now.entries (c.in-Some.ensures ∙ ap Some (sym c.in_ok-own.ensures)) (sym c.contains_key.ensures ∙ c.if-contains_key.true)

pub returns-else-contains_key : goal.returns-else-contains_key
returns-else-contains_key c = fresh_new _ c.args.table.now.entries (c.in-Some.ensures ∙ ap Some (sym c.in_ok-own.ensures)) (sym c.contains_key.ensures ∙ c.if-contains_key.false)
