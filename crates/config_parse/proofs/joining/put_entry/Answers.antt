use Rattle.std.proofs.Common.{◌∙◌}
use Rattle.config_parse.proofs.Joined.{entry_is}
use Rattle.config_parse.proofs.joining.put_entry.Goals as goal

pub returns : goal.returns
returns c = c.in_ok-insert.ensures.entries ∙ entry_is c.args.key c.args.value c.args.table.now.entries
