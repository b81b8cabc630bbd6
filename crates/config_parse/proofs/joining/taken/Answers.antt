use Rattle.config_parse.proofs.Joined.{replaced}
use Rattle.config_parse.proofs.joining.taken.Goals as goal

pub returns-in_ok-insert-clause-rest : goal.returns-in_ok-insert-clause-rest
returns-in_ok-insert-clause-rest c = replaced c.args.settings.now.entries _ c.in_ok-insert.ensures.entries c.in_ok-copy.ensures
