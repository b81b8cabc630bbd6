use Rattle.config_parse.proofs.Joined.{set_is}
use Rattle.config_parse.proofs.joining.put_setting.Goals as goal

pub returns : goal.returns
returns c = set_is c.args.settings.now.entries c.taken.new.settings.entries c.args.value _ c.in_ok-insert.ensures.entries c.name.view_is c.in_ok-earlier.ensures.rest c.in_ok-earlier.ensures.earlier c.in_ok-joined.ensures
