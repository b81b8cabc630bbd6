use Rattle.config_print.proofs.Respacing.{gaps_change_no_token}
use Rattle.config_print.proofs.print_laws.gaps_change_no_token.Goals as goal

pub returns : goal.returns
returns c = gaps_change_no_token
