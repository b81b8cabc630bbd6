use Rattle.config_print.proofs.Again.{settings_once, keys_once}
use Rattle.config_print.proofs.print_laws.names_stand_once.Goals as goal

pub returns-clause-settings : goal.returns-clause-settings
returns-clause-settings c = λ levels tokens entries reads. settings_once levels tokens entries reads

pub returns-clause-keys : goal.returns-clause-keys
returns-clause-keys c = λ levels tokens entries reads. keys_once levels tokens entries reads
