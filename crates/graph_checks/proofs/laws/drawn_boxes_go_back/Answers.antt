use Rattle.graph_checks.proofs.Restoring.{all_may_go_back, filters_restored, outputs_restored}
use Rattle.graph_checks.proofs.laws.drawn_boxes_go_back.Goals as goal

pub returns-clause-may : goal.returns-clause-may
returns-clause-may c given filters outputs fs os new_fs new_os drew = all_may_go_back given filters outputs fs os new_fs new_os drew

pub returns-clause-filters : goal.returns-clause-filters
returns-clause-filters c given filters outputs fs os new_fs new_os drew = filters_restored given filters outputs fs os new_fs new_os drew

pub returns-clause-outputs : goal.returns-clause-outputs
returns-clause-outputs c given filters outputs fs os new_fs new_os drew = outputs_restored given filters outputs fs os new_fs new_os drew
