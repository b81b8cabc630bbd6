use Rattle.line_machine.proofs.Sending.{opened_parcels_were_due, parcels_were_due}
use Rattle.line_machine.proofs.laws.parcels_were_due.Goals as goal

pub returns-clause-opened : goal.returns-clause-opened
returns-clause-opened c = opened_parcels_were_due

pub returns-clause-kept : goal.returns-clause-kept
returns-clause-kept c = parcels_were_due
