use Rattle.history_book.proofs.Arriving.{assured_arrived, arrivals_were_due}
use Rattle.history_book.proofs.laws.assured_parcels_arrived.Goals as goal

pub returns-clause-arrived : goal.returns-clause-arrived
returns-clause-arrived c = assured_arrived

pub returns-clause-due : goal.returns-clause-due
returns-clause-due c = arrivals_were_due
