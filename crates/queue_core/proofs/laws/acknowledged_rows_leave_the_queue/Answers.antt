use Rattle.queue_core.proofs.Acknowledging.{acknowledged_is_open, acknowledged_is_ready}
use Rattle.queue_core.proofs.laws.acknowledged_rows_leave_the_queue.Goals as goal

pub returns-clause-holds : goal.returns-clause-holds
returns-clause-holds g c = acknowledged_is_open g.S.Store

pub returns-clause-ready : goal.returns-clause-ready
returns-clause-ready g c = acknowledged_is_ready g.S.Store
