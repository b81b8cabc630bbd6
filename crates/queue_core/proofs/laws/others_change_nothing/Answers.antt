use Rattle.queue_core.proofs.BesideOthers.{holds_beside, stays_open, stays_ready}
use Rattle.queue_core.proofs.laws.others_change_nothing.Goals as goal

pub returns-clause-holds : goal.returns-clause-holds
returns-clause-holds g c = holds_beside g.S.Store

pub returns-clause-opens : goal.returns-clause-opens
returns-clause-opens g c = stays_open g.S.Store

pub returns-clause-ready : goal.returns-clause-ready
returns-clause-ready g c = stays_ready g.S.Store
