use Rattle.logstash_top.proofs.Asking.{starts_unasked}
use Rattle.logstash_top.proofs.start.start.Goals as goal

pub returns-in-Err-clause-starts : goal.returns-in-Err-clause-starts
returns-in-Err-clause-starts g c = starts_unasked _ g.P.Files _ _ _ c.in-Err.status c.in-Err.ensures
