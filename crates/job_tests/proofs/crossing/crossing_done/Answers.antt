use Rattle.std.proofs.Crossing as std
use Rattle.std.proofs.MapsCrossing as maps
use denote.Param.Send.{sendable}
use Rattle.job_tests.proofs.Sendable as sendables
use Rattle.job_tests.proofs.crossing.crossing_done.Goals as goal

pub crossing-requires-send-T : goal.crossing-requires-send-T
crossing-requires-send-T c κs = search (sendables.job_done, maps.crosses, std.crosses, sendable) depth 80 fits 100000
