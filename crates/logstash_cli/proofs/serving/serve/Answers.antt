use Rattle.std.proofs.Crossing as std
use Rattle.std.proofs.MapsCrossing as maps
use denote.Param.Send.{sendable}
use Rattle.logstash_cli.proofs.Sendable as sendables
use Rattle.logstash_cli.proofs.serving.serve.Goals as goal

pub hire_all-requires-send-T : goal.hire_all-requires-send-T
hire_all-requires-send-T g c κs = search (sendables.job, sendables.drawn, maps.crosses, std.crosses, sendable) depth 80 fits 100000

pub hire_all-requires-send-T-Done : goal.hire_all-requires-send-T-Done
hire_all-requires-send-T-Done g c κs = search (sendables.job_done, sendables.drawn, maps.crosses, std.crosses, sendable) depth 80 fits 100000
