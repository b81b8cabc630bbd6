use Rattle.std.proofs.Crossing as std
use Rattle.std.proofs.MapsCrossing as maps
use denote.Param.Send.{sendable}
use Rattle.batch_shop.proofs.endpoint.Endpoint.TheSendSync as endpoint
use Rattle.batch_shop.proofs.worker.Worker.TheSendSync as worker
use Rattle.job_tests.proofs.Sendable as sendables
use Rattle.job_tests.proofs.jobs_tests.a_job_is_done_by_a_worker.Goals as goal

pub spawn-requires-send-F : goal.spawn-requires-send-F
spawn-requires-send-F g c κs =
    search (sendables.job, sendables.job_done, worker.the_field_send, endpoint.the_field_send, maps.crosses, std.crosses, sendable) depth 80 fits 100000
