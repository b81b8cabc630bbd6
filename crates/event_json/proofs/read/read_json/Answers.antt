use Rattle.std.proofs.Common.{length}
use Rattle.event_json.proofs.Answered.{found_in, only_ok, only_err, fault_is}
use Rattle.event_json.proofs.read.read_json.Goals as goal

pub returns-in-Ok-read_text-clause-found : goal.returns-in-Ok-read_text-clause-found
returns-in-Ok-read_text-clause-found c = found_in 100 c.args.bytes.now c.in-Ok.text.now c.in-Ok-read_text.value c.in-Ok.ensures.cases.0 c.in-Ok.ensures.cases.1 c.in-Ok-read_text.ensures

pub returns-in-Ok-read_text-clause-only : goal.returns-in-Ok-read_text-clause-only
returns-in-Ok-read_text-clause-only c = λ d j. only_ok 100 c.args.bytes.now c.in-Ok.text.now c.in-Ok-read_text.value d c.in-Ok.ensures.cases.0 c.in-Ok-read_text.ensures j

pub returns-in-Err-read_text-clause-only : goal.returns-in-Err-read_text-clause-only
returns-in-Err-read_text-clause-only c = λ d j. only_err 100 c.args.bytes.now c.in-Ok.text.now d c.in-Err-read_text.stop (length c.args.bytes.now) c.fault_of.result c.in-Ok.ensures.cases.0 c.in-Err-read_text.ensures c.fault_of.ensures j

pub returns-in-Err-read_text-clause-fault : goal.returns-in-Err-read_text-clause-fault
returns-in-Err-read_text-clause-fault c = fault_is 100 c.args.bytes.now c.in-Ok.text.now c.in-Err-read_text.stop c.fault_of.result c.in-Ok.ensures.cases.0 c.in-Ok.ensures.cases.1 c.in-Err-read_text.ensures c.fault_of.ensures
