use Rattle.std.proofs.Common.{map, refl, string_bytes}
use Rattle.io_traits.proofs.Causes.{no_cause}
use Rattle.logstash_settings.specs.Words.{answer_of}
use Rattle.pq_tools.specs.Orders.{checked}
use Rattle.pq_tools.proofs.Endings.{no_fault, refused, told}
use Rattle.pq_tools.proofs.OrderFolders.{check_folder}
use Rattle.pq_tools.proofs.checking.pqcheck.Goals as goal

pub check-requires : goal.check-requires
check-requires g c = check_folder (answer_of (map string_bytes c.args.words.now)) c.in-Ok.order c.in-Ok.ensures

pub returns-in-Ok-clause-ends : goal.returns-in-Ok-clause-ends
returns-in-Ok-clause-ends g c =
    told g.O.Sink (checked (answer_of (map string_bytes c.args.words.now))) c.in-Ok.order _ c.args.out.now c.check.new.out c.check.result c.in-Ok.ensures c.check.ensures.ends

pub returns-in-Err-clause-ends : goal.returns-in-Err-clause-ends
returns-in-Err-clause-ends g c =
    refused g.O.Sink (checked (answer_of (map string_bytes c.args.words.now))) _ c.args.out.now c.in-Err.refusal c.in-Err.ensures

pub returns-in-Err-clause-store : goal.returns-in-Err-clause-store
returns-in-Err-clause-store g c =
    no_cause refl (no_fault (checked (answer_of (map string_bytes c.args.words.now))) c.in-Err.refusal c.in-Err.ensures).store

pub returns-in-Err-clause-out : goal.returns-in-Err-clause-out
returns-in-Err-clause-out g c =
    no_cause refl (no_fault (checked (answer_of (map string_bytes c.args.words.now))) c.in-Err.refusal c.in-Err.ensures).out
