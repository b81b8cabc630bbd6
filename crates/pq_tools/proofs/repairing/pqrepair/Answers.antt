use Rattle.std.proofs.Common.{map, refl, string_bytes}
use Rattle.io_traits.proofs.Causes.{no_cause}
use Rattle.queue_files.proofs.OtherFiles.{others_stay}
use Rattle.logstash_settings.specs.Words.{answer_of}
use Rattle.pq_tools.specs.Orders.{repaired}
use Rattle.pq_tools.specs.Repairs.{IsOfRepair}
use Rattle.pq_tools.proofs.Endings.{no_fault, queue_moments, repair_beside, repair_refused, repair_told}
use Rattle.pq_tools.proofs.OrderFolders.{repair_folders}
use Rattle.pq_tools.proofs.repairing.pqrepair.Goals as goal

pub repair-requires-clause-folder : goal.repair-requires-clause-folder
repair-requires-clause-folder g c = (repair_folders (answer_of (map string_bytes c.args.words.now)) c.in-Ok.order c.in-Ok.ensures).folder

pub repair-requires-clause-repaired : goal.repair-requires-clause-repaired
repair-requires-clause-repaired g c = (repair_folders (answer_of (map string_bytes c.args.words.now)) c.in-Ok.order c.in-Ok.ensures).repaired

pub repair-requires-clause-apart : goal.repair-requires-clause-apart
repair-requires-clause-apart g c = (repair_folders (answer_of (map string_bytes c.args.words.now)) c.in-Ok.order c.in-Ok.ensures).apart

pub returns-in-Ok-clause-ends : goal.returns-in-Ok-clause-ends
returns-in-Ok-clause-ends g c =
    repair_told g.S.Store g.O.Sink (repaired (answer_of (map string_bytes c.args.words.now))) c.in-Ok.order c.args.store.now c.repair.new.store c.args.out.now c.repair.new.out c.repair.result c.in-Ok.ensures
    c.repair.ensures.ends

pub returns-in-Ok-clause-beside : goal.returns-in-Ok-clause-beside
returns-in-Ok-clause-beside g c =
    (repair_beside g.S.Store g.O.Sink (repaired (answer_of (map string_bytes c.args.words.now))) c.in-Ok.order c.args.store.now c.repair.new.store c.in-Ok.ensures c.repair.ensures.beside).reads

pub returns-in-Ok-clause-beside_moments : goal.returns-in-Ok-clause-beside_moments
returns-in-Ok-clause-beside_moments g c =
    (repair_beside g.S.Store g.O.Sink (repaired (answer_of (map string_bytes c.args.words.now))) c.in-Ok.order c.args.store.now c.repair.new.store c.in-Ok.ensures c.repair.ensures.beside).moments

pub returns-in-Ok-clause-queue_moments : goal.returns-in-Ok-clause-queue_moments
returns-in-Ok-clause-queue_moments g c =
    let answer = answer_of (map string_bytes c.args.words.now) in
    queue_moments g.S.Store g.O.Sink g.met.S.Store.images_tell answer c.args.store.now c.repair.new.store
    (repair_beside g.S.Store g.O.Sink (repaired answer) c.in-Ok.order c.args.store.now c.repair.new.store c.in-Ok.ensures c.repair.ensures.beside)

pub returns-in-Err-clause-beside_moments : goal.returns-in-Err-clause-beside_moments
returns-in-Err-clause-beside_moments g c = (others_stay g.S.Store g.met.S.Store.images_tell (IsOfRepair (repaired (answer_of (map string_bytes c.args.words.now)))) c.args.store.now).moments

pub returns-in-Err-clause-queue_moments : goal.returns-in-Err-clause-queue_moments
returns-in-Err-clause-queue_moments g c =
    let answer = answer_of (map string_bytes c.args.words.now) in
    queue_moments g.S.Store g.O.Sink g.met.S.Store.images_tell answer c.args.store.now c.args.store.now (others_stay g.S.Store g.met.S.Store.images_tell (IsOfRepair (repaired answer)) c.args.store.now)

pub returns-in-Err-clause-ends : goal.returns-in-Err-clause-ends
returns-in-Err-clause-ends g c =
    repair_refused g.S.Store g.O.Sink (repaired (answer_of (map string_bytes c.args.words.now))) c.args.store.now c.args.out.now c.in-Err.refusal c.in-Err.ensures

pub returns-in-Err-clause-store : goal.returns-in-Err-clause-store
returns-in-Err-clause-store g c =
    no_cause refl (no_fault (repaired (answer_of (map string_bytes c.args.words.now))) c.in-Err.refusal c.in-Err.ensures).store

pub returns-in-Err-clause-out : goal.returns-in-Err-clause-out
returns-in-Err-clause-out g c =
    no_cause refl (no_fault (repaired (answer_of (map string_bytes c.args.words.now))) c.in-Err.refusal c.in-Err.ensures).out
