use Rattle.std.proofs.Common.{◌≡◌, List, ℕ, Ok, Err, subst}
use Rattle.queue_files.specs.Found.{row_of}
use Rattle.queue_core.specs.Opens.{Becomes}
use Rattle.queue_core.specs.Writing.{behind_write, frame_size, numbers_spent, with_written}
use Rattle.queue_core.specs.declared.writing.WriteFault.TheVariants as w
use Rattle.pq_tools.proofs.NewQueues.{holds_written}
use Rattle.pq_tools.proofs.Numbers.{IsSpent, one_fits, one_spent}
use Rattle.pq_tools.proofs.taking.write_row.Goals as goal

pub returns-in-Ok-clause-adds : goal.returns-in-Ok-clause-adds
returns-in-Ok-clause-adds g c told =
    let v = c.args.queue.now in
    let q = c.write.new.self in
    let r = row_of c.args.row.now in
    record {
      is = subst (λ (id : List ℕ). q ≡ behind_write (frame_size id r.event) v) c.id_of.ensures.id c.in-Ok.ensures.written;
      fits = one_fits v r c.in-Ok.field-0 (subst (λ (id : List ℕ). IsSpent (numbers_spent (frame_size id r.event) v) (Ok c.in-Ok.field-0)) c.id_of.ensures.id c.in-Ok.ensures.spent);
      holds = λ before h.
          holds_written g.S.Store v before r c.args.store.now h q c.write.new.store
          (subst (λ (id : List ℕ). Becomes g.S.Store (with_written v id r.event) v q c.args.store.now c.write.new.store) c.id_of.ensures.id c.in-Ok.ensures.adds);
    }

pub returns-in-Err-NumbersSpent-clause-spent : goal.returns-in-Err-NumbersSpent-clause-spent
returns-in-Err-NumbersSpent-clause-spent g c same told =
    let v = c.args.queue.now in
    let r = row_of c.args.row.now in
    one_spent v r (subst (λ (id : List ℕ). IsSpent (numbers_spent (frame_size id r.event) v) (Err w.NumbersSpent)) c.id_of.ensures.id (rw c.in-Err-NumbersSpent.field-0-is at c.in-Err-NumbersSpent.ensures.spent))
