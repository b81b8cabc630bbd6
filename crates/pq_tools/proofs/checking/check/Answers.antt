use Rattle.std.proofs.Common.{List, ℕ, Ok, Err, sym, ◌∙◌, ap}
use Rattle.pq_tools.specs.Checks.{said_in}
use Rattle.pq_tools.proofs.Endings.{said}
use Rattle.pq_tools.proofs.checking.check.Goals as goal

pub returns-in-Ok-clause-ends : goal.returns-in-Ok-clause-ends
returns-in-Ok-clause-ends g c =
    let content = g.S.Store.seen c.args.store.now in
    said g.O.Sink c.args.order.id _ (Ok c.in-Ok.rows) c.args.out.now c.tell_rows.new.out c.tell_rows.result
    (λ told. sym (c.in-Ok.ensures.rows told) ∙ ap (λ (folder : List ℕ). said_in folder content) c.as_str.ensures) c.tell_rows.ensures.ends

pub returns-in-Err-Damaged-clause-ends : goal.returns-in-Err-Damaged-clause-ends
returns-in-Err-Damaged-clause-ends g c =
    let content = g.S.Store.seen c.args.store.now in
    let h = c.in-Err-Damaged.ensures.rows in
    let found = rw c.in-Err-Damaged.field-0-is at h in
    said g.O.Sink c.args.order.id _ (Err c.in-Err-Damaged.damage) c.args.out.now c.tell_damage.new.out c.tell_damage.result
    (λ told. sym (found told) ∙ ap (λ (folder : List ℕ). said_in folder content) c.as_str.ensures) c.tell_damage.ensures.ends
