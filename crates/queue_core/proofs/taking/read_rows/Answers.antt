use Rattle.std.proofs.Common.{◌++◌, ◌∷◌, [], Result, refl}
use Rattle.io_traits.specs.declared.queue_faults.Damage.{Damage}
use Rattle.queue_core.specs.Taking.{Stand, stand, pages_read}
use Rattle.queue_core.proofs.PagesRead.{any_view}
use Rattle.queue_core.proofs.RowReads.{handed_on}
use Rattle.queue_core.proofs.taking.read_rows.Goals as goal

pub returns-in_err-read_all-clause-rows : goal.returns-in_err-read_all-clause-rows
returns-in_err-read_all-clause-rows g c = λ names told there kept.
    let old = g.S.Store.seen c.args.store.now in
    let fault = c.in_err-read_all.field-0.0 in
    let view : Unit {0} → Stand = λ x. stand c.read_all.new.page c.read_all.new.reading in
    let whole : Result Stand Damage = pages_read old (c.args.tails.now ++ c.args.top.now ∷ []) (stand c.args.page.now c.args.reading) in
    handed_on _ c.from_residual.result fault whole whole c.from_residual.ensures.1 refl
    (λ other. any_view old view other fault whole (c.in_err-read_all.ensures.rows names told there kept))
