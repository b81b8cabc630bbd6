use Rattle.std.proofs.Common.{◌≡◌, ◌+◌, ◌-◌, Some, length, slice_get, sym, ap, subst, arith}
use Rattle.io_traits.specs.Moments.{EachMoment}
use Rattle.pipeline_bus.specs.Ends.{sending}
use Rattle.dead_letter_reader.specs.Places.{Passes}
use Rattle.dead_letter_reader.specs.Ready.{LeavesEither, Says}
use Rattle.dead_letter_reader.specs.Steps.{recorded_at}
use Rattle.dead_letter_reader.specs.Work.{work}
use Rattle.dead_letter_reader.proofs.Passing.{passes_more}
use Rattle.dead_letter_reader.proofs.Leaving.{ready_leaves, recorded_leaves}
use Rattle.dead_letter_reader.proofs.Hearing.{assured_passes, at_place, heard_ready, hears_assured, hears_refused}
use Rattle.dead_letter_reader.proofs.sender.DeadSender.hear.Goals as goal

pub returns-in_default-clause-any_moment : goal.returns-in_default-clause-any_moment
returns-in_default-clause-any_moment g c = let w = work c.args.self.now in ready_leaves g.S.Store g.met.S.Store.images_tell w c.args.store.now w.done c.requires.ready (omega arith)

pub overflow_add-self : goal.overflow_add-self
overflow_add-self g c = omega (arith, c.requires.ready.sending.within, ap length c.as_slice-rows.ensures)

pub returns-in-NotListening-clause-ready : goal.returns-in-NotListening-clause-ready
returns-in-NotListening-clause-ready g c =
    let w = work c.args.self.now in
    let ready = c.requires.ready in
    heard_ready g.S.Store w _ c.args.store.now c.args.store.now ready (hears_refused w c.in-Some.answer (sending c.answer.new.self) c.requires.out c.in-Some.ensures.number c.in-NotListening.is c.in-Some.ensures.heard) ready.file ready.passes

pub returns-in-NotListening-clause-any_moment : goal.returns-in-NotListening-clause-any_moment
returns-in-NotListening-clause-any_moment g c = let w = work c.args.self.now in ready_leaves g.S.Store g.met.S.Store.images_tell w c.args.store.now w.done c.requires.ready (omega arith)

pub returns-in_ok-self-in-Assured-clause-hears : goal.returns-in_ok-self-in-Assured-clause-hears
returns-in_ok-self-in-Assured-clause-hears g c =
    let w = work c.args.self.now in
    let at : slice_get w.rows (w.done + w.out - 1) ≡ Some c.index-rows-self.result = at_place w c.as_slice-rows.result.now c.index-rows-self.result c.requires.ready.sending c.requires.out c.as_slice-rows.ensures c.index-rows-self.is in
    hears_assured w c.in-Some.answer c.in_ok-self-in-Assured.field-0 (sending c.answer.new.self) c.index-rows-self.result c.requires.out c.in-Some.ensures.number c.in-Assured.is at c.in_ok-self-in-Assured.ensures.recorded c.in-Some.ensures.heard

pub returns-in_ok-self-in-Assured-clause-ready : goal.returns-in_ok-self-in-Assured-clause-ready
returns-in_ok-self-in-Assured-clause-ready g c =
    let w = work c.args.self.now in
    let last = c.index-rows-self.result in
    let recorded = c.in_ok-self-in-Assured.field-0 in
    let ready = c.requires.ready in
    let at : slice_get w.rows (w.done + w.out - 1) ≡ Some last = at_place w c.as_slice-rows.result.now last c.requires.ready.sending c.requires.out c.as_slice-rows.ensures c.index-rows-self.is in
    let says = subst (λ f. Says g.S.Store f recorded c.record.new.store) c.as_str.ensures c.in_ok-self-in-Assured.ensures.says in
    heard_ready g.S.Store w _ c.args.store.now c.record.new.store ready
    (hears_assured w c.in-Some.answer recorded (sending c.answer.new.self) last c.requires.out c.in-Some.ensures.number c.in-Assured.is at c.in_ok-self-in-Assured.ensures.recorded c.in-Some.ensures.heard) says
    (λ told. subst (Passes w.rows (w.done + w.out)) (sym c.in_ok-self-in-Assured.ensures.recorded) (assured_passes g.S.Store w c.args.store.now last ready c.requires.out at told))

pub returns-in_ok-self-in-Assured-clause-any_moment : goal.returns-in_ok-self-in-Assured-clause-any_moment
returns-in_ok-self-in-Assured-clause-any_moment g c =
    let w = work c.args.self.now in
    let last = c.index-rows-self.result in
    let ready = c.requires.ready in
    let at : slice_get w.rows (w.done + w.out - 1) ≡ Some last = at_place w c.as_slice-rows.result.now last c.requires.ready.sending c.requires.out c.as_slice-rows.ensures c.index-rows-self.is in
    let run = subst (λ f. EachMoment g.S.Store c.args.store.now c.record.new.store (LeavesEither g.S.Store f w.recorded (recorded_at w.recorded last) c.args.store.now)) c.as_str.ensures c.record.ensures.any_moment in
    recorded_leaves g.S.Store g.met.S.Store.images_tell w.file w.rows (w.done + w.out) w.recorded (recorded_at w.recorded last) c.args.store.now c.record.new.store
    (λ told. passes_more w.rows w.done (w.done + w.out) w.recorded (ready.passes told) (omega arith)) (assured_passes g.S.Store w c.args.store.now last ready c.requires.out at) run

pub returns-in_err-self-in-Assured-clause-any_moment : goal.returns-in_err-self-in-Assured-clause-any_moment
returns-in_err-self-in-Assured-clause-any_moment g c =
    let w = work c.args.self.now in
    let last = c.index-rows-self.result in
    let ready = c.requires.ready in
    let at : slice_get w.rows (w.done + w.out - 1) ≡ Some last = at_place w c.as_slice-rows.result.now last c.requires.ready.sending c.requires.out c.as_slice-rows.ensures c.index-rows-self.is in
    let run = subst (λ f. EachMoment g.S.Store c.args.store.now c.record.new.store (LeavesEither g.S.Store f w.recorded (recorded_at w.recorded last) c.args.store.now)) c.as_str.ensures c.record.ensures.any_moment in
    recorded_leaves g.S.Store g.met.S.Store.images_tell w.file w.rows (w.done + w.out) w.recorded (recorded_at w.recorded last) c.args.store.now c.record.new.store
    (λ told. passes_more w.rows w.done (w.done + w.out) w.recorded (ready.passes told) (omega arith)) (assured_passes g.S.Store w c.args.store.now last ready c.requires.out at) run
