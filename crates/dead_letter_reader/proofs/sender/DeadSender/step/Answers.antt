use Rattle.std.proofs.Common.{◌≡◌, inl, inr, Ok, Err, refl, sym, subst, arith}
use Rattle.io_traits.specs.declared.queue_faults.QueueFault.TheVariants as f
use Rattle.dead_letter_reader.specs.Steps as step
use Rattle.dead_letter_reader.specs.Steps.{HearsBy, Steps}
use Rattle.dead_letter_reader.specs.declared.sender.SendOutcome.TheVariants as s
use Rattle.dead_letter_reader.specs.Work.{work}
use Rattle.dead_letter_reader.proofs.Working.{ended_only, heard_on, in_order, steps_ended, steps_parcel, steps_sending}
use Rattle.dead_letter_reader.proofs.Leaving.{ready_leaves}
use Rattle.dead_letter_reader.proofs.Hearing.{Took, took_leaves, took_ready, took_steps}
use Rattle.dead_letter_reader.proofs.sender.DeadSender.step.Goals as goal
use Rattle.dead_letter_reader.proofs.sender.DeadSender.step.Goals.{then-self-gt0+in-Ok-true, else-self-gt0}

took : (g : _) (c : goal.After-send g) → Took g.S.Store (work c.args.self.now) c.args.store.now (work c.if-self-gt0.self) c.if-self-gt0.store
took g c =
    let w = work c.args.self.now in
    let old = c.args.store.now in
    elim c.if-self-gt0.branch [
      | then-self-gt0+in-Ok-true e ↦
          let mid = work e.hear.new.self in
          let h = subst (λ b. HearsBy (Ok b) w mid) e.in-Ok-true.field-0-test e.in-Ok-true.ensures.hears in
          let there : Took g.S.Store w old mid e.hear.new.store
          = record { come = inr h; ready = e.in-Ok-true.ensures.ready; none = (heard_on w mid c.requires.ready.sending h).none; moments = e.hear.ensures.any_moment } in
          subst (λ d. Took g.S.Store w old (work d) c.if-self-gt0.store) (sym e.self-is) (subst (λ s. Took g.S.Store w old mid s) (sym e.store-is) there)
      | else-self-gt0 e ↦
          let none : w.out ≡ 0 = omega (arith, e.if-self-gt0.false) in
          let there : Took g.S.Store w old w old
          = record { come = inl (none, refl); ready = c.requires.ready; none = none; moments = ready_leaves g.S.Store g.met.S.Store.images_tell w old w.done c.requires.ready (omega arith) } in
          subst (λ d. Took g.S.Store w old (work d) c.if-self-gt0.store) (sym e.self-is) (subst (λ s. Took g.S.Store w old w s) (sym e.store-is) there)
    ]

stepped : (g : _) (c : goal.After-send g) → Steps (work c.args.self.now) (work c.send.new.self) c.send.result
stepped g c = took_steps g.S.Store (work c.args.self.now) c.args.store.now (work c.if-self-gt0.self) c.if-self-gt0.store (took g c) (work c.send.new.self) c.send.result c.send.ensures.pushes

pub returns-in-Ok-false-clause-in_order : goal.returns-in-Ok-false-clause-in_order
returns-in-Ok-false-clause-in_order g c =
    let w = work c.args.self.now in
    let v = work c.hear.new.self in
    let waited = subst (λ b. HearsBy (Ok b) w v) c.in-Ok-false.field-0-test c.in-Ok-false.ensures.hears in
    let one : Steps w v (Ok s.NotYet) = step.waits c.if-self-gt0.true waited refl in
    in_order v (steps_sending w v (Ok s.NotYet) c.requires.ready.sending one).0

pub returns-in-Err-clause-in_order : goal.returns-in-Err-clause-in_order
returns-in-Err-clause-in_order g c =
    let w = work c.args.self.now in
    let v = work c.hear.new.self in
    let one : Steps w v (Err f.Fault) = step.fails c.in-Err.ensures.hears refl in
    in_order v (steps_sending w v (Err f.Fault) c.requires.ready.sending one).0

pub returns-clause-steps : goal.returns-clause-steps
returns-clause-steps g c = stepped g c

pub returns-clause-ready : goal.returns-clause-ready
returns-clause-ready g c = λ not. took_ready g.S.Store (work c.args.self.now) c.args.store.now (work c.if-self-gt0.self) c.if-self-gt0.store (took g c) (work c.send.new.self) c.send.result c.send.ensures.pushes

pub returns-clause-in_order : goal.returns-clause-in_order
returns-clause-in_order g c = in_order (work c.send.new.self) (steps_sending (work c.args.self.now) (work c.send.new.self) c.send.result c.requires.ready.sending (stepped g c)).0

pub returns-clause-parcel : goal.returns-clause-parcel
returns-clause-parcel g c = steps_parcel (work c.args.self.now) (work c.send.new.self) c.send.result c.requires.ready.sending (stepped g c)

pub returns-clause-ended : goal.returns-clause-ended
returns-clause-ended g c =
    let w = work c.args.self.now in
    let v = work c.send.new.self in
    (steps_ended w v c.send.result c.requires.ready.sending (stepped g c), ended_only w v c.send.result c.requires.ready.sending (stepped g c))

pub returns-clause-any_moment : goal.returns-clause-any_moment
returns-clause-any_moment g c = took_leaves g.S.Store (work c.args.self.now) c.args.store.now (work c.if-self-gt0.self) c.if-self-gt0.store (took g c) (work c.send.new.self) c.send.result c.send.ensures.pushes
