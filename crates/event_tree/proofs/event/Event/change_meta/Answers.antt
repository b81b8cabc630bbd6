use Rattle.std.proofs.Common.{◌≡◌, ◌+◌, ◌-◌, Err, subst, arith}
use Rattle.std.specs.Option.{option_map}
use Rattle.event_tree.specs.Events.{both, event_size, with_meta, limited}
use Rattle.event_tree.specs.Outcomes.{PutsEvent, changed}
use Rattle.event_tree.proofs.EventPuts.{meta_refusal, change_kept, turned}
use Rattle.event_tree.proofs.event.Event.change_meta.Goals as goal

pub overflow_sub-self : goal.overflow_sub-self
overflow_sub-self c =
    let k = change_kept c.self.inside.meta c.self.inside.fields (turned c.self.inside.fields c.self.inside.meta c.self.invariant.0) c.self.inside.size (omega (arith, c.self.invariant.1)) c.args.parts.now c.change_within.new.target c.args.how c.args.value c.in-Ok.left c.in-Ok.ensures in
    omega (arith, k.1)

pub invariant_of-self : goal.invariant_of-self
invariant_of-self c =
    let k = change_kept c.self.inside.meta c.self.inside.fields (turned c.self.inside.fields c.self.inside.meta c.self.invariant.0) c.self.inside.size (omega (arith, c.self.invariant.1)) c.args.parts.now c.change_within.new.target c.args.how c.args.value c.in-Ok.left c.in-Ok.ensures in
    (turned c.change_within.new.target c.self.inside.fields k.0, omega (arith, k.1))

pub returns-in-Err : goal.returns-in-Err
returns-in-Err c =
    let ps = c.args.parts.now in
    let d = c.args.value in
    let how = c.args.how in
    let old = c.self.inside.meta in
    let new = c.change_within.new.target in
    let full : 16777216 - c.self.inside.size + event_size (both c.self.inside.fields c.self.inside.meta) ≡ 16777216 = omega (arith, c.self.invariant.1, c.self.invariant.0.small) in
    subst (λ e. PutsEvent (Err c.in-Err.fault) (limited (option_map (with_meta e) (changed how ps d e.meta))) e (both c.self.inside.fields new)) c.self.view_is
    (meta_refusal c.self.inside.fields c.self.inside.meta c.self.invariant.0 (changed how ps d old) (16777216 - c.self.inside.size) full c.in-Err.fault new c.in-Err.ensures)
