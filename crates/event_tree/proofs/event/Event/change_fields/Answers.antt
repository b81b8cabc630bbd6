use Rattle.std.proofs.Common.{◌≡◌, ◌+◌, ◌-◌, Err, subst, arith}
use Rattle.std.specs.Option.{option_map}
use Rattle.event_tree.specs.Events.{both, event_size, with_fields, limited}
use Rattle.event_tree.specs.Outcomes.{PutsEvent, changed}
use Rattle.event_tree.proofs.EventPuts.{fields_refusal, change_kept}
use Rattle.event_tree.proofs.event.Event.change_fields.Goals as goal

pub overflow_sub-self : goal.overflow_sub-self
overflow_sub-self c =
    let k = change_kept c.self.inside.fields c.self.inside.meta c.self.invariant.0 c.self.inside.size c.self.invariant.1 c.args.parts.now c.change_within.new.target c.args.how c.args.value c.in-Ok.left c.in-Ok.ensures in
    omega (arith, k.1)

pub invariant_of-self : goal.invariant_of-self
invariant_of-self c =
    let k = change_kept c.self.inside.fields c.self.inside.meta c.self.invariant.0 c.self.inside.size c.self.invariant.1 c.args.parts.now c.change_within.new.target c.args.how c.args.value c.in-Ok.left c.in-Ok.ensures in
    (k.0, omega (arith, k.1))

pub returns-in-Err : goal.returns-in-Err
returns-in-Err c =
    let ps = c.args.parts.now in
    let d = c.args.value in
    let how = c.args.how in
    let old = c.self.inside.fields in
    let new = c.change_within.new.target in
    let full : 16777216 - c.self.inside.size + event_size (both c.self.inside.fields c.self.inside.meta) ≡ 16777216 = omega (arith, c.self.invariant.1, c.self.invariant.0.small) in
    subst (λ e. PutsEvent (Err c.in-Err.fault) (limited (option_map (with_fields e) (changed how ps d e.fields))) e (both new c.self.inside.meta)) c.self.view_is
    (fields_refusal c.self.inside.fields c.self.inside.meta c.self.invariant.0 (changed how ps d old) (16777216 - c.self.inside.size) full c.in-Err.fault new c.in-Err.ensures)
