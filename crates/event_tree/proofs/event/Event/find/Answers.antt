use Rattle.std.proofs.Common.{◌≡◌, ◌-◌, ◌+◌, Some, sym, ap, subst, ◌∙◌, arith}
use Rattle.event_tree.specs.Sizes.{size}
use Rattle.event_tree.specs.Paths.{take}
use Rattle.event_tree.specs.Events.{IsEvent, event_size}
use Rattle.event_tree.specs.Outcomes.{Finds}
use Rattle.event_tree.proofs.EventPuts.{size-object}
use Rattle.event_tree.proofs.EventMoves.{finds_at, finds_whole}
use Rattle.event_tree.proofs.event.Event.find.Goals as goal

pub overflow_sub-bytes : goal.overflow_sub-bytes
overflow_sub-bytes c = omega (arith, c.size_of-bytes.ensures, size-object c.self.inside.meta c.self.invariant.0.meta_object)

pub returns-then-is_whole_meta : goal.returns-then-is_whole_meta
returns-then-is_whole_meta c =
    let e = c.args.self.now in
    let is = subst IsEvent c.self.view_is c.self.invariant.0 in
    let m : e.meta ≡ c.self.inside.meta = ap (λ x. x.meta) (sym c.self.view_is) in
    let r = finds_whole e is c.args.path.now.meta c.args.path.now.parts (sym c.is_whole_meta.ensures ∙ c.if-is_whole_meta.true) in
    (r.0, r.1 ∙ ap (λ y. Some (y, r.0)) m, ap (λ n. event_size r.0 + (n - 5)) (c.size_of-bytes.ensures ∙ ap size (sym m)) ∙ r.2)

pub returns : goal.returns
returns c =
    let w = c.args.path.now in
    let e = c.args.self.now in
    finds_at e c.object_at.ensures.valid c.find.result w.meta w.parts (sym c.is_whole_meta.ensures ∙ c.if-is_whole_meta.false)
    (subst (λ d. Finds c.find.result (take w.parts d) d) c.object_at.ensures.same (subst (λ ps. Finds c.find.result (take ps c.object_at.result.now) c.object_at.result.now) c.parts.ensures.given c.find.ensures))
