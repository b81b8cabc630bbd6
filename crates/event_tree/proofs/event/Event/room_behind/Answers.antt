use Rattle.std.proofs.Common.{◌≡◌, [], if◌then◌else◌, sym, ap, ◌∙◌, arith, rules}
use Rattle.event_tree.specs.Sizes.{size}
use Rattle.event_tree.specs.Paths.{take}
use Rattle.event_tree.specs.Growth.{room_at_end}
use Rattle.event_tree.specs.Events.{object_of}
use Rattle.event_tree.specs.declared.value.Value.TheVariants as v
use Rattle.event_tree.proofs.Sizes.{size-Object}
use Rattle.event_tree.proofs.EventMoves.{leaves}
use Rattle.event_tree.proofs.event.Event.room_behind.Goals as goal

pub room_at-requires-then-is_whole_meta : goal.room_at-requires-then-is_whole_meta
room_at-requires-then-is_whole_meta c =
    let s : size (v.Object c.new.result) ≡ size (v.Object []) = ap (λ ms. size (v.Object ms)) c.new.ensures in
    omega (arith, s, size-Object [], c.requires.room)

pub returns : goal.returns
returns c taken left h s =
    let w = c.args.from.now in
    let u = c.args.to.now in
    let e = c.args.self.now in
    let same : u.meta ≡ w.meta = search rules in
    let l = leaves e c.object_at-target.ensures.valid taken w.meta w.parts left (sym c.is_whole_meta.ensures ∙ c.if-is_whole_meta.false) h in
    let t : c.object_at-target.result.now ≡ object_of w e = c.object_at-target.ensures.same ∙ ap (λ m. if m then e.meta else e.fields) same in
    let z : size c.object_at-target.result.now ≡ size (object_of w e) = ap size t in
    c.room_behind.ensures taken l.rest (ap (λ ps. take ps c.object_at-target.result.now) c.parts-2.ensures.given ∙ ap (take w.parts) t ∙ l.taken) (omega (arith, s, l.size_is, z))
    ∙ ap (λ ps. room_at_end c.args.room ps l.rest) c.parts-3.ensures.given
    ∙ ap (room_at_end c.args.room u.parts) (sym (ap (λ m. if m then left.meta else left.fields) same ∙ l.rest_is))
