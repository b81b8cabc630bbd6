use Rattle.std.proofs.Common.{◌≡◌, ◌+◌, ◌-◌, Some, Err, sym, ap, subst, ◌∙◌, arith, option_map}
use Rattle.event_tree.specs.Growth.{room_at_end}
use Rattle.event_tree.specs.Events.{IsEvent, event_size, object_put, event_put, limited, object_of}
use Rattle.event_tree.specs.Outcomes.{Passes, PutsWithin}
use Rattle.event_tree.specs.declared.fault.PutFault.TheVariants.{Memory}
use Rattle.event_tree.proofs.EventPuts.{passes_all}
use Rattle.event_tree.proofs.EventMoves.{event_left, at_event, refused_with, object_is, flat}
use Rattle.event_tree.proofs.event.Event.check_move.Goals as goal

pub returns-in-Ok : goal.returns-in-Ok
returns-in-Ok c =
    let w = c.args.from.now in
    let u = c.args.to.now in
    let e = c.args.self.now in
    let d = c.in_ok-found.found.value.now in
    let bytes = c.in_ok-found.found.bytes in
    let room = 16777216 - c.self.inside.size + bytes in
    let there = c.in_ok-found.ensures in
    let left = there.0 in
    let is = subst IsEvent c.self.view_is c.self.invariant.0 in
    let whole : c.self.inside.size ≡ event_size e = subst (λ x. c.self.inside.size ≡ event_size x) c.self.view_is c.self.invariant.1 in
    let lis = event_left e is d w.meta w.parts left (omega (arith, there.2, is.small)) there.1 in
    let full : room + event_size left ≡ 16777216 = omega (arith, whole, there.2, is.small) in
    let found = c.room_behind-free.ensures d left there.1 there.2 in
    let p = subst (λ ps. Passes c.room_behind-free.result ps d c.in-Ok.field-0) c.parts.ensures.given c.in-Ok.ensures.passes in
    let fits = passes_all c.room_behind-free.result u.parts d c.in-Ok.field-0 p room (object_of u left) found (object_is u left lis) (flat u left lis) in
    let said = (at_event left lis u.meta u.parts d room full Memory fits).0 in
    (said.0, ap (option_map (λ r. limited (event_put u r.0 r.1))) there.1 ∙ ap Some said.1)

pub returns-in-Err : goal.returns-in-Err
returns-in-Err c =
    let w = c.args.from.now in
    let u = c.args.to.now in
    let e = c.args.self.now in
    let d = c.in_ok-found.found.value.now in
    let bytes = c.in_ok-found.found.bytes in
    let fault = c.in-Err.fault in
    let room = 16777216 - c.self.inside.size + bytes in
    let there = c.in_ok-found.ensures in
    let left = there.0 in
    let is = subst IsEvent c.self.view_is c.self.invariant.0 in
    let whole : c.self.inside.size ≡ event_size e = subst (λ x. c.self.inside.size ≡ event_size x) c.self.view_is c.self.invariant.1 in
    let lis = event_left e is d w.meta w.parts left (omega (arith, there.2, is.small)) there.1 in
    let full : room + event_size left ≡ 16777216 = omega (arith, whole, there.2, is.small) in
    let found = c.room_behind-free.ensures d left there.1 there.2 in
    let refused = subst (λ ps. PutsWithin (Err fault) (object_put ps d (object_of u left)) room (object_of u left) (object_of u left)) c.parts.ensures.given
    (c.in-Err.ensures.refused room (object_of u left) (found ∙ ap (λ ps. room_at_end room ps (object_of u left)) (sym c.parts.ensures.given)) (object_is u left lis) (flat u left lis)) in
    (ap (option_map (λ r. limited (event_put u r.0 r.1))) there.1 ∙ ap Some (refused_with fault (limited (event_put u d left)) left c.in-Err.ensures.known (at_event left lis u.meta u.parts d room full fault refused)), c.in-Err.ensures.known)
