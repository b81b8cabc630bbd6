use Rattle.std.proofs.Common.{option_map}
use Rattle.element_code.specs.Behind.{behind}
use Rattle.element_code.specs.Reading.{value_at, list_at, object_at}
use Rattle.element_code.proofs.Behind.{items_on, members_on}
use Rattle.element_code.proofs.testing.+skip.Goals as goal

pub behind_list-loop-preserved : goal.behind_list-loop-preserved
behind_list-loop-preserved t c =
    let read = value_at c.args.levels in
    items_on read c.in_ok-count.count c.loop.counter c.loop.rest.now (behind (list_at read c.args.bytes.now)) c.loop-test.true c.loop.invariant c.in_ok-rest.rest.now c.in_ok-rest.ensures.reads

pub behind_object-loop-preserved : goal.behind_object-loop-preserved
behind_object-loop-preserved t c =
    let read = value_at c.args.levels in
    members_on read c.in_ok-count.count c.loop.counter (option_map (λ s. s.now) c.loop.last) c.loop.rest.now (behind (object_at read c.args.bytes.now)) c.loop-test.true c.loop.invariant
    c.in_ok-key.key.now c.in_ok-key.own.now c.in_ok-rest.rest.now c.in_ok-key.ensures.reads c.in_ok-rest.ensures.reads
