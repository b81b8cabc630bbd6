use Rattle.std.proofs.Common.{◌∙◌, ◌++◌, ◌∷◌, [], ◌-◌, ◌+◌, ap, List, ℕ}
use Rattle.event_tree.specs.declared.value.Value.{Value}
use Rattle.std.proofs.lemmas.Result.{err_from_is_err_and}
use Rattle.crc_frame.proofs.Repeats.{with_front, repeats_on}
use Rattle.element_code.specs.Reading.{value_at, list_at, object_at, last_key, members_at}
use Rattle.element_code.proofs.LastKeys.{last_key-push}
use Rattle.element_code.proofs.Loops.{members_on, members_stop_key}
use Rattle.element_code.proofs.reading.+read.Goals as goal

pub fields_of-returns-in_err-key : goal.fields_of-returns-in_err-key
fields_of-returns-in_err-key t c =
    let p = err_from_is_err_and c.from_residual-in_err-key.result c.from_residual-in_err-key.ensures.1 in
    rw (p.1, p.2) (members_stop_key (value_at c.args.levels) c.in_ok-count.count c.loop.counter c.loop.fields (last_key c.loop.fields) c.loop.rest.now (object_at (value_at c.args.levels) c.args.bytes.now) c.loop-test.true c.loop.invariant c.in_err-key.field-0.0 c.in_err-key.ensures.key)

pub fields_of-loop-preserved : goal.fields_of-loop-preserved
fields_of-loop-preserved t c =
    let read = value_at c.args.levels in
    let m : List ℕ × Value = (c.in_ok-key.key, c.in_ok-value.value) in
    let on = members_on read c.in_ok-count.count c.loop.counter c.loop.fields (last_key c.loop.fields) c.loop.rest.now (object_at read c.args.bytes.now) c.loop-test.true c.loop.invariant c.in_ok-key.key c.in_ok-key.own.now c.in_ok-value.value c.in_ok-value.after.now c.in_ok-key.ensures.key c.in_ok-value.ensures in
    let left = c.in_ok-count.count - (c.loop.counter + 1) in
    rw c.in_ok-push.ensures.ok (ap (λ last. with_front (c.loop.fields ++ m ∷ []) (members_at read last left c.in_ok-value.after.now)) (last_key-push c.loop.fields m) ∙ on)

pub items_of-loop-preserved : goal.items_of-loop-preserved
items_of-loop-preserved t c =
    let total = list_at (value_at c.args.levels) c.args.bytes.now in
    rw c.in_ok-push.ensures.ok (repeats_on (value_at c.args.levels) c.in_ok-count.count c.loop.counter c.loop.items c.loop.rest.now total c.in_ok-item.item c.in_ok-item.after.now c.loop-test.true c.in_ok-item.ensures c.loop.invariant)
