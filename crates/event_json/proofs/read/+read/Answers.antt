use Rattle.std.proofs.Common.{◌∷◌, ◌++◌, [], length, List, ℕ, Ok, refl, sym, ap, ◌∙◌, rules}
use Rattle.std.proofs.lemmas.Result.{err_from_is_err_and}
use Rattle.plain_data.specs.Members.{insert_member}
use Rattle.event_tree.specs.declared.value.Value.{Value}
use Rattle.event_json.specs.Reading.{spaced_at, item_at, member_at, entry_at, node_at}
use Rattle.event_json.proofs.Loops.{closes, goes_on, stops_after, fails, fails_on, runs_out, item_read, member_read, list_ok, list_fails, object_ok, object_fails, text_ok, text_fails, node_list, node_object, list_deep, object_deep, node_scalar}
use Rattle.event_json.specs.Gathered.{put_all}
use Rattle.event_json.proofs.Gathered.{pushed}
use Rattle.event_json.proofs.read.+read.Goals as goal

pub items-returns-in_err-item : goal.items-returns-in_err-item
items-returns-in_err-item t c =
    let node = node_at c.args.levels in
    let p = err_from_is_err_and c.from_residual.result c.from_residual.ensures.1 in
    rw (p.1, p.2) (fails 93 (item_at node) c.in_err-item.field-0.0 (length c.args.text.now) c.loop.counter c.loop.found c.loop.rest.now _ c.loop-test.true (fails_on c.in_err-item.field-0.0 (spaced_at node c.loop.rest.now) (λ x. Ok (c.loop.found ++ x.0 ∷ [], x.1)) c.in_err-item.ensures) c.loop.invariant.so_far)

pub items-returns-in-Some : goal.items-returns-in-Some
items-returns-in-Some t c =
    let node = node_at c.args.levels in
    closes 93 (item_at node) (length c.args.text.now) c.loop.counter c.loop.found c.push.new.self c.loop.rest.now c.in_ok-item.after.now c.in-Some.behind.now _ refl c.loop-test.true
    (item_read node c.loop.found c.loop.rest.now c.in_ok-item.after.now c.in_ok-item.item c.in_ok-item.ensures ∙ ap (λ (ds : List Value). Ok (ds, c.in_ok-item.after.now)) (sym c.in_ok-push.ensures.ok)) c.in-Some.ensures c.loop.invariant.so_far

pub items-returns-in_default-after_byte : goal.items-returns-in_default-after_byte
items-returns-in_default-after_byte t c =
    let node = node_at c.args.levels in
    rw (c.stopped.ensures, c.as_bytes.ensures.value) (stops_after 93 (item_at node) (length c.args.text.now) c.loop.counter c.loop.found c.push.new.self c.loop.rest.now c.in_ok-item.after.now _ c.loop-test.true
    (item_read node c.loop.found c.loop.rest.now c.in_ok-item.after.now c.in_ok-item.item c.in_ok-item.ensures ∙ ap (λ (ds : List Value). Ok (ds, c.in_ok-item.after.now)) (sym c.in_ok-push.ensures.ok)) c.in_default.ensures c.in_default-after_byte.ensures c.loop.invariant.so_far)

pub items-loop-preserved : goal.items-loop-preserved
items-loop-preserved t c =
    let node = node_at c.args.levels in
    record {
      utf8 = search rules;
      so_far = goes_on 93 (item_at node) (length c.args.text.now) c.loop.counter c.loop.found c.push.new.self c.loop.rest.now c.in_ok-item.after.now c.in-Some-after_byte.more.now _ refl c.loop-test.true
          (item_read node c.loop.found c.loop.rest.now c.in_ok-item.after.now c.in_ok-item.item c.in_ok-item.ensures ∙ ap (λ (ds : List Value). Ok (ds, c.in_ok-item.after.now)) (sym c.in_ok-push.ensures.ok)) c.in-Some-after_byte.ensures c.loop.invariant.so_far;
    }

pub items-returns : goal.items-returns
items-returns t c = rw (c.stopped-2.ensures, c.as_bytes-2.ensures.value) (runs_out 93 (item_at (node_at c.args.levels)) (length c.args.text.now) c.loop.counter c.loop.found c.loop.rest.now _ c.loop-test.false c.loop.invariant.so_far)

pub list-returns-in_err-found : goal.list-returns-in_err-found
list-returns-in_err-found t c =
    let p = err_from_is_err_and c.from_residual.result c.from_residual.ensures.1 in
    rw (p.1, p.2) (list_fails (node_at c.args.levels) c.in_err-found.field-0.0 c.args.text.now c.unspaced-inside.result.now c.unspaced-inside.ensures c.in_default.ensures c.in_err-found.ensures)

pub list-returns : goal.list-returns
list-returns t c = list_ok (node_at c.args.levels) c.args.text.now c.unspaced-inside.result.now c.in_ok-found.rest.now c.in_ok-found.found c.unspaced-inside.ensures c.in_default.ensures c.in_ok-found.ensures

pub members-returns-in_err-key : goal.members-returns-in_err-key
members-returns-in_err-key t c =
    let node = node_at c.args.levels in
    let p = err_from_is_err_and c.from_residual.result c.from_residual.ensures.1 in
    rw (p.1, p.2) (fails 125 (member_at node) c.in_err-key.field-0.0 (length c.args.text.now) c.loop.counter (put_all [] c.loop.found.items) c.loop.rest.now _ c.loop-test.true (fails_on c.in_err-key.field-0.0 (entry_at node c.loop.rest.now) (λ x. Ok (insert_member x.0.0 x.0.1 (put_all [] c.loop.found.items), x.1)) c.in_err-key.ensures) c.loop.invariant.so_far)

pub members-returns-in-Some : goal.members-returns-in-Some
members-returns-in-Some t c =
    let node = node_at c.args.levels in
    closes 125 (member_at node) (length c.args.text.now) c.loop.counter (put_all [] c.loop.found.items) (put_all [] c.add_pair.new.pairs.items) c.loop.rest.now c.in_ok-key.after.now c.in-Some.behind.now _ refl c.loop-test.true
    (member_read node (put_all [] c.loop.found.items) c.loop.rest.now c.in_ok-key.after.now c.in_ok-key.key c.in_ok-key.value c.in_ok-key.ensures ∙ ap (λ (ms : List (List ℕ × Value)). Ok (ms, c.in_ok-key.after.now)) (sym (pushed c.loop.found.items c.add_pair.new.pairs.items (c.in_ok-key.key, c.in_ok-key.value) c.in_ok-add_pair.ensures))) c.in-Some.ensures c.loop.invariant.so_far

pub members-returns-in_default-after_byte : goal.members-returns-in_default-after_byte
members-returns-in_default-after_byte t c =
    let node = node_at c.args.levels in
    rw (c.stopped.ensures, c.as_bytes.ensures.value) (stops_after 125 (member_at node) (length c.args.text.now) c.loop.counter (put_all [] c.loop.found.items) (put_all [] c.add_pair.new.pairs.items) c.loop.rest.now c.in_ok-key.after.now _ c.loop-test.true
    (member_read node (put_all [] c.loop.found.items) c.loop.rest.now c.in_ok-key.after.now c.in_ok-key.key c.in_ok-key.value c.in_ok-key.ensures ∙ ap (λ (ms : List (List ℕ × Value)). Ok (ms, c.in_ok-key.after.now)) (sym (pushed c.loop.found.items c.add_pair.new.pairs.items (c.in_ok-key.key, c.in_ok-key.value) c.in_ok-add_pair.ensures))) c.in_default.ensures c.in_default-after_byte.ensures c.loop.invariant.so_far)

pub members-loop-preserved : goal.members-loop-preserved
members-loop-preserved t c =
    let node = node_at c.args.levels in
    record {
      utf8 = search rules;
      so_far = goes_on 125 (member_at node) (length c.args.text.now) c.loop.counter (put_all [] c.loop.found.items) (put_all [] c.add_pair.new.pairs.items) c.loop.rest.now c.in_ok-key.after.now c.in-Some-after_byte.more.now _ refl c.loop-test.true
          (member_read node (put_all [] c.loop.found.items) c.loop.rest.now c.in_ok-key.after.now c.in_ok-key.key c.in_ok-key.value c.in_ok-key.ensures ∙ ap (λ (ms : List (List ℕ × Value)). Ok (ms, c.in_ok-key.after.now)) (sym (pushed c.loop.found.items c.add_pair.new.pairs.items (c.in_ok-key.key, c.in_ok-key.value) c.in_ok-add_pair.ensures))) c.in-Some-after_byte.ensures c.loop.invariant.so_far;
    }

pub members-returns : goal.members-returns
members-returns t c = rw (c.stopped-2.ensures, c.as_bytes-2.ensures.value) (runs_out 125 (member_at (node_at c.args.levels)) (length c.args.text.now) c.loop.counter (put_all [] c.loop.found.items) c.loop.rest.now _ c.loop-test.false c.loop.invariant.so_far)

pub node-returns-in_err-found : goal.node-returns-in_err-found
node-returns-in_err-found t c =
    let p = err_from_is_err_and c.from_residual.result c.from_residual.ensures.1 in
    rw (p.1, p.2) (text_fails c.args.levels c.args.text.now c.in-Some.rest.now c.in_err-found.field-0.0 c.in-Some.ensures c.in_err-found.ensures)

pub node-returns-in-Some : goal.node-returns-in-Some
node-returns-in-Some t c = text_ok c.args.levels c.args.text.now c.in-Some.rest.now c.in_ok-found.rest.now c.in_ok-found.found c.in-Some.ensures c.in_ok-found.ensures

pub node-returns-then-levels-eq0 : goal.node-returns-then-levels-eq0
node-returns-then-levels-eq0 t c = list_deep c.args.levels c.args.text.now c.in-Some-after_byte.rest.now c.in-Some-after_byte.ensures c.if-levels-eq0.true

pub node-returns-in-Some-after_byte : goal.node-returns-in-Some-after_byte
node-returns-in-Some-after_byte t c = rw (node_list c.args.levels c.args.text.now c.in-Some-after_byte.rest.now c.in-Some-after_byte.ensures c.if-levels-eq0.false) c.list.ensures

pub node-returns-then-levels-eq0-2 : goal.node-returns-then-levels-eq0-2
node-returns-then-levels-eq0-2 t c = object_deep c.args.levels c.args.text.now c.in-Some-after_byte-2.rest.now c.in-Some-after_byte-2.ensures c.if-levels-eq0-2.true

pub node-returns-in-Some-after_byte-2 : goal.node-returns-in-Some-after_byte-2
node-returns-in-Some-after_byte-2 t c = rw (node_object c.args.levels c.args.text.now c.in-Some-after_byte-2.rest.now c.in-Some-after_byte-2.ensures c.if-levels-eq0-2.false) c.object.ensures

pub node-returns : goal.node-returns
node-returns t c = rw (node_scalar c.args.levels c.args.text.now c.in_default.ensures c.in_default-after_byte.ensures c.in_default-after_byte-2.ensures) c.scalar.ensures

pub object-returns-in_err-pairs : goal.object-returns-in_err-pairs
object-returns-in_err-pairs t c =
    let p = err_from_is_err_and c.from_residual.result c.from_residual.ensures.1 in
    rw (p.1, p.2) (object_fails (node_at c.args.levels) c.in_err-pairs.field-0.0 c.args.text.now c.unspaced-inside.result.now c.unspaced-inside.ensures c.in_default.ensures c.in_err-pairs.ensures)

pub object-returns : goal.object-returns
object-returns t c =
    object_ok (node_at c.args.levels) c.args.text.now c.unspaced-inside.result.now c.in_ok-pairs.rest.now c.in_ok-gathered.field-0 c.unspaced-inside.ensures c.in_default.ensures (c.in_ok-pairs.ensures ∙ ap (λ (ms : List (List ℕ × Value)). Ok (ms, c.in_ok-pairs.rest.now)) (sym c.in_ok-gathered.ensures))
