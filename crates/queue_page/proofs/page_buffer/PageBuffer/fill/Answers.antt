use Rattle.std.proofs.Common.{◌≡◌, ◌≤◌, length, take, sym, subst, arith}
use Rattle.std.proofs.lemmas.List.{with_items_is}
use Rattle.io_traits.specs.Reads.{bytes_of}
use Rattle.queue_page.specs.Blocks.{IsFront, left_of, window_of}
use Rattle.queue_page.proofs.Fronts.{window_front, read_front}
use Rattle.queue_page.proofs.page_buffer.PageBuffer.fill.Goals as goal

pub returns-then-has-clause-front : goal.returns-then-has-clause-front
returns-then-has-clause-front g c = λ told part end order within.
    let has = c.has.ensures c.if-has.true in
    window_front (bytes_of (g.S.Store.seen c.args.store.now c.args.name.now)) c.args.self.now c.args.place c.args.count end part has.0 has.1 order within

pub returns-clause-front : goal.returns-clause-front
returns-clause-front g c = λ told part end order within.
    let gives = c.in_ok-self-inside.ensures.gives told in
    let file = bytes_of (g.S.Store.seen c.args.store.now c.args.name.now) in
    let room = c.widen.new.room in
    let into = c.read.new.into in
    let n = c.in_ok-self-inside.field-0 in
    let whole : length into ≡ room.len = omega (arith, c.read.auto.into, c.deref_mut.ensures.len, c.deref_mut.ensures.value) in
    let wide : c.args.count ≤ length c.deref_mut.result.now = omega (arith, c.in_ok-widen.ensures, c.deref_mut.ensures.len) in
    let front = read_front file into c.args.place c.args.count end (length c.deref_mut.result.now) n gives.bytes wide order within in
    subst (λ items. IsFront (left_of file c.args.place end) c.args.count (window_of (record { place = c.args.place; bytes = take n items }) c.args.place end)) (sym (with_items_is room into whole)) front
