use Rattle.std.proofs.Common.{get_or, length, refl, ap, ◌∙◌, arith}
use Rattle.in_tcp.specs.Reads.{left_open}
use Rattle.in_tcp.proofs.Turns.{came_now, next_at, read_closed, read_none, read_open}
use Rattle.in_tcp.proofs.polling.Connected.read_each.Goals as goal

pub loop-place-init : goal.loop-place-init
loop-place-init g c = record { read = read_none g.L.Links c.args.moment c.args.self.now.connections.items c.args.self.now.held.pieces c.args.links.now; rests = refl }

pub read-requires : goal.read-requires
read-requires g c =
    let l = c.loop-place in
    let r = l.invariant.read in
    let all = l.self.connections.items in
    let conn = c.index-conn.result.now in
    let n = next_at g.L.Links (left_open r.so_far.reads) r.so_far.unread l.place conn r.place_is (omega (arith, c.loop-place-test.true, c.len.ensures, l.self.connections.ok.0, ap length r.so_far.still)) (c.index-conn.ensures ∙ ap (λ xs. get_or xs l.place conn) r.so_far.still) in
    came_now g.L.Links c.args.moment c.args.self.now.connections.items all l.place c.args.self.now.held.pieces l.self.held.pieces l.self.held.pieces c.args.links.now l.links l.links r conn n.0 n.1 c.requires.came

pub loop-place-preserved-then-branch : goal.loop-place-preserved-then-branch
loop-place-preserved-then-branch g c =
    let l = c.loop-place in
    let r = l.invariant.read in
    let all = l.self.connections.items in
    let conn = c.index-conn.result.now in
    let n = next_at g.L.Links (left_open r.so_far.reads) r.so_far.unread l.place conn r.place_is (omega (arith, c.loop-place-test.true, c.len.ensures, l.self.connections.ok.0, ap length r.so_far.still)) (c.index-conn.ensures ∙ ap (λ xs. get_or xs l.place conn) r.so_far.still) in
    record {
      read = read_closed g.L.Links c.args.moment c.args.self.now.connections.items all l.place c.args.self.now.held.pieces l.self.held.pieces c.read.new.self c.args.links.now l.links c.read.new.links r conn n.0 n.1 c.in_ok-read.field-0 c.remove.new.self.items c.requires.rising c.in_ok-read.ensures.read c.if-branch.true c.remove.ensures.items;
      rests = l.invariant.rests;
    }

pub loop-place-preserved : goal.loop-place-preserved
loop-place-preserved g c =
    let l = c.loop-place in
    let r = l.invariant.read in
    let all = l.self.connections.items in
    let conn = c.index-conn.result.now in
    let n = next_at g.L.Links (left_open r.so_far.reads) r.so_far.unread l.place conn r.place_is (omega (arith, c.loop-place-test.true, c.len.ensures, l.self.connections.ok.0, ap length r.so_far.still)) (c.index-conn.ensures ∙ ap (λ xs. get_or xs l.place conn) r.so_far.still) in
    record {
      read = read_open g.L.Links c.args.moment c.args.self.now.connections.items all l.place c.args.self.now.held.pieces l.self.held.pieces c.read.new.self c.args.links.now l.links c.read.new.links r conn n.0 n.1 c.in_ok-read.field-0 c.requires.rising c.in_ok-read.ensures.read c.if-branch.false;
      rests = l.invariant.rests;
    }
