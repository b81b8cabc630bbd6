use Rattle.std.proofs.Common.{arith}
use Rattle.foreign_parts.specs.Shelves.{stock_of}
use Rattle.foreign_parts.proofs.Places.{found, adds_ok, adds_err, adds_new, not_found}
use Rattle.foreign_parts.proofs.shelves.add.Goals as goal

pub returns-then-at-len-clause-ok : goal.returns-then-at-len-clause-ok
returns-then-at-len-clause-ok g c =
    let there = found (stock_of g.T.Plugged.number) c.args.name.now c.args.shelves.now.items c.place_of-at.result c.index_mut.result.now c.as_slice.result.now c.as_slice.ensures.value c.place_of-at.ensures (omega (arith, c.if-at-len.true, c.len.ensures)) c.index_mut.ensures.value in
    adds_ok (stock_of g.T.Plugged.number) c.args.name.now c.args.shelves.now.items c.place_of-at.result c.index_mut.result.now c.add.new.self (g.T.Plugged.number c.args.item) c.add.result there c.add.ensures.ok

pub returns-then-at-len-clause-err : goal.returns-then-at-len-clause-err
returns-then-at-len-clause-err g c = adds_err (stock_of g.T.Plugged.number) c.args.name.now c.args.shelves.now.items c.place_of-at.result c.index_mut.result.now c.add.new.self c.add.result c.index_mut.ensures.value c.add.ensures.err

pub returns-clause-ok : goal.returns-clause-ok
returns-clause-ok g c = adds_new (stock_of g.T.Plugged.number) c.args.name.now (g.T.Plugged.number c.args.item) c.args.shelves.now.items c.push.new.self.items c.in_ok-shelf.shelf (not_found (stock_of g.T.Plugged.number) c.args.name.now c.args.shelves.now.items c.as_slice.result.now c.place_of-at.result c.as_slice.ensures.value c.place_of-at.ensures (omega (arith, c.if-at-len.false, c.len.ensures))) c.in_ok-shelf.ensures c.in_ok-push.ensures.items
