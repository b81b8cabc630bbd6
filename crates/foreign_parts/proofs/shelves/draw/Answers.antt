use Rattle.std.proofs.Common.{arith}
use Rattle.foreign_parts.specs.Shelves.{stock_of, stocks}
use Rattle.foreign_parts.proofs.Places.{found, draws_some, draws_last, draws_none, draws_same, not_found, left_past}
use Rattle.foreign_parts.proofs.shelves.draw.Goals as goal

pub returns-then-at-len-clause-some : goal.returns-then-at-len-clause-some
returns-then-at-len-clause-some g c =
    let there = found (stock_of g.T.Plugged.number) c.args.name.now c.args.shelves.now.items c.place_of-at.result c.index_mut.result.now c.as_slice.result.now c.as_slice.ensures.value c.place_of-at.ensures (omega (arith, c.if-at-len.true, c.len.ensures)) c.index_mut.ensures.value in
    draws_some (stock_of g.T.Plugged.number) c.args.name.now c.args.shelves.now.items c.place_of-at.result c.index_mut.result.now c.draw.new.self c.draw.result there c.draw.ensures.some

pub returns-then-at-len-clause-last : goal.returns-then-at-len-clause-last
returns-then-at-len-clause-last g c =
    let there = found (stock_of g.T.Plugged.number) c.args.name.now c.args.shelves.now.items c.place_of-at.result c.index_mut.result.now c.as_slice.result.now c.as_slice.ensures.value c.place_of-at.ensures (omega (arith, c.if-at-len.true, c.len.ensures)) c.index_mut.ensures.value in
    draws_last (stock_of g.T.Plugged.number) c.args.name.now c.args.shelves.now.items c.place_of-at.result c.index_mut.result.now g.T.Plugged.number c.draw.result there c.draw.ensures.last

pub returns-then-at-len-clause-none : goal.returns-then-at-len-clause-none
returns-then-at-len-clause-none g c =
    let there = found (stock_of g.T.Plugged.number) c.args.name.now c.args.shelves.now.items c.place_of-at.result c.index_mut.result.now c.as_slice.result.now c.as_slice.ensures.value c.place_of-at.ensures (omega (arith, c.if-at-len.true, c.len.ensures)) c.index_mut.ensures.value in
    draws_none (stock_of g.T.Plugged.number) c.args.name.now c.args.shelves.now.items c.place_of-at.result c.index_mut.result.now c.draw.result there c.draw.ensures.none

pub returns-then-at-len-clause-same : goal.returns-then-at-len-clause-same
returns-then-at-len-clause-same g c = draws_same (stock_of g.T.Plugged.number) c.args.shelves.now.items c.place_of-at.result c.index_mut.result.now c.draw.new.self c.draw.result c.index_mut.ensures.value c.draw.ensures.same

pub returns-else-at-len-clause-none : goal.returns-else-at-len-clause-none
returns-else-at-len-clause-none g c = left_past c.args.name.now (stocks g.T.Plugged.number c.args.shelves.now.items) (not_found (stock_of g.T.Plugged.number) c.args.name.now c.args.shelves.now.items c.as_slice.result.now c.place_of-at.result c.as_slice.ensures.value c.place_of-at.ensures (omega (arith, c.if-at-len.false, c.len.ensures)))
