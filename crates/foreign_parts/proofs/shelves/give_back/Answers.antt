use Rattle.std.proofs.Common.{◌<◌, sym, subst, arith}
use Rattle.foreign_parts.specs.Shelves.{stock_of, stocks}
use Rattle.foreign_parts.specs.Stocks.{one_back}
use Rattle.foreign_parts.proofs.Places.{found, found_out, found_changed, not_found, out_past}
use Rattle.foreign_parts.proofs.shelves.give_back.Goals as goal

pub give_back-requires : goal.give_back-requires
give_back-requires g c =
    let there = found (stock_of g.T.Plugged.number) c.args.name.now c.args.shelves.now.items c.place_of-at.result c.index_mut.result.now c.as_slice.result.now c.as_slice.ensures.value c.place_of-at.ensures (omega (arith, c.if-at-len.true, c.len.ensures)) c.index_mut.ensures.value in
    subst (λ n. 0 < n) (sym (found_out (stock_of g.T.Plugged.number) c.args.name.now c.args.shelves.now.items c.place_of-at.result c.index_mut.result.now there)) c.requires

pub returns-then-at-len : goal.returns-then-at-len
returns-then-at-len g c =
    let there = found (stock_of g.T.Plugged.number) c.args.name.now c.args.shelves.now.items c.place_of-at.result c.index_mut.result.now c.as_slice.result.now c.as_slice.ensures.value c.place_of-at.ensures (omega (arith, c.if-at-len.true, c.len.ensures)) c.index_mut.ensures.value in
    found_changed (stock_of g.T.Plugged.number) c.args.name.now c.args.shelves.now.items c.place_of-at.result c.index_mut.result.now (one_back (g.T.Plugged.number c.args.item)) c.give_back.new.self c.give_back.ensures there

pub returns-else-at-len : goal.returns-else-at-len
returns-else-at-len g c = absurd (omega (arith, c.requires, out_past c.args.name.now (stocks g.T.Plugged.number c.args.shelves.now.items) (not_found (stock_of g.T.Plugged.number) c.args.name.now c.args.shelves.now.items c.as_slice.result.now c.place_of-at.result c.as_slice.ensures.value c.place_of-at.ensures (omega (arith, c.if-at-len.false, c.len.ensures)))))
