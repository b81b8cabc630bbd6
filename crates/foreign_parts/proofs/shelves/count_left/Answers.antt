use Rattle.std.proofs.Common.{length, sym, ap, refl, ◌∙◌, arith}
use Rattle.foreign_parts.specs.Shelves.{stock_of, stocks}
use Rattle.foreign_parts.proofs.Places.{found, found_left, not_found, left_past}
use Rattle.foreign_parts.proofs.shelves.count_left.Goals as goal

pub returns-then-at-shelves : goal.returns-then-at-shelves
returns-then-at-shelves g c =
    let there = found (stock_of g.T.Plugged.number) c.args.name.now c.args.shelves.now c.place_of-at.result c.index-shelves-at.result c.args.shelves.now refl c.place_of-at.ensures c.if-at-shelves.true c.index-shelves-at.is in
    c.len.ensures ∙ ap length (found_left (stock_of g.T.Plugged.number) c.args.name.now c.args.shelves.now c.place_of-at.result c.index-shelves-at.result there)

pub returns-else-at-shelves : goal.returns-else-at-shelves
returns-else-at-shelves g c = ap length (sym (left_past c.args.name.now (stocks g.T.Plugged.number c.args.shelves.now) (not_found (stock_of g.T.Plugged.number) c.args.name.now c.args.shelves.now c.args.shelves.now c.place_of-at.result refl c.place_of-at.ensures (omega (arith, c.if-at-shelves.false)))))
