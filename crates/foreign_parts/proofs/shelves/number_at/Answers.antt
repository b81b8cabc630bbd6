use Rattle.std.proofs.Common.{◌<◌, length, refl, sym, subst, ap, ◌∙◌, arith, slice_get}
use Rattle.foreign_parts.specs.Shelves.{stock_of, stocks}
use Rattle.foreign_parts.proofs.Places.{found, found_left, not_found, left_past}
use Rattle.foreign_parts.proofs.shelves.number_at.Goals as goal

pub number_at-requires : goal.number_at-requires
number_at-requires g c =
    let there = found (stock_of g.T.Plugged.number) c.args.name.now c.args.shelves.now c.place_of-shelf.result c.index-shelves-shelf.result c.args.shelves.now refl c.place_of-shelf.ensures c.if-shelf-shelves.true c.index-shelves-shelf.is in
    subst (λ ns. c.args.at < length ns) (sym (found_left (stock_of g.T.Plugged.number) c.args.name.now c.args.shelves.now c.place_of-shelf.result c.index-shelves-shelf.result there)) c.requires

pub returns-then-shelf-shelves : goal.returns-then-shelf-shelves
returns-then-shelf-shelves g c =
    let there = found (stock_of g.T.Plugged.number) c.args.name.now c.args.shelves.now c.place_of-shelf.result c.index-shelves-shelf.result c.args.shelves.now refl c.place_of-shelf.ensures c.if-shelf-shelves.true c.index-shelves-shelf.is in
    ap (λ ns. slice_get ns c.args.at) (sym (found_left (stock_of g.T.Plugged.number) c.args.name.now c.args.shelves.now c.place_of-shelf.result c.index-shelves-shelf.result there)) ∙ c.number_at.ensures

pub returns-else-shelf-shelves : goal.returns-else-shelf-shelves
returns-else-shelf-shelves g c = absurd (omega (arith, c.requires, ap length (left_past c.args.name.now (stocks g.T.Plugged.number c.args.shelves.now) (not_found (stock_of g.T.Plugged.number) c.args.name.now c.args.shelves.now c.args.shelves.now c.place_of-shelf.result refl c.place_of-shelf.ensures (omega (arith, c.if-shelf-shelves.false))))))
