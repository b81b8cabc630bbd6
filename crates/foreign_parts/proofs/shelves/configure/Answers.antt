use Rattle.std.proofs.Common.{◌<◌, length, refl, sym, subst, ap, ◌∙◌, arith}
use Rattle.std.proofs.Math.Seq.{map-set_same}
use Rattle.foreign_parts.specs.Shelves.{stock_of, stocks, refusals_on}
use Rattle.foreign_parts.proofs.Places.{found, found_left, answers_at, not_found, left_past}
use Rattle.foreign_parts.proofs.shelves.configure.Goals as goal

pub configure-requires : goal.configure-requires
configure-requires g c =
    let there = found (stock_of g.T.Plugged.number) c.args.name.now c.args.shelves.now.items c.place_of-shelf.result c.index_mut.result.now c.as_slice.result.now c.as_slice.ensures.value c.place_of-shelf.ensures (omega (arith, c.if-shelf-len.true, c.len.ensures)) c.index_mut.ensures.value in
    subst (λ ns. c.args.at < length ns) (sym (found_left (stock_of g.T.Plugged.number) c.args.name.now c.args.shelves.now.items c.place_of-shelf.result c.index_mut.result.now there)) c.requires

pub returns-then-shelf-len-clause-answers : goal.returns-then-shelf-len-clause-answers
returns-then-shelf-len-clause-answers g c =
    let there = found (stock_of g.T.Plugged.number) c.args.name.now c.args.shelves.now.items c.place_of-shelf.result c.index_mut.result.now c.as_slice.result.now c.as_slice.ensures.value c.place_of-shelf.ensures (omega (arith, c.if-shelf-len.true, c.len.ensures)) c.index_mut.ensures.value in
    answers_at (stock_of g.T.Plugged.number) (refusals_on g.T.Plugged.refusal) (λ x. refl) c.args.name.now c.args.shelves.now.items c.place_of-shelf.result c.index_mut.result.now c.args.at c.args.settings.now.list c.configure.result there c.configure.ensures.answers

pub returns-then-shelf-len-clause-refusals : goal.returns-then-shelf-len-clause-refusals
returns-then-shelf-len-clause-refusals g c = map-set_same (refusals_on g.T.Plugged.refusal) c.args.shelves.now.items c.place_of-shelf.result c.configure.new.self c.index_mut.result.now (c.configure.ensures.refusals ∙ ap (refusals_on g.T.Plugged.refusal) c.index_mut.ensures.value)

pub returns-then-shelf-len-clause-stocks : goal.returns-then-shelf-len-clause-stocks
returns-then-shelf-len-clause-stocks g c = map-set_same (stock_of g.T.Plugged.number) c.args.shelves.now.items c.place_of-shelf.result c.configure.new.self c.index_mut.result.now (c.configure.ensures.stock ∙ ap (stock_of g.T.Plugged.number) c.index_mut.ensures.value)

pub returns-else-shelf-len-clause-answers : goal.returns-else-shelf-len-clause-answers
returns-else-shelf-len-clause-answers g c = absurd (omega (arith, c.requires, ap length (left_past c.args.name.now (stocks g.T.Plugged.number c.args.shelves.now.items) (not_found (stock_of g.T.Plugged.number) c.args.name.now c.args.shelves.now.items c.as_slice.result.now c.place_of-shelf.result c.as_slice.ensures.value c.place_of-shelf.ensures (omega (arith, c.if-shelf-len.false, c.len.ensures))))))
