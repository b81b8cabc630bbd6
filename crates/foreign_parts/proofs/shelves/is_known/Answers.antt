use Rattle.std.specs.Prelude.{nat_lt}
use Rattle.std.proofs.Common.{length, sym, ap, ◌∙◌}
use Rattle.std.proofs.lemmas.List.{length-map}
use Rattle.foreign_parts.specs.Shelves.{stock_of, stocks}
use Rattle.foreign_parts.specs.Stocks.{place}
use Rattle.foreign_parts.proofs.Places.{known_below}
use Rattle.foreign_parts.proofs.shelves.is_known.Goals as goal

pub returns : goal.returns
returns g c = ap (λ p. nat_lt p (length c.args.shelves.now)) c.place_of.ensures
    ∙ ap (λ n. nat_lt (place c.args.name.now (stocks g.T.Plugged.number c.args.shelves.now)) n) (sym (length-map c.args.shelves.now (stock_of g.T.Plugged.number)))
    ∙ sym (known_below c.args.name.now (stocks g.T.Plugged.number c.args.shelves.now))
