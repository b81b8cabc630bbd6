use Rattle.std.specs.Prelude.{nat_lt}
use Rattle.std.proofs.Common.{length, sym, ap, ◌∙◌}
use Rattle.foreign_parts.proofs.Linking.{known_below}
use Rattle.foreign_parts.proofs.links.is_known.Goals as goal

pub returns : goal.returns
returns c = ap (λ p. nat_lt p (length c.args.places.now)) c.place_of.ensures ∙ sym (known_below c.args.address.now c.args.places.now)
