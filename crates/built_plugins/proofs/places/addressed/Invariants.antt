use Rattle.std.proofs.Common.{◌≡◌, ◌++◌, map, length}
use Rattle.std.specs.Vec.Iter.{into_iter_len}
use Rattle.event_flow.specs.Places.{once}
use Rattle.foreign_parts.specs.declared.place.Place.TheVariants as place
use Rattle.built_plugins.proofs.places.addressed.Given as goal

abbrev pub invariant-loop-address : goal.invariant-loop-address
invariant-loop-address l = record {
  so_far : l.places ++ map place.Address l.address-iterator.rest.items ≡ map place.Address (once l.fn.addresses);
  counted : into_iter_len l.address-iterator ≡ length l.address-iterator.rest.items;
}
