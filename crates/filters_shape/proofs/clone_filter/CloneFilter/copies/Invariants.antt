use Rattle.std.proofs.Common.{◌≡◌, ◌++◌, map, drop}
use Rattle.filters_shape.specs.Clone.{clone_named}
use Rattle.filters_shape.proofs.clone_filter.CloneFilter.copies.Given as goal

abbrev pub invariant-loop-name : goal.invariant-loop-name
invariant-loop-name l = l.copies ++ map (clone_named l.self l.event) (drop l.name-index l.self.clones) ≡ map (clone_named l.self l.event) l.self.clones
