use Rattle.std.proofs.Common.{◌≡◌, drop}
use Rattle.foreign_parts.specs.Links.{addresses_of}
use Rattle.graph_checks.specs.Whole.{links_checked}
use Rattle.graph_checks.proofs.whole.check_links.Given as goal

abbrev pub invariant-loop-address : goal.invariant-loop-address
invariant-loop-address g l = links_checked (addresses_of (g.B.Boxes.links l.boxes)) (drop l.address-index l.outside) ≡ links_checked (addresses_of (g.B.Boxes.links l.boxes)) l.outside
