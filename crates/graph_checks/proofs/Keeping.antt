-- What stands in a rack is left as it was by calls one after another.
use Rattle.std.proofs.Common.{List, refl, ◌∙◌}
use Rattle.graph_checks.specs.Boxes.{Stand, Keeps}
use Rattle.foreign_parts.specs.declared.boxes.BoxKind.{BoxKind}
use Rattle.foreign_parts.specs.declared.links.LinkPlace.{LinkPlace}

module _ {S : Type 0} (stand : S → BoxKind → Stand) (links : S → List LinkPlace) where
  pub keeps_same : (s : S) → Keeps stand links s s
  keeps_same s = record { stands = λ k. refl; links_stand = refl }

  pub keeps_then : (a b c : S) → Keeps stand links a b → Keeps stand links b c → Keeps stand links a c
  keeps_then a b c first later = record { stands = λ k. later.stands k ∙ first.stands k; links_stand = later.links_stand ∙ first.links_stand }
