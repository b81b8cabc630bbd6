use Rattle.std.proofs.Common.{◌≡◌, [], ◌++◌, drop}
use Rattle.foreign_parts.specs.declared.boxes.BoxKind.TheVariants as kind
use Rattle.graph_checks.specs.Numbering.{draws_behind}
use Rattle.graph_checks.proofs.Numbers.{Suffice}
use Rattle.graph_checks.proofs.draws.find_draws.Given as goal

abbrev pub invariant-loop-want : goal.invariant-loop-want
invariant-loop-want g l = record {
  so_far : l.draws ++ draws_behind l.met (drop l.want-index l.wants) (g.B.Boxes.stand l.rack kind.Output).stocks ≡ draws_behind [] l.wants (g.B.Boxes.stand l.rack kind.Output).stocks;
  left : Suffice (g.B.Boxes.stand l.rack kind.Output).stocks l.met (drop l.want-index l.wants);
}
