use Rattle.std.proofs.Common.{◌≡◌, false, length}
use Rattle.filters_date.specs.Formats.{items_behind}
use Rattle.filters_date.proofs.Letters.{with_front}
use Rattle.filters_date.proofs.format.read_letters.Given as goal

abbrev pub invariant-loop-first : goal.invariant-loop-first
invariant-loop-first l = with_front l.items (items_behind 0 l.quoted l.rest) ≡ items_behind 0 false l.text

abbrev pub decreases-loop-first : goal.decreases-loop-first
decreases-loop-first l = length l.rest
