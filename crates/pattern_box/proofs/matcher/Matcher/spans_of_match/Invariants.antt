use Rattle.std.proofs.Common.{◌≡◌}
use Rattle.pattern_box.specs.Spans.{spans_from_cells, AreSpansIn}
use Rattle.pattern_box.proofs.matcher.Matcher.spans_of_match.Given as goal

abbrev pub invariant-loop-index : goal.invariant-loop-index
invariant-loop-index l =
    (l.spans ≡ spans_from_cells l.index l.text l.whole l.self.cells.items) × AreSpansIn l.text l.spans
