use Rattle.std.proofs.Common.{◌≡◌, ◌-◌, ◌≤◌, ◌++◌, drop, length, option_map}
use Rattle.std.specs.Str.{IsCharBoundary}
use Rattle.event_text.specs.DateFormats.{format_of, parts_of, runs}
use Rattle.event_text.proofs.date_format.read_format.Given as goal

abbrev pub invariant-loop-at : goal.invariant-loop-at
invariant-loop-at l = record {
  within : l.at ≤ length l.format;
  boundary : IsCharBoundary l.format l.at;
  rest : format_of l.fn.format ≡ option_map (λ parts. l.parts ++ parts) (parts_of (runs (drop l.at l.format)));
}

abbrev pub decreases-loop-at : goal.decreases-loop-at
decreases-loop-at l = length l.format - l.at
