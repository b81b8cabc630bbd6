use Rattle.std.proofs.Common.{◌≡◌, ◌+◌, ◌-◌, ◌≤◌, ◌++◌, take, drop, length}
use Rattle.std.specs.Str.{IsCharBoundary}
use Rattle.event_text.specs.Template.{IsNextClose, template_parts, with_run}
use Rattle.event_text.proofs.template.read_pieces.Given as goal

abbrev pub invariant-loop-at : goal.invariant-loop-at
invariant-loop-at l = record {
  within : l.at ≤ length l.text;
  behind : l.plain ≤ l.at;
  boundary : IsCharBoundary l.text l.plain;
  next : IsNextClose l.text (l.at + 2) l.next;
  rest : template_parts l.fn.text ≡ l.pieces ++ with_run (take (l.at - l.plain) (drop l.plain l.text)) (template_parts (drop l.at l.text));
}

abbrev pub decreases-loop-at : goal.decreases-loop-at
decreases-loop-at l = length l.text - l.at
