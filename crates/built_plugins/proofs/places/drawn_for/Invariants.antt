use Rattle.std.proofs.Common.{◌≡◌, drop}
use Rattle.event_flow.specs.Places.{drawn_for}
use Rattle.built_plugins.proofs.places.drawn_for.Given as goal

abbrev pub invariant-loop-draw : goal.invariant-loop-draw
invariant-loop-draw l = drawn_for l.id (drop l.draw-index l.draws) ≡ drawn_for l.id l.draws
