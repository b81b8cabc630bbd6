use Rattle.std.proofs.Common.{take, All}
use Rattle.std.specs.Prelude.{codes}
use Rattle.built_plugins.specs.declared.output.Target.{Target}
use Rattle.line_core.specs.Openings.{IsPlaceOutside}
use Rattle.line_tests.proofs.opened.are_outside.Given as goal

abbrev pub invariant-loop-target : goal.invariant-loop-target
invariant-loop-target l = All (λ (t : Target). IsPlaceOutside (codes "q/") t.place) (take l.target-index l.targets)
