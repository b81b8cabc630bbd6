use Rattle.std.proofs.Common.{All, subst, arith}
use Rattle.std.specs.Prelude.{codes}
use Rattle.std.proofs.lemmas.List.{take_all}
use Rattle.std.proofs.lemmas.List.Elements.{All-more, recursion_from_All}
use Rattle.built_plugins.specs.declared.output.Target.{Target}
use Rattle.line_core.specs.Openings.{IsPlaceOutside}
use Rattle.line_tests.proofs.opened.are_outside.Goals as goal

abbrev Stands : Target → Type 0
Stands t = IsPlaceOutside (codes "q/") t.place

pub loop-target-preserved : goal.loop-target-preserved
loop-target-preserved c =
    let here = subst Stands c.get.ensures (c.is_outside.ensures c.if-not-is_outside.false) in
    All-more Stands c.args.targets.now c.loop-target.target-index c.target-item.result c.loop-target-test.true c.loop-target.invariant (subst Stands c.target-item.is here)

pub returns : goal.returns
returns c = λ holds.
    recursion_from_All Stands c.args.targets.now
    (subst (All Stands) (take_all c.loop-target.target-index c.args.targets.now (omega (arith, c.loop-target-test.false))) c.loop-target.invariant)
