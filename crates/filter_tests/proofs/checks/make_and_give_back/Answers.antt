use Rattle.graph_checks.specs.Linked.{outside_of}
use Rattle.graph_checks.proofs.Linking.{taken_may_go_back}
use Rattle.graph_checks.proofs.Restoring.{all_may_go_back}
use Rattle.filter_tests.proofs.checks.make_and_give_back.Goals as goal

pub give_back-requires-clause-boxes : goal.give_back-requires-clause-boxes
give_back-requires-clause-boxes g c = all_may_go_back _ _ _ _ _ _ _ c.in_ok-plan.ensures.drawn

pub give_back-requires-clause-links : goal.give_back-requires-clause-links
give_back-requires-clause-links g c = taken_may_go_back (outside_of c.args.config.inputs) (g.B.Boxes.links c.args.rack.now) _ _ c.in_ok-plan.ensures.links c.in_ok-plan.ensures.taken
