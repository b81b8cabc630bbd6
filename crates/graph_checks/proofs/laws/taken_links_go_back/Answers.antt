use Rattle.graph_checks.proofs.Linking.{links_may_go_back, links_restored}
use Rattle.graph_checks.proofs.laws.taken_links_go_back.Goals as goal

pub returns-clause-may : goal.returns-clause-may
returns-clause-may c = links_may_go_back

pub returns-clause-places : goal.returns-clause-places
returns-clause-places c = links_restored
