use Rattle.line_core.proofs.JobsHome.{come_home}
use Rattle.logstash_top.proofs.serve.collect.Goals as goal

pub collect-requires-clause-result : goal.collect-requires-clause-result
collect-requires-clause-result g c = (come_home _ c.args.line.now _ _ c.in-Some.done c.requires.out c.in-Some.ensures.home).0

pub returns-in_ok-collect-in-Some-clause-out : goal.returns-in_ok-collect-in-Some-clause-out
returns-in_ok-collect-in-Some-clause-out g c = c.collect.ensures.out _ (come_home _ c.args.line.now _ _ c.in-Some.done c.requires.out c.in-Some.ensures.home).1
