use Rattle.event_text.proofs.LawLemmas.{path_once, path_faulty}
use Rattle.event_text.proofs.PathReads.{path_text}
use Rattle.event_text.proofs.laws.paths_read_once.Goals as goal

pub returns-clause-once : goal.returns-clause-once
returns-clause-once c ps qs text h k = path_once ps qs text h k

pub returns-clause-computed : goal.returns-clause-computed
returns-clause-computed c ps text h = path_text ps text h

pub returns-clause-faulty : goal.returns-clause-faulty
returns-clause-faulty c fault text n h = path_faulty fault text n h
