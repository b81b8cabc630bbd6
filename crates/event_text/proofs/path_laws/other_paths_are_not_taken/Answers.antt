use Rattle.event_text.proofs.EventGets.{take_other, take_apart}
use Rattle.event_text.proofs.path_laws.other_paths_are_not_taken.Goals as goal

pub returns-clause-parted : goal.returns-clause-parted
returns-clause-parted c fork value old new parts h = take_other fork.meta fork.front fork.part fork.other fork.more fork.others value old new parts.0 parts.1 h

pub returns-clause-apart : goal.returns-clause-apart
returns-clause-apart c way other value old new apart h = take_apart way.meta other.meta way.parts other.parts value old new apart h
