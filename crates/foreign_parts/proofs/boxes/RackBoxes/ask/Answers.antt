use Rattle.foreign_parts.proofs.Keeping.{stands_same}
use Rattle.foreign_parts.proofs.boxes.RackBoxes.ask.Goals as goal

pub returns-in-Filter-clause-keeps : goal.returns-in-Filter-clause-keeps
returns-in-Filter-clause-keeps g c =
    let e = c.configure_filter.ensures in
    record { stands = stands_same _ _ _ _ _ _ _ _ e.filters e.refusals e.outputs e.others; links_stand = e.links }

pub returns-in-Output-clause-keeps : goal.returns-in-Output-clause-keeps
returns-in-Output-clause-keeps g c =
    let e = c.configure_output.ensures in
    record { stands = stands_same _ _ _ _ _ _ _ _ e.filters e.others e.outputs e.refusals; links_stand = e.links }
