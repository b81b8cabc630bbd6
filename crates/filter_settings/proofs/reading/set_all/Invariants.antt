use Rattle.filter_settings.proofs.Setting.{SetSoFar}
use Rattle.filter_settings.proofs.reading.set_all.Given as goal

abbrev pub invariant-loop-entry : goal.invariant-loop-entry
invariant-loop-entry g l = SetSoFar g.F.SetByName.setting l.entries l.entry-index l.filter l.fn.start
