use Rattle.std.proofs.Common.{◌≡◌}
use Rattle.filter_settings.specs.Convert.{fewer_digits}
use Rattle.filter_settings.proofs.conversion.whole.Given as goal

abbrev pub invariant-loop-places : goal.invariant-loop-places
invariant-loop-places l = fewer_digits l.places l.digits ≡ fewer_digits l.fn.number.scale l.fn.number.mantissa

abbrev pub decreases-loop-places : goal.decreases-loop-places
decreases-loop-places l = l.places
