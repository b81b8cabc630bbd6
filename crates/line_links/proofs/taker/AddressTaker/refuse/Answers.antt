use Rattle.std.proofs.Common.{ap}
use Rattle.line_links.specs.Takers.{take_state}
use Rattle.line_links.specs.Takers.RefusesNone.{Comes_back, Drops_none}
use Rattle.line_links.proofs.taker.AddressTaker.refuse.Goals as goal

pub returns-in_default-clause-refuses : goal.returns-in_default-clause-refuses
returns-in_default-clause-refuses c = Drops_none c.in_default.ensures.no_number c.in_default.ensures.none

pub returns-in-Some-tell-clause-refuses : goal.returns-in-Some-tell-clause-refuses
returns-in-Some-tell-clause-refuses c =
    let refusing = take_state c.begin_refusal.new.self in
    Comes_back refusing c.in-Some.ensures.some c.in-Some-tell._back (ap (λ t. record refusing { taking = t }) c.in-Some-tell.ensures.told)
