use Rattle.std.proofs.Common.{inr, refl}
use Rattle.logstash_top.specs.Outcomes.{MayTest}
use Rattle.logstash_top.proofs.Ending.{answers_passed, answers_refused, ends_not_done, ends_not_unconfirmed, tested_last}
use Rattle.logstash_top.proofs.Statuses.{untouched}
use Rattle.logstash_top.proofs.config_test.tested.Goals as goal

pub returns-in-Ok-clause-answers : goal.returns-in-Ok-clause-answers
returns-in-Ok-clause-answers g c =
    answers_passed _ g.P.Files _ _ _ MayTest (λ x. inr (inr refl)) _ c.in-Ok.field-0 c.confirmed.result c.in-Ok.ensures.starts (tested_last _ c.confirmed.ensures.may) c.confirmed.ensures.may

pub returns-clause-answers : goal.returns-clause-answers
returns-clause-answers g c = answers_refused _ g.P.Files _ _ _ MayTest (λ x. inr (inr refl)) c.in-Err.status c.in-Err.ensures.starts

pub returns-clause-done : goal.returns-clause-done
returns-clause-done g c is = absurd (ends_not_done _ g.P.Files _ _ _ c.in-Err.status c.in-Err.ensures.starts is)

pub returns-clause-output_fault : goal.returns-clause-output_fault
returns-clause-output_fault g c = untouched _ (ends_not_unconfirmed _ g.P.Files _ _ _ c.in-Err.status c.in-Err.ensures.starts)
