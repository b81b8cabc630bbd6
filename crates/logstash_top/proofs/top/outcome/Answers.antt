use Rattle.std.proofs.Common.{◌≡◌, refl, sym, ◌∙◌, subst}
use Rattle.logstash_top.specs.declared.status.Status.TheVariants.{NoMemory}
use Rattle.logstash_top.specs.Outcomes.{MayRun}
use Rattle.logstash_top.proofs.Ending.{answers_passed, answers_refused}
use Rattle.logstash_top.proofs.Asking.{files_rose}
use Rattle.logstash_top.proofs.Compiled.{memory_alone, same_given}
use Rattle.logstash_top.proofs.Outside.{outgoing_outside}
use Rattle.logstash_top.proofs.Running.{may_as, run_last, starts_calm}
use Rattle.logstash_top.proofs.top.outcome.Goals as goal

pub returns-in-Err-clause-answers : goal.returns-in-Err-clause-answers
returns-in-Err-clause-answers g c = answers_refused _ g.P.Files _ _ _ MayRun (λ x. tt) c.in-Err.status c.in-Err.ensures.starts

pub returns-in-Err-clause-store_fault : goal.returns-in-Err-clause-store_fault
returns-in-Err-clause-store_fault g c is = absurd (starts_calm _ g.P.Files _ _ _ c.in-Err.status c.in-Err.ensures.starts is)

pub returns-in-Ok-compile-clause-answers : goal.returns-in-Ok-compile-clause-answers
returns-in-Ok-compile-clause-answers g c =
    let may = may_as c.in-Ok.checked.settings c.in-Ok-compile.plan.config c.in-Ok.checked.config c.run_plan.result c.in-Ok-compile.ensures.plan.config_is c.run_plan.ensures.may in
    answers_passed _ g.P.Files _ _ _ MayRun (λ x. tt) c.run_plan.new.world.files c.in-Ok.checked c.run_plan.result c.in-Ok.ensures.starts (run_last c.in-Ok.checked c.run_plan.result may) may

pub returns-in-Err-clause-files_fault : goal.returns-in-Err-clause-files_fault
returns-in-Err-clause-files_fault g c is = files_rose _ g.P.Files _ _ _ c.in-Err.status c.in-Err.ensures.starts is

pub run_plan-requires-clause-outside : goal.run_plan-requires-clause-outside
run_plan-requires-clause-outside g c =
    outgoing_outside c.in-Ok.checked.settings _ c.in-Ok.checked.config c.in-Ok-compile.plan.draws c.in-Ok-compile.plan.outgoing c.in-Ok-compile.ensures.plan.outgoing (c.in-Ok.ensures.starts.starts.found c.in-Ok.checked refl).2.1

pub returns-in-Err-compile-clause-answers : goal.returns-in-Err-compile-clause-answers
returns-in-Err-compile-clause-answers g c =
    let checked = c.in-Ok.checked in
    let run = c.in-Ok.ensures.starts.starts.found checked refl in
    let same = same_given g.B.Boxes.stand g.B.Boxes.links c.args.rack.now c.start.new.boxes checked.settings.workers c.in-Ok.ensures.keeps in
    let memory : c.refused.result ≡ NoMemory =
    c.refused.ensures ∙ memory_alone checked.settings.pipeline_id _ _ checked.settings.path_data checked.config c.in-Err-compile.fault run.2.1 same c.in-Err-compile.ensures.fault in
    let may = subst (MayRun checked) (sym memory) tt in
    answers_passed _ g.P.Files _ _ _ MayRun (λ x. tt) c.start.new.files checked c.refused.result c.in-Ok.ensures.starts (run_last checked c.refused.result may) may
