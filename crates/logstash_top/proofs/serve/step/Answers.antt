use Rattle.std.proofs.Common.{rules, subst}
use Rattle.line_machine.specs.declared.calls.LineFault.TheVariants as fault
use Rattle.line_core.specs.Causes.{IsOfNoOutput}
use Rattle.line_core.specs.Parts.{inputs_of}
use Rattle.logstash_top.specs.Serving.{CanMake}
use Rattle.logstash_top.proofs.FaultCauses.{input_failed}
use Rattle.logstash_top.proofs.ServingLemmas.{collected_cause, on_collected, serves_acknowledged}
use Rattle.logstash_top.proofs.serve.step.Goals as goal

pub returns-in-Take-clause-serves : goal.returns-in-Take-clause-serves
returns-in-Take-clause-serves g c =
    on_collected g.S.Store g.L.Links g.X.OutputCall.number c.args.line.now c.collect.new.line _ c.args.world.now c.requires.serves c.collect.result _ c.collect.ensures.out c.collect.ensures.can c.collect.ensures.folder c.collect.ensures.inputs

pub returns-in-Take-clause-cause : goal.returns-in-Take-clause-cause
returns-in-Take-clause-cause g c = collected_cause c.collect.result _ c.collect.ensures.fault

pub returns-in-Acknowledge-clause-serves : goal.returns-in-Acknowledge-clause-serves
returns-in-Acknowledge-clause-serves g c =
    serves_acknowledged g.S.Store g.L.Links g.X.OutputCall.number c.args.line.now c.acknowledge.new.self _ c.args.world.now c.requires.serves g.met.S.Store.images_tell c.in-Acknowledge.batch (subst (CanMake c.args.line.now) c.in-Acknowledge.is c.requires.makes) c.acknowledge.ensures.can c.acknowledge.ensures.same c.acknowledge.ensures.folder c.acknowledge.ensures.inputs

pub returns-in_err-accepted-in-Accept-clause-causes : goal.returns-in_err-accepted-in-Accept-clause-causes
returns-in_err-accepted-in-Accept-clause-causes g c =
    let e = c.in_err-accepted-in-Accept.ensures in
    let back = c.from_residual.ensures in
    let lt = subst (CanMake c.args.line.now) c.in-Accept.is c.requires.makes in
    record {
      counts = record { stdin_count = e.counts.stdin_count; files_count = e.counts.files_count; links_count = e.counts.links_count; stdout_count = search rules };
      read = λ n is. input_failed g.I.Source g.P.Files g.L.Links (inputs_of c.args.line.now) c.in-Accept.input lt _ (e.failed n (search rules)).1;
      written = λ id is. absurd (subst IsOfNoOutput {x = c.in_err-accepted-in-Accept.field-0.0} {y = fault.Output id} (search rules) e.others);
    }
