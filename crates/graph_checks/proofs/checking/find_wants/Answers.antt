use Rattle.std.proofs.Common.{◌≡◌, rules, refl, ap, sym, subst, ◌∙◌, Ok, Err}
use Rattle.graph_checks.specs.Answers.{Refuses}
use Rattle.graph_checks.specs.Inputs.{inputs_checked}
use Rattle.graph_checks.specs.Plugins.{section_checked}
use Rattle.graph_checks.specs.Whole.{given_by, whole_of}
use Rattle.foreign_parts.specs.Links.{addresses_of}
use Rattle.foreign_parts.specs.declared.boxes.BoxKind.TheVariants as kind
use Rattle.graph_checks.proofs.Configured.{is_wanted}
use Rattle.graph_checks.proofs.Handing.{passes_handed}
use Rattle.graph_checks.proofs.Outside.{outside_is}
use Rattle.graph_checks.proofs.Wholes.{outputs_fail, whole_gives, whole_before}
use Rattle.graph_checks.proofs.checking.find_wants.Goals as goal

pub returns-in_err-outputs-clause-fault : goal.returns-in_err-outputs-clause-fault
returns-in_err-outputs-clause-fault g c =
    let stand = g.B.Boxes.stand c.args.boxes.now in
    let given = given_by g.B.Boxes.stand g.B.Boxes.links c.args.boxes.now c.args.workers in
    let config = c.args.config.now in
    let ins = c.in_ok-inputs.field-0 in
    let fs = c.in_ok-filters.filters in
    let e = c.in_err-outputs.field-0.0 in
    let a : inputs_checked config.inputs ≡ Ok ins = search rules in
    let b : section_checked kind.Filter (stand kind.Filter) c.args.workers config.filters ins.ids ≡ Ok fs = search rules in
    passes_handed c.from_residual-in_err-outputs.result e _ c.from_residual-in_err-outputs.ensures.1
    (outputs_fail given config ins fs e a b
    (subst (λ st. Refuses e (section_checked kind.Output st 1 config.outputs fs.ids)) (c.in_ok-filters.ensures.keeps.stands kind.Output)
    (subst (λ ss. Refuses e (section_checked kind.Output (g.B.Boxes.stand c.check_section.new.boxes kind.Output) 1 ss fs.ids)) c.as_slice-outputs.ensures c.in_err-outputs.ensures.walk)))

pub returns-in_err-check_whole-clause-fault : goal.returns-in_err-check_whole-clause-fault
returns-in_err-check_whole-clause-fault g c =
    let stand = g.B.Boxes.stand c.args.boxes.now in
    let given = given_by g.B.Boxes.stand g.B.Boxes.links c.args.boxes.now c.args.workers in
    let config = c.args.config.now in
    let ins = c.in_ok-inputs.field-0 in
    let fs = c.in_ok-filters.filters in
    let os = c.in_ok-outputs.outputs in
    let e = c.in_err-check_whole.field-0.0 in
    let first = c.in_ok-filters.ensures.keeps in
    let later = c.in_ok-outputs.ensures.keeps in
    let a : inputs_checked config.inputs ≡ Ok ins = search rules in
    let b : section_checked kind.Filter (stand kind.Filter) c.args.workers config.filters ins.ids ≡ Ok fs = search rules in
    let o : section_checked kind.Output (stand kind.Output) 1 config.outputs fs.ids ≡ Ok os =
    ap (λ st. section_checked kind.Output st 1 config.outputs fs.ids) (sym (first.stands kind.Output))
    ∙ ap (λ ss. section_checked kind.Output (g.B.Boxes.stand c.check_section.new.boxes kind.Output) 1 ss fs.ids) (sym c.as_slice-outputs.ensures)
    ∙ c.in_ok-outputs.ensures.walk in
    let boxes = c.check_section-2.new.boxes in
    let h : Refuses e (whole_of (g.B.Boxes.stand boxes kind.Filter) (g.B.Boxes.stand boxes kind.Output) (addresses_of (g.B.Boxes.links boxes)) c.args.workers ins.inputs ins.outside fs.boxes os) = search rules in
    passes_handed c.from_residual-in_err-check_whole.result e _ c.from_residual-in_err-check_whole.ensures.1
    (whole_gives given config ins fs os (Err e) a b o
    (whole_before (Err e) c.args.workers ins.inputs ins.outside fs.boxes os (later.stands kind.Filter ∙ first.stands kind.Filter) (later.stands kind.Output ∙ first.stands kind.Output) (ap addresses_of (later.links_stand ∙ first.links_stand)) h))

pub returns-clause-fault : goal.returns-clause-fault
returns-clause-fault g c =
    let stand = g.B.Boxes.stand c.args.boxes.now in
    let given = given_by g.B.Boxes.stand g.B.Boxes.links c.args.boxes.now c.args.workers in
    let config = c.args.config.now in
    let ins = c.in_ok-inputs.field-0 in
    let fs = c.in_ok-filters.filters in
    let os = c.in_ok-outputs.outputs in
    let first = c.in_ok-filters.ensures.keeps in
    let later = c.in_ok-outputs.ensures.keeps in
    let a : inputs_checked config.inputs ≡ Ok ins = search rules in
    let b : section_checked kind.Filter (stand kind.Filter) c.args.workers config.filters ins.ids ≡ Ok fs = search rules in
    let o : section_checked kind.Output (stand kind.Output) 1 config.outputs fs.ids ≡ Ok os =
    ap (λ st. section_checked kind.Output st 1 config.outputs fs.ids) (sym (first.stands kind.Output))
    ∙ ap (λ ss. section_checked kind.Output (g.B.Boxes.stand c.check_section.new.boxes kind.Output) 1 ss fs.ids) (sym c.as_slice-outputs.ensures)
    ∙ c.in_ok-outputs.ensures.walk in
    let boxes = c.check_section-2.new.boxes in
    let h : whole_of (g.B.Boxes.stand boxes kind.Filter) (g.B.Boxes.stand boxes kind.Output) (addresses_of (g.B.Boxes.links boxes)) c.args.workers ins.inputs ins.outside fs.boxes os ≡ Ok tt = search rules in
    whole_gives given config ins fs os (Ok tt) a b o
    (whole_before (Ok tt) c.args.workers ins.inputs ins.outside fs.boxes os (later.stands kind.Filter ∙ first.stands kind.Filter) (later.stands kind.Output ∙ first.stands kind.Output) (ap addresses_of (later.links_stand ∙ first.links_stand)) h)

pub returns-clause-wants : goal.returns-clause-wants
returns-clause-wants g c =
    let stand = g.B.Boxes.stand c.args.boxes.now in
    let given = given_by g.B.Boxes.stand g.B.Boxes.links c.args.boxes.now c.args.workers in
    let config = c.args.config.now in
    let ins = c.in_ok-inputs.field-0 in
    let fs = c.in_ok-filters.filters in
    let os = c.in_ok-outputs.outputs in
    let first = c.in_ok-filters.ensures.keeps in
    let later = c.in_ok-outputs.ensures.keeps in
    let a : inputs_checked config.inputs ≡ Ok ins = search rules in
    let b : section_checked kind.Filter (stand kind.Filter) c.args.workers config.filters ins.ids ≡ Ok fs = search rules in
    let o : section_checked kind.Output (stand kind.Output) 1 config.outputs fs.ids ≡ Ok os =
    ap (λ st. section_checked kind.Output st 1 config.outputs fs.ids) (sym (first.stands kind.Output))
    ∙ ap (λ ss. section_checked kind.Output (g.B.Boxes.stand c.check_section.new.boxes kind.Output) 1 ss fs.ids) (sym c.as_slice-outputs.ensures)
    ∙ c.in_ok-outputs.ensures.walk in
    let boxes = c.check_section-2.new.boxes in
    let h : whole_of (g.B.Boxes.stand boxes kind.Filter) (g.B.Boxes.stand boxes kind.Output) (addresses_of (g.B.Boxes.links boxes)) c.args.workers ins.inputs ins.outside fs.boxes os ≡ Ok tt = search rules in
    is_wanted given config ins.ids fs.ids ins.inputs ins.outside fs os _ b o
    (whole_before (Ok tt) c.args.workers ins.inputs ins.outside fs.boxes os (later.stands kind.Filter ∙ first.stands kind.Filter) (later.stands kind.Output ∙ first.stands kind.Output) (ap addresses_of (later.links_stand ∙ first.links_stand)) h)
    refl refl (outside_is config.inputs ins a)
