use Rattle.std.proofs.Common.{rules, ◌≡◌, IfOk, ap₂, ◌∙◌, subst, w64, FitsSigned}
use Rattle.std.proofs.lemmas.Int.{to_z-of_z}
use Rattle.in_lines.specs.Generators.{numbered}
use Rattle.in_lines.specs.Samples.{sample_line}
use Rattle.in_lines.proofs.Rounds.{of_sample}
use Rattle.in_lines.proofs.generator.Generator.event.Goals as goal

pub returns-in_ok-line-in-Sample : goal.returns-in_ok-line-in-Sample
returns-in_ok-line-in-Sample c =
    let made : c.as_str.result.now ≡ sample_line c.args.number = search rules in
    let fits : FitsSigned w64 c.args.sequence = record { sfits = c.ranges.sequence.sfits } in
    let text = of_sample c.args.self.now.lines c.in-Sample.field-0 c.args.at c.args.number c.as_str.result.now c.in-Sample.is c.requires.number made in
    subst (λ e. IfOk c.numbered-in-Sample.result (λ event. event ≡ e)) (ap₂ (λ n l. numbered c.args.self.now.settings n (record { line = l; moment = c.args.moment })) (to_z-of_z w64 c.args.sequence fits ∙ c.requires.sequence) text) c.numbered-in-Sample.ensures
