use Rattle.std.proofs.Common.{◌≡◌, ◌∷◌, ◌<◌, length, arith, rules, ◌∙◌, lit<, subst}
use Rattle.settings_lines.specs.Lines.{lines_of}
use Rattle.settings_lines.specs.Reading.{ReadSoFar, reading_view}
use Rattle.settings_lines.specs.Answers.{Refuses, Shows}
use Rattle.settings_lines.specs.declared.fault.SettingsFault.{SettingsFault}
use Rattle.std.proofs.lemmas.Result.{err_from_is_err_and}
use Rattle.std.specs.Prelude.{Result}
use Rattle.settings_lines.proofs.Turns.{first_line, only_line, turn, turn_refused, last_line}
use Rattle.settings_lines.proofs.pipelines.read_lines.Goals as goal

pub loop-line-preserved : goal.loop-line-preserved
loop-line-preserved c =
    let rest = c.loop-line.rest.now in
    let line = c.in-Some.line.now in
    let behind = c.in-Some.behind.now in
    let cut = c.in-Some.ensures.byte (lit< tt) (λ w o found. found) in
    let is : lines_of rest ≡ line ∷ lines_of behind = first_line rest line behind cut.2 cut.0 cut.1 in
    let shorter : length behind < length rest = search rules in (
      search rules,
      omega arith,
      turn c.args.orders.now (reading_view c.loop-line.reading) c.loop-line.number rest line behind (reading_view c.in_ok-reading.reading) is c.in_ok-reading.ensures ∙ c.loop-line.invariant.2,
    )

pub returns-in_err-reading : goal.returns-in_err-reading
returns-in_err-reading c =
    let rest = c.loop-line.rest.now in
    let line = c.in-Some.line.now in
    let behind = c.in-Some.behind.now in
    let cut = c.in-Some.ensures.byte (lit< tt) (λ w o found. found) in
    let is : lines_of rest ≡ line ∷ lines_of behind = first_line rest line behind cut.2 cut.0 cut.1 in
    let p = err_from_is_err_and c.from_residual.result c.from_residual.ensures.1 in
    let refused = turn_refused c.args.orders.now (reading_view c.loop-line.reading) c.loop-line.number rest line behind c.in_err-reading.field-0.0 is c.in_err-reading.ensures in
    rw (p.1, p.2) (subst (λ (said : Result ReadSoFar SettingsFault). Refuses c.in_err-reading.field-0.0 said) c.loop-line.invariant.2 refused)

pub returns : goal.returns
returns c =
    let rest = c.loop-line.rest.now in
    let only = only_line rest (c.in_default.ensures.byte (lit< tt) (λ w o found. found)) in
    let same = last_line c.args.orders.now (reading_view c.loop-line.reading) c.loop-line.number rest only ∙ c.loop-line.invariant.2 in
    subst (λ (said : Result ReadSoFar SettingsFault). Shows reading_view c.take_line-2.result said) same c.take_line-2.ensures
