use Rattle.std.proofs.Common.{ℕ, List, ◌≡◌, ◌≤◌, ◌∙◌, sym, ap, subst, length, false, arith, if◌then◌else◌, Err}
use Rattle.std.proofs.lemmas.Result.{err_from_is_err_and}
use Rattle.std.proofs.lemmas.Bool.Decides.{nat_tests}
use Rattle.std.specs.Prelude.{nat_lt}
use Rattle.settings_lines.specs.Answers.{Refuses, Gives}
use Rattle.settings_lines.specs.Pipelines.{Answer, pipelines_of, max_text}
use Rattle.settings_lines.specs.Reading.{reading_view}
use Rattle.settings_lines.specs.declared.fault.SettingsLineFault.TheVariants as line
use Rattle.settings_lines.specs.declared.fault.SettingsFault.TheVariants as fault
use Rattle.settings_lines.specs.declared.orders.Orders.{Orders}
use Rattle.settings_lines.proofs.Stepping.{says, refused, not_closed, whole_text}
use Rattle.settings_lines.proofs.pipelines.read_pipelines.Goals as goal

-- of a text that is not too long
short : (orders : Orders) (text : List ℕ) → length text ≤ max_text → says orders text ≡ pipelines_of orders text
unfolding pipelines_of
short orders text within =
    let long : nat_lt max_text (length text) ≡ false = grind (arith, nat_tests) in
    ap (λ t. if t then Err (fault.Line 1 line.Long) else says orders text) (sym long)

pub returns-in_err-reading : goal.returns-in_err-reading
returns-in_err-reading c =
    let p = err_from_is_err_and c.from_residual.result c.from_residual.ensures.1 in
    let why = c.in_err-reading.field-0.0 in
    rw (p.1, p.2) (subst (λ (said : Answer). Refuses why said) (short c.args.orders.now c.args.text.now c.if-text-gt-MAX_TEXT.false) (refused c.args.orders.now c.args.text.now why c.in_err-reading.ensures))

pub returns-in_err-pipelines : goal.returns-in_err-pipelines
returns-in_err-pipelines c =
    let p = err_from_is_err_and c.from_residual-in_err-pipelines.result c.from_residual-in_err-pipelines.ensures.1 in
    let why = c.in_err-pipelines.field-0.0 in
    let text = c.args.text.now in
    rw (p.1, p.2) (subst (λ (said : Answer). Refuses why said) (short c.args.orders.now text c.if-text-gt-MAX_TEXT.false)
    (not_closed c.args.orders.now text (reading_view c.in_ok-reading.reading) why c.in_ok-reading.ensures c.in_err-pipelines.ensures))

pub returns : goal.returns
returns c =
    let text = c.args.text.now in
    let said = whole_text c.args.orders.now text (reading_view c.in_ok-reading.reading) c.in_ok-pipelines.pipelines c.in_ok-reading.ensures c.in_ok-pipelines.ensures in
    subst (λ (answer : Answer). Gives c.check_unique_ids.result answer) (said ∙ short c.args.orders.now text c.if-text-gt-MAX_TEXT.false) c.check_unique_ids.ensures
