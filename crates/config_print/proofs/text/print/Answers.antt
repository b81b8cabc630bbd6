use Rattle.std.proofs.Common.{◌≡◌, ◌++◌, sym, ap, ◌∙◌, append_assoc, string_bytes}
use Rattle.config_lex.specs.declared.token.Section.TheVariants as section
use Rattle.config_print.specs.Printed.{plugin, statement, lines_text, plugin_section, statement_section, pieces, printed}
use Rattle.config_print.proofs.Sections.{three_sections}
use Rattle.config_print.proofs.text.print.Goals as goal

pub returns : goal.returns
unfolding printed pieces
returns c =
    let config = c.args.config.now in
    let inputs = lines_text (plugin_section section.Input config.inputs) in
    let filters = lines_text (statement_section section.Filter config.filters) in
    let outputs = lines_text (statement_section section.Output config.outputs) in
    let one : string_bytes c.add_inputs.new.to ≡ inputs = c.in_ok-add_inputs.ensures ∙ ap (λ z. z ++ lines_text (plugin_section section.Input c.as_slice.result.now)) c.new-text.ensures.bytes ∙ ap (λ l. lines_text (plugin_section section.Input l)) c.as_slice.ensures in
    let two : string_bytes c.add_section.new.to ≡ inputs ++ filters = c.in_ok-add_section.ensures ∙ ap (λ z. z ++ lines_text (statement_section section.Filter c.as_slice-2.result.now)) one ∙ ap (λ l. inputs ++ lines_text (statement_section section.Filter l)) c.as_slice-2.ensures in
    let three : string_bytes c.add_section-2.new.to ≡ (inputs ++ filters) ++ outputs = c.in_ok-add_section-2.ensures ∙ ap (λ z. z ++ lines_text (statement_section section.Output c.as_slice-3.result.now)) two ∙ ap (λ l. (inputs ++ filters) ++ lines_text (statement_section section.Output l)) c.as_slice-3.ensures in
    c.from_string.ensures ∙ three ∙ append_assoc inputs filters outputs ∙ sym (three_sections plugin statement statement section.Input section.Filter section.Output config.inputs config.filters config.outputs)
