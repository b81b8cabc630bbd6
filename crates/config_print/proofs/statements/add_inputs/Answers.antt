use Rattle.std.proofs.Common.{rules, ◌<◌, length, string_bytes}
use Rattle.std.specs.Prelude.{codes}
use Rattle.config_lex.specs.declared.token.Section.TheVariants as section
use Rattle.config_print.specs.Layout.{text_of}
use Rattle.config_print.specs.Printed.{no_indentation, plugin, plugin_block}
use Rattle.config_print.proofs.Adding.{adds_three, pushed}
use Rattle.config_print.proofs.Sections.{section_lines}
use Rattle.config_print.proofs.statements.add_inputs.Goals as goal

pub returns : goal.returns
returns c =
    let xs = c.args.list.now in
    let some : 0 < length xs = search rules in
    adds_three c.push_str-2.result (codes "input") (text_of (plugin_block xs no_indentation)) (codes "\n") _ (string_bytes c.args.to.now) (string_bytes c.push_str.new.self) (string_bytes c.add_plugins.new.to) (string_bytes c.push_str-2.new.self)
    (section_lines plugin section.Input xs some) c.in_ok-push_str.ensures.bytes c.in_ok-add_plugins.ensures (pushed c.push_str-2.result (codes "\n") (string_bytes c.add_plugins.new.to) (string_bytes c.push_str-2.new.self) c.push_str-2.ensures.bytes)
