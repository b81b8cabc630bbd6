use Rattle.std.proofs.Common.{rules, ◌<◌, ◌++◌, length, ap, ◌∙◌, string_bytes}
use Rattle.std.specs.Prelude.{codes}
use Rattle.config_lex.specs.Spelling.{section_text}
use Rattle.config_print.specs.Layout.{text_of}
use Rattle.config_print.specs.Printed.{no_indentation, statement, block}
use Rattle.config_print.proofs.Adding.{adds_three, pushed}
use Rattle.config_print.proofs.Sections.{section_lines}
use Rattle.config_print.proofs.statements.add_section.Goals as goal

pub returns : goal.returns
returns c =
    let xs = c.args.list.now in
    let some : 0 < length xs = search rules in
    adds_three c.push_str-2.result (section_text c.args.kind) (text_of (block xs no_indentation)) (codes "\n") _ (string_bytes c.args.to.now) (string_bytes c.push_str.new.self) (string_bytes c.add_block.new.to) (string_bytes c.push_str-2.new.self)
    (section_lines statement c.args.kind xs some) (c.in_ok-push_str.ensures.bytes ∙ ap (λ s. string_bytes c.args.to.now ++ s) c.section_text.ensures) c.in_ok-add_block.ensures
    (pushed c.push_str-2.result (codes "\n") (string_bytes c.add_block.new.to) (string_bytes c.push_str-2.new.self) c.push_str-2.ensures.bytes)
