use Rattle.std.proofs.Common.{rules, ◌≡◌, []}
use Rattle.line_inputs.proofs.Plain.{plain_options}
use Rattle.line_inputs.proofs.open_input.has_none.Goals as goal

pub returns : goal.returns
returns c = λ is event.
    let o = c.args.options.now in
    let no_field : o.add_field ≡ [] = search (c.is_empty.ensures, c.if-not-is_empty.false, rules) in
    let no_removed : o.remove_field ≡ [] = search (c.is_empty-2.ensures, c.if-not-is_empty-2.false, rules) in
    let no_tag : o.add_tag ≡ [] = search (c.is_empty-3.ensures, c.if-not-is_empty-3.false, rules) in
    plain_options o no_field no_removed no_tag (c.is_empty-4.ensures.0 is) event
