use Rattle.std.proofs.Common.{Some, option_map, sym, ap, subst, ◌∙◌}
use Rattle.event_tree.specs.PathTexts.{way_of, IsPathFault}
use Rattle.event_text.proofs.PathReads.{path_text, empty_fault, unclosed_fault, stray_fault}
use Rattle.event_text.proofs.path_text.path_in.Goals as goal

pub returns-in-Ok : goal.returns-in-Ok
returns-in-Ok c =
    let h = c.in-Ok.ensures in
    sym (ap (option_map way_of) (path_text h.0 c.args.text.now h.1) ∙ ap Some (sym h.2))

pub returns-in-Err-Empty : goal.returns-in-Err-Empty
returns-in-Err-Empty c = sym (ap (option_map way_of) (empty_fault c.args.text.now (subst (λ f. IsPathFault f c.args.text.now) c.in-Err-Empty.field-0-is c.in-Err-Empty.ensures)))

pub returns-in-Err-Unclosed : goal.returns-in-Err-Unclosed
returns-in-Err-Unclosed c = sym (ap (option_map way_of) (unclosed_fault c.in-Err-Unclosed.field-0-0 c.args.text.now (subst (λ f. IsPathFault f c.args.text.now) c.in-Err-Unclosed.field-0-is c.in-Err-Unclosed.ensures)))

pub returns-in-Err-Stray : goal.returns-in-Err-Stray
returns-in-Err-Stray c = sym (ap (option_map way_of) (stray_fault c.in-Err-Stray.field-0-0 c.args.text.now (subst (λ f. IsPathFault f c.args.text.now) c.in-Err-Stray.field-0-is c.in-Err-Stray.ensures)))
