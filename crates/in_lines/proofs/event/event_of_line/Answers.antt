use Rattle.std.proofs.Common.{rules, [], sym, ap, subst}
use Rattle.std.specs.Str.{IsUtf8}
use Rattle.event_tree.specs.Events.{IsEvent, both, event_size}
use Rattle.event_tree.specs.declared.value.Value.TheVariants as v
use Rattle.in_lines.proofs.Sound.{line_is_event, line_size}
use Rattle.in_lines.proofs.event.event_of_line.Goals as goal

pub from_objects-requires-clause-valid : goal.from_objects-requires-clause-valid
from_objects-requires-clause-valid c =
    let utf8 : IsUtf8 c.args.line.now = search rules in
    subst (λ ms. IsEvent (both (v.Object c.in_ok-fields.fields) (v.Object ms))) (sym c.new.ensures)
    (subst (λ ms. IsEvent (both (v.Object ms) (v.Object []))) (sym c.in_ok-fields.ensures)
    (line_is_event (record { line = c.args.line.now; moment = c.args.moment }) utf8 c.nanos-nanos.ensures.moment c.requires))

pub from_objects-requires-clause-size : goal.from_objects-requires-clause-size
from_objects-requires-clause-size c =
    let size = line_size (record { line = c.args.line.now; moment = c.args.moment }) in
    let same = ap (λ ms. event_size (both (v.Object ms) (v.Object []))) c.in_ok-fields.ensures in
    let meta = ap (λ ms. event_size (both (v.Object c.in_ok-fields.fields) (v.Object ms))) c.new.ensures in
    search rules
