use Rattle.std.proofs.Common.{◌++◌, ap, ◌∙◌, subst}
use Rattle.element_code.specs.Parts.{bytes_of, object_parts, event_spelling}
use Rattle.element_code.specs.Adds.{Writes}
use Rattle.element_code.proofs.Added.{then_writes}
use Rattle.element_code.proofs.PartsOf.{bytes_of-append}
use Rattle.element_code.proofs.encoding.add_event.Goals as goal

pub returns : goal.returns
unfolding event_spelling
returns c =
    let e = c.args.event.now in
    let fields = bytes_of (object_parts e.fields) in
    let meta = bytes_of (object_parts e.meta) in
    let one = c.in_ok-add_object.ensures ∙ ap (λ d. c.args.to.now.items ++ bytes_of (object_parts d)) c.fields.ensures.same in
    let two = subst (λ d. Writes c.add_object-2.result (bytes_of (object_parts d)) c.add_object.new.to.items c.add_object-2.new.to.items) c.meta.ensures.same c.add_object-2.ensures in
    then_writes c.add_object-2.result fields meta (event_spelling e) c.args.to.now.items c.add_object.new.to.items c.add_object-2.new.to.items (bytes_of-append (object_parts e.fields) (object_parts e.meta)) one two
