use Rattle.std.proofs.Common.{Some, refl, sym, ap, ◌∙◌}
use Rattle.event_tree.proofs.EventPuts.{no_way, too_deep, no_room_for_way, no_room}
use Rattle.event_tree.proofs.within.room_left.Goals as goal

pub returns-in_default-clause-refused : goal.returns-in_default-clause-refused
returns-in_default-clause-refused c room old found o flat = (no_way c.args.parts.now c.args.value.now old room (sym found ∙ c.in_default.is), refl)

pub returns-then-is_too_deep-clause-refused : goal.returns-then-is_too_deep-clause-refused
returns-then-is_too_deep-clause-refused c room old found o flat =
    (too_deep c.args.parts.now c.args.value.now old room o (sym c.ends_as_no_object.ensures ∙ c.if-ends_as_no_object.false) c.in-Some.found (sym found ∙ c.in-Some.is) (sym c.is_too_deep.ensures ∙ c.if-is_too_deep.true), refl)

pub returns-in_default-found-clause-refused : goal.returns-in_default-found-clause-refused
returns-in_default-found-clause-refused c room old found o flat =
    (no_room_for_way c.args.parts.now c.args.value.now old room o (sym c.ends_as_no_object.ensures ∙ c.if-ends_as_no_object.false) flat (sym c.is_too_deep.ensures ∙ c.if-is_too_deep.false) (sym found ∙ c.in-Some.is ∙ ap Some c.in_default-found.is), refl)

pub returns-in-None-clause-refused : goal.returns-in-None-clause-refused
returns-in-None-clause-refused c room old found o flat =
    (no_room c.args.parts.now c.args.value.now old room o (sym c.ends_as_no_object.ensures ∙ c.if-ends_as_no_object.false) flat (sym c.is_too_deep.ensures ∙ c.if-is_too_deep.false) c.in-Some-found.free (sym found ∙ c.in-Some.is ∙ ap Some c.in-Some-found.is) (sym c.room_after.ensures.room ∙ c.in-None.is), refl)
