use Rattle.std.proofs.Common.{Ok, Err, sym, ◌∙◌}
use Rattle.event_tree.proofs.Appends.{append_deep, append_large, append_answers}
use Rattle.event_tree.proofs.within.append_within.Goals as goal

pub returns-then-is_too_deep : goal.returns-then-is_too_deep
returns-then-is_too_deep c = append_deep c.args.parts.now c.args.value c.args.target.now c.args.room (sym c.holds_list.ensures ∙ c.if-not-holds_list.false) c.requires.object (sym c.is_too_deep.ensures ∙ c.if-is_too_deep.true)

pub returns-in-Ok : goal.returns-in-Ok
returns-in-Ok c =
    append_answers c.args.parts.now c.args.value c.args.target.now c.args.room (sym c.holds_list.ensures ∙ c.if-not-holds_list.false) c.requires.object c.requires.shallow (sym c.is_too_deep.ensures ∙ c.if-is_too_deep.false)
    c.in-Some.left (sym c.room_after.ensures.room ∙ c.in-Some.is) c.in-Some.ensures.sound c.requires.sound (Ok tt) c.append_in.new.target c.in-Ok.ensures

pub returns-in-Err : goal.returns-in-Err
returns-in-Err c =
    append_answers c.args.parts.now c.args.value c.args.target.now c.args.room (sym c.holds_list.ensures ∙ c.if-not-holds_list.false) c.requires.object c.requires.shallow (sym c.is_too_deep.ensures ∙ c.if-is_too_deep.false)
    c.in-Some.left (sym c.room_after.ensures.room ∙ c.in-Some.is) c.in-Some.ensures.sound c.requires.sound (Err c.in-Err.fault) c.append_in.new.target c.in-Err.ensures

pub returns-in-None : goal.returns-in-None
returns-in-None c = append_large c.args.parts.now c.args.value c.args.target.now c.args.room (sym c.holds_list.ensures ∙ c.if-not-holds_list.false) c.requires.object c.requires.shallow (sym c.is_too_deep.ensures ∙ c.if-is_too_deep.false) (sym c.room_after.ensures.room ∙ c.in-None.is)
