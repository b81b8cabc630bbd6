use Rattle.std.proofs.Common.{subst}
use Rattle.event_tree.specs.Growth.{TextsWhereRoom}
use Rattle.event_tree.proofs.EventPuts.{passes_fits, passes_refusal}
use Rattle.event_tree.proofs.within.put_within.Goals as goal

pub returns-in-Ok-put_in : goal.returns-in-Ok-put_in
returns-in-Ok-put_in c =
    let p = c.in-Ok.ensures.passes in
    let f = passes_fits c.room_at.result c.args.parts.now c.args.value c.in-Ok.left p c.args.room c.args.target.now c.room_at.ensures.room c.requires.object c.requires.shallow c.put_in.new.target c.in-Ok-put_in.ensures in
    let texts = subst (λ room. TextsWhereRoom room c.args.parts.now) p.found_is c.room_at.ensures.texts in
    (f.0, f.1, f.2, f.3 texts p.sound_is c.requires.sound)

pub returns-in-Err-put_in : goal.returns-in-Err-put_in
returns-in-Err-put_in c =
    passes_refusal c.room_at.result c.args.parts.now c.args.value c.in-Ok.left c.in-Ok.ensures.passes c.args.room c.args.target.now c.room_at.ensures.room c.requires.object c.requires.shallow c.in-Err-put_in.fault c.put_in.new.target c.in-Err-put_in.ensures
