use Rattle.std.proofs.Common.{◌<◌, ◌∙◌, length, arith}
use Rattle.std.proofs.lemmas.Grind.{common_steps}
use Rattle.event_tree.proofs.Sounds.{texts_behind}
use Rattle.event_tree.proofs.measure.room_after_parts.Goals as goal

pub loop-part-preserved : goal.loop-part-preserved
loop-part-preserved c =
    let lt : c.loop-part.part-index < length c.args.parts.now = omega (arith, c.loop-part-test.true) in
    record {
      room = grind (arith, common_steps);
      texts = texts_behind c.args.parts.now c.loop-part.part-index c.part-item.result lt c.part-item.is (rw c.as_str.ensures at c.as_str.utf8) ∙ c.loop-part.invariant.texts;
    }
