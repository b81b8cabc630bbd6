use Rattle.std.proofs.Common.{◌≡◌, false, get_or, arith}
use Rattle.event_tree.specs.PathTexts.{is_bracket}
use Rattle.event_tree.proofs.PathLemmas.{not_bracket, NoBracket-next}
use Rattle.event_tree.proofs.path.name_end.Goals as goal

pub loop-at-preserved : goal.loop-at-preserved
loop-at-preserved c =
    let b : is_bracket (get_or c.args.bytes.now c.loop-at.at 0) ≡ false = not_bracket (get_or c.args.bytes.now c.loop-at.at 0) c.if-bytes-at-eq91.false c.if-bytes-at-eq93.false in
    NoBracket-next c.args.bytes.now c.args.from c.loop-at.at (omega (arith, c.loop-at.auto.at)) c.loop-at-test.true c.loop-at.invariant b
