use Rattle.std.proofs.Common.{ap, sym, ◌∙◌, reverse}
use Rattle.event_flow.specs.Laying.{assembled}
use Rattle.event_flow.proofs.Blocks.{assembled_last}
use Rattle.event_flow.proofs.assembling.assemble.Goals as goal

pub loop-block-preserved : goal.loop-block-preserved
loop-block-preserved c =
    ap (assembled c.pop.new.self) c.in_ok-put_block.ensures
    ∙ sym (assembled_last c.pop.new.self c.in-Some.block (reverse c.loop-block.back))
    ∙ ap (λ bs. assembled bs (reverse c.loop-block.back)) (sym c.in-Some.ensures)
    ∙ c.loop-block.invariant
