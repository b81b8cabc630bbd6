use Rattle.std.proofs.Common.{◌++◌, ◌∙◌}
use Rattle.io_traits.proofs.Growth.{grows_then}
use Rattle.io_traits.proofs.Causes.{cause_from}
use Rattle.logstash_top.proofs.PartsLemmas.{next_part, part_more, in_next_part}
use Rattle.logstash_top.proofs.text_parts.write_parts.Goals as goal

pub returns-in-Err-clause-part : goal.returns-in-Err-clause-part
returns-in-Err-clause-part g c =
    let i = c.loop-part.invariant in
    in_next_part _ _ _ _ _ i.whole (next_part c.args.parts.now c.loop-part.part-index _ c.as_bytes.result.now c.loop-part-test.true c.as_bytes.ensures.value) i.grows c.in-Err.ensures.part

pub returns-in-Err-clause-cause : goal.returns-in-Err-clause-cause
returns-in-Err-clause-cause g c = cause_from c.loop-part.invariant.same c.in-Err.ensures.cause

pub loop-part-preserved : goal.loop-part-preserved
loop-part-preserved g c =
    let i = c.loop-part.invariant in
    record {
      written = i.written ++ c.as_bytes.result.now;
      whole = part_more _ _ _ _ _ i.whole (next_part c.args.parts.now c.loop-part.part-index _ c.as_bytes.result.now c.loop-part-test.true c.as_bytes.ensures.value);
      grows = grows_then i.grows c.in-Ok.ensures.ok;
      same = c.in-Ok.ensures.cause.same (λ e. cc) ∙ i.same;
    }
