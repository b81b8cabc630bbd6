use Rattle.std.proofs.Common.{rules, ◌≡◌, ◌<◌, length, arith}
use Rattle.config_tree.specs.declared.tree.Condition.TheVariants as v
use Rattle.condition_eval.proofs.Rows.{count_on}
use Rattle.condition_eval.proofs.TextsOf.{counted-Not, counted-Conjoined, counted-Disjoined}
use Rattle.condition_eval.proofs.Weights.{part_lighter, weight-Not, weight-Conjoined, weight-Disjoined}
use Rattle.condition_eval.proofs.walk.+past.Goals as goal

pub past-past-requires : goal.past-past-requires
past-past-requires t c =
    let is : c.args.condition.now ≡ v.Not c.get.result.now = search rules in
    (omega (arith, weight-Not c.args.condition.now c.get.result.now is), omega (arith, c.requires, counted-Not c.args.condition.now c.get.result.now is))

pub past-past-requires-in-Conjoined : goal.past-past-requires-in-Conjoined
past-past-requires-in-Conjoined t c =
    let is : c.args.condition.now ≡ v.Conjoined c.get-in-Conjoined.result.now c.as_slice.result.now = search rules in
    (omega (arith, weight-Conjoined c.args.condition.now c.get-in-Conjoined.result.now c.as_slice.result.now is), omega (arith, c.requires, counted-Conjoined c.args.condition.now c.get-in-Conjoined.result.now c.as_slice.result.now is))

pub past-past_conjoined-requires : goal.past-past_conjoined-requires
past-past_conjoined-requires t c =
    let is : c.args.condition.now ≡ v.Conjoined c.get-in-Conjoined.result.now c.as_slice.result.now = search rules in
    (omega (arith, weight-Conjoined c.args.condition.now c.get-in-Conjoined.result.now c.as_slice.result.now is), omega (arith, c.requires, c.past-in-Conjoined.ensures, counted-Conjoined c.args.condition.now c.get-in-Conjoined.result.now c.as_slice.result.now is))

pub past-past-requires-in-Disjoined : goal.past-past-requires-in-Disjoined
past-past-requires-in-Disjoined t c =
    let is : c.args.condition.now ≡ v.Disjoined c.get-in-Disjoined.result.now c.as_slice-in-Disjoined.result.now = search rules in
    (omega (arith, weight-Disjoined c.args.condition.now c.get-in-Disjoined.result.now c.as_slice-in-Disjoined.result.now is), omega (arith, c.requires, counted-Disjoined c.args.condition.now c.get-in-Disjoined.result.now c.as_slice-in-Disjoined.result.now is))

pub past-past_disjoined-requires : goal.past-past_disjoined-requires
past-past_disjoined-requires t c =
    let is : c.args.condition.now ≡ v.Disjoined c.get-in-Disjoined.result.now c.as_slice-in-Disjoined.result.now = search rules in
    (omega (arith, weight-Disjoined c.args.condition.now c.get-in-Disjoined.result.now c.as_slice-in-Disjoined.result.now is), omega (arith, c.requires, c.past-in-Disjoined.ensures, counted-Disjoined c.args.condition.now c.get-in-Disjoined.result.now c.as_slice-in-Disjoined.result.now is))

pub past_conjoined-past-next-requires : goal.past_conjoined-past-next-requires
past_conjoined-past-next-requires t c =
    let lt : c.loop-part.part-index < length c.args.rest.now = omega (arith, c.loop-part-test.true) in
    (omega (arith, part_lighter c.args.rest.now c.loop-part.part-index c.part-item.result c.part-item.is lt), omega (arith, c.requires, c.loop-part.invariant, count_on c.args.rest.now c.loop-part.part-index c.part-item.result c.part-item.is lt))

pub past_conjoined-loop-part-preserved : goal.past_conjoined-loop-part-preserved
past_conjoined-loop-part-preserved t c =
    let lt : c.loop-part.part-index < length c.args.rest.now = omega (arith, c.loop-part-test.true) in
    omega (arith, c.loop-part.invariant, c.past-next.ensures, count_on c.args.rest.now c.loop-part.part-index c.part-item.result c.part-item.is lt)

pub past_disjoined-past-next-requires : goal.past_disjoined-past-next-requires
past_disjoined-past-next-requires t c =
    let lt : c.loop-part.part-index < length c.args.rest.now = omega (arith, c.loop-part-test.true) in
    (omega (arith, part_lighter c.args.rest.now c.loop-part.part-index c.part-item.result c.part-item.is lt), omega (arith, c.requires, c.loop-part.invariant, count_on c.args.rest.now c.loop-part.part-index c.part-item.result c.part-item.is lt))

pub past_disjoined-loop-part-preserved : goal.past_disjoined-loop-part-preserved
past_disjoined-loop-part-preserved t c =
    let lt : c.loop-part.part-index < length c.args.rest.now = omega (arith, c.loop-part-test.true) in
    omega (arith, c.loop-part.invariant, c.past-next.ensures, count_on c.args.rest.now c.loop-part.part-index c.part-item.result c.part-item.is lt)
