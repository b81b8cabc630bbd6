use Rattle.std.proofs.Common.{◌≡◌, ◌<◌, length, take, arith, rules}
use Rattle.config_tree.proofs.Folds as folds
use Rattle.config_tree.specs.declared.tree.Condition.TheVariants as v
use Rattle.condition_eval.specs.Made.{texts, texts_behind}
use Rattle.condition_eval.proofs.Making.{added_then, refused_then, refused_within, refused_alone, added_as}
use Rattle.condition_eval.proofs.Rows.{texts_taken, texts_split}
use Rattle.condition_eval.proofs.TextsOf as of
use Rattle.condition_eval.proofs.patterns.+add.Goals as goal

pub add-returns-in-Matched-clause-refused : goal.add-returns-in-Matched-clause-refused
unfolding texts
add-returns-in-Matched-clause-refused t c = refused_alone c.add_one.result _ (texts c.args.condition.now) (search (folds.condition_folds, rules)) c.add_one.ensures.refused

pub add-returns-in_ok-add-in-Conjoined-clause-made : goal.add-returns-in_ok-add-in-Conjoined-clause-made
add-returns-in_ok-add-in-Conjoined-clause-made t c =
    let is : c.args.condition.now ≡ v.Conjoined c.get-in-Conjoined.result.now c.as_slice.result.now = search rules in
    added_then c.add_conjoined.result (texts c.get-in-Conjoined.result.now) (texts_behind c.as_slice.result.now) (texts c.args.condition.now) c.args.patterns.now c.add-in-Conjoined.new.patterns c.add_conjoined.new.patterns (of.texts_of-Conjoined c.args.condition.now c.get-in-Conjoined.result.now c.as_slice.result.now is) c.in_ok-add-in-Conjoined.ensures.made c.add_conjoined.ensures.made

pub add-returns-in_ok-add-in-Conjoined-clause-refused : goal.add-returns-in_ok-add-in-Conjoined-clause-refused
add-returns-in_ok-add-in-Conjoined-clause-refused t c =
    let is : c.args.condition.now ≡ v.Conjoined c.get-in-Conjoined.result.now c.as_slice.result.now = search rules in
    refused_then c.add_conjoined.result (texts c.get-in-Conjoined.result.now) (texts_behind c.as_slice.result.now) (texts c.args.condition.now) c.args.patterns.now c.add-in-Conjoined.new.patterns (of.texts_of-Conjoined c.args.condition.now c.get-in-Conjoined.result.now c.as_slice.result.now is) c.in_ok-add-in-Conjoined.ensures.made c.add_conjoined.ensures.refused

pub add_conjoined-returns-in_err-add-clause-refused : goal.add_conjoined-returns-in_err-add-clause-refused
add_conjoined-returns-in_err-add-clause-refused t c =
    let lt : c.loop-part.part-index < length c.args.rest.now = omega (arith, c.loop-part-test.true) in
    search (refused_within c.in_err-add.field-0.0 _ _ _ _ _ _ (texts_split c.args.rest.now c.loop-part.part-index c.part-item.result c.part-item.is lt) c.loop-part.invariant c.in_err-add.ensures.refused, rules)

pub add_conjoined-loop-part-preserved : goal.add_conjoined-loop-part-preserved
add_conjoined-loop-part-preserved t c =
    let lt : c.loop-part.part-index < length c.args.rest.now = omega (arith, c.loop-part-test.true) in
    added_as (texts_behind (take c.loop-part.part-index c.args.rest.now)) (texts c.part-item.result.1) _ c.args.patterns.now c.loop-part.patterns c.add.new.patterns (texts_taken c.args.rest.now c.loop-part.part-index c.part-item.result c.part-item.is lt) c.loop-part.invariant c.in_ok-add.ensures.made

pub add-returns-in_ok-add-in-Disjoined-clause-made : goal.add-returns-in_ok-add-in-Disjoined-clause-made
add-returns-in_ok-add-in-Disjoined-clause-made t c =
    let is : c.args.condition.now ≡ v.Disjoined c.get-in-Disjoined.result.now c.as_slice-in-Disjoined.result.now = search rules in
    added_then c.add_disjoined.result (texts c.get-in-Disjoined.result.now) (texts_behind c.as_slice-in-Disjoined.result.now) (texts c.args.condition.now) c.args.patterns.now c.add-in-Disjoined.new.patterns c.add_disjoined.new.patterns (of.texts_of-Disjoined c.args.condition.now c.get-in-Disjoined.result.now c.as_slice-in-Disjoined.result.now is) c.in_ok-add-in-Disjoined.ensures.made c.add_disjoined.ensures.made

pub add-returns-in_ok-add-in-Disjoined-clause-refused : goal.add-returns-in_ok-add-in-Disjoined-clause-refused
add-returns-in_ok-add-in-Disjoined-clause-refused t c =
    let is : c.args.condition.now ≡ v.Disjoined c.get-in-Disjoined.result.now c.as_slice-in-Disjoined.result.now = search rules in
    refused_then c.add_disjoined.result (texts c.get-in-Disjoined.result.now) (texts_behind c.as_slice-in-Disjoined.result.now) (texts c.args.condition.now) c.args.patterns.now c.add-in-Disjoined.new.patterns (of.texts_of-Disjoined c.args.condition.now c.get-in-Disjoined.result.now c.as_slice-in-Disjoined.result.now is) c.in_ok-add-in-Disjoined.ensures.made c.add_disjoined.ensures.refused

pub add_disjoined-returns-in_err-add-clause-refused : goal.add_disjoined-returns-in_err-add-clause-refused
add_disjoined-returns-in_err-add-clause-refused t c =
    let lt : c.loop-part.part-index < length c.args.rest.now = omega (arith, c.loop-part-test.true) in
    search (refused_within c.in_err-add.field-0.0 _ _ _ _ _ _ (texts_split c.args.rest.now c.loop-part.part-index c.part-item.result c.part-item.is lt) c.loop-part.invariant c.in_err-add.ensures.refused, rules)

pub add_disjoined-loop-part-preserved : goal.add_disjoined-loop-part-preserved
add_disjoined-loop-part-preserved t c =
    let lt : c.loop-part.part-index < length c.args.rest.now = omega (arith, c.loop-part-test.true) in
    added_as (texts_behind (take c.loop-part.part-index c.args.rest.now)) (texts c.part-item.result.1) _ c.args.patterns.now c.loop-part.patterns c.add.new.patterns (texts_taken c.args.rest.now c.loop-part.part-index c.part-item.result c.part-item.is lt) c.loop-part.invariant c.in_ok-add.ensures.made
