use Rattle.std.proofs.Common.{◌∷◌, ap, sym, subst, ◌∙◌}
use Rattle.config_tree.specs.Joints.{disjoined}
use Rattle.config_parse.specs.Symbols as symbol
use Rattle.config_parse.specs.Gives.{GivesRead}
use Rattle.config_parse.specs.Read as spec
use Rattle.config_parse.specs.Seen.{tokens_of}
use Rattle.config_parse.proofs.Reading.{read_short}
use Rattle.config_parse.proofs.Turns.{fewer, turned, failed, joined_short, ors_item, unary_compare, word_is}
use Rattle.config_parse.proofs.conditions.+conditions.Goals as goal

pub ands-loop-token-smaller : goal.ands-loop-token-smaller
ands-loop-token-smaller t_ c = fewer (read_short c.args.depth symbol.Unary (tokens_of c.in-Some.behind.now)) c.in-Some.ensures c.in_ok-right-in-Word-Conjunction.ensures

pub ors-loop-token-smaller : goal.ors-loop-token-smaller
ors-loop-token-smaller t_ c = fewer (joined_short c.args.depth (tokens_of c.in-Some.behind.now)) c.in-Some.ensures c.in_ok-right-in-Word-Disjunction.ensures

pub ors-loop-token-preserved : goal.ors-loop-token-preserved
ors-loop-token-preserved t_ c =
    let is = c.in-Some.ensures ∙ ap (λ y. y ∷ tokens_of c.in-Some.behind.now) (c.in-Word-Disjunction.is ∙ word_is (rw c.in-Word-Disjunction.is at c.in-Word-Disjunction.field-0-is)) in
    rw c.in_ok-left-in-Word-Disjunction.ensures (turned (spec.read c.args.depth symbol.Ors) (spec.read c.args.depth symbol.Ors) (disjoined c.in-Word-Disjunction.joint) _ _ (ap (spec.read c.args.depth symbol.Ors) is ∙ ors_item c.args.depth _ _) c.loop-token.invariant c.in_ok-right-in-Word-Disjunction.ensures)

pub ors-returns-in_err-right-in-Word-Disjunction : goal.ors-returns-in_err-right-in-Word-Disjunction
ors-returns-in_err-right-in-Word-Disjunction t_ c =
    let is = c.in-Some.ensures ∙ ap (λ y. y ∷ tokens_of c.in-Some.behind.now) (c.in-Word-Disjunction.is ∙ word_is (rw c.in-Word-Disjunction.is at c.in-Word-Disjunction.field-0-is)) in
    failed (λ x. x) (spec.read c.args.depth symbol.Ors) (spec.read c.args.depth symbol.Ors) (disjoined c.in-Word-Disjunction.joint) c.loop-token.left _ _ _ c.from_residual.result c.from_residual.ensures.1 (ap (spec.read c.args.depth symbol.Ors) is ∙ ors_item c.args.depth _ _) c.loop-token.invariant c.in_err-right-in-Word-Disjunction.ensures

pub unary-returns-in_default : goal.unary-returns-in_default
unary-returns-in_default t_ c =
    let is = c.in_ok-token.ensures in
    subst (GivesRead (λ x. x) c.compare.result) (sym (ap (spec.read c.args.depth symbol.Unary) is ∙ unary_compare c.args.depth _ _ c.in_default.not-Exclamation c.in_default.not-OpenParen ∙ ap (spec.compare c.args.depth) (sym is))) c.compare.ensures
