use Rattle.std.proofs.Common.{◌++◌, ◌∷◌, [], ap, sym, ◌∙◌}
use Rattle.config_parse.specs.Symbols as symbol
use Rattle.config_parse.specs.Read as spec
use Rattle.config_parse.specs.Seen.{tokens_of}
use Rattle.config_parse.proofs.Turns.{fewer_two, turned, failed, arm_short, statement_short, statements_turn, otherwise_turn, word_is}
use Rattle.config_parse.proofs.statements.+statements.Goals as goal

pub statements-loop-found-smaller : goal.statements-loop-found-smaller
statements-loop-found-smaller t_ c = statement_short c.args.depth c.in_ok-token.ensures c.in_ok-item-in_default.ensures

pub statements-loop-found-preserved : goal.statements-loop-found-preserved
statements-loop-found-preserved t_ c =
    let statements = spec.read c.args.depth symbol.Statements in
    rw c.in_ok-push-in_default.ensures.ok (turned statements statements (λ front x. front ++ x ∷ []) _ _ (statements_turn c.args.depth c.in_ok-token.ensures c.in_default.not-CloseBrace) c.loop-found.invariant c.in_ok-item-in_default.ensures)

pub statements-returns-in_err-item-in_default : goal.statements-returns-in_err-item-in_default
statements-returns-in_err-item-in_default t_ c =
    let statements = spec.read c.args.depth symbol.Statements in
    failed (λ x. x) statements statements (λ front x. front ++ x ∷ []) c.loop-found.found _ _ _ c.from_residual-in_err-item-in_default.result c.from_residual-in_err-item-in_default.ensures.1 (statements_turn c.args.depth c.in_ok-token.ensures c.in_default.not-CloseBrace) c.loop-found.invariant c.in_err-item-in_default.ensures

pub otherwise-loop-token-smaller : goal.otherwise-loop-token-smaller
otherwise-loop-token-smaller t_ c = fewer_two (arm_short c.args.depth (tokens_of c.in_ok-second-in-Word-Else.next.now)) c.in-Some.ensures c.in_ok-second-in-Word-Else.ensures c.in_ok-item-in-Word-Else.ensures

pub otherwise-loop-token-preserved : goal.otherwise-loop-token-preserved
otherwise-loop-token-preserved t_ c =
    let otherwise = spec.read c.args.depth symbol.Otherwise in
    let is = c.in-Some.ensures ∙ ap (λ y. y ∷ tokens_of c.in-Some.behind.now) (c.in-Word-Else.is ∙ word_is (rw c.in-Word-Else.is at c.in-Word-Else.field-0-is)) in
    rw c.in_ok-push-in-Word-Else.ensures.ok (turned otherwise otherwise (λ front x. front ++ x ∷ []) _ _ (otherwise_turn c.args.depth is c.in_ok-second-in-Word-Else.ensures (sym c.is_if.ensures ∙ c.if-is_if.true)) c.loop-token.invariant c.in_ok-item-in-Word-Else.ensures)

pub otherwise-returns-in_err-item-in-Word-Else : goal.otherwise-returns-in_err-item-in-Word-Else
otherwise-returns-in_err-item-in-Word-Else t_ c =
    let otherwise = spec.read c.args.depth symbol.Otherwise in
    let is = c.in-Some.ensures ∙ ap (λ y. y ∷ tokens_of c.in-Some.behind.now) (c.in-Word-Else.is ∙ word_is (rw c.in-Word-Else.is at c.in-Word-Else.field-0-is)) in
    failed (λ x. x) otherwise otherwise (λ front x. front ++ x ∷ []) c.loop-token.found _ _ _ c.from_residual-in_err-item-in-Word-Else.result c.from_residual-in_err-item-in-Word-Else.ensures.1 (otherwise_turn c.args.depth is c.in_ok-second-in-Word-Else.ensures (sym c.is_if.ensures ∙ c.if-is_if.true)) c.loop-token.invariant c.in_err-item-in-Word-Else.ensures
