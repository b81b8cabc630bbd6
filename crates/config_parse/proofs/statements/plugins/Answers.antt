use Rattle.std.proofs.Common.{◌++◌, ◌∷◌, []}
use Rattle.config_parse.specs.Symbols as symbol
use Rattle.config_parse.specs.Read as spec
use Rattle.config_parse.proofs.Turns.{turned, failed, plugin_short, plugins_turn}
use Rattle.config_parse.proofs.statements.plugins.Goals as goal

pub loop-found-smaller : goal.loop-found-smaller
loop-found-smaller c = plugin_short c.args.depth c.in_ok-token.ensures c.in_ok-item-in_default.ensures

pub loop-found-preserved : goal.loop-found-preserved
loop-found-preserved c =
    let plugins = spec.read c.args.depth symbol.Plugins in
    rw c.in_ok-push-in_default.ensures.ok (turned plugins plugins (λ front x. front ++ x ∷ []) _ _ (plugins_turn c.args.depth c.in_ok-token.ensures c.in_default.not-CloseBrace) c.loop-found.invariant c.in_ok-item-in_default.ensures)

pub returns-in_err-item-in_default : goal.returns-in_err-item-in_default
returns-in_err-item-in_default c =
    let plugins = spec.read c.args.depth symbol.Plugins in
    failed (λ x. x) plugins plugins (λ front x. front ++ x ∷ []) c.loop-found.found _ _ _ c.from_residual-in_err-item-in_default.result c.from_residual-in_err-item-in_default.ensures.1 (plugins_turn c.args.depth c.in_ok-token.ensures c.in_default.not-CloseBrace) c.loop-found.invariant c.in_err-item-in_default.ensures
