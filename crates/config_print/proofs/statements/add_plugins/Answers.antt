use Rattle.std.proofs.Common.{string_bytes, arith}
use Rattle.config_print.specs.Printed.{plugin}
use Rattle.config_print.proofs.Adding.{block_done, turn_each}
use Rattle.config_print.proofs.statements.add_plugins.Goals as goal

pub loop-plugin-preserved : goal.loop-plugin-preserved
loop-plugin-preserved c =
    let x = c.plugin-item.result in
    turn_each (λ z. plugin z c.in_ok-inner.inner) c.args.list.now c.loop-plugin.plugin-index x (string_bytes c.loop-plugin.to) (string_bytes c.add_plugin.new.to) _ (omega (arith, c.loop-plugin-test.true)) c.plugin-item.is
    c.in_ok-add_plugin.ensures c.loop-plugin.invariant

pub returns : goal.returns
returns c =
    block_done c.add_close_brace.result (λ m x. plugin x m) c.args.list.now c.loop-plugin.plugin-index c.args.margin c.in_ok-inner.inner (string_bytes c.args.to.now) (string_bytes c.loop-plugin.to) (string_bytes c.add_close_brace.new.to)
    (omega (arith, c.loop-plugin-test.false)) c.in_ok-inner.ensures c.loop-plugin.invariant c.add_close_brace.ensures
