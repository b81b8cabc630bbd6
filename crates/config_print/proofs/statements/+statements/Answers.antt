use Rattle.std.proofs.Common.{◌≡◌, ◌++◌, ap, subst, ◌∙◌, OnOk, string_bytes, arith}
use Rattle.event_json.proofs.Written.{adds_two}
use Rattle.config_print.specs.Layout.{text_of}
use Rattle.config_print.specs.Printed.{test, block, statement, arm}
use Rattle.config_print.proofs.Layouts.{text_both}
use Rattle.config_print.proofs.Equations.{arm-is}
use Rattle.config_print.proofs.Adding.{block_done, turn_each, turn_arm}
use Rattle.config_print.proofs.statements.+statements.Goals as goal

pub add_block-loop-statement-preserved : goal.add_block-loop-statement-preserved
add_block-loop-statement-preserved t c =
    let x = c.statement-item.result in
    turn_each (λ z. statement z c.in_ok-inner.inner) c.args.list.now c.loop-statement.statement-index x (string_bytes c.loop-statement.to) (string_bytes c.add_statement.new.to) _ (omega (arith, c.loop-statement-test.true)) c.statement-item.is
    c.in_ok-add_statement.ensures c.loop-statement.invariant

pub add_block-returns : goal.add_block-returns
add_block-returns t c =
    block_done c.add_close_brace.result (λ m x. statement x m) c.args.list.now c.loop-statement.statement-index c.args.margin c.in_ok-inner.inner (string_bytes c.args.to.now) (string_bytes c.loop-statement.to) (string_bytes c.add_close_brace.new.to)
    (omega (arith, c.loop-statement-test.false)) c.in_ok-inner.ensures c.loop-statement.invariant c.add_close_brace.ensures

pub add_branch-loop-arm-preserved : goal.add_branch-loop-arm-preserved
add_branch-loop-arm-preserved t c =
    let x = c.arm-item.result in
    let margin = c.args.margin in
    turn_arm arm margin c.args.arms.now c.loop-arm.arm-index x c.loop-arm.later (string_bytes c.loop-arm.to) (string_bytes c.add_else.new.to) (string_bytes c.add_arm.new.to) _ (omega (arith, c.loop-arm-test.true)) c.arm-item.is
    c.in_ok-add_else.ensures (c.in_ok-add_arm.ensures ∙ ap (λ g. string_bytes c.add_else.new.to ++ text_of (arm x g margin)) c.arm_front.ensures) c.loop-arm.invariant

pub add_arm-returns : goal.add_arm-returns
add_arm-returns t c =
    let x = c.args.arm.now in
    let front = c.args.front in
    let margin = c.args.margin in
    adds_two c.add_block.result (text_of (test front x.condition)) (text_of (block x.block margin)) _ (string_bytes c.args.to.now) (string_bytes c.add_test.new.to) (string_bytes c.add_block.new.to)
    (ap text_of (arm-is x front margin) ∙ text_both (test front x.condition) (block x.block margin)) c.in_ok-add_test.ensures
    (subst (λ l. OnOk c.add_block.result (string_bytes c.add_block.new.to ≡ string_bytes c.add_test.new.to ++ text_of (block l margin))) c.as_slice.ensures c.add_block.ensures)
