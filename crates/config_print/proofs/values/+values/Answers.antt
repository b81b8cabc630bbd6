use Rattle.std.proofs.Common.{◌≡◌, ◌++◌, ◌∷◌, ap, subst, ◌∙◌, OnOk, string_bytes, arith}
use Rattle.std.specs.Prelude.{codes}
use Rattle.std.proofs.lemmas.List.{append-nil}
use Rattle.event_json.specs.Json.{number_text}
use Rattle.event_json.proofs.Written.{adds_two}
use Rattle.config_lex.specs.Lexemes.{word_of}
use Rattle.config_lex.specs.declared.token.Token.TheVariants as token
use Rattle.config_print.specs.Tokens.{string, written}
use Rattle.config_print.specs.Layout.{text_of}
use Rattle.config_print.specs.Printed.{value, one_line, pair_line, setting_line, settings}
use Rattle.config_print.proofs.Equations.{value-Text, value-Number, value-Nested}
use Rattle.config_print.proofs.Adding.{adds_three, block_done, turn_each, turn_member}
use Rattle.config_print.proofs.values.+values.Goals as goal

pub add_members-loop-member-preserved : goal.add_members-loop-member-preserved
add_members-loop-member-preserved t c =
    turn_member (λ x. value x one_line) c.args.list.now c.loop-member.member-index c.member-item.result c.loop-member.later (string_bytes c.loop-member.to) (string_bytes c.add_comma.new.to) (string_bytes c.add_value.new.to) _ (omega (arith, c.loop-member-test.true)) c.member-item.is
    c.in_ok-add_comma.ensures c.in_ok-add_value.ensures c.loop-member.invariant

pub add_pairs-loop-pair-preserved : goal.add_pairs-loop-pair-preserved
add_pairs-loop-pair-preserved t c =
    let e = c.pair-item.result in
    let inner = c.in_ok-inner.inner in
    turn_each (pair_line inner) c.args.list.now c.loop-pair.pair-index e (string_bytes c.loop-pair.to) (string_bytes c.add_pair.new.to) _ (omega (arith, c.loop-pair-test.true)) c.pair-item.is
    (c.in_ok-add_pair.ensures ∙ ap (λ k. string_bytes c.loop-pair.to ++ text_of (pair_line inner (k, e.1))) c.as_str.ensures) c.loop-pair.invariant

pub add_pairs-returns : goal.add_pairs-returns
add_pairs-returns t c =
    block_done c.add_close_brace.result pair_line c.args.list.now c.loop-pair.pair-index c.args.margin c.in_ok-inner.inner (string_bytes c.args.to.now) (string_bytes c.loop-pair.to) (string_bytes c.add_close_brace.new.to) (omega (arith, c.loop-pair-test.false))
    c.in_ok-inner.ensures c.loop-pair.invariant c.add_close_brace.ensures

pub add_settings-loop-setting-preserved : goal.add_settings-loop-setting-preserved
add_settings-loop-setting-preserved t c =
    let e = c.setting-item.result in
    let inner = c.in_ok-inner.inner in
    turn_each (setting_line inner) c.args.list.now c.loop-setting.setting-index e (string_bytes c.loop-setting.to) (string_bytes c.add_setting.new.to) _ (omega (arith, c.loop-setting-test.true)) c.setting-item.is
    (c.in_ok-add_setting.ensures ∙ ap (λ k. string_bytes c.loop-setting.to ++ text_of (setting_line inner (k, e.1))) c.as_str.ensures) c.loop-setting.invariant

pub add_settings-returns : goal.add_settings-returns
add_settings-returns t c =
    block_done c.add_close_brace.result setting_line c.args.list.now c.loop-setting.setting-index c.args.margin c.in_ok-inner.inner (string_bytes c.args.to.now) (string_bytes c.loop-setting.to) (string_bytes c.add_close_brace.new.to) (omega (arith, c.loop-setting-test.false))
    c.in_ok-inner.ensures c.loop-setting.invariant c.add_close_brace.ensures

pub add_value-returns-in_ok-push_str-in-Text : goal.add_value-returns-in_ok-push_str-in-Text
add_value-returns-in_ok-push_str-in-Text t c =
    let s = c.in-Text.text in
    adds_two c.add_string.result (codes " ") (string s) _ (string_bytes c.args.to.now) (string_bytes c.push_str.new.self) (string_bytes c.add_string.new.to)
    (ap (λ v. text_of (value v c.args.margin)) c.in-Text.is ∙ ap text_of (value-Text s c.args.margin) ∙ ap (λ l. 32 ∷ l) (append-nil (string s))) c.in_ok-push_str-in-Text.ensures.bytes
    (subst (λ k. OnOk c.add_string.result (string_bytes c.add_string.new.to ≡ string_bytes c.push_str.new.self ++ string k)) c.as_str.ensures c.add_string.ensures)

pub add_value-returns-in_ok-push_str-in-Number : goal.add_value-returns-in_ok-push_str-in-Number
add_value-returns-in_ok-push_str-in-Number t c =
    let n = c.in-Number.number in
    adds_two c.add_number.result (codes " ") (number_text n) _ (string_bytes c.args.to.now) (string_bytes c.push_str-in-Number.new.self) (string_bytes c.add_number.new.to)
    (ap (λ v. text_of (value v c.args.margin)) c.in-Number.is ∙ ap text_of (value-Number n c.args.margin) ∙ ap (λ l. 32 ∷ l) (append-nil (number_text n))) c.in_ok-push_str-in-Number.ensures.bytes c.add_number.ensures

pub add_value-returns-in_ok-add_nested_name-in-Nested : goal.add_value-returns-in_ok-add_nested_name-in-Nested
add_value-returns-in_ok-add_nested_name-in-Nested t c =
    let x = c.in-Nested.plugin in
    let margin = c.args.margin in
    let name = written (token.Word (word_of x.name)) in
    adds_three c.add_settings.result (codes " ") name (text_of (settings x.settings.list margin)) _ (string_bytes c.args.to.now) (string_bytes c.push_str-in-Nested.new.self) (string_bytes c.add_nested_name.new.to) (string_bytes c.add_settings.new.to)
    (ap (λ v. text_of (value v margin)) c.in-Nested.is ∙ ap text_of (value-Nested x margin)) c.in_ok-push_str-in-Nested.ensures.bytes
    (c.in_ok-add_nested_name-in-Nested.ensures ∙ ap (λ s. string_bytes c.push_str-in-Nested.new.self ++ written (token.Word (word_of s))) c.as_str-in-Nested.ensures)
    (subst (λ l. OnOk c.add_settings.result (string_bytes c.add_settings.new.to ≡ string_bytes c.add_nested_name.new.to ++ text_of (settings l margin))) c.as_slice.ensures c.add_settings.ensures)
