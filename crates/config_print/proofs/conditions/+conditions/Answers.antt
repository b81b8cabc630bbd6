use Rattle.std.proofs.Common.{◌≡◌, ◌++◌, ◌∷◌, sym, ap, subst, ◌∙◌, OnOk, string_bytes, arith}
use Rattle.std.specs.Prelude.{codes}
use Rattle.event_json.proofs.Written.{adds_two}
use Rattle.config_lex.specs.declared.token.Word.TheVariants as w
use Rattle.config_lex.specs.Spelling.{conjunction_text, disjunction_text}
use Rattle.config_print.specs.declared.conditions.ConditionContext.TheVariants as at
use Rattle.config_print.specs.Layout.{text_of}
use Rattle.config_print.specs.Conditions.{condition, conjunct, row, opened, closed, grouped}
use Rattle.config_print.proofs.Equations.{condition-Not, condition-Conjoined, condition-Disjoined}
use Rattle.config_print.proofs.Adding.{adds_four, added_two, text_grouped, turn_each}
use Rattle.config_print.proofs.conditions.+conditions.Goals as goal

pub add_condition-returns-in_ok-push_str-in-Not : goal.add_condition-returns-in_ok-push_str-in-Not
add_condition-returns-in_ok-push_str-in-Not t c =
    adds_two c.add_condition.result (codes " !") (text_of (condition c.in-Not.inner at.Unary)) _ (string_bytes c.args.to.now) (string_bytes c.push_str.new.self) (string_bytes c.add_condition.new.to)
    (ap (λ x. text_of (condition x c.args.place)) c.in-Not.is ∙ ap text_of (condition-Not c.in-Not.inner c.args.place)) c.in_ok-push_str-in-Not.ensures.bytes
    (subst (λ x. OnOk c.add_condition.result (string_bytes c.add_condition.new.to ≡ string_bytes c.push_str.new.self ++ text_of (condition x at.Unary))) c.get.ensures c.add_condition.ensures)

pub add_condition-returns-in_ok-add_conjuncts-in-Conjoined : goal.add_condition-returns-in_ok-add_conjuncts-in-Conjoined
add_condition-returns-in_ok-add_conjuncts-in-Conjoined t c =
    let x = c.in-Conjoined.first in
    let rest = row w.Conjunction at.Unary c.in-Conjoined.rest in
    let parens = c.parts_and-parens.result in
    adds_four c.add_close.result (text_of (opened parens)) (text_of (condition x at.Joined)) (text_of rest) (text_of (closed parens)) _ (string_bytes c.args.to.now) (string_bytes c.add_open.new.to) (string_bytes c.add_condition-in-Conjoined.new.to) (string_bytes c.add_conjuncts.new.to) (string_bytes c.add_close.new.to)
    (ap (λ z. text_of (condition z c.args.place)) c.in-Conjoined.is ∙ ap text_of (condition-Conjoined x c.in-Conjoined.rest c.args.place) ∙ ap (λ b. text_of (grouped b (condition x at.Joined ++ rest))) (sym c.parts_and-parens.ensures) ∙ text_grouped parens (condition x at.Joined) rest)
    c.in_ok-add_open-in-Conjoined.ensures
    (subst (λ z. string_bytes c.add_condition-in-Conjoined.new.to ≡ string_bytes c.add_open.new.to ++ text_of (condition z at.Joined)) c.get-in-Conjoined.ensures c.in_ok-add_condition-in-Conjoined.ensures)
    (subst (λ l. string_bytes c.add_conjuncts.new.to ≡ string_bytes c.add_condition-in-Conjoined.new.to ++ text_of (row w.Conjunction at.Unary l)) c.as_slice.ensures c.in_ok-add_conjuncts-in-Conjoined.ensures)
    c.add_close.ensures

pub add_condition-returns-in_ok-add_disjuncts-in-Disjoined : goal.add_condition-returns-in_ok-add_disjuncts-in-Disjoined
add_condition-returns-in_ok-add_disjuncts-in-Disjoined t c =
    let x = c.in-Disjoined.first in
    let rest = row w.Disjunction at.Joined c.in-Disjoined.rest in
    let parens = c.parts_or-parens.result in
    adds_four c.add_close-in-Disjoined.result (text_of (opened parens)) (text_of (condition x at.Whole)) (text_of rest) (text_of (closed parens)) _ (string_bytes c.args.to.now) (string_bytes c.add_open-in-Disjoined.new.to) (string_bytes c.add_condition-in-Disjoined.new.to) (string_bytes c.add_disjuncts.new.to) (string_bytes c.add_close-in-Disjoined.new.to)
    (ap (λ z. text_of (condition z c.args.place)) c.in-Disjoined.is ∙ ap text_of (condition-Disjoined x c.in-Disjoined.rest c.args.place) ∙ ap (λ b. text_of (grouped b (condition x at.Whole ++ rest))) (sym c.parts_or-parens.ensures) ∙ text_grouped parens (condition x at.Whole) rest)
    c.in_ok-add_open-in-Disjoined.ensures
    (subst (λ z. string_bytes c.add_condition-in-Disjoined.new.to ≡ string_bytes c.add_open-in-Disjoined.new.to ++ text_of (condition z at.Whole)) c.get-in-Disjoined.ensures c.in_ok-add_condition-in-Disjoined.ensures)
    (subst (λ l. string_bytes c.add_disjuncts.new.to ≡ string_bytes c.add_condition-in-Disjoined.new.to ++ text_of (row w.Disjunction at.Joined l)) c.as_slice-in-Disjoined.ensures c.in_ok-add_disjuncts-in-Disjoined.ensures)
    c.add_close-in-Disjoined.ensures

pub add_conjuncts-loop-part-preserved : goal.add_conjuncts-loop-part-preserved
add_conjuncts-loop-part-preserved t c =
    let e = c.part-item.result in
    turn_each (conjunct w.Conjunction at.Unary) c.args.rest.now c.loop-part.part-index e (string_bytes c.loop-part.to) (string_bytes c.add_condition.new.to) _ (omega (arith, c.loop-part-test.true)) c.part-item.is
    (added_two (32 ∷ conjunction_text e.0) (text_of (condition e.1 at.Unary)) (string_bytes c.loop-part.to) (string_bytes c.add_sign.new.to) (string_bytes c.add_condition.new.to)
    (c.in_ok-add_sign.ensures ∙ ap (λ s. string_bytes c.loop-part.to ++ 32 ∷ s) c.conjunction_text.ensures) c.in_ok-add_condition.ensures)
    c.loop-part.invariant

pub add_disjuncts-loop-part-preserved : goal.add_disjuncts-loop-part-preserved
add_disjuncts-loop-part-preserved t c =
    let e = c.part-item.result in
    turn_each (conjunct w.Disjunction at.Joined) c.args.rest.now c.loop-part.part-index e (string_bytes c.loop-part.to) (string_bytes c.add_condition.new.to) _ (omega (arith, c.loop-part-test.true)) c.part-item.is
    (added_two (32 ∷ disjunction_text e.0) (text_of (condition e.1 at.Joined)) (string_bytes c.loop-part.to) (string_bytes c.add_sign.new.to) (string_bytes c.add_condition.new.to)
    (c.in_ok-add_sign.ensures ∙ ap (λ s. string_bytes c.loop-part.to ++ 32 ∷ s) c.disjunction_text.ensures) c.in_ok-add_condition.ensures)
    c.loop-part.invariant
