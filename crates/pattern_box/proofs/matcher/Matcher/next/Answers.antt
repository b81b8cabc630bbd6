use Rattle.std.proofs.Common.{◌≡◌, ◌-◌, ◌≤◌, true, Some, None, vec_len, option_map, IfSome, sym, ap, ◌∙◌, subst, arith, rules}
use Rattle.std.proofs.lemmas.Option.{none-some, same_Some}
use Rattle.regex_hir.specs.Find.{Match, find_str}
use Rattle.regex_vm.specs.Found.{span, group_cells}
use Rattle.regex.specs.Search.{next_match}
use Rattle.regex_meta.proofs.ProgramLemmas.{none_of_option_map, value_of_option_map}
use Rattle.regex.proofs.SearchLemmas.{next_same, next_later}
use Rattle.pattern_box.specs.Matchers.{shown}
use Rattle.pattern_box.specs.Patterns.{pattern_re}
use Rattle.pattern_box.proofs.matcher.Matcher.next.Goals as goal

pub returns-in_err-found-clause-found : goal.returns-in_err-found-clause-found
returns-in_err-found-clause-found c =
    let re = pattern_re (shown c.args.self.now) in
    let text = c.args.text.now in
    let after = c.args.after in
    let back : c.saturating_sub.result ≡ after - 1 = omega (arith, c.saturating_sub.ensures) in
    let none = none_of_option_map span _ (sym (c.in_err-found.ensures.found ∙ ap (λ n. option_map span (find_str re text n)) back)) in
    let next = next_same re text true after (λ x e. absurd (none-some x (sym none ∙ e))) ∙ none in
    let nothing : c.from_residual.result ≡ None = search rules in
    nothing ∙ sym (ap (option_map span) next)

pub returns-then-found-after-clause-found : goal.returns-then-found-after-clause-found
returns-then-found-after-clause-found c =
    let re = pattern_re (shown c.args.self.now) in
    let text = c.args.text.now in
    let after = c.args.after in
    let back : c.saturating_sub.result ≡ after - 1 = omega (arith, c.saturating_sub.ensures) in
    let v = value_of_option_map span (find_str re text (after - 1)) c.in_ok-found.found
    (sym (c.in_ok-found.ensures.found ∙ ap (λ n. option_map span (find_str re text n)) back)) in
    let ends : v.0.trace.end ≡ c.in_ok-found.found.1 = ap (λ s. s.1) v.2 in
    let next = next_later re text true after v.0 v.1 (omega arith) ∙ ap (λ p. find_str p text after) (sym c.in_ok-found.ensures.same.0) in
    c.find-then-found-after.ensures.found ∙ ap (option_map span) (sym next)

pub returns-clause-found : goal.returns-clause-found
returns-clause-found c =
    let re = pattern_re (shown c.args.self.now) in
    let text = c.args.text.now in
    let after = c.args.after in
    let back : c.saturating_sub.result ≡ after - 1 = omega (arith, c.saturating_sub.ensures) in
    let v = value_of_option_map span (find_str re text (after - 1)) c.in_ok-found.found
    (sym (c.in_ok-found.ensures.found ∙ ap (λ n. option_map span (find_str re text n)) back)) in
    let ends : v.0.trace.end ≡ c.in_ok-found.found.1 = ap (λ s. s.1) v.2 in
    let next = next_same re text true after (λ x e.
    subst (λ (y : Match). after ≤ y.trace.end) (same_Some _ _ (sym v.1 ∙ e)) (omega arith)) in
    sym (ap (option_map span) (next ∙ v.1) ∙ ap Some v.2)

pub returns-in_err-found-clause-cells : goal.returns-in_err-found-clause-cells
returns-in_err-found-clause-cells c =
    let re = pattern_re (shown c.args.self.now) in
    let text = c.args.text.now in
    let after = c.args.after in
    let back : c.saturating_sub.result ≡ after - 1 = omega (arith, c.saturating_sub.ensures) in
    let none = none_of_option_map span _ (sym (c.in_err-found.ensures.found ∙ ap (λ n. option_map span (find_str re text n)) back)) in
    let next = next_same re text true after (λ x e. absurd (none-some x (sym none ∙ e))) ∙ none in
    rw next tt

pub returns-then-found-after-clause-cells : goal.returns-then-found-after-clause-cells
returns-then-found-after-clause-cells c =
    let re = pattern_re (shown c.args.self.now) in
    let text = c.args.text.now in
    let after = c.args.after in
    let back : c.saturating_sub.result ≡ after - 1 = omega (arith, c.saturating_sub.ensures) in
    let v = value_of_option_map span (find_str re text (after - 1)) c.in_ok-found.found
    (sym (c.in_ok-found.ensures.found ∙ ap (λ n. option_map span (find_str re text n)) back)) in
    let ends : v.0.trace.end ≡ c.in_ok-found.found.1 = ap (λ s. s.1) v.2 in
    let next = next_later re text true after v.0 v.1 (omega arith) ∙ ap (λ p. find_str p text after) (sym c.in_ok-found.ensures.same.0) in
    let middle = c.find.new.self in
    let width : vec_len middle.cells ≡ vec_len c.args.self.now.cells =
    omega (arith, middle.width, c.args.self.now.width, c.in_ok-found.ensures.same.1) in
    subst (λ n. IfSome (next_match true re text after) (λ m. c.find-then-found-after.new.self.cells.items ≡ group_cells m n)) width
    (subst (λ o. IfSome o (λ m. c.find-then-found-after.new.self.cells.items ≡ group_cells m (vec_len middle.cells))) (sym next)
    c.find-then-found-after.ensures.cells)

pub returns-clause-cells : goal.returns-clause-cells
returns-clause-cells c =
    let re = pattern_re (shown c.args.self.now) in
    let text = c.args.text.now in
    let after = c.args.after in
    let back : c.saturating_sub.result ≡ after - 1 = omega (arith, c.saturating_sub.ensures) in
    let v = value_of_option_map span (find_str re text (after - 1)) c.in_ok-found.found
    (sym (c.in_ok-found.ensures.found ∙ ap (λ n. option_map span (find_str re text n)) back)) in
    let ends : v.0.trace.end ≡ c.in_ok-found.found.1 = ap (λ s. s.1) v.2 in
    let next = next_same re text true after (λ x e.
    subst (λ (y : Match). after ≤ y.trace.end) (same_Some _ _ (sym v.1 ∙ e)) (omega arith)) in
    subst (λ o. IfSome o (λ m. c.find.new.self.cells.items ≡ group_cells m (vec_len c.args.self.now.cells)))
    (ap (find_str re text) back ∙ sym next) c.in_ok-found.ensures.cells
