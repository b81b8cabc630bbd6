use Rattle.std.proofs.Common.{◌≡◌, Some, true, option_map, sym, ap, ◌∙◌, subst, rules}
use Rattle.std.specs.Str.{chars}
use Rattle.filters_text.specs.Pairs.{enclosed, since, behind, are_missing}
use Rattle.filters_text.specs.Views.{both_chars}
use Rattle.filters_text.proofs.Missing.{missing_since, missing_behind, missing_next, missing_enclosed}
use Rattle.filters_text.proofs.kv_text.Splits.value.Goals as goal

pub returns-in-Some-clause-unclosed : goal.returns-in-Some-clause-unclosed
returns-in-Some-clause-unclosed c =
    let us = c.enclosed.new.unclosed.items in
    let fields = c.args.self.now.fields in
    let inside : enclosed (chars c.args.text.now) ≡ Some (chars c.in-Some.value.now, chars c.in-Some.behind.now) =
    sym c.in_ok-value.ensures.found ∙ ap (option_map both_chars) c.in-Some.is in
    let left = missing_enclosed us (chars c.args.text.now) (chars c.in-Some.value.now) (chars c.in-Some.behind.now) inside c.in_ok-value.ensures.unclosed in
    subst (λ cs. are_missing us (behind fields cs) ≡ true) (sym c.next_piece.ensures) (missing_behind us fields (since fields (chars c.in-Some.behind.now)) (missing_since us fields (chars c.in-Some.behind.now) left))

pub returns-in-None-clause-unclosed : goal.returns-in-None-clause-unclosed
returns-in-None-clause-unclosed c =
    let us = c.enclosed.new.unclosed.items in
    let fields = c.args.self.now.fields in
    let left : since fields (chars c.args.text.now) ≡ chars c.cut.result.1.now = search rules in
    subst (λ cs. are_missing us (behind fields cs) ≡ true) left (missing_next us fields (chars c.args.text.now) c.in_ok-value.ensures.unclosed)
