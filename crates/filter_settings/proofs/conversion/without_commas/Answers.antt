use Rattle.std.proofs.Common.{◌≡◌, ◌++◌, sym, ap, ◌∙◌, append_assoc, string_bytes, rules}
use Rattle.filter_settings.specs.Convert.{without_commas}
use Rattle.filter_settings.proofs.Commas.{comma_more, comma_end}
use Rattle.filter_settings.proofs.conversion.without_commas.Goals as goal

pub loop-before-preserved : goal.loop-before-preserved
loop-before-preserved c =
    let l = c.loop-before in
    let front = c.in-Some.before.now in
    let back = c.in-Some.behind.now in (
      search rules,
      ap (λ x. x ++ without_commas back) c.in_ok-push_str.ensures.bytes ∙ append_assoc (string_bytes l.left) front (without_commas back)
          ∙ ap (λ x. string_bytes l.left ++ x) (sym (comma_more l.rest.now front back c.in-Some.ensures.cases)) ∙ l.invariant.1,
    )

pub returns : goal.returns
returns c =
    let l = c.loop-before in
    c.from_string.ensures ∙ c.in_ok-push_str-2.ensures.bytes ∙ ap (λ x. string_bytes l.left ++ x) (sym (comma_end l.rest.now c.in_default.ensures.cases)) ∙ l.invariant.1
