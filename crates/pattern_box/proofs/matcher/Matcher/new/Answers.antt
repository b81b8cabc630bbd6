use Rattle.std.proofs.Common.{◌≡◌, ◌*◌, ◌≤◌, length, sym, ap, ◌∙◌, subst, arith, rules}
use Rattle.std.proofs.lemmas.Result.{err_from_is_err_and}
use Rattle.regex_hir.specs.Meaning.{meaning}
use Rattle.regex_syntax.specs.Verdict.{Refuses}
use Rattle.regex_syntax.specs.WellFormed.{IsWellFormed}
use Rattle.regex.specs.Writes.{HasTextParts}
use Rattle.pattern_box.proofs.Refused.{refusal_of_parser, past_limit}
use Rattle.pattern_box.proofs.TextParts.{has_text_parts}
use Rattle.pattern_box.proofs.matcher.Matcher.new.Goals as goal

pub returns-then-text-gt-MAX_BYTES-clause-refused : goal.returns-then-text-gt-MAX_BYTES-clause-refused
returns-then-text-gt-MAX_BYTES-clause-refused c = past_limit c.args.text.now c.if-text-gt-MAX_BYTES.true

pub returns-in-Err-clause-refused : goal.returns-in-Err-clause-refused
returns-in-Err-clause-refused c =
    refusal_of_parser c.args.text.now c.in-Err.error.kind _ (omega (arith, c.if-text-gt-MAX_BYTES.false))
    (subst (λ config. Refuses config c.args.text.now c.in-Err.error.kind) c.default.ensures c.in-Err.ensures.err)
    c.of_parser.ensures.memory c.of_parser.ensures.refused

pub returns-in_err-cells-clause-refused : goal.returns-in_err-cells-clause-refused
returns-in_err-cells-clause-refused c =
    let small : length c.args.text.now ≤ 65536 = omega (arith, c.if-text-gt-MAX_BYTES.false) in
    let memory = err_from_is_err_and c.from_residual-in_err-cells.result c.from_residual-in_err-cells.ensures.1 in
    rw (memory.1, memory.2) small

pub invariant_of-result : goal.invariant_of-result
invariant_of-result c =
    let parsed = c.in-Ok.parsed in
    let counted : c.in-Ok-try_from.count ≡ c.len-groups.result = search rules in
    let formed = subst (λ config. IsWellFormed config.utf8 parsed.hir) c.default.ensures c.in-Ok.ensures.formed in record {
      whole_characters = ∣ subst (λ h. HasTextParts (meaning h)) (sym c.in_ok-searcher.ensures.hir) (has_text_parts parsed.hir formed) ∣₁;
      slots = c.in_ok-searcher.ensures.slots ∙ ap (λ n. 2 * n) counted;
      width = omega (arith, c.in_ok-cells.ensures.len, c.len-groups.ensures, c.in-Ok.ensures.group_zero.0);
    }
