use Rattle.std.proofs.Common.{◌≡◌, ◌≤◌, ◌-◌, ◌∷◌, ◌++◌, length, take, drop, sym, ap, subst, ◌∙◌, arith, rules, Some, option_map}
use Rattle.std.proofs.lemmas.Str.{IsCharBoundary-start}
use Rattle.event_text.specs.DateFormats.{IsCut, part_of, parts_of, format_of, runs}
use Rattle.event_text.proofs.Runs.{cut_boundary, format_begin, format_step}
use Rattle.event_text.proofs.date_format.read_format.Goals as goal

pub loop-at-init : goal.loop-at-init
loop-at-init c = record {
  within = omega arith;
  boundary = IsCharBoundary-start c.args.format.now c.utf8.format;
  rest = subst (λ l. format_of c.args.format.now ≡ option_map (λ parts. l ++ parts) (parts_of (runs c.args.format.now))) (sym c.new-parts.ensures) (format_begin c.args.format.now (search rules));
}

pub range-requires-clause-end_boundary : goal.range-requires-clause-end_boundary
range-requires-clause-end_boundary c =
    let same : c.as_bytes.result.now ≡ c.args.format.now = c.as_bytes.ensures.value in
    cut_boundary c.args.format.now c.run_end-end.result c.utf8.format (subst (λ l. c.run_end-end.result ≤ length l) same c.run_end-end.ensures.within) (subst (λ l. IsCut l c.run_end-end.result) same c.run_end-end.ensures.cut)

pub loop-at-preserved : goal.loop-at-preserved
loop-at-preserved c =
    let text = c.args.format.now in
    let at = c.loop-at.at in
    let end = c.run_end-end.result in
    let same : c.as_bytes.result.now ≡ text = c.as_bytes.ensures.value in
    let run : runs (drop at text) ≡ take (end - at) (drop at text) ∷ runs (drop end text) = subst (λ l. runs (drop at l) ≡ take (end - at) (drop at l) ∷ runs (drop end l)) same c.run_end-end.ensures.run in
    let part : part_of (take (end - at) (drop at text)) ≡ Some c.in-Some.part = ap part_of (sym c.range.ensures.value) ∙ sym c.in_ok-part.ensures ∙ c.in-Some.is in
    record {
      within = subst (λ l. end ≤ length l) same c.run_end-end.ensures.within;
      boundary = cut_boundary text end c.utf8.format (subst (λ l. end ≤ length l) same c.run_end-end.ensures.within) (subst (λ l. IsCut l end) same c.run_end-end.ensures.cut);
      rest = subst (λ l. format_of text ≡ option_map (λ qs. l ++ qs) (parts_of (runs (drop end text)))) (sym c.in_ok-push-in-Some.ensures.ok) (format_step (format_of text) c.loop-at.parts c.in-Some.part (runs (drop at text)) (take (end - at) (drop at text)) (runs (drop end text)) c.loop-at.invariant.rest run part);
    }
