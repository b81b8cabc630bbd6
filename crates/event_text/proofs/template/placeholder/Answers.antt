use Rattle.std.proofs.Common.{◌≡◌, ◌≤◌, ◌+◌, ◌-◌, length, drop, None, Some, sym, ap, subst, ◌∙◌, arith}
use Rattle.std.specs.Str.{IsCharBoundary}
use Rattle.std.proofs.lemmas.Str.{IsCharBoundary-before_ascii, IsCharBoundary-after_ascii}
use Rattle.event_text.specs.Template.{placeholder, template_part_of, Encloses}
use Rattle.event_text.proofs.Pieces.{closed, boundary_before, boundary_inside}
use Rattle.event_text.proofs.template.placeholder.Goals as goal

pub returns-in_default-clause-found : goal.returns-in_default-clause-found
returns-in_default-clause-found c = sym (subst (λ l. placeholder (drop c.args.at l) ≡ None) c.as_bytes.ensures.value c.in_default.ensures.close)

pub range-requires-clause-start_boundary : goal.range-requires-clause-start_boundary
range-requires-clause-start_boundary c =
    let e = subst (λ l. Encloses l c.args.at c.in-Some.close) c.as_bytes.ensures.value c.in-Some.ensures.close in
    λ _. boundary_inside c.args.text.now c.args.at c.utf8.text (omega (arith, e.after, e.within)) e.opened

pub range-requires-clause-end_boundary : goal.range-requires-clause-end_boundary
range-requires-clause-end_boundary c =
    let e = subst (λ l. Encloses l c.args.at c.in-Some.close) c.as_bytes.ensures.value c.in-Some.ensures.close in
    IsCharBoundary-before_ascii c.args.text.now c.in-Some.close e.within (omega (arith, e.closed))

pub returns-in-Some-2-clause-found : goal.returns-in-Some-2-clause-found
returns-in-Some-2-clause-found c =
    let e = subst (λ l. Encloses l c.args.at c.in-Some.close) c.as_bytes.ensures.value c.in-Some.ensures.close in
    closed c.args.text.now c.args.at c.in-Some.close (Some c.in-Some-2.piece) e.opened e.after e.within e.first (sym c.in-Some-2.is ∙ c.in_ok-piece.ensures ∙ ap template_part_of c.range.ensures.value)

pub returns-in-Some-2-clause-placed : goal.returns-in-Some-2-clause-placed
returns-in-Some-2-clause-placed c =
    let text = c.args.text.now in
    let at = c.args.at in
    let close = c.in-Some.close in
    let e = subst (λ l. Encloses l at close) c.as_bytes.ensures.value c.in-Some.ensures.close in
    let room : at + 2 ≤ length text = omega (arith, e.after, e.within) in
    let end : close + 1 ≡ at + (close + 1 - at) = omega (arith, e.after) in
    (omega (arith, e.after), omega (arith, e.within, end), boundary_before text at room e.opened, subst (λ i. IsCharBoundary text i) end (IsCharBoundary-after_ascii text close c.utf8.text e.within (omega (arith, e.closed))))

pub returns-in-None-clause-found : goal.returns-in-None-clause-found
returns-in-None-clause-found c =
    let e = subst (λ l. Encloses l c.args.at c.in-Some.close) c.as_bytes.ensures.value c.in-Some.ensures.close in
    closed c.args.text.now c.args.at c.in-Some.close None e.opened e.after e.within e.first (sym c.in-None.is ∙ c.in_ok-piece.ensures ∙ ap template_part_of c.range.ensures.value)
