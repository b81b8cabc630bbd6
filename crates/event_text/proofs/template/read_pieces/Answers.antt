use Rattle.std.proofs.Common.{◌≡◌, ◌+◌, ◌++◌, drop, Some, None, sym, ap, subst, ◌∙◌, arith}
use Rattle.std.specs.Option.{IfSome}
use Rattle.std.proofs.lemmas.Str.{IsCharBoundary-start}
use Rattle.event_text.specs.Template.{placeholder, template_parts, IsPlaced}
use Rattle.event_text.proofs.Pieces.{next_later}
use Rattle.event_text.proofs.Scans.{next_plain, next_place, last_plain}
use Rattle.event_text.proofs.template.read_pieces.Goals as goal

pub loop-at-init : goal.loop-at-init
loop-at-init c = record {
  within = omega arith;
  behind = omega arith;
  boundary = IsCharBoundary-start c.args.text.now c.utf8.text;
  next = (omega arith, λ k low high. absurd (omega (arith, high)), λ after within. absurd (omega (arith, after)));
  rest = ap (λ ps. ps ++ template_parts c.args.text.now) (sym c.new-pieces.ensures);
}

pub loop-at-preserved-in-Some : goal.loop-at-preserved-in-Some
loop-at-preserved-in-Some c =
    let text = c.args.text.now in
    let at = c.loop-at.at in
    let n = c.in-Some.length in
    let i = c.loop-at.invariant in
    let found : placeholder (drop at text) ≡ Some (c.in-Some.piece, n) = sym c.in_ok-piece.ensures.found ∙ c.in-Some.is in
    let place : IsPlaced n text at = subst (λ o. IfSome o (λ f. IsPlaced f.1 text at)) c.in-Some.is c.in_ok-piece.ensures.placed in
    record {
      within = place.1;
      behind = omega arith;
      boundary = place.3;
      next = next_later text (at + 2) (at + n + 2) c.placeholder.new.next (omega arith) c.in_ok-piece.ensures.next;
      rest = next_place (template_parts text) c.loop-at.pieces c.add_plain.new.pieces c.push.new.self text c.range.result.now c.loop-at.plain at n c.in-Some.piece c.loop-at-test.true place.0 found c.range.ensures.value c.in_ok-add_plain-in-Some.ensures c.in_ok-push-in-Some.ensures.ok i.rest;
    }

pub loop-at-preserved : goal.loop-at-preserved
loop-at-preserved c =
    let text = c.args.text.now in
    let at = c.loop-at.at in
    let i = c.loop-at.invariant in
    let none : placeholder (drop at text) ≡ None = sym c.in_ok-piece.ensures.found ∙ c.in-None.is in
    record {
      within = omega (arith, c.loop-at-test.true);
      behind = omega (arith, i.behind);
      boundary = i.boundary;
      next = next_later text (at + 2) (at + 1 + 2) c.placeholder.new.next (omega arith) c.in_ok-piece.ensures.next;
      rest = next_plain (template_parts text) c.loop-at.pieces text c.loop-at.plain at i.behind c.loop-at-test.true none i.rest;
    }

pub returns : goal.returns
returns c =
    let text = c.args.text.now in
    let i = c.loop-at.invariant in
    last_plain (template_parts text) c.loop-at.pieces c.add_plain-2.new.pieces text c.range_from.result.now c.loop-at.plain c.loop-at.at i.behind (omega (arith, c.loop-at-test.false, i.within)) c.range_from.ensures.value c.in_ok-add_plain.ensures i.rest
