use Rattle.std.proofs.Common.{◌≡◌, ◌∷◌, [], ◌++◌, sym, ap, ◌∙◌, append_assoc, rules}
use Rattle.filter_settings.specs.Pieces as spec
use Rattle.filter_settings.proofs.Cuts.{piece_more, piece_end}
use Rattle.filter_settings.proofs.pieces.pieces.Goals as goal

pub loop-before-preserved : goal.loop-before-preserved
loop-before-preserved c =
    let sep = c.args.separator.now in
    let cut = piece_more sep c.loop-before.rest.now c.in-Some.before.now c.in-Some.behind.now c.loop-before.invariant.1 c.in-Some.ensures.cases in
    let pushed : c.add_text.new.to ≡ c.loop-before.found ++ c.in-Some.before.now ∷ [] = search rules in (
      search rules,
      c.loop-before.invariant.1,
      ap (λ found. found ++ spec.pieces sep c.in-Some.behind.now) pushed ∙ append_assoc c.loop-before.found (c.in-Some.before.now ∷ []) (spec.pieces sep c.in-Some.behind.now)
          ∙ ap (λ ps. c.loop-before.found ++ ps) (sym cut) ∙ c.loop-before.invariant.2,
    )

pub returns : goal.returns
returns c =
    let sep = c.args.separator.now in
    let pushed : c.add_text-2.new.to ≡ c.loop-before.found ++ c.loop-before.rest.now ∷ [] = search rules in
    pushed ∙ ap (λ ps. c.loop-before.found ++ ps) (sym (piece_end sep c.loop-before.rest.now c.loop-before.invariant.1 c.in_default.ensures.cases)) ∙ c.loop-before.invariant.2
