use Rattle.std.proofs.Common.{◌-◌, ◌+◌, ◌∷◌, ◌++◌, [], length, take, drop, get_or, ap, ◌∙◌}
use Rattle.std.proofs.lemmas.List.{append_assoc, take_rest}
use Rattle.dead_letters.proofs.Growing.{sizes_laid}
use Rattle.dead_letters.proofs.append_plan.sizes_with.Goals as goal

pub returns : goal.returns
returns c =
    let sizes = c.args.sizes.now in
    let ps = c.args.pieces.now in
    let older = c.args.older in
    let front = take (length sizes - 1 - older) (drop older sizes) in
    let last = get_or sizes (length sizes - 1) 0 + get_or ps 0 0 in
    c.from_vec.ensures ∙ c.in_ok-extend_from_slice-2.ensures.items
    ∙ ap (λ l. l ++ take (length ps - 1) (drop 1 ps)) (c.in_ok-push.ensures.items ∙ ap (λ l. l ++ last ∷ []) (c.in_ok-extend_from_slice.ensures.items ∙ ap (λ l. l ++ front) c.new-grown.ensures.items))
    ∙ append_assoc front (last ∷ []) (take (length ps - 1) (drop 1 ps)) ∙ ap (λ l. front ++ last ∷ l) (take_rest ps 1) ∙ sizes_laid sizes ps older c.requires.stays c.requires.piece
