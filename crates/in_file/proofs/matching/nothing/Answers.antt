use Rattle.std.proofs.Common.{◌≡◌, ◌∷◌, [], ◌++◌, ap, ◌∙◌, true, rules}
use Rattle.in_file.proofs.Ends.{empties}
use Rattle.in_file.proofs.matching.nothing.Goals as goal

pub returns : goal.returns
returns c =
    let pushed : c.push.new.self.items ≡ c.in_ok-ends.ends.items ++ true ∷ [] = search rules in
    pushed ∙ ap (λ bs. bs ++ true ∷ []) (c.in_ok-ends.ensures.items_if_clones_equal (λ y same. same)) ∙ empties c.args.name.now
