use Rattle.std.proofs.Common.{◌≡◌, ◌∷◌, [], ◌++◌, ◌+◌, ◌<◌, ap, ◌∙◌, rules, arith, length, drop}
use Rattle.in_file.specs.Matching.{any_from}
use Rattle.in_file.proofs.Ends.{star_more, rest_whole}
use Rattle.std.specs.List.{list_any}
use Rattle.in_file.proofs.matching.ends_behind_star.Goals as goal

pub loop-at-preserved : goal.loop-at-preserved
loop-at-preserved c =
    let pushed : c.push.new.self.items ≡ c.loop-at.more.items ++ c.any_true.result ∷ [] = search rules in
    let below : c.loop-at.at < length c.args.ends.now = omega arith in
    ap (λ xs. xs ++ any_from (drop (c.loop-at.at + 1) c.args.ends.now)) pushed
    ∙ star_more c.args.ends.now c.loop-at.more.items c.loop-at.at c.any_true.result below c.loop-at.invariant (c.any_true.ensures ∙ ap (list_any (λ x. x)) (rest_whole c.args.ends.now c.loop-at.at))
