use Rattle.std.proofs.Common.{◌≡◌, ◌∷◌, [], ◌++◌, ◌+◌, ◌<◌, ap, ◌∙◌, rules, arith, length, drop}
use Rattle.in_file.specs.Matching.{ends_of, starts}
use Rattle.in_file.proofs.Ends.{byte_more}
use Rattle.in_file.proofs.matching.ends_behind_byte.Goals as goal

pub loop-at-preserved : goal.loop-at-preserved
loop-at-preserved c = λ test all.
    let pushed : c.push.new.self.items ≡ c.loop-at.more.items ++ c.begins.result ∷ [] = search rules in
    let below : c.loop-at.at < length c.args.name.now = omega arith in
    ap (λ xs. xs ++ ends_of (starts c.args.byte test) (drop (c.loop-at.at + 1) c.args.name.now)) pushed
    ∙ byte_more c.args.byte c.args.name.now test c.args.ends.now c.loop-at.more.items c.loop-at.at _ c.begins.result below (c.loop-at.invariant test all) all c.begins.ensures
