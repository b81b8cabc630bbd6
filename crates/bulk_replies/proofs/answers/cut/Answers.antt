use Rattle.std.proofs.Common.{ap, take, ◌∙◌, arith, ◌-◌, ◌≡◌}
use Rattle.bulk_replies.proofs.TextCuts.{last_is}
use Rattle.bulk_replies.proofs.answers.cut.Goals as goal

pub returns : goal.returns
returns c =
    let f = c.floor_char_boundary.ensures in
    let n = c.floor_char_boundary.result in
    let same : n - 0 ≡ n = omega arith in
    c.range.ensures.value ∙ ap (λ k. take k c.args.text.now) (same ∙ last_is c.args.text.now 65536 n f.bound f.boundary f.nearest)
