use Rattle.std.proofs.Common.{◌≡◌, ◌∙◌, ap, eq-eqb}
use Rattle.std.proofs.lemmas.Result.{IfOk-weaker}
use Rattle.in_file.specs.Matching.{any_from}
use Rattle.in_file.proofs.Ends.{star, star_test}
use Rattle.in_file.proofs.matching.ends_behind.Goals as goal

pub returns-then-byte-eq42 : goal.returns-then-byte-eq42
returns-then-byte-eq42 c =
    IfOk-weaker c.ends_behind_star.result _ _
    (λ more is test all. is ∙ ap any_from all ∙ star test c.args.name.now ∙ star_test c.args.byte test c.args.name.now (eq-eqb c.args.byte 42 c.if-byte-eq42.true))
    c.ends_behind_star.ensures
