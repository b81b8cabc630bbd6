use Rattle.std.proofs.Common.{ap, ◌∙◌}
use Rattle.std.specs.Prelude.{option_map}
use Rattle.settings_lines.specs.declared.lines.Pair.{Pair}
use Rattle.settings_lines.proofs.Finding.{found}
use Rattle.settings_lines.proofs.values.Values.get.Goals as goal

pub returns-in-Some : goal.returns-in-Some
returns-in-Some c =
    ap (option_map (λ (p : Pair). p.scalar.now)) (rw c.in-Some.is at c.pair_at.ensures) ∙ found c.args.key.now c.args.self.now.pairs.items

pub returns-in-None : goal.returns-in-None
returns-in-None c =
    ap (option_map (λ (p : Pair). p.scalar.now)) (rw c.in-None.is at c.pair_at.ensures) ∙ found c.args.key.now c.args.self.now.pairs.items
