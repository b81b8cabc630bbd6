use Rattle.grok_patterns.proofs.Cutting.{of_split}
use Rattle.grok_patterns.proofs.piece.cut.Goals as goal

pub returns : goal.returns
returns c = of_split c.args.at c.args.text.now c.split_once.result (c.split_once.ensures.byte c.requires (λ w o found. found))
