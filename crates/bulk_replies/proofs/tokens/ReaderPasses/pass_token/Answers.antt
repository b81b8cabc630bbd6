use Rattle.std.specs.Prelude.{⊤}
use Rattle.bulk_replies.proofs.Readings.{if_sure}
use Rattle.bulk_replies.proofs.tokens.ReaderPasses.pass_token.Goals as goal

pub returns : goal.returns
returns c = if_sure ⊤ c.args.self.now c.next.new.self c.passed.result (c.passed.ensures c.args.self.now c.next.new.self c.next.ensures.value)
