use Rattle.std.proofs.Common.{sym, subst}
use Rattle.std.specs.Prelude.{option_map}
use Rattle.bulk_replies.specs.Bodies.{HasChunks}
use Rattle.bulk_replies.specs.Fronts.{Joins}
use Rattle.bulk_replies.proofs.Meanings.{chunked_says, unchunked_says}
use Rattle.bulk_replies.proofs.reply.read_body.Goals as goal

pub returns-in-Some : goal.returns-in-Some
returns-in-Some c =
    let has = subst (λ body. Joins c.args.bytes.now (option_map (λ v. v.items) body)) c.in-Some.is c.in_ok-body-in-Chunked.ensures in
    chunked_says _ _ c.args.bytes.now c.deref.result.now _ c.in-Chunked.is (subst (HasChunks c.args.bytes.now) (sym c.deref.ensures.value) has) c.read_answers.ensures

pub returns-in-None : goal.returns-in-None
returns-in-None c = unchunked_says _ _ _ c.in-Chunked.is (subst (λ body. Joins c.args.bytes.now (option_map (λ v. v.items) body)) c.in-None.is c.in_ok-body-in-Chunked.ensures)
