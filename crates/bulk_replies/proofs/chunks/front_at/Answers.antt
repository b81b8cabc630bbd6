use Rattle.std.proofs.Common.{drop, sym, ◌∙◌}
use Rattle.std.proofs.lemmas.Bool.{false≢true}
use Rattle.bulk_replies.proofs.ChunkRuns.{no_line, too_long, no_end, chunk_here}
use Rattle.bulk_replies.proofs.chunks.front_at.Goals as goal

pub returns-in_default : goal.returns-in_default
returns-in_default c = no_line (drop c.args.at c.args.bytes.now) c.in_default.ensures

pub returns-then-size-bytes : goal.returns-then-size-bytes
returns-then-size-bytes c = too_long _ _ _ _ c.in-Some.ensures c.if-size-eq0.false c.if-size-bytes.true

pub returns-then-ends_at : goal.returns-then-ends_at
returns-then-ends_at c = chunk_here _ _ _ _ c.in-Some.ensures c.if-size-eq0.false (c.ends_at.ensures.0 c.if-ends_at.true)

pub returns-else-ends_at : goal.returns-else-ends_at
returns-else-ends_at c = no_end _ _ _ _ c.in-Some.ensures c.if-size-eq0.false (λ ends. absurd (false≢true (sym c.if-ends_at.false ∙ c.ends_at.ensures.1 ends)))
