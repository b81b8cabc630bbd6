use Rattle.std.proofs.Common.{ℕ, List, Option, take, ap, ◌∙◌}
use Rattle.io_traits.specs.Reads.{bytes_of}
use Rattle.slot_files.specs.Checkpoints.{slots_within}
use Rattle.slot_files.proofs.CheckpointReads.{read_says}
use Rattle.slot_files.proofs.checkpoint.Checkpoint.newest.Goals as goal

pub returns-clause-slots : goal.returns-clause-slots
returns-clause-slots g c = λ told.
    let file = g.S.Store.seen c.args.store.now c.args.name.now in
    let same = ap (λ (f : List ℕ → Option (List ℕ)). f c.args.name.now) (c.in_ok-length.ensures.same.reads told) in
    let gives = c.in_ok-count.ensures.gives told in
    c.slots_in.ensures ∙ ap (slots_within _) c.unwrap_or-length.ensures
    ∙ read_says file _ c.in_ok-length.field-0 (c.in_ok-length.ensures.length told) (gives.bytes ∙ ap (λ f. take 96 (bytes_of f)) same)
