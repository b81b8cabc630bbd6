use Rattle.std.proofs.Common.{◌≡◌, ℕ, List, sym, ◌∙◌, subst, arith}
use Rattle.std.specs.Prelude.{Contains}
use Rattle.io_traits.specs.Folders.{Content, Lists}
use Rattle.io_traits.specs.Reads.{file_length}
use Rattle.slot_files.proofs.LookedRuns.{length_told}
use Rattle.dead_letters.specs.Queues.{segment_name}
use Rattle.dead_letters.proofs.Listed.{are_all}
use Rattle.dead_letters.proofs.trimming.excess_in.Goals as goal

pub returns-clause-excess : goal.returns-clause-excess
returns-clause-excess g c =
    let folder = c.args.folder.now in
    let s = c.args.segments in
    let old = g.S.Store.seen c.args.store.now in
    let parts = c.in_ok-parts.parts in
    record {
      last = c.in_ok-last.ensures;
      from = c.in_ok-gone.ensures.from;
      all = λ told. are_all folder s old parts c.in_ok-gone.gone.items c.requires (subst (λ (x : Content). Lists x folder parts) (c.in_ok-length.ensures.same.reads told) (c.in_ok-parts.ensures.names told))
          (λ n other among. c.in_ok-gone.ensures.all n other (subst (λ (l : List (List ℕ)). Contains l (segment_name n)) (sym c.as_slice.ensures) among));
      long = λ told.
          let told_length = length_told (old c.as_str.result.now) c.in_ok-length.field-0 c.unwrap_or-length.result (c.in_ok-length.ensures.length told) c.unwrap_or-length.ensures in
          let is = subst (λ n. c.unwrap_or-length.result ≡ file_length (old n)) (c.as_str.ensures ∙ c.in_ok-last.ensures) told_length in
          omega (arith, is, c.if-length-segments.false);
    }
