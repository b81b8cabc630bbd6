use Rattle.std.proofs.Common.{◌≡◌, ◌+◌, suc, drop, get_or, take, Ok, Err, ◌∙◌, subst, arith}
use Rattle.std.proofs.lemmas.List.{drop_more}
use Rattle.io_traits.specs.Folders.{Content}
use Rattle.io_traits.proofs.Looking.{nothing_then}
use Rattle.dead_letters.specs.Queues.{segment, name_in}
use Rattle.dead_letters.specs.Records.{records_in}
use Rattle.dead_letters.specs.Found.{bytes_in, fronts_from}
use Rattle.dead_letters.specs.Rows.{Answers, in_file, placed_in, rows_from}
use Rattle.dead_letters.proofs.Placing.{segment_read, segment_lost, segments_end}
use Rattle.dead_letters.proofs.entries.read_rows.Goals as goal

pub returns-in-Err-clause-rows : goal.returns-in-Err-clause-rows
returns-in-Err-clause-rows g c told =
    let inv = c.loop-place.invariant in
    let at = c.loop-place.place in
    let sizes = c.args.sizes.now in
    let n = c.args.first + at in
    let next : c.args.first + (at + 1) ≡ suc n = omega arith in
    let folder = c.args.folder.now in
    let old = g.S.Store.seen c.args.store.now in
    segment_lost folder old n (c.args.first + (at + 1)) (get_or sizes at 0) (drop at sizes) (drop (at + 1) sizes) next (drop_more sizes at 0 c.loop-place-test.true) c.loop-place.rows
    (rows_from folder c.args.first (fronts_from folder old c.args.first sizes)) (inv.so_far told) c.in-Err.fault
    (subst (λ (s : Content). Answers (Err c.in-Err.fault) (in_file (name_in folder (segment n)) (placed_in n (records_in (take (get_or sizes at 0) (bytes_in folder s n)))))) (inv.same.reads told) (c.in-Err.ensures.rows told))

pub loop-place-preserved : goal.loop-place-preserved
loop-place-preserved g c =
    let inv = c.loop-place.invariant in
    let at = c.loop-place.place in
    let sizes = c.args.sizes.now in
    let n = c.args.first + at in
    let next : c.args.first + (at + 1) ≡ suc n = omega arith in
    let folder = c.args.folder.now in
    let old = g.S.Store.seen c.args.store.now in
    record {
      same = nothing_then g.S.Store c.args.store.now c.loop-place.store c.read_segment.new.store inv.same c.read_segment.ensures.same;
      faults = c.in-Ok.ensures.cause.same (λ is. absurd cc) ∙ inv.faults;
      so_far = λ told. segment_read folder old n (c.args.first + (at + 1)) (get_or sizes at 0) (drop at sizes) (drop (at + 1) sizes) next (drop_more sizes at 0 c.loop-place-test.true) c.loop-place.rows
          (rows_from folder c.args.first (fronts_from folder old c.args.first sizes)) (inv.so_far told) c.in-Ok.more c.append.new.self
          (subst (λ (s : Content). in_file (name_in folder (segment n)) (placed_in n (records_in (take (get_or sizes at 0) (bytes_in folder s n)))) ≡ Ok c.in-Ok.more) (inv.same.reads told) (c.in-Ok.ensures.rows told)) c.in-Ok-append.ensures.ok;
    }

pub returns-clause-rows : goal.returns-clause-rows
returns-clause-rows g c told =
    let folder = c.args.folder.now in
    let old = g.S.Store.seen c.args.store.now in
    segments_end folder old (c.args.first + c.loop-place.place) c.loop-place.place c.args.sizes.now c.loop-place.rows (rows_from folder c.args.first (fronts_from folder old c.args.first c.args.sizes.now)) c.loop-place-test.false
    (c.loop-place.invariant.so_far told)
