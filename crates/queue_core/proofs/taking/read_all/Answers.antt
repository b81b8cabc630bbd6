use Rattle.std.proofs.Common.{◌≡◌, ◌⊎◌, ◌≤◌, ◌<◌, ◌+◌, ◌++◌, ◌∷◌, [], List, Result, Ok, Err, length, drop, rules, sym, ap, ◌∙◌, subst}
use Rattle.std.proofs.lemmas.List.{drop_all}
use Rattle.std.proofs.lemmas.Result.{IfOk-weaker}
use Rattle.io_traits.specs.Folders.{Content}
use Rattle.io_traits.specs.Reads.{bytes_of, file_length}
use Rattle.io_traits.specs.declared.queue_faults.Damage.{Damage}
use Rattle.io_traits.proofs.Looking.{nothing_then}
use Rattle.queue_page.specs.Blocks.{IsPart}
use Rattle.queue_core.specs.Batching.{Finds}
use Rattle.queue_core.specs.Taking.{Stand, stand, page_read, pages_read, KeptIn}
use Rattle.queue_core.specs.Views.{OpenPageView}
use Rattle.queue_core.proofs.PagesRead.{as_before, from_place, last_read, page_lost, page_then, part_now, there_at, top_there, was_read}
use Rattle.queue_core.proofs.RowReads.{handed_on}
use Rattle.queue_core.proofs.taking.read_all.Goals as goal

pub loop-place-preserved : goal.loop-place-preserved
loop-place-preserved g c =
    let old = g.S.Store.seen c.args.store.now in
    let now = g.S.Store.seen c.loop-place.store in
    let inv = c.loop-place.invariant in
    let o = c.index-tails-place.result in
    let at = c.loop-place.place in
    let less : at < length c.args.tails.now = search rules in
    let block = c.loop-place.block in
    let page = c.loop-place.page in
    let s = stand page c.loop-place.reading in
    let next = stand c.read_one.new.page c.read_one.new.reading in
    record {
      same = nothing_then g.S.Store c.args.store.now c.loop-place.store c.read_one.new.store inv.same c.read_one.ensures.same;
      faults = c.in_ok-read_one.ensures.cause.same (λ is. absurd cc) ∙ inv.faults;
      part = λ names told there.
          let it = there_at names old c.args.page.now c.args.block.now c.args.tails.now c.args.top.now at o less c.index-tails-place.is there in
          let was = inv.part names told there in
          let part = part_now names old c.args.page.now c.args.block.now o page block it was in
          was_read names old c.args.page.now c.args.block.now o page c.read_one.new.page block c.read_one.new.block it was
          (as_before now old o page block (λ (content : Content). ((c.read_one.new.page ≡ page) × (c.read_one.new.block ≡ block)) ⊎ ((c.read_one.new.page ≡ o.number) × IsPart (bytes_of (content o.file)) c.read_one.new.block))
          (inv.same.reads told) (c.in_ok-read_one.ensures.part told) part);
      so_far = λ names told there.
          let it = there_at names old c.args.page.now c.args.block.now c.args.tails.now c.args.top.now at o less c.index-tails-place.is there in
          let was = inv.part names told there in
          let part = part_now names old c.args.page.now c.args.block.now o page block it was in
          let read = as_before now old o page block (λ (content : Content). o.page.state.length ≤ file_length (content o.file) → page_read content o s ≡ Ok next) (inv.same.reads told) (c.in_ok-read_one.ensures.rows told) part it.long in
          inv.so_far names told there
          ∙ ap (λ (l : List OpenPageView). pages_read old (l ++ c.args.top.now ∷ []) s) (from_place c.args.tails.now at o less c.index-tails-place.is)
          ∙ page_then old o (drop (at + 1) c.args.tails.now ++ c.args.top.now ∷ []) s next read;
    }

pub returns-in_err-read_one-clause-rows : goal.returns-in_err-read_one-clause-rows
returns-in_err-read_one-clause-rows g c = λ names told there kept.
    let old = g.S.Store.seen c.args.store.now in
    let now = g.S.Store.seen c.loop-place.store in
    let inv = c.loop-place.invariant in
    let o = c.index-tails-place.result in
    let at = c.loop-place.place in
    let less : at < length c.args.tails.now = search rules in
    let block = c.loop-place.block in
    let page = c.loop-place.page in
    let s = stand page c.loop-place.reading in
    let fault = c.in_err-read_one.field-0.0 in
    let it = there_at names old c.args.page.now c.args.block.now c.args.tails.now c.args.top.now at o less c.index-tails-place.is there in
    let part = part_now names old c.args.page.now c.args.block.now o page block it (inv.part names told there) in
    let view : Unit {0} → Stand = λ x. stand c.read_one.new.page c.read_one.new.reading in
    let lost = as_before now old o page block (λ (content : Content). o.page.state.length ≤ file_length (content o.file) → Finds view (Err fault) (page_read content o s)) (inv.same.reads told) (c.in_err-read_one.ensures.rows told) part it.long in
    let rest = drop (at + 1) c.args.tails.now ++ c.args.top.now ∷ [] in
    handed_on _ c.from_residual.result fault (pages_read old (c.args.tails.now ++ c.args.top.now ∷ []) (stand c.args.page.now c.args.reading.now)) (pages_read old (o ∷ rest) s) c.from_residual.ensures.1
    (inv.so_far names told there ∙ ap (λ (l : List OpenPageView). pages_read old (l ++ c.args.top.now ∷ []) s) (from_place c.args.tails.now at o less c.index-tails-place.is))
    (λ whole. page_lost old view whole o rest s fault lost)

pub returns-clause-rows : goal.returns-clause-rows
returns-clause-rows g c = λ names told there kept.
    let old = g.S.Store.seen c.args.store.now in
    let now = g.S.Store.seen c.loop-place.store in
    let inv = c.loop-place.invariant in
    let o = c.args.top.now in
    let block = c.loop-place.block in
    let page = c.loop-place.page in
    let s = stand page c.loop-place.reading in
    let past : length c.args.tails.now ≤ c.loop-place.place = search rules in
    let it = top_there names old c.args.page.now c.args.block.now c.args.tails.now o there in
    let part = part_now names old c.args.page.now c.args.block.now o page block it (inv.part names told there) in
    let view : Unit {0} → Stand = λ x. stand c.read_top.new.page c.read_top.new.reading in
    let read = as_before now old o page block (λ (content : Content). KeptIn o (bytes_of (content o.file)) c.args.kept.now → Finds view c.read_top.result (page_read content o s)) (inv.same.reads told) (c.read_top.ensures.rows told) part kept in
    let whole = inv.so_far names told there ∙ ap (λ (l : List OpenPageView). pages_read old (l ++ o ∷ []) s) (drop_all c.loop-place.place c.args.tails.now past) in
    subst (λ (q : Result Stand Damage). Finds view c.read_top.result q) (sym whole) (last_read old view c.read_top.result o s read)

pub returns-clause-part : goal.returns-clause-part
returns-clause-part g c = IfOk-weaker c.read_top.result _ _
    (λ x told_part. λ names told there.
    let old = g.S.Store.seen c.args.store.now in
    let now = g.S.Store.seen c.loop-place.store in
    let inv = c.loop-place.invariant in
    let o = c.args.top.now in
    let block = c.loop-place.block in
    let page = c.loop-place.page in
    let it = top_there names old c.args.page.now c.args.block.now c.args.tails.now o there in
    let was = inv.part names told there in
    let part = part_now names old c.args.page.now c.args.block.now o page block it was in
    was_read names old c.args.page.now c.args.block.now o page c.read_top.new.page block c.read_top.new.block it was
    (as_before now old o page block (λ (content : Content). ((c.read_top.new.page ≡ page) × (c.read_top.new.block ≡ block)) ⊎ ((c.read_top.new.page ≡ o.number) × IsPart (bytes_of (content o.file)) c.read_top.new.block))
    (inv.same.reads told) (told_part told) part))
    c.read_top.ensures.part
