use Rattle.std.proofs.Common.{◌∙◌}
use Rattle.queue_files.specs.Folders.{names_in}
use Rattle.queue_files.proofs.ScanReads.{last_lost, last_read}
use Rattle.queue_files.proofs.inspection.see_pages.Goals as goal

pub returns-in_err-top-clause-found : goal.returns-in_err-top-clause-found
returns-in_err-top-clause-found g c told =
    last_lost (names_in c.args.folder.now) (g.S.Store.seen c.args.store.now) (g.S.Store.seen c.read_below.new.store) (c.read_below.ensures.same.reads told) c.args.head.now c.args.numbers.now c.in_ok-tails.field-0 (c.in_ok-tails.ensures.found told)
    c.in_ok-tails.ensures.rises c.as_str.result.now (c.as_str.ensures ∙ c.in_ok-name.ensures) c.from_residual-in_err-top.result c.in_err-top.field-0.0 c.from_residual-in_err-top.ensures.1 (c.in_err-top.ensures.page told)

pub returns-clause-found : goal.returns-clause-found
returns-clause-found g c told =
    last_read (names_in c.args.folder.now) (g.S.Store.seen c.args.store.now) (g.S.Store.seen c.read_below.new.store) (c.read_below.ensures.same.reads told) c.args.head.now c.args.numbers.now c.in_ok-tails.field-0 (c.in_ok-tails.ensures.found told)
    c.in_ok-tails.ensures.rises c.as_str.result.now (c.as_str.ensures ∙ c.in_ok-name.ensures) c.in_ok-top.top (c.in_ok-top.ensures.page told)

pub returns-clause-stated : goal.returns-clause-stated
returns-clause-stated g c = record { states = c.in_ok-tails.ensures.states; bounded = c.in_ok-tails.ensures.bounded; rises = c.in_ok-tails.ensures.rises; top = c.in_ok-top.ensures.grown }
