use Rattle.slot_files.proofs.EachFile.{each_settled, grown_keeps}
use Rattle.slot_files.specs.Each.{KeepsBytes}
use Rattle.slot_files.proofs.each.append_each.Goals as goal

pub returns-clause-any_moment : goal.returns-clause-any_moment
returns-clause-any_moment g c =
    let names = c.args.names.now in
    each_settled g.S.Store g.met.S.Store.images_tell names (KeepsBytes (g.S.Store.seen c.args.store.now)) c.args.store.now c.append_parts.new.store c.sync.new.self c.append_parts.ensures.any_moment c.sync.ensures.settled
    (grown_keeps g.S.Store names c.args.store.now c.append_parts.new.store c.in_ok-append_parts.ensures.grows)
