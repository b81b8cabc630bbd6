use Rattle.dead_letters.proofs.OpeningRun.{untouched, holds_then, holds_opened}
use Rattle.dead_letters.proofs.opening.open_settled.Goals as goal

pub returns-in_ok-segments-in-Nothing-clause-opened : goal.returns-in_ok-segments-in-Nothing-clause-opened
returns-in_ok-segments-in-Nothing-clause-opened g c =
    holds_opened g.S.Store g.met.S.Store.images_tell c.args.folder.now c.args.store.now c.begin.new.store c.cut_back.new.store c.in_ok-segments-in-Nothing.ensures.found c.cut_back.result c.cut_back.ensures.opened

pub returns-in_ok-segments-in-Nothing-clause-any_moment : goal.returns-in_ok-segments-in-Nothing-clause-any_moment
returns-in_ok-segments-in-Nothing-clause-any_moment g c =
    holds_then g.S.Store g.met.S.Store.images_tell c.args.folder.now c.args.store.now c.begin.new.store c.cut_back.new.store c.in_ok-segments-in-Nothing.ensures.found c.begin.ensures.beside c.begin.ensures.any_moment c.cut_back.ensures.any_moment

pub returns-in-Damaged-clause-any_moment : goal.returns-in-Damaged-clause-any_moment
returns-in-Damaged-clause-any_moment g c = untouched g.S.Store g.met.S.Store.images_tell c.args.folder.now c.args.store.now c.requires.rests
