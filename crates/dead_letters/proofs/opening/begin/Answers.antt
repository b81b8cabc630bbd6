use Rattle.std.proofs.Common.{◌≡◌, subst}
use Rattle.io_traits.specs.Reads.{bytes_of}
use Rattle.slot_files.specs.Slots.{ComesNext}
use Rattle.dead_letters.specs.Segments.{segments, counted_in}
use Rattle.dead_letters.specs.declared.segments.Counted.TheVariants.{Count}
use Rattle.dead_letters.proofs.FirstVersion.{comes, naming, named_beside, named_holds, first_own, WasNamed}
use Rattle.dead_letters.proofs.opening.begin.Goals as goal

pub returns-in_err-length-clause-beside : goal.returns-in_err-length-clause-beside
returns-in_err-length-clause-beside g c = first_own c.args.folder.now g.S.Store c.args.store.now c.first_length.new.store c.first_length.ensures.beside

pub returns-in_err-count_segments-clause-any_moment : goal.returns-in_err-count_segments-clause-any_moment
returns-in_err-count_segments-clause-any_moment g c =
    let len = c.in_ok-length.length in
    let mid = c.first_length.new.store in
    let w = subst (WasNamed g.S.Store len mid c.count_segments.new.store) c.requires.slot (record { moments = c.count_segments.ensures.any_moment; beside = c.count_segments.ensures.beside }) in
    naming c.args.folder.now g.S.Store g.met.S.Store.images_tell c.args.store.now c.requires.rests c.requires.nothing mid c.in_ok-length.ensures.settled len c.in_ok-length.ensures.first c.first_length.ensures.beside c.count_segments.new.store c.first_length.ensures.any_moment w

pub returns-clause-any_moment : goal.returns-clause-any_moment
returns-clause-any_moment g c =
    let len = c.in_ok-length.length in
    let mid = c.first_length.new.store in
    let w = subst (WasNamed g.S.Store len mid c.count_segments.new.store) c.requires.slot (record { moments = c.count_segments.ensures.any_moment; beside = c.count_segments.ensures.beside }) in
    naming c.args.folder.now g.S.Store g.met.S.Store.images_tell c.args.store.now c.requires.rests c.requires.nothing mid c.in_ok-length.ensures.settled len c.in_ok-length.ensures.first c.first_length.ensures.beside c.count_segments.new.store c.first_length.ensures.any_moment w

pub returns-in_err-count_segments-clause-beside : goal.returns-in_err-count_segments-clause-beside
returns-in_err-count_segments-clause-beside g c =
    let len = c.in_ok-length.length in
    let mid = c.first_length.new.store in
    let w = subst (WasNamed g.S.Store len mid c.count_segments.new.store) c.requires.slot (record { moments = c.count_segments.ensures.any_moment; beside = c.count_segments.ensures.beside }) in
    named_beside c.args.folder.now g.S.Store g.met.S.Store.images_tell c.args.store.now c.requires.rests c.requires.nothing mid c.in_ok-length.ensures.settled len c.in_ok-length.ensures.first c.first_length.ensures.beside c.count_segments.new.store w

pub returns-clause-beside : goal.returns-clause-beside
returns-clause-beside g c =
    let len = c.in_ok-length.length in
    let mid = c.first_length.new.store in
    let w = subst (WasNamed g.S.Store len mid c.count_segments.new.store) c.requires.slot (record { moments = c.count_segments.ensures.any_moment; beside = c.count_segments.ensures.beside }) in
    named_beside c.args.folder.now g.S.Store g.met.S.Store.images_tell c.args.store.now c.requires.rests c.requires.nothing mid c.in_ok-length.ensures.settled len c.in_ok-length.ensures.first c.first_length.ensures.beside c.count_segments.new.store w

pub returns-clause-counted : goal.returns-clause-counted
returns-clause-counted g c = λ told.
    let len = c.in_ok-length.length in
    let mid = c.first_length.new.store in
    let says = subst (λ n. ComesNext 32 (bytes_of (g.S.Store.seen mid n)) 0 → counted_in (bytes_of (g.S.Store.seen c.count_segments.new.store n)) ≡ Count 0 (segments 0 0 len)) c.requires.slot (c.in_ok-count_segments.ensures.counted told) in
    says (comes c.args.folder.now g.S.Store g.met.S.Store.images_tell c.args.store.now c.requires.rests c.requires.nothing mid c.in_ok-length.ensures.settled len c.in_ok-length.ensures.first c.first_length.ensures.beside told)

pub returns-clause-found : goal.returns-clause-found
returns-clause-found g c = λ told.
    let len = c.in_ok-length.length in
    let mid = c.first_length.new.store in
    let w = subst (WasNamed g.S.Store len mid c.count_segments.new.store) c.requires.slot (record { moments = c.count_segments.ensures.any_moment; beside = c.count_segments.ensures.beside }) in
    let says = subst (λ n. ComesNext 32 (bytes_of (g.S.Store.seen mid n)) 0 → counted_in (bytes_of (g.S.Store.seen c.count_segments.new.store n)) ≡ Count 0 (segments 0 0 len)) c.requires.slot (c.in_ok-count_segments.ensures.counted told) in
    named_holds c.args.folder.now g.S.Store g.met.S.Store.images_tell c.args.store.now c.requires.rests c.requires.nothing mid c.in_ok-length.ensures.settled len c.in_ok-length.ensures.first c.first_length.ensures.beside c.count_segments.new.store w told
    (says (comes c.args.folder.now g.S.Store g.met.S.Store.images_tell c.args.store.now c.requires.rests c.requires.nothing mid c.in_ok-length.ensures.settled len c.in_ok-length.ensures.first c.first_length.ensures.beside told))
