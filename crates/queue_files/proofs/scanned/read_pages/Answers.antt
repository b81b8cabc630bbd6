use Rattle.std.proofs.Common.{◌≡◌, ℕ, List, refl, ◌∙◌}
use Rattle.queue_files.specs.Folders.{page, names_in}
use Rattle.queue_files.proofs.ApartNames.{names_apart}
use Rattle.queue_files.proofs.ScanReads.{last_lost, last_read}
use Rattle.queue_files.proofs.QueueReads.{leaves_read}
use Rattle.queue_files.proofs.FoundStays.{looked, opened_run}
use Rattle.queue_files.proofs.OtherFiles.{others_looked, others_of_one, then_others}
use Rattle.queue_files.proofs.scanned.read_pages.Goals as goal

pub returns-in_err-tails-clause-keeps : goal.returns-in_err-tails-clause-keeps
returns-in_err-tails-clause-keeps g c rests tells = looked g.S.Store g.met.S.Store.images_tell (names_in c.args.folder.now) (names_apart c.args.folder.now) c.args.head.now c.args.store.now rests tells c.read_below.new.store c.read_below.ensures.same

pub returns-in_err-tails-clause-beside : goal.returns-in_err-tails-clause-beside
returns-in_err-tails-clause-beside g c =
    let mine : List ℕ → Type 0 = λ n. n ≡ names_in c.args.folder.now (page c.args.head.now.page) in
    others_looked g.S.Store g.met.S.Store.images_tell mine c.args.store.now c.read_below.new.store c.read_below.ensures.same

pub returns-in_err-name-clause-keeps : goal.returns-in_err-name-clause-keeps
returns-in_err-name-clause-keeps g c rests tells = looked g.S.Store g.met.S.Store.images_tell (names_in c.args.folder.now) (names_apart c.args.folder.now) c.args.head.now c.args.store.now rests tells c.read_below.new.store c.read_below.ensures.same

pub returns-in_err-name-clause-beside : goal.returns-in_err-name-clause-beside
returns-in_err-name-clause-beside g c =
    let mine : List ℕ → Type 0 = λ n. n ≡ names_in c.args.folder.now (page c.args.head.now.page) in
    others_looked g.S.Store g.met.S.Store.images_tell mine c.args.store.now c.read_below.new.store c.read_below.ensures.same

pub returns-in_err-top-clause-keeps : goal.returns-in_err-top-clause-keeps
returns-in_err-top-clause-keeps g c rests tells =
    opened_run g.S.Store g.met.S.Store.images_tell (names_in c.args.folder.now) (names_apart c.args.folder.now) c.args.head.now c.args.store.now rests tells c.read_below.new.store c.read_below.ensures.same
    c.as_str.result.now (c.as_str.ensures ∙ c.in_ok-name.ensures) c.scan.new.store c.scan.ensures.any_moment c.scan.ensures.beside

pub returns-in_err-top-clause-found : goal.returns-in_err-top-clause-found
returns-in_err-top-clause-found g c told =
    last_lost (names_in c.args.folder.now) (g.S.Store.seen c.args.store.now) (g.S.Store.seen c.read_below.new.store) (c.read_below.ensures.same.reads told) c.args.head.now c.args.numbers.now c.in_ok-tails.field-0 (c.in_ok-tails.ensures.found told)
    c.in_ok-tails.ensures.rises c.as_str.result.now (c.as_str.ensures ∙ c.in_ok-name.ensures) c.from_residual-in_err-top.result c.in_err-top.field-0.0 c.from_residual-in_err-top.ensures.1 (c.in_err-top.ensures.page told)

pub returns-in_err-top-clause-beside : goal.returns-in_err-top-clause-beside
returns-in_err-top-clause-beside g c =
    let name = names_in c.args.folder.now (page c.args.head.now.page) in
    let mine : List ℕ → Type 0 = λ n. n ≡ name in
    then_others g.S.Store g.met.S.Store.images_tell (others_looked g.S.Store g.met.S.Store.images_tell mine c.args.store.now c.read_below.new.store c.read_below.ensures.same)
    (others_of_one g.S.Store g.met.S.Store.images_tell mine c.read_below.new.store c.scan.new.store name c.as_str.result.now (c.as_str.ensures ∙ c.in_ok-name.ensures) refl c.scan.ensures.reads c.scan.ensures.beside)

pub returns-clause-keeps : goal.returns-clause-keeps
returns-clause-keeps g c rests tells =
    opened_run g.S.Store g.met.S.Store.images_tell (names_in c.args.folder.now) (names_apart c.args.folder.now) c.args.head.now c.args.store.now rests tells c.read_below.new.store c.read_below.ensures.same
    c.as_str.result.now (c.as_str.ensures ∙ c.in_ok-name.ensures) c.scan.new.store c.scan.ensures.any_moment c.scan.ensures.beside

pub returns-clause-found : goal.returns-clause-found
returns-clause-found g c told =
    last_read (names_in c.args.folder.now) (g.S.Store.seen c.args.store.now) (g.S.Store.seen c.read_below.new.store) (c.read_below.ensures.same.reads told) c.args.head.now c.args.numbers.now c.in_ok-tails.field-0 (c.in_ok-tails.ensures.found told)
    c.in_ok-tails.ensures.rises c.as_str.result.now (c.as_str.ensures ∙ c.in_ok-name.ensures) c.in_ok-top.top (c.in_ok-top.ensures.page told)

pub returns-clause-leaves : goal.returns-clause-leaves
returns-clause-leaves g c rests =
    leaves_read g.S.Store g.met.S.Store.images_tell (names_in c.args.folder.now) (names_apart c.args.folder.now) c.args.head.now c.args.store.now c.read_below.new.store c.scan.new.store rests c.read_below.ensures.same
    c.as_str.result.now (c.as_str.ensures ∙ c.in_ok-name.ensures) (record { tails = c.in_ok-tails.field-0.tails; pages = c.in_ok-tails.field-0.pages; top = c.in_ok-top.top }) c.in_ok-top.ensures.page c.in_ok-top.ensures.kept c.in_ok-top.ensures.settled
    c.scan.ensures.reads c.scan.ensures.beside c.in_ok-tails.ensures.newest c.in_ok-tails.ensures.bytes c.in_ok-top.ensures.bytes c.in_ok-top.ensures.short

pub returns-clause-stated : goal.returns-clause-stated
returns-clause-stated g c = record { states = c.in_ok-tails.ensures.states; bounded = c.in_ok-tails.ensures.bounded; rises = c.in_ok-tails.ensures.rises; top = c.in_ok-top.ensures.grown }

pub returns-clause-beside : goal.returns-clause-beside
returns-clause-beside g c =
    let name = names_in c.args.folder.now (page c.args.head.now.page) in
    let mine : List ℕ → Type 0 = λ n. n ≡ name in
    then_others g.S.Store g.met.S.Store.images_tell (others_looked g.S.Store g.met.S.Store.images_tell mine c.args.store.now c.read_below.new.store c.read_below.ensures.same)
    (others_of_one g.S.Store g.met.S.Store.images_tell mine c.read_below.new.store c.scan.new.store name c.as_str.result.now (c.as_str.ensures ∙ c.in_ok-name.ensures) refl c.scan.ensures.reads c.scan.ensures.beside)
