use Rattle.std.proofs.Common.{◌≡◌, [], sym, ap, ◌∙◌, subst}
use Rattle.io_traits.specs.Folders.{Lists}
use Rattle.in_file.specs.Watching.{AreWatched, has_star, watched_of}
use Rattle.in_file.proofs.Beginning.{ok_then}
use Rattle.in_file.proofs.NamedPaths.{split_of_bytes, one_watched, names_watched}
use Rattle.in_file.proofs.watching.watched_paths.Goals as goal

pub returns-then-not-has_star-clause-watched : goal.returns-then-not-has_star-clause-watched
returns-then-not-has_star-clause-watched g c =
    let path = c.args.path.now in
    let folder = c.folder_of-folder.result.now in
    let last = c.last_of-last.result.now in
    let start = c.last_start-start in
    let splits = split_of_bytes path c.as_bytes.result.now folder last start.result c.as_bytes.ensures.value start.ensures.within start.ensures.plain start.ensures.slash c.folder_of-folder.ensures c.last_of-last.ensures in
    let none = sym (c.has_star.ensures ∙ ap has_star c.as_bytes-2.ensures.value) ∙ c.if-not-has_star.true in
    ok_then c.watched_one.result (λ paths. paths ≡ watched_of c.args.earlier.now folder last []) (AreWatched g.F.Files path c.args.earlier.now c.args.files.now c.args.files.now)
    (λ paths are. one_watched g.F.Files path folder last c.args.earlier.now paths c.args.files.now splits none are) c.watched_one.ensures.one

pub returns-clause-watched : goal.returns-clause-watched
returns-clause-watched g c =
    let path = c.args.path.now in
    let folder = c.folder_of-folder.result.now in
    let last = c.last_of-last.result.now in
    let start = c.last_start-start in
    let names = c.as_slice.result.now in
    let splits = split_of_bytes path c.as_bytes.result.now folder last start.result c.as_bytes.ensures.value start.ensures.within start.ensures.plain start.ensures.slash c.folder_of-folder.ensures c.last_of-last.ensures in
    let some = sym (c.has_star.ensures ∙ ap has_star c.as_bytes-2.ensures.value) ∙ c.if-not-has_star.false in
    ok_then c.watched_names.result (λ paths. paths ≡ watched_of c.args.earlier.now folder last names) (AreWatched g.F.Files path c.args.earlier.now c.args.files.now c.list.new.self)
    (λ paths are. names_watched g.F.Files path folder last c.args.earlier.now names paths c.args.files.now c.list.new.self splits some are
    (λ told. subst (Lists (g.F.Files.shows c.args.files.now (g.F.Files.calls c.args.files.now)) folder) (sym c.as_slice.ensures) (c.in_ok-names.ensures.names told)) c.in_ok-names.ensures.call)
    c.watched_names.ensures.named
