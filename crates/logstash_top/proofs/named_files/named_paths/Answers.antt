use Rattle.std.proofs.Common.{◌≡◌, ◌∷◌, ◌++◌, [], sym, ap, ◌∙◌, subst}
use Rattle.io_traits.specs.Folders.{Lists}
use Rattle.in_file.specs.Watching.{has_star, paths_of}
use Rattle.in_file.proofs.NamedPaths.{split_of_bytes}
use Rattle.logstash_top.specs.Texts.{IsNamed}
use Rattle.logstash_top.proofs.TextLemmas.{ok_by, one_named, names_named}
use Rattle.logstash_top.proofs.named_files.named_paths.Goals as goal

pub returns-then-not-has_star-clause-named : goal.returns-then-not-has_star-clause-named
returns-then-not-has_star-clause-named g c =
    let path = c.args.path.now in
    let folder = c.folder_of-folder.result.now in
    let last = c.last_of-last.result.now in
    let start = c.last_start-start in
    let splits = split_of_bytes path c.as_bytes.result.now folder last start.result c.as_bytes.ensures.value start.ensures.within start.ensures.plain start.ensures.slash c.folder_of-folder.ensures c.last_of-last.ensures in
    let none = sym (c.has_star.ensures ∙ ap has_star c.as_bytes-2.ensures.value) ∙ c.if-not-has_star.true in
    ok_by c.or_memory.result c.only.result (λ paths. paths ≡ (folder ++ last) ∷ []) (IsNamed g.P.Files path c.args.files.now (g.P.Files.calls c.args.files.now)) c.or_memory.ensures.paths c.only.ensures
    (λ paths is. one_named g.P.Files path folder last paths c.args.files.now splits none is)

pub returns-clause-named : goal.returns-clause-named
returns-clause-named g c =
    let path = c.args.path.now in
    let folder = c.folder_of-folder.result.now in
    let last = c.last_of-last.result.now in
    let start = c.last_start-start in
    let names = c.as_slice.result.now in
    let splits = split_of_bytes path c.as_bytes.result.now folder last start.result c.as_bytes.ensures.value start.ensures.within start.ensures.plain start.ensures.slash c.folder_of-folder.ensures c.last_of-last.ensures in
    let some = sym (c.has_star.ensures ∙ ap has_star c.as_bytes-2.ensures.value) ∙ c.if-not-has_star.false in
    ok_by c.or_memory-2.result c.matching.result (λ paths. paths ≡ paths_of folder last names) (IsNamed g.P.Files path c.args.files.now (g.P.Files.calls c.list.new.self)) c.or_memory-2.ensures.paths c.matching.ensures
    (λ paths is. names_named g.P.Files path folder last names paths c.args.files.now c.list.new.self splits some is
    (λ told. subst (Lists (g.P.Files.shows c.args.files.now (g.P.Files.calls c.args.files.now)) folder) (sym c.as_slice.ensures) (c.in_ok-names.ensures.names told)) c.in_ok-names.ensures.call.calls)
