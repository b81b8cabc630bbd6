use Rattle.std.proofs.Common.{◌≡◌, IsTrue, drop}
use Rattle.logstash_top.specs.Texts.{files_behind}
use Rattle.logstash_top.proofs.config_files.add_files.Given as goal

abbrev pub invariant-loop-path : goal.invariant-loop-path
invariant-loop-path g l =
    (IsTrue g.P.Files.tells → files_behind (g.P.Files.shows l.files) l.bytes.items (g.P.Files.calls l.files) (drop l.path-index l.paths) ≡ files_behind (g.P.Files.shows l.fn.files) l.fn.bytes.items (g.P.Files.calls l.fn.files) l.paths)
    × (g.P.Files.faults l.files ≡ g.P.Files.faults l.fn.files)
