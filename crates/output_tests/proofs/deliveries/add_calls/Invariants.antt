use Rattle.std.proofs.Common.{◌≡◌}
use Rattle.std.specs.Prelude.{codes}
use Rattle.line_outputs.specs.OpenFiles.{FilesReady}
use Rattle.output_tests.proofs.deliveries.add_calls.Given as goal

abbrev pub invariant-loop-word : goal.invariant-loop-word
invariant-loop-word g l = FilesReady g.S.Store l.files l.store × (l.files.folder ≡ codes "q/")
