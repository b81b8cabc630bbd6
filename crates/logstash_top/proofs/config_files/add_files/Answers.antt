use Rattle.std.proofs.Common.{◌∙◌, subst}
use Rattle.logstash_top.specs.Texts.{IsMissing}
use Rattle.logstash_top.proofs.TextLemmas.{file_gone, goes_on}
use Rattle.logstash_top.proofs.config_files.add_files.Goals as goal

pub returns-in-Err-clause-missing : goal.returns-in-Err-clause-missing
returns-in-Err-clause-missing g c = λ told.
    subst (λ s. IsMissing s c.in-Err.fault) (c.loop-path.invariant.0 told)
    (file_gone _ c.loop-path.bytes.items _ c.args.paths.now c.loop-path.path-index _ c.as_str.result.now c.loop-path-test.true (c.as_str.ensures ∙ c.path-item.is) c.in-Err.fault (c.in-Err.ensures.missing told))

pub loop-path-preserved : goal.loop-path-preserved
loop-path-preserved g c = (
  (λ told. goes_on (g.P.Files.shows c.loop-path.files) c.loop-path.bytes.items (g.P.Files.calls c.loop-path.files) c.args.paths.now c.loop-path.path-index _ c.as_str.result.now c.loop-path-test.true (c.as_str.ensures ∙ c.path-item.is)
      c.add_file.new.bytes.items (c.in-Ok.ensures.read told) (g.P.Files.shows c.add_file.new.files) (c.in-Ok.ensures.same told) (g.P.Files.calls c.add_file.new.files) c.in-Ok.ensures.calls _ (c.loop-path.invariant.0 told)),
  c.in-Ok.ensures.cause.same (λ e. cc) ∙ c.loop-path.invariant.1,
)
