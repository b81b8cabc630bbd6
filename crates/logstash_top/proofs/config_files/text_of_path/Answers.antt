use Rattle.std.proofs.Common.{Err, sym, ap, ◌∙◌}
use Rattle.io_traits.proofs.Causes.{rose_from}
use Rattle.logstash_top.proofs.TextLemmas.{path_missing, with_first}
use Rattle.logstash_top.proofs.config_files.text_of_path.Goals as goal

pub returns-in-Err : goal.returns-in-Err
returns-in-Err g c =
    path_missing g.P.Files c.args.path.now c.args.files.now c.named_paths.new.files c.bytes_of_files.new.files _ c.as_str.result.now _ c.in-Ok.ensures.named c.named_paths.ensures.same
    (sym c.as_slice.ensures ∙ with_first c.as_slice.result.now c.as_str.result.now _ c.in-len1-up.len_at_least (c.as_str.ensures ∙ c.first-item.is))
    c.in-Err.fault c.in-Err.ensures.missing
    (λ e. rose_from _ _ _ c.named_paths.ensures.cause.later (c.in-Err.ensures.cause.rose (ap (λ f. Err f) e)))
