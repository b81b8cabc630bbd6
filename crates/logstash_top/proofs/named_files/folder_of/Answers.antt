use Rattle.in_file.proofs.NamedPaths.{cut_at}
use Rattle.logstash_top.proofs.named_files.folder_of.Goals as goal

pub range-requires-clause-end_boundary : goal.range-requires-clause-end_boundary
range-requires-clause-end_boundary c = cut_at c.args.path.now c.args.start c.utf8.path c.requires.within c.requires.slash
