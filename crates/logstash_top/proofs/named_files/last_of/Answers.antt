use Rattle.in_file.proofs.NamedPaths.{cut_at}
use Rattle.logstash_top.proofs.named_files.last_of.Goals as goal

pub range_from-requires : goal.range_from-requires
range_from-requires c = λ _. cut_at c.args.path.now c.args.start c.utf8.path c.requires.within c.requires.slash
