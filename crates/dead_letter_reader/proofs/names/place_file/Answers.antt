use Rattle.std.proofs.Common.{◌≡◌, ◌++◌, IfOk, codes, ap, subst, ◌∙◌, arith}
use Rattle.std.proofs.lemmas.Str.Pattern.{strip_suffix_char}
use Rattle.dead_letter_reader.specs.Names.{without_slash}
use Rattle.dead_letter_reader.proofs.Naming.{base_is}
use Rattle.dead_letter_reader.proofs.names.place_file.Goals as goal

pub returns : goal.returns
returns c =
    let base : c.unwrap_or.result.now ≡ without_slash c.args.folder.now
    = ap (λ x. x.now) c.unwrap_or.ensures ∙ base_is c.args.folder c.strip_suffix.result (strip_suffix_char 47 c.args.folder.now c.strip_suffix.result c.strip_suffix.ensures.cases (omega arith)) in
    subst (λ b. IfOk c.beside.result (λ name. name ≡ b ++ codes ".dlq/dlq.pos")) base c.beside.ensures
