use Rattle.config_parse.specs.declared.text.TheConstants.{LENGTH, LEVELS}
use Rattle.config_parse.proofs.Telling.{only, only_syntax, only_deep}
use Rattle.config_parse.proofs.text.parse.Goals as goal

pub returns-clause-only : goal.returns-clause-only
returns-clause-only c =
    let a = c.one_answer.ensures in
    let text = c.args.text.now in
    only LENGTH LEVELS text (λ x y p q. c.reads_once.ensures.text LEVELS text x y p q) (λ x at p q. a.not_syntax LEVELS text x at p q) (λ x at p q. a.not_deep LEVELS text x at p q) c.parse_text.result c.parse_text.ensures

pub returns-clause-only_syntax : goal.returns-clause-only_syntax
returns-clause-only_syntax c =
    let a = c.one_answer.ensures in
    let text = c.args.text.now in
    only_syntax LENGTH LEVELS text (λ x at p q. a.not_syntax LEVELS text x at p q) (λ i j p q. a.syntax LEVELS text i j p q) (λ i j p q. a.apart LEVELS text i j p q) c.parse_text.result c.parse_text.ensures

pub returns-clause-only_deep : goal.returns-clause-only_deep
returns-clause-only_deep c =
    let a = c.one_answer.ensures in
    let text = c.args.text.now in
    only_deep LENGTH LEVELS text (λ x at p q. a.not_deep LEVELS text x at p q) (λ i j p q. a.deep LEVELS text i j p q) (λ i j p q. a.apart LEVELS text i j p q) c.parse_text.result c.parse_text.ensures
