use Rattle.std.proofs.Common.{◌≡◌, ℕ, List, [], ◌∷◌, Ok, Err, ap, sym, subst, ◌∙◌}
use Rattle.config_lex.specs.declared.token.Token.{Token}
use Rattle.config_tree.specs.declared.tree.Config.{Config}
use Rattle.config_parse.specs.Grammar.{ReadsConfig}
use Rattle.config_tree.specs.Joining.{empty}
use Rattle.config_parse.specs.Machine.{verdict}
use Rattle.config_parse.specs.Trees.{made}
use Rattle.config_parse.specs.Symbols as y
use Rattle.config_parse.specs.Verdicts as is
use Rattle.config_parse.proofs.Trees.{outcome, run_told}
use Rattle.config_parse.proofs.Takes.{take_sections, ok_is}
use Rattle.config_parse.proofs.Taken.{taken}
use Rattle.config_parse.proofs.Deep.{is_syntax, is_deep}
use Rattle.config_parse.proofs.grammar_laws.machine_is_right.Goals as goal

told : (levels : ℕ) (ts : List Token) → verdict levels ts ≡ outcome (made levels ts)
told levels ts = run_told levels (y.Sections ∷ []) (λ p. p.0 empty) ts

config_of : (levels : ℕ) (ts : List Token) (config : Config) → made levels ts ≡ Ok config → ReadsConfig levels ts config
config_of levels ts config h =
    let t = taken levels ts (told levels ts ∙ ap outcome h) in
    subst (λ e. ReadsConfig levels ts e) (ok_is (sym (take_sections t.1) ∙ h)) t.1

no_fault : (levels : ℕ) (ts : List Token) → made levels ts ≡ Err is.Reads → ⊥
no_fault levels ts h = let t = taken levels ts (told levels ts ∙ ap outcome h) in let q = sym (take_sections t.1) ∙ h in absurd (cc)

pub returns : goal.returns
returns c = record {
  reads = λ levels ts config r. take_sections r;
  config = λ levels ts config h. config_of levels ts config h;
  syntax = λ levels ts left h. is_syntax levels ts left (told levels ts ∙ ap outcome h);
  deep = λ levels ts left h. is_deep levels ts left (told levels ts ∙ ap outcome h);
  fault = λ levels ts h. no_fault levels ts h;
}
