use Rattle.std.proofs.Common.{◌≡◌, sym, subst, refl}
use Rattle.config_lex.specs.Bytes.{passing, skip, closing, unescaped}
use Rattle.config_parse.specs.Grammar.{ReadsConfig}
use Rattle.config_lex.specs.Lexemes.{tokens, parts_at, token_at, lexed}
use Rattle.config_tests.specs.Written.{settings_text, settings_tokens, settings_config, joints_text, joints_tokens, joints_config, arms_text, arms_tokens, arms_config}
use Rattle.config_tests.proofs.ReadByRules.{settings_read, joints_read, arms_read}
use Rattle.config_tests.proofs.laws.derivations.Goals as goal

settings_are : tokens settings_text ≡ settings_tokens
unfolding passing skip closing unescaped parts_at token_at lexed
settings_are = refl

joints_are : tokens joints_text ≡ joints_tokens
unfolding passing skip closing unescaped parts_at token_at lexed
joints_are = refl

arms_are : tokens arms_text ≡ arms_tokens
unfolding passing skip closing unescaped parts_at token_at lexed
arms_are = refl

pub returns-clause-settings : goal.returns-clause-settings
returns-clause-settings c = subst (λ ts. ReadsConfig 64 ts settings_config) (sym settings_are) settings_read

pub returns-clause-joints : goal.returns-clause-joints
returns-clause-joints c = subst (λ ts. ReadsConfig 64 ts joints_config) (sym joints_are) joints_read

pub returns-clause-arms : goal.returns-clause-arms
returns-clause-arms c = subst (λ ts. ReadsConfig 64 ts arms_config) (sym arms_are) arms_read
