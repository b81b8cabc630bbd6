use Rattle.std.proofs.Common.{◌≡◌, ◌++◌, if◌then◌else◌, sym, ap, subst, ◌∙◌, OnOk, string_bytes}
use Rattle.config_print.specs.Tokens.{string, written, name_token}
use Rattle.config_print.proofs.Adding.{pushed}
use Rattle.config_print.proofs.Names.{name_written}
use Rattle.config_print.proofs.tokens.add_setting_name.Goals as goal

pub returns-then-is_word : goal.returns-then-is_word
returns-then-is_word c =
    let s = c.args.name.now in
    let e : written (name_token s) ≡ s = name_written s ∙ ap (λ b. if b then s else string s) (sym c.is_word.ensures ∙ c.if-is_word.true) in
    subst (λ l. OnOk c.push_str.result (string_bytes c.push_str.new.self ≡ string_bytes c.args.to.now ++ l)) (sym e) (pushed c.push_str.result s (string_bytes c.args.to.now) (string_bytes c.push_str.new.self) c.push_str.ensures.bytes)
