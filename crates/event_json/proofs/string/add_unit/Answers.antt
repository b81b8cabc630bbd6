use Rattle.std.proofs.Common.{sym, ap, ◌∙◌, string_bytes}
use Rattle.event_json.specs.Strings.{replacement, alone, joined}
use Rattle.event_json.proofs.Added.{not_joined}
use Rattle.event_json.proofs.Written.{adds_two}
use Rattle.event_json.proofs.string.add_unit.Goals as goal

pub returns-in_ok-add_replacement-in-Some : goal.returns-in_ok-add_replacement-in-Some
returns-in_ok-add_replacement-in-Some c = adds_two c.add_alone-in-Some.result replacement (alone c.args.unit) (joined c.args.waits c.args.unit) (string_bytes c.args.to.now) (string_bytes c.add_replacement.new.to) (string_bytes c.add_alone-in-Some.new.to) (ap (λ w. joined w c.args.unit) c.in-Some.is ∙ not_joined c.in-Some.high c.args.unit (sym c.is_low_unit.ensures ∙ c.if-is_low_unit.false)) c.in_ok-add_replacement-in-Some.ensures c.add_alone-in-Some.ensures
