use Rattle.std.proofs.Common.{◌≡◌, ◌++◌, List, ℕ, sym, ◌∙◌, subst, OnOk, string_bytes}
use Rattle.event_json.proofs.Added.{low_alone}
use Rattle.event_json.proofs.string.add_alone.Goals as goal

pub returns-then-is_low_unit : goal.returns-then-is_low_unit
returns-then-is_low_unit c = subst (λ (bytes : List ℕ). OnOk c.add_replacement.result (string_bytes c.add_replacement.new.to ≡ string_bytes c.args.to.now ++ bytes)) (sym (low_alone c.args.unit (sym c.is_high_unit.ensures ∙ c.if-is_high_unit.false) (sym c.is_low_unit.ensures ∙ c.if-is_low_unit.true))) c.add_replacement.ensures
