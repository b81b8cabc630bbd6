-- What the readers of settings answer at a text.
use Rattle.std.proofs.Common.{◌≡◌, ℕ, List, Option, Some, None, Err, sym, ap, subst, ◌∙◌}
use Rattle.event_tree.specs.NumberTexts.{NumberReads}
use Rattle.config_tree.specs.declared.tree.SettingValue.{SettingValue, out-SettingValue, out-roll-SettingValue}
use Rattle.config_tree.specs.declared.tree.SettingValue.TheOpen.{SettingValue-F}
use Rattle.config_tree.specs.declared.tree.SettingValue.TheVariants as v
use Rattle.config_tree.specs.declared.fault.FromFault.{FromFault}
use Rattle.config_tree.specs.Readers.{NumberIn, AsNumber, IsWrongKind, Answers}

-- a text that writes no number is refused
pub number_refused : (k s : List ℕ) (o : Option SettingValue) (fault : FromFault) → o ≡ Some (v.Text s) → NumberReads None s → IsWrongKind k fault → Answers AsNumber (λ found. found) k o (Err fault)
number_refused k s o fault is reads wrong =
    let as_text : AsNumber (v.Text s) None = subst (λ n. NumberIn n None) (sym (ap out-SettingValue (sym (v.rolls-Text s)) ∙ out-roll-SettingValue (SettingValue-F.Text s))) reads in
    subst (λ x. Answers AsNumber (λ found. found) k x (Err fault)) (sym is) (wrong, as_text)
