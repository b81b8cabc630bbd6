-- What boxes refuse that read settings one after another, the last first.
use Rattle.std.proofs.Common.{◌≡◌, ◌<◌, ℕ, zero, suc, ◌-◌, List, refl, sym, ap, ◌∙◌, arith, Option, Some, None, option_and_then, slice_get, Ok, Err}
use Rattle.config_tree.specs.Joining.{Entries}
use Rattle.config_tree.specs.declared.fault.FromFault.{FromFault}
use Rattle.config_tree.specs.declared.fault.FromFault.TheVariants as from
use Rattle.config_tree.specs.declared.fault.SettingFault.{SettingFault}
use Rattle.filter_settings.specs.Settings.{Refuses}
use Rattle.foreign_parts.specs.Stocks.{AnswersAt}
use Rattle.graph_checks.specs.Boxes.{first_refusal, refused_at, refused_below, unless_refused}

module _ (refusals : List (Entries → Option SettingFault)) (es : Entries) where
  pub none_wanted : (at : ℕ) → refused_below refusals es at 0 ≡ None
  none_wanted zero = refl
  none_wanted (suc at) = refl

  below : (at wanted : ℕ) → 0 < at → 0 < wanted → refused_below refusals es at wanted ≡ first_refusal (refused_at refusals es (at - 1)) (refused_below refusals es (at - 1) (wanted - 1))
  below zero wanted some more = absurd (omega (arith, some))
  below (suc at) zero some more = absurd (omega (arith, more))
  below (suc at) (suc wanted) some more =
      let a : suc at - 1 ≡ at = omega arith in
      let b : suc wanted - 1 ≡ wanted = omega arith in
      sym (ap (λ n. first_refusal (refused_at refusals es n) (refused_below refusals es n (suc wanted - 1))) a ∙ ap (λ n. first_refusal (refused_at refusals es at) (refused_below refusals es at n)) b)

  says : (at : ℕ) (refusal : Entries → Option SettingFault) → slice_get refusals at ≡ Some refusal → refused_at refusals es at ≡ refusal es
  says at refusal is = ap (λ o. option_and_then (λ r. r es) o) is

  -- a box that takes the settings, and one that refuses them
  pub below_takes : (at wanted : ℕ) (u : Unit {0}) → 0 < at → 0 < wanted → AnswersAt refusals (at - 1) es (Ok u) → refused_below refusals es (at - 1) (wanted - 1) ≡ refused_below refusals es at wanted
  below_takes at wanted u some more h =
      sym (below at wanted some more ∙ ap (λ o. first_refusal o (refused_below refusals es (at - 1) (wanted - 1))) (says (at - 1) h.refusal h.stands ∙ h.answers))

  pub below_refuses : (at wanted : ℕ) (f : FromFault) (whole : Option SettingFault) → 0 < at → 0 < wanted → AnswersAt refusals (at - 1) es (Err f) → refused_below refusals es at wanted ≡ whole → Refuses f (unless_refused whole)
  below_refuses at wanted (from.Bad b) whole some more h is =
      ap unless_refused (sym is ∙ below at wanted some more ∙ ap (λ o. first_refusal o (refused_below refusals es (at - 1) (wanted - 1))) (says (at - 1) h.refusal h.stands ∙ h.answers))
  below_refuses at wanted from.Memory whole some more h is = tt
