-- Settings that change no event.
use Rattle.std.proofs.Common.{◌≡◌, Option, Some, None, Result, Ok, IfNone, IfOk, List, [], ◌∷◌, ◌++◌, map, refl, sym, ap, ap₂, subst, ◌∙◌}
use Rattle.std.specs.Option.{option_to_list}
use Rattle.std.specs.declared.alloc.AllocError.{AllocError}
use Rattle.event_tree.specs.Events.{Ev}
use Rattle.event_text.specs.Options.{each_done, with_field, with_options, with_tag, without_field, without_tag}
use Rattle.event_text.specs.declared.options.Options.{Options}
use Rattle.in_lines.specs.Settings.{with_settings}
use Rattle.in_lines.specs.declared.settings.EventSettings.{EventSettings}
use Rattle.line_inputs.specs.Inputs.{GaveNext, InputView, coming}
use Rattle.line_inputs.specs.Sources.{events_held}

pub plain_options : (o : Options) → o.add_field ≡ [] → o.remove_field ≡ [] → o.add_tag ≡ [] → o.remove_tag ≡ [] → (e : Ev) → with_options o e ≡ e
unfolding with_options
plain_options o no_field no_removed no_tag no_lost e =
    ap (λ l. each_done without_tag l (each_done with_tag o.add_tag (each_done without_field o.remove_field (each_done with_field o.add_field e)))) no_lost
    ∙ ap (λ l. each_done with_tag l (each_done without_field o.remove_field (each_done with_field o.add_field e))) no_tag
    ∙ ap (λ l. each_done without_field l (each_done with_field o.add_field e)) no_removed
    ∙ ap (λ l. each_done with_field l e) no_field

-- ---- an event that is handed on

none_comes : (waiting taken : Option Ev) (held : List Ev) → taken ≡ waiting → (waiting ≡ None → held ≡ []) → IfNone taken (option_to_list waiting ++ held ≡ [])
none_comes waiting (Some e) held is none = tt
none_comes waiting None held is none = ap₂ (λ w h. option_to_list w ++ h) (sym is) (none (sym is))

as_it_is : (settings : EventSettings) → ((e : Ev) → with_settings settings e ≡ e) → (waiting : Option Ev) → option_to_list waiting ≡ map (with_settings settings) (option_to_list waiting)
as_it_is settings plain None = refl
as_it_is settings plain (Some e) = ap (λ x. x ∷ []) (sym (plain e))

module _ (v : InputView) where
  pub handed_plain : (taken left : Option Ev) → ((e : Ev) → with_settings v.settings e ≡ e) → taken ≡ v.waiting → left ≡ None → (v.waiting ≡ None → events_held v.source ≡ []) → GaveNext v (record v { waiting = left }) (Ok taken)
  handed_plain taken left plain is none_left none = record {
    given = option_to_list v.waiting;
    events = ap (λ w. option_to_list v.waiting ++ (option_to_list w ++ events_held v.source)) (sym none_left);
    changed = ap option_to_list is ∙ as_it_is v.settings plain v.waiting;
    none = none_comes v.waiting taken (events_held v.source) is none;
    err = λ failed. absurd cc;
    settings = refl;
    ended = refl;
  }

  pub handed_changed : (event changed : Ev) → v.waiting ≡ Some event → changed ≡ with_settings v.settings event → GaveNext v (record v { waiting = None }) (Ok (Some changed))
  handed_changed event changed is changed_is = record {
    given = event ∷ [];
    events = ap (λ w. option_to_list w ++ events_held v.source) is;
    changed = ap (λ e. e ∷ []) changed_is;
    none = tt;
    err = λ failed. absurd cc;
    settings = refl;
    ended = refl;
  }

-- ---- what stands around it

pub fetched : (old mid new last : InputView) (result : Result (Option Ev) AllocError) → coming mid ≡ coming old → mid.settings ≡ old.settings → mid.ended ≡ old.ended → GaveNext mid new result
    → coming last ≡ coming new → last.settings ≡ new.settings → last.ended ≡ new.ended → GaveNext old last result
fetched old mid new last result same settings ended gave later settings_later ended_later = record {
  given = gave.given;
  events = sym same ∙ gave.events ∙ ap (λ l. gave.given ++ l) (sym later);
  changed = subst (λ s. IfOk result (λ event. option_to_list event ≡ map (with_settings s) gave.given)) settings gave.changed;
  none = subst (λ l. IfOk result (λ event. IfNone event (l ≡ []))) same gave.none;
  err = gave.err;
  settings = settings_later ∙ gave.settings ∙ settings;
  ended = ended_later ∙ gave.ended ∙ ended;
}
