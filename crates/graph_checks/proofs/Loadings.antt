-- A configuration that passed its checks is loaded into a kit.
use Rattle.std.proofs.Common.{◌≡◌, List, [], ◌∷◌, ◌++◌, sym, ap, subst, ◌∙◌, Ok, Err}
use Rattle.config_tree.specs.declared.tree.Config.{Config}
use Rattle.config_tree.specs.declared.fault.SettingFault.{SettingFault}
use Rattle.event_flow.specs.Parts.{parts_of}
use Rattle.event_flow.specs.Places.{Draws}
use Rattle.filter_settings.specs.Settings.{Made, next, with_made}
use Rattle.built_plugins.specs.Conditions.{compiled}
use Rattle.built_plugins.specs.Each.{each_made}
use Rattle.plugin_graph.specs.Loads.{Contents, contents, conditions_of, loaded}
use Rattle.built_plugins.specs.Numbering.{outputs_of}
use Rattle.built_plugins.specs.declared.condition.NamedCondition.{NamedCondition}
use Rattle.built_plugins.specs.declared.filter.Filter.{Filter}
use Rattle.built_plugins.proofs.Making.{Fails, in_front, is_same}
use Rattle.graph_checks.specs.Readings.{IsRead}

-- what is made of one list, and then of another
each_behind : {A B : Type 0} (f : A → Made B) (xs ys : List A) (us vs : List B) → each_made f xs ≡ Ok us → each_made f ys ≡ Ok vs → each_made f (xs ++ ys) ≡ Ok (us ++ vs)
each_behind f [] ys us vs first second = second ∙ ap (λ ws. Ok (ws ++ vs)) (is_same [] us first)
each_behind f (x ∷ xs) ys us vs first second =
    let m = in_front f x xs us first in
    ap (next (λ y. with_made (λ ws. y ∷ ws) (each_made f (xs ++ ys)))) m.is_one ∙ ap (with_made (λ ws. m.one ∷ ws)) (each_behind f xs ys m.others vs m.are_others second) ∙ ap (λ ws. Ok (ws ++ vs)) (sym m.whole)

module _ (draws : Draws) (config : Config) (read : IsRead config) where
  pub loads_read : (c : Contents) × (loaded draws config ≡ Ok c)
  unfolding loaded
  loads_read =
      let (fs, filters) = read.filters in
      let (cs, first) = read.filter_conditions in
      let (ds, second) = read.output_conditions in
      let os = outputs_of draws (parts_of config.outputs).plugins in
      let all : each_made compiled (conditions_of config) ≡ Ok (cs ++ ds) = each_behind compiled _ _ cs ds first second in
      (contents os fs (cs ++ ds), ap (next (λ (xs : List Filter). with_made (λ (ys : List NamedCondition). contents os xs ys) (each_made compiled (conditions_of config)))) filters ∙ ap (with_made (λ ys. contents os fs ys)) all)

  -- so no setting of it is refused
  pub never_refused : (fault : SettingFault) → loaded draws config ≡ Err fault → ⊥
  never_refused fault is = let (c, loads) = loads_read in subst Fails (sym is ∙ loads) tt
