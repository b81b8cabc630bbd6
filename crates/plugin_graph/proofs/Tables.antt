-- The table of a kit that a configuration was loaded into has the configuration's plugins and conditions.
use Rattle.std.proofs.lemmas.Option.{slice_get_past}
use Rattle.std.proofs.lemmas.Result.{err_from_is_err_and}
use Rattle.std.specs.Result.{IsErrAnd}
use Rattle.std.proofs.Common.{◌≡◌, ℕ, suc, ◌+◌, ◌-◌, List, [], ◌∷◌, ◌++◌, length, map, refl, sym, ap, ap₂, subst, ◌∙◌, arith, append-nil, append_assoc, length-append, Some, slice_get, Result, Ok, Err, IfErr, codes, Bool, true, false, if◌then◌else◌}
use Rattle.event_tree.specs.Events.{Ev}
use Rattle.event_tree.specs.Paths.{over}
use Rattle.config_tree.specs.declared.tree.Condition.{Condition}
use Rattle.config_tree.specs.declared.tree.Config.{Config}
use Rattle.config_tree.specs.declared.tree.Plugin.{Plugin}
use Rattle.condition_eval.specs.Truths.{truth}
use Rattle.condition_eval.specs.declared.truth.Truth.TheVariants as said
use Rattle.foreign_parts.specs.declared.place.Place.{Place}
use Rattle.foreign_parts.specs.declared.place.Place.TheVariants as place
use Rattle.filter_settings.specs.Settings.{Refuses, next, with_made}
use Rattle.config_tree.specs.declared.fault.FromFault.{FromFault}
use Rattle.config_tree.specs.declared.fault.FromFault.TheVariants as from
use Rattle.config_tree.specs.declared.fault.SettingFault.TheVariants as fault
use Rattle.event_flow.specs.Flows.{Filtered, Gives, Asks, Goes, filtered, sent}
use Rattle.event_flow.specs.Ids.{condition_id}
use Rattle.event_flow.specs.Laying.{HasPlugins, HasConditions, IsTableOf}
use Rattle.event_flow.specs.Meaning.{filter_section, output_section}
use Rattle.event_flow.specs.Parts.{Section, parts_of}
use Rattle.event_flow.specs.Places.{Draws}
use Rattle.event_flow.specs.Steps.{Act, acted}
use Rattle.event_flow.specs.Steps as act
use Rattle.built_plugins.specs.Conditions.{compiled, has_patterns}
use Rattle.built_plugins.specs.Each.{each_made, named}
use Rattle.plugin_graph.specs.Kits.{output_act, output_acts, target_at, table_of, HaveOwnTargets}
use Rattle.plugin_graph.specs.Loads.{Contents, IsLoaded, conditions_of, contents, loaded}
use Rattle.plugin_graph.specs.Meetings.{act_by, filter_act}
use Rattle.built_plugins.specs.Numbering.{numbers, targets_of, outputs_from, targets_from, outputs_of, output_id, output_places}
use Rattle.built_plugins.specs.Makes.{filter_of, filtered_by, filtered_where, makes}
use Rattle.built_plugins.specs.declared.condition.NamedCondition.{NamedCondition}
use Rattle.built_plugins.specs.declared.filter.Filter.{Filter}
use Rattle.built_plugins.specs.declared.output.OutputTargets.{OutputTargets}
use Rattle.built_plugins.specs.declared.output.Target.{Target}
use Rattle.built_plugins.proofs.Outputting.{as_long}
use Rattle.built_plugins.proofs.Making.{Fails, is_same, in_front, as_many}

-- what stands behind others
middle : {A : Type 0} (xs : List A) (y : A) (ys : List A) → slice_get (xs ++ y ∷ ys) (length xs) ≡ Some y
middle [] y ys = refl
middle (x ∷ xs) y ys = middle xs y ys

stands : {A : Type 0} (all before rest : List A) (y : A) (n : ℕ) → all ≡ before ++ y ∷ rest → n ≡ length before → slice_get all n ≡ Some y
stands all before rest y n whole at = ap (slice_get all) at ∙ ap (λ xs. slice_get xs (length before)) whole ∙ middle before y rest

module _ {A : Type 0} (all before rest : List A) (y : A) (n : ℕ) (whole : all ≡ before ++ y ∷ rest) (at : n ≡ length before) where
  behind_it : all ≡ (before ++ y ∷ []) ++ rest
  behind_it = whole ∙ sym (append_assoc before (y ∷ []) rest)

  next_place : n + 1 ≡ length (before ++ y ∷ [])
  next_place = omega (arith, at, length-append before (y ∷ []))

-- what a filter does is what becomes of an event by it
as_filtered : (k : ℕ) (f : Filtered) (goes : Goes) (e : Ev) → acted (act_by k f) goes e ≡ filtered k f goes e
as_filtered k (Gives es) goes e = refl
as_filtered k (Asks events) goes e = refl

pub makes_as : (p : Plugin) (f : Filter) (e : Ev) → filter_of p ≡ Ok f → makes p e ≡ filtered_by f e
unfolding makes
makes_as p f e is = ap (λ m. filtered_where m e) is

filters_stand : (c : Contents) (before fs : List Filter) (ps : List Plugin) (n k : ℕ) → c.filters ≡ before ++ fs → n ≡ length before → k ≡ n + 1 → each_made filter_of ps ≡ Ok fs → HasPlugins (filter_section makes) (table_of c) n k ps
filters_stand c before fs [] n k whole at number made = tt
filters_stand c before fs (p ∷ ps) n k whole at number made =
    let m = in_front filter_of p ps fs made in
    let here = whole ∙ ap (λ xs. before ++ xs) m.whole in
    let found = stands c.filters before m.others m.one n here at in
    let default = λ (e : Ev). output_acts c.targets c.outputs (n - length c.filters) in (
      λ goes e. ap (λ x. acted (over (λ f. filter_act (n + 1) f e) (default e) x) goes e) found
          ∙ as_filtered (n + 1) (filtered_by m.one e) goes e
          ∙ ap₂ (λ j f. filtered j f goes e) (sym number) (sym (makes_as p m.one e m.is_one)),
      filters_stand c (before ++ m.one ∷ []) m.others ps (n + 1) (k + 1) (behind_it c.filters before m.others m.one n here at) (next_place c.filters before m.others m.one n here at) (ap (λ j. j + 1) number) m.are_others,
    )

conditions_stand : (section : Section) (c : Contents) (name : List ℕ) (before after : List NamedCondition) (cs : List Condition) (t u : ℕ) → ((j : ℕ) → section.condition_id j ≡ condition_id name j) → c.conditions ≡ before ++ (named name u cs ++ after) → t ≡ length before → HasConditions section (table_of c) t u cs
conditions_stand section c name before after [] t u ids whole at = tt
conditions_stand section c name before after (d ∷ cs) t u ids whole at =
    let one : NamedCondition = record { condition = d; id = condition_id name u } in
    let rest = named name (u + 1) cs ++ after in
    let found = stands c.conditions before rest one t whole at in (
      λ e. ap (over (λ x. truth x.condition e) said.No) found,
      ap (over (λ x. x.id) []) found ∙ sym (ids u),
      conditions_stand section c name (before ++ one ∷ []) after cs (t + 1) (u + 1) ids (behind_it c.conditions before rest one t whole at) (next_place c.conditions before rest one t whole at),
    )

-- targets behind others: their places, and their outputs
module _ (ts : List Target) (id : List ℕ) where
  places_stand : (before after : List Target) (places : List Place) (n : ℕ) → ts ≡ before ++ (targets_of id places ++ after) → n ≡ length before → map (λ j. (target_at ts j).1) (numbers n (length places)) ≡ places
  places_stand before after [] n whole at = refl
  places_stand before after (p ∷ places) n whole at =
      let one : Target = record { output = id; place = p } in
      let rest = targets_of id places ++ after in
      ap₂ (λ x xs. x ∷ xs) (ap (λ x. (over {B = List ℕ × Place} (λ t. (t.output, t.place)) ([], place.Discard) x).1) (stands ts before rest one n whole at))
      (places_stand (before ++ one ∷ []) after places (n + 1) (behind_it ts before rest one n whole at) (next_place ts before rest one n whole at))

  owners_stand : (before after : List Target) (places : List Place) (n : ℕ) → ts ≡ before ++ (targets_of id places ++ after) → n ≡ length before → map (λ j. (target_at ts j).0) (numbers n (length places)) ≡ map (λ j. id) (numbers n (length places))
  owners_stand before after [] n whole at = refl
  owners_stand before after (p ∷ places) n whole at =
      let one : Target = record { output = id; place = p } in
      let rest = targets_of id places ++ after in
      ap₂ (λ x xs. x ∷ xs) (ap (λ x. (over {B = List ℕ × Place} (λ t. (t.output, t.place)) ([], place.Discard) x).0) (stands ts before rest one n whole at))
      (owners_stand (before ++ one ∷ []) after places (n + 1) (behind_it ts before rest one n whole at) (next_place ts before rest one n whole at))

module _ (draws : Draws) (ts before : List Target) (p : Plugin) (ps : List Plugin) (k t : ℕ) (targets : ts ≡ before ++ targets_from draws k (p ∷ ps)) (count : t ≡ length before) where
  more_targets : ts ≡ (before ++ targets_of (output_id k p) (output_places draws k p)) ++ targets_from draws (k + 1) ps
  more_targets = targets ∙ sym (append_assoc before (targets_of (output_id k p) (output_places draws k p)) (targets_from draws (k + 1) ps))

  more_count : t + length (output_places draws k p) ≡ length (before ++ targets_of (output_id k p) (output_places draws k p))
  more_count = omega (arith, count, as_long (output_id k p) (output_places draws k p), length-append before (targets_of (output_id k p) (output_places draws k p)))

outputs_stand : (draws : Draws) (c : Contents) (before : List OutputTargets) (first : List Target) (ps : List Plugin) (n k t : ℕ) → c.outputs ≡ before ++ outputs_from draws k t ps → c.targets ≡ first ++ targets_from draws k ps → n ≡ length c.filters + length before → t ≡ length first → HasPlugins (output_section draws) (table_of c) n k ps
outputs_stand draws c before first [] n k t outputs targets at count = tt
outputs_stand draws c before first (p ∷ ps) n k t outputs targets at count =
    let id = output_id k p in
    let places = output_places draws k p in
    let one : OutputTargets = record { id = id; targets = numbers t (length places) } in
    let rest = outputs_from draws (k + 1) (t + length places) ps in
    let none = slice_get_past c.filters n (omega (arith, at)) in
    let found = stands c.outputs before rest one (n - length c.filters) outputs (omega (arith, at)) in (
      λ goes e. ap (λ x. acted (over (λ f. filter_act (n + 1) f e) (output_acts c.targets c.outputs (n - length c.filters)) x) goes e) none
          ∙ ap (λ x. acted (over (output_act c.targets) (act.Gives []) x) goes e) found
          ∙ ap (λ xs. sent id xs goes e) (places_stand c.targets id first (targets_from draws (k + 1) ps) places t targets count),
      outputs_stand draws c (before ++ one ∷ []) (first ++ targets_of id places) ps (n + 1) (k + 1) (t + length places)
          (behind_it c.outputs before rest one (length before) outputs refl) (more_targets draws c.targets first p ps k t targets count) (omega (arith, at, length-append before (one ∷ [])))
          (more_count draws c.targets first p ps k t targets count),
    )

own_targets : (draws : Draws) (ts first : List Target) (ps : List Plugin) (k t : ℕ) → ts ≡ first ++ targets_from draws k ps → t ≡ length first → HaveOwnTargets ts (outputs_from draws k t ps)
own_targets draws ts first [] k t targets count = refl
own_targets draws ts first (p ∷ ps) k t targets count =
    let id = output_id k p in
    let places = output_places draws k p in
    ap₂ (λ x xs. x ∷ xs) (owners_stand ts id first (targets_from draws (k + 1) ps) places t targets count)
    (own_targets draws ts (first ++ targets_of id places) ps (k + 1) (t + length places) (more_targets draws ts first p ps k t targets count) (more_count draws ts first p ps k t targets count))

pub own_of : (draws : Draws) (ps : List Plugin) → HaveOwnTargets (targets_from draws 1 ps) (outputs_from draws 1 0 ps)
own_of draws ps = own_targets draws (targets_from draws 1 ps) [] ps 1 0 refl refl

-- each condition is made into itself
made_itself : (c d : NamedCondition) → compiled c ≡ Ok d → d ≡ c
made_itself c d is = by (has_patterns c) is
  where
    by : (b : Bool) → (if b then Ok c else Err (fault.BadPattern (codes "condition"))) ≡ Ok d → d ≡ c
    by true is = sym (is_same c d is)
    by false is = absurd (subst Fails is tt)

same_conditions : (cs ds : List NamedCondition) → each_made compiled cs ≡ Ok ds → ds ≡ cs
same_conditions [] ds is = sym (is_same [] ds is)
same_conditions (c ∷ cs) ds is =
    let m = in_front compiled c cs ds is in
    m.whole ∙ ap₂ (λ x xs. x ∷ xs) (made_itself c m.one m.is_one) (same_conditions cs m.others m.are_others)

named_count : (name : List ℕ) (u : ℕ) (cs : List Condition) → length (named name u cs) ≡ length cs
named_count name u [] = refl
named_count name u (c ∷ cs) = ap suc (named_count name (u + 1) cs)

module _ (draws : Draws) (config : Config) (fs : List Filter) (made : each_made filter_of (parts_of config.filters).plugins ≡ Ok fs) where
  abbrev C : Contents
  C = contents (outputs_of draws (parts_of config.outputs).plugins) fs (conditions_of config)

  by_conditions : IsTableOf makes config draws (table_of C)
  by_conditions =
      let filters = (parts_of config.filters).conditions in
      let outputs = (parts_of config.outputs).conditions in
      let first = named (codes "filter") 1 filters in
      let second = named (codes "output") 1 outputs in
      record {
        filters = filters_stand C [] fs (parts_of config.filters).plugins 0 1 refl refl refl made;
        filter_conditions = conditions_stand (filter_section makes) C (codes "filter") [] second filters 0 1 (λ j. refl) refl refl;
        outputs = outputs_stand draws C [] [] (parts_of config.outputs).plugins (length (parts_of config.filters).plugins) 1 0 refl refl (omega (arith, as_many filter_of (parts_of config.filters).plugins fs made)) refl;
        output_conditions = conditions_stand (output_section draws) C (codes "output") first [] outputs (length filters) 1 (λ j. refl) (ap (λ xs. first ++ xs) (sym (append-nil second))) (sym (named_count (codes "filter") 1 filters));
      }

pub table_is : (draws : Draws) (config : Config) (c : Contents) → IsLoaded draws config c → IsTableOf makes config draws (table_of c)
table_is draws config c is =
    let same = same_conditions (conditions_of config) c.conditions is.conditions in
    subst (λ x. IsTableOf makes config draws (table_of x)) (λ i. record { filters = c.filters; outputs = sym is.outputs i; targets = sym is.targets i; conditions = sym same i }) (by_conditions draws config c.filters is.filters)

-- loading gives what is read, or the first refusal
pub loads : (draws : Draws) (config : Config) (c : Contents) → IsLoaded draws config c → loaded draws config ≡ Ok c
unfolding loaded
loads draws config c is =
    let os = outputs_of draws (parts_of config.outputs).plugins in
    ap (next (λ fs. with_made (λ cs. contents os fs cs) (each_made compiled (conditions_of config)))) is.filters
    ∙ ap (with_made (λ cs. contents os c.filters cs)) is.conditions
    ∙ λ i. Ok (record { filters = c.filters; outputs = sym is.outputs i; targets = sym is.targets i; conditions = c.conditions })

-- the first refusal is that of a filter, and else that of a condition
pub filters_refuse : (draws : Draws) (config : Config) (fault : FromFault) → Refuses fault (each_made filter_of (parts_of config.filters).plugins) → Refuses fault (loaded draws config)
unfolding loaded
filters_refuse draws config (from.Bad b) is =
    ap (next (λ fs. with_made (λ cs. contents (outputs_of draws (parts_of config.outputs).plugins) fs cs) (each_made compiled (conditions_of config)))) is
filters_refuse draws config from.Memory is = tt

pub conditions_refuse : (draws : Draws) (config : Config) (fs : List Filter) (fault : FromFault) → each_made filter_of (parts_of config.filters).plugins ≡ Ok fs → Refuses fault (each_made compiled (conditions_of config)) → Refuses fault (loaded draws config)
unfolding loaded
conditions_refuse draws config fs (from.Bad b) made is =
    let os = outputs_of draws (parts_of config.outputs).plugins in
    ap (next (λ xs. with_made (λ cs. contents os xs cs) (each_made compiled (conditions_of config)))) made ∙ ap (with_made (λ cs. contents os fs cs)) is
conditions_refuse draws config fs from.Memory made is = tt

-- a refusal that is handed on
pub hands_on : {T : Type 0} (draws : Draws) (config : Config) (result : Result T FromFault) (fault : FromFault) → IsErrAnd result (λ e. e ≡ fault) → Refuses fault (loaded draws config) → IfErr result (λ e. Refuses e (loaded draws config))
hands_on draws config result fault err refuses =
    let p = err_from_is_err_and result err in
    subst (λ r. IfErr r (λ e. Refuses e (loaded draws config))) (sym (p.1 ∙ ap Err p.2)) refuses
