-- A filter that is read anew does what the kit's table says.
use Rattle.std.proofs.lemmas.Option.{none-some}
use Rattle.std.proofs.Common.{◌≡◌, ℕ, zero, suc, ◌+◌, ◌-◌, length, List, [], ◌∷◌, ◌++◌, map, refl, sym, ap, subst, ◌∙◌, arith, Bool, true, false, Option, Some, None, slice_get, Result, Ok, Err, IfOk}
use Rattle.event_tree.specs.Events.{Ev}
use Rattle.event_tree.specs.Paths.{over}
use Rattle.config_tree.specs.declared.tree.Config.{Config}
use Rattle.config_tree.specs.declared.tree.Plugin.{Plugin}
use Rattle.foreign_parts.specs.declared.filter.Verdict.{Verdict}
use Rattle.foreign_parts.specs.declared.place.Place.TheVariants as place
use Rattle.event_flow.specs.Flows.{Derived, To, Dead, Gives, Goes, derives, each, filtered}
use Rattle.event_flow.specs.Laying.{AreStepsOf, HasPlugins, IsTableOf}
use Rattle.event_flow.specs.Marks.{Came, Yields, Meets, at_once, dids, sent_to, Acts}
use Rattle.event_flow.specs.Meaning.{filter_section}
use Rattle.event_flow.specs.Parts.{Section, parts_of}
use Rattle.event_flow.specs.Places.{Draws}
use Rattle.event_flow.specs.Steps.{Act, Table, acted}
use Rattle.event_flow.specs.Steps as act
use Rattle.event_flow.specs.declared.cell.Cell.{Cell}
use Rattle.event_flow.specs.declared.step.FlowStep.{FlowStep}
use Rattle.plugin_graph.specs.Kits.{acts_at, output_acts, table_of}
use Rattle.plugin_graph.specs.Loads.{Contents}
use Rattle.built_plugins.specs.Makes.{applied, built_of, boxed_unless, makes}
use Rattle.filter_settings.specs.Settings.{next}
use Rattle.plugin_graph.specs.Meetings.{filter_act}
use Rattle.plugin_graph.specs.Passages.{IsPassageOf}
use Rattle.plugin_graph.specs.Walks.{IsKitOf, IsRead, MetAnew, ReadsAlike, is_plain}
use Rattle.built_plugins.specs.declared.built.BuiltFilter.{BuiltFilter}
use Rattle.built_plugins.specs.declared.filter.Filter.{Filter}
use Rattle.built_plugins.specs.declared.filter.Filter.TheVariants as f
use Rattle.plugin_graph.specs.declared.kit_filter.KitFilter.{KitFilter}
use Rattle.plugin_graph.specs.declared.passage.Passage.{Passage}
use Rattle.plugin_graph.proofs.Tables.{makes_as}

-- a filter that is marked is built in
pub record IsBuilt (fs : List Filter) (n : ℕ) : Type 0 where
  pub filter : BuiltFilter
  pub at : slice_get fs n ≡ Some (f.Built filter)

abbrev IsYes : Option Bool → Type 0
IsYes (Some true) = Unit {0}
IsYes (Some false) = ⊥
IsYes None = ⊥

marked : {X : Type 0} (fs : List (KitFilter X)) (n : ℕ) → IsYes (slice_get (map (λ x. is_plain x.filter) fs) n) → IsBuilt (map (λ x. x.filter) fs) n
marked [] n is = elim is [ ]
marked (x ∷ fs) zero is = first x.filter is
  where
    first : (y : Filter) → IsYes (Some (is_plain y)) → IsBuilt (y ∷ map (λ x. x.filter) fs) zero
    first (f.Built b) plain = record { filter = b; at = refl }
    first (f.Boxed b) plain = elim plain [ ]
marked (x ∷ fs) (suc n) is =
    let found = marked fs n is in
    record { filter = found.filter; at = found.at }

-- what the table does at a number is what becomes of an event by the plugin of that number
plugin_meets : (section : Section) (table : Table) (ps : List Plugin) (m k n : ℕ) (p : Plugin) → HasPlugins section table m k ps → slice_get ps n ≡ Some p
    → (goes : Goes) (e : Ev) → acted (table.acts (m + n) e) goes e ≡ section.meets (k + n) p goes e
plugin_meets section table [] m k n p has is = absurd (none-some p is)
plugin_meets section table (q ∷ ps) m k zero p has is = λ goes e.
    let here : m + 0 ≡ m = omega arith in
    let number : k ≡ k + 0 = omega arith in
    ap (λ j. acted (table.acts j e) goes e) here ∙ has.0 goes e ∙ ap (λ x. section.meets k (over (λ y. y) q x) goes e) is ∙ ap (λ j. section.meets j p goes e) number
plugin_meets section table (q ∷ ps) m k (suc n) p has is = λ goes e.
    let here : m + suc n ≡ m + 1 + n = omega arith in
    let number : k + 1 + n ≡ k + suc n = omega arith in
    ap (λ j. acted (table.acts j e) goes e) here ∙ plugin_meets section table ps (m + 1) (k + 1) n p has.1 is goes e ∙ ap (λ j. section.meets j p goes e) number

-- events are known by what becomes of them
abbrev tells : Goes
tells e = derives (To [] place.Discard e ∷ [])

abbrev told : List Derived → List Ev
told [] = []
told (To id at e ∷ ds) = e ∷ told ds
told (Dead d ∷ ds) = told ds

each_told : (es : List Ev) (vs : List Verdict) → told (each tells es vs).derived ≡ es
each_told [] vs = refl
each_told (e ∷ es) vs = ap (λ xs. e ∷ xs) (each_told es vs)

same_events : (es ds : List Ev) → each tells es ≡ each tells ds → es ≡ ds
same_events es ds same = sym (each_told es []) ∙ ap (λ g. told (g []).derived) same ∙ each_told ds []

module _ (c' : Contents) (config : Config) (draws : Draws) (has : IsTableOf makes config draws (table_of c')) where
  -- the events of the kit's filter are those of the plugin
  same_as_plugin : (n : ℕ) (p : Plugin) (e : Ev) (es : List Ev) (x : BuiltFilter) → slice_get c'.filters n ≡ Some (f.Built x) → slice_get (parts_of config.filters).plugins n ≡ Some p → makes p e ≡ Gives es → acts_at c' n e ≡ act.Gives es
  same_as_plugin n p e es x at is made =
      let does : acts_at c' n e ≡ act.Gives (applied x e).events = ap (over (λ y. filter_act (n + 1) y e) (output_acts c'.targets c'.outputs (n - length c'.filters))) at in
      let number : n ≡ 0 + n = omega arith in
      let met : acted (acts_at c' n e) tells e ≡ filtered (1 + n) (makes p e) tells e = ap (λ j. acted (acts_at c' j e) tells e) number ∙ plugin_meets (filter_section makes) (table_of c') (parts_of config.filters).plugins 0 1 n p has.filters is tells e in
      let same : each tells (applied x e).events ≡ each tells es = ap (λ a. acted a tells e) (sym does) ∙ met ∙ ap (λ y. filtered (1 + n) y tells e) made in
      does ∙ ap act.Gives (same_events (applied x e).events es same)

pub reads_alike : {X : Type 0} (fs : List (KitFilter X)) (c' : Contents) (config : Config) → c'.filters ≡ map (λ x. x.filter) fs → IsKitOf config c' → (ps : List Plugin) (plain : List Bool) → ps ≡ (parts_of config.filters).plugins → plain ≡ map (λ x. is_plain x.filter) fs → ReadsAlike ps plain (table_of c')
reads_alike fs c' config filters kit ps plain plugins are_plain n p e es is_plain_here is made =
    let built = marked fs n (subst IsYes (sym is_plain_here ∙ ap (λ xs. slice_get xs n) are_plain) tt) in
    same_as_plugin c' config kit.draws kit.table n p e es built.filter (ap (λ xs. slice_get xs n) filters ∙ built.at) (ap (λ xs. slice_get xs n) (sym plugins) ∙ is) made

-- what a plugin makes of an event that is this built-in filter
pub made_by : (p : Plugin) (x : BuiltFilter) (e : Ev) → built_of p.name p.settings.list ≡ Ok (Some x) → makes p e ≡ Gives (applied x e).events
made_by p x e is = makes_as p (f.Built x) e (ap (next (boxed_unless p.settings.list)) is)

pub met_anew : {F : Type 0} (r : Result Bool F) (ps : List Plugin) (n : ℕ) (x : BuiltFilter) (e : Ev) (targets : List ℕ) (e' : Ev) (targets' : List ℕ) (old new : List Cell) → IsRead ps n x
    → IfOk r (λ stays. (table : Table) → Came table stays e' targets' old new (dids (sent_to table targets e) ++ at_once (applied x e).events)) → IfOk r (λ stays. MetAnew ps n e targets stays e' targets' old new)
met_anew (Ok stays) ps n x e targets e' targets' old new read seen = record { plugin = read.plugin; events = (applied x e).events; at = read.at; made = made_by read.plugin x e read.is; seen = seen }
met_anew (Err fault) ps n x e targets e' targets' old new read seen = tt

pub anew_by_table : {F : Type 0} (r : Result Bool F) (may : ℕ → Ev → Verdict → Type 0) (table : Table) (ps lent : List Plugin) (plain : List Bool) (n : ℕ) (e : Ev) (targets : List ℕ) (e' : Ev) (targets' : List ℕ) (old new : List Cell)
    → lent ≡ ps → ReadsAlike ps plain table → slice_get plain n ≡ Some true → IfOk r (λ stays. MetAnew lent n e targets stays e' targets' old new) → IfOk r (λ stays. Yields (Meets may table n e targets) table stays e' targets' old new)
anew_by_table (Ok stays) may table ps lent plain n e targets e' targets' old new are alike here met =
    let acts = at_once met.events in
    record {
      part = dids (sent_to table targets e) ++ acts;
      whole = met.seen table;
      kind = (acts, subst (λ y. Acts may e y acts) (sym (alike n met.plugin e met.events here (ap (λ xs. slice_get xs n) (sym are) ∙ met.at) met.made)) refl, refl);
    }
anew_by_table (Err fault) may table ps lent plain n e targets e' targets' old new are alike here met = tt

pub is_yes : (o : Option Bool) → over (λ marked. marked) false o ≡ true → o ≡ Some true
is_yes (Some true) is = refl
is_yes (Some false) is = absurd (subst (λ b. IsYes (Some b)) (sym is) tt)
is_yes None is = absurd (subst (λ b. IsYes (Some b)) (sym is) tt)

pub alike_still : (ps : List Plugin) (plain : List Bool) (old new : Table) → new ≡ old → ReadsAlike ps plain old → ReadsAlike ps plain new
alike_still ps plain old new same alike = subst (ReadsAlike ps plain) (sym same) alike

-- what any configuration with these steps means, of the one that has them
pub of_one : {F : Type 0} (r : Result Passage F) (may : ℕ → Ev → Verdict → Type 0) (table : Table) (es ds : List Ev) (steps : List FlowStep) (config : Config) → es ≡ ds → AreStepsOf config steps
    → IfOk r (λ p. (config : Config) (draws : Draws) → AreStepsOf config steps → IsTableOf makes config draws table → IsPassageOf may makes config draws es p)
    → IfOk r (λ p. (draws : Draws) → IsTableOf makes config draws table → IsPassageOf may makes config draws ds p)
of_one (Ok p) may table es ds steps config same laid passes = λ draws has. subst (λ xs. IsPassageOf may makes config draws xs p) same (passes config draws laid has)
of_one (Err fault) may table es ds steps config same laid passes = tt
