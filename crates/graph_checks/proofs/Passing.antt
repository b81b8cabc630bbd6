-- What is known of a section that passed its checks.
use Rattle.std.specs.Prelude.{bytes_eq, if◌then◌else◌}
use Rattle.std.specs.List.{list_all}
use Rattle.std.proofs.lemmas.List.{map-append}
use Rattle.std.proofs.lemmas.Option.{none-some}
use Rattle.std.proofs.Common.{◌≡◌, ℕ, ◌+◌, List, [], ◌∷◌, ◌++◌, map, refl, sym, ap, subst, ◌∙◌, append_assoc, append-nil, Bool, true, false, codes, Option, Some, None, option_map, Result, Ok, Err}
use Rattle.config_tree.specs.declared.tree.Condition.{Condition}
use Rattle.config_tree.specs.declared.tree.Plugin.{Plugin}
use Rattle.config_tree.specs.declared.fault.SettingFault.TheVariants as setting
use Rattle.condition_eval.specs.Made.{texts}
use Rattle.pattern_box.specs.Patterns.{is_pattern}
use Rattle.filter_settings.specs.Settings.{Made}
use Rattle.filter_settings.specs.Settings as settings
use Rattle.event_flow.specs.Ids as ids
use Rattle.foreign_parts.specs.Stocks.{is_known}
use Rattle.foreign_parts.specs.declared.boxes.BoxKind.{BoxKind}
use Rattle.foreign_parts.specs.declared.boxes.BoxKind.TheVariants as kind
use Rattle.built_plugins.specs.Conditions.{compiled}
use Rattle.built_plugins.specs.Each.{each_made, named}
use Rattle.built_plugins.specs.Makes.{boxed_of, boxed_unless, built_of, filter_of}
use Rattle.built_plugins.specs.declared.boxed.BoxedFilter.{BoxedFilter}
use Rattle.built_plugins.specs.declared.built.BuiltFilter.{BuiltFilter}
use Rattle.built_plugins.specs.declared.condition.NamedCondition.{NamedCondition}
use Rattle.built_plugins.specs.declared.filter.Filter.{Filter}
use Rattle.built_plugins.specs.declared.filter.Filter.TheVariants as f
use Rattle.graph_checks.specs.Answers.{Checked, next, of_plugin, all_checked}
use Rattle.graph_checks.specs.Boxes.{Stand, Counts, asked, box_read, count_of}
use Rattle.graph_checks.specs.BuiltIn.{built_in, no_path}
use Rattle.graph_checks.specs.Plugins.{box_checked, condition_checked, condition_id_next, id_behind, id_met, id_next, output_met, path_met, patterns_read, plugin_checked, plugin_met, plugin_read, point_checked, points_checked, section_name, with_want}
use Rattle.graph_checks.specs.Points.{Point, Plugs, Tests}
use Rattle.graph_checks.specs.Readings.{AllCompiled, AllRead}
use Rattle.graph_checks.specs.Wants.{times_of, want_of, wants_from}
use Rattle.graph_checks.specs.declared.built_in.BuiltIn.{BuiltIn}
use Rattle.graph_checks.specs.declared.fault.GraphFault.TheVariants as fault
use Rattle.graph_checks.specs.declared.walk.Walk.{Walk}
use Rattle.graph_checks.specs.declared.want.Want.{Want}
use Rattle.slot_files.specs.declared.name.PositionOf.TheVariants as position
use Rattle.graph_checks.proofs.Flattened.{plugins_in, conditions_in}
use Rattle.graph_checks.proofs.Sparing.{counted_more, times_behind}

abbrev pub Fails : {A F : Type 0} → Result A F → Type 0
Fails (Ok x) = ⊥
Fails (Err fault) = Unit {0}

abbrev or_else : {A F : Type 0} → A → Result A F → A
or_else d (Ok x) = x
or_else d (Err fault) = d

pub ok_same : {A F : Type 0} (x y : A) → ◌≡◌ {A = Result A F} (Ok x) (Ok y) → x ≡ y
ok_same x y is = ap (or_else x) is

-- where checks find no fault, the first had an answer, and the others found none behind it
pub record Went {A B : Type 0} (g : A → Checked B) (m : Checked A) (v : B) : Type 0 where
  pub value : A
  pub first : m ≡ Ok value
  pub later : g value ≡ Ok v

pub went : {A B : Type 0} (g : A → Checked B) (m : Checked A) (v : B) → next g m ≡ Ok v → Went g m v
went g (Ok x) v is = record { value = x; first = refl; later = is }
went g (Err e) v is = absurd (subst Fails is tt)

made_first : {A : Type 0} (id : List ℕ) (m : Made A) (x : A) → of_plugin id m ≡ Ok x → m ≡ Ok x
made_first id (Ok y) x is = ap Ok (ok_same y x is)
made_first id (Err e) x is = absurd (subst Fails is tt)

-- the counts of names are those of what is wanted
abbrev pub Counted : Walk → Type 0
Counted w = (k : List ℕ) → count_of k w.boxes ≡ times_of k (map (λ x. x.name) w.wants)

-- a filter reads
abbrev Reads : BoxKind → Plugin → Type 0
Reads kind.Filter p = (x : Filter) × (filter_of p ≡ Ok x)
Reads kind.Output p = Unit {0}

none_read : (which : BoxKind) → AllRead which []
none_read kind.Filter = ([], refl)
none_read kind.Output = tt

first_read : (which : BoxKind) (p : Plugin) (ps : List Plugin) → Reads which p → AllRead which ps → AllRead which (p ∷ ps)
first_read kind.Filter p ps (x, is) (xs, are) = (x ∷ xs, ap (settings.next (λ y. settings.with_made (λ ys. y ∷ ys) (each_made filter_of ps))) is ∙ ap (settings.with_made (λ ys. x ∷ ys)) are)
first_read kind.Output p ps one others = tt

first_compiled : (which : BoxKind) (k : ℕ) (c : Condition) (cs : List Condition) (n : NamedCondition) → compiled (record { condition = c; id = ids.condition_id (section_name which) k }) ≡ Ok n → AllCompiled which (k + 1) cs → AllCompiled which k (c ∷ cs)
first_compiled which k c cs n is (xs, are) = (n ∷ xs, ap (settings.next (λ y. settings.with_made (λ ys. y ∷ ys) (each_made compiled (named (section_name which) (k + 1) cs)))) is ∙ ap (settings.with_made (λ ys. n ∷ ys)) are)

-- what is seen of a walk here
abbrev Seen : Type 0
Seen = ℕ × ℕ × ℕ × Counts × List Want

abbrev seen : Walk → Seen
seen w = (w.plugins, w.conditions, w.each, w.boxes, w.wants)

path_seen : (path : Option (List ℕ)) (w u : Walk) → output_met path w ≡ Ok u → seen u ≡ seen w
path_seen None w u is = sym (ap seen (ok_same w u is))
path_seen (Some path) w u is =
    let a = went (λ met. Ok (record w { paths = met })) (path_met position.Output path w.paths) u is in
    sym (ap seen (ok_same (record w { paths = a.value }) u a.later))

met_seen : (id : List ℕ) (path : Option (List ℕ)) (w u : Walk) → plugin_met id path w ≡ Ok u → seen u ≡ (w.plugins + 1, w.conditions, w.each, w.boxes, w.wants)
met_seen id path w u is =
    let a = went (output_met path) (id_met id w) u is in
    let b = went (λ met. Ok (record w { ids = met; plugins = w.plugins + 1 })) (id_behind id w.ids) a.value a.first in
    path_seen path a.value u a.later ∙ sym (ap seen (ok_same (record w { ids = b.value; plugins = w.plugins + 1 }) a.value b.later))

-- a plugin that is a box
pub record BoxWent (which : BoxKind) (stand : Stand) (id : List ℕ) (p : Plugin) (w v : Walk) : Type 0 where
  pub new : with_want id p.name w ≡ v
  pub unit : Unit {0}
  pub read : box_read which stand w.each (count_of p.name w.boxes) p.name p.settings.list ≡ Ok unit

box_went : (which : BoxKind) (stand : Stand) (id : List ℕ) (p : Plugin) (w v : Walk) → box_checked which stand id p w ≡ Ok v → BoxWent which stand id p w v
box_went which stand id p w v said = by (is_known p.name stand.stocks) said
  where
    goes : Unit {0} → Checked Walk
    goes u = Ok (with_want id p.name w)

    asks : Made (Unit {0})
    asks = box_read which stand w.each (count_of p.name w.boxes) p.name p.settings.list

    by : (b : Bool) → (if b then next goes (of_plugin id asks) else Err (fault.UnknownPlugin p.name)) ≡ Ok v → BoxWent which stand id p w v
    by true is =
        let a = went goes (of_plugin id asks) v is in
        record { new = ok_same (with_want id p.name w) v a.later; unit = a.value; read = made_first id asks a.value a.first }
    by false is = absurd (subst Fails is tt)

abbrev unkept : BoxedFilter → Unit {0}
unkept b = tt

boxed_read : (p : Plugin) (stand : Stand) (each before : ℕ) (m : Made BoxedFilter) (u : Unit {0}) → boxed_of p.settings.list ≡ m → settings.next (λ u. asked stand each before p.name p.settings.list) (settings.with_made unkept m) ≡ Ok u
    → (b : BoxedFilter) × (boxed_of p.settings.list ≡ Ok b)
boxed_read p stand each before (Ok b) u is said = (b, is)
boxed_read p stand each before (Err e) u is said = absurd (subst Fails said tt)

-- a filter that isn't refused reads: it is built in, or a box whose own settings read
reads : (which : BoxKind) (p : Plugin) (o : Option BuiltIn) → built_in which p.name p.settings.list ≡ Ok o → (o ≡ None → (stand : Stand) × (each : ℕ) × (before : ℕ) × (u : Unit {0}) × (box_read which stand each before p.name p.settings.list ≡ Ok u)) → Reads which p
reads kind.Output p o is box = tt
reads kind.Filter p o is box = by (built_of p.name p.settings.list) refl is
  where
    by : (m : Made (Option BuiltFilter)) → built_of p.name p.settings.list ≡ m → settings.with_made (option_map (λ (x : BuiltFilter). no_path)) m ≡ Ok o → Reads kind.Filter p
    by (Ok (Some x)) built said = (f.Built x, ap (settings.next (boxed_unless p.settings.list)) built)
    by (Ok None) built said =
        let (stand, each, before, u, read) = box (sym (ok_same None o said)) in
        let b = boxed_read p stand each before (boxed_of p.settings.list) u refl read in
        (f.Boxed b.0, ap (settings.next (boxed_unless p.settings.list)) built ∙ ap (settings.with_made f.Boxed) b.1)
    by (Err e) built said = absurd (subst Fails said tt)

-- what is known behind a plugin that passed
pub record PluginPassed (which : BoxKind) (p : Plugin) (w u : Walk) : Type 0 where
  pub plugins : u.plugins ≡ w.plugins + 1
  pub conditions : u.conditions ≡ w.conditions
  pub each : u.each ≡ w.each
  pub wants : u.wants ≡ w.wants ++ want_of (id_next which w p) p.name (built_in which p.name p.settings.list)
  pub counted : Counted w → Counted u
  pub reads : Reads which p

plugin_passes : (which : BoxKind) (stand : Stand) (p : Plugin) (w u : Walk) → plugin_checked which stand p w ≡ Ok u → PluginPassed which p w u
unfolding plugin_checked
plugin_passes which stand p w u said =
    let id = id_next which w p in
    let a = went (plugin_read which stand id p w) (of_plugin id (built_in which p.name p.settings.list)) u said in
    by a.value (made_first id (built_in which p.name p.settings.list) a.value a.first) a.later
  where
    by : (o : Option BuiltIn) → built_in which p.name p.settings.list ≡ Ok o → plugin_read which stand (id_next which w p) p w o ≡ Ok u → PluginPassed which p w u
    by (Some b) is later =
        let met = met_seen (id_next which w p) b.path w u later in
        record {
          plugins = ap (λ s. s.0) met;
          conditions = ap (λ s. s.1) met;
          each = ap (λ s. s.2) met;
          wants = ap (λ s. s.4) met ∙ sym (append-nil w.wants) ∙ ap (λ m. w.wants ++ want_of (id_next which w p) p.name m) (sym is);
          counted = λ counted k. ap (λ s. count_of k s.3) met ∙ counted k ∙ sym (ap (λ s. times_of k (map (λ x. x.name) s.4)) met);
          reads = reads which p (Some b) is (λ none. absurd (none-some b (sym none)));
        }
    by None is later =
        let id = id_next which w p in
        let one : Want = record { id = id; name = p.name } in
        let a = went (plugin_met id None) (box_checked which stand id p w) u later in
        let box = box_went which stand id p w a.value a.first in
        let met = met_seen id None a.value u a.later ∙ ap (λ v. (v.plugins + 1, v.conditions, v.each, v.boxes, v.wants)) (sym box.new) in
        record {
          plugins = ap (λ s. s.0) met;
          conditions = ap (λ s. s.1) met;
          each = ap (λ s. s.2) met;
          wants = ap (λ s. s.4) met ∙ ap (λ m. w.wants ++ want_of id p.name m) (sym is);
          counted = λ counted k.
              ap (λ s. count_of k s.3) met ∙ counted_more k p.name w.boxes ∙ ap (λ n. n + (if bytes_eq k p.name then 1 else 0)) (counted k)
              ∙ sym (times_behind k (map (λ x. x.name) w.wants) p.name) ∙ ap (times_of k) (sym (map-append (λ x. x.name) w.wants (one ∷ [])))
              ∙ sym (ap (λ s. times_of k (map (λ x. x.name) s.4)) met);
          reads = reads which p None is (λ none. (stand, w.each, count_of p.name w.boxes, box.unit, box.read));
        }

-- what is known behind all that stands in a section
pub record Passed (which : BoxKind) (ps : List Point) (w v : Walk) : Type 0 where
  pub each : v.each ≡ w.each
  pub wants : v.wants ≡ w.wants ++ wants_from which (w.plugins + 1) (plugins_in ps)
  pub counted : Counted w → Counted v
  pub read : AllRead which (plugins_in ps)
  pub compiled : AllCompiled which (w.conditions + 1) (conditions_in ps)

plugin_then : (which : BoxKind) (p : Plugin) (ps : List Point) (w u v : Walk) → PluginPassed which p w u → Passed which ps u v → Passed which (Plugs p ∷ ps) w v
plugin_then which p ps w u v one others = record {
  each = others.each ∙ one.each;
  wants = others.wants ∙ ap (λ n. u.wants ++ wants_from which (n + 1) (plugins_in ps)) one.plugins ∙ ap (λ ws. ws ++ wants_from which (w.plugins + 1 + 1) (plugins_in ps)) one.wants
      ∙ append_assoc w.wants (want_of (id_next which w p) p.name (built_in which p.name p.settings.list)) (wants_from which (w.plugins + 1 + 1) (plugins_in ps));
  counted = λ counted. others.counted (one.counted counted);
  read = first_read which p (plugins_in ps) one.reads others.read;
  compiled = subst (λ n. AllCompiled which (n + 1) (conditions_in ps)) one.conditions others.compiled;
}

-- a condition whose patterns read is taken
compiled_as : (id : List ℕ) (c : Condition) (b : Bool) (u : Unit {0}) → list_all is_pattern (texts c) ≡ b → ◌≡◌ {A = Made (Unit {0})} (if b then Ok tt else Err (setting.BadPattern (codes "condition"))) (Ok u) → compiled (record { condition = c; id = id }) ≡ Ok (record { condition = c; id = id })
compiled_as id c true u is said = ap (λ t. if t then Ok (record { condition = c; id = id }) else Err (setting.BadPattern (codes "condition"))) is
compiled_as id c false u is said = absurd (subst Fails said tt)

condition_then : (which : BoxKind) (c : Condition) (ps : List Point) (w u v : Walk) → condition_checked which c w ≡ Ok u → Passed which ps u v → Passed which (Tests c ∷ ps) w v
condition_then which c ps w u v said others =
    let id = condition_id_next which w in
    let a = went (λ u. Ok (record w { conditions = w.conditions + 1 })) (of_plugin id (patterns_read c)) u said in
    let made = compiled_as id c (list_all is_pattern (texts c)) a.value refl (made_first id (patterns_read c) a.value a.first) in
    let new = sym (ok_same (record w { conditions = w.conditions + 1 }) u a.later) in
    record {
      each = others.each ∙ ap (λ x. x.each) new;
      wants = others.wants ∙ ap (λ x. x.wants ++ wants_from which (x.plugins + 1) (plugins_in ps)) new;
      counted = λ counted. others.counted (subst Counted (sym new) counted);
      read = others.read;
      compiled = first_compiled which (w.conditions + 1) c (conditions_in ps) (record { condition = c; id = id }) made (subst (λ x. AllCompiled which (x.conditions + 1) (conditions_in ps)) new others.compiled);
    }

pub passes : (which : BoxKind) (stand : Stand) (ps : List Point) (w v : Walk) → points_checked which stand ps w ≡ Ok v → Passed which ps w v
passes which stand [] w v said =
    let new = sym (ok_same w v said) in
    record {
      each = ap (λ x. x.each) new;
      wants = ap (λ x. x.wants) new ∙ sym (append-nil w.wants);
      counted = λ counted. subst Counted (sym new) counted;
      read = none_read which;
      compiled = ([], refl);
    }
passes which stand (Plugs p ∷ ps) w v said =
    let a = went (all_checked (point_checked which stand) ps) (plugin_checked which stand p w) v said in
    plugin_then which p ps w a.value v (plugin_passes which stand p w a.value a.first) (passes which stand ps a.value v a.later)
passes which stand (Tests c ∷ ps) w v said =
    let a = went (all_checked (point_checked which stand) ps) (condition_checked which c w) v said in
    condition_then which c ps w a.value v a.first (passes which stand ps a.value v a.later)
