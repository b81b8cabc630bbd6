-- Each output of a configuration that passes its checks has an id of its own.
use Rattle.std.proofs.Common.{◌≡◌, ℕ, ◌+◌, Bool, true, false, ◌||◌, if◌then◌else◌, List, [], ◌∷◌, ◌++◌, Option, Some, None, Result, Ok, Err, refl, sym, ap, ◌∙◌, subst, bytes_eq}
use Rattle.std.proofs.lemmas.Bool.{false≢true}
use Rattle.std.proofs.lemmas.Slice.Eq.{bytes_eq-Decides}
use Rattle.config_tree.specs.declared.tree.Condition.{Condition}
use Rattle.config_tree.specs.declared.tree.Config.{Config}
use Rattle.config_tree.specs.declared.tree.Plugin.{Plugin}
use Rattle.foreign_parts.specs.Stocks.{is_known}
use Rattle.foreign_parts.specs.declared.boxes.BoxKind.TheVariants as kind
use Rattle.slot_files.specs.declared.name.PositionOf.TheVariants as position
use Rattle.graph_checks.specs.Answers.{Checked, all_checked, next, of_plugin}
use Rattle.graph_checks.specs.Boxes.{Stand, box_read, count_of}
use Rattle.graph_checks.specs.BuiltIn.{built_in}
use Rattle.graph_checks.specs.Inputs.{inputs_checked}
use Rattle.graph_checks.specs.Plugins.{box_checked, condition_checked, condition_id_next, id_behind, id_met, id_next, output_met, path_met, patterns_read, plugin_checked, plugin_met, plugin_read, point_checked, points_checked, section_checked, section_start, stands, with_want}
use Rattle.graph_checks.specs.Points.{Point, Plugs, Tests, points_of}
use Rattle.graph_checks.specs.Whole.{Given, checked, filters_checked, outputs_checked, whole_checked}
use Rattle.graph_checks.specs.declared.built_in.BuiltIn.{BuiltIn}
use Rattle.graph_checks.specs.declared.fault.GraphFault.TheVariants as fault
use Rattle.graph_checks.specs.declared.walk.Walk.{Walk}
use Rattle.graph_checks.proofs.Flattened.{alike, plugins_in}
use Rattle.graph_checks.proofs.Passing.{went}
use Rattle.graph_checks.specs.OwnIds.{AreApart, HaveOwnIds, ids_from}

-- the first of tests, and the others
pub or_false : (a b : Bool) → (a || b) ≡ false → (a ≡ false) × (b ≡ false)
or_false true b is = absurd (false≢true (sym is))
or_false false b is = (refl, is)

-- texts that differ, the other way round
pub apart : (id other : List ℕ) → bytes_eq id other ≡ false → bytes_eq other id ≡ false
apart id other is = by (bytes_eq other id) refl
  where
    by : (b : Bool) → bytes_eq other id ≡ b → b ≡ false
    by false e = refl
    by true e = absurd (false≢true (sym is ∙ ap (λ x. bytes_eq id x) ((bytes_eq-Decides other id).0 e) ∙ (bytes_eq-Decides id id).1 refl))

abbrev or_else : {A F : Type 0} → A → Result A F → A
or_else d (Ok x) = x
or_else d (Err fault) = d

ok_same : {A F : Type 0} (x y : A) → ◌≡◌ {A = Result A F} (Ok x) (Ok y) → x ≡ y
ok_same x y is = ap (or_else x) is

abbrev Fails : {A F : Type 0} → Result A F → Type 0
Fails (Ok x) = ⊥
Fails (Err fault) = Unit {0}

-- an id that was met is a new one, and stands behind the others
pub record Met (id : List ℕ) (w u : Walk) : Type 0 where
  pub new : stands id w.ids ≡ false
  pub ids : u.ids ≡ w.ids ++ id ∷ []
  pub plugins : u.plugins ≡ w.plugins + 1

abbrev seen : Walk → List (List ℕ) × ℕ
seen w = (w.ids, w.plugins)

id_new : (id : List ℕ) (ids met : List (List ℕ)) → id_behind id ids ≡ Ok met → (stands id ids ≡ false) × (met ≡ ids ++ id ∷ [])
id_new id ids met said = by (stands id ids) refl said
  where
    by : (b : Bool) → stands id ids ≡ b → ◌≡◌ {A = Checked (List (List ℕ))} (if b then Err (fault.TwiceId id) else Ok (ids ++ id ∷ [])) (Ok met) → (stands id ids ≡ false) × (met ≡ ids ++ id ∷ [])
    by true e is = absurd (subst Fails is tt)
    by false e is = (e, sym (ok_same (ids ++ id ∷ []) met is))

path_seen : (path : Option (List ℕ)) (w u : Walk) → output_met path w ≡ Ok u → seen u ≡ seen w
path_seen None w u is = sym (ap seen (ok_same w u is))
path_seen (Some path) w u is =
    let a = went (λ met. Ok (record w { paths = met })) (path_met position.Output path w.paths) u is in
    sym (ap seen (ok_same (record w { paths = a.value }) u a.later))

met : (id : List ℕ) (path : Option (List ℕ)) (w u : Walk) → plugin_met id path w ≡ Ok u → Met id w u
met id path w u is =
    let a = went (output_met path) (id_met id w) u is in
    let b = went (λ ids. Ok (record w { ids = ids; plugins = w.plugins + 1 })) (id_behind id w.ids) a.value a.first in
    let new = id_new id w.ids b.value b.first in
    let same = path_seen path a.value u a.later ∙ sym (ap seen (ok_same (record w { ids = b.value; plugins = w.plugins + 1 }) a.value b.later)) in
    record { new = new.0; ids = ap (λ s. s.0) same ∙ new.1; plugins = ap (λ s. s.1) same }

box_seen : (stand : Stand) (id : List ℕ) (p : Plugin) (w v : Walk) → box_checked kind.Output stand id p w ≡ Ok v → seen v ≡ seen w
box_seen stand id p w v said = by (is_known p.name stand.stocks) said
  where
    goes : Unit {0} → Checked Walk
    goes u = Ok (with_want id p.name w)

    asks : Checked (Unit {0})
    asks = of_plugin id (box_read kind.Output stand w.each (count_of p.name w.boxes) p.name p.settings.list)

    by : (b : Bool) → (if b then next goes asks else Err (fault.UnknownPlugin p.name)) ≡ Ok v → seen v ≡ seen w
    by true is =
        let a = went goes asks v is in
        sym (ap seen (ok_same (with_want id p.name w) v a.later))
    by false is = absurd (subst Fails is tt)

plugin_met_new : (stand : Stand) (p : Plugin) (w u : Walk) → plugin_checked kind.Output stand p w ≡ Ok u → Met (id_next kind.Output w p) w u
unfolding plugin_checked
plugin_met_new stand p w u said =
    let id = id_next kind.Output w p in
    let a = went (plugin_read kind.Output stand id p w) (of_plugin id (built_in kind.Output p.name p.settings.list)) u said in
    by a.value a.later
  where
    by : (o : Option BuiltIn) → plugin_read kind.Output stand (id_next kind.Output w p) p w o ≡ Ok u → Met (id_next kind.Output w p) w u
    by (Some b) later = met (id_next kind.Output w p) b.path w u later
    by None later =
        let id = id_next kind.Output w p in
        let a = went (plugin_met id None) (box_checked kind.Output stand id p w) u later in
        let m = met id None a.value u a.later in
        let same = box_seen stand id p w a.value a.first in
        record {
          new = subst (λ ids. stands id ids ≡ false) (ap (λ s. s.0) same) m.new;
          ids = m.ids ∙ ap (λ s. s.0 ++ id ∷ []) same;
          plugins = m.plugins ∙ ap (λ s. s.1 + 1) same;
        }

condition_seen : (c : Condition) (w u : Walk) → condition_checked kind.Output c w ≡ Ok u → seen u ≡ seen w
condition_seen c w u said =
    let a = went (λ u. Ok (record w { conditions = w.conditions + 1 })) (of_plugin (condition_id_next kind.Output w) (patterns_read c)) u said in
    sym (ap seen (ok_same (record w { conditions = w.conditions + 1 }) u a.later))

-- none of these stands among others
abbrev AreNew : List (List ℕ) → List (List ℕ) → Type 0
AreNew ids [] = Unit {0}
AreNew ids (x ∷ xs) = (stands x ids ≡ false) × AreNew ids xs

none_behind : (x : List ℕ) (ids : List (List ℕ)) (id : List ℕ) → stands x (ids ++ id ∷ []) ≡ false → (stands x ids ≡ false) × (bytes_eq x id ≡ false)
none_behind x [] id none = (refl, (or_false (bytes_eq x id) false none).0)
none_behind x (other ∷ ids) id none =
    let each = or_false (bytes_eq x other) (stands x (ids ++ id ∷ [])) none in
    let more = none_behind x ids id each.1 in
    (ap (λ b. b || stands x ids) each.0 ∙ more.0, more.1)

without : (ids : List (List ℕ)) (id : List ℕ) (xs : List (List ℕ)) → AreNew (ids ++ id ∷ []) xs → AreNew ids xs × (stands id xs ≡ false)
without ids id [] new = (tt, refl)
without ids id (x ∷ xs) new =
    let here = none_behind x ids id new.0 in
    let more = without ids id xs new.1 in
    ((here.0, more.0), ap (λ b. b || stands id xs) (apart x id here.1) ∙ more.1)

-- the ids of the outputs that are still to come are new, and each stands once
pub record Own (w : Walk) (ps : List Point) : Type 0 where
  pub own : AreApart (ids_from (w.plugins + 1) (plugins_in ps))
  pub new : AreNew w.ids (ids_from (w.plugins + 1) (plugins_in ps))

own : (stand : Stand) (ps : List Point) (w v : Walk) → points_checked kind.Output stand ps w ≡ Ok v → Own w ps
own stand [] w v said = record { own = tt; new = tt }
own stand (Plugs p ∷ ps) w v said =
    let a = went (all_checked (point_checked kind.Output stand) ps) (plugin_checked kind.Output stand p w) v said in
    let m = plugin_met_new stand p w a.value a.first in
    let h = own stand ps a.value v a.later in
    let id = id_next kind.Output w p in
    let rest = subst (λ n. AreApart (ids_from (n + 1) (plugins_in ps))) m.plugins h.own in
    let others = subst (λ n. AreNew a.value.ids (ids_from (n + 1) (plugins_in ps))) m.plugins h.new in
    let both = without w.ids id (ids_from (w.plugins + 1 + 1) (plugins_in ps)) (subst (λ ids. AreNew ids (ids_from (w.plugins + 1 + 1) (plugins_in ps))) m.ids others) in
    record { own = (both.1, rest); new = (m.new, both.0) }
own stand (Tests c ∷ ps) w v said =
    let a = went (all_checked (point_checked kind.Output stand) ps) (condition_checked kind.Output c w) v said in
    let same = condition_seen c w a.value a.first in
    let h = own stand ps a.value v a.later in
    record {
      own = subst (λ s. AreApart (ids_from (s.1 + 1) (plugins_in ps))) same h.own;
      new = subst (λ s. AreNew s.0 (ids_from (s.1 + 1) (plugins_in ps))) same h.new;
    }

pub checked_own : (given : Given) (config : Config) → checked given config ≡ Ok tt → HaveOwnIds config
unfolding checked section_checked
checked_own given config said =
    let a = went (filters_checked given config) (inputs_checked config.inputs) tt said in
    let b = went (outputs_checked given config a.value) (section_checked kind.Filter (given.stand kind.Filter) given.workers config.filters a.value.ids) tt a.later in
    let c = went (whole_checked given a.value.inputs a.value.outside b.value.boxes) (section_checked kind.Output (given.stand kind.Output) 1 config.outputs b.value.ids) tt b.later in
    let o = own (given.stand kind.Output) (points_of config.outputs) (section_start 1 b.value.ids) c.value c.first in
    subst (λ ps. AreApart (ids_from 1 ps)) (alike config.outputs).plugins o.own
