-- A fault of settings, told with the id of their plugin.
use Rattle.std.proofs.Common.{◌≡◌, ℕ, ◌+◌, List, true, refl, sym, ap, subst, ◌∙◌, Option, Some, None, Ok}
use Rattle.config_tree.specs.declared.tree.Condition.{Condition}
use Rattle.config_tree.specs.declared.tree.Plugin.{Plugin}
use Rattle.config_tree.specs.declared.fault.FromFault.{FromFault}
use Rattle.config_tree.specs.declared.fault.FromFault.TheVariants as from
use Rattle.filter_settings.specs.Settings.{Made}
use Rattle.filter_settings.specs.Settings as settings
use Rattle.foreign_parts.specs.Stocks.{is_known}
use Rattle.plugin_settings.specs.Read.{input_of}
use Rattle.graph_checks.specs.Answers.{Checked, Refuses, next, of_plugin}
use Rattle.graph_checks.specs.Boxes.{Stand, count_of, box_read}
use Rattle.graph_checks.specs.BuiltIn.{built_in}
use Rattle.graph_checks.specs.Inputs.{input_id_next, input_read, input_checked}
use Rattle.graph_checks.specs.Plugins.{IsSettingFault, id_next, condition_id_next, patterns_read, arm_checked, box_checked, plugin_met, with_want, plugin_read, plugin_checked}
use Rattle.foreign_parts.specs.declared.boxes.BoxKind.{BoxKind}
use Rattle.graph_checks.specs.declared.built_in.BuiltIn.{BuiltIn}
use Rattle.graph_checks.specs.declared.inputs.SeenInputs.{SeenInputs}
use Rattle.graph_checks.specs.declared.walk.Walk.{Walk}
use Rattle.graph_checks.specs.declared.fault.GraphFault.{GraphFault}
use Rattle.graph_checks.proofs.Going.{refuses_next}

told_of : {A : Type 0} (id : List ℕ) (f : FromFault) (told : GraphFault) (said : Made A) → settings.Refuses f said → IsSettingFault id f told → Refuses told (of_plugin id said)
told_of id (from.Bad b) told said refused tells = subst (λ t. Refuses t (of_plugin id said)) (sym tells) (ap (of_plugin id) refused)
told_of id from.Memory told said refused tells = subst (λ t. Refuses t (of_plugin id said)) (sym tells) tt

-- the same, and what comes next, where the id is written in another way
module _ {A B : Type 0} (g : A → Checked B) (said : Made A) where
  pub setting_fails : (own id : List ℕ) (f : FromFault) (told : GraphFault) → own ≡ id → settings.Refuses f said → IsSettingFault own f told → Refuses told (next g (of_plugin id said))
  setting_fails own id f told is refused tells = refuses_next told g (of_plugin id said) (told_of id f told said refused (subst (λ i. IsSettingFault i f told) is tells))

pub input_refused : (p : Plugin) (m : SeenInputs) (id name : List ℕ) (f : FromFault) (told : GraphFault) → id ≡ input_id_next m p → name ≡ p.name → settings.Refuses f (input_of name p.settings.list) → IsSettingFault id f told → Refuses told (input_checked p m)
unfolding input_checked
input_refused p m id name f told is named refused tells =
    setting_fails (input_read (input_id_next m p) p m) (input_of p.name p.settings.list) id (input_id_next m p) f told is (subst (λ k. settings.Refuses f (input_of k p.settings.list)) named refused) tells

pub condition_refused : (which : BoxKind) (o : Option Condition) (c : Condition) (w : Walk) (id : List ℕ) (f : FromFault) (told : GraphFault) → o ≡ Some c → id ≡ condition_id_next which w → settings.Refuses f (patterns_read c) → IsSettingFault id f told → Refuses told (arm_checked which o w)
condition_refused which o c w id f told there is refused tells =
    subst (λ p. Refuses told (arm_checked which p w)) (sym there)
    (setting_fails (λ u. Ok (record w { conditions = w.conditions + 1 })) (patterns_read c) id (condition_id_next which w) f told is refused tells)

pub plugin_refused : (which : BoxKind) (stand : Stand) (p : Plugin) (w : Walk) (id name : List ℕ) (f : FromFault) (told : GraphFault) → id ≡ id_next which w p → name ≡ p.name → settings.Refuses f (built_in which name p.settings.list) → IsSettingFault id f told → Refuses told (plugin_checked which stand p w)
unfolding plugin_checked
plugin_refused which stand p w id name f told is named refused tells =
    setting_fails (plugin_read which stand (id_next which w p) p w) (built_in which p.name p.settings.list) id (id_next which w p) f told is (subst (λ k. settings.Refuses f (built_in which k p.settings.list)) named refused) tells

-- a plugin that is built in, and one that isn't
pub plugin_built : (which : BoxKind) (stand : Stand) (p : Plugin) (w : Walk) (id name : List ℕ) (b : BuiltIn) → id ≡ id_next which w p → name ≡ p.name → built_in which name p.settings.list ≡ Ok (Some b) → plugin_checked which stand p w ≡ plugin_met id b.path w
unfolding plugin_checked
plugin_built which stand p w id name b is named read =
    ap (λ m. next (plugin_read which stand (id_next which w p) p w) (of_plugin (id_next which w p) m)) (ap (λ k. built_in which k p.settings.list) (sym named) ∙ read) ∙ ap (λ i. plugin_met i b.path w) (sym is)

pub plugin_boxed : (which : BoxKind) (stand : Stand) (p : Plugin) (w : Walk) (id name : List ℕ) → id ≡ id_next which w p → name ≡ p.name → built_in which name p.settings.list ≡ Ok None → plugin_checked which stand p w ≡ next (plugin_met id None) (box_checked which stand id p w)
unfolding plugin_checked
plugin_boxed which stand p w id name is named read =
    ap (λ m. next (plugin_read which stand (id_next which w p) p w) (of_plugin (id_next which w p) m)) (ap (λ k. built_in which k p.settings.list) (sym named) ∙ read) ∙ ap (λ i. next (plugin_met i None) (box_checked which stand i p w)) (sym is)

pub box_known : (which : BoxKind) (stand : Stand) (id : List ℕ) (p : Plugin) (w : Walk) → is_known p.name stand.stocks ≡ true → box_checked which stand id p w
    ≡ next (λ u. Ok (with_want id p.name w)) (of_plugin id (box_read which stand w.each (count_of p.name w.boxes) p.name p.settings.list))
box_known which stand id p w known = rw known refl

pub box_refused : (which : BoxKind) (stand : Stand) (id own : List ℕ) (p : Plugin) (w : Walk) (name : List ℕ) (before : ℕ) (f : FromFault) (told : GraphFault) → name ≡ p.name → is_known name stand.stocks ≡ true → own ≡ id → before ≡ count_of p.name w.boxes
    → settings.Refuses f (box_read which stand w.each before p.name p.settings.list) → IsSettingFault own f told → Refuses told (box_checked which stand id p w)
box_refused which stand id own p w name before f told named known is count refused tells =
    subst (λ m. Refuses told m) (sym (box_known which stand id p w (ap (λ k. is_known k stand.stocks) (sym named) ∙ known)))
    (setting_fails (λ u. Ok (with_want id p.name w)) (box_read which stand w.each (count_of p.name w.boxes) p.name p.settings.list) own id f told is
    (subst (λ n. settings.Refuses f (box_read which stand w.each n p.name p.settings.list)) count refused) tells)
