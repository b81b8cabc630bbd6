-- What is known of a configuration that passed its checks.
use Rattle.std.proofs.Common.{◌≡◌, ◌≤◌, ℕ, ◌*◌, List, length, refl, sym, ap, subst, ◌∙◌, arith, Ok}
use Rattle.config_tree.specs.declared.tree.Config.{Config}
use Rattle.config_tree.specs.declared.tree.Statement.{Statement}
use Rattle.event_flow.specs.Parts.{parts_of}
use Rattle.foreign_parts.specs.Stocks.{left_of}
use Rattle.foreign_parts.specs.declared.boxes.BoxKind.{BoxKind}
use Rattle.foreign_parts.specs.declared.boxes.BoxKind.TheVariants as kind
use Rattle.graph_checks.specs.Boxes.{Stand, Counts, count_of}
use Rattle.graph_checks.specs.Plugins.{section_checked, section_start}
use Rattle.graph_checks.specs.Points.{points_of}
use Rattle.graph_checks.specs.Wants.{AreLeft, IsWanted, names_of, so_often, times_of, wants_of}
use Rattle.graph_checks.specs.Inputs.{inputs_checked}
use Rattle.graph_checks.specs.Linked.{outside_of}
use Rattle.graph_checks.specs.Whole.{Given, checked, filters_checked, links_checked, outputs_checked, some_there, spares_checked, whole_checked, whole_of}
use Rattle.graph_checks.specs.declared.fault.GraphFault.TheVariants as fault
use Rattle.graph_checks.specs.declared.walk.Walk.{Walk}
use Rattle.graph_checks.specs.declared.want.Want.{Want}
use Rattle.graph_checks.specs.declared.want.Wants.{Wants}
use Rattle.graph_checks.specs.Readings.{AllCompiled, AllRead, IsRead}
use Rattle.graph_checks.proofs.Flattened.{alike}
use Rattle.graph_checks.proofs.Passing.{passes, went}
use Rattle.graph_checks.proofs.Sparing.{never_short, times_each}

-- what is known of a section that passed
pub record SectionPassed (which : BoxKind) (each : ℕ) (ss : List Statement) (w : Walk) : Type 0 where
  pub wants : w.wants ≡ wants_of which (parts_of ss).plugins
  pub counted : (k : List ℕ) → count_of k w.boxes ≡ times_of k (names_of w.wants)
  pub read : AllRead which (parts_of ss).plugins
  pub compiled : AllCompiled which 1 (parts_of ss).conditions

pub section_passes : (which : BoxKind) (stand : Stand) (each : ℕ) (ss : List Statement) (ids : List (List ℕ)) (w : Walk) → section_checked which stand each ss ids ≡ Ok w → SectionPassed which each ss w
unfolding section_checked
section_passes which stand each ss ids w said =
    let h = passes which stand (points_of ss) (section_start each ids) w said in
    let a = alike ss in
    record {
      wants = h.wants ∙ ap (wants_of which) a.plugins;
      counted = h.counted (λ k. refl);
      read = subst (AllRead which) a.plugins h.read;
      compiled = subst (AllCompiled which 1) a.conditions h.compiled;
    }

-- as many boxes are left as are wanted
left_of_all : (stand : Stand) (each : ℕ) (counts : Counts) (wants : List Want) → ((k : List ℕ) → count_of k counts ≡ times_of k (names_of wants)) → spares_checked stand each counts ≡ Ok tt → AreLeft (names_of (so_often each wants)) stand.stocks
left_of_all stand each counts wants counted said k =
    subst (λ n. n ≤ length (left_of k stand.stocks)) (ap (λ n. n * each) (counted k) ∙ sym (times_each (λ w. w.name) k each wants)) (never_short stand each counts said k)

pub record Spared (filters outputs : Stand) (workers : ℕ) (fs os : Walk) : Type 0 where
  pub of_filters : spares_checked filters workers fs.boxes ≡ Ok tt
  pub of_outputs : spares_checked outputs 1 os.boxes ≡ Ok tt

spared : (filters outputs : Stand) (links : List (List ℕ)) (workers inputs : ℕ) (outside : List (List ℕ)) (fs os : Walk) → whole_of filters outputs links workers inputs outside fs.boxes os ≡ Ok tt → Spared filters outputs workers fs os
spared filters outputs links workers inputs outside fs os said =
    let a = went _ (some_there fault.NoInput inputs) tt said in
    let b = went _ (some_there fault.NoOutput os.plugins) tt a.later in
    let c = went _ (links_checked links outside) tt b.later in
    let d = went _ (spares_checked filters workers fs.boxes) tt c.later in
    record { of_filters = d.first; of_outputs = d.later }

module _ (given : Given) (config : Config) where
  -- what it wants, by the walks over its sections
  pub is_wanted : (ids others : List (List ℕ)) (inputs : ℕ) (outside : List (List ℕ)) (fs os : Walk) (w : Wants)
      → section_checked kind.Filter (given.stand kind.Filter) given.workers config.filters ids ≡ Ok fs → section_checked kind.Output (given.stand kind.Output) 1 config.outputs others ≡ Ok os
      → whole_checked given inputs outside fs.boxes os ≡ Ok tt → w.filters ≡ fs.wants → w.outputs ≡ os.wants → w.links ≡ outside_of config.inputs → IsWanted given config w
  is_wanted ids others inputs outside fs os w first second whole filters outputs links =
      let f = section_passes kind.Filter (given.stand kind.Filter) given.workers config.filters ids fs first in
      let o = section_passes kind.Output (given.stand kind.Output) 1 config.outputs others os second in
      let s = spared (given.stand kind.Filter) (given.stand kind.Output) given.links given.workers inputs outside fs os whole in
      record {
        filters = filters ∙ f.wants;
        outputs = outputs ∙ o.wants;
        links = links;
        filters_left = subst (λ ws. AreLeft (names_of (so_often given.workers ws)) (given.stand kind.Filter).stocks) (sym filters) (left_of_all (given.stand kind.Filter) given.workers fs.boxes fs.wants f.counted s.of_filters);
        outputs_left = subst (λ ws. AreLeft (names_of ws) (given.stand kind.Output).stocks) (sym outputs) (λ k. omega (arith, o.counted k, never_short (given.stand kind.Output) 1 os.boxes s.of_outputs k));
      }

  -- a configuration that is checked reads
  pub checked_reads : checked given config ≡ Ok tt → IsRead config
  unfolding checked
  checked_reads said =
      let a = went (filters_checked given config) (inputs_checked config.inputs) tt said in
      let b = went (outputs_checked given config a.value) (section_checked kind.Filter (given.stand kind.Filter) given.workers config.filters a.value.ids) tt a.later in
      let c = went (whole_checked given a.value.inputs a.value.outside b.value.boxes) (section_checked kind.Output (given.stand kind.Output) 1 config.outputs b.value.ids) tt b.later in
      let f = section_passes kind.Filter (given.stand kind.Filter) given.workers config.filters a.value.ids b.value b.first in
      let o = section_passes kind.Output (given.stand kind.Output) 1 config.outputs b.value.ids c.value c.first in
      record { filters = f.read; filter_conditions = f.compiled; output_conditions = o.compiled }
