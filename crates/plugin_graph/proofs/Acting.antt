-- What a kit does to an event, by its table.
use Rattle.std.proofs.lemmas.List.{length-map, map-append, map-set}
use Rattle.std.proofs.lemmas.Option.{none-some, slice_get-map, slice_get_past}
use Rattle.std.proofs.Common.{◌≡◌, ℕ, zero, suc, ◌+◌, ◌-◌, ◌<◌, ◌≤◌, List, [], ◌∷◌, ◌++◌, length, map, refl, sym, ap, ap₂, subst, ◌∙◌, arith, append-nil, append_assoc, Bool, true, false, Option, Some, None, option_map, slice_get, slice_set, Result, Ok, Err, IfOk}
use Rattle.event_tree.specs.Events.{Ev}
use Rattle.event_tree.specs.Paths.{over}
use Rattle.event_tree.proofs.Puts.{slice_set-same}
use Rattle.foreign_parts.specs.declared.filter.Verdict.{Verdict}
use Rattle.event_flow.specs.Flows.{To, Filtered, Gives, Asks}
use Rattle.event_flow.specs.Marks.{Mark, At, Did, Acts, Yields, Meets, dids, marks_of, sent_to}
use Rattle.event_flow.specs.Steps.{Act, Table}
use Rattle.event_flow.specs.Steps as act
use Rattle.event_flow.specs.declared.cell.Cell.{Cell}
use Rattle.event_flow.specs.declared.cell.Cell.TheVariants as c
use Rattle.event_flow.specs.declared.cell.Outcome.TheVariants as o
use Rattle.plugin_graph.specs.Kits.{HasOwnTargets, HaveOwnTargets, MayAt, acts_at, boxes_of, filter_acts, output_act, output_acts, table_of, target_at}
use Rattle.plugin_graph.specs.Loads.{Contents}
use Rattle.built_plugins.specs.Makes.{filtered_by}
use Rattle.plugin_graph.specs.Meetings.{Meeting, MayAnswer, act_by, filter_act}
use Rattle.built_plugins.specs.declared.condition.NamedCondition.{NamedCondition}
use Rattle.built_plugins.specs.declared.filter.Filter.{Filter}
use Rattle.plugin_graph.specs.declared.kit_filter.KitFilter.{KitFilter}
use Rattle.built_plugins.specs.declared.output.OutputTargets.{OutputTargets}
use Rattle.built_plugins.specs.declared.output.Target.{Target}
use Rattle.plugin_graph.proofs.Encounters.{Meets_it, one_cell}

-- the filter of a number
module _ {X : Type 0} (may : X → Ev → Verdict → Type 0) (fs : List (KitFilter X)) (n : ℕ) (e : Ev) (targets : List ℕ) (table : Table) (part : List Mark) where
  at_number : (x : KitFilter X) (y : Filtered) → slice_get fs n ≡ Some x → Meeting (λ j d u. MayAnswer may x.plugged d u) (act_by (n + 1) y) table e targets part → Meeting (MayAt may (boxes_of fs)) (act_by (n + 1) y) table e targets part
  at_number x (Gives es) is meeting = meeting
  at_number x (Asks events) is (acts, (u, may_be, used), whole) =
      let found = slice_get-map (λ y. y.plugged) fs n ∙ ap (option_map (λ y. y.plugged)) is in
      (acts, (u, (n, refl, (x.plugged, found, may_be)), used), whole)

  meets_at : (x : KitFilter X) → slice_get fs n ≡ Some x → Meeting (λ j d u. MayAnswer may x.plugged d u) (filter_act (n + 1) x.filter e) table e targets part → Meeting (MayAt may (boxes_of fs)) (filter_acts fs n e) table e targets part
  meets_at x is meeting = subst (λ y. Meeting (MayAt may (boxes_of fs)) (over (λ z. filter_act (n + 1) z.filter e) (act.Gives []) y) table e targets part) (sym is) (at_number x (filtered_by x.filter e) is meeting)

pub filter_meets : {X : Type 0} (may : X → Ev → Verdict → Type 0) (fs : List (KitFilter X)) (n : ℕ) (x : KitFilter X) (e : Ev) (targets : List ℕ) (e' : Ev) (targets' : List ℕ) (old new : List Cell) {F : Type 0} (r : Result Bool F) → slice_get fs n ≡ Some x → IfOk r (Meets_it may x.plugged e targets e' targets' old new x.filter) → IfOk r (λ stays. (table : Table) → Yields (Meeting (MayAt may (boxes_of fs)) (filter_acts fs n e) table e targets) table stays e' targets' old new)
filter_meets may fs n x e targets e' targets' old new (Ok stays) is met = λ table.
    let comes = met table (n + 1) in
    record { part = comes.part; whole = comes.whole; kind = meets_at may fs n e targets table comes.part x is comes.kind }
filter_meets may fs n x e targets e' targets' old new (Err fault) is met = tt

-- the act of a number below that of the first output
acts_inside : {X : Type 0} (fs : List (KitFilter X)) (g : Filter → Act) (d : Act) (n : ℕ) → n < length fs → over (λ x. g x.filter) (act.Gives []) (slice_get fs n) ≡ over g d (slice_get (map (λ x. x.filter) fs) n)
acts_inside [] g d n below = absurd (omega (arith, below))
acts_inside (x ∷ fs) g d zero below = refl
acts_inside (x ∷ fs) g d (suc n) below = acts_inside fs g d n (omega (arith, below))

module _ {X : Type 0} (fs : List (KitFilter X)) (c : Contents) (is : c.filters ≡ map (λ x. x.filter) fs) (n : ℕ) (e : Ev) where
  pub inside : n < length fs → filter_acts fs n e ≡ acts_at c n e
  inside below = acts_inside fs (λ x. filter_act (n + 1) x e) (output_acts c.targets c.outputs (n - length c.filters)) n below ∙ ap (λ xs. over (λ x. filter_act (n + 1) x e) (output_acts c.targets c.outputs (n - length c.filters)) (slice_get xs n)) (sym is)

  pub outside : (place : ℕ) → length fs ≤ n → place ≡ n - length fs → output_acts c.targets c.outputs place ≡ acts_at c n e
  outside place past at =
      let many = ap length is ∙ length-map fs (λ x. x.filter) in
      ap (output_acts c.targets c.outputs) (omega (arith, at, many))
      ∙ ap (over (λ x. filter_act (n + 1) x e) (output_acts c.targets c.outputs (n - length c.filters))) (sym (slice_get_past c.filters n (omega (arith, past, many))))

-- an output's own targets
abbrev head_of : List (List ℕ) → List ℕ
head_of [] = []
head_of (x ∷ xs) = x

abbrev tail_of : List (List ℕ) → List (List ℕ)
tail_of [] = []
tail_of (x ∷ xs) = xs

sends_own : (ts : List Target) (id ns : _) (e : Ev) → map (λ j. (target_at ts j).0) ns ≡ map (λ j. id) ns → map (λ j. To (target_at ts j).0 (target_at ts j).1 e) ns ≡ map (λ at. To id at e) (map (λ j. (target_at ts j).1) ns)
sends_own ts id [] e own = refl
sends_own ts id (n ∷ ns) e own = ap₂ (λ x xs. To x (target_at ts n).1 e ∷ xs) (ap head_of own) (sends_own ts id ns e (ap tail_of own))

own_at : (ts : List Target) (os : List OutputTargets) (n : ℕ) (x : OutputTargets) → HaveOwnTargets ts os → slice_get os n ≡ Some x → HasOwnTargets ts x
own_at ts [] n x own is = absurd (none-some x is)
own_at ts (y ∷ os) zero x own is = subst (HasOwnTargets ts) (ap (over (λ z. z) y) is) (ap first own)
  where
    first : List (List (List ℕ)) → List (List ℕ)
    first [] = []
    first (z ∷ zs) = z
own_at ts (y ∷ os) (suc n) x own is = own_at ts os n x (ap rest own) is
  where
    rest : List (List (List ℕ)) → List (List (List ℕ))
    rest [] = []
    rest (z ∷ zs) = zs

module _ (table : Table) (ts : List Target) (same : (j : ℕ) → table.targets j ≡ target_at ts j) where
  -- where an event was sent before, and where an output sends it
  both_sent : (x : OutputTargets) (targets : List ℕ) (e : Ev) → HasOwnTargets ts x → dids (sent_to table (targets ++ x.targets) e) ++ At 0 e ∷ [] ≡ dids (sent_to table targets e) ++ (dids (map (λ at. To x.id at e) (map (λ j. (target_at ts j).1) x.targets)) ++ At 0 e ∷ [])
  both_sent x targets e own =
      let here = sent_to table targets e in
      let there : sent_to table x.targets e ≡ map (λ at. To x.id at e) (map (λ j. (target_at ts j).1) x.targets)
      = (λ i. map (λ j. To (same j i).0 (same j i).1 e) x.targets) ∙ sends_own ts x.id x.targets e own in
      ap (λ ds. dids ds ++ At 0 e ∷ []) (map-append (λ j. To (table.targets j).0 (table.targets j).1 e) targets x.targets)
      ∙ ap (λ ms. ms ++ At 0 e ∷ []) (map-append (λ d. Did d) here (sent_to table x.targets e))
      ∙ append_assoc (dids here) (dids (sent_to table x.targets e)) (At 0 e ∷ [])
      ∙ ap (λ ds. dids here ++ (dids ds ++ At 0 e ∷ [])) there

module _ (may : ℕ → Ev → Verdict → Type 0) (c' : Contents) (n place : ℕ) (e : Ev) (targets : List ℕ) (at : output_acts c'.targets c'.outputs place ≡ acts_at c' n e) where
  -- an event that an output sends on stays in its place
  pub output_meets : (targets' : List ℕ) (cells : List Cell) (x : OutputTargets) → HaveOwnTargets c'.targets c'.outputs → slice_get c'.outputs place ≡ Some x → targets' ≡ targets ++ x.targets → Yields (Meets may (table_of c') n e targets) (table_of c') true e targets' cells cells
  output_meets targets' cells x own is sent =
      let table = table_of c' in
      let acts = dids (map (λ t. To x.id t e) (map (λ j. (target_at c'.targets j).1) x.targets)) ++ At 0 e ∷ [] in
      record {
        part = marks_of table (c.At 0 e targets');
        whole = (refl, refl);
        kind = (
          acts,
          subst (λ y. Acts may e y acts) (ap (over (output_act c'.targets) (act.Gives [])) (sym is) ∙ at) refl,
          ap (λ ts. marks_of table (c.At 0 e ts)) sent ∙ both_sent table c'.targets (λ j. refl) x targets e (own_at c'.targets c'.outputs place x own is),
        );
      }

  -- past the outputs nothing of it goes on
  pub nothing_meets : (e' : Ev) (targets' : List ℕ) (old new : List Cell) (gone : Cell) → slice_get c'.outputs place ≡ None → gone ≡ c.Came (o.Consumed e targets) → new ≡ old ++ gone ∷ [] → Yields (Meets may (table_of c') n e targets) (table_of c') false e' targets' old new
  nothing_meets e' targets' old new gone none is come = record {
    part = dids (sent_to (table_of c') targets e);
    whole = one_cell (table_of c') old new (c.Came (o.Consumed e targets)) (come ∙ ap (λ x. old ++ x ∷ []) is);
    kind = ([], subst (λ y. Acts may e y []) (ap (over (output_act c'.targets) (act.Gives [])) (sym none) ∙ at) refl, sym (append-nil (dids (sent_to (table_of c') targets e))));
  }

-- what a filter of a kit did, by the kit's table
pub by_table : {F : Type 0} (r : Result Bool F) (may : ℕ → Ev → Verdict → Type 0) (c' : Contents) (n : ℕ) (e : Ev) (targets : List ℕ) (e' : Ev) (targets' : List ℕ) (old new : List Cell) (x : Act) → x ≡ acts_at c' n e → IfOk r (λ stays. (table : Table) → Yields (Meeting may x table e targets) table stays e' targets' old new) → IfOk r (λ stays. Yields (Meets may (table_of c') n e targets) (table_of c') stays e' targets' old new)
by_table (Ok stays) may c' n e targets e' targets' old new x is met = subst (λ y. Yields (Meeting may y (table_of c') e targets) (table_of c') stays e' targets' old new) is (met (table_of c'))
by_table (Err fault) may c' n e targets e' targets' old new x is met = tt

-- conditions that say the same
pub same_table : {X : Type 0} (fs : List (KitFilter X)) (os : List OutputTargets) (ts : List Target) (old new : List NamedCondition) → new ≡ old
    → table_of (record { filters = map (λ f. f.filter) fs; outputs = os; targets = ts; conditions = new }) ≡ table_of (record { filters = map (λ f. f.filter) fs; outputs = os; targets = ts; conditions = old })
same_table fs os ts old new same = ap (λ cs. table_of (record { filters = map (λ f. f.filter) fs; outputs = os; targets = ts; conditions = cs })) same

-- a box in the place of another, or of none
module _ {X : Type 0} (fs : List (KitFilter X)) (at : ℕ) (x : KitFilter X) (plugged : Option X) (is : slice_get fs at ≡ Some x) where
  pub same_filters : map (λ f. f.filter) (slice_set fs at (record { filter = x.filter; plugged = plugged })) ≡ map (λ f. f.filter) fs
  same_filters =
      map-set (λ f. f.filter) fs at (record { filter = x.filter; plugged = plugged })
      ∙ slice_set-same (map (λ f. f.filter) fs) at x.filter (slice_get-map (λ f. f.filter) fs at ∙ ap (option_map (λ f. f.filter)) is)

pub there_is_none : {X : Type 0} (fs : List (KitFilter X)) (n : ℕ) → n < length (map (λ f. f.filter) fs) → None ≡ slice_get fs n → ⊥
there_is_none [] n below is = absurd (omega (arith, below))
there_is_none (f ∷ fs) zero below is = none-some f is
there_is_none (f ∷ fs) (suc n) below is = there_is_none fs n (omega (arith, below)) is
