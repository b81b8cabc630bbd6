-- Cells that a step takes, and what it puts in their place.
use Rattle.std.proofs.lemmas.Grind.{flat_map-append}
use Rattle.std.proofs.lemmas.Option.{none-some}
use Rattle.std.proofs.Common.{append-nil, ◌<◌, ◌≡◌, ℕ, zero, suc, ◌+◌, ◌-◌, List, [], ◌∷◌, ◌++◌, map, take, drop, slice_get, slice_set, refl, ap, ap₂, sym, subst, ◌∙◌, append_assoc, add-one, arith, rules, Some, None, Result, Ok, Err, OnOk, IfOk, Bool, true, false}
use Rattle.std.specs.Bool.{MatchBool}
use Rattle.event_tree.specs.Events.{Ev}
use Rattle.condition_eval.specs.declared.truth.Truth.{Truth}
use Rattle.condition_eval.specs.declared.truth.Truth.TheVariants as truth
use Rattle.foreign_parts.specs.declared.filter.Verdict.{Verdict}
use Rattle.event_flow.specs.Flows.{Dead, wrong_letter}
use Rattle.event_flow.specs.Marks.{Mark, At, Did, Used, at_once, dids, sent_to, led_mark, led_cell, outcome_marks, marks_of, marks, Meets, Becomes, StepsAll, Adds, Yields}
use Rattle.event_flow.specs.Steps.{Table}
use Rattle.event_flow.specs.Stepped.{Arrives, Passes, event_at, passed, passing, Takes}
use Rattle.event_flow.specs.declared.cell.Cell.{Cell}
use Rattle.event_flow.specs.declared.cell.Cell.TheVariants as c
use Rattle.event_flow.specs.declared.cell.Outcome.{Outcome}
use Rattle.event_flow.specs.declared.cell.Outcome.TheVariants as o
use Rattle.event_flow.specs.declared.step.FlowStep.{FlowStep}
use Rattle.event_flow.specs.declared.step.FlowStep.TheVariants as s
use Rattle.event_flow.proofs.Batches.{all_behind, dids_stay, one_becomes, all_become_as, Same}

pub started_marks : (table : Table) (es : List Ev) → marks table (map (λ e. c.At 0 e []) es) ≡ at_once es
started_marks table [] = refl
started_marks table (e ∷ es) = ap (λ ms. At 0 e ∷ ms) (started_marks table es)

module _ (may : ℕ → Ev → Verdict → Type 0) (table : Table) (x : FlowStep) where
  -- an event with what was sent of it
  at_becomes : (skip : ℕ) (e : Ev) (targets : List ℕ) (part : List Mark) → Becomes may table x (At skip e) part → StepsAll may table x (marks_of table (c.At skip e targets)) (dids (sent_to table targets e) ++ part)
  at_becomes skip e targets part becomes = all_behind may table x (dids (sent_to table targets e)) (At skip e ∷ []) (dids (sent_to table targets e)) part (dids_stay may table x (sent_to table targets e)) (one_becomes may table x (At skip e) part becomes)

  pub passes_on : (skip : ℕ) (e : Ev) (targets : List ℕ) → 0 < skip → StepsAll may table x (marks_of table (c.At skip e targets)) (marks_of table (c.At (skip - 1) e targets))
  passes_on zero e targets some = absurd (omega (arith, some))
  passes_on (suc skip) e targets some =
      let less : suc skip - 1 ≡ skip = omega arith in
      subst (λ n. StepsAll may table x (marks_of table (c.At (suc skip) e targets)) (marks_of table (c.At n e targets))) (sym less) (at_becomes (suc skip) e targets (At skip e ∷ []) refl)

  pub outcome_stays : (outcome : Outcome) → StepsAll may table x (outcome_marks table outcome) (outcome_marks table outcome)
  outcome_stays (o.Consumed e targets) = dids_stay may table x (sent_to table targets e)
  outcome_stays (o.Dead n reason e targets) =
      let letter = Did (Dead (wrong_letter (table.ids n) reason e)) in
      all_behind may table x (dids (sent_to table targets e)) (letter ∷ []) (dids (sent_to table targets e)) (letter ∷ []) (dids_stay may table x (sent_to table targets e)) (one_becomes may table x letter (letter ∷ []) refl)
  outcome_stays (o.Verdict v) = one_becomes may table x (Used v) (Used v ∷ []) refl

module _ (may : ℕ → Ev → Verdict → Type 0) (table : Table) where
  pub skips_on : (over : ℕ) (e : Ev) (targets : List ℕ) → StepsAll may table (s.Skip over) (marks_of table (c.At 0 e targets)) (marks_of table (c.At over e targets))
  skips_on over e targets = at_becomes may table (s.Skip over) 0 e targets (At over e ∷ []) refl

  led_marks : (t : Truth) (n over : ℕ) (e : Ev) (targets : List ℕ) → marks_of table (led_cell t n over e targets) ≡ dids (sent_to table targets e) ++ led_mark over (table.ids n) e t ∷ []
  led_marks truth.Yes n over e targets = refl
  led_marks truth.No n over e targets = refl
  led_marks (truth.Wrong reason) n over e targets = refl

  pub led_on : (t : Truth) (n over : ℕ) (e : Ev) (targets : List ℕ) → t ≡ table.says n e → StepsAll may table (s.Test n over) (marks_of table (c.At 0 e targets)) (marks_of table (led_cell t n over e targets))
  led_on t n over e targets is = subst (λ ms. StepsAll may table (s.Test n over) (marks_of table (c.At 0 e targets)) ms) (sym (led_marks t n over e targets))
      (at_becomes may table (s.Test n over) 0 e targets (led_mark over (table.ids n) e t ∷ []) (ap (λ u. led_mark over (table.ids n) e u ∷ []) is))

  -- what a kit says that a plugin did
  pub acted_on : (n : ℕ) (e : Ev) (targets : List ℕ) (ms : List Mark) → Meets may table n e targets ms → StepsAll may table (s.Plugin n) (marks_of table (c.At 0 e targets)) ms
  acted_on n e targets ms (acts, done, is) =
      subst (λ xs. StepsAll may table (s.Plugin n) (marks_of table (c.At 0 e targets)) xs) (sym is) (at_becomes may table (s.Plugin n) 0 e targets acts done)

-- a cell whose event meets the next step
pub record Waits (cell : Cell) (e : Ev) : Type 0 where
  pub targets : List ℕ
  pub is : cell ≡ c.At 0 e targets

pub waits : (cell : Cell) (e : Ev) → event_at cell ≡ Some e → Waits cell e
waits (c.At zero e' targets) e is =
    let same : e' ≡ e = search (is, rules) in
    record { targets = targets; is = ap (λ x. c.At 0 x targets) same }
waits (c.At (suc skip) e' targets) e is = absurd (none-some e is)
waits (c.Came outcome) e is = absurd (none-some e is)

module _ (may : ℕ → Ev → Verdict → Type 0) (table : Table) where
  -- one cell in the place of another
  alone : (x : FlowStep) (cell after : Cell) (others : List Cell) → others ≡ [] → StepsAll may table x (marks_of table cell) (marks_of table after) → StepsAll may table x (marks_of table cell) (marks_of table after ++ marks table others)
  alone x cell after others none become =
      subst (λ ms. StepsAll may table x (marks_of table cell) ms) (sym (ap (λ os. marks_of table after ++ marks table os) none ∙ append-nil (marks_of table after))) become

  goes_by : (x : FlowStep) (cell : Cell) → event_at cell ≡ None → StepsAll may table x (marks_of table cell) (marks_of table (passed cell))
  goes_by x (c.At zero e targets) none = absurd (none-some e (sym none))
  goes_by x (c.At (suc skip) e targets) none = passes_on may table x (suc skip) e targets (omega arith)
  goes_by x (c.Came outcome) none = outcome_stays may table x outcome

  -- a cell that passes over a step
  pub passed_by : (passes : Bool) (x : FlowStep) (cell after : Cell) (others : List Cell) → Passes passes cell after → passes ≡ true → others ≡ [] → StepsAll may table x (marks_of table cell) (marks_of table after ++ marks table others)
  passed_by true x cell after others (none, is) so empty =
      alone x cell after others empty (subst (λ a. StepsAll may table x (marks_of table cell) (marks_of table a)) (sym is) (goes_by x cell none))
  passed_by false x cell after others (at, same) so empty = absurd (subst (λ b. MatchBool b (Unit {0}) ⊥) (sym so) tt)

  pub skipped : (over : ℕ) (cell after : Cell) (e : Ev) (targets : List ℕ) (others : List Cell) → cell ≡ c.At 0 e targets → after ≡ passing over cell → others ≡ [] → StepsAll may table (s.Skip over) (marks_of table cell) (marks_of table after ++ marks table others)
  skipped over cell after e targets others at is empty =
      alone (s.Skip over) cell after others empty
      (subst (λ a. StepsAll may table (s.Skip over) (marks_of table cell) (marks_of table a)) (sym is)
      (subst (λ x. StepsAll may table (s.Skip over) (marks_of table x) (marks_of table (passing over x))) (sym at) (skips_on may table over e targets)))

  pub tested : (n over : ℕ) (cell after : Cell) (e : Ev) (targets : List ℕ) (others : List Cell) → cell ≡ c.At 0 e targets → after ≡ led_cell (table.says n e) n over e targets → others ≡ [] → StepsAll may table (s.Test n over) (marks_of table cell) (marks_of table after ++ marks table others)
  tested n over cell after e targets others at led empty =
      alone (s.Test n over) cell after others empty
      (subst (λ a. StepsAll may table (s.Test n over) (marks_of table cell) (marks_of table a)) (sym led)
      (subst (λ x. StepsAll may table (s.Test n over) (marks_of table x) (marks_of table (led_cell (table.says n e) n over e targets))) (sym at) (led_on may table (table.says n e) n over e targets refl)))

module _ (table : Table) (Kind : List Mark → Type 0) where
  -- what came of a cell was put behind the others
  pub put : {F : Type 0} (r : Result (Unit {0}) F) (x : Cell) (others old mid new : List Cell) → Kind (marks_of table x ++ marks table others) → mid ≡ old ++ x ∷ [] → OnOk r (new ≡ mid ++ others) → OnOk r (Adds Kind (marks table old) (marks table new))
  put (Ok u) x others old mid new kind first is = record {
    part = marks_of table x ++ marks table others;
    whole = ap (marks table) (is ∙ ap (λ cs. cs ++ others) first ∙ append_assoc old (x ∷ []) others) ∙ flat_map-append (marks_of table) old (x ∷ others);
    kind = kind;
  }
  put (Err f) x others old mid new kind first is = tt

-- what came of the cells in front of what is left, behind these marks
pub record Through (may : ℕ → Ev → Verdict → Type 0) (table : Table) (x : FlowStep) (cells left : List Cell) (front : List Mark) (out : List Cell) : Type 0 where
  pub part : List Mark
  pub whole : marks table out ≡ front ++ part
  pub so_far : (more : List Mark) → StepsAll may table x (marks table left) more → StepsAll may table x (marks table cells) (part ++ more)

pub through_first : (may : ℕ → Ev → Verdict → Type 0) (table : Table) (x : FlowStep) (cells : List Cell) (front : List Mark) (out : List Cell) → marks table out ≡ front → Through may table x cells cells front out
through_first may table x cells front out is = record { part = []; whole = is ∙ sym (append-nil front); so_far = λ more all. all }

pub through_one : (may now : ℕ → Ev → Verdict → Type 0) (table table' : Table) (x : FlowStep) (cells left rest : List Cell) (front : List Mark) (out new : List Cell) (cell : Cell) → left ≡ cell ∷ rest → Same table table' may now → Through may table x cells left front out → Adds (StepsAll now table' x (marks_of table' cell)) (marks table' out) (marks table' new) → Through may table x cells rest front new
through_one may now table table' x cells left rest front out new cell is same through added =
    let adds = subst (λ t. Adds (StepsAll now t x (marks_of t cell)) (marks t out) (marks t new)) same.same_table added in
    record {
      part = through.part ++ adds.part;
      whole = adds.whole ∙ ap (λ ms. ms ++ adds.part) through.whole ∙ append_assoc front through.part adds.part;
      so_far = λ more all.
          subst (λ os. StepsAll may table x (marks table cells) os) (sym (append_assoc through.part adds.part more))
          (through.so_far (adds.part ++ more) (subst (λ cs. StepsAll may table x (marks table cs) (adds.part ++ more)) (sym is)
          (all_behind may table x (marks_of table cell) (marks table rest) adds.part more (all_become_as table may now x (marks_of table cell) adds.part same.weaker adds.kind) all)));
    }

pub through_all : (may : ℕ → Ev → Verdict → Type 0) (table : Table) (x : FlowStep) (cells left : List Cell) (front : List Mark) (out : List Cell) → left ≡ [] → Through may table x cells left front out → Adds (StepsAll may table x (marks table cells)) front (marks table out)
through_all may table x cells left front out none through = record {
  part = through.part;
  whole = through.whole;
  kind = subst (λ os. StepsAll may table x (marks table cells) os) (append-nil through.part) (through.so_far [] (subst (λ cs. StepsAll may table x (marks table cs) []) (sym none) refl));
}

taken_at : {X : Type 0} (xs ys : List X) (i : ℕ) (x y : X) → slice_get xs i ≡ Some x → take (suc i) (slice_set xs i y) ++ ys ≡ take i xs ++ y ∷ ys
taken_at [] ys i x y at = absurd (none-some x at)
taken_at (z ∷ xs) ys zero x y at = refl
taken_at (z ∷ xs) ys (suc i) x y at = ap (λ l. z ∷ l) (taken_at xs ys i x y at)

left_at : {X : Type 0} (xs : List X) (i : ℕ) (x y : X) → slice_get xs i ≡ Some x → drop i xs ≡ x ∷ drop (suc i) (slice_set xs i y)
left_at [] i x y at = absurd (none-some x at)
left_at (z ∷ xs) zero x y at = let same : z ≡ x = search (at, rules) in ap (λ w. w ∷ xs) same
left_at (z ∷ xs) (suc i) x y at = left_at xs i x y at

-- one cell more in its place
pub through_at : (may now : ℕ → Ev → Verdict → Type 0) (table table' : Table) (x : FlowStep) (cells old new others : List Cell) (front : List Mark) (i : ℕ) → Same table table' may now → Takes now table' x i old new others → Through may table x cells (drop i old) front (take i old) → Through may table x cells (drop (i + 1) new) front (take (i + 1) new ++ others)
through_at may now table table' x cells old new others front i same takes through =
    let out : take (i + 1) new ++ others ≡ take i old ++ takes.after ∷ others
    = ap₂ (λ n cs. take n cs ++ others) (add-one i) takes.whole ∙ taken_at old others i takes.before takes.after takes.was in
    let left : drop i old ≡ takes.before ∷ drop (i + 1) new
    = left_at old i takes.before takes.after takes.was ∙ sym (ap₂ (λ n cs. takes.before ∷ drop n cs) (add-one i) takes.whole) in
    through_one may now table table' x cells (drop i old) (drop (i + 1) new) front (take i old) (take (i + 1) new ++ others) takes.before left same through
    (record {
      part = marks_of table' takes.after ++ marks table' others;
      whole = ap (marks table') out ∙ flat_map-append (marks_of table') (take i old) (takes.after ∷ others);
      kind = takes.becomes;
    })

pub through_kept : (may : ℕ → Ev → Verdict → Type 0) (table : Table) (x : FlowStep) (cells left : List Cell) (front : List Mark) (out others : List Cell) → others ≡ [] → Through may table x cells left front (out ++ others) → Through may table x cells left front out
through_kept may table x cells left front out others none through = subst (λ os. Through may table x cells left front os) (ap (λ os. out ++ os) none ∙ append-nil out) through

-- all cells took the step in their places
pub through_end : (may : ℕ → Ev → Verdict → Type 0) (table : Table) (x : FlowStep) (cells left out new : List Cell) → left ≡ [] → out ≡ new → Through may table x cells left [] out → StepsAll may table x (marks table cells) (marks table new)
through_end may table x cells left out new none all through =
    let adds = through_all may table x cells left [] out none through in
    subst (λ os. StepsAll may table x (marks table cells) os) (sym adds.whole ∙ ap (marks table) all) adds.kind

-- what is left takes the step behind the others
pub through_rest : {F : Type 0} (r : Result (List Cell) F) (may now : ℕ → Ev → Verdict → Type 0) (table table' : Table) (x : FlowStep) (cells left out : List Cell) → Same table table' may now → Through may table x cells left [] out → IfOk r (λ new. Adds (StepsAll now table' x (marks table' left)) (marks table' out) (marks table' new)) → IfOk r (λ new. StepsAll may table x (marks table cells) (marks table new))
through_rest (Ok new) may now table table' x cells left out same through added =
    let adds = subst (λ t. Adds (StepsAll now t x (marks t left)) (marks t out) (marks t new)) same.same_table added in
    subst (λ os. StepsAll may table x (marks table cells) os) (sym (adds.whole ∙ ap (λ ms. ms ++ adds.part) through.whole))
    (through.so_far adds.part (all_become_as table may now x (marks table left) adds.part same.weaker adds.kind))
through_rest (Err f) may now table table' x cells left out same through added = tt

pub took : {F : Type 0} (r : Result (Unit {0}) F) (may : ℕ → Ev → Verdict → Type 0) (table : Table) (x : FlowStep) (at : ℕ) (old others : List Cell) (before after : Cell) → slice_get old at ≡ Some before → OnOk r (StepsAll may table x (marks_of table before) (marks_of table after ++ marks table others)) → OnOk r (Takes may table x at old (slice_set old at after) others)
took (Ok u) may table x at old others before after was become = record { before = before; after = after; was = was; whole = refl; becomes = become }
took (Err f) may table x at old others before after was become = tt

-- an event that has met a plugin: what came of it is behind the others, where none was
pub went : (may : ℕ → Ev → Verdict → Type 0) (table : Table) (n skip : ℕ) (cell : Cell) (f e f' : Ev) (sent targets sent' : List ℕ) (others made : List Cell) (ms : List Mark) → cell ≡ c.At skip f sent → cell ≡ c.At 0 e targets → others ≡ [] → Yields (Meets may table n f sent) table false f' sent' others made → marks table made ≡ ms → StepsAll may table (s.Plugin n) (marks_of table cell) ms
went may table n zero cell f e f' sent targets sent' others made ms was is none comes come =
    subst (λ x. StepsAll may table (s.Plugin n) (marks_of table x) ms) (sym was)
    (acted_on may table n f sent ms (subst (Meets may table n f sent) (sym (comes.whole ∙ ap (λ os. marks table os ++ comes.part) none) ∙ come) comes.kind))
went may table n (suc skip) cell f e f' sent targets sent' others made ms was is none comes come = absurd (none-some e (ap event_at (sym was ∙ is)))

-- it stays in its place, and nothing else came of it
pub stayed : (may : ℕ → Ev → Verdict → Type 0) (table : Table) (n skip : ℕ) (cell : Cell) (f e f' : Ev) (sent targets sent' : List ℕ) (others made : List Cell) → cell ≡ c.At skip f sent → cell ≡ c.At 0 e targets → others ≡ [] → Yields (Meets may table n f sent) table true f' sent' others made → StepsAll may table (s.Plugin n) (marks_of table cell) (marks_of table (c.At skip f' sent') ++ marks table made)
stayed may table n zero cell f e f' sent targets sent' others made was is none comes =
    let here = marks_of table (c.At 0 f' sent') in
    let alone : here ≡ here ++ marks table made = sym (append-nil here) ∙ ap (λ os. here ++ marks table os) (sym (comes.whole.0 ∙ none)) in
    subst (λ x. StepsAll may table (s.Plugin n) (marks_of table x) (here ++ marks table made)) (sym was)
    (acted_on may table n f sent (here ++ marks table made) (subst (Meets may table n f sent) (comes.whole.1 ∙ alone) comes.kind))
stayed may table n (suc skip) cell f e f' sent targets sent' others made was is none comes = absurd (none-some e (ap event_at (sym was ∙ is)))

-- a cell that doesn't pass over a step
pub arriving : {F : Type 0} (r : Result (Unit {0}) F) (passes : Bool) (may : ℕ → Ev → Verdict → Type 0) (table : Table) (x : FlowStep) (cell now : Cell) (ms : List Mark) → Passes passes cell now → passes ≡ false → OnOk r ((e : Ev) (targets : List ℕ) → now ≡ c.At 0 e targets → StepsAll may table x (marks_of table now) ms) → OnOk r (StepsAll may table x (marks_of table cell) ms)
arriving (Ok u) true may table x cell now ms (none, is) so become = absurd (subst (λ b. MatchBool b (Unit {0}) ⊥) so tt)
arriving (Ok u) false may table x cell now ms ((e, at), same) so become =
    let w = waits cell e at in
    subst (λ y. StepsAll may table x (marks_of table y) ms) same (become e w.targets (same ∙ w.is))
arriving (Err f) passes may table x cell now ms how so become = tt

-- one that meets a condition
pub tested_on : {F : Type 0} (r : Result (Unit {0}) F) (may : ℕ → Ev → Verdict → Type 0) (table : Table) (x : FlowStep) (n over : ℕ) (cell after : Cell) (others : List Cell) → x ≡ s.Test n over → others ≡ [] → OnOk r ((e : Ev) (targets : List ℕ) → cell ≡ c.At 0 e targets → after ≡ led_cell (table.says n e) n over e targets) → OnOk r ((e : Ev) (targets : List ℕ) → cell ≡ c.At 0 e targets → StepsAll may table x (marks_of table cell) (marks_of table after ++ marks table others))
tested_on (Ok u) may table x n over cell after others is empty led = λ e targets at. subst (λ y. StepsAll may table y (marks_of table cell) (marks_of table after ++ marks table others)) (sym is) (tested may table n over cell after e targets others at (led e targets at) empty)
tested_on (Err f) may table x n over cell after others is empty led = tt

-- whether an event arrives, by how many steps it is to pass over
module _ (cell : Cell) (skip : ℕ) (e : Ev) (targets : List ℕ) (is : cell ≡ c.At skip e targets) where
  pub arrives : skip ≡ 0 → Arrives cell
  arrives none = (e, ap event_at (is ∙ ap (λ n. c.At n e targets) none))
