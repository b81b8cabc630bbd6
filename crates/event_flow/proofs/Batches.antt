-- A batch that goes through the steps one after the other derives what each event does that goes through all of them.
use Rattle.std.proofs.lemmas.List.{drop_more}
use Rattle.std.proofs.lemmas.Grind.{common_steps}
use Rattle.std.specs.Prelude.{◌&&◌}
use Rattle.std.proofs.Common.{append-nil, drop, get_or, arith, ◌<◌, ◌≤◌, ◌≡◌, ℕ, zero, suc, ◌+◌, List, [], ◌∷◌, ◌++◌, length, map, refl, ap, sym, subst, ◌∙◌, append_assoc}
use Rattle.event_tree.specs.Events.{Ev}
use Rattle.condition_eval.specs.declared.truth.Truth.{Truth}
use Rattle.condition_eval.specs.declared.truth.Truth.TheVariants as truth
use Rattle.foreign_parts.specs.declared.filter.Verdict.{Verdict}
use Rattle.event_flow.specs.Flows.{Derived, To, Asked, Flow, Goes, nothing, derives, behind, each, led}
use Rattle.event_flow.specs.Marks.{Mark, At, Did, Used, derived_in, verdicts_in, at_once, dids, led_mark, Acts, Becomes, StepsAll, AllMay, Does, Derives}
use Rattle.event_flow.specs.Steps.{Act, Gives, Asks, Sends, acted, Table, from}
use Rattle.event_flow.specs.declared.step.FlowStep.{FlowStep}
use Rattle.event_flow.specs.declared.step.FlowStep.TheVariants as s

module _ (may : ℕ → Ev → Verdict → Type 0) where
  may_both : (qs rs : List Asked) → AllMay may qs → AllMay may rs → AllMay may (qs ++ rs)
  may_both [] rs none all = all
  may_both (q ∷ qs) rs both all = (both.0, may_both qs rs both.1 all)

  does_behind : (f g : Flow) (vs mid left : List Verdict) (some more : List Derived) → Does may f vs some mid → Does may g mid more left → Does may (behind f g) vs (some ++ more) left
  does_behind f g vs mid left some more first second = record {
    derived = λ i. first.derived i ++ (ap (λ ws. (g ws).derived) first.left_over ∙ second.derived) i;
    asked = may_both (f vs).asked (g (f vs).left).asked first.asked (subst (λ ws. AllMay may (g ws).asked) (sym first.left_over) second.asked);
    left_over = ap (λ ws. (g ws).left) first.left_over ∙ second.left_over;
    enough = ap (λ b. b && (g (f vs).left).enough) first.enough ∙ ap (λ ws. (g ws).enough) first.left_over ∙ second.enough;
  }

  -- what the marks do with these verdicts, where the events among them go on so
  abbrev pub Runs : (ℕ → Goes) → List Mark → List Verdict → List Derived → List Verdict → Type 0
  Runs k [] vs ds left = (ds ≡ []) × (vs ≡ left)
  Runs k (At skip e ∷ ms) vs ds left = (some more : List Derived) × (mid : List Verdict) × (ds ≡ some ++ more) × Does may (k skip e) vs some mid × Runs k ms mid more left
  Runs k (Did d ∷ ms) vs ds left = (more : List Derived) × (ds ≡ d ∷ more) × Runs k ms vs more left
  Runs k (Used v ∷ ms) vs ds left = (ws : List Verdict) × (vs ≡ v ∷ ws) × Runs k ms ws ds left

  -- events in a row, and what stands behind them
  pub record Splits (f : Flow) (k : ℕ → Goes) (ms : List Mark) (vs : List Verdict) (ds : List Derived) (left : List Verdict) : Type 0 where
    pub some : List Derived
    pub more : List Derived
    pub mid : List Verdict
    pub whole : ds ≡ some ++ more
    pub here : Does may f vs some mid
    pub there : Runs k ms mid more left

  runs_each : (k : ℕ → Goes) (es : List Ev) (ms : List Mark) (vs : List Verdict) (ds : List Derived) (left : List Verdict) → Runs k (at_once es ++ ms) vs ds left → Splits (each (k 0) es) k ms vs ds left
  runs_each k [] ms vs ds left runs = record { some = []; more = ds; mid = vs; whole = refl; here = record { derived = refl; asked = tt; left_over = refl; enough = refl }; there = runs }
  runs_each k (e ∷ es) ms vs ds left (some, more, mid, is, here, runs) =
      let rest = runs_each k es ms mid more left runs in
      record {
        some = some ++ rest.some;
        more = rest.more;
        mid = rest.mid;
        whole = is ∙ ap (λ xs. some ++ xs) rest.whole ∙ sym (append_assoc some rest.some rest.more);
        here = does_behind (k 0 e) (each (k 0) es) vs mid rest.mid some rest.some here rest.here;
        there = rest.there;
      }

  -- what was derived, and what stands behind it
  runs_did : (k : ℕ → Goes) (es : List Derived) (ms : List Mark) (vs : List Verdict) (ds : List Derived) (left : List Verdict) → Runs k (dids es ++ ms) vs ds left → (more : List Derived) × (ds ≡ es ++ more) × Runs k ms vs more left
  runs_did k [] ms vs ds left runs = (ds, refl, runs)
  runs_did k (e ∷ es) ms vs ds left (more, is, runs) =
      let (rest, whole, there) = runs_did k es ms vs more left runs in
      (rest, is ∙ ap (λ xs. e ∷ xs) whole, there)

  -- in the place of an event stands what a plugin puts there
  runs_acted : (k : ℕ → Goes) (e : Ev) (act : Act) (part ms : List Mark) (vs : List Verdict) (ds : List Derived) (left : List Verdict) → Acts may e act part → Runs k (part ++ ms) vs ds left → Splits (acted act (k 0) e) k ms vs ds left
  runs_acted k e (Gives es) part ms vs ds left is runs = runs_each k es ms vs ds left (subst (λ p. Runs k (p ++ ms) vs ds left) is runs)
  runs_acted k e (Sends id places) part ms vs ds left is runs =
      let es = map (λ at. To id at e) places in
      let (others, whole, there) = runs_did k es (At 0 e ∷ ms) vs ds left (subst (λ p. Runs k p vs ds left) (ap (λ p. p ++ ms) is ∙ append_assoc (dids es) (At 0 e ∷ []) ms) runs) in
      let (some, more, mid, split, here, rest) = there in
      record {
        some = es ++ some;
        more = more;
        mid = mid;
        whole = whole ∙ ap (λ xs. es ++ xs) split ∙ sym (append_assoc es some more);
        here = does_behind (derives es) (k 0 e) vs vs mid es some (record { derived = refl; asked = tt; left_over = refl; enough = refl }) here;
        there = rest;
      }
  runs_acted k e (Asks n events) part ms vs ds left (v, answers, is) runs =
      let (ws, first, others) = subst (λ p. Runs k (p ++ ms) vs ds left) is runs in
      let rest = runs_each k (events v) ms ws ds left others in
      record {
        some = rest.some;
        more = rest.more;
        mid = rest.mid;
        whole = rest.whole;
        here = subst (λ us. Does may (acted (Asks n events) (k 0) e) us rest.some rest.mid) (sym first) (record { derived = rest.here.derived; asked = (answers, rest.here.asked); left_over = rest.here.left_over; enough = rest.here.enough });
        there = rest.there;
      }

  runs_led : (k : ℕ → Goes) (over : ℕ) (id : List ℕ) (e : Ev) (t : Truth) (ms : List Mark) (vs : List Verdict) (ds : List Derived) (left : List Verdict) → Runs k (led_mark over id e t ∷ ms) vs ds left → Splits (led id t (k 0) (k over) e) k ms vs ds left
  runs_led k over id e truth.Yes ms vs ds left (some, more, mid, is, here, runs) = record { some = some; more = more; mid = mid; whole = is; here = here; there = runs }
  runs_led k over id e truth.No ms vs ds left (some, more, mid, is, here, runs) = record { some = some; more = more; mid = mid; whole = is; here = here; there = runs }
  runs_led k over id e (truth.Wrong reason) ms vs ds left (more, is, runs) = record { some = _ ∷ []; more = more; mid = vs; whole = is; here = record { derived = refl; asked = tt; left_over = refl; enough = refl }; there = runs }

  module _ (table : Table) (goes : Goes) (ss : List FlowStep) where
    abbrev behind_it : ℕ → Goes
    behind_it skip = from table ss skip goes

    abbrev before_it : FlowStep → ℕ → Goes
    before_it x skip = from table (x ∷ ss) skip goes

    abbrev Before : FlowStep → List Mark → List Mark → Type 0
    Before x ms more = (vs : List Verdict) (ds : List Derived) (left : List Verdict) → Runs behind_it more vs ds left → Runs (before_it x) ms vs ds left

    runs_mark : (x : FlowStep) (m : Mark) (part more ms : List Mark) (vs : List Verdict) (ds : List Derived) (left : List Verdict) → Becomes may table x m part → Before x ms more → Runs behind_it (part ++ more) vs ds left → Runs (before_it x) (m ∷ ms) vs ds left
    runs_mark x (Did d) part more ms vs ds left is others runs =
        let (rest, whole, there) = subst (λ p. Runs behind_it (p ++ more) vs ds left) is runs in
        (rest, whole, others vs rest left there)
    runs_mark x (Used v) part more ms vs ds left is others runs =
        let (ws, whole, there) = subst (λ p. Runs behind_it (p ++ more) vs ds left) is runs in
        (ws, whole, others ws ds left there)
    runs_mark x (At (suc skip) e) part more ms vs ds left is others runs =
        let (some, rest, mid, whole, here, there) = subst (λ p. Runs behind_it (p ++ more) vs ds left) is runs in
        (some, rest, mid, whole, here, others mid rest left there)
    runs_mark (s.Plugin n) (At zero e) part more ms vs ds left is others runs =
        let r = runs_acted behind_it e (table.acts n e) part more vs ds left is runs in
        (r.some, r.more, r.mid, r.whole, r.here, others r.mid r.more left r.there)
    runs_mark (s.Test n over) (At zero e) part more ms vs ds left is others runs =
        let r = runs_led behind_it over (table.ids n) e (table.says n e) more vs ds left (subst (λ p. Runs behind_it (p ++ more) vs ds left) is runs) in
        (r.some, r.more, r.mid, r.whole, r.here, others r.mid r.more left r.there)
    runs_mark (s.Skip over) (At zero e) part more ms vs ds left is others runs =
        let (some, rest, mid, whole, here, there) = subst (λ p. Runs behind_it (p ++ more) vs ds left) is runs in
        (some, rest, mid, whole, here, others mid rest left there)

    -- one step on
    runs_step : (x : FlowStep) (ms out : List Mark) (vs : List Verdict) (ds : List Derived) (left : List Verdict) → StepsAll may table x ms out → Runs behind_it out vs ds left → Runs (before_it x) ms vs ds left
    runs_step x [] out vs ds left all runs = subst (λ os. Runs behind_it os vs ds left) all runs
    runs_step x (m ∷ ms) out vs ds left (part, more, is, becomes, all) runs =
        runs_mark x m part more ms vs ds left becomes (λ ws es end. runs_step x ms more ws es end all) (subst (λ os. Runs behind_it os vs ds left) is runs)

  -- a batch that begins: each event meets the first step
  begins : (k : ℕ → Goes) (es : List Ev) (vs : List Verdict) (ds : List Derived) (left : List Verdict) → Runs k (at_once es) vs ds left → Does may (each (k 0) es) vs ds left
  begins k es vs ds left runs =
      let r = runs_each k es [] vs ds left (subst (λ ms. Runs k ms vs ds left) (sym (append-nil (at_once es))) runs) in
      record {
        derived = r.here.derived ∙ sym (r.whole ∙ ap (λ xs. r.some ++ xs) r.there.0 ∙ append-nil r.some);
        asked = r.here.asked;
        left_over = r.here.left_over ∙ r.there.1;
        enough = r.here.enough;
      }

  -- a batch behind the last step
  ends : (ms : List Mark) (rest : List Verdict) → Runs (λ skip e. nothing) ms (verdicts_in ms ++ rest) (derived_in ms) rest
  ends [] rest = (refl, refl)
  ends (At skip e ∷ ms) rest = ([], derived_in ms, verdicts_in ms ++ rest, refl, record { derived = refl; asked = tt; left_over = refl; enough = refl }, ends ms rest)
  ends (Did d ∷ ms) rest = (derived_in ms, refl, ends ms rest)
  ends (Used v ∷ ms) rest = (verdicts_in ms ++ rest, refl, ends ms rest)

abbrev pub Weaker : (ℕ → Ev → Verdict → Type 0) → (ℕ → Ev → Verdict → Type 0) → Type 0
Weaker new old = (k : ℕ) (e : Ev) (v : Verdict) → new k e v → old k e v

acts_as : (may now : ℕ → Ev → Verdict → Type 0) (e : Ev) (act : Act) (part : List Mark) → Weaker now may → Acts now e act part → Acts may e act part
acts_as may now e (Gives es) part weaker is = is
acts_as may now e (Sends id places) part weaker is = is
acts_as may now e (Asks k events) part weaker (v, answers, is) = (v, weaker k e v answers, is)

-- what a step does by a kit that means the same
becomes_as : (table : Table) (may now : ℕ → Ev → Verdict → Type 0) (x : FlowStep) (m : Mark) (part : List Mark) → Weaker now may → Becomes now table x m part → Becomes may table x m part
becomes_as table may now x (Did d) part weaker is = is
becomes_as table may now x (Used v) part weaker is = is
becomes_as table may now x (At (suc skip) e) part weaker is = is
becomes_as table may now (s.Plugin n) (At zero e) part weaker is = acts_as may now e (table.acts n e) part weaker is
becomes_as table may now (s.Test n over) (At zero e) part weaker is = is
becomes_as table may now (s.Skip over) (At zero e) part weaker is = is

pub all_become_as : (table : Table) (may now : ℕ → Ev → Verdict → Type 0) (x : FlowStep) (ms out : List Mark) → Weaker now may → StepsAll now table x ms out → StepsAll may table x ms out
all_become_as table may now x [] out weaker all = all
all_become_as table may now x (m ∷ ms) out weaker (part, more, whole, is, all) = (part, more, whole, becomes_as table may now x m part weaker is, all_become_as table may now x ms more weaker all)

module _ (may : ℕ → Ev → Verdict → Type 0) (table : Table) (x : FlowStep) where
  -- marks in front of others
  pub all_behind : (ms ns part more : List Mark) → StepsAll may table x ms part → StepsAll may table x ns more → StepsAll may table x (ms ++ ns) (part ++ more)
  all_behind [] ns part more none all = subst (λ p. StepsAll may table x ns (p ++ more)) (sym none) all
  all_behind (m ∷ ms) ns part more (here, rest, whole, becomes, all) others =
      (here, rest ++ more, ap (λ p. p ++ more) whole ∙ append_assoc here rest more, becomes, all_behind ms ns rest more all others)

  -- what was derived stays
  pub dids_stay : (ds : List Derived) → StepsAll may table x (dids ds) (dids ds)
  dids_stay [] = refl
  dids_stay (d ∷ ds) = (Did d ∷ [], dids ds, refl, refl, dids_stay ds)

  pub one_becomes : (m : Mark) (part : List Mark) → Becomes may table x m part → StepsAll may table x (m ∷ []) part
  one_becomes m part becomes = (part, [], sym (append-nil part), becomes, refl)

-- a kit that means the same
pub record Same (table now : Table) (may may' : ℕ → Ev → Verdict → Type 0) : Type 0 where
  pub same_table : now ≡ table
  pub weaker : Weaker may' may

pub same_first : (table : Table) (may : ℕ → Ev → Verdict → Type 0) → Same table table may may
same_first table may = record { same_table = refl; weaker = λ k e v answers. answers }

pub same_then : (table now new : Table) (may may' may'' : ℕ → Ev → Verdict → Type 0) → Same table now may may' → new ≡ now → Weaker may'' may' → Same table new may may''
same_then table now new may may' may'' same is weaker = record { same_table = is ∙ same.same_table; weaker = λ k e v answers. same.weaker k e v (weaker k e v answers) }

-- the marks are those of the first i steps
pub record Running (table : Table) (may : ℕ → Ev → Verdict → Type 0) (steps : List FlowStep) (events : List Ev) (ms : List Mark) (i : ℕ) : Type 0 where
  pub runs : (vs : List Verdict) (ds : List Derived) (left : List Verdict) → Runs may (λ skip. from table (drop i steps) skip (λ e. nothing)) ms vs ds left → Does may (each (from table steps 0 (λ e. nothing)) events) vs ds left

pub running_starts : (table : Table) (may : ℕ → Ev → Verdict → Type 0) (steps : List FlowStep) (events : List Ev) (ms : List Mark) → ms ≡ at_once events → Running table may steps events ms 0
running_starts table may steps events ms is = record {
  runs = λ vs ds left runs. begins may (λ skip. from table steps skip (λ e. nothing)) events vs ds left (subst (λ os. Runs may (λ skip. from table steps skip (λ e. nothing)) os vs ds left) is runs);
}

pub running_one : (table now : Table) (may may' : ℕ → Ev → Verdict → Type 0) (steps : List FlowStep) (events : List Ev) (ms out : Table → List Mark) (i : ℕ) (d : FlowStep) → i < length steps → Same table now may may' → Running table may steps events (ms table) i → StepsAll may' now (get_or steps i d) (ms now) (out now) → Running table may steps events (out table) (i + 1)
running_one table now may may' steps events ms out i d below same running become =
    let all : StepsAll may table (get_or steps i d) (ms table) (out table)
    = all_become_as table may may' (get_or steps i d) (ms table) (out table) same.weaker (subst (λ t. StepsAll may' t (get_or steps i d) (ms t) (out t)) same.same_table become) in
    record {
      runs = λ vs ds left runs. running.runs vs ds left
          (subst (λ ss. Runs may (λ skip. from table ss skip (λ e. nothing)) (ms table) vs ds left) (sym (drop_more steps i d below))
          (runs_step may table (λ e. nothing) (drop (i + 1) steps) (get_or steps i d) (ms table) (out table) vs ds left all runs));
    }

pub running_ends : (table : Table) (may : ℕ → Ev → Verdict → Type 0) (steps : List FlowStep) (events : List Ev) (ms : List Mark) (i : ℕ) → length steps ≤ i → Running table may steps events ms i → Derives may (each (from table steps 0 (λ e. nothing)) events) ms
running_ends table may steps events ms i end running =
    let none : drop i steps ≡ [] = grind (arith, common_steps) in
    record {
      does = λ rest. running.runs (verdicts_in ms ++ rest) (derived_in ms) rest (subst (λ ss. Runs may (λ skip. from table ss skip (λ e. nothing)) ms (verdicts_in ms ++ rest) (derived_in ms) rest) (sym none) (ends may ms rest));
    }
