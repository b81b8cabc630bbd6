-- What came of a batch, cell by cell.
use Rattle.std.proofs.Common.{◌≡◌, ℕ, List, [], ◌∷◌, ◌++◌, refl, sym, ap, subst, ◌∙◌, append_assoc, append-nil, Result, Ok, Err, IfOk, OnOk}
use Rattle.std.proofs.lemmas.List.{map-append}
use Rattle.event_tree.specs.Events.{Ev}
use Rattle.condition_eval.specs.declared.truth.Reason.{Reason}
use Rattle.event_tree.specs.declared.lists.DeadPart.{DeadPart}
use Rattle.config_tree.specs.declared.tree.Config.{Config}
use Rattle.foreign_parts.specs.declared.filter.Verdict.{Verdict}
use Rattle.event_flow.specs.Flows.{Derived, To, Dead, each, wrong_letter}
use Rattle.event_flow.specs.Marks.{Mark, At, Did, Used, Does, Derives, derived_in, verdicts_in, dids, marks, marks_of, outcome_marks, sent_to}
use Rattle.event_flow.specs.Laying.{AreStepsOf, IsTableOf}
use Rattle.event_flow.specs.Meaning.{Makes, dead_in, flow_of}
use Rattle.event_flow.specs.Places.{Draws}
use Rattle.event_flow.specs.Steps.{Table}
use Rattle.event_flow.specs.declared.cell.Cell.{Cell}
use Rattle.event_flow.specs.declared.cell.Cell.TheVariants as c
use Rattle.event_flow.specs.declared.cell.Outcome.{Outcome}
use Rattle.event_flow.specs.declared.cell.Outcome.TheVariants as o
use Rattle.event_flow.specs.declared.step.FlowStep.{FlowStep}
use Rattle.plugin_graph.specs.Passages.{IsPassageOf, passage_of, sent_of, with_marks}
use Rattle.plugin_graph.specs.declared.passage.Passage.{Passage}
use Rattle.plugin_graph.specs.declared.passage.Sent.{Sent}

derived_append : (ms ns : List Mark) → derived_in (ms ++ ns) ≡ derived_in ms ++ derived_in ns
derived_append [] ns = refl
derived_append (At skip e ∷ ms) ns = derived_append ms ns
derived_append (Did d ∷ ms) ns = ap (λ ds. d ∷ ds) (derived_append ms ns)
derived_append (Used v ∷ ms) ns = derived_append ms ns

verdicts_append : (ms ns : List Mark) → verdicts_in (ms ++ ns) ≡ verdicts_in ms ++ verdicts_in ns
verdicts_append [] ns = refl
verdicts_append (At skip e ∷ ms) ns = verdicts_append ms ns
verdicts_append (Did d ∷ ms) ns = verdicts_append ms ns
verdicts_append (Used v ∷ ms) ns = ap (λ vs. v ∷ vs) (verdicts_append ms ns)

sent_append : (ds es : List Derived) → sent_of (ds ++ es) ≡ sent_of ds ++ sent_of es
sent_append [] es = refl
sent_append (To id at e ∷ ds) es = ap (λ xs. record { target = record { output = id; place = at }; event = e } ∷ xs) (sent_append ds es)
sent_append (Dead d ∷ ds) es = sent_append ds es

dead_append : (ds es : List Derived) → dead_in (ds ++ es) ≡ dead_in ds ++ dead_in es
dead_append [] es = refl
dead_append (To id at e ∷ ds) es = dead_append ds es
dead_append (Dead d ∷ ds) es = ap (λ xs. d ∷ xs) (dead_append ds es)

both : (p : Passage) (ms ns : List Mark) → with_marks (with_marks p ms) ns ≡ with_marks p (ms ++ ns)
both p ms ns =
    let ds = derived_in ms in
    let es = derived_in ns in
    let sent = append_assoc p.sent (sent_of ds) (sent_of es) ∙ ap (λ xs. p.sent ++ xs) (sym (ap sent_of (derived_append ms ns) ∙ sent_append ds es)) in
    let dead = append_assoc p.dead (dead_in ds) (dead_in es) ∙ ap (λ xs. p.dead ++ xs) (sym (ap dead_in (derived_append ms ns) ∙ dead_append ds es)) in
    let verdicts = append_assoc p.verdicts (verdicts_in ms) (verdicts_in ns) ∙ ap (λ xs. p.verdicts ++ xs) (sym (verdicts_append ms ns)) in
    λ i. record { sent = sent i; dead = dead i; verdicts = verdicts i }

no_more : (p : Passage) → with_marks p [] ≡ p
no_more p = λ i. record { sent = append-nil p.sent i; dead = append-nil p.dead i; verdicts = append-nil p.verdicts i }

-- what came so far, and what comes of the cells that are left, comes of all
module _ (table : Table) (all left : List Cell) (now : Passage) (so_far : with_marks now (marks table left) ≡ passage_of (marks table all)) where
  pub next_cell : (rest : List Cell) (x : Cell) (new : Passage) → left ≡ x ∷ rest → new ≡ with_marks now (marks_of table x) → with_marks new (marks table rest) ≡ passage_of (marks table all)
  next_cell rest x new is here = ap (λ p. with_marks p (marks table rest)) here ∙ both now (marks_of table x) (marks table rest) ∙ ap (λ cs. with_marks now (marks table cs)) (sym is) ∙ so_far

  pub last_cell : left ≡ [] → now ≡ passage_of (marks table all)
  last_cell none = sym (no_more now) ∙ ap (λ cs. with_marks now (marks table cs)) (sym none) ∙ so_far

derived_dids : (ds : List Derived) (ms : List Mark) → derived_in (dids ds ++ ms) ≡ ds ++ derived_in ms
derived_dids [] ms = refl
derived_dids (d ∷ ds) ms = ap (λ es. d ∷ es) (derived_dids ds ms)

verdicts_dids : (ds : List Derived) (ms : List Mark) → verdicts_in (dids ds ++ ms) ≡ verdicts_in ms
verdicts_dids [] ms = refl
verdicts_dids (d ∷ ds) ms = verdicts_dids ds ms

module _ (table : Table) (e : Ev) where
  dead_sent : (ts : List ℕ) (ds : List Derived) → dead_in (sent_to table ts e ++ ds) ≡ dead_in ds
  dead_sent [] ds = refl
  dead_sent (t ∷ ts) ds = dead_sent ts ds

  -- what was sent, and what else the marks say
  sent_marks : (p : Passage) (ts : List ℕ) (ms : List Mark) → with_marks p (dids (sent_to table ts e) ++ ms) ≡ record {
    sent = (p.sent ++ sent_of (sent_to table ts e)) ++ sent_of (derived_in ms);
    dead = p.dead ++ dead_in (derived_in ms);
    verdicts = p.verdicts ++ verdicts_in ms;
  }
  sent_marks p ts ms =
      let ds = sent_to table ts e in
      let sent = ap (λ xs. p.sent ++ xs) (ap sent_of (derived_dids ds ms) ∙ sent_append ds (derived_in ms)) ∙ sym (append_assoc p.sent (sent_of ds) (sent_of (derived_in ms))) in
      let dead = ap (λ xs. p.dead ++ xs) (ap dead_in (derived_dids ds ms) ∙ dead_sent ts (derived_in ms)) in
      let verdicts = ap (λ xs. p.verdicts ++ xs) (verdicts_dids ds ms) in
      λ i. record { sent = sent i; dead = dead i; verdicts = verdicts i }

  only_sent : (p : Passage) (ts : List ℕ) (to : List Sent) (ms : List Mark) → derived_in ms ≡ [] → verdicts_in ms ≡ [] → to ≡ p.sent ++ sent_of (sent_to table ts e) → record { sent = to; dead = p.dead; verdicts = p.verdicts } ≡ with_marks p (dids (sent_to table ts e) ++ ms)
  only_sent p ts to ms none unused is =
      let ds = sent_to table ts e in
      let sent = is ∙ sym (append-nil (p.sent ++ sent_of ds)) ∙ ap (λ xs. (p.sent ++ sent_of ds) ++ sent_of xs) (sym none) in
      let dead = sym (append-nil p.dead) ∙ ap (λ xs. p.dead ++ dead_in xs) (sym none) in
      let verdicts = sym (append-nil p.verdicts) ∙ ap (λ xs. p.verdicts ++ xs) (sym unused) in
      (λ i. record { sent = sent i; dead = dead i; verdicts = verdicts i }) ∙ sym (sent_marks p ts ms)

  pub cell_at : {F : Type 0} (r : Result (Unit {0}) F) (p : Passage) (ts : List ℕ) (to : List Sent) (skip : ℕ) → OnOk r (to ≡ p.sent ++ sent_of (sent_to table ts e)) → OnOk r (record { sent = to; dead = p.dead; verdicts = p.verdicts } ≡ with_marks p (dids (sent_to table ts e) ++ At skip e ∷ []))
  cell_at (Ok u) p ts to skip is = only_sent p ts to (At skip e ∷ []) refl refl is
  cell_at (Err fault) p ts to skip is = tt

  pub cell_gone : {F : Type 0} (r : Result (Unit {0}) F) (p : Passage) (ts : List ℕ) (to : List Sent) → OnOk r (to ≡ p.sent ++ sent_of (sent_to table ts e)) → OnOk r (record { sent = to; dead = p.dead; verdicts = p.verdicts } ≡ with_marks p (dids (sent_to table ts e)))
  cell_gone (Ok u) p ts to is = only_sent p ts to [] refl refl is ∙ ap (with_marks p) (append-nil (dids (sent_to table ts e)))
  cell_gone (Err fault) p ts to is = tt

  pub cell_died : {F : Type 0} (r : Result (Unit {0}) F) (p : Passage) (ts : List ℕ) (to : List Sent) (letters : List DeadPart) (d : DeadPart) → to ≡ p.sent ++ sent_of (sent_to table ts e) → OnOk r (letters ≡ p.dead ++ d ∷ []) → OnOk r (record { sent = to; dead = letters; verdicts = p.verdicts } ≡ with_marks p (dids (sent_to table ts e) ++ Did (Dead d) ∷ []))
  cell_died (Ok u) p ts to letters d sent dead =
      let all = sent ∙ sym (append-nil (p.sent ++ sent_of (sent_to table ts e))) in
      (λ i. record { sent = all i; dead = dead i; verdicts = sym (append-nil p.verdicts) i }) ∙ sym (sent_marks p ts (Did (Dead d) ∷ []))
  cell_died (Err fault) p ts to letters d sent dead = tt

pub cell_used : {F : Type 0} (r : Result (Unit {0}) F) (p : Passage) (verdicts : List Verdict) (v : Verdict) → OnOk r (verdicts ≡ p.verdicts ++ v ∷ []) → OnOk r (record { sent = p.sent; dead = p.dead; verdicts = verdicts } ≡ with_marks p (Used v ∷ []))
cell_used (Ok u) p verdicts v is = λ i. record { sent = sym (append-nil p.sent) i; dead = sym (append-nil p.dead) i; verdicts = is i }
cell_used (Err fault) p verdicts v is = tt

module _ (table : Table) {F : Type 0} (r : Result (Unit {0}) F) (p : Passage) (x : Outcome) where
  -- an event that is moved out of an outcome, and its targets as a slice
  pub gone_added : (e taken : Ev) (ts given : List ℕ) (to : List Sent) → x ≡ o.Consumed e ts → taken ≡ e → given ≡ ts → OnOk r (to ≡ p.sent ++ sent_of (sent_to table given taken)) → OnOk r (record { sent = to; dead = p.dead; verdicts = p.verdicts } ≡ with_marks p (outcome_marks table x))
  gone_added e taken ts given to is moved lent sent =
      subst (λ y. OnOk r (record { sent = to; dead = p.dead; verdicts = p.verdicts } ≡ with_marks p (outcome_marks table y))) (sym is)
      (cell_gone table e r p ts to (subst (λ d. OnOk r (to ≡ p.sent ++ sent_of (sent_to table ts d))) moved (subst (λ us. OnOk r (to ≡ p.sent ++ sent_of (sent_to table us taken))) lent sent)))

  pub died_added : (n : ℕ) (reason : Reason) (e taken : Ev) (ts given : List ℕ) (to : List Sent) (letters : List DeadPart) (d : DeadPart) → x ≡ o.Dead n reason e ts → taken ≡ e → given ≡ ts → to ≡ p.sent ++ sent_of (sent_to table given e) → d ≡ wrong_letter (table.ids n) reason taken → OnOk r (letters ≡ p.dead ++ d ∷ []) → OnOk r (record { sent = to; dead = letters; verdicts = p.verdicts } ≡ with_marks p (outcome_marks table x))
  died_added n reason e taken ts given to letters d is moved lent sent letter added =
      let whole = letter ∙ ap (wrong_letter (table.ids n) reason) moved in
      subst (λ y. OnOk r (record { sent = to; dead = letters; verdicts = p.verdicts } ≡ with_marks p (outcome_marks table y))) (sym is)
      (cell_died table e r p ts to letters (wrong_letter (table.ids n) reason e) (sent ∙ ap (λ us. p.sent ++ sent_of (sent_to table us e)) lent) (subst (λ y. OnOk r (letters ≡ p.dead ++ y ∷ [])) whole added))

pub at_added : (table : Table) {F : Type 0} (r : Result (Unit {0}) F) (p : Passage) (x : Cell) (skip : ℕ) (e : Ev) (ts given : List ℕ) (to : List Sent) → x ≡ c.At skip e ts → given ≡ ts → OnOk r (to ≡ p.sent ++ sent_of (sent_to table given e)) → OnOk r (record { sent = to; dead = p.dead; verdicts = p.verdicts } ≡ with_marks p (marks_of table x))
at_added table r p x skip e ts given to is lent sent =
    subst (λ y. OnOk r (record { sent = to; dead = p.dead; verdicts = p.verdicts } ≡ with_marks p (marks_of table y))) (sym is)
    (cell_at table e r p ts to skip (subst (λ us. OnOk r (to ≡ p.sent ++ sent_of (sent_to table us e))) lent sent))

-- the last target, behind the others
pub sent_last : (table : Table) (e : Ev) {F : Type 0} (r : Result (Unit {0}) F) (others : List ℕ) (last : ℕ) (all : List ℕ) (old mid new : List Sent) → all ≡ others ++ last ∷ [] → mid ≡ old ++ sent_of (sent_to table others e) → OnOk r (new ≡ mid ++ sent_of (sent_to table (last ∷ []) e)) → OnOk r (new ≡ old ++ sent_of (sent_to table all e))
sent_last table e (Ok u) others last all old mid new whole front is =
    let ds = sent_to table others e in
    let es = sent_to table (last ∷ []) e in
    is ∙ ap (λ xs. xs ++ sent_of es) front ∙ append_assoc old (sent_of ds) (sent_of es)
    ∙ ap (λ xs. old ++ xs) (sym (ap (λ ts. sent_of (sent_to table ts e)) whole ∙ ap sent_of (map-append (λ n. To (table.targets n).0 (table.targets n).1 e) others (last ∷ [])) ∙ sent_append ds es))
sent_last table e (Err fault) others last all old mid new whole front is = tt

-- the passage of cells is that of the configuration
pub passed : (may : ℕ → Ev → Verdict → Type 0) (makes : Makes) (config : Config) (draws : Draws) (es : List Ev) (ms : List Mark) (p : Passage) → p ≡ passage_of ms → Derives may (each (flow_of makes config draws) es) ms → IsPassageOf may makes config draws es p
passed may makes config draws es ms p is ran =
    let does = subst (λ vs. Does may (each (flow_of makes config draws) es) vs (derived_in ms) []) (append-nil (verdicts_in ms)) (ran.does []) in
    let whole : IsPassageOf may makes config draws es (passage_of ms) = record {
      sent = ap sent_of (sym does.derived);
      dead = ap dead_in (sym does.derived);
      exactly = record { enough = does.enough; none_left = does.left_over };
      may_be = does.asked;
    } in
    subst (IsPassageOf may makes config draws es) (sym is) whole

-- the same of a kit that does after a batch what it did before
pub run_passed : {F : Type 0} (r : Result Passage F) (may : ℕ → Ev → Verdict → Type 0) (makes : Makes) (before after : Table) (cells : List Cell) (es : List Ev) (steps lent : List FlowStep) → lent ≡ steps → after ≡ before → IfOk r (λ p. p ≡ passage_of (marks after cells))
    → ((makes : Makes) (config : Config) (draws : Draws) → AreStepsOf config lent → IsTableOf makes config draws before → Derives may (each (flow_of makes config draws) es) (marks before cells))
    → IfOk r (λ p. (config : Config) (draws : Draws) → AreStepsOf config steps → IsTableOf makes config draws before → IsPassageOf may makes config draws es p)
run_passed (Ok p) may makes before after cells es steps lent are same is ran = λ config draws laid has.
    passed may makes config draws es (marks before cells) p (is ∙ ap (λ t. passage_of (marks t cells)) same) (ran makes config draws (subst (AreStepsOf config) (sym are) laid) has)
run_passed (Err fault) may makes before after cells es steps lent are same is ran = tt
