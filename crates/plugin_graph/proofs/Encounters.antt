-- What is left of an event that meets a plugin.
use Rattle.std.proofs.lemmas.Grind.{flat_map-append}
use Rattle.std.proofs.Common.{◌≡◌, ℕ, List, [], ◌∷◌, ◌++◌, map, refl, sym, ap, ap₂, subst, ◌∙◌, append-nil, append_assoc, Bool, false, Option, Some, Result, Ok, Err, IfOk, OnOk}
use Rattle.event_tree.specs.Events.{Ev}
use Rattle.foreign_parts.specs.declared.filter.Verdict.{Verdict}
use Rattle.event_flow.specs.Marks.{Used, Came, Yields, at_once, dids, marks, marks_of, sent_to}
use Rattle.event_flow.specs.Steps.{Table}
use Rattle.event_flow.specs.declared.cell.Cell.{Cell}
use Rattle.event_flow.specs.declared.cell.Cell.TheVariants as c
use Rattle.event_flow.specs.declared.cell.Outcome.TheVariants as o
use Rattle.event_flow.proofs.Cells.{started_marks}
use Rattle.plugin_graph.specs.Meetings.{Answered, Meeting, MayAnswer, filter_act}
use Rattle.built_plugins.specs.Makes.{applied, optioned}
use Rattle.built_plugins.specs.declared.boxed.BoxedFilter.{BoxedFilter}
use Rattle.built_plugins.specs.declared.built.BuiltFilter.{BuiltFilter}
use Rattle.built_plugins.specs.declared.filter.Filter.{Filter}
use Rattle.built_plugins.specs.declared.filter.Filter.TheVariants as f

-- one cell more
pub one_cell : (table : Table) (old new : List Cell) (x : Cell) → new ≡ old ++ x ∷ [] → marks table new ≡ marks table old ++ marks_of table x
one_cell table old new x is = ap (marks table) is ∙ flat_map-append (marks_of table) old (x ∷ []) ∙ ap (λ ms. marks table old ++ ms) (append-nil (marks_of table x))

-- events more
pub more_events : (table : Table) (old new : List Cell) (es : List Ev) → new ≡ old ++ map (λ e. c.At 0 e []) es → marks table new ≡ marks table old ++ at_once es
more_events table old new es is = ap (marks table) is ∙ flat_map-append (marks_of table) old (map (λ e. c.At 0 e []) es) ∙ ap (λ ms. marks table old ++ ms) (started_marks table es)

module _ (old : List Cell) (e : Ev) (targets : List ℕ) where
  pub left_nothing : targets ≡ [] → (table : Table) → marks table old ≡ marks table old ++ dids (sent_to table targets e)
  left_nothing none table = sym (append-nil (marks table old)) ∙ ap (λ ts. marks table old ++ dids (sent_to table ts e)) (sym none)

  pub left_behind : {F : Type 0} (r : Result (Unit {0}) F) (new : List Cell) → OnOk r (new ≡ old ++ c.Came (o.Consumed e targets) ∷ []) → OnOk r ((table : Table) → marks table new ≡ marks table old ++ dids (sent_to table targets e))
  left_behind (Ok u) new is = λ table. one_cell table old new (c.Came (o.Consumed e targets)) is
  left_behind (Err fault) new is = tt

  module _ (mid : List Cell) (left : (table : Table) → marks table mid ≡ marks table old ++ dids (sent_to table targets e)) where
    -- events that go on behind what was left
    pub built_met : (x : BuiltFilter) (es : List Ev) (new : List Cell) (e' : Ev) (targets' : List ℕ) → es ≡ (applied x e).events → new ≡ mid ++ map (λ e. c.At 0 e []) es → (table : Table) → Came table false e' targets' old new (dids (sent_to table targets e) ++ at_once (applied x e).events)
    built_met x es new e' targets' made is table =
        more_events table mid new es is ∙ ap₂ (λ ms xs. ms ++ at_once xs) (left table) made ∙ append_assoc (marks table old) (dids (sent_to table targets e)) (at_once (applied x e).events)

    pub boxed_met : {F : Type 0} (r : Result (Unit {0}) F) (may : Verdict → Type 0) (b : BoxedFilter) (v : Verdict) (es : List Ev) (asked new : List Cell) → may v → es ≡ optioned b v → asked ≡ mid ++ c.Came (o.Verdict v) ∷ [] → OnOk r (new ≡ asked ++ map (λ e. c.At 0 e []) es) → OnOk r (Answered may b e targets old new)
    boxed_met (Ok u) may b v es asked new may_be made used is = record {
      verdict = v;
      may_be = may_be;
      seen = λ table.
          more_events table asked new es is ∙ ap₂ (λ ms xs. ms ++ at_once xs) (one_cell table mid asked (c.Came (o.Verdict v)) used) made
          ∙ append_assoc (marks table mid) (Used v ∷ []) (at_once (optioned b v))
          ∙ ap (λ ms. ms ++ Used v ∷ at_once (optioned b v)) (left table);
    }
    boxed_met (Err fault) may b v es asked new may_be made used is = tt

module _ {X : Type 0} (may : X → Ev → Verdict → Type 0) (plugged : Option (X)) (e : Ev) (targets : List ℕ) (e' : Ev) (targets' : List ℕ) (old new : List Cell) where
  abbrev pub Meets_it : Filter → Bool → Type 0
  Meets_it x stays = (table : Table) (k : ℕ) → Yields (Meeting (λ j d u. MayAnswer may plugged d u) (filter_act k x e) table e targets) table stays e' targets' old new

  pub built_meets : {F : Type 0} (r : Result Bool F) (x : BuiltFilter) → IfOk r (λ stays. (table : Table) → Came table stays e' targets' old new (dids (sent_to table targets e) ++ at_once (applied x e).events)) → IfOk r (Meets_it (f.Built x))
  built_meets (Ok stays) x seen = λ table k. record {
    part = dids (sent_to table targets e) ++ at_once (applied x e).events;
    whole = seen table;
    kind = (at_once (applied x e).events, refl, refl);
  }
  built_meets (Err fault) x seen = tt

  pub boxed_meets : (b : BoxedFilter) (p : X) → plugged ≡ Some p → Answered (may p e) b e targets old new → Meets_it (f.Boxed b) false
  boxed_meets b p is answered = λ table k. record {
    part = dids (sent_to table targets e) ++ Used answered.verdict ∷ at_once (optioned b answered.verdict);
    whole = answered.seen table ∙ append_assoc (marks table old) (dids (sent_to table targets e)) (Used answered.verdict ∷ at_once (optioned b answered.verdict));
    kind = (
      Used answered.verdict ∷ at_once (optioned b answered.verdict),
      (answered.verdict, subst (λ q. MayAnswer may q e answered.verdict) (sym is) answered.may_be, refl),
      refl,
    );
  }
