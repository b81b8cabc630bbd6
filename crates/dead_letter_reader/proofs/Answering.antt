-- The events of parcels by their answers, as a parcel is sent and as an answer comes.
use Rattle.std.proofs.Common.{◌≡◌, inl, inr, suc, true, false, List, [], ◌∷◌, ◌++◌, length, Option, Some, None, refl, sym, ap, ◌∙◌, arith}
use Rattle.std.proofs.lemmas.Bool.{cond-true, cond-false, cases_Bool}
use Rattle.std.proofs.lemmas.List.{append_assoc, append-nil}
use Rattle.event_tree.specs.Events.{Ev}
use Rattle.pipeline_bus.specs.Parcels.{filled, is_last, with_events}
use Rattle.pipeline_bus.proofs.Numbers.{counted_behind}
use Rattle.pipeline_bus.specs.declared.parcel.Parcel.{Parcel}
use Rattle.pipeline_bus.specs.declared.parcel.Answer.{Answer}
use Rattle.pipeline_bus.specs.declared.parcel.Heard.{Heard}
use Rattle.dead_letter_reader.specs.Parcels.{by_answers}

pub filled_one : (p : Parcel) → is_last p ≡ false → filled p ≡ 1
filled_one p is = cond-false (is_last p) 0 1 is

pub filled_none : (p : Parcel) → is_last p ≡ true → filled p ≡ 0
filled_none p is = cond-true (is_last p) 0 1 is

no_parcels : with_events [] ≡ 0
unfolding with_events
no_parcels = refl

module _ (what : Option Heard → List Ev → List Ev) where
  pub last_counts_not : (p : Parcel) (ps : List Parcel) (answers : List Answer) → is_last p ≡ true → by_answers what (p ∷ ps) answers ≡ by_answers what ps answers
  last_counts_not p ps [] is = cond-true (is_last p) _ _ is
  last_counts_not p ps (a ∷ answers) is = cond-true (is_last p) _ _ is

  pub unanswered : (p : Parcel) (ps : List Parcel) → is_last p ≡ false → by_answers what (p ∷ ps) [] ≡ what None p.events ++ by_answers what ps []
  unanswered p ps is = cond-false (is_last p) _ _ is

  pub one_answered : (p : Parcel) (ps : List Parcel) (a : Answer) (answers : List Answer) → is_last p ≡ false → by_answers what (p ∷ ps) (a ∷ answers) ≡ what (Some a.answer) p.events ++ by_answers what ps answers
  one_answered p ps a answers is = cond-false (is_last p) _ _ is

  -- parcels behind those that all have their answers
  pub behind_answered : (ps qs : List Parcel) (answers tail : List Answer) → with_events ps ≡ length answers
      → by_answers what (ps ++ qs) (answers ++ tail) ≡ by_answers what ps answers ++ by_answers what qs tail
  behind_answered [] qs [] tail each = refl
  behind_answered [] qs (a ∷ answers) tail each = absurd (omega (arith, each, no_parcels))
  behind_answered (p ∷ ps) qs [] tail each = elim (cases_Bool (is_last p)) [
    | inl is ↦
        let none : with_events ps ≡ 0 = omega (arith, each, counted_behind p ps, filled_none p is) in
        last_counts_not p (ps ++ qs) tail is ∙ behind_answered ps qs [] tail none ∙ ap (λ l. l ++ by_answers what qs tail) (sym (last_counts_not p ps [] is))
    | inr is ↦ absurd (omega (arith, each, counted_behind p ps, filled_one p is))
  ]
  behind_answered (p ∷ ps) qs (a ∷ answers) tail each = elim (cases_Bool (is_last p)) [
    | inl is ↦
        let less : with_events ps ≡ suc (length answers) = omega (arith, each, counted_behind p ps, filled_none p is) in
        last_counts_not p (ps ++ qs) (a ∷ answers ++ tail) is ∙ behind_answered ps qs (a ∷ answers) tail less ∙ ap (λ l. l ++ by_answers what qs tail) (sym (last_counts_not p ps (a ∷ answers) is))
    | inr is ↦
        let less : with_events ps ≡ length answers = omega (arith, each, counted_behind p ps, filled_one p is) in
        one_answered p (ps ++ qs) a (answers ++ tail) is ∙ ap (λ l. what (Some a.answer) p.events ++ l) (behind_answered ps qs answers tail less)
        ∙ sym (append_assoc (what (Some a.answer) p.events) (by_answers what ps answers) (by_answers what qs tail)) ∙ ap (λ l. l ++ by_answers what qs tail) (sym (one_answered p ps a answers is))
  ]

  module _ (ps : List Parcel) (p : Parcel) (answers : List Answer) (each : with_events ps ≡ length answers) where
    -- a parcel with events is sent
    pub one_sent : is_last p ≡ false → by_answers what (ps ++ p ∷ []) answers ≡ by_answers what ps answers ++ what None p.events
    one_sent is =
        ap (by_answers what (ps ++ p ∷ [])) (sym (append-nil answers)) ∙ behind_answered ps (p ∷ []) answers [] each
        ∙ ap (λ l. by_answers what ps answers ++ l) (unanswered p [] is ∙ append-nil (what None p.events))

    -- a last parcel is sent
    pub last_sent : is_last p ≡ true → by_answers what (ps ++ p ∷ []) answers ≡ by_answers what ps answers
    last_sent is =
        ap (by_answers what (ps ++ p ∷ [])) (sym (append-nil answers)) ∙ behind_answered ps (p ∷ []) answers [] each
        ∙ ap (λ l. by_answers what ps answers ++ l) (last_counts_not p [] [] is) ∙ append-nil (by_answers what ps answers)

    -- the answer to the parcel with events that has none
    pub one_heard : (a : Answer) → is_last p ≡ false → by_answers what (ps ++ p ∷ []) (answers ++ a ∷ []) ≡ by_answers what ps answers ++ what (Some a.answer) p.events
    one_heard a is =
        behind_answered ps (p ∷ []) answers (a ∷ []) each ∙ ap (λ l. by_answers what ps answers ++ l) (one_answered p [] a [] is ∙ append-nil (what (Some a.answer) p.events))
