use Rattle.std.proofs.Common.{◌≡◌, ◌++◌, ◌∷◌, [], ℕ, List, All, refl, sym, ◌∙◌, ap, subst}
use Rattle.std.proofs.lemmas.List.{take_all}
use Rattle.std.proofs.lemmas.List.Elements.{All-push, Contains-push, Contains-append_left}
use Rattle.std.proofs.lemmas.Option.{same_Some}
use Rattle.std.specs.Prelude.{Contains}
use Rattle.dead_letters.specs.Trimming.{IsOther, IsOfOther}
use Rattle.dead_letters.specs.Queues.{name_in, segment, segment_name}
use Rattle.slot_files.proofs.FoundNames.{one_found}
use Rattle.dead_letters.proofs.listing.others.Goals.{in-Some+in_ok-segment_name+in_ok-push, in_default}
use Rattle.dead_letters.proofs.listing.others.Goals as goal

pub loop-part-preserved : goal.loop-part-preserved
loop-part-preserved c =
    let parts = c.args.parts.now in
    let at = c.loop-part.part-index in
    let x = c.part-item.result in
    let inv = c.loop-part.invariant in
    let s = c.args.segments in
    let file = λ (n : ℕ). name_in c.args.folder.now (segment n) in
    let old = c.loop-part.gone.items in
    elim c.match-other_in.branch [
      | in-Some+in_ok-segment_name+in_ok-push w ↦
          let n = w.in-Some.number in
          let name = file n in
          let is : c.match-other_in.gone.items ≡ old ++ name ∷ [] = ap (λ v. v.items) w.gone-is ∙ w.in_ok-push.ensures.items ∙ ap (λ (y : List ℕ). old ++ y ∷ []) w.in_ok-segment_name.ensures in
          record {
            from = subst (All (IsOfOther c.args.folder.now s)) (sym is) (All-push (IsOfOther c.args.folder.now s) old name inv.from (n, w.in-Some.ensures.some, refl));
            all = λ m other among. one_found parts segment_name file (IsOther s) at x old c.match-other_in.gone.items c.loop-part-test.true c.part-item.is
                (λ k has. subst (λ l. Contains l (file k)) (sym is) (Contains-append_left old (name ∷ []) (file k) has))
                (λ k wanted same. subst (λ l. Contains l (file k)) (sym is)
                (subst (λ j. Contains (old ++ name ∷ []) (file j)) (same_Some n k (sym w.in-Some.is ∙ c.other_in.ensures.all k wanted (c.as_str.ensures ∙ same))) (Contains-push old name)))
                (λ k wanted has. inv.all k wanted has) m other among;
          }
      | in_default w ↦
          let is : c.match-other_in.gone.items ≡ old = ap (λ v. v.items) w.gone-is in
          record {
            from = subst (All (IsOfOther c.args.folder.now s)) (sym is) inv.from;
            all = λ m other among. one_found parts segment_name file (IsOther s) at x old c.match-other_in.gone.items c.loop-part-test.true c.part-item.is
                (λ k has. subst (λ l. Contains l (file k)) (sym is) has)
                (λ k wanted same. absurd (w.in_default.not-Some k (c.other_in.ensures.all k wanted (c.as_str.ensures ∙ same))))
                (λ k wanted has. inv.all k wanted has) m other among;
          }
    ]

pub returns-clause-all : goal.returns-clause-all
returns-clause-all c n other among =
    c.loop-part.invariant.all n other (subst (λ l. Contains l (segment_name n)) (sym (take_all c.loop-part.part-index c.args.parts.now c.loop-part-test.false)) among)
