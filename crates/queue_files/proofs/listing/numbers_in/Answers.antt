use Rattle.std.proofs.Common.{◌≡◌, ◌<◌, ◌^◌, ◌++◌, ◌∷◌, [], All, sym, ◌∙◌, ap, subst}
use Rattle.std.proofs.lemmas.List.{take_all}
use Rattle.std.proofs.lemmas.List.Elements.{All-push, Contains-push, Contains-append_left, Contains-get_or}
use Rattle.std.proofs.lemmas.Option.{same_Some}
use Rattle.std.specs.Prelude.{Contains}
use Rattle.std.specs.Fmt.{decimal}
use Rattle.slot_files.proofs.FoundNames.{one_found}
use Rattle.queue_files.proofs.listing.numbers_in.Goals.{in-Some+in_ok-push, in_default}
use Rattle.queue_files.proofs.listing.numbers_in.Goals as goal

pub loop-name-preserved : goal.loop-name-preserved
loop-name-preserved c =
    let names = c.args.names.now in
    let kind = c.args.kind.now in
    let at = c.loop-name.name-index in
    let x = c.name-item.result in
    let inv = c.loop-name.invariant in
    let among : Contains names x = subst (Contains names) (sym c.name-item.is) (Contains-get_or names at x c.loop-name-test.true) in
    elim c.match-number_in.branch [
      | in-Some+in_ok-push w ↦
          let n = w.in-Some.number in
          let is : c.match-number_in.numbers.items ≡ c.loop-name.numbers.items ++ n ∷ [] = ap (λ v. v.items) w.numbers-is ∙ w.in_ok-push.ensures.items in
          let here : x ≡ kind ++ decimal n = sym c.as_str.ensures ∙ w.in-Some.ensures.some in
          record {
            from = subst (All (λ n. (n < 2 ^ 32) × Contains names (kind ++ decimal n))) (sym is) (All-push (λ n. (n < 2 ^ 32) × Contains names (kind ++ decimal n)) c.loop-name.numbers.items n inv.from (w.in-Some.ensures.fits, subst (Contains names) here among));
            all = one_found names (λ m. kind ++ decimal m) (λ m. m) (λ m. m < 2 ^ 32) at x c.loop-name.numbers.items c.match-number_in.numbers.items c.loop-name-test.true c.name-item.is
                (λ m has. subst (λ l. Contains l m) (sym is) (Contains-append_left c.loop-name.numbers.items (n ∷ []) m has))
                (λ m fits same. subst (λ l. Contains l m) (sym is) (subst (Contains (c.loop-name.numbers.items ++ n ∷ [])) (same_Some n m (sym w.in-Some.is ∙ c.number_in.ensures.all m fits (c.as_str.ensures ∙ same)))
                (Contains-push c.loop-name.numbers.items n)))
                inv.all;
          }
      | in_default w ↦
          let is : c.match-number_in.numbers.items ≡ c.loop-name.numbers.items = ap (λ v. v.items) w.numbers-is in
          record {
            from = subst (All (λ n. (n < 2 ^ 32) × Contains names (kind ++ decimal n))) (sym is) inv.from;
            all = one_found names (λ m. kind ++ decimal m) (λ m. m) (λ m. m < 2 ^ 32) at x c.loop-name.numbers.items c.match-number_in.numbers.items c.loop-name-test.true c.name-item.is
                (λ m has. subst (λ l. Contains l m) (sym is) has)
                (λ m fits same. absurd (w.in_default.not-Some m (c.number_in.ensures.all m fits (c.as_str.ensures ∙ same))))
                inv.all;
          }
    ]

pub returns-clause-all : goal.returns-clause-all
returns-clause-all c n fits among =
    let names = c.args.names.now in
    c.loop-name.invariant.all n fits (subst (λ l. Contains l (c.args.kind.now ++ decimal n)) (sym (take_all c.loop-name.name-index names c.loop-name-test.false)) among)
