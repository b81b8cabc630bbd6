-- Boxes that are closed one after another.
use Rattle.std.proofs.Common.{◌≡◌, ◌≤◌, ◌+◌, ℕ, zero, suc, List, [], ◌∷◌, length, Option, None, Some, option_map, slice_get, slice_set, refl, sym, ap, ◌∙◌, arith}
use Rattle.std.proofs.lemmas.List.{length-map, map-set}
use Rattle.std.proofs.lemmas.Option.{same_Some, slice_get-map}
use Rattle.event_tree.proofs.Puts.{slice_set-same}
use Rattle.io_traits.specs.Counts.{one_more}
use Rattle.plugin_graph.specs.Graphs.{boxes_in, contents_of}
use Rattle.plugin_graph.specs.declared.kit.Kit.{Kit}
use Rattle.line_jobs.specs.Closings.{each_once_more, once_more_from, told}

set_again : {A : Type 0} (xs : List A) (i : ℕ) (x y : A) → slice_set (slice_set xs i x) i y ≡ slice_set xs i y
set_again [] i x y = refl
set_again (z ∷ xs) zero x y = refl
set_again (z ∷ xs) (suc i) x y = ap (λ l. z ∷ l) (set_again xs i x y)

one_at : (cs : List (Option ℕ)) (i : ℕ) (c : Option ℕ) → slice_get cs i ≡ Some c → once_more_from (suc i) (slice_set cs i (option_map one_more c)) ≡ once_more_from i cs
one_at [] zero c is = refl
one_at [] (suc i) c is = refl
one_at (x ∷ cs) zero c is = ap (λ o. option_map one_more o ∷ each_once_more cs) (sym (same_Some x c is))
one_at (x ∷ cs) (suc i) c is = ap (λ l. x ∷ l) (one_at cs i c is)

none_left : (cs : List (Option ℕ)) (n : ℕ) → length cs ≤ n → once_more_from n cs ≡ cs
none_left [] zero past = refl
none_left [] (suc n) past = refl
none_left (c ∷ cs) zero past = absurd (omega (arith, past))
none_left (c ∷ cs) (suc n) past = ap (λ l. c ∷ l) (none_left cs n (omega (arith, past)))

module _ {X : Type 0} (tell : X → ℕ) where
  -- all boxes of a kit were closed
  pub all_closed : (kit : Kit X) (n : ℕ) → length (contents_of kit).filters ≤ n → once_more_from n (told tell (boxes_in kit)) ≡ told tell (boxes_in kit)
  all_closed kit n past =
      let filters : length (contents_of kit).filters ≡ length kit.parts.filters = length-map _ (λ f. f.filter) in
      let boxes : length (boxes_in kit) ≡ length kit.parts.filters = length-map _ (λ f. f.plugged) in
      none_left (told tell (boxes_in kit)) n (omega (arith, past, filters, boxes, length-map (boxes_in kit) (option_map tell)))

  -- a box was taken out, and put in again
  module _ (old mid new : List (Option X)) (i : ℕ) (x y : Option X) (is : slice_get old i ≡ Some x) (out : mid ≡ slice_set old i None) (back : new ≡ slice_set mid i y) where
    told_set : told tell new ≡ slice_set (told tell old) i (option_map tell y)
    told_set = ap (told tell) (back ∙ ap (λ b. slice_set b i y) out ∙ set_again old i None y) ∙ map-set (option_map tell) old i y

    told_at : slice_get (told tell old) i ≡ Some (option_map tell x)
    told_at = slice_get-map (option_map tell) old i ∙ ap (option_map (option_map tell)) is

    pub same_told : option_map tell y ≡ option_map tell x → told tell new ≡ told tell old
    same_told same = told_set ∙ slice_set-same (told tell old) i (option_map tell y) (told_at ∙ ap Some (sym same))

    pub one_closed : option_map tell y ≡ option_map one_more (option_map tell x) → once_more_from (i + 1) (told tell new) ≡ once_more_from i (told tell old)
    one_closed more =
        let next : i + 1 ≡ suc i = omega arith in
        ap (λ n. once_more_from n (told tell new)) next
        ∙ ap (once_more_from (suc i)) (told_set ∙ ap (slice_set (told tell old) i) more)
        ∙ one_at (told tell old) i (option_map tell x) told_at
