-- What would be taken, level by level, and what a put of it elsewhere answers.
use Rattle.std.proofs.Common.{◌≡◌, ◌≢◌, ℕ, ◌+◌, ◌<◌, List, [], ◌∷◌, length, false, Option, Some, None, option_map, sym, ap, ◌∙◌, arith, rules, slice_get, slice_set, remove, nat_eq}
use Rattle.std.specs.Cmp.Lexicographic.{pointwise, bytes_decides}
use Rattle.plain_data.specs.Members.{get_member, set_member, remove_member}
use Rattle.event_tree.specs.Values.{Members}
use Rattle.event_tree.specs.Sizes.{size}
use Rattle.event_tree.specs.Paths.{list_place, cut_in, through_in, take}
use Rattle.event_tree.specs.Outcomes.{Finds}
use Rattle.event_tree.specs.declared.moving.FoundValue.{FoundValue}
use Rattle.event_tree.specs.declared.value.Value.{Value}
use Rattle.event_tree.specs.declared.value.Value.TheVariants as v
use Rattle.event_tree.proofs.Sizes.{size-List, size-Object, items_size-set, items_size-remove, members_size-set, members_size-remove}
use Rattle.event_tree.proofs.TakeSteps.{no_parts}

pub differ : (k l : List ℕ) → false ≡ pointwise nat_eq k l → l ≢ k
differ k l h e = absurd (search (h ∙ (bytes_decides k l).1 (sym e), rules))

module _ (p : List ℕ) (rest : List (List ℕ)) where
  pub finds_field_cut : (ms : Members) (x : Value) → length rest ≡ 0 → get_member p ms ≡ Some x
      → (left : Value) × (take (p ∷ rest) (v.Object ms) ≡ Some (x, left)) × (size left + (4 + length p + size x) ≡ size (v.Object ms))
  finds_field_cut ms x n found = (
    v.Object (remove_member p ms),
    ap (λ l. take (p ∷ l) (v.Object ms)) (no_parts rest n) ∙ ap (cut_in p) (v.outs-Object ms) ∙ ap (option_map {U = Value × Value} (λ e. (e, v.Object (remove_member p ms)))) found,
    omega (arith, size-Object ms, size-Object (remove_member p ms), members_size-remove p ms x found),
  )

  pub finds_item_cut : (vs : List Value) (i : ℕ) (x : Value) → length rest ≡ 0 → list_place p (length vs) ≡ Some i → slice_get vs i ≡ Some x
      → (left : Value) × (take (p ∷ rest) (v.List vs) ≡ Some (x, left)) × (size left + size x ≡ size (v.List vs))
  finds_item_cut vs i x n place found = (
    v.List (remove vs i),
    ap (λ l. take (p ∷ l) (v.List vs)) (no_parts rest n) ∙ ap (cut_in p) (v.outs-List vs) ∙ rw (place, found),
    omega (arith, size-List vs, size-List (remove vs i), items_size-remove vs i x found),
  )

pub finds_field : (r : Option FoundValue) (p : List ℕ) (rest : List (List ℕ)) (ms : Members) (inner : Value) → 0 < length rest → get_member p ms ≡ Some inner → Finds r (take rest inner) inner → Finds r (take (p ∷ rest) (v.Object ms)) (v.Object ms)
finds_field r p [] ms inner n found h = absurd (omega arith)
finds_field None p (q ∷ qs) ms inner n found h = ap (through_in p (take (q ∷ qs))) (v.outs-Object ms) ∙ rw (found, h)
finds_field (Some f) p (q ∷ qs) ms inner n found (left, taken, s) = (
  v.Object (set_member p left ms),
  ap (through_in p (take (q ∷ qs))) (v.outs-Object ms) ∙ rw (found, taken),
  omega (arith, s, size-Object ms, size-Object (set_member p left ms), members_size-set p ms inner left found),
)

pub finds_item : (r : Option FoundValue) (p : List ℕ) (rest : List (List ℕ)) (vs : List Value) (i : ℕ) (inner : Value) → 0 < length rest → list_place p (length vs) ≡ Some i → slice_get vs i ≡ Some inner → Finds r (take rest inner) inner → Finds r (take (p ∷ rest) (v.List vs)) (v.List vs)
finds_item r p [] vs i inner n place found h = absurd (omega arith)
finds_item None p (q ∷ qs) vs i inner n place found h = ap (through_in p (take (q ∷ qs))) (v.outs-List vs) ∙ rw (place, found, h)
finds_item (Some f) p (q ∷ qs) vs i inner n place found (left, taken, s) = (
  v.List (slice_set vs i left),
  ap (through_in p (take (q ∷ qs))) (v.outs-List vs) ∙ rw (place, found, taken),
  omega (arith, s, size-List vs, size-List (slice_set vs i left), items_size-set vs i inner left found),
)
