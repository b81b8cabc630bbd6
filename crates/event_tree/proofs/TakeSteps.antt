-- One step of take, through an object or a list.
use Rattle.std.proofs.Common.{◌≡◌, ℕ, ◌+◌, ◌<◌, ◌≤◌, List, [], ◌∷◌, length, Option, Some, None, IfSome, option_map, refl, sym, ap, ◌∙◌, arith, slice_get, slice_set}
use Rattle.std.proofs.lemmas.Option.{slice_get_past}
use Rattle.plain_data.specs.Members.{get_member, set_member, remove_member}
use Rattle.plain_data.proofs.MemberLemmas.{remove_member-absent}
use Rattle.event_tree.specs.Paths.{list_place, cut_in, through_in, take}
use Rattle.event_tree.specs.Sizes.{size}
use Rattle.event_tree.specs.Outcomes.{Takes}
use Rattle.event_tree.specs.declared.cut.Cut.{Cut}
use Rattle.event_tree.specs.declared.value.Value.{Value}
use Rattle.event_tree.specs.declared.value.Value.TheVariants as v
use Rattle.event_tree.proofs.Puts.{set_member-same, slice_set-same}
use Rattle.event_tree.proofs.Sizes.{size-List, size-Object, items_size-set, members_size-set}

takes_part : (r : Option Value) (f : Value → Value) (said : Option (Value × Value)) (a a' : Value) (whole : Option (Value × Value)) (b b' : Value) → Takes r said a a' → whole ≡ option_map (λ x. (x.0, f x.1)) said → f a' ≡ b' → f a ≡ b → Takes r whole b b'
takes_part None f said a a' whole b b' h is new same = (is ∙ ap (option_map (λ x. (x.0, f x.1))) h.0, sym new ∙ ap f h.1 ∙ same)
takes_part (Some x) f said a a' whole b b' h is new same = is ∙ ap (option_map (λ x. (x.0, f x.1))) h ∙ ap (λ y. Some (x, y)) new

pub takes_no_member : (p q : List ℕ) (rest : List (List ℕ)) (ms new : List (List ℕ × Value)) → rest ≡ [] → q ≡ p → get_member q ms ≡ None → new ≡ remove_member q ms → Takes None (take (p ∷ rest) (v.Object ms)) (v.Object ms) (v.Object new)
takes_no_member p q rest ms new e s t d =
    let g : get_member p ms ≡ None = ap (λ k. get_member k ms) (sym s) ∙ t in
    (ap (λ l. take (p ∷ l) (v.Object ms)) e ∙ ap (cut_in p) (v.outs-Object ms) ∙ ap (option_map (λ x. (x, v.Object (remove_member p ms)))) g, ap v.Object (d ∙ ap (λ k. remove_member k ms) s ∙ remove_member-absent p ms g))

pub takes_through_member : (r : Option Value) (p q : List ℕ) (rest : List (List ℕ)) (ms : List (List ℕ × Value)) (old new : Value) → 0 < length rest → q ≡ p → get_member p ms ≡ Some old → Takes r (take rest old) old new → Takes r (take (p ∷ rest) (v.Object ms)) (v.Object ms) (v.Object (set_member q new ms))
takes_through_member r p q [] ms old new n s found h = absurd (omega arith)
takes_through_member r p q (x ∷ ps) ms old new n s found h =
    takes_part r (λ y. v.Object (set_member p y ms)) (take (x ∷ ps) old) old new _ (v.Object ms) _ h (ap (through_in p (take (x ∷ ps))) (v.outs-Object ms) ∙ rw found) (ap (λ k. v.Object (set_member k new ms)) (sym s)) (ap v.Object (set_member-same p ms old found))

pub takes_no_item : (p : List ℕ) (rest : List (List ℕ)) (vs : List Value) (i : ℕ) → list_place p (length vs) ≡ Some i → length vs ≤ i → take (p ∷ rest) (v.List vs) ≡ None
takes_no_item p [] vs i at h = let g : slice_get vs i ≡ None = slice_get_past vs i h in ap (cut_in p) (v.outs-List vs) ∙ rw (at, g)
takes_no_item p (x ∷ ps) vs i at h = let g : slice_get vs i ≡ None = slice_get_past vs i h in ap (through_in p (take (x ∷ ps))) (v.outs-List vs) ∙ rw (at, g)

pub takes_through_item : (r : Option Value) (p : List ℕ) (rest : List (List ℕ)) (vs : List Value) (i : ℕ) (old new : Value) → 0 < length rest → list_place p (length vs) ≡ Some i → slice_get vs i ≡ Some old → Takes r (take rest old) old new → Takes r (take (p ∷ rest) (v.List vs)) (v.List vs) (v.List (slice_set vs i new))
takes_through_item r p [] vs i old new n at found h = absurd (omega arith)
takes_through_item r p (x ∷ ps) vs i old new n at found h =
    takes_part r (λ y. v.List (slice_set vs i y)) (take (x ∷ ps) old) old new _ (v.List vs) _ h (ap (through_in p (take (x ∷ ps))) (v.outs-List vs) ∙ rw (at, found)) refl (ap v.List (slice_set-same vs i old found))

pub no_parts : {X : Type 0} (xs : List X) → length xs ≡ 0 → xs ≡ []
no_parts [] h = refl
no_parts (x ∷ xs) h = absurd (omega arith)

pub shorter_member : (r : Option Cut) (p q : List ℕ) (ms : List (List ℕ × Value)) (old new : Value) → q ≡ p → get_member p ms ≡ Some old
    → IfSome r (λ cut. size new + size cut.value + cut.key_size ≡ size old) → IfSome r (λ cut. size (v.Object (set_member q new ms)) + size cut.value + cut.key_size ≡ size (v.Object ms))
shorter_member None p q ms old new s found h = h
shorter_member (Some cut) p q ms old new s found h =
    let k : size (v.Object (set_member q new ms)) ≡ size (v.Object (set_member p new ms)) = ap (λ l. size (v.Object (set_member l new ms))) s in
    omega (arith, k, h, size-Object ms, size-Object (set_member p new ms), members_size-set p ms old new found)

pub shorter_item : (r : Option Cut) (vs : List Value) (i : ℕ) (old new : Value) → slice_get vs i ≡ Some old
    → IfSome r (λ cut. size new + size cut.value + cut.key_size ≡ size old) → IfSome r (λ cut. size (v.List (slice_set vs i new)) + size cut.value + cut.key_size ≡ size (v.List vs))
shorter_item None vs i old new found h = h
shorter_item (Some cut) vs i old new found h = omega (arith, h, size-List vs, size-List (slice_set vs i new), items_size-set vs i old new found)
