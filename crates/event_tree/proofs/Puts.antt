-- One step of put, through an object or a list.
use Rattle.std.proofs.Common.{◌≡◌, ℕ, zero, suc, List, [], ◌∷◌, length, Option, Some, None, IsSome, option_map, Result, Ok, Err, refl, sym, ap, ◌∙◌, rules, slice_get, slice_set}
use Rattle.plain_data.specs.Keys.{text_cmp}
use Rattle.plain_data.specs.Members.{get_member, set_member}
use Rattle.plain_data.proofs.KeyLemmas.{order_cases}
use Rattle.event_tree.specs.Paths.{put, list_place, change_in}
use Rattle.event_tree.specs.Outcomes.{Puts}
use Rattle.event_tree.specs.declared.value.Value.{Value, out-Value}
use Rattle.event_tree.specs.declared.value.Value.TheVariants as v
use Rattle.event_tree.specs.declared.fault.PutFault.{PutFault}
use Rattle.event_tree.specs.declared.fault.PutFault.TheVariants.{ThroughScalar, Deep, Large, Memory}

some_mapped : {A B : Type 0} (f : A → B) (o : Option A) → IsSome o → IsSome (option_map f o)
some_mapped f None h = h
some_mapped f (Some x) h = h

-- what is said of a part, said of the whole
pub puts_part : (r : Result (Unit {0}) PutFault) (f : Value → Value) (said : Option Value) (a a' : Value) (whole : Option Value) (b b' : Value) → Puts r said a a' → whole ≡ option_map f said → f a' ≡ b' → f a ≡ b → Puts r whole b b'
puts_part (Ok u) f said a a' whole b b' h is new same = is ∙ ap (option_map f) h ∙ ap Some new
puts_part (Err ThroughScalar) f said a a' whole b b' h is new same = (is ∙ ap (option_map f) h.0, sym new ∙ ap f h.1 ∙ same)
puts_part (Err Deep) f said a a' whole b b' h is new same = h
puts_part (Err Large) f said a a' whole b b' h is new same = h
puts_part (Err Memory) f said a a' whole b b' h is new same = (rw is (some_mapped f said h.0), sym new ∙ ap f h.1 ∙ same)

pub set_member-same : {V : Type 0} (k : List ℕ) (ms : List (List ℕ × V)) (x : V) → get_member k ms ≡ Some x → set_member k x ms ≡ ms
set_member-same k [] x h = refl
set_member-same k (m ∷ ms) x h = order_cases (text_cmp k m.0)
    (λ e. rw e (ap (λ l. m ∷ l) (set_member-same k ms x (rw e at h))))
    (λ e. let y : m.1 ≡ x = search ((rw e at h), rules) in rw e (ap (λ y. (m.0, y) ∷ ms) (sym y)))
    (λ e. rw e (ap (λ l. m ∷ l) (set_member-same k ms x (rw e at h))))

pub slice_set-same : {V : Type 0} (vs : List V) (i : ℕ) (x : V) → slice_get vs i ≡ Some x → slice_set vs i x ≡ vs
slice_set-same [] i x h = refl
slice_set-same (y ∷ vs) zero x h = let e : y ≡ x = search (h, rules) in ap (λ z. z ∷ vs) (sym e)
slice_set-same (y ∷ vs) (suc i) x h = ap (λ l. y ∷ l) (slice_set-same vs i x h)

pub puts_member : (r : Result (Unit {0}) PutFault) (p q : List ℕ) (ps : List (List ℕ)) (d made : Value) (ms : List (List ℕ × Value)) (old new : Value)
    → q ≡ p → get_member p ms ≡ Some old → Puts r (put ps d old) old new → Puts r (change_in p (put ps d) made (out-Value (v.Object ms))) (v.Object ms) (v.Object (set_member q new ms))
puts_member r p q ps d made ms old new same found h =
    puts_part r (λ x. v.Object (set_member p x ms)) (put ps d old) old new _ (v.Object ms) _ h (ap (change_in p (put ps d) made) (v.outs-Object ms) ∙ rw found) (ap (λ k. v.Object (set_member k new ms)) (sym same)) (ap v.Object (set_member-same p ms old found))

pub puts_item : (r : Result (Unit {0}) PutFault) (p : List ℕ) (ps : List (List ℕ)) (d made : Value) (vs : List Value) (i : ℕ) (old new : Value)
    → list_place p (length vs) ≡ Some i → slice_get vs i ≡ Some old → Puts r (put ps d old) old new → Puts r (change_in p (put ps d) made (out-Value (v.List vs))) (v.List vs) (v.List (slice_set vs i new))
puts_item r p ps d made vs i old new at found h =
    puts_part r (λ x. v.List (slice_set vs i x)) (put ps d old) old new _ (v.List vs) _ h (ap (change_in p (put ps d) made) (v.outs-List vs) ∙ rw (at, found)) refl (ap v.List (slice_set-same vs i old found))
