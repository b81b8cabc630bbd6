-- Parcels that are taken, whole or in part, and their numbers.
use Rattle.std.specs.Prelude.{Bool, ◌≡◌, ◌≤◌, ◌&&◌, ◌+◌, is_none, ℕ, zero, suc, true, false, if◌then◌else◌, List, [], ◌∷◌, ◌++◌, length, map, Option, Some, None}
use Rattle.std.proofs.Common.{refl, sym, ◌∙◌, ap, ap₂, arith, rules, length-append}
use Rattle.pipeline_bus.specs.Ends.{Taking, taken_as}
use Rattle.pipeline_bus.specs.Parcels.{HasNextNumber, ends_with_last, is_last, with_events}
use Rattle.pipeline_bus.specs.declared.parcel.Parcel.{Parcel}
use Rattle.pipeline_bus.proofs.Numbers.{counted_more, ends_more}
use Rattle.line_links.specs.Answers.{numbers_from, one_if_some}
use Rattle.line_links.specs.Takers.{part_state}
use Rattle.line_links.specs.declared.taker.PartParcel.{PartParcel}
use Rattle.line_links.specs.declared.taker.WholeParcel.{WholeParcel}

-- numbers behind one more
more_from : (n k : ℕ) → numbers_from n (k + 1) ≡ numbers_from n k ++ (n + k) ∷ []
more_from n zero = let e : n ≡ n + 0 = omega arith in let o : 0 + 1 ≡ 1 = omega arith in ap (numbers_from n) o ∙ ap (λ m. m ∷ []) e
more_from n (suc k) =
    let e : n + 1 + k ≡ n + suc k = omega arith in
    let o : suc k + 1 ≡ suc (k + 1) = omega arith in
    ap (numbers_from n) o ∙ ap (λ ms. n ∷ ms) (more_from (n + 1) k ∙ ap (λ m. numbers_from (n + 1) k ++ m ∷ []) e)

-- a parcel that is whole stands behind those that wait
pub whole_more : (n : ℕ) (ws : List WholeParcel) (w : WholeParcel) → map (λ w. w.number) ws ≡ numbers_from n (length ws) → w.number ≡ n + length ws
    → map (λ w. w.number) (ws ++ w ∷ []) ≡ numbers_from n (length (ws ++ w ∷ []))
whole_more n ws w h e =
    map-append ws ∙ ap (λ ns. ns ++ w.number ∷ []) h ∙ ap (λ m. numbers_from n (length ws) ++ m ∷ []) e
    ∙ sym (more_from n (length ws)) ∙ ap (numbers_from n) (sym (length-append ws (w ∷ [])))
  where
    map-append : (vs : List WholeParcel) → map (λ w. w.number) (vs ++ w ∷ []) ≡ map (λ w. w.number) vs ++ w.number ∷ []
    map-append [] = refl
    map-append (v ∷ vs) = ap (λ ns. v.number ∷ ns) (map-append vs)

-- one parcel with events was taken
pub taken_one : (old new : Taking) (p : Parcel) → new ≡ taken_as (Some p) old → is_last p ≡ false → with_events new.taken ≡ with_events old.taken + 1
taken_one old new p is some = ap (λ t. with_events t.taken) is ∙ counted_more old.taken p ∙ ap (λ b. with_events old.taken + (if b then 0 else 1)) some

-- one without events was
pub taken_last : (old new : Taking) (p : Parcel) → new ≡ taken_as (Some p) old → is_last p ≡ true → with_events new.taken ≡ with_events old.taken
taken_last old new p is none =
    let e : with_events old.taken + 0 ≡ with_events old.taken = omega arith in
    ap (λ t. with_events t.taken) is ∙ counted_more old.taken p ∙ ap (λ b. with_events old.taken + (if b then 0 else 1)) none ∙ e

pub ends_behind : (old new : Taking) (p : Parcel) → new ≡ taken_as (Some p) old → is_last p ≡ true → ends_with_last new.taken ≡ true
ends_behind old new p is none = ap (λ t. ends_with_last t.taken) is ∙ ends_more old.taken p ∙ none

pub number_of_one : (before : List Parcel) (p : Parcel) → is_last p ≡ false → HasNextNumber before p → p.number ≡ with_events before + 1
number_of_one before p some e = e ∙ ap (λ b. if b then 0 else with_events before + 1) some

-- what waits in the room stays there while more comes
pub room_more : (xs ys : List Parcel) → with_events xs ≤ with_events (xs ++ ys)
unfolding with_events
room_more [] ys = omega arith
room_more (p ∷ xs) ys = omega (arith, room_more xs ys)

-- the same parcels wait, behind as many answers
pub numbers_stay : (n m : ℕ) (xs ys : List WholeParcel) → ys ≡ xs → m ≡ n → map (λ w. w.number) xs ≡ numbers_from n (length xs)
    → map (λ w. w.number) ys ≡ numbers_from m (length ys)
numbers_stay n m xs ys e f h = ap (map (λ w. w.number)) e ∙ h ∙ ap₂ (λ k zs. numbers_from k (length zs)) (sym f) (sym e)

-- where a poll may be made, nothing of a parcel is to be given
pub none_of : (listens : Bool) (part : Option PartParcel) → (listens && is_none (part_state part)) ≡ true → one_if_some part ≡ 0
none_of listens None e = refl
none_of true (Some p) e = absurd (search (e, rules))
none_of false (Some p) e = absurd (search (e, rules))
