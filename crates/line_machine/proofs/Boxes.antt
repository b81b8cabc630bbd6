-- No box of an output is lost or doubled, and each is there while it is wanted.
use Rattle.std.proofs.Common.{◌≡◌, inl, inr, ⊎_elim, ℕ, ◌+◌, ◌==◌, ◌||◌, Bool, true, false, List, [], ◌∷◌, ◌++◌, map, Some, None, if◌then◌else◌, refl, sym, ap, ◌∙◌, subst, arith}
use Rattle.std.specs.Prelude.{not}
use Rattle.std.specs.List.{filter, list_any}
use Rattle.std.proofs.lemmas.Bool.{eq-eqb}
use Rattle.event_flow.specs.Meaning.{Makes}
use Rattle.history_book.specs.Contents.{Bytes}
use Rattle.history_book.specs.Links.{Listening}
use Rattle.history_book.specs.Lists.{IsIn}
use Rattle.history_book.specs.Sound.{Places}
use Rattle.history_book.specs.States.{Plan}
use Rattle.history_book.proofs.Lists.{in_front, in_behind, in_either, filter_keeps, filter_passes}
use Rattle.history_book.proofs.Opening.{or_second}
use Rattle.line_machine.specs.Boxes.{BoxesStand, BoxesStay, ClosedAreUnwanted, OpenedBoxesStand, BoxesStandStill}
use Rattle.line_machine.specs.Effects.{boxes_of, is_wanted, wanted, one_less, in_parcel, without_kit, back_with, new_batch}
use Rattle.line_machine.specs.Kits.{weigh}
use Rattle.line_machine.specs.Steps as m
use Rattle.line_machine.specs.Steps.{Step, effect}
use Rattle.line_machine.proofs.Kits.{weigh_both}
use Rattle.line_machine.specs.Views.{Box, Batch, LineView, change_batch, without_batch}

-- ---- weights

module _ {X : Type 0} (w : X → ℕ) where
  -- those that pass a test, and those that don't
  weigh_parts : (p : X → Bool) (xs : List X) → weigh w (filter p xs) + weigh w (filter (λ x. not (p x)) xs) ≡ weigh w xs
  weigh_parts p [] = refl
  weigh_parts p (x ∷ xs) = by_test (p x) (weigh_parts p xs)
    where
      by_test : (b : Bool) → weigh w (filter p xs) + weigh w (filter (λ y. not (p y)) xs) ≡ weigh w xs
          → weigh w (if b then x ∷ filter p xs else filter p xs) + weigh w (if not b then x ∷ filter (λ y. not (p y)) xs else filter (λ y. not (p y)) xs) ≡ w x + weigh w xs
      by_test true rest = omega (arith, rest)
      by_test false rest = omega (arith, rest)

module _ (makes : Makes) (listening : Listening) (bytes : Bytes) (places : Places) where
  pub boxes_stay : BoxesStay makes listening bytes places
  boxes_stay i (m.Acknowledges_it n h queue a) w =
      let parts = weigh_parts w (is_wanted i.plan.generation (without_batch n i.batches)) i.boxes in omega (arith, parts)
  boxes_stay i (m.Adopts c) w =
      let parts = weigh_parts w (is_wanted c.plan.generation i.batches) i.boxes in
      omega (arith, parts, weigh_both w (wanted c.plan.generation i.batches i.boxes) (boxes_of c.plan))
  boxes_stay i (m.Accepts n c r true) w = refl
  boxes_stay i (m.Accepts_parcel n a r true) w = refl
  boxes_stay i x w = refl

  not_true : (b : Bool) → not b ≡ true → b ≡ false
  not_true true e = absurd (differs e)
    where
      differs : false ≡ true → ⊥
      differs c = cc
  not_true false e = refl

  pub closed_are_unwanted : ClosedAreUnwanted makes listening bytes places
  closed_are_unwanted i (m.Acknowledges_it n h queue a) b has =
      not_true _ (filter_passes b (λ x. not (is_wanted i.plan.generation (without_batch n i.batches) x)) i.boxes has)
  closed_are_unwanted i (m.Adopts c) b has = not_true _ (filter_passes b (λ x. not (is_wanted c.plan.generation i.batches x)) i.boxes has)
  closed_are_unwanted i x b has = absurd has

-- ---- which are wanted

-- a box of a configuration has its generation
of_generation : (x : Box) (plan : Plan) → IsIn x (boxes_of plan) → x.generation ≡ plan.generation
of_generation x plan has = among plan.draws has
  where
    among : (draws : List (List ℕ × ℕ)) → IsIn x (map (λ (d : List ℕ × ℕ). record { generation = plan.generation; number = d.1 }) draws) → x.generation ≡ plan.generation
    among [] i = absurd i
    among (d ∷ draws) (inl e) = ap (λ (y : Box). y.generation) e
    among (d ∷ draws) (inr i) = among draws i

any_has : {X : Type 0} (p : X → Bool) (x : X) (xs : List X) → IsIn x xs → p x ≡ true → list_any p xs ≡ true
any_has p x [] has is = absurd has
any_has p x (y ∷ xs) (inl e) is = ap (λ b. b || list_any p xs) (ap p (sym e) ∙ is)
any_has p x (y ∷ xs) (inr i) is = or_second (p y) (list_any p xs) (any_has p x xs i is)

any_both : {X : Type 0} (p : X → Bool) (xs ys : List X) → list_any p xs ≡ true → list_any p (xs ++ ys) ≡ true
any_both p [] ys e = absurd (differs e)
  where
    differs : false ≡ true → ⊥
    differs c = cc
any_both p (x ∷ xs) ys e = by_test (p x) (any_both p xs ys) e
  where
    by_test : (b : Bool) → (list_any p xs ≡ true → list_any p (xs ++ ys) ≡ true) → (b || list_any p xs) ≡ true → (b || list_any p (xs ++ ys)) ≡ true
    by_test true rest is = refl
    by_test false rest is = rest is

newest_wanted : (newest : ℕ) (batches : List Batch) (x : Box) → x.generation ≡ newest → is_wanted newest batches x ≡ true
newest_wanted newest batches x same = ap (λ b. b || list_any (λ (y : Batch). x.generation == y.plan.generation) batches) (eq-eqb x.generation newest same)

out_wanted : (newest : ℕ) (batches : List Batch) (b : Batch) (x : Box) → IsIn b batches → x.generation ≡ b.plan.generation → is_wanted newest batches x ≡ true
out_wanted newest batches b x has same =
    or_second (x.generation == newest) _ (any_has (λ (y : Batch). x.generation == y.plan.generation) b batches has (eq-eqb x.generation b.plan.generation same))

-- batches that are changed keep their configurations
module _ (f : Batch → Batch) (keeps : (b : Batch) → (f b).plan ≡ b.plan) (n : ℕ) where
  wanted_same : (newest : ℕ) (bs : List Batch) (x : Box) → is_wanted newest (change_batch f n bs) x ≡ is_wanted newest bs x
  wanted_same newest bs x = ap (λ b. (x.generation == newest) || b) (any_same bs)
    where
      any_same : (cs : List Batch) → list_any (λ (y : Batch). x.generation == y.plan.generation) (change_batch f n cs) ≡ list_any (λ (y : Batch). x.generation == y.plan.generation) cs
      any_same [] = refl
      any_same (c ∷ cs) = by_test (n == c.number) (any_same cs)
        where
          by_test : (b : Bool) → list_any (λ (y : Batch). x.generation == y.plan.generation) (change_batch f n cs) ≡ list_any (λ (y : Batch). x.generation == y.plan.generation) cs
              → list_any (λ (y : Batch). x.generation == y.plan.generation) (if b then f c ∷ cs else c ∷ change_batch f n cs)
              ≡ list_any (λ (y : Batch). x.generation == y.plan.generation) (c ∷ cs)
          by_test true rest = ap (λ (p : Plan). (x.generation == p.generation) || list_any (λ (y : Batch). x.generation == y.plan.generation) cs) (keeps c)
          by_test false rest = ap (λ b. (x.generation == c.plan.generation) || b) rest

  plan_before : (bs : List Batch) (b : Batch) → IsIn b (change_batch f n bs) → (c : Batch) × IsIn c bs × (b.plan ≡ c.plan)
  plan_before [] b has = absurd has
  plan_before (c ∷ bs) b has = by_test (n == c.number) (plan_before bs b) has
    where
      by_test : (t : Bool) → (IsIn b (change_batch f n bs) → (d : Batch) × IsIn d bs × (b.plan ≡ d.plan)) → IsIn b (if t then f c ∷ bs else c ∷ change_batch f n bs)
          → (d : Batch) × IsIn d (c ∷ bs) × (b.plan ≡ d.plan)
      by_test true rest (inl e) = (c, inl refl, ap (λ (y : Batch). y.plan) e ∙ keeps c)
      by_test true rest (inr i) = (b, inr i, refl)
      by_test false rest (inl e) = (c, inl refl, ap (λ (y : Batch). y.plan) e)
      by_test false rest (inr i) = let r = rest i in (r.0, inr r.1, r.2)

pub without_has : (n : ℕ) (bs : List Batch) (b : Batch) → IsIn b (without_batch n bs) → IsIn b bs
without_has n [] b has = has
without_has n (c ∷ bs) b has = by_test (n == c.number) (without_has n bs b) has
  where
    by_test : (t : Bool) → (IsIn b (without_batch n bs) → IsIn b bs) → IsIn b (if t then bs else c ∷ without_batch n bs) → IsIn b (c ∷ bs)
    by_test true rest i = inr i
    by_test false rest (inl e) = inl e
    by_test false rest (inr i) = inr (rest i)

-- ---- the steps

module _ (makes : Makes) (listening : Listening) (bytes : Bytes) (places : Places) where
  module _ (i : LineView places) (is : BoxesStand i) where
    changed : (f : Batch → Batch) → ((b : Batch) → (f b).plan ≡ b.plan) → (n : ℕ) → BoxesStand (record i { batches = change_batch f n i.batches })
    changed f keeps n = record {
      newest = is.newest;
      out = λ b has x i_x. let was = plan_before f keeps n i.batches b has in is.out was.0 was.1 x (subst (λ (p : Plan). IsIn x (boxes_of p)) was.2 i_x);
      wanted = λ x has. wanted_same f keeps n i.plan.generation i.batches x ∙ is.wanted x has;
    }

    with_one : (new : Batch) → new.plan ≡ i.plan → BoxesStand (record i { batches = i.batches ++ new ∷ [] })
    with_one new same = record {
      newest = is.newest;
      out = λ b has x i_x. ⊎_elim (λ (j : IsIn b i.batches). is.out b j x i_x)
          (λ (j : IsIn b (new ∷ [])). ⊎_elim (λ (e : b ≡ new). is.newest x (subst (λ (p : Plan). IsIn x (boxes_of p)) (ap (λ (y : Batch). y.plan) e ∙ same) i_x)) (λ (never : ⊥). absurd never) j)
          (in_either b i.batches (new ∷ []) has);
      wanted = λ x has. still_wanted x (x.generation == i.plan.generation) (is.wanted x has);
    }
      where
        still_wanted : (x : Box) (b : Bool) → (b || list_any (λ (y : Batch). x.generation == y.plan.generation) i.batches) ≡ true
            → (b || list_any (λ (y : Batch). x.generation == y.plan.generation) (i.batches ++ new ∷ [])) ≡ true
        still_wanted x true e = refl
        still_wanted x false e = any_both (λ (y : Batch). x.generation == y.plan.generation) i.batches (new ∷ []) e

    same_boxes : (now : LineView places) → now.plan ≡ i.plan → now.batches ≡ i.batches → now.boxes ≡ i.boxes → BoxesStand now
    same_boxes now plan batches boxes = record {
      newest = λ x has. subst (IsIn x) (sym boxes) (is.newest x (subst (λ (p : Plan). IsIn x (boxes_of p)) plan has));
      out = λ b has x i_x. subst (IsIn x) (sym boxes) (is.out b (subst (IsIn b) batches has) x i_x);
      wanted = λ x has. ap (λ (p : Plan). is_wanted p.generation now.batches x) plan ∙ ap (λ bs. is_wanted i.plan.generation bs x) batches ∙ is.wanted x (subst (IsIn x) boxes has);
    }

    of_changed : (now : LineView places) (f : Batch → Batch) → ((b : Batch) → (f b).plan ≡ b.plan) → (n : ℕ) → now.plan ≡ i.plan → now.batches ≡ change_batch f n i.batches → now.boxes ≡ i.boxes → BoxesStand now
    of_changed now f keeps n plan batches boxes =
        let was = changed f keeps n in
        record {
          newest = λ x has. subst (IsIn x) (sym boxes) (was.newest x (subst (λ (p : Plan). IsIn x (boxes_of p)) plan has));
          out = λ b has x i_x. subst (IsIn x) (sym boxes) (was.out b (subst (IsIn b) batches has) x i_x);
          wanted = λ x has. ap (λ (p : Plan). is_wanted p.generation now.batches x) plan ∙ ap (λ bs. is_wanted i.plan.generation bs x) batches ∙ was.wanted x (subst (IsIn x) boxes has);
        }

    of_one_more : (now : LineView places) (new : Batch) → new.plan ≡ i.plan → now.plan ≡ i.plan → now.batches ≡ i.batches ++ new ∷ [] → now.boxes ≡ i.boxes → BoxesStand now
    of_one_more now new same plan batches boxes =
        let was = with_one new same in
        record {
          newest = λ x has. subst (IsIn x) (sym boxes) (was.newest x (subst (λ (p : Plan). IsIn x (boxes_of p)) plan has));
          out = λ b has x i_x. subst (IsIn x) (sym boxes) (was.out b (subst (IsIn b) batches has) x i_x);
          wanted = λ x has. ap (λ (p : Plan). is_wanted p.generation now.batches x) plan ∙ ap (λ bs. is_wanted i.plan.generation bs x) batches ∙ was.wanted x (subst (IsIn x) boxes has);
        }

    stand_still : (x : Step makes listening bytes i) → BoxesStand (effect makes listening bytes i x).line
    stand_still (m.Reads t k) = of_one_more _ (new_batch i t.rows (Some k.kit)) refl refl refl refl
    stand_still (m.Works t k verdicts uses) = of_one_more _ (back_with makes verdicts (new_batch i t.rows None)) refl refl refl refl
    stand_still (m.Collects n a verdicts uses) = of_changed _ (back_with makes verdicts) (λ b. refl) n refl refl refl
    stand_still (m.Loses_a_result n a) = of_changed _ without_kit (λ b. refl) n refl refl refl
    stand_still (m.Tells n parts rest h a) = of_changed _ (one_less rest) (λ b. refl) n refl refl refl
    stand_still (m.Gives n id at events rest h plain) = of_changed _ (one_less rest) (λ b. refl) n refl refl refl
    stand_still (m.Is_taken n id number events rest h fates fit none) = of_changed _ (one_less rest) (λ b. refl) n refl refl refl
    stand_still (m.Is_rejected n id number events rest h fates fit some a) = of_changed _ (one_less rest) (λ b. refl) n refl refl refl
    stand_still (m.Sends n id address events rest h none p same some may) = of_changed _ (in_parcel (Some p.number)) (λ b. refl) n refl refl refl
    stand_still (m.Is_heard n id address events rest h number sent was) = of_changed _ (one_less rest) (λ b. refl) n refl refl refl
    stand_still (m.Is_not_heard n id address events rest h number sent was) = of_changed _ (in_parcel None) (λ b. refl) n refl refl refl
    stand_still (m.Acknowledges_it n h queue a) =
        let left = without_batch n i.batches in
        record {
          newest = λ x has. filter_keeps x (is_wanted i.plan.generation left) i.boxes (is.newest x has) (newest_wanted i.plan.generation left x (of_generation x i.plan has));
          out = λ b has x i_x. filter_keeps x (is_wanted i.plan.generation left) i.boxes (is.out b (without_has n i.batches b has) x i_x)
              (out_wanted i.plan.generation left b x has (of_generation x b.plan i_x));
          wanted = λ x has. filter_passes x (is_wanted i.plan.generation left) i.boxes has;
        }
    stand_still (m.Adopts c) = record {
      newest = λ x has. in_behind x (wanted c.plan.generation i.batches i.boxes) (boxes_of c.plan) has;
      out = λ b has x i_x. in_front x (wanted c.plan.generation i.batches i.boxes) (boxes_of c.plan)
          (filter_keeps x (is_wanted c.plan.generation i.batches) i.boxes (is.out b has x i_x) (out_wanted c.plan.generation i.batches b x has (of_generation x b.plan i_x)));
      wanted = λ x has. ⊎_elim (λ (j : IsIn x (wanted c.plan.generation i.batches i.boxes)). filter_passes x (is_wanted c.plan.generation i.batches) i.boxes j)
          (λ (j : IsIn x (boxes_of c.plan)). newest_wanted c.plan.generation i.batches x (of_generation x c.plan j))
          (in_either x (wanted c.plan.generation i.batches i.boxes) (boxes_of c.plan) has);
    }
    stand_still (m.Accepts n c r true) = is
    stand_still (m.Accepts_parcel n a r true) = is
    stand_still x = same_boxes _ refl refl refl

  pub boxes_stand_still : BoxesStandStill makes listening bytes places
  boxes_stand_still i x is = stand_still i is x

  pub opened_boxes_stand : OpenedBoxesStand makes listening bytes places
  opened_boxes_stand told image sound i is = record {
    newest = λ x has. subst (IsIn x) (sym is.boxes) has;
    out = λ b has. absurd (subst (IsIn b) is.batches has);
    wanted = λ x has. newest_wanted i.plan.generation i.batches x (of_generation x i.plan (subst (IsIn x) is.boxes has));
  }
