-- No kit is lost or doubled, and each batch is run by one of its own generation.
use Rattle.std.proofs.Common.{◌≡◌, inl, inr, ⊎_elim, ℕ, ◌+◌, ◌==◌, Bool, true, false, List, [], ◌∷◌, ◌++◌, Option, Some, None, if◌then◌else◌, refl, sym, ap, ◌∙◌, subst, arith}
use Rattle.std.proofs.lemmas.Bool.{eqb-true}
use Rattle.std.proofs.lemmas.Option.{same_Some}
use Rattle.event_flow.specs.Meaning.{Makes, Due}
use Rattle.history_book.specs.Contents.{Bytes}
use Rattle.history_book.specs.Links.{Listening}
use Rattle.history_book.specs.Lists.{IsIn}
use Rattle.history_book.specs.Sound.{Places}
use Rattle.history_book.specs.States.{Plan}
use Rattle.history_book.proofs.Lists.{in_front, in_behind, in_either}
use Rattle.line_machine.specs.Kits.{weigh, kit_out, kits_out, kits_of, AreOfTheirs, KitsStay, KitsAreTheirs, OpenedKitsAreTheirs}
use Rattle.line_machine.specs.Steps as m
use Rattle.line_machine.specs.Effects.{home_with, closed_of, one_less, in_parcel, without_kit, back_with, new_batch}
use Rattle.line_machine.specs.Views.{Kit, Batch, LineView, batch_of, change_batch, without_batch}

abbrev kits_of_option : Option Batch → List Kit
kits_of_option None = []
kits_of_option (Some y) = kit_out y.kit

pub weigh_both : {X : Type 0} (w : X → ℕ) (xs ys : List X) → weigh w (xs ++ ys) ≡ weigh w xs + weigh w ys
weigh_both w [] ys = omega arith
weigh_both w (x ∷ xs) ys = let more = weigh_both w xs ys in omega (arith, more)

module _ (w : Kit → ℕ) where
  home_or_closed : (generation : ℕ) (kit : Kit) (kits : List Kit) → weigh w (home_with generation kit kits) + weigh w (closed_of generation kit) ≡ weigh w kits + w kit
  home_or_closed generation kit kits = by_test (kit.generation == generation)
    where
      by_test : (b : Bool) → weigh w (if b then kits ++ kit ∷ [] else kits) + weigh w (if b then [] else kit ∷ []) ≡ weigh w kits + w kit
      by_test true = let both = weigh_both w kits (kit ∷ []) in omega (arith, both)
      by_test false = omega arith

  outs_both : (bs cs : List Batch) → weigh w (kits_out (bs ++ cs)) ≡ weigh w (kits_out bs) + weigh w (kits_out cs)
  outs_both [] cs = omega arith
  outs_both (b ∷ bs) cs =
      let more = outs_both bs cs in
      omega (arith, more, weigh_both w (kit_out b.kit) (kits_out (bs ++ cs)), weigh_both w (kit_out b.kit) (kits_out bs))

  -- a kit leaves its batch
  kit_leaves : (f : Batch → Batch) → ((b : Batch) → (f b).kit ≡ None) → (n : ℕ) (b : Batch) (bs : List Batch) → batch_of n bs ≡ Some b
      → weigh w (kits_out bs) ≡ weigh w (kits_out (change_batch f n bs)) + weigh w (kit_out b.kit)
  kit_leaves f none n b [] has = absurd (cc)
  kit_leaves f none n b (x ∷ bs) has = by_test (kit_leaves f none n b bs) (n == x.number) has
    where
      by_test : (batch_of n bs ≡ Some b → weigh w (kits_out bs) ≡ weigh w (kits_out (change_batch f n bs)) + weigh w (kit_out b.kit)) → (t : Bool)
          → (if t then Some x else batch_of n bs) ≡ Some b → weigh w (kits_out (x ∷ bs)) ≡ weigh w (kits_out (if t then f x ∷ bs else x ∷ change_batch f n bs)) + weigh w (kit_out b.kit)
      by_test rest true is =
          let same = ap (λ (y : Option Batch). weigh w (kits_of_option y)) is in
          let gone = ap (λ k. weigh w (kit_out k)) (none x) in
          omega (arith, same, gone, weigh_both w (kit_out x.kit) (kits_out bs), weigh_both w (kit_out (f x).kit) (kits_out bs))
      by_test rest false is =
          let more = rest is in omega (arith, more, weigh_both w (kit_out x.kit) (kits_out bs), weigh_both w (kit_out x.kit) (kits_out (change_batch f n bs)))

outs_kept : (f : Batch → Batch) → ((b : Batch) → (f b).kit ≡ b.kit) → (n : ℕ) (bs : List Batch) → kits_out (change_batch f n bs) ≡ kits_out bs
outs_kept f keeps n [] = refl
outs_kept f keeps n (x ∷ bs) = by_test (outs_kept f keeps n bs) (n == x.number)
  where
    by_test : kits_out (change_batch f n bs) ≡ kits_out bs → (t : Bool) → kits_out (if t then f x ∷ bs else x ∷ change_batch f n bs) ≡ kits_out (x ∷ bs)
    by_test rest true = ap (λ k. kit_out k ++ kits_out bs) (keeps x)
    by_test rest false = ap (λ l. kit_out x.kit ++ l) rest

-- a batch without one leaves
outs_without : (n : ℕ) (b : Batch) (bs : List Batch) → batch_of n bs ≡ Some b → b.kit ≡ None → kits_out (without_batch n bs) ≡ kits_out bs
outs_without n b [] has none = absurd (cc)
outs_without n b (x ∷ bs) has none = by_test (λ is. outs_without n b bs is none) (n == x.number) has
  where
    by_test : (batch_of n bs ≡ Some b → kits_out (without_batch n bs) ≡ kits_out bs) → (t : Bool) → (if t then Some x else batch_of n bs) ≡ Some b
        → kits_out (if t then bs else x ∷ without_batch n bs) ≡ kits_out (x ∷ bs)
    by_test rest true is = sym (ap (λ k. kit_out k ++ kits_out bs) (of_it is ∙ none))
      where
        of_it : Some x ≡ Some b → x.kit ≡ b.kit
        of_it e = cc
    by_test rest false is = ap (λ l. kit_out x.kit ++ l) (rest is)

module _ (makes : Makes) (listening : Listening) (bytes : Bytes) (places : Places) where
  changed_still : (i : LineView places) (n : ℕ) (rest : List Due) (w : Kit → ℕ) → weigh w (i.kits ++ kits_out (change_batch (one_less rest) n i.batches)) + 0 ≡ weigh w (kits_of i) + 0
  changed_still i n rest w = ap (λ l. weigh w (i.kits ++ l) + 0) (outs_kept (one_less rest) (λ b. refl) n i.batches)

  pub kits_stay : KitsStay makes listening bytes places
  kits_stay i (m.Reads t k) w =
      let new = kits_out (new_batch i t.rows (Some k.kit) ∷ []) in
      let home = ap (weigh w) k.at_home in
      let outs = outs_both w i.batches (new_batch i t.rows (Some k.kit) ∷ []) in
      omega (
        arith,
        home,
        outs,
        weigh_both w k.front (k.kit ∷ k.back),
        weigh_both w k.front k.back,
        weigh_both w i.kits (kits_out i.batches),
        weigh_both w (k.front ++ k.back) (kits_out (i.batches ++ new_batch i t.rows (Some k.kit) ∷ [])),
      )
  kits_stay i (m.Works t k verdicts uses) w =
      let outs = outs_both w i.batches (back_with makes verdicts (new_batch i t.rows None) ∷ []) in
      omega (arith, outs, weigh_both w i.kits (kits_out i.batches), weigh_both w i.kits (kits_out (i.batches ++ back_with makes verdicts (new_batch i t.rows None) ∷ [])))
  kits_stay i (m.Collects n a verdicts uses) w =
      let f = back_with makes verdicts in
      let leaves = kit_leaves w (back_with makes verdicts) (λ b. refl) n a.batch i.batches a.has in
      let its = ap (λ k. weigh w (kit_out k)) a.kit_is in
      let home = home_or_closed w i.plan.generation a.kit i.kits in
      omega (
        arith,
        leaves,
        its,
        home,
        weigh_both w i.kits (kits_out i.batches),
        weigh_both w (home_with i.plan.generation a.kit i.kits) (kits_out (change_batch (back_with makes verdicts) n i.batches)),
      )
  kits_stay i (m.Loses_a_result n a) w =
      let leaves = kit_leaves w without_kit (λ b. refl) n a.batch i.batches a.has in
      let its = ap (λ k. weigh w (kit_out k)) a.kit_is in
      let home = home_or_closed w i.plan.generation a.kit i.kits in
      omega (
        arith,
        leaves,
        its,
        home,
        weigh_both w i.kits (kits_out i.batches),
        weigh_both w (home_with i.plan.generation a.kit i.kits) (kits_out (change_batch without_kit n i.batches)),
      )
  kits_stay i (m.Tells n parts rest h a) w = changed_still i n rest w
  kits_stay i (m.Gives n id at events rest h plain) w = changed_still i n rest w
  kits_stay i (m.Is_taken n id number events rest h fates are none) w = changed_still i n rest w
  kits_stay i (m.Is_rejected n id number events rest h fates are some a) w = changed_still i n rest w
  kits_stay i (m.Sends n id address events rest h none q is some may) w = ap (λ l. weigh w (i.kits ++ l) + 0) (outs_kept (in_parcel (Some q.number)) (λ b. refl) n i.batches)
  kits_stay i (m.Is_heard n id address events rest h number is was) w = changed_still i n rest w
  kits_stay i (m.Is_not_heard n id address events rest h number is was) w = ap (λ l. weigh w (i.kits ++ l) + 0) (outs_kept (in_parcel None) (λ b. refl) n i.batches)
  kits_stay i (m.Acknowledges_it n h queue a) w = ap (λ l. weigh w (i.kits ++ l) + 0) (outs_without n h.batch i.batches h.has h.no_kit)
  kits_stay i (m.Adopts c) w = omega (arith, weigh_both w c.kits (kits_out i.batches), weigh_both w i.kits (kits_out i.batches))
  kits_stay i (m.Accepts n c r true) w = refl
  kits_stay i (m.Accepts_parcel n a r true) w = refl
  kits_stay i x w = refl

  -- ---- each of its own generation

  abbrev HasKit : Batch → Kit → Type 0
  HasKit b k = (k.generation ≡ b.plan.generation) × (b.verdicts ≡ None)

  changed_out : (f : Batch → Batch) (n : ℕ) (bs : List Batch) → ((b : Batch) (k : Kit) → (f b).kit ≡ Some k → (b.kit ≡ Some k) × ((f b).plan ≡ b.plan) × ((f b).verdicts ≡ b.verdicts))
      → ((b : Batch) → IsIn b bs → (k : Kit) → b.kit ≡ Some k → HasKit b k) → (b : Batch) → IsIn b (change_batch f n bs) → (k : Kit) → b.kit ≡ Some k → HasKit b k
  changed_out f n [] keeps are b has k is = absurd has
  changed_out f n (x ∷ bs) keeps are b has k is = by_test (λ i. changed_out f n bs keeps (λ y j. are y (inr j)) b i k is) (n == x.number) has
    where
      of_first : b ≡ f x → HasKit b k
      of_first e =
          let was = keeps x k (sym (ap (λ (y : Batch). y.kit) e) ∙ is) in
          let its = are x (inl refl) k was.0 in
          (its.0 ∙ sym (ap (λ (y : Batch). y.plan.generation) e ∙ ap (λ (q : Plan). q.generation) was.1), ap (λ (y : Batch). y.verdicts) e ∙ was.2 ∙ its.1)

      by_test : (IsIn b (change_batch f n bs) → HasKit b k) → (t : Bool) → IsIn b (if t then f x ∷ bs else x ∷ change_batch f n bs) → HasKit b k
      by_test rest true (inl e) = of_first e
      by_test rest true (inr i) = are b (inr i) k is
      by_test rest false (inl e) = are b (inl e) k is
      by_test rest false (inr i) = rest i

  without_out : (n : ℕ) (bs : List Batch) → ((b : Batch) → IsIn b bs → (k : Kit) → b.kit ≡ Some k → HasKit b k) → (b : Batch) → IsIn b (without_batch n bs) → (k : Kit) → b.kit ≡ Some k → HasKit b k
  without_out n [] are b has k is = absurd has
  without_out n (x ∷ bs) are b has k is = by_test (λ i. without_out n bs (λ y j. are y (inr j)) b i k is) (n == x.number) has
    where
      by_test : (IsIn b (without_batch n bs) → HasKit b k) → (t : Bool) → IsIn b (if t then bs else x ∷ without_batch n bs) → HasKit b k
      by_test rest true i = are b (inr i) k is
      by_test rest false (inl e) = are b (inl e) k is
      by_test rest false (inr i) = rest i

  home_are : (generation : ℕ) (kit : Kit) (kits : List Kit) → ((k : Kit) → IsIn k kits → k.generation ≡ generation) → (k : Kit) → IsIn k (home_with generation kit kits) → k.generation ≡ generation
  home_are generation kit kits are k has = by_test (kit.generation == generation) refl has
    where
      by_test : (b : Bool) → (kit.generation == generation) ≡ b → IsIn k (if b then kits ++ kit ∷ [] else kits) → k.generation ≡ generation
      by_test true test i = ⊎_elim (are k) (λ (j : IsIn k (kit ∷ [])). ⊎_elim (λ (e : k ≡ kit). ap (λ (y : Kit). y.generation) e ∙ eqb-true kit.generation generation test) (λ (never : ⊥). absurd never) j) (in_either k kits (kit ∷ []) i)
      by_test false test i = are k i

  none_some : (k : Kit) → None ≡ Some k → ⊥
  none_some k e = cc

  delivered_out : (i : LineView places) (n : ℕ) (rest : List Due) → AreOfTheirs i → (b : Batch) → IsIn b (change_batch (one_less rest) n i.batches) → (k : Kit) → b.kit ≡ Some k → HasKit b k
  delivered_out i n rest are = changed_out (one_less rest) n i.batches (λ b k is. (is, refl, refl)) are.out

  pub kits_are_theirs : KitsAreTheirs makes listening bytes places
  kits_are_theirs i (m.Reads t k) are = record {
    home = λ x has. are.home x (subst (IsIn x) (sym k.at_home) (⊎_elim (λ (j : IsIn x k.front). in_front x k.front (k.kit ∷ k.back) j) (λ (j : IsIn x k.back). in_behind x k.front (k.kit ∷ k.back) (inr j)) (in_either x k.front k.back has)));
    out = λ b has x is. ⊎_elim (λ (j : IsIn b i.batches). are.out b j x is) (λ (j : IsIn b (new_batch i t.rows (Some k.kit) ∷ [])). newest b x is j) (in_either b i.batches (new_batch i t.rows (Some k.kit) ∷ []) has);
  }
    where
      newest : (b : Batch) (x : Kit) → b.kit ≡ Some x → IsIn b (new_batch i t.rows (Some k.kit) ∷ []) → HasKit b x
      newest b x is (inl e) =
          let same = same_Some k.kit x (sym (ap (λ (y : Batch). y.kit) e) ∙ is) in
          let home = are.home k.kit (subst (IsIn k.kit) (sym k.at_home) (in_behind k.kit k.front (k.kit ∷ k.back) (inl refl))) in
          (sym (ap (λ (y : Kit). y.generation) same) ∙ home ∙ sym (ap (λ (y : Batch). y.plan.generation) e), ap (λ (y : Batch). y.verdicts) e)
      newest b x is (inr never) = absurd never
  kits_are_theirs i (m.Works t k verdicts uses) are = record {
    home = are.home;
    out = λ b has x is. ⊎_elim (λ (j : IsIn b i.batches). are.out b j x is) (λ (j : IsIn b (back_with makes verdicts (new_batch i t.rows None) ∷ [])). newest b x is j)
        (in_either b i.batches (back_with makes verdicts (new_batch i t.rows None) ∷ []) has);
  }
    where
      newest : (b : Batch) (x : Kit) → b.kit ≡ Some x → IsIn b (back_with makes verdicts (new_batch i t.rows None) ∷ []) → HasKit b x
      newest b x is (inl e) = absurd (none_some x (sym (ap (λ (y : Batch). y.kit) e) ∙ is))
      newest b x is (inr never) = absurd never
  kits_are_theirs i (m.Collects n a verdicts uses) are = record {
    home = home_are i.plan.generation a.kit i.kits are.home;
    out = changed_out (back_with makes verdicts) n i.batches (λ b k is. absurd (none_some k is)) are.out;
  }
  kits_are_theirs i (m.Loses_a_result n a) are = record {
    home = home_are i.plan.generation a.kit i.kits are.home;
    out = changed_out without_kit n i.batches (λ b k is. absurd (none_some k is)) are.out;
  }
  kits_are_theirs i (m.Tells n parts rest h a) are = record { home = are.home; out = delivered_out i n rest are }
  kits_are_theirs i (m.Gives n id at events rest h plain) are = record { home = are.home; out = delivered_out i n rest are }
  kits_are_theirs i (m.Is_taken n id number events rest h fates fit none) are = record { home = are.home; out = delivered_out i n rest are }
  kits_are_theirs i (m.Is_rejected n id number events rest h fates fit some a) are = record { home = are.home; out = delivered_out i n rest are }
  kits_are_theirs i (m.Sends n id address events rest h none q is some may) are =
      record { home = are.home; out = changed_out (in_parcel (Some q.number)) n i.batches (λ b k is. (is, refl, refl)) are.out }
  kits_are_theirs i (m.Is_heard n id address events rest h number is was) are = record { home = are.home; out = delivered_out i n rest are }
  kits_are_theirs i (m.Is_not_heard n id address events rest h number is was) are =
      record { home = are.home; out = changed_out (in_parcel None) n i.batches (λ b k is. (is, refl, refl)) are.out }
  kits_are_theirs i (m.Acknowledges_it n h queue a) are = record { home = are.home; out = without_out n i.batches are.out }
  kits_are_theirs i (m.Adopts c) are = record { home = c.made_of; out = are.out }
  kits_are_theirs i (m.Accepts n c r true) are = are
  kits_are_theirs i (m.Accepts_parcel n a r true) are = are
  kits_are_theirs i x are = record { home = are.home; out = are.out }

  pub opened_kits : OpenedKitsAreTheirs makes listening bytes places
  opened_kits told image sound i is = record { home = is.kits; out = λ b has. absurd (subst (IsIn b) is.batches has) }
