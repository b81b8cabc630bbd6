-- Inputs of a line that are changed one by one, and those that another configuration carries on.
use Rattle.std.proofs.Common.{◌≡◌, ◌⊎◌, ⊎_elim, ℕ, suc, ◌+◌, ◌≤◌, ◌<◌, ◌==◌, Bool, true, false, List, [], ◌∷◌, length, map, Option, Some, None, if◌then◌else◌, refl, sym, ap, ◌∙◌, subst, inl, inr, arith}
use Rattle.std.specs.Prelude.{⊤}
use Rattle.std.proofs.lemmas.Bool.{eqb-true, eq-eqb}
use Rattle.std.proofs.lemmas.List.{length-map}
use Rattle.config_tree.specs.declared.tree.Plugin.{Plugin}
use Rattle.std.proofs.lemmas.Option.{same_Some}
use Rattle.history_book.specs.Inputs.{Input, IsInput, AreInputs, Renumbered, Continues, IsNew, closed, named_from}
use Rattle.history_book.specs.Lists.{IsIn}
use Rattle.history_book.specs.States.{Plan}
use Rattle.line_machine.specs.Effects.{begun, view_of, carried}
use Rattle.line_machine.specs.Views.{InputView, input_of, inputs_of, input_at, change_input}

module _ (f : InputView → InputView) (keeps : (v : InputView) → input_of (f v) ≡ input_of v) (n : ℕ) where
  one_changed : (v : InputView) (vs : List InputView) → inputs_of (change_input f n vs) ≡ inputs_of vs → (b : Bool)
      → inputs_of (if b then f v ∷ vs else v ∷ change_input f n vs) ≡ input_of v ∷ inputs_of vs
  one_changed v vs rest true = ap (λ x. x ∷ inputs_of vs) (keeps v)
  one_changed v vs rest false = ap (λ l. input_of v ∷ l) rest

  pub inputs_same : (vs : List InputView) → inputs_of (change_input f n vs) ≡ inputs_of vs
  inputs_same [] = refl
  inputs_same (v ∷ vs) = one_changed v vs (inputs_same vs) (n == v.number)

module _ (n : ℕ) (v : InputView) where
  first_at : (w : InputView) (vs : List InputView) → (input_at n vs ≡ Some v → IsIn (input_of v) (inputs_of vs) × (v.number ≡ n)) → (b : Bool) → (n == w.number) ≡ b
      → (if b then Some w else input_at n vs) ≡ Some v → IsIn (input_of v) (inputs_of (w ∷ vs)) × (v.number ≡ n)
  first_at w vs rest true test is =
      let same = same_Some w v is in
      (inl (sym (ap input_of same)), sym (ap (λ (x : InputView). x.number) same) ∙ sym (eqb-true n w.number test))
  first_at w vs rest false test is = let more = rest is in (inr more.0, more.1)

  pub input_in : (vs : List InputView) → input_at n vs ≡ Some v → IsIn (input_of v) (inputs_of vs) × (v.number ≡ n)
  input_in [] is = absurd (cc)
  input_in (w ∷ vs) is = first_at w vs (input_in vs) (n == w.number) refl is

  -- it is the input of this number
  pub is_input : (plans : List Plan) (vs : List InputView) → AreInputs plans (inputs_of vs) → input_at n vs ≡ Some v → IsInput plans n (input_of v)
  is_input plans vs are is = let has = input_in vs is in record { inputs = inputs_of vs; are = are; has = has.0; number_is = has.1 }

view_is : (x : Input) (v : Option InputView) → input_of (view_of x v) ≡ x
view_is x None = refl
view_is x (Some v) = refl

pub carried_are : (before : List InputView) (xs : List Input) → inputs_of (map (carried before) xs) ≡ xs
carried_are before [] = refl
carried_are before (x ∷ xs) =
    ap (λ y. y ∷ inputs_of (map (carried before) xs)) (view_is x (input_at x.number before)) ∙ ap (λ l. x ∷ l) (carried_are before xs)

pub begun_are : (xs : List Input) → inputs_of (map begun xs) ≡ xs
begun_are [] = refl
begun_are (x ∷ xs) = ap (λ l. x ∷ l) (begun_are xs)

-- ---- numbers of inputs

-- no two have the same
abbrev pub AreInputsApart : List Input → Type 0
AreInputsApart [] = ⊤
AreInputsApart (x ∷ xs) = ((y : Input) → IsIn y xs → y.number ≡ x.number → ⊥) × AreInputsApart xs

pub same_input : (xs : List Input) → AreInputsApart xs → (x y : Input) → IsIn x xs → IsIn y xs → x.number ≡ y.number → x ≡ y
same_input [] apart x y i j same = absurd i
same_input (z ∷ xs) apart x y (inl e) (inl f) same = e ∙ sym f
same_input (z ∷ xs) apart x y (inl e) (inr j) same = absurd (apart.0 y j (sym same ∙ ap (λ (u : Input). u.number) e))
same_input (z ∷ xs) apart x y (inr i) (inl f) same = absurd (apart.0 x i (same ∙ ap (λ (u : Input). u.number) f))
same_input (z ∷ xs) apart x y (inr i) (inr j) same = same_input xs apart.1 x y i j same

-- one of them goes on: the others are those that are left
module _ (p : Plugin) where
  left_has : (is : List Input) (number : ℕ) (others : List Input) → Continues p is number others → (i : Input) → IsIn i others → IsIn i is
  left_has [] number others goes i has = absurd goes
  left_has (x ∷ is) number others (inl here) i has = inr (subst (IsIn i) here.3 has)
  left_has (x ∷ is) number others (inr there) i has =
      ⊎_elim (λ (e : i ≡ x). inl e) (λ (j : IsIn i there.1). inr (left_has is number there.1 there.3 i j)) (subst (IsIn i) there.2 has)

  -- each is one of those, or the one that goes on
  goes_or_left : (is : List Input) (number : ℕ) (others : List Input) → Continues p is number others → (i : Input) → IsIn i is
      → ((i.number ≡ number) × (i.statement ≡ p) × (i.is_open ≡ true)) ⊎ IsIn i others
  goes_or_left [] number others goes i has = absurd goes
  goes_or_left (x ∷ is) number others (inl here) i (inl e) =
      inl (ap (λ (u : Input). u.number) e ∙ sym here.2, ap (λ (u : Input). u.statement) e ∙ here.0, ap (λ (u : Input). u.is_open) e ∙ here.1)
  goes_or_left (x ∷ is) number others (inl here) i (inr j) = inr (subst (IsIn i) (sym here.3) j)
  goes_or_left (x ∷ is) number others (inr there) i (inl e) = inr (subst (IsIn i) (sym there.2) (inl e))
  goes_or_left (x ∷ is) number others (inr there) i (inr j) =
      ⊎_elim (λ (g : (i.number ≡ number) × (i.statement ≡ p) × (i.is_open ≡ true)). inl g) (λ (k : IsIn i there.1). inr (subst (IsIn i) (sym there.2) (inr k)))
      (goes_or_left is number there.1 there.3 i j)

  -- the one that goes on is among them
  goes_on : (is : List Input) (number : ℕ) (others : List Input) → Continues p is number others → (i : Input) × IsIn i is × (i.number ≡ number) × (i.statement ≡ p) × (i.is_open ≡ true)
  goes_on [] number others goes = absurd goes
  goes_on (x ∷ is) number others (inl here) = (x, inl refl, sym here.2, here.0, here.1)
  goes_on (x ∷ is) number others (inr there) = let rest = goes_on is number there.1 there.3 in (rest.0, inr rest.1, rest.2, rest.3, rest.4)

  left_length : (is : List Input) (number : ℕ) (others : List Input) → Continues p is number others → length is ≡ suc (length others)
  left_length [] number others goes = absurd goes
  left_length (x ∷ is) number others (inl here) = ap suc (sym (ap length here.3))
  left_length (x ∷ is) number others (inr there) = ap suc (left_length is number there.1 there.3 ∙ sym (ap length there.2))

  -- they are apart from each other and from that
  left_apart : (is : List Input) (number : ℕ) (others : List Input) → Continues p is number others → AreInputsApart is
      → AreInputsApart others × ((i : Input) → IsIn i others → i.number ≡ number → ⊥)
  left_apart [] number others goes apart = absurd goes
  left_apart (x ∷ is) number others (inl here) apart =
      (subst AreInputsApart (sym here.3) apart.1, λ i has same. apart.0 i (subst (IsIn i) here.3 has) (same ∙ here.2))
  left_apart (x ∷ is) number others (inr there) apart =
      let rest = left_apart is number there.1 there.3 apart.1 in (
        subst AreInputsApart (sym there.2) (λ i has same. apart.0 i (left_has is number there.1 there.3 i has) same, rest.0),
        λ i has same. of_parts rest.1 i same (subst (IsIn i) there.2 has),
      )
    where
      of_parts : ((i : Input) → IsIn i there.1 → i.number ≡ number → ⊥) → (i : Input) → i.number ≡ number → IsIn i (x ∷ there.1) → ⊥
      of_parts rest i same (inl e) =
          let on = goes_on is number there.1 there.3 in apart.0 on.0 on.1 (on.2 ∙ sym same ∙ ap (λ (u : Input). u.number) e)
      of_parts rest i same (inr j) = rest i j same

-- an input that goes on, or is closed, has the number and the statement that it had, and was open if it is
pub record IsOld (x : Input) (before : List Input) : Type 0 where
  pub was : Input
  pub has : IsIn was before
  pub number : was.number ≡ x.number
  pub statement : was.statement ≡ x.statement
  pub still_open : x.is_open ≡ true → was.is_open ≡ true

closed_in : (x : Input) (before : List Input) → IsIn x (map closed before) → IsOld x before
closed_in x [] has = absurd has
closed_in x (y ∷ before) (inl e) = record {
  was = y;
  has = inl refl;
  number = sym (ap (λ (u : Input). u.number) e);
  statement = sym (ap (λ (u : Input). u.statement) e);
  still_open = λ opens. absurd (differs (sym (ap (λ (u : Input). u.is_open) e) ∙ opens));
}
  where
    differs : false ≡ true → ⊥
    differs c = cc
closed_in x (y ∷ before) (inr i) =
    let rest = closed_in x before i in record { was = rest.was; has = inr rest.has; number = rest.number; statement = rest.statement; still_open = rest.still_open }

closed_apart : (before : List Input) → AreInputsApart before → AreInputsApart (map closed before)
closed_apart [] apart = tt
closed_apart (x ∷ before) apart = (λ y has same. let old = closed_in y before has in apart.0 old.was old.has (old.number ∙ same), closed_apart before apart.1)

-- the first statement is that of an input that goes on, or of one that begins
abbrev Goes : ℕ → List Input → Plugin × List ℕ → List (Plugin × List ℕ) → ℕ → List Input → Type 0
Goes unused before p ps number rest = (others : List Input) × Continues p.0 before number others × Renumbered unused others ps rest

abbrev Begins : ℕ → List Input → Plugin × List ℕ → List (Plugin × List ℕ) → ℕ → List Input → Type 0
Begins unused before p ps number rest = IsNew p.0 before × (number ≡ unused) × Renumbered (suc unused) before ps rest

-- there are no fewer
pub renumbered_length : (unused : ℕ) (before : List Input) (ps : List (Plugin × List ℕ)) (now : List Input) → Renumbered unused before ps now → length before ≤ length now
renumbered_length unused before [] now same = let is = ap length same in let kept = length-map before closed in omega (arith, is, kept)
renumbered_length unused before (p ∷ ps) now numbered = let count = ap length numbered.2 in ⊎_elim
    (λ (goes : Goes unused before p ps numbered.0.number numbered.1).
    let rest = renumbered_length unused goes.0 ps numbered.1 goes.2 in let left = left_length p.0 before numbered.0.number goes.0 goes.1 in omega (arith, rest, left, count))
    (λ (new : Begins unused before p ps numbered.0.number numbered.1). let rest = renumbered_length (suc unused) before ps numbered.1 new.2 in omega (arith, rest, count)) numbered.6

-- Inputs of another configuration: each is an old one, or has a number from the first unused one on.
abbrev IsOldOrNew : ℕ → List Input → List Input → Input → Type 0
IsOldOrNew unused before now x = IsOld x before ⊎ ((unused ≤ x.number) × (x.number + length before < unused + length now))

old_of_left : (p : Plugin) (number : ℕ) (others before : List Input) (x : Input) → Continues p before number others → IsOld x others → IsOld x before
old_of_left p number others before x goes old = record {
  was = old.was;
  has = left_has p before number others goes old.was old.has;
  number = old.number;
  statement = old.statement;
  still_open = old.still_open;
}

pub renumbered_has : (unused : ℕ) (before : List Input) (ps : List (Plugin × List ℕ)) (now : List Input) → Renumbered unused before ps now → (x : Input) → IsIn x now → IsOldOrNew unused before now x
renumbered_has unused before [] now same x has = inl (closed_in x before (subst (IsIn x) same has))
renumbered_has unused before (p ∷ ps) now numbered x has = by_way numbered.6
    (λ (goes : Goes unused before p ps numbered.0.number numbered.1) (i : IsIn x numbered.1). renumbered_has unused goes.0 ps numbered.1 goes.2 x i)
    (λ (new : Begins unused before p ps numbered.0.number numbered.1) (i : IsIn x numbered.1). renumbered_has (suc unused) before ps numbered.1 new.2 x i) (subst (IsIn x) numbered.2 has)
  where
    count : length now ≡ suc (length numbered.1)
    count = ap length numbered.2

    by_way : Goes unused before p ps numbered.0.number numbered.1 ⊎ Begins unused before p ps numbered.0.number numbered.1
        → ((goes : Goes unused before p ps numbered.0.number numbered.1) → IsIn x numbered.1 → IsOldOrNew unused goes.0 numbered.1 x)
        → (Begins unused before p ps numbered.0.number numbered.1 → IsIn x numbered.1 → IsOldOrNew (suc unused) before numbered.1 x) → IsIn x (numbered.0 ∷ numbered.1) → IsOldOrNew unused before now x
    by_way (inl goes) rest_on rest_new (inl e) =
        let on = goes_on p.0 before numbered.0.number goes.0 goes.1 in
        inl (record {
          was = on.0;
          has = on.1;
          number = on.2 ∙ sym (ap (λ (u : Input). u.number) e);
          statement = on.3 ∙ sym numbered.3 ∙ sym (ap (λ (u : Input). u.statement) e);
          still_open = λ opens. on.4;
        })
    by_way (inl goes) rest_on rest_new (inr i) = ⊎_elim (λ (old : IsOld x goes.0). inl (old_of_left p.0 numbered.0.number goes.0 before x goes.1 old))
        (λ (new : (unused ≤ x.number) × (x.number + length goes.0 < unused + length numbered.1)).
        inr (new.0, (let less = new.1 in let left = left_length p.0 before numbered.0.number goes.0 goes.1 in omega (arith, less, left, count)))) (rest_on goes i)
    by_way (inr new) rest_on rest_new (inl e) =
        let same = ap (λ (u : Input). u.number) e in
        let is = new.1 in
        let least = renumbered_length (suc unused) before ps numbered.1 new.2 in
        inr (omega (arith, same, is), omega (arith, same, is, count, least))
    by_way (inr new) rest_on rest_new (inr i) = ⊎_elim (λ (old : IsOld x before). inl old)
        (λ (more : (suc unused ≤ x.number) × (x.number + length before < suc unused + length numbered.1)).
        inr ((let least = more.0 in omega (arith, least)), (let less = more.1 in omega (arith, less, count)))) (rest_new new i)

-- each of the old ones is there still
abbrev IsThere : Input → List Input → Type 0
IsThere i now = (x : Input) × IsIn x now × (x.number ≡ i.number) × (x.statement ≡ i.statement) × (x.is_open ≡ true → i.is_open ≡ true)

closed_there : (i : Input) (is : List Input) → IsIn i is → IsThere i (map closed is)
closed_there i [] j = absurd j
closed_there i (y ∷ is) (inl e) = (closed y, inl refl, sym (ap (λ (u : Input). u.number) e), sym (ap (λ (u : Input). u.statement) e), λ opens. absurd (differs opens))
  where
    differs : false ≡ true → ⊥
    differs c = cc
closed_there i (y ∷ is) (inr j) = let rest = closed_there i is j in (rest.0, inr rest.1, rest.2, rest.3, rest.4)

pub renumbered_keeps : (unused : ℕ) (before : List Input) (ps : List (Plugin × List ℕ)) (now : List Input) → Renumbered unused before ps now → (i : Input) → IsIn i before → IsThere i now
renumbered_keeps unused before [] now same i has = subst (IsThere i) (sym same) (closed_there i before has)
renumbered_keeps unused before (p ∷ ps) now numbered i has = subst (IsThere i) (sym numbered.2) (⊎_elim
    (λ (goes : Goes unused before p ps numbered.0.number numbered.1). ⊎_elim
    (λ (on : (i.number ≡ numbered.0.number) × (i.statement ≡ p.0) × (i.is_open ≡ true)). (numbered.0, inl refl, sym on.0, numbered.3 ∙ sym on.1, λ opens. on.2))
    (λ (left : IsIn i goes.0). later (renumbered_keeps unused goes.0 ps numbered.1 goes.2 i left))
    (goes_or_left p.0 before numbered.0.number goes.0 goes.1 i has))
    (λ (new : Begins unused before p ps numbered.0.number numbered.1). later (renumbered_keeps (suc unused) before ps numbered.1 new.2 i has)) numbered.6)
  where
    later : IsThere i numbered.1 → IsThere i (numbered.0 ∷ numbered.1)
    later rest = (rest.0, inr rest.1, rest.2, rest.3, rest.4)

-- they are apart where the old ones are, with numbers below the first unused one
pub renumbered_apart : (unused : ℕ) (before : List Input) (ps : List (Plugin × List ℕ)) (now : List Input) → Renumbered unused before ps now → AreInputsApart before
    → ((i : Input) → IsIn i before → i.number < unused) → AreInputsApart now
renumbered_apart unused before [] now same apart below = subst AreInputsApart (sym same) (closed_apart before apart)
renumbered_apart unused before (p ∷ ps) now numbered apart below = subst AreInputsApart (sym numbered.2) (⊎_elim
    (λ (goes : Goes unused before p ps numbered.0.number numbered.1).
    let left = left_apart p.0 before numbered.0.number goes.0 goes.1 apart in (
      λ y has same. ⊎_elim (λ (old : IsOld y goes.0). left.1 old.was old.has (old.number ∙ same))
          (λ (new : (unused ≤ y.number) × (y.number + length goes.0 < unused + length numbered.1)).
          let on = goes_on p.0 before numbered.0.number goes.0 goes.1 in let less = below on.0 on.1 in let least = new.0 in let is = on.2 in omega (arith, less, least, is, same))
          (renumbered_has unused goes.0 ps numbered.1 goes.2 y has),
      renumbered_apart unused goes.0 ps numbered.1 goes.2 left.0 (λ i has. below i (left_has p.0 before numbered.0.number goes.0 goes.1 i has)),
    ))
    (λ (new : Begins unused before p ps numbered.0.number numbered.1). (
      λ y has same. ⊎_elim (λ (old : IsOld y before). let less = below old.was old.has in let one = old.number in let is = new.1 in omega (arith, less, one, is, same))
          (λ (more : (suc unused ≤ y.number) × (y.number + length before < suc unused + length numbered.1)). let least = more.0 in let is = new.1 in omega (arith, least, is, same))
          (renumbered_has (suc unused) before ps numbered.1 new.2 y has),
      renumbered_apart (suc unused) before ps numbered.1 new.2 apart (λ i has. let less = below i has in omega (arith, less)),
    )) numbered.6)

-- So the inputs of a line are apart, and their numbers are below how many there are.
pub inputs_apart : (plans : List Plan) (now : List Input) → AreInputs plans now → AreInputsApart now × ((x : Input) → IsIn x now → x.number < length now)
inputs_apart [] now same = (subst AreInputsApart (sym same) tt, λ x has. absurd (subst (IsIn x) same has))
inputs_apart (plan ∷ plans) now are =
    let old = inputs_apart plans are.0 are.1 in
    let names = named_from 1 plan.config.inputs in (
      renumbered_apart (length are.0) are.0 names now are.2 old.0 old.1,
      λ x has. ⊎_elim
          (λ (o : IsOld x are.0). let less = old.1 o.was o.has in let same = o.number in let more = renumbered_length (length are.0) are.0 names now are.2 in omega (arith, less, same, more))
          (λ (n : (length are.0 ≤ x.number) × (x.number + length are.0 < length are.0 + length now)). let less = n.1 in omega (arith, less))
          (renumbered_has (length are.0) are.0 names now are.2 x has),
    )

-- ---- views of inputs

pub view_in : (v : InputView) (vs : List InputView) → IsIn v vs → IsIn (input_of v) (inputs_of vs)
view_in v [] has = absurd has
view_in v (x ∷ vs) (inl e) = inl (ap input_of e)
view_in v (x ∷ vs) (inr i) = inr (view_in v vs i)

pub in_view : (x : Input) (vs : List InputView) → IsIn x (inputs_of vs) → (v : InputView) × IsIn v vs × (x ≡ input_of v)
in_view x [] has = absurd has
in_view x (v ∷ vs) (inl e) = (v, inl refl, e)
in_view x (v ∷ vs) (inr i) = let rest = in_view x vs i in (rest.0, inr rest.1, rest.2)

-- two of a line with the same number are one
abbrev pub AreViewsApart : List InputView → Type 0
AreViewsApart [] = ⊤
AreViewsApart (v ∷ vs) = ((u : InputView) → IsIn u vs → u.number ≡ v.number → ⊥) × AreViewsApart vs

pub views_apart : (vs : List InputView) → AreInputsApart (inputs_of vs) → AreViewsApart vs
views_apart [] apart = tt
views_apart (v ∷ vs) apart = (λ u has same. apart.0 (input_of u) (view_in u vs has) same, views_apart vs apart.1)

pub same_view : (vs : List InputView) → AreViewsApart vs → (u v : InputView) → IsIn u vs → IsIn v vs → u.number ≡ v.number → u ≡ v
same_view [] apart u v i j same = absurd i
same_view (x ∷ vs) apart u v (inl e) (inl f) same = e ∙ sym f
same_view (x ∷ vs) apart u v (inl e) (inr j) same = absurd (apart.0 v j (sym same ∙ ap (λ (y : InputView). y.number) e))
same_view (x ∷ vs) apart u v (inr i) (inl f) same = absurd (apart.0 u i (same ∙ ap (λ (y : InputView). y.number) f))
same_view (x ∷ vs) apart u v (inr i) (inr j) same = same_view vs apart.1 u v i j same

-- the one of this number that is looked up is among them
pub found_view : (n : ℕ) (v : InputView) (vs : List InputView) → input_at n vs ≡ Some v → IsIn v vs × (v.number ≡ n)
found_view n v [] has = absurd (cc)
found_view n v (x ∷ vs) has = by_test (found_view n v vs) (n == x.number) refl has
  where
    by_test : (input_at n vs ≡ Some v → IsIn v vs × (v.number ≡ n)) → (b : Bool) → (n == x.number) ≡ b → (if b then Some x else input_at n vs) ≡ Some v → IsIn v (x ∷ vs) × (v.number ≡ n)
    by_test rest true test is =
        let same = same_Some x v is in
        (inl (sym same), sym (ap (λ (y : InputView). y.number) same) ∙ sym (eqb-true n x.number test))
    by_test rest false test is = let more = rest is in (inr more.0, more.1)

-- one that is there is found by its number, where they are apart
pub view_found : (v : InputView) (vs : List InputView) → AreViewsApart vs → IsIn v vs → input_at v.number vs ≡ Some v
view_found v [] apart has = absurd has
view_found v (x ∷ vs) apart (inl e) = ap (λ (b : Bool). if b then Some x else input_at v.number vs) (eq-eqb v.number x.number (ap (λ (y : InputView). y.number) e)) ∙ ap Some (sym e)
view_found v (x ∷ vs) apart (inr i) = by_test (v.number == x.number) refl (view_found v vs apart.1 i)
  where
    by_test : (b : Bool) → (v.number == x.number) ≡ b → input_at v.number vs ≡ Some v → (if b then Some x else input_at v.number vs) ≡ Some v
    by_test true test rest = absurd (apart.0 v i (eqb-true v.number x.number test))
    by_test false test rest = rest

-- behind a change of one each is as it was and has another number, or is that one
pub view_changed : (f : InputView → InputView) (n : ℕ) (vs : List InputView) → AreViewsApart vs → (u : InputView) → IsIn u (change_input f n vs)
    → (IsIn u vs × (u.number ≡ n → ⊥)) ⊎ ((v : InputView) × (input_at n vs ≡ Some v) × IsIn v vs × (u ≡ f v))
view_changed f n [] apart u has = absurd has
view_changed f n (x ∷ vs) apart u has = by_test (view_changed f n vs apart.1 u) (n == x.number) refl has
  where
    by_test : (IsIn u (change_input f n vs) → (IsIn u vs × (u.number ≡ n → ⊥)) ⊎ ((v : InputView) × (input_at n vs ≡ Some v) × IsIn v vs × (u ≡ f v))) → (b : Bool) → (n == x.number) ≡ b
        → IsIn u (if b then f x ∷ vs else x ∷ change_input f n vs) → (IsIn u (x ∷ vs) × (u.number ≡ n → ⊥)) ⊎ ((v : InputView) × ((if b then Some x else input_at n vs) ≡ Some v) × IsIn v (x ∷ vs) × (u ≡ f v))
    by_test rest true test (inl e) = inr (x, refl, inl refl, e)
    by_test rest true test (inr i) = inl (inr i, λ same. apart.0 u i (same ∙ eqb-true n x.number test))
    by_test rest false test (inl e) = inl (inl e, λ same. differs (sym test ∙ eq-eqb n x.number (sym same ∙ ap (λ (y : InputView). y.number) e)))
      where
        differs : false ≡ true → ⊥
        differs c = cc
    by_test rest false test (inr i) = ⊎_elim (λ (o : IsIn u vs × (u.number ≡ n → ⊥)). inl (inr o.0, o.1))
        (λ (c : (v : InputView) × (input_at n vs ≡ Some v) × IsIn v vs × (u ≡ f v)). inr (c.0, c.1, inr c.2, c.3)) (rest i)

-- and each is there, with what it was as an input
pub view_behind : (f : InputView → InputView) → ((v : InputView) → input_of (f v) ≡ input_of v) → (n : ℕ) (vs : List InputView) (v : InputView) → IsIn v vs
    → (u : InputView) × IsIn u (change_input f n vs) × (input_of u ≡ input_of v)
view_behind f keeps n [] v has = absurd has
view_behind f keeps n (x ∷ vs) v has = by_test (view_behind f keeps n vs v) (n == x.number) has
  where
    by_test : (IsIn v vs → (u : InputView) × IsIn u (change_input f n vs) × (input_of u ≡ input_of v)) → (b : Bool) → IsIn v (x ∷ vs)
        → (u : InputView) × IsIn u (if b then f x ∷ vs else x ∷ change_input f n vs) × (input_of u ≡ input_of v)
    by_test rest true (inl e) = (f x, inl refl, keeps x ∙ sym (ap input_of e))
    by_test rest true (inr i) = (v, inr i, refl)
    by_test rest false (inl e) = (x, inl refl, sym (ap input_of e))
    by_test rest false (inr i) = let r = rest i in (r.0, inr r.1, r.2)

-- an input of a configuration that is adopted, as the line has it then
pub carried_view : (before : List InputView) (xs : List Input) (x : Input) → IsIn x xs → IsIn (carried before x) (map (carried before) xs) × (input_of (carried before x) ≡ x)
carried_view before [] x has = absurd has
carried_view before (y ∷ xs) x (inl e) = (inl (ap (carried before) e), view_is x (input_at x.number before))
carried_view before (y ∷ xs) x (inr i) = let rest = carried_view before xs x i in (inr rest.0, rest.1)

pub carried_from : (before : List InputView) (xs : List Input) (v : InputView) → IsIn v (map (carried before) xs) → (x : Input) × IsIn x xs × (v ≡ carried before x)
carried_from before [] v has = absurd has
carried_from before (y ∷ xs) v (inl e) = (y, inl refl, e)
carried_from before (y ∷ xs) v (inr i) = let rest = carried_from before xs v i in (rest.0, inr rest.1, rest.2)
