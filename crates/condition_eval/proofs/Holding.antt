-- Texts that hold others.
use Rattle.std.proofs.Common.{◌≡◌, ◌↔◌, ℕ, ◌==◌, List, [], ◌∷◌, ◌++◌, Bool, true, false, refl, sym, ap, subst, true≢false, ◌||◌, eqb-true, arith}
use Rattle.std.proofs.lemmas.Bool.{and_from, and_parts, or_left, or_right, false_from_ne_true}
use Rattle.std.proofs.lemmas.Bool.Decides.{nat_tests}
use Rattle.std.specs.Str.Iter.{HasSubslice}
use Rattle.condition_eval.specs.Values.{is_prefix, holds}

begins_front : (part rest : List ℕ) → is_prefix part (part ++ rest) ≡ true
begins_front [] rest = refl
begins_front (p ∷ part) rest = and_from (p == p) _ (grind (arith, nat_tests)) (begins_front part rest)

-- what is behind a part that a text begins with
begins_behind : (part text : List ℕ) → is_prefix part text ≡ true → (rest : List ℕ) × (text ≡ part ++ rest)
begins_behind [] text e = (text, refl)
begins_behind (p ∷ part) [] e = absurd (true≢false (sym e))
begins_behind (p ∷ part) (b ∷ text) e =
    let both = and_parts (p == b) (is_prefix part text) e in
    let r = begins_behind part text both.1 in
    let q : p ≡ b = eqb-true p b both.0 in
    (r.0, λ i. sym q i ∷ r.1 i)

holds_behind : (part front rest : List ℕ) → holds part (front ++ (part ++ rest)) ≡ true
unfolding holds
holds_behind part [] rest = at_front (part ++ rest) (begins_front part rest)
  where
    at_front : (text : List ℕ) → is_prefix part text ≡ true → holds part text ≡ true
    at_front [] e = e
    at_front (b ∷ text) e = or_left (is_prefix part (b ∷ text)) _ e
holds_behind part (b ∷ front) rest = or_right (is_prefix part (b ∷ (front ++ (part ++ rest)))) _ (holds_behind part front rest)

or_either : (a b : Bool) (P : Type 0) → (a ≡ true → P) → (b ≡ true → P) → (a || b) ≡ true → P
or_either true b P f g e = f refl
or_either false b P f g e = g e

pub held_where : (part text : List ℕ) → holds part text ≡ true → HasSubslice text part
unfolding holds
held_where part [] e = let r = begins_behind part [] e in ([], r.0, r.1)
held_where part (b ∷ text) e = or_either (is_prefix part (b ∷ text)) (holds part text) _ (λ f. let r = begins_behind part (b ∷ text) f in ([], r.0, r.1)) (λ g. let r = held_where part text g in (b ∷ r.0, r.1, ap (λ s. b ∷ s) r.2)) e

pub holds_where : (part text : List ℕ) → HasSubslice text part → holds part text ≡ true
holds_where part text s = subst (λ t. holds part t ≡ true) (sym s.2) (holds_behind part s.0 s.1)

-- a test that is true where the text holds the part is this one
pub is_holding : (r : Bool) (part text : List ℕ) → ((r ≡ true) ↔ HasSubslice text part) → r ≡ holds part text
is_holding true part text h = sym (holds_where part text (h.0 refl))
is_holding false part text h = sym (false_from_ne_true (holds part text) (λ e. true≢false (sym (h.1 (held_where part text e)))))
