-- Where bytes stop being a value, items, members or an event: the place at which reading them stops.
use Rattle.std.proofs.Common.{◌≡◌, ℕ, zero, suc, ◌≤◌, inl, inr, List, [], ◌∷◌, ◌++◌, length, map, Ok, Err, refl, sym, ap, subst, ◌∙◌, arith, rules, length-append}
use Rattle.std.proofs.lemmas.List.{append-nil}
use Rattle.crc_frame.specs.Bytes.{IsBytes}
use Rattle.event_tree.specs.declared.value.Value.{Value}
use Rattle.crc_frame.specs.Fronts.{Reads, repeated, ◌>>=◌}
use Rattle.crc_frame.proofs.Cuts.{bind_err}
use Rattle.element_code.specs.Parts.{Part, items_parts, parts, spelling}
use Rattle.element_code.specs.Values.{IsValue, AreValues}
use Rattle.element_code.proofs.Sound.{IsSound}
use Rattle.element_code.proofs.Within.{StandsIn, Stopped, stopped_in}
use Rattle.element_code.proofs.PartLists.{ValueParts, ItemsParts, value_free, items_free, nulls, length-nulls, are_nulls}

-- ---- lists

pub same_head : {X : Type 0} (x y : X) (xs ys : List X) → x ∷ xs ≡ y ∷ ys → x ≡ y
same_head x y xs ys e = search (e, rules)

pub same_tail : {X : Type 0} (x y : X) (xs ys : List X) → x ∷ xs ≡ y ∷ ys → xs ≡ ys
same_tail x y xs ys e = search (e, rules)

pub same_behind : {X : Type 0} (xs ys zs : List X) → xs ++ ys ≡ xs ++ zs → ys ≡ zs
same_behind [] ys zs e = e
same_behind (x ∷ xs) ys zs e = same_behind xs ys zs (same_tail x x (xs ++ ys) (xs ++ zs) e)

-- what stands behind the parts of a value, in two lists of parts that both begin with a value's
pub behind_value : (levels : ℕ) (d e : Value) (s t : List Part) → IsValue levels d → IsValue levels e → parts d ++ s ≡ parts e ++ t → s ≡ t
behind_value levels d e s t vd ve h =
    let same : parts d ≡ parts e = value_free levels (parts d) (parts e) s t (d, vd, refl) (e, ve, refl) h in
    same_behind (parts e) s t (ap (λ l. l ++ s) (sym same) ∙ h)

pub record Cons {X : Type 0} (xs : List X) (n : ℕ) : Type 0 where
  pub head : X
  pub tail : List X
  pub is : xs ≡ head ∷ tail
  pub length_is : length tail ≡ n

pub cons : {X : Type 0} (xs : List X) (n : ℕ) → length xs ≡ suc n → Cons xs n
cons [] n e = absurd (omega (arith, e))
cons (x ∷ xs) n e = record { head = x; tail = xs; is = refl; length_is = omega (arith, e) }

-- ---- items

abbrev pub StopsAt : ℕ → Reads Value → Type 0
StopsAt levels read = (bytes : List ℕ) (left : ℕ) → IsBytes bytes → length bytes ≤ 16777216 → read bytes ≡ Err left → Stopped (ValueParts levels) bytes left

item_stands : (levels n : ℕ) → StandsIn (ValueParts levels) (ItemsParts levels (suc n)) []
item_stands levels n = record {
  extend = λ a m. (items_parts (map parts (nulls n)), (m.0 ∷ nulls n, ap suc (length-nulls n), (m.1, are_nulls levels n), ap (λ l. l ++ items_parts (map parts (nulls n))) m.2));
  begin = λ s m. let c = cons m.0 n m.1 in let are = subst (AreValues (IsValue levels)) c.is m.2 in
      (parts c.head, items_parts (map parts c.tail), (c.head, are.0, refl), m.3 ∙ ap (λ vs. items_parts (map parts vs)) c.is);
  free = value_free levels;
}

later_items_stand : (levels n : ℕ) (d : Value) → IsValue levels d → StandsIn (ItemsParts levels n) (ItemsParts levels (suc n)) (parts d)
later_items_stand levels n d is = record {
  extend = λ a m. ([], (d ∷ m.0, ap suc m.1, (is, m.2), ap (λ l. parts d ++ l) (append-nil a ∙ m.3)));
  begin = λ s m. let c = cons m.0 n m.1 in let are = subst (AreValues (IsValue levels)) c.is m.2 in
      (s, [], (c.tail, c.length_is, are.1, behind_value levels d c.head s (items_parts (map parts c.tail)) is are.0 (m.3 ∙ ap (λ vs. items_parts (map parts vs)) c.is)), sym (append-nil s));
  free = items_free levels n;
}

module _ (levels : ℕ) (read : Reads Value) (sound : IsSound levels read) (stop : StopsAt levels read) where
  pub items_stop : (n : ℕ) (bytes : List ℕ) (left : ℕ) → IsBytes bytes → length bytes ≤ 16777216 → repeated read n bytes ≡ Err left → Stopped (ItemsParts levels n) bytes left
  items_stop zero bytes left fit short h = absurd (search (h, rules))
  items_stop (suc n) bytes left fit short h = elim (bind_err (read bytes) (λ x. repeated read n x.1 >>= λ xs. Ok (x.0 ∷ xs.0, xs.1)) left h) [
    | inl w ↦ stopped_in (ValueParts levels) (ItemsParts levels (suc n)) [] bytes bytes left (item_stands levels n) refl (stop bytes left fit short w)
    | inr w ↦
        let x = w.0 in
        let s = sound bytes x fit w.1 in
        elim (bind_err (repeated read n x.1) (λ xs. Ok (x.0 ∷ xs.0, xs.1)) left w.2) [
          | inl u ↦ stopped_in (ItemsParts levels n) (ItemsParts levels (suc n)) (parts x.0) x.1 bytes left (later_items_stand levels n x.0 s.value) s.is (items_stop n x.1 left s.fits (omega (arith, short, ap length s.is, length-append (spelling x.0) x.1)) u)
          | inr u ↦ absurd (search (u.2, rules))
        ]
  ]
