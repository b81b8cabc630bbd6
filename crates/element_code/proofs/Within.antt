-- Where a part of bytes stops being a spelling, the whole does.
use Rattle.std.proofs.Common.{◌≡◌, ℕ, ◌+◌, ◌⊎◌, inl, inr, List, [], ◌∷◌, ◌++◌, length, refl, sym, ap, subst, ◌∙◌, append_assoc, length-append, arith, rules}
use Rattle.std.proofs.lemmas.List.{append-nil}
use Rattle.element_code.specs.Parts.{Part, bytes_of}
use Rattle.element_code.specs.Faults.{MayFollow, Stops, cut, misfit}
use Rattle.element_code.proofs.PartsOf.{bytes_of-append}

-- of two lists that go on to be the same, one begins the other
pub fronts : {X : Type 0} (us : List X) (q : X) (m a more : List X) → us ++ q ∷ m ≡ a ++ more → ((k : List X) × (a ≡ us ++ q ∷ k)) ⊎ ((z : List X) × (us ≡ a ++ z))
fronts us q m [] more e = inr (us, refl)
fronts [] q m (x ∷ a) more e = let h : q ≡ x = search (e, rules) in inl (a, ap (λ y. y ∷ a) (sym h))
fronts (u ∷ us) q m (x ∷ a) more e =
    let h : u ≡ x = search (e, rules) in
    let t : us ++ q ∷ m ≡ a ++ more = search (e, rules) in
    elim (fronts us q m a more t) [
      | inl w ↦ inl (w.0, λ i. (sym h i) ∷ w.1 i)
      | inr w ↦ inr (w.0, λ i. h i ∷ w.1 i)
    ]

-- these lists of parts stand behind a front in those
pub record StandsIn (inner outer : List Part → Type 0) (front : List Part) : Type 0 where
  pub extend : (a : List Part) → inner a → (more : List Part) × outer (front ++ (a ++ more))
  pub begin : (s : List Part) → outer (front ++ s) → (a : List Part) × (more : List Part) × inner a × (s ≡ a ++ more)
  pub free : (a b x y : List Part) → inner a → inner b → a ++ x ≡ b ++ y → a ≡ b

module _ (inner outer : List Part → Type 0) (front : List Part) (stands : StandsIn inner outer front) where
  may : (us : List Part) (p : Part) → MayFollow inner us p → MayFollow outer (front ++ us) p
  may us p m =
      let x = stands.extend (us ++ p ∷ m.0) m.1 in
      let e : front ++ ((us ++ p ∷ m.0) ++ x.0) ≡ (front ++ us) ++ p ∷ (m.0 ++ x.0) = ap (λ l. front ++ l) (append_assoc us (p ∷ m.0) x.0) ∙ sym (append_assoc front us (p ∷ (m.0 ++ x.0))) in
      (m.0 ++ x.0, subst outer e x.1)

  too_short : (us z m : List Part) (p : Part) (a : List Part) → us ≡ a ++ z → a ≡ us ++ p ∷ m → ⊥
  too_short us z m p a e f = omega (arith, ap length e, ap length f, length-append a z, length-append us (p ∷ m))

  only : (us : List Part) (p q : Part) → MayFollow inner us p → MayFollow outer (front ++ us) q → MayFollow inner us q
  only us p q m n =
      let b = stands.begin (us ++ q ∷ n.0) (subst outer (append_assoc front us (q ∷ n.0)) n.1) in
      elim (fronts us q n.0 b.0 b.1 b.3) [
        | inl w ↦ (w.0, subst inner w.1 b.2)
        | inr w ↦
            let same : b.0 ++ (w.0 ++ p ∷ m.0) ≡ (us ++ p ∷ m.0) ++ [] = sym (append_assoc b.0 w.0 (p ∷ m.0)) ∙ ap (λ l. l ++ p ∷ m.0) (sym w.1) ∙ sym (append-nil (us ++ p ∷ m.0)) in
            absurd (too_short us w.0 m.0 p b.0 w.1 (stands.free b.0 (us ++ p ∷ m.0) (w.0 ++ p ∷ m.0) [] b.2 m.1 same))
      ]

  bytes_are : (us : List Part) (rest bytes : List ℕ) → bytes ≡ bytes_of us ++ rest → bytes_of front ++ bytes ≡ bytes_of (front ++ us) ++ rest
  bytes_are us rest bytes e = ap (λ l. bytes_of front ++ l) e ∙ sym (append_assoc (bytes_of front) (bytes_of us) rest) ∙ ap (λ l. l ++ rest) (sym (bytes_of-append front us))

  pub within : (bytes : List ℕ) (at : ℕ) → Stops inner bytes at → Stops outer (bytes_of front ++ bytes) (length (bytes_of front) + at)
  within bytes at (cut us p rest m e ends is) = cut (front ++ us) p rest (may us p m) (bytes_are us rest bytes e) ends (omega (arith, is, length-append (bytes_of front) bytes))
  within bytes at (misfit us p rest m e none is) = misfit (front ++ us) p rest (may us p m) (bytes_are us rest bytes e) (λ q n. none q (only us p q m n))
      (omega (arith, is, ap length (bytes_of-append front us), length-append (bytes_of front) (bytes_of us)))

-- the place, where so many bytes are left
pub record Stopped (is : List Part → Type 0) (bytes : List ℕ) (left : ℕ) : Type 0 where
  pub at : ℕ
  pub sum : at + left ≡ length bytes
  pub stops : Stops is bytes at

pub stopped_in : (inner outer : List Part → Type 0) (front : List Part) (bytes whole : List ℕ) (left : ℕ) → StandsIn inner outer front → whole ≡ bytes_of front ++ bytes → Stopped inner bytes left → Stopped outer whole left
stopped_in inner outer front bytes whole left stands e s = record {
  at = length (bytes_of front) + s.at;
  sum = omega (arith, s.sum, ap length e, length-append (bytes_of front) bytes);
  stops = subst (λ b. Stops outer b (length (bytes_of front) + s.at)) (sym e) (within inner outer front stands bytes s.at s.stops);
}
