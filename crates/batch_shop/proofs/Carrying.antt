-- What a seat that carries the slot lends, and finds in it.
use Rattle.std.proofs.Common.{◌≡◌, ℕ, List, [], ◌∷◌, sym, ap, ◌∙◌}
use Rattle.atomic_table.specs.Table.{Me, rest}
use Rattle.batch_shop.specs.Rule.{MessageSlot, Carries}
use Rattle.batch_shop.specs.declared.rule.View.{View}

module _ {T D : Type 0} where
  pub lends : (m : Me (MessageSlot T D) (View T)) (v : View T) (x : MessageSlot T D) → m ≡ Carries v x → (y : MessageSlot T D) × (m.1 ≡ (0, y) ∷ rest m.1)
  lends m v x e = (x, ap (λ n. n.1) e ∙ sym (ap (λ n. (0, x) ∷ rest n.1) e))

  second : MessageSlot T D → List (ℕ × MessageSlot T D) → MessageSlot T D
  second d [] = d
  second d (p ∷ ps) = p.1

  pub finds : (m : Me (MessageSlot T D) (View T)) (v : View T) (x y : MessageSlot T D) → m ≡ Carries v x → m.1 ≡ (0, y) ∷ rest m.1 → y ≡ x
  unfolding second
  finds m v x y e h = ap (second x) (sym h ∙ ap (λ n. n.1) e)

  -- another thing was put into the slot
  pub puts : (m n : Me (MessageSlot T D) (View T)) (v : View T) (x y : MessageSlot T D) → m ≡ Carries v x → n ≡ (m.0, (0, y) ∷ rest m.1) → n ≡ Carries v y
  puts m n v x y e h = h ∙ ap (λ k. (k.0, (0, y) ∷ rest k.1)) e
