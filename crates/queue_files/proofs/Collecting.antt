-- What is collected, item by item.
use Rattle.std.proofs.Common.{◌≡◌, ◌≤◌, ℕ, ◌+◌, length, List, [], ◌∷◌, ◌++◌, drop, map, Result, Ok, Err, refl, sym, ◌∙◌, ap, subst, append-nil, append_assoc}
use Rattle.std.proofs.lemmas.List.{map-append, drop_all}
use Rattle.io_traits.specs.Folders.{Content}
use Rattle.io_traits.specs.declared.queue_faults.QueueFault.{QueueFault}
use Rattle.io_traits.specs.declared.queue_faults.QueueFault.TheVariants as f
use Rattle.queue_page.specs.Elements.{and_then}
use Rattle.queue_files.specs.Folders.{Names}
use Rattle.queue_files.specs.Found.{Damaged}
use Rattle.queue_files.specs.Collected.{collected, in_front, IsLost}

module _ {X Y E : Type 0} (g : X → Result Y E) where
  -- one more
  pub collect_more : (done : List Y) (xs : List X) (i : ℕ) (x : X) (y : Y) → drop i xs ≡ x ∷ drop (i + 1) xs → g x ≡ Ok y
      → in_front done (collected g (drop i xs)) ≡ in_front (done ++ y ∷ []) (collected g (drop (i + 1) xs))
  collect_more done xs i x y split made =
      ap (λ l. in_front done (collected g l)) split
      ∙ ap (λ (r : Result Y E). in_front done (and_then r (λ y. and_then (collected g (drop (i + 1) xs)) (λ ys. Ok (y ∷ ys))))) made ∙ joined (collected g (drop (i + 1) xs))
    where
      joined : (r : Result (List Y) E) → in_front done (and_then r (λ ys. Ok (y ∷ ys))) ≡ in_front (done ++ y ∷ []) r
      joined (Ok ys) = ap Ok (sym (append_assoc done (y ∷ []) ys))
      joined (Err e) = refl

  -- one at fault
  pub collect_stops : (done : List Y) (xs : List X) (i : ℕ) (x : X) (e : E) → drop i xs ≡ x ∷ drop (i + 1) xs → g x ≡ Err e → in_front done (collected g (drop i xs)) ≡ Err e
  collect_stops done xs i x e split made =
      ap (λ l. in_front done (collected g l)) split
      ∙ ap (λ (r : Result Y E). in_front done (and_then r (λ y. and_then (collected g (drop (i + 1) xs)) (λ ys. Ok (y ∷ ys))))) made

  -- none is left
  pub collect_end : (whole : Result (List Y) E) (done : List Y) (xs : List X) (i : ℕ) → length xs ≤ i → whole ≡ in_front (map (λ y. y) done) (collected g (drop i xs)) → whole ≡ Ok done
  collect_end whole done xs i all is =
      is ∙ ap (λ l. in_front (map (λ (y : Y). y) done) (collected g l)) (drop_all i xs all) ∙ ap Ok (append-nil (map (λ y. y) done) ∙ same_map done)
    where
      same_map : (ys : List Y) → map (λ y. y) ys ≡ ys
      same_map [] = refl
      same_map (y ∷ ys) = ap (λ l. y ∷ l) (same_map ys)

-- a fault is the fault of what it is a part of
pub lost_of : {Y Y' : Type 0} (names : Names) (fault : QueueFault) (r : Result Y Damaged) (whole : Result Y' Damaged) → ((e : Damaged) → r ≡ Err e → whole ≡ Err e) → IsLost names fault r → IsLost names fault whole
lost_of names (f.Damaged d) r whole same found = (found.0, found.1, same _ found.2)
lost_of names f.Fault r whole same found = tt
lost_of names f.Memory r whole same found = tt

-- items of a list, of each of which something is read of a store that doesn't change
module _ {X T Y : Type 0} (g : Content → X → Result Y Damaged) (view : Content → T → Y) (names : Names) (old now : Content) (same : now ≡ old) (done : List T) (xs : List X) (i : ℕ) (x : X)
    (split : drop i xs ≡ x ∷ drop (i + 1) xs) (so_far : collected (g old) xs ≡ in_front (map (view old) done) (collected (g old) (drop i xs))) where
  pub item_lost : (fault : QueueFault) → IsLost names fault (g now x) → IsLost names fault (collected (g old) xs)
  item_lost fault found =
      lost_of names fault (g old x) (collected (g old) xs) (λ e is. so_far ∙ collect_stops (g old) (map (view old) done) xs i x e split is)
      (subst (λ (c : Content). IsLost names fault (g c x)) same found)

  pub item_read : (t : T) (items : List T) → items ≡ done ++ t ∷ [] → g now x ≡ Ok (view now t) → collected (g old) xs ≡ in_front (map (view old) items) (collected (g old) (drop (i + 1) xs))
  item_read t items more is =
      so_far ∙ collect_more (g old) (map (view old) done) xs i x (view old t) split (subst (λ (c : Content). g c x ≡ Ok (view c t)) same is)
      ∙ ap (λ l. in_front l (collected (g old) (drop (i + 1) xs))) (sym (ap (map (view old)) more ∙ map-append (view old) done (t ∷ [])))
