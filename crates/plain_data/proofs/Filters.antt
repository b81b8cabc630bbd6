-- What a filter of a list is, carried over to what the items stand for.
--
-- Std has the other small lemmas that crates above want, so none is stated here:
-- `same_Some x y` of `Rattle.std.proofs.lemmas.Option`: from `Some x ≡ Some y` follows `x ≡ y`;
-- `and_parts x y` of `Rattle.std.proofs.lemmas.Bool`: from `(x && y) ≡ true` follow both;
-- `both_true` of `Rattle.std.specs.Cmp.Derive`: from `x ≡ true` and `y ≡ true` follows `(x && y) ≡ true`.
use Rattle.std.proofs.Common.{◌≡◌, Bool, List, [], ◌∷◌, map, refl, arith}
use Rattle.std.specs.Prelude.{filter}

-- a test of the items is one of what stands for them
pub filter_through : {X Y : Type 0} (f : X → Y) (p : X → Bool) (q : Y → Bool) → ((x : X) → p x ≡ q (f x)) → (xs : List X) → map f (filter p xs) ≡ filter q (map f xs)
filter_through f p q same [] = refl
filter_through f p q same (x ∷ xs) = grind (arith, same x, filter_through f p q same xs)
