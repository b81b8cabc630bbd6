-- The pieces of connections, and what is left of them after a call.
use Rattle.std.proofs.Common.{◌≡◌, ◌≢◌, ◌≤◌, ℕ, List, [], ◌∷◌, ◌++◌, Bool, true, false, length, take, take-append-drop, refl, sym, subst, arith}
use Rattle.std.specs.Prelude.{filter, nat_eq, if◌then◌else◌}
use Rattle.std.proofs.lemmas.Grind.{common_steps}
use Rattle.std.proofs.lemmas.Bool.{eqb-true}
use Rattle.std.proofs.lemmas.Bool.Decides.{nat_tests}
use Rattle.io_traits.specs.Pieces.{Piece, Came, End, Nothing}
use Rattle.io_memory.specs.Links.{AllFull, is_full, without, bytes_left, taken_off, first_from}

-- where pieces are left out, each of those that stay is full
full_or_not : (b : Bool) (x : ℕ × Piece) (rest : List (ℕ × Piece)) → is_full x ≡ true → AllFull rest → AllFull (if b then x ∷ rest else rest)
full_or_not true x rest full others = (full, others)
full_or_not false x rest full others = others

pub full_filtered : (p : ℕ × Piece → Bool) (left : List (ℕ × Piece)) → AllFull left → AllFull (filter p left)
full_filtered p [] full = full
full_filtered p (x ∷ left) full = full_or_not (p x) x (filter p left) full.0 (full_filtered p left full.1)

full_one : (b : Bool) (x : ℕ × Piece) (rest : List (ℕ × Piece)) → is_full x ≡ b → AllFull rest → AllFull (if b then x ∷ rest else rest)
full_one true x rest full others = (full, others)
full_one false x rest full others = others

pub full_ones : (left : List (ℕ × Piece)) → AllFull (filter is_full left)
full_ones [] = tt
full_ones (x ∷ left) = full_one (is_full x) x (filter is_full left) refl (full_ones left)

-- nothing is left of a connection whose pieces are left out, and all of each other one
pub none_left : (conn : ℕ) (left : List (ℕ × Piece)) → bytes_left conn (without conn left) ≡ []
none_left conn [] = refl
none_left conn ((from, Came bytes) ∷ left) = grind (arith, nat_tests, none_left conn left)
none_left conn ((from, End) ∷ left) = grind (arith, nat_tests, none_left conn left)
none_left conn ((from, Nothing) ∷ left) = grind (arith, nat_tests, none_left conn left)

pub others_left : (conn other : ℕ) (left : List (ℕ × Piece)) → other ≢ conn → bytes_left other (without conn left) ≡ bytes_left other left
others_left conn other [] differ = refl
others_left conn other ((from, Came bytes) ∷ left) differ = grind (arith, nat_tests, others_left conn other left differ)
others_left conn other ((from, End) ∷ left) differ = grind (arith, nat_tests, others_left conn other left differ)
others_left conn other ((from, Nothing) ∷ left) differ = grind (arith, nat_tests, others_left conn other left differ)

-- the first piece, where it is one of this connection
first_is : (conn : ℕ) (p : ℕ × Piece) (left : List (ℕ × Piece)) (bytes : List ℕ) → first_from conn (p ∷ left) ≡ Came bytes → (p.0 ≡ conn) × (p.1 ≡ Came bytes)
first_is conn p left bytes is = at_test (nat_eq p.0 conn) refl is
  where
    at_test : (b : Bool) → nat_eq p.0 conn ≡ b → (if b then p.1 else Nothing) ≡ Came bytes → (p.0 ≡ conn) × (p.1 ≡ Came bytes)
    at_test true same is = (eqb-true p.0 conn same, is)
    at_test false same is = cc

-- bytes that are taken off the first piece are the next ones of its connection
next_of_piece : (conn n : ℕ) (bytes : List ℕ) (left : List (ℕ × Piece)) → n ≤ length bytes → bytes_left conn ((conn, Came bytes) ∷ left) ≡ take n bytes ++ bytes_left conn (taken_off n ((conn, Came bytes) ∷ left))
next_of_piece conn n bytes left fits = grind (arith, nat_tests, common_steps, take-append-drop n bytes)

pub next_taken : (conn n : ℕ) (left : List (ℕ × Piece)) (bytes : List ℕ) → first_from conn left ≡ Came bytes → n ≤ length bytes → bytes_left conn left ≡ take n bytes ++ bytes_left conn (taken_off n left)
next_taken conn n [] bytes is fits = cc
next_taken conn n ((from, piece) ∷ left) bytes is fits =
    let same : (from ≡ conn) × (piece ≡ Came bytes) = first_is conn (from, piece) left bytes is in
    subst (λ p. bytes_left conn (p ∷ left) ≡ take n bytes ++ bytes_left conn (taken_off n (p ∷ left))) (λ i. (sym same.0 i, sym same.1 i)) (next_of_piece conn n bytes left fits)

others_of_piece : (conn other n : ℕ) (bytes : List ℕ) (left : List (ℕ × Piece)) → other ≢ conn → bytes_left other (taken_off n ((conn, Came bytes) ∷ left)) ≡ bytes_left other ((conn, Came bytes) ∷ left)
others_of_piece conn other n bytes left differ = grind (arith, nat_tests)

pub others_taken : (conn other n : ℕ) (left : List (ℕ × Piece)) (bytes : List ℕ) → other ≢ conn → first_from conn left ≡ Came bytes → bytes_left other (taken_off n left) ≡ bytes_left other left
others_taken conn other n [] bytes differ is = cc
others_taken conn other n ((from, piece) ∷ left) bytes differ is =
    let same : (from ≡ conn) × (piece ≡ Came bytes) = first_is conn (from, piece) left bytes is in
    subst (λ p. bytes_left other (taken_off n (p ∷ left)) ≡ bytes_left other (p ∷ left)) (λ i. (sym same.0 i, sym same.1 i)) (others_of_piece conn other n bytes left differ)
