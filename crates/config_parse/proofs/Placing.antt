-- The place of a token by the number of those from it on.
use Rattle.std.proofs.Common.{◌≡◌, ℕ, suc, ◌-◌, ◌≤◌, ◌<◌, ◌==◌, List, [], ◌∷◌, length, Bool, true, false, refl, ap, ◌∙◌, arith, if◌then◌else◌, get_or}
use Rattle.std.proofs.lemmas.Bool.Decides.{nat_tests}
use Rattle.config_lex.specs.declared.token.Lexeme.{Lexeme}
use Rattle.config_lex.specs.Lexemes.{place_in}

equal_of : (a b : ℕ) → (a == b) ≡ true → a ≡ b
equal_of a b h = grind (arith, nat_tests)

unequal_of : (a b : ℕ) → (a == b) ≡ false → a ≡ b → ⊥
unequal_of a b h e = grind (arith, nat_tests)

at_front : (end : ℕ) (l : Lexeme) (ls : List Lexeme) (left : ℕ) (d : Lexeme) (b : Bool) → (suc (length ls) == left) ≡ b → 0 < left → left ≤ suc (length ls)
    → (0 < left → left ≤ length ls → place_in end ls left ≡ (get_or ls (length ls - left) d).place)
    → (if b then l.place else place_in end ls left) ≡ (get_or (l ∷ ls) (suc (length ls) - left) d).place
at_front end l ls left d true e s h f = let q = equal_of (suc (length ls)) left e in let z : 0 ≡ suc (length ls) - left = omega (arith, q) in ap (λ i. (get_or (l ∷ ls) i d).place) z
at_front end l ls left d false e s h f =
    let q = unequal_of (suc (length ls)) left e in
    let m : left ≤ length ls = omega (arith, q, h) in
    let z : suc (length ls - left) ≡ suc (length ls) - left = omega (arith, m) in f s m ∙ ap (λ i. (get_or (l ∷ ls) i d).place) z

pub place_at : (end : ℕ) (ls : List Lexeme) (left : ℕ) (d : Lexeme) → 0 < left → left ≤ length ls → place_in end ls left ≡ (get_or ls (length ls - left) d).place
place_at end [] left d s h = absurd (omega (arith, s, h))
place_at end (l ∷ ls) left d s h = at_front end l ls left d (suc (length ls) == left) refl s h (place_at end ls left d)

past_front : (end : ℕ) (l : Lexeme) (ls : List Lexeme) (left : ℕ) (b : Bool) → (suc (length ls) == left) ≡ b → (suc (length ls) ≡ left → ⊥) → place_in end ls left ≡ end → (if b then l.place else place_in end ls left) ≡ end
past_front end l ls left true e n f = absurd (n (equal_of (suc (length ls)) left e))
past_front end l ls left false e n f = f

pub no_place : (end : ℕ) (ls : List Lexeme) → place_in end ls 0 ≡ end
no_place end [] = refl
no_place end (l ∷ ls) = past_front end l ls 0 (suc (length ls) == 0) refl (λ e. absurd (cc)) (no_place end ls)

pub past_all : (end : ℕ) (ls : List Lexeme) (left : ℕ) → length ls < left → place_in end ls left ≡ end
past_all end [] left h = refl
past_all end (l ∷ ls) left h = past_front end l ls left (suc (length ls) == left) refl (λ e. omega (arith, h, e)) (past_all end ls left (omega (arith, h)))
