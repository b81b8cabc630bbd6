-- One step of reading the parts of a selector, and of reading tokens.
use Rattle.std.proofs.Common.{◌≡◌, ℕ, zero, suc, ◌+◌, List, [], ◌∷◌, ◌++◌, length, take, drop, Some, None, false, refl, ap, arith}
use Rattle.config_lex.specs.Bytes.{part_length, skip}
use Rattle.config_lex.specs.Lexemes.{parts_more, parts_at, selector_length, next, found, lexed, token_at}
use Rattle.config_lex.specs.declared.context.Context.{Context}

pub parts_on : (n k : ℕ) (front : List (List ℕ)) (s : List ℕ) → part_length s ≡ Some k → parts_at (suc n) front s ≡ parts_at n (front ++ take k (drop 1 s) ∷ []) (drop (k + 2) s)
unfolding parts_at
parts_on n k front s h = ap (λ o. parts_more o front s (λ f r. parts_at n f r)) h

pub parts_stop : (n : ℕ) (front : List (List ℕ)) (s : List ℕ) → part_length s ≡ None → parts_at n front s ≡ front
unfolding parts_at
parts_stop zero front s h = refl
parts_stop (suc n) front s h = ap (λ o. parts_more o front s (λ f r. parts_at n f r)) h

pub parts_end : (front : List (List ℕ)) (s : List ℕ) → parts_at 0 front s ≡ front
unfolding parts_at
parts_end front s = refl

pub longer_by : (front : List (List ℕ)) (p : List ℕ) → selector_length (front ++ p ∷ []) ≡ selector_length front + length p + 2
longer_by [] p = omega arith
longer_by (q ∷ front) p = omega (arith, longer_by front p)

pub lexed_end : (n at : ℕ) (x : Context) (text : List ℕ) → drop (at + skip false (drop at text)) text ≡ [] → lexed n at x text ≡ []
unfolding lexed
lexed_end zero at x text h = refl
lexed_end (suc n) at x text h = ap (λ s. next (at + skip false (drop at text)) x s (λ place y. lexed n place y text)) h

pub lexed_zero : (at : ℕ) (x : Context) (text : List ℕ) → lexed 0 at x text ≡ []
unfolding lexed
lexed_zero at x text = refl

-- in terms of what the next token is
pub lexed_next : (n at b : ℕ) (x : Context) (text s : List ℕ) → drop (at + skip false (drop at text)) text ≡ b ∷ s
    → lexed (suc n) at x text ≡ found (at + skip false (drop at text)) x (token_at x (b ∷ s)) (λ place y. lexed n place y text)
unfolding lexed
lexed_next n at b x text s h = ap (λ s. next (at + skip false (drop at text)) x s (λ place y. lexed n place y text)) h
