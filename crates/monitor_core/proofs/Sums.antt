-- Sums of numbers that come one after another.
use Rattle.std.proofs.Common.{◌≡◌, ◌≤◌, ◌<◌, ◌+◌, ◌*◌, ◌^◌, ◌||◌, ◌==◌, ℕ, Bool, true, false, List, [], ◌∷◌, ◌++◌, map, take, length, length-append, get_or, refl, sym, ap, ◌∙◌, arith, ⊎_elim}
use Rattle.std.proofs.Math.ListN.{get_or-append}
use Rattle.std.proofs.lemmas.List.{map-append, take_more}
use Rattle.std.proofs.Math.Seq.{get_or-append_seam}
use Rattle.std.proofs.lemmas.Bool.Decides.{eqb_tells}
use Rattle.monitor_core.specs.Places.{last, sum_of, any_last, total_of}
use Rattle.monitor_core.specs.Counting.{AddsUp}
use Rattle.monitor_core.specs.declared.counter.Total.{Total}

sum_more : (ns : List ℕ) (x : ℕ) → sum_of (ns ++ x ∷ []) ≡ sum_of ns + x
unfolding sum_of
sum_more [] x = omega arith
sum_more (n ∷ ns) x = omega (arith, sum_more ns x)

any_more : (ns : List ℕ) (x : ℕ) → any_last (ns ++ x ∷ []) ≡ (any_last ns || (x == last))
unfolding any_last
any_more [] x = or_none (x == last)
  where
    or_none : (b : Bool) → (b || false) ≡ b
    or_none true = refl
    or_none false = refl
any_more (n ∷ ns) x = ap (λ b. (n == last) || b) (any_more ns x) ∙ grouped (n == last) (any_last ns) (x == last)
  where
    grouped : (a b c : Bool) → (a || (b || c)) ≡ (a || b || c)
    grouped true b c = refl
    grouped false b c = refl

abbrev pub with_one : Total → ℕ → Total
with_one t x = record { sum = t.sum + x; stuck = t.stuck || (x == last) }

pub total_more : (ns : List ℕ) (x : ℕ) → total_of (ns ++ x ∷ []) ≡ with_one (total_of ns) x
total_more ns x = λ i. record { sum = sum_more ns x i; stuck = any_more ns x i }

-- the sum of so many numbers, each of which has 64 bits
pub record SoFar (n number own : ℕ) (t : Total) : Type 0 where
  pub found : List ℕ
  pub whole : length found ≡ n
  pub own_whole : number < n → get_or found number 0 ≡ own
  pub total : t ≡ total_of found
  pub small : t.sum ≤ n * 2 ^ 64

pub none_yet : (number own : ℕ) → SoFar 0 number own (record { sum = 0; stuck = false })
unfolding sum_of any_last
none_yet number own = record { found = []; whole = refl; own_whole = λ h. absurd (omega (arith, h)); total = refl; small = omega arith }

pub one_more : (n number own : ℕ) (t : Total) (x : ℕ) → SoFar n number own t → x < 2 ^ 64 → (n ≡ number → x ≡ own) → SoFar (n + 1) number own (with_one t x)
one_more n number own t x so fits is = record {
  found = so.found ++ x ∷ [];
  whole = length-append so.found (x ∷ []) ∙ ap (λ k. k + 1) so.whole;
  own_whole = λ h. ⊎_elim (λ e. here e.1) (λ e. get_or-append so.found (x ∷ []) 0 number (omega (arith, h, so.whole, e.1)) ∙ so.own_whole (omega (arith, h, e.1))) (eqb_tells n number);
  total = ap (λ t. with_one t x) so.total ∙ sym (total_more so.found x);
  small = omega (arith, so.small, fits);
}
  where
    here : n ≡ number → get_or (so.found ++ x ∷ []) number 0 ≡ own
    here e = let l : number ≡ length so.found = omega (arith, e, so.whole) in ap (λ k. get_or (so.found ++ x ∷ []) k 0) l ∙ get_or-append_seam so.found x [] 0 ∙ is e

pub all_of : (seats number own : ℕ) (t : Total) → SoFar seats number own t → number < seats → AddsUp seats number own t
all_of seats number own t so h = record { found = so.found; whole = so.whole; own_whole = so.own_whole h; total = so.total }

-- one more of a list is summed
pub summed_more : {X : Type 0} (f : X → ℕ) (xs : List X) (i : ℕ) (d : X) (t : Total) → i < length xs → t ≡ total_of (map f (take i xs))
    → with_one t (f (get_or xs i d)) ≡ total_of (map f (take (i + 1) xs))
summed_more f xs i d t h e = ap (λ t. with_one t (f (get_or xs i d))) e ∙ sym (total_more (map f (take i xs)) (f (get_or xs i d)))
    ∙ ap total_of (sym (map-append f (take i xs) (get_or xs i d ∷ []))) ∙ ap (λ ys. total_of (map f ys)) (sym (take_more xs i d h))
