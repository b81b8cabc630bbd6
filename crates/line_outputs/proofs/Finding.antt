-- The file of a path among those that are open, by its place.
use Rattle.std.specs.Prelude.{nat_lt, if◌then◌else◌, bytes_eq, remove, is_some}
use Rattle.std.proofs.lemmas.Bool.{ltb-true, ltb-false}
use Rattle.std.proofs.Common.{◌≡◌, ℕ, suc, ◌<◌, ◌≤◌, List, [], ◌∷◌, length, get_or, refl, ap, subst, ◌∙◌, arith, Bool, true, false, Option, Some, None}
use Rattle.slot_files.specs.Views.{Output}
use Rattle.line_outputs.specs.OpenFiles.{file_place, file_of, without}

found_case : (p t : Output) (ps : List Output) (n : ℕ) (rest : Option Output) → (t ≡ get_or ps n t → n < length ps → Some t ≡ rest)
    → (b : Bool) → t ≡ get_or (p ∷ ps) (if b then 0 else suc n) t → (if b then 0 else suc n) < suc (length ps) → Some t ≡ (if b then Some p else rest)
found_case p t ps n rest next true at below = ap Some at
found_case p t ps n rest next false at below = next at (omega (arith, below))

found_at : (path : List ℕ) (fs : List Output) (t : Output) → t ≡ get_or fs (file_place path fs) t → file_place path fs < length fs → Some t ≡ file_of path fs
found_at path [] t at below = absurd (omega (arith, below))
found_at path (f ∷ fs) t at below = found_case f t fs (file_place path fs) (file_of path fs) (found_at path fs t) (bytes_eq path f.path) at below

rest_case : (f : Output) (fs : List Output) (n : ℕ) (rest : List Output) → (n < length fs → remove fs n ≡ rest)
    → (b : Bool) → (if b then 0 else suc n) < suc (length fs) → remove (f ∷ fs) (if b then 0 else suc n) ≡ (if b then fs else f ∷ rest)
rest_case f fs n rest next true below = refl
rest_case f fs n rest next false below = ap (λ l. f ∷ l) (next (omega (arith, below)))

rest_at : (path : List ℕ) (fs : List Output) → file_place path fs < length fs → remove fs (file_place path fs) ≡ without path fs
rest_at path [] below = absurd (omega (arith, below))
rest_at path (f ∷ fs) below = rest_case f fs (file_place path fs) (without path fs) (rest_at path fs) (bytes_eq path f.path) below

past_case : {A : Type 0} (b : Bool) (x rest d : A) (n p : ℕ) → (n ≤ p → rest ≡ d) → suc n ≤ (if b then 0 else suc p) → (if b then x else rest) ≡ d
past_case true x rest d n p next past = absurd (omega (arith, past))
past_case false x rest d n p next past = next (omega (arith, past))

none_past : (path : List ℕ) (fs : List Output) → length fs ≤ file_place path fs → file_of path fs ≡ None
none_past path [] past = refl
none_past path (f ∷ fs) past = past_case (bytes_eq path f.path) (Some f) (file_of path fs) None (length fs) (file_place path fs) (none_past path fs) past

all_past : (path : List ℕ) (fs : List Output) → length fs ≤ file_place path fs → without path fs ≡ fs
all_past path [] past = refl
all_past path (f ∷ fs) past = past_case (bytes_eq path f.path) fs (f ∷ without path fs) (f ∷ fs) (length fs) (file_place path fs) (λ p. ap (λ l. f ∷ l) (all_past path fs p)) past

open_case : (f : Output) (n p : ℕ) (rest : Option Output) → (p < n → is_some rest ≡ true) → (b : Bool) → (if b then 0 else suc p) < suc n → is_some (if b then Some f else rest) ≡ true
open_case f n p rest next true below = refl
open_case f n p rest next false below = next (omega (arith, below))

open_in : (path : List ℕ) (fs : List Output) → file_place path fs < length fs → is_some (file_of path fs) ≡ true
open_in path [] below = absurd (omega (arith, below))
open_in path (f ∷ fs) below = open_case f (length fs) (file_place path fs) (file_of path fs) (open_in path fs) (bytes_eq path f.path) below

open_by : (b : Bool) (path : List ℕ) (fs : List Output) → nat_lt (file_place path fs) (length fs) ≡ b → is_some (file_of path fs) ≡ b
open_by true path fs is = open_in path fs (ltb-true (file_place path fs) (length fs) is)
open_by false path fs is = ap is_some (none_past path fs (ltb-false (file_place path fs) (length fs) is))

-- a file is open where its place is one
pub open_below : (path : List ℕ) (fs : List Output) → is_some (file_of path fs) ≡ nat_lt (file_place path fs) (length fs)
open_below path fs = open_by (nat_lt (file_place path fs) (length fs)) path fs refl

-- by the number of the place
module _ (path : List ℕ) (fs : List Output) (n : ℕ) (at : n ≡ file_place path fs) where
  pub found : n < length fs → (t : Output) → t ≡ get_or fs n t → Some t ≡ file_of path fs
  found below t is = found_at path fs t (is ∙ ap (λ m. get_or fs m t) at) (subst (λ m. m < length fs) at below)

  pub removed : n < length fs → remove fs n ≡ without path fs
  removed below = ap (remove fs) at ∙ rest_at path fs (subst (λ m. m < length fs) at below)

  pub not_found : length fs ≤ n → file_of path fs ≡ None
  not_found past = none_past path fs (subst (λ m. length fs ≤ m) at past)

  pub all_left : length fs ≤ n → without path fs ≡ fs
  all_left past = all_past path fs (subst (λ m. length fs ≤ m) at past)

-- where it isn't open, the others are all
some_none : (x : Output) → Some x ≡ None → ⊥
some_none x same = cc

left_case : (f : Output) (path : List ℕ) (fs : List Output) → (file_of path fs ≡ None → without path fs ≡ fs)
    → (b : Bool) → (if b then Some f else file_of path fs) ≡ None → (if b then fs else f ∷ without path fs) ≡ f ∷ fs
left_case f path fs next true is = absurd (some_none f is)
left_case f path fs next false is = ap (λ l. f ∷ l) (next is)

pub none_without : (path : List ℕ) (fs : List Output) → file_of path fs ≡ None → without path fs ≡ fs
none_without path [] none = refl
none_without path (f ∷ fs) none = left_case f path fs (none_without path fs) (bytes_eq path f.path) none
