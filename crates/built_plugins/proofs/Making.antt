-- What each of a list is made into, one after another, up to the first that is refused.
use Rattle.std.proofs.Common.{◌≡◌, ℕ, suc, ◌+◌, ◌<◌, ◌≤◌, List, [], ◌∷◌, ◌++◌, length, drop, get_or, refl, sym, ap, subst, ◌∙◌, append_assoc, append-nil, Ok, Err}
use Rattle.config_tree.specs.declared.fault.FromFault.{FromFault}
use Rattle.config_tree.specs.declared.fault.FromFault.TheVariants as from
use Rattle.event_text.proofs.Going.{front, behind_end}
use Rattle.filter_settings.specs.Settings.{Made, Refuses, next, with_made}
use Rattle.built_plugins.specs.Each.{each_made}

abbrev pub behind : {B : Type 0} → List B → Made (List B) → Made (List B)
behind ys made = with_made (λ zs. ys ++ zs) made

behind_one : {B : Type 0} (ys : List B) (y : B) (made : Made (List B)) → behind (ys ++ y ∷ []) made ≡ behind ys (with_made (λ zs. y ∷ zs) made)
behind_one ys y (Ok zs) = ap Ok (append_assoc ys (y ∷ []) zs)
behind_one ys y (Err fault) = refl

-- what was made, and what is made of the rest, is made of all
module _ {A B : Type 0} (f : A → Made B) (all left : List A) (ys : List B) (so_far : behind ys (each_made f left) ≡ each_made f all) where
  pub made_next : (rest : List A) (x : A) (y : B) → left ≡ x ∷ rest → f x ≡ Ok y → behind (ys ++ y ∷ []) (each_made f rest) ≡ each_made f all
  made_next rest x y is here =
      behind_one ys y (each_made f rest) ∙ ap (λ m. behind ys (next (λ z. with_made (λ zs. z ∷ zs) (each_made f rest)) m)) (sym here)
      ∙ ap (λ xs. behind ys (each_made f xs)) (sym is) ∙ so_far

  pub made_lost : (rest : List A) (x : A) (fault : FromFault) → left ≡ x ∷ rest → Refuses fault (f x) → Refuses fault (each_made f all)
  made_lost rest x (from.Bad b) is here = sym so_far ∙ ap (λ xs. behind ys (each_made f xs)) is ∙ ap (λ m. behind ys (next (λ z. with_made (λ zs. z ∷ zs) (each_made f rest)) m)) here
  made_lost rest x from.Memory is here = tt

  pub made_last : left ≡ [] → each_made f all ≡ Ok ys
  made_last none = sym so_far ∙ ap (λ xs. behind ys (each_made f xs)) none ∙ ap Ok (append-nil ys)

-- the same of a list that is gone through by its places
module _ {A B : Type 0} (f : A → Made B) (xs : List A) (i : ℕ) (ys : List B) where
  pub made_more : (x : A) (y : B) → i < length xs → x ≡ get_or xs i x → behind ys (each_made f (drop i xs)) ≡ each_made f xs → f x ≡ Ok y → behind (ys ++ y ∷ []) (each_made f (drop (i + 1) xs)) ≡ each_made f xs
  made_more x y below is so_far here = made_next f xs (drop i xs) ys so_far (drop (i + 1) xs) x y (front xs i x below is) here

  pub made_fails : (x : A) (fault : FromFault) → i < length xs → x ≡ get_or xs i x → behind ys (each_made f (drop i xs)) ≡ each_made f xs → Refuses fault (f x) → Refuses fault (each_made f xs)
  made_fails x fault below is so_far here = made_lost f xs (drop i xs) ys so_far (drop (i + 1) xs) x fault (front xs i x below is) here

  pub made_end : length xs ≤ i → behind ys (each_made f (drop i xs)) ≡ each_made f xs → each_made f xs ≡ Ok ys
  made_end end so_far = made_last f xs (drop i xs) ys so_far (behind_end xs i end)

pub ruleset making = (made_more, made_fails, made_end, made_next, made_lost, made_last)

-- a list of which each was made: its first, and the others
pub record MadeInFront {A B : Type 0} (f : A → Made B) (x : A) (xs : List A) (zs : List B) : Type 0 where
  pub one : B
  pub others : List B
  pub is_one : f x ≡ Ok one
  pub are_others : each_made f xs ≡ Ok others
  pub whole : zs ≡ one ∷ others

abbrev pub Fails : {A : Type 0} → Made A → Type 0
Fails (Ok x) = ⊥
Fails (Err fault) = Unit {0}

abbrev or_else : {A : Type 0} → A → Made A → A
or_else d (Ok x) = x
or_else d (Err fault) = d

pub is_same : {A : Type 0} (x y : A) → ◌≡◌ {A = Made A} (Ok x) (Ok y) → x ≡ y
is_same x y is = ap (or_else x) is

pub in_front : {A B : Type 0} (f : A → Made B) (x : A) (xs : List A) (zs : List B) → each_made f (x ∷ xs) ≡ Ok zs → MadeInFront f x xs zs
in_front {A} {B} f x xs zs is = by (f x) (each_made f xs) refl refl is
  where
    by : (m : Made B) (n : Made (List B)) → f x ≡ m → each_made f xs ≡ n → next (λ y. with_made (λ ys. y ∷ ys) n) m ≡ Ok zs → MadeInFront f x xs zs
    by (Ok y) (Ok ys) here rest whole = record { one = y; others = ys; is_one = here; are_others = rest; whole = sym (is_same (y ∷ ys) zs whole) }
    by (Ok y) (Err fault) here rest whole = absurd (subst Fails whole tt)
    by (Err fault) (Ok ys) here rest whole = absurd (subst Fails whole tt)
    by (Err fault) (Err other) here rest whole = absurd (subst Fails whole tt)

pub as_many : {A B : Type 0} (f : A → Made B) (xs : List A) (zs : List B) → each_made f xs ≡ Ok zs → length zs ≡ length xs
as_many f [] zs is = ap length (sym (is_same [] zs is))
as_many f (x ∷ xs) zs is =
    let m = in_front f x xs zs is in
    ap length m.whole ∙ ap suc (as_many f xs m.others m.are_others)
