-- The shelf of a name, at its place.
use Rattle.std.specs.Prelude.{bytes_eq, nat_lt, if◌then◌else◌}
use Rattle.std.proofs.Common.{◌≡◌, ℕ, suc, ◌<◌, ◌≤◌, List, [], ◌∷◌, ◌++◌, length, map, get_or, slice_set, refl, sym, ap, subst, ◌∙◌, arith, Bool, true, false, Option, Some, None, IfSome, IfNone, Result, Ok, Err, OnOk, OnErr}
use Rattle.std.proofs.lemmas.Bool.{ltb-true, ltb-false}
use Rattle.std.proofs.Math.Seq.{map-set_same}
use Rattle.std.proofs.lemmas.List.{length-map, map-append}
use Rattle.config_tree.specs.Joining.{Entries}
use Rattle.config_tree.specs.declared.fault.FromFault.{FromFault}
use Rattle.config_tree.specs.declared.fault.SettingFault.{SettingFault}
use Rattle.foreign_parts.specs.Stocks.{Stock, place, is_known, left_of, out_of, change, with_box, drawn, one_more, one_drawn, refusals_of, AnswersAt, IsLast}

module _ {S : Type 0} (see : S → Stock) where
  change_case : (f : Stock → Stock) (x s t : S) (ss : List S) (p : ℕ) (rest : List Stock) → see s ≡ f (see t) → (t ≡ get_or ss p t → p < length ss → map see (slice_set ss p s) ≡ rest)
      → (b : Bool) → t ≡ get_or (x ∷ ss) (if b then 0 else suc p) t → (if b then 0 else suc p) < suc (length ss) → map see (slice_set (x ∷ ss) (if b then 0 else suc p) s) ≡ (if b then f (see x) ∷ map see ss else see x ∷ rest)
  change_case f x s t ss p rest is next true at below = ap (λ y. y ∷ map see ss) (is ∙ ap (λ y. f (see y)) at)
  change_case f x s t ss p rest is next false at below = ap (λ ys. see x ∷ ys) (next at (omega (arith, below)))

  -- a shelf in the place of the first of its name, changed
  pub changed_at : (k : List ℕ) (f : Stock → Stock) (ss : List S) (s t : S) → see s ≡ f (see t) → t ≡ get_or ss (place k (map see ss)) t → place k (map see ss) < length ss → map see (slice_set ss (place k (map see ss)) s) ≡ change k f (map see ss)
  changed_at k f [] s t is at below = refl
  changed_at k f (x ∷ ss) s t is at below = change_case f x s t ss (place k (map see ss)) (change k f (map see ss)) is (changed_at k f ss s t is) (bytes_eq (see x).name k) at below

  -- what is read of the stock of a name
  read_case : {A : Type 0} (f : S → A) (x t : S) (ss : List S) (p : ℕ) (rest : A) → (t ≡ get_or ss p t → p < length ss → f t ≡ rest)
      → (b : Bool) → t ≡ get_or (x ∷ ss) (if b then 0 else suc p) t → (if b then 0 else suc p) < suc (length ss) → f t ≡ (if b then f x else rest)
  read_case f x t ss p rest next true at below = ap f at
  read_case f x t ss p rest next false at below = next at (omega (arith, below))

  pub left_at : (k : List ℕ) (ss : List S) (t : S) → t ≡ get_or ss (place k (map see ss)) t → place k (map see ss) < length ss → (see t).left ≡ left_of k (map see ss)
  left_at k [] t at below = absurd (omega (arith, below))
  left_at k (x ∷ ss) t at below = read_case (λ s. (see s).left) x t ss (place k (map see ss)) (left_of k (map see ss)) (left_at k ss t) (bytes_eq (see x).name k) at below

  pub out_at : (k : List ℕ) (ss : List S) (t : S) → t ≡ get_or ss (place k (map see ss)) t → place k (map see ss) < length ss → (see t).out ≡ out_of k (map see ss)
  out_at k [] t at below = absurd (omega (arith, below))
  out_at k (x ∷ ss) t at below = read_case (λ s. (see s).out) x t ss (place k (map see ss)) (out_of k (map see ss)) (out_at k ss t) (bytes_eq (see x).name k) at below

  pub refusals_at : {R : Type 0} (on : S → List ℕ × List R) (named : (x : S) → (on x).0 ≡ (see x).name) (k : List ℕ) (ss : List S) (t : S) → t ≡ get_or ss (place k (map see ss)) t → place k (map see ss) < length ss → (on t).1 ≡ refusals_of k (map on ss)
  refusals_at on named k [] t at below = absurd (omega (arith, below))
  refusals_at on named k (x ∷ ss) t at below =
      read_case (λ s. (on s).1) x t ss (place k (map see ss)) (refusals_of k (map on ss)) (refusals_at on named k ss t) (bytes_eq (see x).name k) at below ∙ ap (λ n. if bytes_eq n k then (on x).1 else refusals_of k (map on ss)) (sym (named x))

past_case : {A : Type 0} (b : Bool) (x rest d : A) (n p : ℕ) → (n ≤ p → rest ≡ d) → suc n ≤ (if b then 0 else suc p) → (if b then x else rest) ≡ d
past_case true x rest d n p next past = absurd (omega (arith, past))
past_case false x rest d n p next past = next (omega (arith, past))

-- a name that doesn't stand there
pub left_past : (k : List ℕ) (ss : List Stock) → length ss ≤ place k ss → left_of k ss ≡ []
left_past k [] past = refl
left_past k (s ∷ ss) past = past_case (bytes_eq s.name k) s.left (left_of k ss) [] (length ss) (place k ss) (left_past k ss) past

pub out_past : (k : List ℕ) (ss : List Stock) → length ss ≤ place k ss → out_of k ss ≡ 0
out_past k [] past = refl
out_past k (s ∷ ss) past = past_case (bytes_eq s.name k) s.out (out_of k ss) 0 (length ss) (place k ss) (out_past k ss) past

known_case : (b known : Bool) (n p : ℕ) → (p < n → known ≡ true) → (if b then 0 else suc p) < suc n → (if b then true else known) ≡ true
known_case true known n p next below = refl
known_case false known n p next below = next (omega (arith, below))

known_in : (k : List ℕ) (ss : List Stock) → place k ss < length ss → is_known k ss ≡ true
known_in k [] below = absurd (omega (arith, below))
known_in k (s ∷ ss) below = known_case (bytes_eq s.name k) (is_known k ss) (length ss) (place k ss) (known_in k ss) below

known_past : (k : List ℕ) (ss : List Stock) → length ss ≤ place k ss → is_known k ss ≡ false
known_past k [] past = refl
known_past k (s ∷ ss) past = past_case (bytes_eq s.name k) true (is_known k ss) false (length ss) (place k ss) (known_past k ss) past

known_by : (b : Bool) (k : List ℕ) (ss : List Stock) → nat_lt (place k ss) (length ss) ≡ b → is_known k ss ≡ b
known_by true k ss is = known_in k ss (ltb-true (place k ss) (length ss) is)
known_by false k ss is = known_past k ss (ltb-false (place k ss) (length ss) is)

pub known_below : (k : List ℕ) (ss : List Stock) → is_known k ss ≡ nat_lt (place k ss) (length ss)
known_below k ss = known_by (nat_lt (place k ss) (length ss)) k ss refl

-- one box more of a name that stands there, and of one that doesn't
with_case : (b : Bool) (n p : ℕ) (x y : Stock) (ss rest other : List Stock) → (p < n → rest ≡ other) → (if b then 0 else suc p) < suc n → (if b then x ∷ ss else y ∷ rest) ≡ (if b then x ∷ ss else y ∷ other)
with_case true n p x y ss rest other next below = refl
with_case false n p x y ss rest other next below = ap (λ zs. y ∷ zs) (next (omega (arith, below)))

pub with_known : (k : List ℕ) (n : ℕ) (ss : List Stock) → place k ss < length ss → with_box k n ss ≡ change k (one_more n) ss
with_known k n [] below = absurd (omega (arith, below))
with_known k n (s ∷ ss) below = with_case (bytes_eq s.name k) (length ss) (place k ss) (one_more n s) s ss (with_box k n ss) (change k (one_more n) ss) (with_known k n ss) below

new_case : (b : Bool) (n p : ℕ) (x y : Stock) (ss rest other : List Stock) → (n ≤ p → rest ≡ other) → suc n ≤ (if b then 0 else suc p) → (if b then x ∷ ss else y ∷ rest) ≡ y ∷ other
new_case true n p x y ss rest other next past = absurd (omega (arith, past))
new_case false n p x y ss rest other next past = ap (λ zs. y ∷ zs) (next (omega (arith, past)))

pub with_new : (k : List ℕ) (n : ℕ) (ss : List Stock) → length ss ≤ place k ss → with_box k n ss ≡ ss ++ record { name = k; left = n ∷ []; out = 0 } ∷ []
with_new k n [] past = refl
with_new k n (s ∷ ss) past = new_case (bytes_eq s.name k) (length ss) (place k ss) (one_more n s) s ss (with_box k n ss) (ss ++ record { name = k; left = n ∷ []; out = 0 } ∷ []) (with_new k n ss) past

-- the shelf of a name at its place, as it was found
pub record Found {S : Type 0} (see : S → Stock) (k : List ℕ) (ss : List S) (n : ℕ) (t : S) : Type 0 where
  pub at : n ≡ place k (map see ss)
  pub below : n < length ss
  pub is : t ≡ get_or ss n t

module _ {S : Type 0} (see : S → Stock) (k : List ℕ) (ss : List S) (n : ℕ) (t : S) where
  pub found : (us : List S) → us ≡ ss → n ≡ place k (map see us) → n < length ss → t ≡ get_or ss n t → Found see k ss n t
  found us same at below is = record { at = at ∙ ap (λ vs. place k (map see vs)) same; below = below; is = is }

  pub found_left : Found see k ss n t → (see t).left ≡ left_of k (map see ss)
  found_left f = left_at see k ss t (f.is ∙ ap (λ m. get_or ss m t) f.at) (subst (λ m. m < length ss) f.at f.below)

  pub found_out : Found see k ss n t → (see t).out ≡ out_of k (map see ss)
  found_out f = out_at see k ss t (f.is ∙ ap (λ m. get_or ss m t) f.at) (subst (λ m. m < length ss) f.at f.below)

  pub found_refusals : {R : Type 0} (on : S → List ℕ × List R) → ((x : S) → (on x).0 ≡ (see x).name) → Found see k ss n t → (on t).1 ≡ refusals_of k (map on ss)
  found_refusals on named f = refusals_at see on named k ss t (f.is ∙ ap (λ m. get_or ss m t) f.at) (subst (λ m. m < length ss) f.at f.below)

  pub found_changed : (f : Stock → Stock) (s : S) → see s ≡ f (see t) → Found see k ss n t → map see (slice_set ss n s) ≡ change k f (map see ss)
  found_changed f s is place = ap (λ m. map see (slice_set ss m s)) place.at ∙ changed_at see k f ss s t is (place.is ∙ ap (λ m. get_or ss m t) place.at) (subst (λ m. m < length ss) place.at place.below)

  pub found_known : (m : ℕ) → Found see k ss n t → with_box k m (map see ss) ≡ change k (one_more m) (map see ss)
  found_known m f = with_known k m (map see ss) (subst (λ i. i < length (map see ss)) f.at (subst (λ i. n < i) (sym (length-map ss see)) f.below))

-- no shelf has the name
pub not_found : {S : Type 0} (see : S → Stock) (k : List ℕ) (ss us : List S) (n : ℕ) → us ≡ ss → n ≡ place k (map see us) → length ss ≤ n → length (map see ss) ≤ place k (map see ss)
not_found see k ss us n same at past = subst (λ m. length (map see ss) ≤ m) (at ∙ ap (λ vs. place k (map see vs)) same) (subst (λ m. m ≤ n) (sym (length-map ss see)) past)

module _ {S X : Type 0} (see : S → Stock) (k : List ℕ) (ss : List S) (n : ℕ) (t : S) where
  pub draws_some : (s : S) (r : Option X) → Found see k ss n t → IfSome r (λ _. see s ≡ one_drawn (see t)) → IfSome r (λ _. map see (slice_set ss n s) ≡ drawn k (map see ss))
  draws_some s (Some x) there is = found_changed see k ss n t one_drawn s is there
  draws_some s None there is = tt

  pub draws_last : (number : X → ℕ) (r : Option X) → Found see k ss n t → IfSome r (λ x. IsLast (number x) (see t).left) → IfSome r (λ x. IsLast (number x) (left_of k (map see ss)))
  draws_last number (Some x) there is = subst (λ ns. IsLast (number x) ns) (found_left see k ss n t there) is
  draws_last number None there is = tt

  pub draws_none : (r : Option X) → Found see k ss n t → IfNone r ((see t).left ≡ []) → IfNone r (left_of k (map see ss) ≡ [])
  draws_none (Some x) there is = tt
  draws_none None there is = sym (found_left see k ss n t there) ∙ is

module _ {S X : Type 0} (see : S → Stock) (ss : List S) (n : ℕ) (t s : S) where
  pub draws_same : (r : Option X) → t ≡ get_or ss n t → IfNone r (see s ≡ see t) → IfNone r (map see (slice_set ss n s) ≡ map see ss)
  draws_same (Some x) at is = tt
  draws_same None at is = map-set_same see ss n s t (is ∙ ap see at)

module _ {S F : Type 0} (see : S → Stock) (k : List ℕ) (ss : List S) (n : ℕ) (t s : S) where
  pub adds_ok : (m : ℕ) (r : Result (Unit {0}) F) → Found see k ss n t → OnOk r (see s ≡ one_more m (see t)) → OnOk r (map see (slice_set ss n s) ≡ with_box k m (map see ss))
  adds_ok m (Ok u) there is = found_changed see k ss n t (one_more m) s is there ∙ sym (found_known see k ss n t m there)
  adds_ok m (Err f) there is = tt

  pub adds_err : (r : Result (Unit {0}) F) → t ≡ get_or ss n t → OnErr r (see s ≡ see t) → OnErr r (map see (slice_set ss n s) ≡ map see ss)
  adds_err (Ok u) at is = tt
  adds_err (Err f) at is = map-set_same see ss n s t (is ∙ ap see at)

-- a shelf more, with a box on it
pub adds_new : {S : Type 0} (see : S → Stock) (k : List ℕ) (m : ℕ) (ss new : List S) (s : S) → length (map see ss) ≤ place k (map see ss) → see s ≡ record { name = k; left = m ∷ []; out = 0 } → new ≡ ss ++ s ∷ [] → map see new ≡ with_box k m (map see ss)
adds_new see k m ss new s past is pushed = ap (map see) pushed ∙ map-append see ss (s ∷ []) ∙ ap (λ x. map see ss ++ x ∷ []) is ∙ sym (with_new k m (map see ss) past)

pub answers_at : {S : Type 0} (see : S → Stock) (on : S → List ℕ × List (Entries → Option SettingFault)) → ((x : S) → (on x).0 ≡ (see x).name) → (k : List ℕ) (ss : List S) (n : ℕ) (t : S) (at : ℕ) (entries : Entries) (r : Result (Unit {0}) FromFault) → Found see k ss n t → AnswersAt (on t).1 at entries r → AnswersAt (refusals_of k (map on ss)) at entries r
answers_at see on named k ss n t at entries r there answers = subst (λ rs. AnswersAt rs at entries r) (found_refusals see k ss n t on named there) answers
