-- The parts of names in a folder, found name by name.
use Rattle.std.proofs.Common.{◌≡◌, ◌⊎◌, inl, inr, ⊎_elim, ℕ, ◌<◌, List, [], ◌∷◌, ◌++◌, length, take, IsSome, refl, sym, ap, ◌∙◌, subst, arith, true, false, Bool, Result, Ok, Err, IfOk, slice_index_or, ◌+◌, add-one}
use Rattle.std.specs.List.{Contains}
use Rattle.std.proofs.Math.Seq.{take-suc}
use Rattle.std.specs.Map.{keys_of}
use Rattle.std.specs.declared.cmp.Ordering.TheVariants.{Less, Equal}
use Rattle.std.specs.Ordering.{nat_cmp, ordering_then}
use Rattle.std.specs.Cmp.{tied_itself}
use Rattle.std.proofs.lemmas.Cmp.{nat_cmp_total}
use Rattle.std.proofs.lemmas.List.Elements.{Contains-push, Contains-push_cases, Contains-append_cases, Contains-append_left, Contains-append_right}
use Rattle.std.proofs.lemmas.List.{append_cancel_left}
use Rattle.std.proofs.lemmas.Bool.{false≢true}
use Rattle.std.proofs.lemmas.Map.Views.{Contains-keys_from_lookup}
use Rattle.plain_data.specs.Keys.{text_cmp, same_key, Below, Ascends}
use Rattle.plain_data.specs.Members.{AllBelow, Rises, get_member}
use Rattle.plain_data.proofs.ChangeLemmas.{same_key-decides}
use Rattle.plain_data.proofs.MemberLemmas.{below_next}
use Rattle.io_traits.specs.Folders.{Content, IsPart, Lists, folder_start}
use Rattle.io_memory.specs.Tables.{Table, content_of}
use Rattle.io_memory.specs.Parts.{Takes, IsListed}

-- bytes of a common start don't order
behind_start : (start a b : List ℕ) → text_cmp (start ++ a) (start ++ b) ≡ text_cmp a b
behind_start [] a b = refl
behind_start (x ∷ start) a b = ap (λ o. ordering_then o (text_cmp (start ++ a) (start ++ b))) (same_byte x) ∙ behind_start start a b
  where
    same_byte : (x : ℕ) → nat_cmp x x ≡ Equal
    same_byte = tied_itself nat_cmp_total

no_element : (x : List ℕ) → Contains {X = List ℕ} [] x → ⊥
no_element x (k, within, is) = omega arith

-- an element is the first one or one of the others
first_or_rest : (y : List ℕ) (ys : List (List ℕ)) (x : List ℕ) → Contains (y ∷ ys) x → (y ≡ x) ⊎ Contains ys x
first_or_rest y ys x has = ⊎_elim (λ first. ⊎_elim (λ none. absurd (no_element x none)) (λ is. inl is) (Contains-push_cases [] y x first)) (λ rest. inr rest) (Contains-append_cases (y ∷ []) ys x has)

below_all : (done : Table) (k l : List ℕ) → AllBelow done k → Contains (keys_of done) l → text_cmp l k ≡ Less
below_all [] k l below has = absurd (no_element l has)
below_all (m ∷ done) k l below has = ⊎_elim (λ is. subst (λ t. text_cmp t k ≡ Less) is below.0) (λ rest. below_all done k l below.1 rest) (first_or_rest m.0 (keys_of done) l has)

Below-push : (k p : List ℕ) (ks : List (List ℕ)) → Below k ks → text_cmp k p ≡ Less → Below k (ks ++ p ∷ [])
Below-push k p [] below less = (less, tt)
Below-push k p (l ∷ ks) below less = (below.0, Below-push k p ks below.1 less)

Ascends-push : (p : List ℕ) (ks : List (List ℕ)) → Ascends ks → ((q : List ℕ) → Contains ks q → text_cmp q p ≡ Less) → Ascends (ks ++ p ∷ [])
Ascends-push p [] ascends less = (tt, tt)
Ascends-push p (k ∷ ks) ascends less = (
  Below-push k p ks ascends.0 (less k (Contains-append_left (k ∷ []) ks k (Contains-push [] k))),
  Ascends-push p ks ascends.1 (λ q has. less q (Contains-append_right (k ∷ []) ks q has)),
)

same_rest : (start a b : List ℕ) → start ++ a ≡ start ++ b → a ≡ b
same_rest start a b is = append_cancel_left start a b is

keys_of-push : (done : Table) (m : List ℕ × List ℕ) → keys_of (done ++ m ∷ []) ≡ keys_of done ++ m.0 ∷ []
keys_of-push [] m = refl
keys_of-push (n ∷ done) m = ap (λ l. n.0 ∷ l) (keys_of-push done m)

-- a name that is among those of a table has its file
found : (k : List ℕ) (m : List ℕ × List ℕ) (files : Table) (b : Bool) → same_key k m.0 ≡ b → (Contains (keys_of files) k → IsSome (get_member k files)) → (m.0 ≡ k) ⊎ Contains (keys_of files) k → IsSome (get_member k (m ∷ files))
found k m files true is rest one = rw is refl
found k m files false is rest (inl here) = absurd (false≢true (sym is ∙ (same_key-decides k m.0).1 (sym here)))
found k m files false is rest (inr later) = rw is (rest later)

has_file : (files : Table) (k : List ℕ) → Contains (keys_of files) k → IsSome (get_member k files)
has_file [] k has = absurd (no_element k has)
has_file (m ∷ files) k has = found k m files (same_key k m.0) refl (has_file files k) (first_or_rest m.0 (keys_of files) k has)

pub listed_none : (start : List ℕ) → IsListed start [] []
listed_none start = record { ascends = tt; from = λ part has. absurd (no_element part has); all = λ part is has. absurd (no_element (start ++ part) has) }

-- one name more, whose part is a part
pub listed_more : (start : List ℕ) (done : Table) (names : List (List ℕ)) (m : List ℕ × List ℕ) (part : List ℕ) → IsListed start done names → AllBelow done m.0 → m.0 ≡ start ++ part → IsPart part
    → IsListed start (done ++ m ∷ []) (names ++ part ∷ [])
listed_more start done names m part so_far below name is = record {
  ascends = Ascends-push part names so_far.ascends
      (λ q has. sym (behind_start start q part) ∙ subst (λ k. text_cmp (start ++ q) k ≡ Less) name (below_all done m.0 (start ++ q) below (so_far.from q has).1));
  from = λ p has. ⊎_elim
      (λ early. let f = so_far.from p early in (f.0, in_front (start ++ p) f.1))
      (λ here. (subst IsPart here is, at_end (start ++ p) (name ∙ ap (λ (l : List ℕ). start ++ l) here)))
      (Contains-push_cases names part p has);
  all = λ p is_part has. ⊎_elim
      (λ early. Contains-append_left names (part ∷ []) p (so_far.all p is_part early))
      (λ here. subst (Contains (names ++ part ∷ [])) (same_rest start part p (sym name ∙ here)) (Contains-push names part))
      (cases (start ++ p) has);
}
  where
    keys : keys_of (done ++ m ∷ []) ≡ keys_of done ++ m.0 ∷ []
    keys = keys_of-push done m

    in_front : (k : List ℕ) → Contains (keys_of done) k → Contains (keys_of (done ++ m ∷ [])) k
    in_front k has = subst (λ l. Contains l k) (sym keys) (Contains-append_left (keys_of done) (m.0 ∷ []) k has)

    at_end : (k : List ℕ) → m.0 ≡ k → Contains (keys_of (done ++ m ∷ [])) k
    at_end k is = subst (λ l. Contains l k) (sym keys) (subst (Contains (keys_of done ++ m.0 ∷ [])) is (Contains-push (keys_of done) m.0))

    cases : (k : List ℕ) → Contains (keys_of (done ++ m ∷ [])) k → Contains (keys_of done) k ⊎ (m.0 ≡ k)
    cases k has = Contains-push_cases (keys_of done) m.0 k (subst (λ l. Contains l k) keys has)

-- one name more that has no part
pub listed_skip : (start : List ℕ) (done : Table) (names : List (List ℕ)) (m : List ℕ × List ℕ) → IsListed start done names → ((part : List ℕ) → m.0 ≡ start ++ part → IsPart part → ⊥) → IsListed start (done ++ m ∷ []) names
listed_skip start done names m so_far none = record {
  ascends = so_far.ascends;
  from = λ p has. let f = so_far.from p has in (f.0, in_front (start ++ p) f.1);
  all = λ p is_part has. ⊎_elim (λ early. so_far.all p is_part early) (λ here. absurd (none p here is_part)) (cases (start ++ p) has);
}
  where
    keys : keys_of (done ++ m ∷ []) ≡ keys_of done ++ m.0 ∷ []
    keys = keys_of-push done m

    in_front : (k : List ℕ) → Contains (keys_of done) k → Contains (keys_of (done ++ m ∷ [])) k
    in_front k has = subst (λ l. Contains l k) (sym keys) (Contains-append_left (keys_of done) (m.0 ∷ []) k has)

    cases : (k : List ℕ) → Contains (keys_of (done ++ m ∷ [])) k → Contains (keys_of done) k ⊎ (m.0 ≡ k)
    cases k has = Contains-push_cases (keys_of done) m.0 k (subst (λ l. Contains l k) keys has)

-- all names were looked at
pub lists_all : (folder : List ℕ) (files : Table) (names : List (List ℕ)) → IsListed (folder_start folder) files names → Lists (content_of files) folder names
lists_all folder files names listed = record {
  ascends = listed.ascends;
  each = λ part. (
    (λ has. let f = listed.from part has in (f.0, has_file files (folder_start folder ++ part) f.1)),
    (λ is. listed.all part is.0 (Contains-keys_from_lookup (λ x y same. (same_key-decides x y).0 same) (folder_start folder ++ part) files is.1)),
  );
}

-- one member more
pub listed_step : (start : List ℕ) (files : Table) (i : ℕ) (m : List ℕ × List ℕ) (names new : List (List ℕ)) → IsListed start (take i files) names → Rises files → i < length files → m ≡ slice_index_or files i m → Takes start m.0 names new
    → IsListed start (take (i + 1) files) new
listed_step start files i m names new so_far rises within is takes =
    let below : AllBelow (take i files) m.0 = below_next files (take i files) i m m.0 rises refl within is refl in
    let one : take (i + 1) files ≡ take i files ++ m ∷ [] = ap (λ k. take k files) (add-one i) ∙ take-suc files i m within ∙ ap (λ (x : List ℕ × List ℕ). take i files ++ x ∷ []) (sym is) in
    subst (λ l. IsListed start l new) (sym one)
    (⊎_elim
    (λ t. subst (IsListed start (take i files ++ m ∷ [])) (sym t.3) (listed_more start (take i files) names m t.0 so_far below t.1 t.2))
    (λ t. subst (IsListed start (take i files ++ m ∷ [])) (sym t.1) (listed_skip start (take i files) names m so_far t.0))
    takes)

pub lists_same : (one other : Content) (folder : List ℕ) (names : List (List ℕ)) → ((n : List ℕ) → one n ≡ other n) → Lists one folder names → Lists other folder names
lists_same one other folder names same lists = subst (λ c. Lists c folder names) (λ i. λ n. same n i) lists

pub names_same : {E : Type 0} (one other : Content) (folder : List ℕ) (result : Result (List (List ℕ)) E) → one ≡ other → IfOk result (λ names. Lists one folder names) → IfOk result (λ names. Lists other folder names)
names_same one other folder (Ok names) same lists = subst (λ c. Lists c folder names) same lists
names_same one other folder (Err e) same lists = tt

pub lists_if : {E : Type 0} (start folder : List ℕ) (files : Table) (result : Result (List (List ℕ)) E) → start ≡ folder_start folder → IfOk result (λ names. IsListed start files names)
    → IfOk result (λ names. Lists (content_of files) folder names)
lists_if start folder files (Ok names) is listed = lists_all folder files names (subst (λ s. IsListed s files names) is listed)
lists_if start folder files (Err e) is listed = tt
