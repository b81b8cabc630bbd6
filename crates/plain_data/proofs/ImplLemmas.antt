-- Lists that are compared and members that are cloned one by one.
use Rattle.std.proofs.Common.{◌≡◌, ℕ, Bool, true, ◌&&◌, IsTrue, ◌↔◌, List, [], ◌∷◌, nat_eq, refl, sym, ap, subst, ◌∙◌}
use Rattle.std.proofs.lemmas.Bool.{and_parts}
use Rattle.std.proofs.lemmas.Bool.Decides.{Decides-eqb}
use Rattle.std.specs.List.{AllZip}
use Rattle.std.specs.Cmp.Lexicographic.{pointwise, pointwise_decides, bytes_decides}
use Rattle.std.specs.Map.{keys_of}
use Rattle.plain_data.specs.Keys.{Ascends}
use Rattle.plain_data.specs.Members.{Rises}
use Rattle.plain_data.specs.MemberImpls.{member_clone, member_eq}

module _ {V : Type 0} (clones : V → V → Type 0) where
  keys_of-clone : (ms ns : List (List ℕ × V)) → AllZip (member_clone clones) ms ns → keys_of ns ≡ keys_of ms
  keys_of-clone [] [] all = refl
  keys_of-clone [] (n ∷ ns) all = absurd all
  keys_of-clone (m ∷ ms) [] all = absurd all
  keys_of-clone (m ∷ ms) (n ∷ ns) all = λ i. all.0.0 i ∷ keys_of-clone ms ns all.1 i

  -- the clones have the same keys, which rise
  pub Rises-clone : (ms ns : List (List ℕ × V)) → AllZip (member_clone clones) ms ns → Rises ms → Rises ns
  Rises-clone ms ns all rises = subst Ascends (sym (keys_of-clone ms ns all)) rises

  -- where a clone of a value is that value, the clones are the members
  pub same_from_clone : ((x y : V) → clones x y → y ≡ x) → (ms ns : List (List ℕ × V)) → AllZip (member_clone clones) ms ns → ns ≡ ms
  same_from_clone same [] [] all = refl
  same_from_clone same [] (n ∷ ns) all = absurd all
  same_from_clone same (m ∷ ms) [] all = absurd all
  same_from_clone same (m ∷ ms) (n ∷ ns) all = λ i. (all.0.0 i, same m.1 n.1 all.0.1 i) ∷ same_from_clone same ms ns all.1 i

module _ {X : Type 0} (test : X → X → Bool) (decides : (x y : X) → IsTrue (test x y) ↔ (x ≡ y)) where
  -- where a test of elements tells which are the same, so does the test of lists
  pub items_exact : (xs ys : List X) (r : Bool) → r ≡ pointwise test xs ys → IsTrue r ↔ (xs ≡ ys)
  items_exact xs ys r is = let both = pointwise_decides decides xs ys in (λ t. both.0 (sym is ∙ t), λ same. is ∙ both.1 same)

  -- and the test of members
  pub member_exact : (m n : List ℕ × X) → IsTrue (member_eq test m n) ↔ (m ≡ n)
  member_exact m n = (
    λ t.
        let both = and_parts (pointwise nat_eq m.0 n.0) (test m.1 n.1) t in
        let key : m.0 ≡ n.0 = (bytes_decides m.0 n.0).0 both.0 in
        let value : m.1 ≡ n.1 = (decides m.1 n.1).0 both.1 in
        λ i. (key i, value i),
    λ same.
        let key : pointwise nat_eq m.0 n.0 ≡ true = (bytes_decides m.0 n.0).1 (ap (λ (x : List ℕ × X). x.0) same) in
        let value : test m.1 n.1 ≡ true = (decides m.1 n.1).1 (ap (λ (x : List ℕ × X). x.1) same) in
        λ i. key i && value i,
  )

  -- where a test of values tells which are the same, so does that of members in order
  pub fields_exact : (ms ns : List (List ℕ × X)) (r : Bool) → r ≡ pointwise (member_eq test) ms ns → IsTrue r ↔ (ms ≡ ns)
  fields_exact ms ns r is = let both = pointwise_decides member_exact ms ns in (λ t. both.0 (sym is ∙ t), λ same. is ∙ both.1 same)

pub text_exact : (k l : List ℕ) → IsTrue (pointwise nat_eq k l) ↔ (k ≡ l)
text_exact = bytes_decides

pub nat_exact : (m n : ℕ) → IsTrue (nat_eq m n) ↔ (m ≡ n)
nat_exact = Decides-eqb

-- what `==` answers at lists and fields of numbers and of texts
pub ruleset exact = (items_exact, fields_exact, text_exact, nat_exact)
