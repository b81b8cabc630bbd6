-- Whether two values are equal, as a test.
use Rattle.std.specs.Prelude.{◌≡◌, ℕ, Bool, true, false, refl}
use Rattle.event_tree.specs.declared.value.Value.{Value}
use Rattle.event_tree.specs.contracts.value.Value as tree
use Rattle.std.specs.Coded.{Coded}
use base.Stored.{Gv, gnil, gnum, gcons}
use mathlib.Core.Path.{sym, ap, subst}
use native.Mathlib.Decide.{ℕ_discrete}

-- A value has a code, a tree of numbers, and values with one code are equal. So it is decided on codes whether values are equal.

abbrev is_number : Gv → Type 0
is_number gnil = ⊥
is_number (gnum n) = Unit {0}
is_number (gcons a b) = ⊥

abbrev is_pair : Gv → Type 0
is_pair gnil = ⊥
is_pair (gnum n) = ⊥
is_pair (gcons a b) = Unit {0}

abbrev number_in : Gv → ℕ
number_in gnil = 0
number_in (gnum n) = n
number_in (gcons a b) = 0

abbrev first : Gv → Gv
first gnil = gnil
first (gnum n) = gnil
first (gcons a b) = a

abbrev second : Gv → Gv
second gnil = gnil
second (gnum n) = gnil
second (gcons a b) = b

same_number : (m n : ℕ) → Dec (m ≡ n) → Dec (gnum m ≡ gnum n)
same_number m n (yes e) = yes (ap gnum e)
same_number m n (no d) = no (λ e. d (ap number_in e))

same_pair : (a b c d : Gv) → Dec (a ≡ c) → Dec (b ≡ d) → Dec (gcons a b ≡ gcons c d)
same_pair a b c d (yes p) (yes q) = yes (λ i. gcons (p i) (q i))
same_pair a b c d (no p) q = no (λ e. p (ap first e))
same_pair a b c d (yes p) (no q) = no (λ e. q (ap second e))

-- whether two codes are equal can be decided
code_discrete : (x y : Gv) → Dec (x ≡ y)
code_discrete gnil gnil = yes refl
code_discrete gnil (gnum n) = no (λ e. subst is_number (sym e) tt)
code_discrete gnil (gcons a b) = no (λ e. subst is_pair (sym e) tt)
code_discrete (gnum m) gnil = no (λ e. subst is_number e tt)
code_discrete (gnum m) (gnum n) = same_number m n (ℕ_discrete m n)
code_discrete (gnum m) (gcons a b) = no (λ e. subst is_number e tt)
code_discrete (gcons a b) gnil = no (λ e. subst is_pair e tt)
code_discrete (gcons a b) (gnum n) = no (λ e. subst is_pair e tt)
code_discrete (gcons a b) (gcons c d) = same_pair a b c d (code_discrete a c) (code_discrete b d)

value_coded : Coded Value
value_coded = tree.the_row.coded

decided : (x y : Value) → Dec (value_coded.code x ≡ value_coded.code y) → Dec (x ≡ y)
decided x y (yes e) = yes (value_coded.inj x y e)
decided x y (no d) = no (λ e. d (ap value_coded.code e))

-- whether two values are equal can be decided
pub value_discrete : (x y : Value) → Dec (x ≡ y)
value_discrete x y = decided x y (code_discrete (value_coded.code x) (value_coded.code y))

-- the decision as a test
abbrev pub is_yes : {P : Type 0} → Dec P → Bool
is_yes (yes p) = true
is_yes (no d) = false

-- whether two values are equal
unfoldable pub are_equal : Value → Value → Bool
are_equal x y = is_yes (value_discrete x y)
