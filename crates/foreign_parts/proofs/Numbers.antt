-- Each box has a number of its own.
use Rattle.std.specs.Prelude.{bytes_eq, nat_eq, if◌then◌else◌}
use Rattle.std.proofs.Common.{◌≡◌, ◌⊎◌, inl, inr, ℕ, ◌+◌, ◌<◌, ◌≤◌, List, [], ◌∷◌, ◌++◌, length, refl, sym, ap, subst, ◌∙◌, arith, Bool, true, false, Option, Some, None, IfSome, IfNone}
use Rattle.std.proofs.lemmas.Bool.{eqb-true, eq-eqb}
use Rattle.std.proofs.Math.Nat.{lt_of_not-le}
use Rattle.foreign_parts.specs.Stocks.{Stock, left_of, out_of, with_box, drawn, given_back, one_more, one_drawn, one_back, times_in, times, AreNumbered, IsLast, IsOut}

-- once, where it is this number
abbrev one : ℕ → ℕ → ℕ
one m n = if nat_eq m n then 1 else 0

times_behind : (m n : ℕ) (ns : List ℕ) → times_in m (ns ++ n ∷ []) ≡ times_in m ns + one m n
times_behind m n [] = omega arith
times_behind m n (x ∷ ns) = omega (arith, times_behind m n ns)

more_case : (b : Bool) (m n : ℕ) (s : Stock) (here more rest : ℕ) → here ≡ times_in m s.left + one m n → more ≡ rest + one m n → (ss more_ss : List Stock) → times m ss ≡ rest → times m more_ss ≡ more → (t : Stock) → times_in m t.left ≡ here → times m (if b then t ∷ ss else s ∷ more_ss) ≡ (times_in m s.left + rest) + one m n
more_case true m n s here more rest h g ss more_ss is also t left = omega (arith, h, g, is, left)
more_case false m n s here more rest h g ss more_ss is also t left = omega (arith, h, g, is, also)

pub times_more : (m : ℕ) (k : List ℕ) (n : ℕ) (ss : List Stock) → times m (with_box k n ss) ≡ times m ss + one m n
times_more m k n [] = omega arith
times_more m k n (s ∷ ss) = more_case (bytes_eq s.name k) m n s (times_in m (s.left ++ n ∷ [])) (times m (with_box k n ss)) (times m ss) (times_behind m n s.left) (times_more m k n ss) ss (with_box k n ss) refl refl (one_more n s) refl

drawn_case : (b : Bool) (m n : ℕ) (s : Stock) (ss rest : List Stock) (left : List ℕ) → (IsLast n left → times m ss ≡ times m rest + one m n)
    → IsLast n (if b then s.left else left) → times m (s ∷ ss) ≡ times m (if b then one_drawn s ∷ ss else s ∷ rest) + one m n
drawn_case true m n s ss rest left next last = omega (arith, ap (times_in m) last, times_behind m n (one_drawn s).left)
drawn_case false m n s ss rest left next last = omega (arith, next last)

-- a box that was drawn is no longer there
pub times_drawn : (m : ℕ) (k : List ℕ) (n : ℕ) (ss : List Stock) → IsLast n (left_of k ss) → times m ss ≡ times m (drawn k ss) + one m n
times_drawn m k n [] last = absurd (omega (arith, ap length last))
times_drawn m k n (s ∷ ss) last = drawn_case (bytes_eq s.name k) m n s ss (drawn k ss) (left_of k ss) (times_drawn m k n ss) last

back_case : (b : Bool) (m n : ℕ) (s : Stock) (ss rest : List Stock) (out : ℕ) → (0 < out → times m rest ≡ times m ss + one m n) → 0 < (if b then s.out else out) → times m (if b then one_back n s ∷ ss else s ∷ rest) ≡ times m (s ∷ ss) + one m n
back_case true m n s ss rest out next some = omega (arith, times_behind m n s.left)
back_case false m n s ss rest out next some = omega (arith, next some)

pub times_back : (m : ℕ) (k : List ℕ) (n : ℕ) (ss : List Stock) → 0 < out_of k ss → times m (given_back k n ss) ≡ times m ss + one m n
times_back m k n [] some = absurd (omega (arith, some))
times_back m k n (s ∷ ss) some = back_case (bytes_eq s.name k) m n s ss (given_back k n ss) (out_of k ss) (times_back m k n ss) some

one_case : (b : Bool) (m n : ℕ) → nat_eq m n ≡ b → (m ≡ n) ⊎ (one m n ≡ 0)
one_case true m n is = inl (eqb-true m n is)
one_case false m n is = inr (ap (λ b. if b then 1 else 0) is)

once : (n : ℕ) → one n n ≡ 1
once n = ap (λ b. if b then 1 else 0) (eq-eqb n n refl)

one_most : (b : Bool) → (if b then 1 else 0) ≤ 1
one_most true = omega arith
one_most false = omega arith

-- so many boxes have each number, of the first so many numbers
abbrev Own : ℕ → ℕ → (ℕ → ℕ) → Type 0
Own given m count = (count m ≤ 1) × (given ≤ m → count m ≡ 0)

own_more : (given m : ℕ) (count : ℕ → ℕ) (sum : ℕ) → sum ≡ count m + one m given → Own given m count → (m ≡ given) ⊎ (one m given ≡ 0) → (sum ≤ 1) × (given + 1 ≤ m → sum ≡ 0)
own_more given m count sum is own (inl same) =
    let first : count m ≡ 0 = own.1 (omega (arith, same)) in
    (omega (arith, is, first, one_most (nat_eq m given)), λ past. absurd (omega (arith, same, past)))
own_more given m count sum is own (inr other) = (omega (arith, is, other, own.0), λ past. omega (arith, is, other, own.1 (omega (arith, past))))

own_less : (given m : ℕ) (count : ℕ → ℕ) (sum taken : ℕ) → count m ≡ sum + taken → Own given m count → (sum ≤ 1) × (given ≤ m → sum ≡ 0)
own_less given m count sum taken is own = (omega (arith, is, own.0), λ past. omega (arith, is, own.1 past))

own_back : (given m n : ℕ) (count : ℕ → ℕ) (sum : ℕ) → sum ≡ count m + one m n → Own given m count → n < given → count n ≡ 0 → (m ≡ n) ⊎ (one m n ≡ 0) → (sum ≤ 1) × (given ≤ m → sum ≡ 0)
own_back given m n count sum is own below gone (inl same) =
    let none : count m ≡ 0 = ap count same ∙ gone in
    (omega (arith, is, none, one_most (nat_eq m n)), λ past. absurd (omega (arith, same, below, past)))
own_back given m n count sum is own below gone (inr other) = (omega (arith, is, other, own.0), λ past. omega (arith, is, other, own.1 past))

gone : (given n sum taken : ℕ) → taken ≡ 1 → (sum + taken ≤ 1) × (given ≤ n → sum + taken ≡ 0) → (n < given) × (sum ≡ 0)
gone given n sum taken is own = (lt_of_not-le (λ past. omega (arith, is, own.1 past)), omega (arith, is, own.0))

filter_added : (given : ℕ) (k : List ℕ) (fs os : List Stock) → AreNumbered given fs os → AreNumbered (given + 1) (with_box k given fs) os
filter_added given k fs os own m = own_more given m (λ i. times i fs + times i os) (times m (with_box k given fs) + times m os) (omega (arith, times_more m k given fs)) (own m) (one_case (nat_eq m given) m given refl)

output_added : (given : ℕ) (k : List ℕ) (fs os : List Stock) → AreNumbered given fs os → AreNumbered (given + 1) fs (with_box k given os)
output_added given k fs os own m = own_more given m (λ i. times i fs + times i os) (times m fs + times m (with_box k given os)) (omega (arith, times_more m k given os)) (own m) (one_case (nat_eq m given) m given refl)

-- the rack is numbered still, by what became of its stocks
module _ (given : ℕ) (k : List ℕ) (fs os new : List Stock) (own : AreNumbered given fs os) where
  pub filters_same : new ≡ fs → AreNumbered given new os
  filters_same is = subst (λ s. AreNumbered given s os) (sym is) own

  pub outputs_same : new ≡ os → AreNumbered given fs new
  outputs_same is = subst (λ s. AreNumbered given fs s) (sym is) own

  pub filters_added : (next : ℕ) → next ≡ given + 1 → new ≡ with_box k given fs → AreNumbered next new os
  filters_added next more is = subst (λ n. AreNumbered n new os) (sym more) (subst (λ s. AreNumbered (given + 1) s os) (sym is) (filter_added given k fs os own))

  pub outputs_added : (next : ℕ) → next ≡ given + 1 → new ≡ with_box k given os → AreNumbered next fs new
  outputs_added next more is = subst (λ n. AreNumbered n fs new) (sym more) (subst (λ s. AreNumbered (given + 1) fs s) (sym is) (output_added given k fs os own))

  pub filters_back : (n : ℕ) → 0 < out_of k fs → IsOut given fs os n → new ≡ given_back k n fs → AreNumbered given new os
  filters_back n some out is = subst (λ s. AreNumbered given s os) (sym is) (λ m. own_back given m n (λ i. times i fs + times i os) (times m (given_back k n fs) + times m os) (omega (arith, times_back m k n fs some)) (own m) out.was_given out.is_gone (one_case (nat_eq m n) m n refl))

  pub outputs_back : (n : ℕ) → 0 < out_of k os → IsOut given fs os n → new ≡ given_back k n os → AreNumbered given fs new
  outputs_back n some out is = subst (λ s. AreNumbered given fs s) (sym is) (λ m. own_back given m n (λ i. times i fs + times i os) (times m fs + times m (given_back k n os)) (omega (arith, times_back m k n os some)) (own m) out.was_given out.is_gone (one_case (nat_eq m n) m n refl))

  filter_drawn : (n : ℕ) → IsLast n (left_of k fs) → AreNumbered given (drawn k fs) os
  filter_drawn n last m = own_less given m (λ i. times i fs + times i os) (times m (drawn k fs) + times m os) (one m n) (omega (arith, times_drawn m k n fs last)) (own m)

  output_drawn : (n : ℕ) → IsLast n (left_of k os) → AreNumbered given fs (drawn k os)
  output_drawn n last m = own_less given m (λ i. times i fs + times i os) (times m fs + times m (drawn k os)) (one m n) (omega (arith, times_drawn m k n os last)) (own m)

  filter_out : (n : ℕ) → IsLast n (left_of k fs) → IsOut given (drawn k fs) os n
  filter_out n last =
      let sum : times n fs + times n os ≡ times n (drawn k fs) + times n os + one n n = omega (arith, times_drawn n k n fs last) in
      let out = gone given n (times n (drawn k fs) + times n os) (one n n) (once n) (subst (λ c. (c ≤ 1) × (given ≤ n → c ≡ 0)) sum (own n)) in
      record { was_given = out.0; is_gone = out.1 }

  output_out : (n : ℕ) → IsLast n (left_of k os) → IsOut given fs (drawn k os) n
  output_out n last =
      let sum : times n fs + times n os ≡ times n fs + times n (drawn k os) + one n n = omega (arith, times_drawn n k n os last) in
      let out = gone given n (times n fs + times n (drawn k os)) (one n n) (once n) (subst (λ c. (c ≤ 1) × (given ≤ n → c ≡ 0)) sum (own n)) in
      record { was_given = out.0; is_gone = out.1 }

  module _ {X : Type 0} (number : X → ℕ) where
    pub filters_drawn : (r : Option X) → IfSome r (λ x. IsLast (number x) (left_of k fs)) → IfSome r (λ _. new ≡ drawn k fs) → IfNone r (new ≡ fs) → AreNumbered given new os
    filters_drawn (Some x) last is same = subst (λ s. AreNumbered given s os) (sym is) (filter_drawn (number x) last)
    filters_drawn None last is same = filters_same same

    pub outputs_drawn : (r : Option X) → IfSome r (λ x. IsLast (number x) (left_of k os)) → IfSome r (λ _. new ≡ drawn k os) → IfNone r (new ≡ os) → AreNumbered given fs new
    outputs_drawn (Some x) last is same = subst (λ s. AreNumbered given fs s) (sym is) (output_drawn (number x) last)
    outputs_drawn None last is same = outputs_same same

    pub filters_out : (r : Option X) → IfSome r (λ x. IsLast (number x) (left_of k fs)) → IfSome r (λ _. new ≡ drawn k fs) → IfSome r (λ x. IsOut given new os (number x))
    filters_out (Some x) last is = subst (λ s. IsOut given s os (number x)) (sym is) (filter_out (number x) last)
    filters_out None last is = tt

    pub outputs_out : (r : Option X) → IfSome r (λ x. IsLast (number x) (left_of k os)) → IfSome r (λ _. new ≡ drawn k os) → IfSome r (λ x. IsOut given fs new (number x))
    outputs_out (Some x) last is = subst (λ s. IsOut given fs s (number x)) (sym is) (output_out (number x) last)
    outputs_out None last is = tt
