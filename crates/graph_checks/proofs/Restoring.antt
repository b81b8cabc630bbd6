-- Boxes that are drawn one after another, and that go back.
use Rattle.std.specs.Prelude.{bytes_eq, if◌then◌else◌}
use Rattle.std.proofs.lemmas.Bool.{false≢true}
use Rattle.std.proofs.lemmas.List.{length-take-le}
use Rattle.std.proofs.lemmas.Slice.Eq.{bytes_eq-Decides}
use Rattle.std.proofs.Common.{◌≡◌, ◌<◌, ◌≤◌, ℕ, ◌+◌, ◌-◌, List, [], ◌∷◌, ◌++◌, length, take, refl, sym, ap, subst, ◌∙◌, arith, rules, Bool, true, false}
use Rattle.foreign_parts.specs.Stocks.{Stock, left_of, out_of, drawn, given_back, one_drawn, one_back, IsLast, IsOut}
use Rattle.graph_checks.specs.Drawings.{Numbered, AllDrawn, AllMayGoBack, AreDrawn, all_back, MayGoBack}
use Rattle.graph_checks.specs.Wants.{times_of, AreLeft}

stock_back : (n : ℕ) (s : Stock) → IsLast n s.left → one_back n (one_drawn s) ≡ s
stock_back n s last =
    let count : s.out + 1 - 1 ≡ s.out = omega arith in
    λ i. record { name = s.name; left = sym last i; out = count i }

back_case : (b : Bool) (k : List ℕ) (n : ℕ) (s : Stock) (ss : List Stock) → bytes_eq s.name k ≡ b → IsLast n (if b then s.left else left_of k ss) → (IsLast n (left_of k ss) → given_back k n (drawn k ss) ≡ ss)
    → given_back k n (if b then one_drawn s ∷ ss else s ∷ drawn k ss) ≡ s ∷ ss
back_case true k n s ss is last more = ap (λ t. if t then one_back n (one_drawn s) ∷ ss else one_drawn s ∷ given_back k n ss) is ∙ ap (λ x. x ∷ ss) (stock_back n s last)
back_case false k n s ss is last more = ap (λ t. if t then one_back n s ∷ drawn k ss else s ∷ given_back k n (drawn k ss)) is ∙ ap (λ xs. s ∷ xs) (more last)

-- a box that was drawn goes back
drawn_back : (k : List ℕ) (n : ℕ) (ss : List Stock) → IsLast n (left_of k ss) → given_back k n (drawn k ss) ≡ ss
drawn_back k n [] last = absurd (omega (arith, ap length last))
drawn_back k n (s ∷ ss) last = back_case (bytes_eq s.name k) k n s ss refl last (drawn_back k n ss)

out_case : (b : Bool) (k : List ℕ) (n : ℕ) (s : Stock) (ss : List Stock) → bytes_eq s.name k ≡ b → IsLast n (if b then s.left else left_of k ss) → (IsLast n (left_of k ss) → 0 < out_of k (drawn k ss))
    → 0 < out_of k (if b then one_drawn s ∷ ss else s ∷ drawn k ss)
out_case true k n s ss is last more = subst (λ t. 0 < (if t then s.out + 1 else out_of k ss)) (sym is) (omega arith)
out_case false k n s ss is last more = subst (λ t. 0 < (if t then s.out else out_of k (drawn k ss))) (sym is) (more last)

is_out : (k : List ℕ) (n : ℕ) (ss : List Stock) → IsLast n (left_of k ss) → 0 < out_of k (drawn k ss)
is_out k n [] last = absurd (omega (arith, ap length last))
is_out k n (s ∷ ss) last = out_case (bytes_eq s.name k) k n s ss refl last (is_out k n ss)

module _ (Out : List Stock → ℕ → Type 0) where
  -- all boxes that were drawn go back
  pub restored : (bs : Numbered) (old new : List Stock) → AreDrawn Out bs old new → all_back bs new ≡ old
  restored [] old new is = is
  restored (b ∷ bs) old new (last, out, rest) = ap (given_back b.0 b.1) (restored bs (drawn b.0 old) new rest) ∙ drawn_back b.0 b.1 old last

  pub may_go_back : (bs : Numbered) (old new : List Stock) → AreDrawn Out bs old new → MayGoBack Out bs new
  may_go_back [] old new is = tt
  may_go_back (b ∷ bs) old new (last, out, rest) =
      let same = sym (restored bs (drawn b.0 old) new rest) in
      (may_go_back bs (drawn b.0 old) new rest, subst (λ ss. 0 < out_of b.0 ss) same (is_out b.0 b.1 old last), subst (λ ss. Out ss b.1) same out)

  -- one box more
  pub drawn_more : (bs : Numbered) (k : List ℕ) (n : ℕ) (old mid new : List Stock) → AreDrawn Out bs old mid → IsLast n (left_of k mid) → Out new n → new ≡ drawn k mid → AreDrawn Out (bs ++ (k, n) ∷ []) old new
  drawn_more [] k n old mid new is last out next = (subst (λ ss. IsLast n (left_of k ss)) is last, subst (λ ss. Out ss n) (next ∙ ap (drawn k) is) out, next ∙ ap (drawn k) is)
  drawn_more (b ∷ bs) k n old mid new (first, here, rest) last out next = (first, here, drawn_more bs k n (drawn b.0 old) mid new rest last out next)

  -- the last box goes back first
  pub last_back : (bs : Numbered) (k : List ℕ) (n : ℕ) (ss : List Stock) → all_back (bs ++ (k, n) ∷ []) ss ≡ all_back bs (given_back k n ss)
  last_back [] k n ss = refl
  last_back (b ∷ bs) k n ss = ap (given_back b.0 b.1) (last_back bs k n ss)

  pub last_may : (bs : Numbered) (k : List ℕ) (n : ℕ) (ss : List Stock) → MayGoBack Out (bs ++ (k, n) ∷ []) ss → MayGoBack Out bs (given_back k n ss) × (0 < out_of k ss) × Out ss n
  last_may [] k n ss may = may
  last_may (b ∷ bs) k n ss (others, some, out) =
      let same = last_back bs k n ss in
      let (rest, first, here) = last_may bs k n ss others in
      ((rest, subst (λ xs. 0 < out_of b.0 xs) same some, subst (λ xs. Out xs b.1) same out), first, here)

left_case : (b : Bool) (k : List ℕ) (s : Stock) (ss : List Stock) → bytes_eq s.name k ≡ b → length (left_of k (drawn k ss)) ≡ length (left_of k ss) - 1
    → length (left_of k (if b then one_drawn s ∷ ss else s ∷ drawn k ss)) ≡ length (if b then s.left else left_of k ss) - 1
left_case true k s ss is more = ap (λ t. length (if t then take (length s.left - 1) s.left else left_of k ss)) is ∙ length-take-le (length s.left - 1) s.left (omega arith)
left_case false k s ss is more = ap (λ t. length (if t then s.left else left_of k (drawn k ss))) is ∙ more

one_less : (k : List ℕ) (ss : List Stock) → length (left_of k (drawn k ss)) ≡ length (left_of k ss) - 1
one_less k [] = refl
one_less k (s ∷ ss) = left_case (bytes_eq s.name k) k s ss refl (one_less k ss)

same_name : (a b c : List ℕ) → bytes_eq a b ≡ true → bytes_eq a c ≡ true → bytes_eq b c ≡ true
same_name a b c first second =
    let e : a ≡ b = search (rules, bytes_eq-Decides) in
    subst (λ x. bytes_eq x c ≡ true) e second

other_case : (b c : Bool) (j k : List ℕ) (s : Stock) (ss : List Stock) → bytes_eq s.name k ≡ b → bytes_eq s.name j ≡ c → bytes_eq k j ≡ false → left_of j (drawn k ss) ≡ left_of j ss
    → left_of j (if b then one_drawn s ∷ ss else s ∷ drawn k ss) ≡ left_of j (s ∷ ss)
other_case true true j k s ss is here apart more = absurd (false≢true (sym apart ∙ same_name s.name k j is here))
other_case true false j k s ss is here apart more = ap (λ t. if t then (one_drawn s).left else left_of j ss) here ∙ ap (λ t. if t then s.left else left_of j ss) (sym here)
other_case false c j k s ss is here apart more = ap (λ xs. if bytes_eq s.name j then s.left else xs) more

pub others_same : (j k : List ℕ) (ss : List Stock) → bytes_eq k j ≡ false → left_of j (drawn k ss) ≡ left_of j ss
others_same j k [] apart = refl
others_same j k (s ∷ ss) apart = other_case (bytes_eq s.name k) (bytes_eq s.name j) j k s ss refl refl apart (others_same j k ss apart)

abbrev ones : ℕ → ℕ
ones n = n

module _ (k : List ℕ) (names : List (List ℕ)) (ss : List Stock) (left : AreLeft (k ∷ names) ss) where
  pub some_left : 0 < length (left_of k ss)
  some_left =
      let once : (if bytes_eq k k then 1 else 0) ≡ ones 1 = ap (λ t. if t then 1 else 0) ((bytes_eq-Decides k k).1 refl) in
      omega (arith, once, left k)

  by : (j : List ℕ) (b : Bool) → bytes_eq j k ≡ b → (if b then 1 else 0) + times_of j names ≤ length (left_of j ss) → times_of j names ≤ length (left_of j (drawn k ss))
  by j true is most =
      let e : j ≡ k = search (rules, bytes_eq-Decides) in
      let less : length (left_of j (drawn k ss)) ≡ length (left_of j ss) - 1 = subst (λ x. length (left_of x (drawn k ss)) ≡ length (left_of x ss) - 1) (sym e) (one_less k ss) in
      omega (arith, most, less)
  by j false is most =
      let apart : bytes_eq k j ≡ false = search (rules, bytes_eq-Decides) in
      omega (arith, most, ap length (others_same j k ss apart))

  pub left_behind : AreLeft names (drawn k ss)
  left_behind j = by j (bytes_eq j k) refl (left j)

-- all that was drawn goes back, and the rack is as it was
module _ (given : ℕ) (filters outputs : Numbered) (fs os new_fs new_os : List Stock) (drew : AllDrawn given filters outputs fs os new_fs new_os) where
  pub filters_restored : all_back filters new_fs ≡ fs
  filters_restored = restored (λ ss n. IsOut given ss os n) filters fs new_fs drew.of_filters

  pub outputs_restored : all_back outputs new_os ≡ os
  outputs_restored = restored (λ ss n. IsOut given new_fs ss n) outputs os new_os drew.of_outputs

  pub all_may_go_back : AllMayGoBack given filters outputs new_fs new_os
  all_may_go_back = record {
    of_outputs = may_go_back (λ ss n. IsOut given new_fs ss n) outputs os new_os drew.of_outputs;
    of_filters = subst (λ xs. MayGoBack (λ ss n. IsOut given ss xs n) filters new_fs) (sym outputs_restored) (may_go_back (λ ss n. IsOut given ss os n) filters fs new_fs drew.of_filters);
  }

-- filters may go back into a rack that holds the same
pub may_in : (bs : Numbered) {given now : ℕ} {os others fs same : List Stock} → given ≡ now → os ≡ others → fs ≡ same → MayGoBack (λ ss n. IsOut given ss os n) bs fs → MayGoBack (λ ss n. IsOut now ss others n) bs same
may_in bs {given} {now} {os} {others} {fs} {same} first second third may =
    subst (λ xs. MayGoBack (λ ss n. IsOut now ss others n) bs xs) third
    (subst (λ xs. MayGoBack (λ ss n. IsOut now ss xs n) bs fs) second
    (subst (λ m. MayGoBack (λ ss n. IsOut m ss os n) bs fs) first may))
