-- One more check, for the invariant of a loop that says what the checks of what is left still say.
use Rattle.std.proofs.Common.{Result, ◌≡◌, ℕ, ◌+◌, ◌<◌, ◌≤◌, List, [], ◌∷◌, ◌++◌, length, drop, get_or, refl, sym, ap, subst, ◌∙◌, Ok, Err}
use Rattle.event_text.proofs.Going.{front, behind_end}
use Rattle.graph_checks.specs.Answers.{Checked, Refuses, Leaves, next, all_checked}
use Rattle.graph_checks.specs.declared.fault.GraphFault.{GraphFault}
use Rattle.graph_checks.specs.declared.fault.GraphFault.TheVariants as fault

-- a refusal is that of what comes next
pub refuses_next : {A B : Type 0} (f : GraphFault) (g : A → Checked B) (m : Checked A) → Refuses f m → Refuses f (next g m)
refuses_next (fault.UnknownPlugin name) g m h = ap (next g) h
refuses_next (fault.Setting id e) g m h = ap (next g) h
refuses_next (fault.TwiceId id) g m h = ap (next g) h
refuses_next (fault.TwicePath path) g m h = ap (next g) h
refuses_next (fault.TwiceAddress address) g m h = ap (next g) h
refuses_next fault.TwiceStdin g m h = ap (next g) h
refuses_next (fault.PathLong path) g m h = ap (next g) h
refuses_next fault.NoInput g m h = ap (next g) h
refuses_next fault.NoOutput g m h = ap (next g) h
refuses_next (fault.NoSpare name wanted left) g m h = ap (next g) h
refuses_next fault.Memory g m h = tt

-- and a refusal of what comes next, where there was none before
pub refuses_then : {A B : Type 0} (f : GraphFault) (g : A → Checked B) (m : Checked A) (x : A) → m ≡ Ok x → Refuses f (g x) → Refuses f (next g m)
refuses_then f g m x is h = subst (λ n. Refuses f (next g n)) (sym is) h

pub gives_then : {A B : Type 0} (g : A → Checked B) (m : Checked A) (x : A) (y : B) → m ≡ Ok x → g x ≡ Ok y → next g m ≡ Ok y
gives_then g m x y is h = ap (next g) is ∙ h

-- what an answer says stands however it is written
pub leaves_as : {A : Type 0} (r : Result (Unit {0}) GraphFault) (said other : Checked A) (new : A) → other ≡ said → Leaves r said new → Leaves r other new
leaves_as r said other new is h = subst (λ m. Leaves r m new) (sym is) h

pub next_ok : {A : Type 0} (m : Checked A) → next Ok m ≡ m
next_ok (Ok x) = refl
next_ok (Err f) = refl

module _ {X A : Type 0} (one : X → A → Checked A) (xs : List X) (i : ℕ) where
  -- what is left says what all say
  abbrev pub CheckedSoFar : A → A → Type 0
  CheckedSoFar a start = all_checked one (drop i xs) a ≡ all_checked one xs start

  step : (x : X) (a start : A) → i < length xs → x ≡ get_or xs i x → CheckedSoFar a start → next (all_checked one (drop (i + 1) xs)) (one x a) ≡ all_checked one xs start
  step x a start below is so_far = ap (λ ys. all_checked one ys a) (sym (front xs i x below is)) ∙ so_far

  pub checked_more : (x : X) (a b start : A) → i < length xs → x ≡ get_or xs i x → CheckedSoFar a start → one x a ≡ Ok b → all_checked one (drop (i + 1) xs) b ≡ all_checked one xs start
  checked_more x a b start below is so_far here = ap (next (all_checked one (drop (i + 1) xs))) (sym here) ∙ step x a start below is so_far

  pub checked_fails : (x : X) (a start : A) (f : GraphFault) → i < length xs → x ≡ get_or xs i x → CheckedSoFar a start → Refuses f (one x a) → Refuses f (all_checked one xs start)
  checked_fails x a start f below is so_far here =
      subst (λ m. Refuses f m) (step x a start below is so_far) (refuses_next f (all_checked one (drop (i + 1) xs)) (one x a) here)

  pub checked_end : (a start : A) → length xs ≤ i → CheckedSoFar a start → all_checked one xs start ≡ Ok a
  checked_end a start end so_far = sym so_far ∙ ap (λ ys. all_checked one ys a) (behind_end xs i end)

-- one list behind another
pub checked_join : {X A : Type 0} (one : X → A → Checked A) (xs ys : List X) (a : A) → all_checked one (xs ++ ys) a ≡ next (all_checked one ys) (all_checked one xs a)
checked_join one [] ys a = refl
checked_join {A = A} one (x ∷ xs) ys a = at (one x a) (checked_join one xs ys)
  where
    at : (m : Checked A) → ((b : A) → all_checked one (xs ++ ys) b ≡ next (all_checked one ys) (all_checked one xs b)) → next (all_checked one (xs ++ ys)) m ≡ next (all_checked one ys) (next (all_checked one xs) m)
    at (Ok b) h = h b
    at (Err f) h = refl

pub ruleset going = (checked_more, checked_fails, checked_end)
