-- What a line has to do, and what its summary shows of that.
use Rattle.std.proofs.Common.{◌≡◌, inl, inr, ℕ, ◌&&◌, ◌||◌, not, Bool, true, false, List, [], ◌∷◌, length, map, Option, Some, None, refl, sym, ap, ◌∙◌, subst, arith}
use Rattle.std.specs.Prelude.{nat_lt}
use Rattle.std.specs.List.{list_any, list_all}
use Rattle.std.specs.Option.{option_map}
use Rattle.std.proofs.lemmas.Bool.{ltb-false}
use Rattle.history_book.specs.Lists.{IsIn}
use Rattle.line_machine.specs.declared.calls.Act.{Act}
use Rattle.line_machine.specs.declared.calls.Act.TheVariants as act
use Rattle.line_machine.specs.declared.summary.Summary.{Summary}
use Rattle.line_machine.specs.Summaries.{is_empty, has_some}
use Rattle.line_machine.specs.Turns.{or_else, when, next_of, IsAtRest}
use Rattle.line_machine.proofs.Least.{none_some, true_false, not_both, both_of, both_are}

-- ---- a summary that shows nothing

both_none : (x y : Option Act) → or_else x y ≡ None → (x ≡ None) × (y ≡ None)
both_none None y e = (refl, e)
both_none (Some a) y e = absurd (none_some a (sym e))

when_none : (b : Bool) (x : Act) → when b x ≡ None → b ≡ false
when_none true x e = absurd (none_some x (sym e))
when_none false x e = refl

mapped_none : (f : ℕ → Act) (o : Option ℕ) → option_map f o ≡ None → o ≡ None
mapped_none f None e = refl
mapped_none f (Some n) e = absurd (none_some (f n) (sym e))

none_left : (n : ℕ) → nat_lt 0 n ≡ false → n ≡ 0
none_left n e = let most = ltb-false 0 n e in omega (arith, most)

pub shows_nothing : (s : Summary) → next_of s ≡ None → IsAtRest s
shows_nothing s e =
    let take = both_none _ _ e in let deliver = both_none _ _ take.1 in let finished = both_none _ _ deliver.1 in let answer = both_none _ _ finished.1 in
    let due = both_none _ _ answer.1 in let assure = both_none _ _ due.1 in let purge = both_none _ _ assure.1 in let whole = both_none _ _ purge.1 in let held = both_none _ _ whole.1 in
    let unread = both_none _ _ held.1 in let uncovered = both_none _ _ unread.1 in
    record {
      take = when_none s.take act.Take take.0;
      deliver = mapped_none act.Deliver s.deliver deliver.0;
      finished = mapped_none act.Acknowledge s.finished finished.0;
      answer = mapped_none act.Answer s.answer answer.0;
      due = when_none s.due act.Mark due.0;
      assure = mapped_none act.Assure s.assure assure.0;
      purge = when_none s.purge act.Purge purge.0;
      whole_batch = when_none s.whole_batch act.Read whole.0;
      held = mapped_none act.Accept s.held held.0;
      unread = none_left s.unread (when_none (nat_lt 0 s.unread) act.Read unread.0);
      uncovered = when_none s.uncovered act.Mark uncovered.0;
      poll = mapped_none act.Accept s.poll uncovered.1;
    }

none_of_both : (x y : Option Act) → x ≡ None → y ≡ None → or_else x y ≡ None
none_of_both x y e f = ap (λ (o : Option Act). or_else o y) e ∙ f

pub nothing_shown : (s : Summary) → IsAtRest s → next_of s ≡ None
nothing_shown s rest =
    none_of_both _ _ (ap (λ b. when b act.Take) rest.take) (none_of_both _ _ (ap (option_map act.Deliver) rest.deliver) (none_of_both _ _ (ap (option_map act.Acknowledge) rest.finished)
    (none_of_both _ _ (ap (option_map act.Answer) rest.answer) (none_of_both _ _ (ap (λ b. when b act.Mark) rest.due) (none_of_both _ _ (ap (option_map act.Assure) rest.assure)
    (none_of_both _ _ (ap (λ b. when b act.Purge) rest.purge) (none_of_both _ _ (ap (λ b. when b act.Read) rest.whole_batch) (none_of_both _ _ (ap (option_map act.Accept) rest.held) (none_of_both _ _ (ap (λ n. when (nat_lt 0 n) act.Read) rest.unread)
    (none_of_both _ _ (ap (λ b. when b act.Mark) rest.uncovered) (ap (option_map act.Accept) rest.poll)))))))))))

-- ---- tests

pub false_with : (a b : Bool) → (a && b) ≡ false → b ≡ true → a ≡ false
false_with true b e is = absurd (not_both b is e)
false_with false b e is = refl

pub false_behind : (a b : Bool) → (a && b) ≡ false → a ≡ true → b ≡ false
false_behind true b e is = e
false_behind false b e is = absurd (true_false (sym is))

pub false_both : (a b : Bool) → (a || b) ≡ false → (a ≡ false) × (b ≡ false)
false_both true b e = absurd (true_false e)
false_both false b e = (refl, e)

pub or_second_is : (a b : Bool) → b ≡ true → (a || b) ≡ true
or_second_is true b is = refl
or_second_is false b is = is

pub not_is : (b : Bool) → b ≡ false → not b ≡ true
not_is true e = absurd (true_false e)
not_is false e = refl

pub not_false : (b : Bool) → not b ≡ false → b ≡ true
not_false true e = refl
not_false false e = absurd (true_false e)

pub not_so : (b : Bool) → (b ≡ true → ⊥) → b ≡ false
not_so true never = absurd (never refl)
not_so false never = refl

-- ---- lists

pub no_option : {X : Type 0} (o : Option X) → has_some o ≡ false → o ≡ None
no_option None e = refl
no_option (Some x) e = absurd (true_false e)

pub empty_of : {X : Type 0} (xs : List X) → is_empty xs ≡ true → xs ≡ []
empty_of [] e = refl
empty_of (x ∷ xs) e = absurd (true_false (sym e))

pub no_length : {X : Type 0} (xs : List X) → length xs ≡ 0 → xs ≡ []
no_length [] e = refl
no_length (x ∷ xs) e = absurd (omega (arith, e))

pub none_in : {X : Type 0} (xs : List X) → ((x : X) → IsIn x xs → ⊥) → xs ≡ []
none_in [] none = refl
none_in (x ∷ xs) none = absurd (none x (inl refl))

pub in_none : {X : Type 0} (x : X) (xs : List X) → xs ≡ [] → IsIn x xs → ⊥
in_none x xs none has = subst (IsIn x) none has

module _ {X : Type 0} (p : X → Bool) where
  pub any_is : (xs : List X) (x : X) → IsIn x xs → p x ≡ true → list_any p xs ≡ true
  any_is [] x has is = absurd has
  any_is (y ∷ ys) x (inl e) is = ap (λ b. b || list_any p ys) (sym (ap p e) ∙ is)
  any_is (y ∷ ys) x (inr i) is = or_second_is (p y) (list_any p ys) (any_is ys x i is)

  pub none_is : (xs : List X) → list_any p xs ≡ false → (x : X) → IsIn x xs → p x ≡ false
  none_is xs none x has = not_so (p x) (λ is. not_both (list_any p xs) (any_is xs x has is) none)

  pub any_none : (xs : List X) → ((x : X) → IsIn x xs → p x ≡ false) → list_any p xs ≡ false
  any_none [] none = refl
  any_none (x ∷ xs) none = ap (λ b. b || list_any p xs) (none x (inl refl)) ∙ any_none xs (λ y i. none y (inr i))

  pub all_are : (xs : List X) → ((x : X) → IsIn x xs → p x ≡ true) → list_all p xs ≡ true
  all_are [] each = refl
  all_are (x ∷ xs) each = both_are (p x) (list_all p xs) (each x (inl refl)) (all_are xs (λ y i. each y (inr i)))

  pub all_of : (xs : List X) → list_all p xs ≡ true → (x : X) → IsIn x xs → p x ≡ true
  all_of [] all x has = absurd has
  all_of (y ∷ ys) all x (inl e) = ap p e ∙ (both_of (p y) (list_all p ys) all).0
  all_of (y ∷ ys) all x (inr i) = all_of ys (both_of (p y) (list_all p ys) all).1 x i

pub number_in : {X : Type 0} (f : X → ℕ) (x : X) (xs : List X) → IsIn x xs → IsIn (f x) (map f xs)
number_in f x [] has = absurd has
number_in f x (y ∷ ys) (inl e) = inl (ap f e)
number_in f x (y ∷ ys) (inr i) = inr (number_in f x ys i)
