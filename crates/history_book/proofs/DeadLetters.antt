-- What the dead letter queue holds of letters that were told.
use Rattle.std.proofs.Common.{◌≡◌, inl, inr, ⊎_elim, ℕ, List, [], ◌∷◌, ◌++◌, Option, Some, None, refl, sym, ap, ◌∙◌, subst}
use Rattle.std.proofs.lemmas.Option.{same_Some}
use Rattle.event_tree.specs.declared.lists.DeadPart.{DeadPart}
use Rattle.config_tree.specs.declared.tree.Config.{Config}
use Rattle.event_flow.specs.Meaning.{Makes, Due}
use Rattle.event_flow.specs.Meaning as due
use Rattle.dead_letters.specs.Found.{Held}
use Rattle.dead_letters.specs.declared.shedding.Shedding.{Shedding}
use Rattle.history_book.specs.Contents.{Clock, Appends, AppendsTold, AppendsOf, DeadLeft, DeadAfter, DeadHolds}
use Rattle.history_book.specs.Entries.{Entry, Accept, Mark, Assure, Read, Back, Shed, Deliver, Letters, Ack, Purge, Adopt, Opened}
use Rattle.history_book.specs.Laws.{Tells, Append, ByAppends, limits_in, WereAppended, LettersWereAppended}
use Rattle.history_book.specs.Lists.{IsIn}
use Rattle.history_book.specs.States.{Plan, Limits, Out, State, start, newest, out_of, left_of, shed_in, reads, tells_letters, next, after}

-- ---- the limits that openings told

-- those of the last opening are among them
abbrev pub IsKnown : List Limits → State → Type 0
IsKnown known s = (l : Limits) → s.limits ≡ Some l → IsIn l known

read_known : (known : List Limits) (s : State) (batch : ℕ) (numbers : List ℕ) (plan : Option Plan) → IsKnown known s → IsKnown known (reads s batch numbers plan)
read_known known s batch numbers None is = is
read_known known s batch numbers (Some plan) is = is

letters_known : (known : List Limits) (s : State) (batch : ℕ) (letters : List DeadPart) (left : List Due) → IsKnown known s → IsKnown known (tells_letters s batch letters left)
letters_known known s batch letters [] is = is
letters_known known s batch letters (due.Letters ds ∷ rest) is = is
letters_known known s batch letters (due.Events id at es ∷ rest) is = is

-- the limits of what is told are known
abbrev pub AreKnown : List Limits → List Entry → Type 0
AreKnown known told = (l : Limits) → IsIn l (limits_in told) → IsIn l known

rest_known : (known : List Limits) (e : Entry) (told : List Entry) → AreKnown known (e ∷ told) → AreKnown known told
rest_known known (Opened rows limit policy) told are = λ l i. are l (inr i)
rest_known known (Accept input parcel number event) told are = are
rest_known known (Mark front) told are = are
rest_known known (Assure input front) told are = are
rest_known known (Read batch generation numbers) told are = are
rest_known known (Back batch verdicts) told are = are
rest_known known (Shed batch older newer) told are = are
rest_known known (Deliver batch at events fates) told are = are
rest_known known (Letters batch letters) told are = are
rest_known known (Ack batch) told are = are
rest_known known (Purge page) told are = are
rest_known known (Adopt generation config draws) told are = are

-- ---- appends

module _ (known : List Limits) (clock : Clock) where
  -- some appends lie between
  abbrev pub Changes : Held → Held → Type 0
  Changes old new = (appends : List Append) × ByAppends known clock appends old new

  by_both : (one other : List Append) (a b c : Held) → ByAppends known clock one a b → ByAppends known clock other b c → ByAppends known clock (one ++ other) a c
  by_both [] other a b c first second = subst (λ (x : Held). ByAppends known clock other x c) first second
  by_both (x ∷ one) other a b c first second = (first.0, first.1, first.2, by_both one other first.0 b c first.3 second)

  both : (a b c : Held) → Changes a b → Changes b c → Changes a c
  both a b c one other = (one.0 ++ other.0, by_both one.0 other.0 a b c one.1 other.1)

  pub appends_change : (limits : Option Limits) → ((l : Limits) → limits ≡ Some l → IsIn l known) → (shed : Shedding) (parts : List DeadPart) (old new : Held)
      → Appends limits clock shed parts old new → Changes old new
  appends_change None are shed parts old new is = absurd is
  appends_change (Some limits) are shed parts old new is = (record { limits = limits; shed = shed; parts = parts } ∷ [], (new, are limits refl, is, refl))

  same : (old new : Held) → new ≡ old → Changes old new
  same old new is = ([], is)

  told_change : (limits : Option Limits) → ((l : Limits) → limits ≡ Some l → IsIn l known) → (shed : Shedding) (letters : List DeadPart) (told : List Entry) (config : Config) (left : List Due)
      (old new : Held) → AppendsTold limits clock shed letters told config left old new → Changes old new
  told_change limits are shed letters told config [] old new is = same old new is
  told_change limits are shed letters told config (due.Letters ds ∷ rest) old new is = appends_change limits are shed ds old new is
  told_change limits are shed letters told config (due.Events id at es ∷ rest) old new is = appends_change limits are shed is.0 old new is.3

  of_change : (limits : Option Limits) → ((l : Limits) → limits ≡ Some l → IsIn l known) → (shed : Shedding) (letters : List DeadPart) (told : List Entry) (o : Option Out) (old new : Held)
      → AppendsOf limits clock shed letters told o old new → Changes old new
  of_change limits are shed letters told None old new is = same old new is
  of_change limits are shed letters told (Some o) old new is = told_change limits are shed letters told o.plan.config o.left old new is

  module _ (makes : Makes) where
    next_known : (s : State) (e : Entry) (told : List Entry) → AreKnown known (e ∷ told) → IsKnown known s → IsKnown known (next makes s e)
    next_known s (Accept input parcel number event) told are is = is
    next_known s (Mark front) told are is = is
    next_known s (Assure input front) told are is = is
    next_known s (Read batch generation numbers) told are is = read_known known s batch numbers (newest s.plans) is
    next_known s (Back batch verdicts) told are is = is
    next_known s (Shed batch older newer) told are is = is
    next_known s (Deliver batch at events fates) told are is = is
    next_known s (Letters batch letters) told are is = letters_known known s batch letters (left_of (out_of batch s.out)) is
    next_known s (Ack batch) told are is = is
    next_known s (Purge page) told are is = is
    next_known s (Adopt generation config draws) told are is = is
    next_known s (Opened rows limit policy) told are is =
        λ l e. are l (inl (sym (same_Some (record { limit = limit; policy = policy }) l e)))

    step_changes : (s : State) (e : Entry) (told : List Entry) (old new : Held) → IsKnown known s → DeadAfter makes clock s e told old new → Changes old new
    step_changes s (Accept input parcel number event) told old new are is = same old new is
    step_changes s (Mark front) told old new are is = same old new is
    step_changes s (Assure input front) told old new are is = same old new is
    step_changes s (Read batch generation numbers) told old new are is = same old new is
    step_changes s (Back batch verdicts) told old new are is = same old new is
    step_changes s (Shed batch older newer) told old new are is = same old new is
    step_changes s (Deliver batch at events fates) told old new are is = same old new is
    step_changes s (Letters batch letters) told old new are is = of_change s.limits are (shed_in s.between) letters told (out_of batch s.out) old new is
    step_changes s (Ack batch) told old new are is = same old new is
    step_changes s (Purge page) told old new are is = same old new is
    step_changes s (Adopt generation config draws) told old new are is = same old new is
    step_changes s (Opened rows limit policy) told old new are is =
        ⊎_elim (λ (e : new ≡ old). same old new e) (λ (l : DeadLeft clock s old new). appends_change s.limits are l.shed l.parts old new l.appends) is

    all_change : (s : State) (told : List Entry) (base content : Held) → AreKnown known told → IsKnown known s → DeadHolds makes clock s base told content → Changes base content
    all_change s [] base content are is holds = same base content holds
    all_change s (e ∷ told) base content are is holds =
        both base holds.0 content (step_changes s e told base holds.0 is holds.1)
        (all_change (next makes s e) told holds.0 content (rest_known known e told are) (next_known s e told are is) holds.2)

    pub end_known : (s : State) (told : List Entry) → AreKnown known told → IsKnown known s → IsKnown known (after makes s told)
    end_known s [] are is = is
    end_known s (e ∷ told) are is = end_known (next makes s e) told (rest_known known e told are) (next_known s e told are is)

    -- what an entry made of the queue, what came before it, and what behind
    pub record At (s : State) (entry : Entry) (rest : List Entry) (base content : Held) : Type 0 where
      pub old : Held
      pub first : Changes base old
      pub new : Held
      pub made : DeadAfter makes clock s entry rest old new
      pub since : Changes new content
      pub are : IsKnown known s

    further : (s : State) (entry : Entry) (rest : List Entry) (base now content : Held) → Changes base now → At s entry rest now content → At s entry rest base content
    further s entry rest base now content change at_now =
        record { old = at_now.old; first = both base now at_now.old change at_now.first; new = at_now.new; made = at_now.made; since = at_now.since; are = at_now.are }

    pub at : (s : State) (before : List Entry) (entry : Entry) (rest : List Entry) (base content : Held) → AreKnown known (before ++ entry ∷ rest) → IsKnown known s
        → DeadHolds makes clock s base (before ++ entry ∷ rest) content → At (after makes s before) entry rest base content
    at s [] entry rest base content are is holds = record {
      old = base;
      first = same base base refl;
      new = holds.0;
      made = holds.1;
      since = all_change (next makes s entry) rest holds.0 content (rest_known known entry rest are) (next_known s entry rest are is) holds.2;
      are = is;
    }
    at s (e ∷ before) entry rest base content are is holds =
        further (after makes (next makes s e) before) entry rest base holds.0 content (step_changes s e (before ++ entry ∷ rest) base holds.0 is holds.1)
        (at (next makes s e) before entry rest holds.0 content (rest_known known e (before ++ entry ∷ rest) are) (next_known s e (before ++ entry ∷ rest) are is) holds.2)

    made_of : (s : State) (entry : Entry) (rest : List Entry) (batch : ℕ) (o : Out) (letters : List DeadPart) (left : List Due) (old new : Held) → Tells entry batch (due.Letters letters)
        → out_of batch s.out ≡ Some o → o.left ≡ due.Letters letters ∷ left → DeadAfter makes clock s entry rest old new → (shed : Shedding) × Appends s.limits clock shed letters old new
    made_of s (Letters b ds) rest batch o letters left old new tells has is made = (
      shed_in s.between,
      subst (λ (l : List Due). AppendsTold s.limits clock (shed_in s.between) ds rest o.plan.config l old new) is
          (subst (λ (x : Option Out). AppendsOf s.limits clock (shed_in s.between) ds rest x old new) (ap (λ (n : ℕ). out_of n s.out) tells.0 ∙ has) made),
    )
    made_of s (Deliver b place es fates) rest batch o letters left old new tells has is made = absurd (differ tells.1 tells.2)
      where
        differ : (id : List ℕ) → due.Letters letters ≡ due.Events id place es → ⊥
        differ id e = cc
    made_of s (Accept input parcel number event) rest batch o letters left old new tells has is made = absurd tells
    made_of s (Mark front) rest batch o letters left old new tells has is made = absurd tells
    made_of s (Assure input front) rest batch o letters left old new tells has is made = absurd tells
    made_of s (Read b generation numbers) rest batch o letters left old new tells has is made = absurd tells
    made_of s (Back b verdicts) rest batch o letters left old new tells has is made = absurd tells
    made_of s (Shed b older newer) rest batch o letters left old new tells has is made = absurd tells
    made_of s (Ack b) rest batch o letters left old new tells has is made = absurd tells
    made_of s (Purge page) rest batch o letters left old new tells has is made = absurd tells
    made_of s (Adopt generation config draws) rest batch o letters left old new tells has is made = absurd tells
    made_of s (Opened rows limit policy) rest batch o letters left old new tells has is made = absurd tells

  -- an append by the limits of an opening, between others
  pub appended : (base old new content : Held) (limits : Option Limits) → ((l : Limits) → limits ≡ Some l → IsIn l known) → (shed : Shedding) (letters : List DeadPart) → Changes base old
      → Appends limits clock shed letters old new → Changes new content → WereAppended known clock base content letters
  appended base old new content None are shed letters first here since = absurd here
  appended base old new content (Some limits) are shed letters first here since = record {
    before = first.0;
    old = old;
    first = first.1;
    limits = limits;
    is_known = are limits refl;
    shed = shed;
    new = new;
    here = here;
    behind = since.0;
    since = since.1;
  }

  -- with more appends behind it, too
  pub appended_before : (base whole content : Held) (letters : List DeadPart) → WereAppended known clock base whole letters → Changes whole content → WereAppended known clock base content letters
  appended_before base whole content letters w more = record {
    before = w.before;
    old = w.old;
    first = w.first;
    limits = w.limits;
    is_known = w.is_known;
    shed = w.shed;
    new = w.new;
    here = w.here;
    behind = w.behind ++ more.0;
    since = by_both w.behind more.0 w.new whole content w.since more.1;
  }

-- before the first opening there are none
pub start_known : (known : List Limits) → IsKnown known start
start_known known = λ l e. absurd (cc)

pub letters_were_appended : LettersWereAppended
letters_were_appended makes clock base content told plan letters holds w =
    let known = limits_in told in
    let are = subst (AreKnown known) w.parts (λ l i. i) in
    let there = at known clock makes start w.before w.entry w.rest base content are (start_known known) (subst (λ (l : List Entry). DeadHolds makes clock start base l content) w.parts holds) in
    let made = made_of known clock makes (after makes start w.before) w.entry w.rest w.batch w.out letters w.left there.old there.new w.tells w.was_out w.next there.made in
    appended known clock base there.old there.new content (after makes start w.before).limits there.are made.0 letters there.first made.1 there.since
