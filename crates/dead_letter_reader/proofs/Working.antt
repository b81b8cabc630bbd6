-- What each call leaves of the work: the parcels stand to the letters as before.
use Rattle.std.proofs.Common.{◌≡◌, inl, inr, ⊎_elim, ℕ, ◌+◌, ◌-◌, ◌<◌, ◌≤◌, min, Bool, true, false, List, [], ◌∷◌, ◌++◌, length, take, drop, Option, Some, None, Result, Ok, Err, refl, sym, ap, subst, ◌∙◌, arith, length-append, length-drop, length-take}
use Rattle.std.proofs.Math.Path.{ap₂}
use Rattle.std.proofs.lemmas.Bool.{cases_Bool, false≢true}
use Rattle.std.proofs.lemmas.Bool.Decides.{nat_tests}
use Rattle.std.proofs.Math.Seq.{take-add}
use Rattle.std.proofs.lemmas.List.{append_assoc, append-nil, map-append, take-append-drop, length-map, take_all, take_min}
use Rattle.io_traits.specs.Counts.{one_more}
use Rattle.io_traits.specs.declared.queue_faults.QueueFault.{QueueFault}
use Rattle.io_traits.specs.declared.queue_faults.QueueFault.TheVariants as f
use Rattle.pipeline_bus.specs.Parcels.{ends_with_last, is_last, with_events}
use Rattle.pipeline_bus.specs.Ends.{Sending, pushed_as}
use Rattle.pipeline_bus.proofs.Numbers.{counted_more, ends_more}
use Rattle.pipeline_bus.specs.declared.parcel.Parcel.{Parcel}
use Rattle.pipeline_bus.specs.declared.parcel.Answer.{Answer}
use Rattle.pipeline_bus.specs.declared.parcel.Heard.{Heard}
use Rattle.pipeline_bus.specs.declared.parcel.Heard.TheVariants.{Assured, NotListening}
use Rattle.dead_letters.specs.declared.segments.Counted.{Counted}
use Rattle.dead_letters.specs.declared.rows.DeadRow.{DeadRow}
use Rattle.dead_letter_reader.specs.Marks.{events_of, marked}
use Rattle.dead_letter_reader.specs.Parcels.{assured, if_assured, kept, unless_refused}
use Rattle.dead_letter_reader.specs.Work.{AllAnswered, InOrder, IsAllSent, IsSending, NoneIsOut, OneIsOut, Work}
use Rattle.dead_letter_reader.specs.Steps.{Begins, Fails, HasMissed, HasPushed, Hears, Pushes, Runs, Steps, after_last, after_push, answered, done_by, last_parcel, next_parcel, next_rows, no_answer, told}
use Rattle.dead_letter_reader.specs.Steps as step
use Rattle.dead_letter_reader.specs.declared.sender.SendOutcome.{SendOutcome}
use Rattle.dead_letter_reader.specs.declared.sender.SendOutcome.TheVariants as s
use Rattle.dead_letter_reader.proofs.Answering.{filled_none, filled_one, last_sent, one_heard, one_sent}

-- ---- letters

pub joined : (xs ys : List DeadRow) → events_of (xs ++ ys) ≡ events_of xs ++ events_of ys
joined xs ys = map-append (λ (r : DeadRow). marked r.letter) xs ys

split : (n : ℕ) (rows : List DeadRow) → events_of (take n rows) ++ events_of (drop n rows) ≡ events_of rows
split n rows = sym (joined (take n rows) (drop n rows)) ∙ ap events_of (take-append-drop n rows)

more : (n m : ℕ) (rows : List DeadRow) → events_of (take (n + m) rows) ≡ events_of (take n rows) ++ events_of (take m (drop n rows))
more n m rows = ap events_of (take-add n m rows) ∙ joined (take n rows) (take m (drop n rows))

-- ---- parcels and letters

pub in_order : (w : Work) → IsSending w → InOrder w
in_order w sending = ⊎_elim
    (λ (none : NoneIsOut w). record {
      rest = events_of (drop w.done w.rows);
      front = ap (λ l. l ++ events_of (drop w.done w.rows)) none.answered.are_kept ∙ split w.done w.rows;
      are_assured = none.answered.are_assured;
    })
    (λ (one : OneIsOut w).
    let before = one.before in
    let p = one.parcel in
    let heard = w.sends.heard in
    let left = drop w.done w.rows in
    let kept_are : kept w.sends.sent heard ≡ events_of (take w.done w.rows) ++ events_of (take w.out left)
    = ap (λ l. kept l heard) one.sent ∙ one_sent unless_refused before p heard one.answered.each one.filled ∙ ap₂ (λ x y. x ++ y) one.answered.are_kept one.events in
    record {
      rest = events_of (drop w.out left);
      front = ap (λ l. l ++ events_of (drop w.out left)) kept_are ∙ append_assoc (events_of (take w.done w.rows)) (events_of (take w.out left)) (events_of (drop w.out left))
          ∙ ap (λ l. events_of (take w.done w.rows) ++ l) (split w.out left) ∙ split w.done w.rows;
      are_assured = ap (λ l. assured l heard) one.sent ∙ one_sent if_assured before p heard one.answered.each one.filled ∙ append-nil (assured before heard) ∙ one.answered.are_assured;
    })
    sending.parcels

-- ---- at the beginning

pub nothing_sent : ends_with_last [] ≡ false
unfolding ends_with_last
nothing_sent = refl

pub none_sent : with_events [] ≡ 0
unfolding with_events
none_sent = refl

pub begins_sending : (w : Work) → Begins w → IsSending w
begins_sending w b = record {
  within = omega (arith, b.done, b.out);
  parcels = inl (record {
    none = b.out;
    answered = record {
      each = ap with_events b.sent ∙ none_sent ∙ sym (ap length b.heard);
      are_kept = ap₂ kept b.sent b.heard ∙ sym (ap (λ n. events_of (take n w.rows)) b.done);
      are_assured = ap₂ assured b.sent b.heard ∙ sym (ap (λ n. events_of (take n w.rows)) b.done);
    };
  });
  ended = λ is. absurd (false≢true (sym nothing_sent ∙ sym (ap ends_with_last b.sent) ∙ is));
}

-- ---- behind an answer

none_out : (w : Work) → IsSending w → w.out ≡ 0 → NoneIsOut w
none_out w sending none = ⊎_elim (λ n. n) (λ (one : OneIsOut w). absurd (let some = one.some in omega (arith, some, none))) sending.parcels

one_out : (w : Work) → IsSending w → 0 < w.out → OneIsOut w
one_out w sending some = ⊎_elim (λ (n : NoneIsOut w). absurd (let none = n.none in omega (arith, some, none))) (λ one. one) sending.parcels

kept_by : (h : Heard) (done out : ℕ) (rows : List DeadRow) → events_of (take done rows) ++ unless_refused (Some h) (events_of (take out (drop done rows))) ≡ events_of (take (done_by h done out) rows)
kept_by Assured done out rows = sym (more done out rows)
kept_by NotListening done out rows = append-nil (events_of (take done rows))

assured_by : (h : Heard) (done out : ℕ) (rows : List DeadRow) → events_of (take done rows) ++ if_assured (Some h) (events_of (take out (drop done rows))) ≡ events_of (take (done_by h done out) rows)
assured_by Assured done out rows = sym (more done out rows)
assured_by NotListening done out rows = append-nil (events_of (take done rows))

pub done_rises : (h : Heard) (done out : ℕ) → done ≤ done_by h done out
done_rises Assured done out = omega arith
done_rises NotListening done out = omega arith

pub done_within : (h : Heard) (done out : ℕ) → done_by h done out ≤ done + out
done_within Assured done out = omega arith
done_within NotListening done out = omega arith

pub heard_sending : (w : Work) (a : Answer) (recorded : Counted) → IsSending w → 0 < w.out → IsSending (answered a recorded w)
heard_sending w a recorded sending some =
    let one = one_out w sending some in
    let before = one.before in
    let p = one.parcel in
    let heard = w.sends.heard in
    record {
      within = omega (arith, sending.within, done_within a.answer w.done w.out);
      parcels = inl (record {
        none = refl;
        answered = record {
          each = (let c = counted_more before p in
              let h = length-append heard (a ∷ []) in
              let s = ap with_events one.sent in
              omega (arith, c, h, s, filled_one p one.filled, one.answered.each));
          are_kept = ap (λ l. kept l (heard ++ a ∷ [])) one.sent ∙ one_heard unless_refused before p heard one.answered.each a one.filled
              ∙ ap₂ (λ x y. x ++ unless_refused (Some a.answer) y) one.answered.are_kept one.events ∙ kept_by a.answer w.done w.out w.rows;
          are_assured = ap (λ l. assured l (heard ++ a ∷ [])) one.sent ∙ one_heard if_assured before p heard one.answered.each a one.filled
              ∙ ap₂ (λ x y. x ++ if_assured (Some a.answer) y) one.answered.are_assured one.events ∙ assured_by a.answer w.done w.out w.rows;
        };
      });
      ended = λ is. absurd (let none = (sending.ended is).1 in omega (arith, some, none));
    }

-- ---- behind a push

next_some : (w : Work) → w.done < length w.rows → 0 < length (next_rows w)
next_some w some = let l = length-take 125 (drop w.done w.rows) in let d = length-drop w.done w.rows in omega (arith, l, d, some)

pub next_filled : (w : Work) → w.done < length w.rows → is_last (next_parcel w) ≡ false
next_filled w some = let n = next_some w some in let e : length (events_of (next_rows w)) ≡ length (next_rows w) = length-map (next_rows w) (λ (r : DeadRow). marked r.letter) in grind (arith, nat_tests, n, e)

-- the sends change in nothing but misses
same_sending : (w v : Work) → v.rows ≡ w.rows → v.done ≡ w.done → v.out ≡ w.out → v.sends.sent ≡ w.sends.sent → v.sends.heard ≡ w.sends.heard → IsSending w → IsSending v
same_sending w v rows done out sent heard sending = record {
  within = omega (arith, sending.within, done, out, ap length rows);
  parcels = ⊎_elim
      (λ (n : NoneIsOut w). inl (record {
        none = out ∙ n.none;
        answered = same_answered n.answered;
      }))
      (λ (one : OneIsOut w). inr (record {
        before = one.before;
        parcel = one.parcel;
        some = subst (λ n. 0 < n) (sym out) one.some;
        filled = one.filled;
        sent = sent ∙ one.sent;
        events = one.events ∙ sym (ap₂ (λ n (l : List DeadRow). events_of (take n l)) out (ap₂ drop done rows));
        answered = record {
          each = one.answered.each ∙ sym (ap length heard);
          are_kept = ap (kept one.before) heard ∙ one.answered.are_kept ∙ sym letters;
          are_assured = ap (assured one.before) heard ∙ one.answered.are_assured ∙ sym letters;
        };
      }))
      sending.parcels;
  ended = λ is. let e = sending.ended (sym (ap ends_with_last sent) ∙ is) in (done ∙ e.0 ∙ sym (ap length rows), out ∙ e.1);
}
  where
    letters : events_of (take v.done v.rows) ≡ events_of (take w.done w.rows)
    letters = ap events_of (ap₂ take done rows)

    same_answered : AllAnswered w.sends.sent w.sends.heard (events_of (take w.done w.rows)) → AllAnswered v.sends.sent v.sends.heard (events_of (take v.done v.rows))
    same_answered a = record {
      each = ap with_events sent ∙ a.each ∙ sym (ap length heard);
      are_kept = ap₂ kept sent heard ∙ a.are_kept ∙ sym letters;
      are_assured = ap₂ assured sent heard ∙ a.are_assured ∙ sym letters;
    }

pub pushed_sending : (w : Work) (back : Option Parcel) → IsSending w → w.out ≡ 0 → w.done < length w.rows → IsSending (after_push back w)
pushed_sending w (Some back) sending none some = same_sending w (after_push (Some back) w) refl refl refl refl refl sending
pushed_sending w None sending none some =
    let n = none_out w sending none in
    let xs = drop w.done w.rows in
    let p = next_parcel w in
    record {
      within = (let l = length-take 125 xs in let d = length-drop w.done w.rows in omega (arith, l, d, some));
      parcels = inr (record {
        before = w.sends.sent;
        parcel = p;
        some = next_some w some;
        filled = next_filled w some;
        sent = refl;
        events = ap events_of (sym (ap (λ k. take k xs) (length-take 125 xs) ∙ take_min 125 xs));
        answered = n.answered;
      });
      ended = λ is. absurd (false≢true (sym (next_filled w some) ∙ sym (ends_more w.sends.sent p) ∙ is));
    }

last_is : (w : Work) → is_last (last_parcel w) ≡ true
last_is w = refl

pub ended_sending : (w : Work) (back : Option Parcel) → IsSending w → w.out ≡ 0 → w.done ≡ length w.rows → IsSending (after_last back w)
ended_sending w (Some back) sending none all = same_sending w (after_last (Some back) w) refl refl refl refl refl sending
ended_sending w None sending none all =
    let n = none_out w sending none in
    let p = last_parcel w in
    record {
      within = sending.within;
      parcels = inl (record {
        none = none;
        answered = record {
          each = (let c = counted_more w.sends.sent p in omega (arith, c, filled_none p (last_is w), n.answered.each));
          are_kept = last_sent unless_refused w.sends.sent p w.sends.heard n.answered.each (last_is w) ∙ n.answered.are_kept;
          are_assured = last_sent if_assured w.sends.sent p w.sends.heard n.answered.each (last_is w) ∙ n.answered.are_assured;
        };
      });
      ended = λ is. (all, none);
    }

-- ---- calls

push_rows : (w : Work) (back : Option Parcel) → (after_push back w).rows ≡ w.rows
push_rows w None = refl
push_rows w (Some back) = refl

abbrev StaysOn : Work → Work → Type 0
StaysOn w v = IsSending v × (v.rows ≡ w.rows)

pub pushes_sending : (w v : Work) (r : Result SendOutcome QueueFault) → IsSending w → w.out ≡ 0 → Pushes w v r → StaysOn w v
pushes_sending w v r sending none (step.pushes back some is says) = subst (StaysOn w) (sym is) (pushed_sending w back sending none some, push_rows w back)
pushes_sending w v r sending none (step.no_memory not is says) = subst (StaysOn w) (sym is) (sending, refl)
pushes_sending w v r sending none (step.ends back all not is says) = subst (StaysOn w) (sym is) (ended_sending w back sending none all, refl)
pushes_sending w v r sending none (step.has_ended all last is says) = subst (StaysOn w) (sym is) (sending, refl)

-- behind an answer nothing is out
pub record HeardOn (w mid : Work) : Type 0 where
  pub sending : IsSending mid
  pub none : mid.out ≡ 0
  pub rows : mid.rows ≡ w.rows
  pub sent : mid.sends.sent ≡ w.sends.sent
  pub push_misses : mid.sends.push_misses ≡ w.sends.push_misses

pub heard_on : (w mid : Work) → IsSending w → Hears w mid → HeardOn w mid
heard_on w mid sending h = subst (HeardOn w) (sym h.new_is) (record {
  sending = heard_sending w h.answer h.recorded sending h.out;
  none = refl;
  rows = refl;
  sent = refl;
  push_misses = refl;
})

pub no_answer_sending : (w : Work) → IsSending w → IsSending (no_answer w)
no_answer_sending w sending = same_sending w (no_answer w) refl refl refl refl refl sending

pub steps_sending : (w v : Work) (r : Result SendOutcome QueueFault) → IsSending w → Steps w v r → StaysOn w v
steps_sending w v r sending (step.goes_on none p) = pushes_sending w v r sending none p
steps_sending w v r sending (step.waits some is says) = subst (StaysOn w) (sym is) (no_answer_sending w sending, refl)
steps_sending w v r sending (step.hears mid h p) =
    let on = heard_on w mid sending h in
    let both = pushes_sending mid v r on.sending on.none p in
    (both.0, both.1 ∙ on.rows)
steps_sending w v r sending (step.fails t says) = subst (StaysOn w) (sym t.new_is) (heard_sending w t.answer w.recorded sending t.out, refl)

pub runs_sending : (start w : Work) (results : List (Result SendOutcome QueueFault)) → Begins start → Runs start results w → StaysOn start w
runs_sending start w results b step.none = (begins_sending start b, refl)
runs_sending start w results b (step.more before u v r runs one) =
    let earlier = runs_sending start u before b runs in
    let now = steps_sending u w r earlier.0 one in
    (now.0, now.1 ∙ earlier.1)

-- ---- the end

abbrev says_so : SendOutcome → Result SendOutcome QueueFault
says_so sent = Ok sent

not_parcel : says_so s.Parcel ≡ Ok s.Ended → ⊥
not_parcel e = cc

not_yet : says_so s.NotYet ≡ Ok s.Ended → ⊥
not_yet e = cc

pub pushes_ended : (w v : Work) (r : Result SendOutcome QueueFault) → Pushes w v r → r ≡ Ok s.Ended → ends_with_last v.sends.sent ≡ true
pushes_ended w v r (step.pushes None some is says) end = absurd (not_parcel (sym says ∙ end))
pushes_ended w v r (step.pushes (Some back) some is says) end = absurd (not_yet (sym says ∙ end))
pushes_ended w v r (step.no_memory not is says) end = let e : Err f.Memory ≡ Ok s.Ended = sym says ∙ end in absurd cc
pushes_ended w v r (step.ends None all not is says) end = ap (λ (x : Work). ends_with_last x.sends.sent) is ∙ ends_more w.sends.sent (last_parcel w) ∙ last_is w
pushes_ended w v r (step.ends (Some back) all not is says) end = absurd (not_yet (sym says ∙ end))
pushes_ended w v r (step.has_ended all last is says) end = ap (λ (x : Work). ends_with_last x.sends.sent) is ∙ last

steps_last : (w v : Work) (r : Result SendOutcome QueueFault) → Steps w v r → r ≡ Ok s.Ended → ends_with_last v.sends.sent ≡ true
steps_last w v r (step.goes_on none p) end = pushes_ended w v r p end
steps_last w v r (step.waits some is says) end = absurd (not_yet (sym says ∙ end))
steps_last w v r (step.hears mid h p) end = pushes_ended mid v r p end
steps_last w v r (step.fails t says) end = let e : Err f.Fault ≡ Ok s.Ended = sym says ∙ end in absurd cc

pub all_sent : (v : Work) → IsSending v → ends_with_last v.sends.sent ≡ true → IsAllSent v
all_sent v sending last =
    let e = sending.ended last in
    let n = none_out v sending e.1 in
    let all : events_of (take v.done v.rows) ≡ events_of v.rows = ap (λ k. events_of (take k v.rows)) e.0 ∙ ap events_of (take_all (length v.rows) v.rows (omega arith)) in
    record { are_kept = n.answered.are_kept ∙ all; are_assured = n.answered.are_assured ∙ all; last = last }

pub steps_ended : (w v : Work) (r : Result SendOutcome QueueFault) → IsSending w → Steps w v r → r ≡ Ok s.Ended → IsAllSent v
steps_ended w v r sending one end = all_sent v (steps_sending w v r sending one).0 (steps_last w v r one end)

-- the other way round
pushes_only : (w v : Work) (r : Result SendOutcome QueueFault) → IsSending w → Pushes w v r → ends_with_last v.sends.sent ≡ true → r ≡ Ok s.Ended
pushes_only w v r sending (step.pushes None some is says) last =
    absurd (false≢true (sym (next_filled w some) ∙ sym (ends_more w.sends.sent (next_parcel w)) ∙ sym (ap (λ (x : Work). ends_with_last x.sends.sent) is) ∙ last))
pushes_only w v r sending (step.pushes (Some back) some is says) last =
    let e = (sending.ended (sym (ap (λ (x : Work). ends_with_last x.sends.sent) is) ∙ last)).0 in absurd (omega (arith, some, e))
pushes_only w v r sending (step.no_memory not is says) last = absurd (false≢true (sym not ∙ sym (ap (λ (x : Work). ends_with_last x.sends.sent) is) ∙ last))
pushes_only w v r sending (step.ends None all not is says) last = says
pushes_only w v r sending (step.ends (Some back) all not is says) last = absurd (false≢true (sym not ∙ sym (ap (λ (x : Work). ends_with_last x.sends.sent) is) ∙ last))
pushes_only w v r sending (step.has_ended all l is says) last = says

still_out : (w v : Work) → IsSending w → 0 < w.out → v.sends.sent ≡ w.sends.sent → ends_with_last v.sends.sent ≡ true → ⊥
still_out w v sending some same last = let e = (sending.ended (sym (ap ends_with_last same) ∙ last)).1 in omega (arith, some, e)

pub ended_only : (w v : Work) (r : Result SendOutcome QueueFault) → IsSending w → Steps w v r → IsAllSent v → r ≡ Ok s.Ended
ended_only w v r sending (step.goes_on none p) all = pushes_only w v r sending p all.last
ended_only w v r sending (step.waits some is says) all = absurd (still_out w v sending some (ap (λ (x : Work). x.sends.sent) is) all.last)
ended_only w v r sending (step.hears mid h p) all = pushes_only mid v r (heard_on w mid sending h).sending p all.last
ended_only w v r sending (step.fails t says) all = absurd (still_out w v sending t.out (ap (λ (x : Work). x.sends.sent) t.new_is) all.last)

-- ---- the other answers

pushes_parcel : (w v : Work) (r : Result SendOutcome QueueFault) → Pushes w v r → r ≡ Ok s.Parcel → HasPushed w v
pushes_parcel w v r (step.pushes None some is says) sent = record { parcel = next_parcel w; sent = ap (λ (x : Work). x.sends.sent) is; filled = next_filled w some }
pushes_parcel w v r (step.pushes (Some back) some is says) sent = let e : says_so s.NotYet ≡ Ok s.Parcel = sym says ∙ sent in absurd cc
pushes_parcel w v r (step.no_memory not is says) sent = let e : Err f.Memory ≡ Ok s.Parcel = sym says ∙ sent in absurd cc
pushes_parcel w v r (step.ends None all not is says) sent = let e : says_so s.Ended ≡ Ok s.Parcel = sym says ∙ sent in absurd cc
pushes_parcel w v r (step.ends (Some back) all not is says) sent = let e : says_so s.NotYet ≡ Ok s.Parcel = sym says ∙ sent in absurd cc
pushes_parcel w v r (step.has_ended all last is says) sent = let e : says_so s.Ended ≡ Ok s.Parcel = sym says ∙ sent in absurd cc

pub steps_parcel : (w v : Work) (r : Result SendOutcome QueueFault) → IsSending w → Steps w v r → r ≡ Ok s.Parcel → HasPushed w v
steps_parcel w v r sending (step.goes_on none p) sent = pushes_parcel w v r p sent
steps_parcel w v r sending (step.waits some is says) sent = let e : says_so s.NotYet ≡ Ok s.Parcel = sym says ∙ sent in absurd cc
steps_parcel w v r sending (step.hears mid h p) sent =
    let one = pushes_parcel mid v r p sent in
    record { parcel = one.parcel; sent = one.sent ∙ ap (λ l. l ++ one.parcel ∷ []) (heard_on w mid sending h).sent; filled = one.filled }
steps_parcel w v r sending (step.fails t says) sent = let e : Err f.Fault ≡ Ok s.Parcel = sym says ∙ sent in absurd cc

pushes_missed : (w v : Work) (r : Result SendOutcome QueueFault) → Pushes w v r → r ≡ Ok s.NotYet → v.sends.push_misses ≡ one_more w.sends.push_misses
pushes_missed w v r (step.pushes None some is says) missed = let e : says_so s.Parcel ≡ Ok s.NotYet = sym says ∙ missed in absurd cc
pushes_missed w v r (step.pushes (Some back) some is says) missed = ap (λ (x : Work). x.sends.push_misses) is
pushes_missed w v r (step.no_memory not is says) missed = let e : Err f.Memory ≡ Ok s.NotYet = sym says ∙ missed in absurd cc
pushes_missed w v r (step.ends None all not is says) missed = let e : says_so s.Ended ≡ Ok s.NotYet = sym says ∙ missed in absurd cc
pushes_missed w v r (step.ends (Some back) all not is says) missed = ap (λ (x : Work). x.sends.push_misses) is
pushes_missed w v r (step.has_ended all last is says) missed = let e : says_so s.Ended ≡ Ok s.NotYet = sym says ∙ missed in absurd cc

pub steps_missed : (w v : Work) (r : Result SendOutcome QueueFault) → IsSending w → Steps w v r → r ≡ Ok s.NotYet → HasMissed w v
steps_missed w v r sending (step.goes_on none p) missed = inl (pushes_missed w v r p missed)
steps_missed w v r sending (step.waits some is says) missed = inr (some, ap (λ (x : Work). x.sends.answer_misses) is)
steps_missed w v r sending (step.hears mid h p) missed = inl (pushes_missed mid v r p missed ∙ ap one_more (heard_on w mid sending h).push_misses)
steps_missed w v r sending (step.fails t says) missed = let e : Err f.Fault ≡ Ok s.NotYet = sym says ∙ missed in absurd cc

-- ---- what the code counts

module _ (old new : Sending) (p : Parcel) (sent : new ≡ pushed_as None p old) where
  sent_are : new.sent ≡ old.sent ++ p ∷ []
  sent_are = ap (λ (x : Sending). x.sent) sent

  pub counts_last : (n : ℕ) → is_last p ≡ true → n ≡ with_events old.sent → n ≡ with_events new.sent
  counts_last n is was = let c = counted_more old.sent p in let e = ap with_events sent_are in omega (arith, c, e, was, filled_none p is)

  pub counts_one : (n m : ℕ) → is_last p ≡ false → n ≡ with_events old.sent → m ≡ n + 1 → m ≡ with_events new.sent
  counts_one n m is was more_is = let c = counted_more old.sent p in let e = ap with_events sent_are in omega (arith, c, e, was, more_is, filled_one p is)

  pub ends_as : (b : Bool) → b ≡ is_last p → b ≡ ends_with_last new.sent
  ends_as b is = is ∙ sym (ap ends_with_last sent_are ∙ ends_more old.sent p)

-- before the last parcel is due none was sent
pub not_ended : (w : Work) → IsSending w → w.done < length w.rows → ends_with_last w.sends.sent ≡ false
not_ended w sending some = ⊎_elim (λ last. absurd (let e = (sending.ended last).0 in omega (arith, some, e))) (λ not. not) (cases_Bool (ends_with_last w.sends.sent))

pub next_are : (w : Work) (items : List DeadRow) (n : ℕ) → items ≡ w.rows → n ≡ min (length (take (length items - w.done) (drop w.done items))) 125 → take n (take (length items - w.done) (drop w.done items)) ≡ next_rows w
next_are w items n are least =
    let xs = drop w.done items in
    let whole : take (length items - w.done) xs ≡ xs = take_all (length items - w.done) xs (let d = length-drop w.done items in omega (arith, d)) in
    let few : n ≡ min 125 (length xs) = least ∙ ap (λ l. min (length l) 125) whole ∙ omega arith in
    ap₂ take few whole ∙ take_min 125 xs ∙ ap (λ l. take 125 (drop w.done l)) are
