-- What a line took from links stands beside what it told, behind each step.
use Rattle.std.proofs.Common.{◌≡◌, ◌≢◌, ◌⊎◌, inl, inr, ⊎_elim, ℕ, suc, ◌<◌, ◌≤◌, ◌==◌, ◌&&◌, Bool, true, false, List, [], ◌∷◌, ◌++◌, length, drop, map, Option, Some, if◌then◌else◌, refl, sym, ap, ap₂, ◌∙◌, subst, arith, append-nil}
use Rattle.std.proofs.lemmas.Bool.{cases_Bool, eqb-true, eq-eqb, and_from}
use Rattle.std.proofs.lemmas.List.{length-map}
use Rattle.std.proofs.lemmas.Option.{same_Some}
use Rattle.event_tree.specs.Events.{Ev}
use Rattle.pipeline_bus.specs.Parcels.{is_last}
use Rattle.pipeline_bus.specs.declared.parcel.Answer.{Answer}
use Rattle.pipeline_bus.specs.declared.parcel.Heard.{Heard}
use Rattle.pipeline_bus.specs.declared.parcel.Heard.TheVariants.{Assured, NotListening}
use Rattle.pipeline_bus.specs.declared.parcel.Parcel.{Parcel}
use Rattle.event_flow.specs.Meaning.{Makes}
use Rattle.history_book.specs.Entries.{Entry, ParcelAt}
use Rattle.history_book.specs.Links.{Listening, IsMadeOf, AreMadeOf, AreSettled, IsSettled, MayAnswer, TakerSound}
use Rattle.history_book.specs.Lists.{IsIn, Rise}
use Rattle.history_book.specs.States.{Written, start, numbers_of, after}
use Rattle.history_book.proofs.Lists.{in_front, in_behind, in_either}
use Rattle.history_book.proofs.Unread.{numbers_more, rise_end}
use Rattle.line_machine.specs.Answering.{own_link, rows_at, IsWaiting, TakerStands}
use Rattle.line_machine.specs.Ends.{Waiting, TakerView, AreApart, MayAssure, AreUpTo, taker_at, change_taker, waiting_at, change_waiting, waits_for, took, with_row_of, row_made, assured, refused}
use Rattle.line_machine.proofs.Rows.{made_more, settled_up}

-- ---- lists of ends

module _ (f : TakerView → TakerView) (keeps : (t : TakerView) → (f t).place ≡ t.place) (place : ℕ) where
  -- an end among those of which one was changed: another one, or that
  pub record IsChangedTaker (ts : List TakerView) (u : TakerView) : Type 0 where
    pub was : TakerView
    pub has : taker_at place ts ≡ Some was
    pub is_in : IsIn was ts
    pub is : u ≡ f was

  pub taker_changed : (ts : List TakerView) → AreApart ts → (u : TakerView) → IsIn u (change_taker f place ts) → (IsIn u ts × (u.place ≡ place → ⊥)) ⊎ IsChangedTaker ts u
  taker_changed [] apart u has = absurd has
  taker_changed (t ∷ ts) apart u has = by_test (taker_changed ts apart.1 u) (place == t.place) refl has
    where
      by_test : (IsIn u (change_taker f place ts) → (IsIn u ts × (u.place ≡ place → ⊥)) ⊎ IsChangedTaker ts u) → (b : Bool) → (place == t.place) ≡ b
          → IsIn u (if b then f t ∷ ts else t ∷ change_taker f place ts) → (IsIn u (t ∷ ts) × (u.place ≡ place → ⊥)) ⊎ IsChangedTaker (t ∷ ts) u
      by_test rest true test (inl e) = inr (record { was = t; has = ap (λ (b : Bool). if b then Some t else taker_at place ts) test; is_in = inl refl; is = e })
      by_test rest true test (inr i) = inl (inr i, λ same. apart.0 u i (same ∙ eqb-true place t.place test))
      by_test rest false test (inl e) = inl (inl e, λ same. absurd (differs (sym test ∙ eq-eqb place t.place (sym same ∙ ap (λ (x : TakerView). x.place) e))))
        where
          differs : false ≡ true → ⊥
          differs c = cc
      by_test rest false test (inr i) =
          ⊎_elim (λ (o : IsIn u ts × (u.place ≡ place → ⊥)). inl (inr o.0, o.1))
          (λ (c : IsChangedTaker ts u). inr (record { was = c.was; has = ap (λ (b : Bool). if b then Some t else taker_at place ts) test ∙ c.has; is_in = inr c.is_in; is = c.is })) (rest i)

  -- the places are the same
  pub place_before : (ts : List TakerView) (u : TakerView) → IsIn u (change_taker f place ts) → (t : TakerView) × IsIn t ts × (u.place ≡ t.place)
  place_before [] u has = absurd has
  place_before (t ∷ ts) u has = by_test (place_before ts u) (place == t.place) has
    where
      by_test : (IsIn u (change_taker f place ts) → (x : TakerView) × IsIn x ts × (u.place ≡ x.place)) → (b : Bool) → IsIn u (if b then f t ∷ ts else t ∷ change_taker f place ts)
          → (x : TakerView) × IsIn x (t ∷ ts) × (u.place ≡ x.place)
      by_test rest true (inl e) = (t, inl refl, ap (λ (x : TakerView). x.place) e ∙ keeps t)
      by_test rest true (inr i) = (u, inr i, refl)
      by_test rest false (inl e) = (t, inl refl, ap (λ (x : TakerView). x.place) e)
      by_test rest false (inr i) = let r = rest i in (r.0, inr r.1, r.2)

  pub apart_changed : (ts : List TakerView) → AreApart ts → AreApart (change_taker f place ts)
  apart_changed [] apart = tt
  apart_changed (t ∷ ts) apart = by_test (apart_changed ts apart.1) (place == t.place)
    where
      by_test : AreApart (change_taker f place ts) → (b : Bool) → AreApart (if b then f t ∷ ts else t ∷ change_taker f place ts)
      by_test rest true = (λ u i same. apart.0 u i (same ∙ keeps t), apart.1)
      by_test rest false = (λ u i same. let was = place_before ts u i in apart.0 was.0 was.1 (sym was.2 ∙ same), rest)

pub taker_in : (place : ℕ) (t : TakerView) (ts : List TakerView) → taker_at place ts ≡ Some t → IsIn t ts × (t.place ≡ place)
taker_in place t [] has = absurd (cc)
taker_in place t (x ∷ ts) has = by_test (taker_in place t ts) (place == x.place) refl has
  where
    by_test : (taker_at place ts ≡ Some t → IsIn t ts × (t.place ≡ place)) → (b : Bool) → (place == x.place) ≡ b → (if b then Some x else taker_at place ts) ≡ Some t → IsIn t (x ∷ ts) × (t.place ≡ place)
    by_test rest true test is =
        let same = same_Some x t is in
        (inl (sym same), sym (ap (λ (y : TakerView). y.place) same) ∙ sym (eqb-true place x.place test))
    by_test rest false test is = let more = rest is in (inr more.0, more.1)

-- one that is there is found by its place, where they are apart
pub taker_found : (t : TakerView) (ts : List TakerView) → AreApart ts → IsIn t ts → taker_at t.place ts ≡ Some t
taker_found t [] apart has = absurd has
taker_found t (x ∷ ts) apart (inl e) = ap (λ (b : Bool). if b then Some x else taker_at t.place ts) (eq-eqb t.place x.place (ap (λ (y : TakerView). y.place) e)) ∙ ap Some (sym e)
taker_found t (x ∷ ts) apart (inr i) = by_test (t.place == x.place) refl (taker_found t ts apart.1 i)
  where
    by_test : (b : Bool) → (t.place == x.place) ≡ b → taker_at t.place ts ≡ Some t → (if b then Some x else taker_at t.place ts) ≡ Some t
    by_test true test rest = absurd (apart.0 t i (eqb-true t.place x.place test))
    by_test false test rest = rest

-- ---- lists of parcels that wait

module _ (f : Waiting → Waiting) (keeps : (w : Waiting) → (f w).number ≡ w.number) (n : ℕ) where
  abbrev numbers_waiting : List Waiting → List ℕ
  numbers_waiting ws = map (λ (w : Waiting). w.number) ws

  pub numbers_kept : (ws : List Waiting) → numbers_waiting (change_waiting f n ws) ≡ numbers_waiting ws
  numbers_kept [] = refl
  numbers_kept (w ∷ ws) = by_test (numbers_kept ws) (n == w.number)
    where
      by_test : numbers_waiting (change_waiting f n ws) ≡ numbers_waiting ws → (b : Bool) → numbers_waiting (if b then f w ∷ ws else w ∷ change_waiting f n ws) ≡ w.number ∷ numbers_waiting ws
      by_test rest true = ap (λ x. x ∷ numbers_waiting ws) (keeps w)
      by_test rest false = ap (λ l. w.number ∷ l) rest

  pub above_in : (from : ℕ) (ws : List Waiting) → Rise from (numbers_waiting ws) → (w : Waiting) → IsIn w ws → from ≤ w.number
  above_in from [] rise w has = absurd has
  above_in from (x ∷ ws) rise w (inl e) = let first = rise.0 in let same = ap (λ (y : Waiting). y.number) e in omega (arith, first, same)
  above_in from (x ∷ ws) rise w (inr i) = let first = rise.0 in let more = above_in (suc x.number) ws rise.1 w i in omega (arith, first, more)

  pub waiting_changed : (from : ℕ) (ws : List Waiting) → Rise from (numbers_waiting ws) → (u : Waiting) → IsIn u (change_waiting f n ws)
      → (IsIn u ws × (u.number ≡ n → ⊥)) ⊎ ((w : Waiting) × (waiting_at n ws ≡ Some w) × IsIn w ws × (u ≡ f w))
  waiting_changed from [] rise u has = absurd has
  waiting_changed from (x ∷ ws) rise u has = by_test (waiting_changed (suc x.number) ws rise.1 u) (n == x.number) refl has
    where
      by_test : (IsIn u (change_waiting f n ws) → (IsIn u ws × (u.number ≡ n → ⊥)) ⊎ ((w : Waiting) × (waiting_at n ws ≡ Some w) × IsIn w ws × (u ≡ f w))) → (b : Bool) → (n == x.number) ≡ b
          → IsIn u (if b then f x ∷ ws else x ∷ change_waiting f n ws) → (IsIn u (x ∷ ws) × (u.number ≡ n → ⊥)) ⊎ ((w : Waiting) × (waiting_at n (x ∷ ws) ≡ Some w) × IsIn w (x ∷ ws) × (u ≡ f w))
      by_test rest true test (inl e) = inr (x, ap (λ (b : Bool). if b then Some x else waiting_at n ws) test, inl refl, e)
      by_test rest true test (inr i) = inl (inr i, λ same. let more = above_in (suc x.number) ws rise.1 u i in let is = eqb-true n x.number test in omega (arith, more, is, same))
      by_test rest false test (inl e) = inl (inl e, λ same. differs (sym test ∙ eq-eqb n x.number (sym same ∙ ap (λ (y : Waiting). y.number) e)))
        where
          differs : false ≡ true → ⊥
          differs c = cc
      by_test rest false test (inr i) =
          ⊎_elim (λ (o : IsIn u ws × (u.number ≡ n → ⊥)). inl (inr o.0, o.1))
          (λ (c : (w : Waiting) × (waiting_at n ws ≡ Some w) × IsIn w ws × (u ≡ f w)). inr (c.0, ap (λ (b : Bool). if b then Some x else waiting_at n ws) test ∙ c.1, inr c.2, c.3)) (rest i)

  pub waiting_behind : (ws : List Waiting) (w : Waiting) → IsIn w ws → (u : Waiting) × IsIn u (change_waiting f n ws) × (u.number ≡ w.number)
  waiting_behind [] w has = absurd has
  waiting_behind (x ∷ ws) w has = by_test (waiting_behind ws w) (n == x.number) has
    where
      by_test : (IsIn w ws → (u : Waiting) × IsIn u (change_waiting f n ws) × (u.number ≡ w.number)) → (b : Bool) → IsIn w (x ∷ ws)
          → (u : Waiting) × IsIn u (if b then f x ∷ ws else x ∷ change_waiting f n ws) × (u.number ≡ w.number)
      by_test rest true (inl e) = (f x, inl refl, keeps x ∙ sym (ap (λ (y : Waiting). y.number) e))
      by_test rest true (inr i) = (w, inr i, refl)
      by_test rest false (inl e) = (x, inl refl, sym (ap (λ (y : Waiting). y.number) e))
      by_test rest false (inr i) = let r = rest i in (r.0, inr r.1, r.2)

pub waiting_in : (n : ℕ) (w : Waiting) (ws : List Waiting) → waiting_at n ws ≡ Some w → IsIn w ws × (w.number ≡ n)
waiting_in n w [] has = absurd (cc)
waiting_in n w (x ∷ ws) has = by_test (waiting_in n w ws) (n == x.number) refl has
  where
    by_test : (waiting_at n ws ≡ Some w → IsIn w ws × (w.number ≡ n)) → (b : Bool) → (n == x.number) ≡ b → (if b then Some x else waiting_at n ws) ≡ Some w → IsIn w (x ∷ ws) × (w.number ≡ n)
    by_test rest true test is =
        let same = same_Some x w is in
        (inl (sym same), sym (ap (λ (y : Waiting). y.number) same) ∙ sym (eqb-true n x.number test))
    by_test rest false test is = let more = rest is in (inr more.0, more.1)

-- ---- one end

module _ (makes : Makes) (listening : Listening) where
  -- told more, of which no row is of this end, and no less is settled
  pub told_more : (told now : List Entry) (t : TakerView) → ((number : ℕ) → rows_at makes listening now t number ≡ rows_at makes listening told t number)
      → (after makes start told).front ≤ (after makes start now).front → TakerStands makes listening told t → TakerStands makes listening now t
  told_more told now t same less is = record {
    sound = record {
      made = λ p has some. subst (λ ws. AreMadeOf listening t.address ws p.events) (sym (same p.number)) (is.sound.made p has some);
      known = λ number some. is.sound.known number (λ none. some (same number ∙ none));
      answers = λ a has. answer_still a.number a.answer (is.sound.answers a has);
    };
    waits = λ w has.
        let was = is.waits w has in
        record { parcel = was.parcel; taken = was.taken; number = was.number; some = was.some; events = was.events; rows = ap numbers_of (same w.number) ∙ was.rows };
    rise = is.rise;
    waits_next = is.waits_next;
    given_before = is.given_before;
    given_next = is.given_next;
    taken_next = is.taken_next;
    accounted = is.accounted;
    unique = is.unique;
  }
    where
      answer_still : (number : ℕ) (h : Heard) → MayAnswer makes listening told (own_link t) number h → MayAnswer makes listening now (own_link t) number h
      answer_still number Assured was = record {
        parcel = was.parcel;
        is_taken = was.is_taken;
        number_is = was.number_is;
        some = was.some;
        whole = ap length (same number) ∙ was.whole;
        settled = subst (AreSettled (after makes start now).front) (sym (same number)) (settled_up (after makes start told).front (after makes start now).front less (rows_at makes listening told t number) was.settled);
      }
      answer_still number NotListening was = (was.0, same number ∙ was.1)

  module _ (told : List Entry) (t : TakerView) (is : TakerStands makes listening told t) where
    -- none is made yet of a parcel that comes next
    none_yet : rows_at makes listening told t t.next ≡ []
    none_yet = by_rows (rows_at makes listening told t t.next) refl
      where
        by_rows : (ws : List Written) → rows_at makes listening told t t.next ≡ ws → rows_at makes listening told t t.next ≡ []
        by_rows [] e = e
        by_rows (w ∷ ws) e =
            let known = is.sound.known t.next (λ none. some_none (sym e ∙ none)) in
            absurd (let less = is.taken_next known.0 known.1 known.3 in let same = known.2 in omega (arith, less, same))
          where
            some_none : w ∷ ws ≡ [] → ⊥
            some_none c = cc

    -- a parcel is taken
    module _ (p : Parcel) (next : is_last p ≡ false → p.number ≡ t.next) where
      either : (q : Parcel) → IsIn q (t.taken ++ p ∷ []) → IsIn q t.taken ⊎ (q ≡ p)
      either q has = ⊎_elim (λ (i : IsIn q t.taken). inl i) (λ (i : IsIn q (p ∷ [])). ⊎_elim (λ (e : q ≡ p). inr e) (λ (never : ⊥). absurd never) i) (in_either q t.taken (p ∷ []) has)

      number_of : (q : Parcel) → q ≡ p → is_last q ≡ false → q.number ≡ t.next
      number_of q e some = ap (λ (x : Parcel). x.number) e ∙ next (ap is_last (sym e) ∙ some)

      none_of : (q : Parcel) → q ≡ p → is_last q ≡ false → rows_at makes listening told t q.number ≡ []
      none_of q e some = ap (rows_at makes listening told t) (number_of q e some) ∙ none_yet

      answer_with : (number : ℕ) (h : Heard) → number < t.next → MayAnswer makes listening told (own_link t) number h → MayAnswer makes listening told (own_link (took p t)) number h
      answer_with number Assured less was = record {
        parcel = was.parcel;
        is_taken = in_front was.parcel t.taken (p ∷ []) was.is_taken;
        number_is = was.number_is;
        some = was.some;
        whole = was.whole;
        settled = was.settled;
      }
      answer_with number NotListening less was = (
        λ q has some same. ⊎_elim (λ (i : IsIn q t.taken). was.0 q i some same)
            (λ (e : q ≡ p). let one = number_of q e some in let below : q.number < t.next = subst (λ n. n < t.next) (sym same) less in omega (arith, one, below)) (either q has),
        was.1,
      )

      sound_with : TakerSound makes listening told (own_link (took p t))
      sound_with = record {
        made = λ q has some. ⊎_elim (λ (i : IsIn q t.taken). is.sound.made q i some)
            (λ (e : q ≡ p). subst (λ ws. AreMadeOf listening t.address ws q.events) (sym (none_of q e some)) tt) (either q has);
        known = λ number some. let was = is.sound.known number some in (was.0, in_front was.0 t.taken (p ∷ []) was.1, was.2, was.3);
        answers = λ a has. answer_with a.number a.answer (is.given_next a has) (is.sound.answers a has);
      }

      waiting_still : (w : Waiting) → IsWaiting makes listening told t w → IsWaiting makes listening told (took p t) w
      waiting_still w was = record { parcel = was.parcel; taken = in_front was.parcel t.taken (p ∷ []) was.taken; number = was.number; some = was.some; events = was.events; rows = was.rows }

      unique_with : (q r : Parcel) → IsIn q (t.taken ++ p ∷ []) → IsIn r (t.taken ++ p ∷ []) → is_last q ≡ false → is_last r ≡ false → q.number ≡ r.number → q ≡ r
      unique_with q r i j some_q some_r same = ⊎_elim
          (λ (a : IsIn q t.taken). ⊎_elim (λ (b : IsIn r t.taken). is.unique q r a b some_q some_r same)
          (λ (b : r ≡ p). absurd (let less = is.taken_next q a some_q in let one = number_of r b some_r in omega (arith, less, one, same))) (either r j))
          (λ (a : q ≡ p). ⊎_elim (λ (b : IsIn r t.taken). absurd (let less = is.taken_next r b some_r in let one = number_of q a some_q in omega (arith, less, one, same)))
          (λ (b : r ≡ p). a ∙ sym b) (either r j)) (either q i)

      pub took_stands : TakerStands makes listening told (took p t)
      took_stands = by_last (is_last p) refl
        where
          by_last : (b : Bool) → is_last p ≡ b → TakerStands makes listening told (took p t)
          by_last true last = record {
            sound = sound_with;
            waits = λ w has. waiting_still w (is.waits w (subst (IsIn w) same has));
            rise = subst (λ (ws : List Waiting). Rise 0 (map (λ (w : Waiting). w.number) ws)) (sym same) is.rise;
            waits_next = λ w has. let less = is.waits_next w (subst (IsIn w) same has) in omega (arith, less, same_next);
            given_before = λ a has w i. is.given_before a has w (subst (IsIn w) same i);
            given_next = λ a has. let less = is.given_next a has in omega (arith, less, same_next);
            taken_next = λ q has some. ⊎_elim (λ (i : IsIn q t.taken). let less = is.taken_next q i some in omega (arith, less, same_next))
                (λ (e : q ≡ p). absurd (differs (sym some ∙ ap is_last e ∙ last))) (either q has);
            accounted = λ q has some. ⊎_elim (λ (i : IsIn q t.taken). old_accounted q (is.accounted q i some)) (λ (e : q ≡ p). absurd (differs (sym some ∙ ap is_last e ∙ last))) (either q has);
            unique = unique_with;
          }
            where
              old_accounted : (q : Parcel) → ((w : Waiting) × IsIn w t.waits × (w.number ≡ q.number)) ⊎ ((a : Answer) × IsIn a t.given × (a.number ≡ q.number))
                  → ((w : Waiting) × IsIn w (t.waits ++ waits_for p) × (w.number ≡ q.number)) ⊎ ((a : Answer) × IsIn a t.given × (a.number ≡ q.number))
              old_accounted q (inl w) = inl (w.0, in_front w.0 t.waits (waits_for p) w.1, w.2)
              old_accounted q (inr a) = inr a

              same : t.waits ++ waits_for p ≡ t.waits
              same = ap (λ (c : Bool). t.waits ++ (if c then [] else record { number = p.number; events = p.events; rows = [] } ∷ [])) last ∙ append-nil t.waits

              same_next : (if is_last p then t.next else suc t.next) ≡ t.next
              same_next = ap (λ (c : Bool). if c then t.next else suc t.next) last

              differs : false ≡ true → ⊥
              differs c = cc
          by_last false some = record {
            sound = sound_with;
            waits = λ w has. ⊎_elim (λ (i : IsIn w t.waits). waiting_still w (is.waits w i)) (λ (i : IsIn w (new ∷ [])). new_waits w i) (in_either w t.waits (new ∷ []) (subst (IsIn w) more has));
            rise = subst (λ (ws : List Waiting). Rise 0 (map (λ (w : Waiting). w.number) ws)) (sym more) (subst (Rise 0) (sym (numbers_with t.waits)) (rise_end 0 new.number (map (λ (w : Waiting). w.number) t.waits) is.rise (omega arith) below));
            waits_next = λ w has. ⊎_elim (λ (i : IsIn w t.waits). let less = is.waits_next w i in omega (arith, less, more_next)) (λ (i : IsIn w (new ∷ [])). let one = new_number w i in omega (arith, one, more_next))
                (in_either w t.waits (new ∷ []) (subst (IsIn w) more has));
            given_before = λ a has w i. ⊎_elim (λ (j : IsIn w t.waits). is.given_before a has w j) (λ (j : IsIn w (new ∷ [])). let less = is.given_next a has in let one = new_number w j in omega (arith, less, one))
                (in_either w t.waits (new ∷ []) (subst (IsIn w) more i));
            given_next = λ a has. let less = is.given_next a has in omega (arith, less, more_next);
            taken_next = λ q has some_q. ⊎_elim (λ (i : IsIn q t.taken). let less = is.taken_next q i some_q in omega (arith, less, more_next))
                (λ (e : q ≡ p). let one = number_of q e some_q in omega (arith, one, more_next)) (either q has);
            accounted = λ q has some_q. ⊎_elim (λ (i : IsIn q t.taken). old_accounted q (is.accounted q i some_q))
                (λ (e : q ≡ p). inl (new, subst (IsIn new) (sym more) (in_behind new t.waits (new ∷ []) (inl refl)), sym (ap (λ (x : Parcel). x.number) e))) (either q has);
            unique = unique_with;
          }
            where
              old_accounted : (q : Parcel) → ((w : Waiting) × IsIn w t.waits × (w.number ≡ q.number)) ⊎ ((a : Answer) × IsIn a t.given × (a.number ≡ q.number))
                  → ((w : Waiting) × IsIn w (t.waits ++ waits_for p) × (w.number ≡ q.number)) ⊎ ((a : Answer) × IsIn a t.given × (a.number ≡ q.number))
              old_accounted q (inl w) = inl (w.0, in_front w.0 t.waits (waits_for p) w.1, w.2)
              old_accounted q (inr a) = inr a

              new : Waiting
              new = record { number = p.number; events = p.events; rows = [] }

              more : t.waits ++ waits_for p ≡ t.waits ++ new ∷ []
              more = ap (λ (c : Bool). t.waits ++ (if c then [] else record { number = p.number; events = p.events; rows = [] } ∷ [])) some

              more_next : (if is_last p then t.next else suc t.next) ≡ suc t.next
              more_next = ap (λ (c : Bool). if c then t.next else suc t.next) some

              new_number : (w : Waiting) → IsIn w (new ∷ []) → w.number ≡ t.next
              new_number w (inl e) = ap (λ (x : Waiting). x.number) e ∙ next some
              new_number w (inr never) = absurd never

              new_waits : (w : Waiting) → IsIn w (new ∷ []) → IsWaiting makes listening told (took p t) w
              new_waits w (inl e) = subst (IsWaiting makes listening told (took p t)) (sym e) (record {
                parcel = p;
                taken = in_behind p t.taken (p ∷ []) (inl refl);
                number = refl;
                some = some;
                events = refl;
                rows = ap numbers_of (none_of p refl some);
              })
              new_waits w (inr never) = absurd never

              numbers_with : (ws : List Waiting) → map (λ (w : Waiting). w.number) (ws ++ new ∷ []) ≡ map (λ (w : Waiting). w.number) ws ++ new.number ∷ []
              numbers_with [] = refl
              numbers_with (w ∷ ws) = ap (λ l. w.number ∷ l) (numbers_with ws)

              number_waits : (n : ℕ) (ws : List Waiting) → IsIn n (map (λ (w : Waiting). w.number) ws) → (w : Waiting) × IsIn w ws × (n ≡ w.number)
              number_waits n [] i = absurd i
              number_waits n (w ∷ ws) (inl e) = (w, inl refl, e)
              number_waits n (w ∷ ws) (inr i) = let r = number_waits n ws i in (r.0, inr r.1, r.2)

              below : (m : ℕ) → IsIn m (map (λ (w : Waiting). w.number) t.waits) → m < new.number
              below m i = let w = number_waits m t.waits i in let less = is.waits_next w.0 w.1 in let same = w.2 in let one = next some in omega (arith, less, same, one)

    -- the oldest parcel is assured
    module _ (mark : Option ℕ) (may : MayAssure mark t) (settled : (front : ℕ) → mark ≡ Some front → front ≡ (after makes start told).front) where
      rows_settled : (front : ℕ) (ws : List Written) → AreUpTo front (numbers_of ws) → AreSettled front ws
      rows_settled front [] are = tt
      rows_settled front (w ∷ ws) are = (are.0, rows_settled front ws are.1)

      oldest_in : IsIn may.oldest t.waits
      oldest_in = subst (IsIn may.oldest) (sym may.waits) (inl refl)

      rest_in : (w : Waiting) → IsIn w may.rest → IsIn w t.waits
      rest_in w i = subst (IsIn w) (sym may.waits) (inr i)

      rises : Rise 0 (may.oldest.number ∷ map (λ (w : Waiting). w.number) may.rest)
      rises = subst (λ (ws : List Waiting). Rise 0 (map (λ (w : Waiting). w.number) ws)) may.waits is.rise

      answered : IsSettled makes listening told (own_link (assured may.oldest.number may.rest t)) may.oldest.number
      answered =
          let was = is.waits may.oldest oldest_in in
          record {
            parcel = was.parcel;
            is_taken = was.taken;
            number_is = was.number;
            some = was.some;
            whole = sym (length-map (rows_at makes listening told t may.oldest.number) (λ (w : Written). w.number)) ∙ ap length was.rows ∙ may.whole ∙ ap length (sym was.events);
            settled = rows_settled (after makes start told).front (rows_at makes listening told t may.oldest.number)
                (subst (λ (ns : List ℕ). AreUpTo (after makes start told).front ns) (sym was.rows) (subst (λ front. AreUpTo front may.oldest.rows) (settled may.front may.marked) may.settled));
          }

      still_answer : (number : ℕ) (h : Heard) → MayAnswer makes listening told (own_link t) number h → MayAnswer makes listening told (own_link (assured may.oldest.number may.rest t)) number h
      still_answer number Assured was = record { parcel = was.parcel; is_taken = was.is_taken; number_is = was.number_is; some = was.some; whole = was.whole; settled = was.settled }
      still_answer number NotListening was = was

      abbrev new_answer : Answer
      new_answer = record { number = may.oldest.number; answer = Assured }

      either_answer : (a : Answer) → IsIn a (t.given ++ new_answer ∷ []) → IsIn a t.given ⊎ (a ≡ new_answer)
      either_answer a has = ⊎_elim (λ (i : IsIn a t.given). inl i) (λ (i : IsIn a (new_answer ∷ [])). ⊎_elim (λ (e : a ≡ new_answer). inr e) (λ (never : ⊥). absurd never) i) (in_either a t.given (new_answer ∷ []) has)

      pub assured_stands : TakerStands makes listening told (assured may.oldest.number may.rest t)
      assured_stands = record {
        sound = record {
          made = is.sound.made;
          known = is.sound.known;
          answers = λ a has. ⊎_elim (λ (i : IsIn a t.given). still_answer a.number a.answer (is.sound.answers a i))
              (λ (e : a ≡ new_answer). subst (λ (x : Answer). MayAnswer makes listening told (own_link (assured may.oldest.number may.rest t)) x.number x.answer) (sym e) answered) (either_answer a has);
        };
        waits = λ w has.
            let was = is.waits w (rest_in w has) in
            record { parcel = was.parcel; taken = was.taken; number = was.number; some = was.some; events = was.events; rows = was.rows };
        rise = rise_zero (suc may.oldest.number) (map (λ (w : Waiting). w.number) may.rest) rises.1;
        waits_next = λ w has. is.waits_next w (rest_in w has);
        given_before = λ a has w i. ⊎_elim (λ (j : IsIn a t.given). is.given_before a j w (rest_in w i))
            (λ (e : a ≡ new_answer). let less = above_in (λ (x : Waiting). x) (λ x. refl) 0 (suc may.oldest.number) may.rest rises.1 w i in let same = ap (λ (x : Answer). x.number) e in omega (arith, less, same)) (either_answer a has);
        given_next = λ a has. ⊎_elim (λ (j : IsIn a t.given). is.given_next a j)
            (λ (e : a ≡ new_answer). let less = is.waits_next may.oldest oldest_in in let same = ap (λ (x : Answer). x.number) e in omega (arith, less, same)) (either_answer a has);
        taken_next = is.taken_next;
        accounted = λ p has some. now_accounted p (is.accounted p has some);
        unique = is.unique;
      }
        where
          now_accounted : (p : Parcel) → ((w : Waiting) × IsIn w t.waits × (w.number ≡ p.number)) ⊎ ((a : Answer) × IsIn a t.given × (a.number ≡ p.number))
              → ((w : Waiting) × IsIn w may.rest × (w.number ≡ p.number)) ⊎ ((a : Answer) × IsIn a (t.given ++ new_answer ∷ []) × (a.number ≡ p.number))
          now_accounted p (inl w) = ⊎_elim
              (λ (e : w.0 ≡ may.oldest). inr (new_answer, in_behind new_answer t.given (new_answer ∷ []) (inl refl), sym (ap (λ (x : Waiting). x.number) e) ∙ w.2))
              (λ (i : IsIn w.0 may.rest). inl (w.0, i, w.2)) (subst (IsIn w.0) may.waits w.1)
          now_accounted p (inr a) = inr (a.0, in_front a.0 t.given (new_answer ∷ []) a.1, a.2)

          rise_zero : (from : ℕ) (ns : List ℕ) → Rise from ns → Rise 0 ns
          rise_zero from [] rise = tt
          rise_zero from (n ∷ ns) rise = (omega arith, rise.1)

    -- a parcel that wasn't taken is refused
    module _ (rest : List Parcel) (none : t.waits ≡ []) where
      abbrev refusal : Answer
      refusal = record { number = t.next; answer = NotListening }

      either_refusal : (a : Answer) → IsIn a (t.given ++ refusal ∷ []) → IsIn a t.given ⊎ (a ≡ refusal)
      either_refusal a has = ⊎_elim (λ (i : IsIn a t.given). inl i) (λ (i : IsIn a (refusal ∷ [])). ⊎_elim (λ (e : a ≡ refusal). inr e) (λ (never : ⊥). absurd never) i) (in_either a t.given (refusal ∷ []) has)

      kept_answer : (number : ℕ) (h : Heard) → MayAnswer makes listening told (own_link t) number h → MayAnswer makes listening told (own_link (refused rest t)) number h
      kept_answer number Assured was = record { parcel = was.parcel; is_taken = was.is_taken; number_is = was.number_is; some = was.some; whole = was.whole; settled = was.settled }
      kept_answer number NotListening was = was

      no_waiting : (w : Waiting) → IsIn w t.waits → ⊥
      no_waiting w has = subst (IsIn w) none has

      pub refused_stands : TakerStands makes listening told (refused rest t)
      refused_stands = record {
        sound = record {
          made = is.sound.made;
          known = is.sound.known;
          answers = λ a has. ⊎_elim (λ (i : IsIn a t.given). kept_answer a.number a.answer (is.sound.answers a i))
              (λ (e : a ≡ refusal). subst (λ (x : Answer). MayAnswer makes listening told (own_link (refused rest t)) x.number x.answer) (sym e)
              (λ q taken some same. let less = is.taken_next q taken some in omega (arith, less, same), none_yet)) (either_refusal a has);
        };
        waits = λ w has. absurd (no_waiting w has);
        rise = is.rise;
        waits_next = λ w has. absurd (no_waiting w has);
        given_before = λ a has w i. absurd (no_waiting w i);
        given_next = λ a has. ⊎_elim (λ (j : IsIn a t.given). let less = is.given_next a j in omega (arith, less)) (λ (e : a ≡ refusal). let same = ap (λ (x : Answer). x.number) e in omega (arith, same)) (either_refusal a has);
        taken_next = λ p has some. let less = is.taken_next p has some in omega (arith, less);
        accounted = λ p has some. still_accounted p (is.accounted p has some);
        unique = is.unique;
      }
        where
          still_accounted : (p : Parcel) → ((w : Waiting) × IsIn w t.waits × (w.number ≡ p.number)) ⊎ ((a : Answer) × IsIn a t.given × (a.number ≡ p.number))
              → ((w : Waiting) × IsIn w t.waits × (w.number ≡ p.number)) ⊎ ((a : Answer) × IsIn a (t.given ++ refusal ∷ []) × (a.number ≡ p.number))
          still_accounted p (inl w) = inl w
          still_accounted p (inr a) = inr (a.0, in_front a.0 t.given (refusal ∷ []) a.1, a.2)

    -- a row is made of the next event of a parcel that waits
    module _ (now : List Entry) (at : ParcelAt) (here : t.place ≡ at.place) (w : Waiting) (waits : waiting_at at.number t.waits ≡ Some w) (event : Ev) (rest : List Ev)
        (next : drop (length w.rows) w.events ≡ event ∷ rest) (row : Written) (made : IsMadeOf listening t.address row event)
        (rows_now : (number : ℕ) → rows_at makes listening now t number ≡ rows_at makes listening told t number ++ (if (t.place == at.place) && (number == at.number) then row ∷ [] else []))
        (front : (after makes start now).front ≡ (after makes start told).front) where
      its : IsIn w t.waits × (w.number ≡ at.number)
      its = waiting_in at.number w t.waits waits

      was : IsWaiting makes listening told t w
      was = is.waits w its.0

      -- the rows of this parcel are one more, and those of others as they were
      rows_here : (number : ℕ) → number ≡ at.number → rows_at makes listening now t number ≡ rows_at makes listening told t number ++ row ∷ []
      rows_here number same =
          rows_now number ∙ ap (λ (b : Bool). rows_at makes listening told t number ++ (if b then row ∷ [] else [])) (and_from _ _ (eq-eqb t.place at.place here) (eq-eqb number at.number same))

      rows_there : (number : ℕ) → (number ≡ at.number → ⊥) → rows_at makes listening now t number ≡ rows_at makes listening told t number
      rows_there number other =
          rows_now number ∙ ap (λ (b : Bool). rows_at makes listening told t number ++ (if b then row ∷ [] else [])) (not_both (t.place == at.place)) ∙ append-nil (rows_at makes listening told t number)
        where
          not_both : (b : Bool) → (b && (number == at.number)) ≡ false
          not_both true = ⊎_elim (λ (e : (number == at.number) ≡ true). absurd (other (eqb-true number at.number e))) (λ e. e) (cases_Bool (number == at.number))
          not_both false = refl

      by_number : {X : Type 0} → (number : ℕ) → (number ≡ at.number → X) → ((number ≡ at.number → ⊥) → X) → X
      by_number number same other =
          ⊎_elim (λ (e : (number == at.number) ≡ true). same (eqb-true number at.number e))
          (λ (e : (number == at.number) ≡ false). other (λ is_same. differs (sym (eq-eqb number at.number is_same) ∙ e))) (cases_Bool (number == at.number))
        where
          differs : true ≡ false → ⊥
          differs c = cc

      abbrev now_end : TakerView
      now_end = row_made at.number row.number t

      made_all : (p : Parcel) → IsIn p t.taken → is_last p ≡ false → AreMadeOf listening t.address (rows_at makes listening now t p.number) p.events
      made_all p has some = by_number p.number
          (λ same.
          let one = is.unique p was.parcel has was.taken some was.some (same ∙ sym (was.number ∙ its.1)) in
          let events : p.events ≡ w.events = ap (λ (q : Parcel). q.events) one ∙ was.events in
          let number : p.number ≡ w.number = same ∙ sym its.1 in
          let count : length (rows_at makes listening told t p.number) ≡ length w.rows =
          ap (λ n. length (rows_at makes listening told t n)) number ∙ sym (length-map (rows_at makes listening told t w.number) (λ (v : Written). v.number)) ∙ ap length was.rows in
          subst (λ ws. AreMadeOf listening t.address ws p.events) (sym (rows_here p.number same))
          (made_more listening t.address (rows_at makes listening told t p.number) p.events event rest row (is.sound.made p has some)
          (ap₂ (λ (n : ℕ) (es : List Ev). drop n es) count events ∙ next) made))
          (λ other. subst (λ ws. AreMadeOf listening t.address ws p.events) (sym (rows_there p.number other)) (is.sound.made p has some))

      known_all : (number : ℕ) → rows_at makes listening now t number ≢ [] → (p : Parcel) × IsIn p t.taken × (p.number ≡ number) × (is_last p ≡ false)
      known_all number some = by_number number
          (λ same. (was.parcel, was.taken, was.number ∙ its.1 ∙ sym same, was.some))
          (λ other. is.sound.known number (λ none. some (rows_there number other ∙ none)))

      answer_now : (number : ℕ) (h : Heard) → number < w.number → MayAnswer makes listening told (own_link t) number h → MayAnswer makes listening now (own_link now_end) number h
      answer_now number Assured less a = record {
        parcel = a.parcel;
        is_taken = a.is_taken;
        number_is = a.number_is;
        some = a.some;
        whole = ap length (rows_there number apart) ∙ a.whole;
        settled = subst (AreSettled (after makes start now).front) (sym (rows_there number apart)) (subst (λ f. AreSettled f (rows_at makes listening told t number)) (sym front) a.settled);
      }
        where
          apart : number ≡ at.number → ⊥
          apart same = let one = its.1 in omega (arith, less, same, one)
      answer_now number NotListening less a = (a.0, rows_there number apart ∙ a.1)
        where
          apart : number ≡ at.number → ⊥
          apart same = let one = its.1 in omega (arith, less, same, one)

      waits_all : (u : Waiting) → IsIn u (change_waiting (with_row_of row.number) at.number t.waits) → IsWaiting makes listening now now_end u
      waits_all u has = ⊎_elim
          (λ (o : IsIn u t.waits × (u.number ≡ at.number → ⊥)).
          let v = is.waits u o.0 in
          record { parcel = v.parcel; taken = v.taken; number = v.number; some = v.some; events = v.events; rows = ap numbers_of (rows_there u.number o.1) ∙ v.rows })
          (λ (c : (x : Waiting) × (waiting_at at.number t.waits ≡ Some x) × IsIn x t.waits × (u ≡ with_row_of row.number x)).
          let one = same_Some c.0 w (sym c.1 ∙ waits) in
          subst (IsWaiting makes listening now now_end) (sym (c.3 ∙ ap (with_row_of row.number) one)) (record {
            parcel = was.parcel;
            taken = was.taken;
            number = was.number;
            some = was.some;
            events = was.events;
            rows = ap numbers_of (rows_here w.number its.1) ∙ numbers_more (rows_at makes listening told t w.number) row ∙ ap (λ l. l ++ row.number ∷ []) was.rows;
          }))
          (waiting_changed (with_row_of row.number) (λ x. refl) at.number 0 t.waits is.rise u has)

      pub row_made_stands : TakerStands makes listening now now_end
      row_made_stands = record {
        sound = record {
          made = made_all;
          known = known_all;
          answers = λ a has. answer_now a.number a.answer (is.given_before a has w its.0) (is.sound.answers a has);
        };
        waits = waits_all;
        rise = subst (Rise 0) (sym (numbers_kept (with_row_of row.number) (λ x. refl) at.number t.waits)) is.rise;
        waits_next = λ u has. let same = number_before u has in let less = is.waits_next same.0 same.1 in let one = same.2 in omega (arith, less, one);
        given_before = λ a has u i. let same = number_before u i in let less = is.given_before a has same.0 same.1 in let one = same.2 in omega (arith, less, one);
        given_next = is.given_next;
        taken_next = is.taken_next;
        accounted = λ p has some. now_accounted p (is.accounted p has some);
        unique = is.unique;
      }
        where
          now_accounted : (p : Parcel) → ((x : Waiting) × IsIn x t.waits × (x.number ≡ p.number)) ⊎ ((a : Answer) × IsIn a t.given × (a.number ≡ p.number))
              → ((x : Waiting) × IsIn x (change_waiting (with_row_of row.number) at.number t.waits) × (x.number ≡ p.number)) ⊎ ((a : Answer) × IsIn a t.given × (a.number ≡ p.number))
          now_accounted p (inl x) =
              let u = waiting_behind (with_row_of row.number) (λ y. refl) at.number t.waits x.0 x.1 in
              inl (u.0, u.1, u.2 ∙ x.2)
          now_accounted p (inr a) = inr a

          number_before : (u : Waiting) → IsIn u (change_waiting (with_row_of row.number) at.number t.waits) → (x : Waiting) × IsIn x t.waits × (u.number ≡ x.number)
          number_before u has = ⊎_elim
              (λ (o : IsIn u t.waits × (u.number ≡ at.number → ⊥)). (u, o.0, refl))
              (λ (c : (x : Waiting) × (waiting_at at.number t.waits ≡ Some x) × IsIn x t.waits × (u ≡ with_row_of row.number x)). (c.0, c.2, ap (λ (y : Waiting). y.number) c.3))
              (waiting_changed (with_row_of row.number) (λ x. refl) at.number 0 t.waits is.rise u has)
