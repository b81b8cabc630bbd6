-- Each step of the shop's seat and of the worker's keeps the rule.
use Rattle.std.proofs.Common.{◌≡◌, ◌+◌, ◌==◌, inl, inr, ℕ, zero, suc, Bool, true, false, List, [], ◌∷◌, ◌++◌, set, get_or, refl, sym, ap, subst, ◌∙◌, arith, true≢false, Some, None}
use Rattle.std.proofs.lemmas.List.{set-get_or}
use Rattle.atomic_table.proofs.Lists.{set_again}
use Rattle.std.proofs.lemmas.Bool.{eqb-true, eq-eqb}
use mathlib.Core.Option as home
use mathlib.Core.Option.{some-ne-none, some-injective}
use prog.Atomic.{either}
use lib.ListN.{get_elem?}
use Rattle.atomic_table.specs.Table.{State, Me, Act, keeps, takes, gives as hands, stepped, carried_after, opening, Valid, Allows, Splits}
use Rattle.batch_shop.specs.Rule.{MessageSlot, HasResult, Running, Row, Kept, Carries, Free, Opens, Hands, TakesJob, HandsBack, TakesHome, Closes}
use Rattle.batch_shop.specs.declared.rule.View.{View}
use Rattle.batch_shop.specs.declared.rule.View.TheVariants as view
use Rattle.batch_shop.specs.declared.rule.Message.TheVariants as letter

-- whose view it is
abbrev pub is_shop : {T : Type 0} → View T → Bool
is_shop view.Alone = true
is_shop view.Ready = true
is_shop (view.Idle n) = true
is_shop (view.Out j n) = true
is_shop (view.Closed n) = true
is_shop view.Waiting = false
is_shop (view.Working j) = false

module _ {T D : Type 0} (gives : T → D → Type 0) where
  -- of the shop's view and the others
  pub record Sides (shop : View T) (others : List (View T)) : Type 0 where
    pub here : is_shop shop ≡ true
    pub there : (i : ℕ) (v : View T) → get_elem? others i ≡ home.some v → (i ≡ 0) × (is_shop v ≡ false)

  one_other : (v : View T) (others : List (View T)) → others ≡ v ∷ [] → is_shop v ≡ false → (i : ℕ) (u : View T) → get_elem? others i ≡ home.some u → (i ≡ 0) × (is_shop u ≡ false)
  one_other v others e h i u at = by i (ap (λ vs. get_elem? vs i) (sym e) ∙ at)
    where
      by : (i : ℕ) → get_elem? (v ∷ []) i ≡ home.some u → (i ≡ 0) × (is_shop u ≡ false)
      by zero f = (refl, subst (λ x. is_shop x ≡ false) (some-injective v u f) h)
      by (suc i) f = absurd (some-ne-none u (sym f))

  running_sides : (w : ℕ) (h : home.Option (MessageSlot T D)) (j : T) (n : ℕ) (others : List (View T)) → Running gives w h j others → Sides (view.Out j n) others
  running_sides w h j n others (inl r) = record { here = refl; there = one_other view.Waiting others r.2 refl }
  running_sides w h j n others (inr (inl r)) = record { here = refl; there = one_other (view.Working j) others r.2 refl }
  running_sides w h j n others (inr (inr r)) = record { here = refl; there = one_other view.Waiting others r.2 refl }

  sides : (w : ℕ) (h : home.Option (MessageSlot T D)) (shop : View T) (others : List (View T)) → Row gives w h shop others → Sides shop others
  sides w h view.Alone others r = record { here = refl; there = λ i v at. absurd (some-ne-none v (sym (ap (λ vs. get_elem? vs i) (sym r.2) ∙ at))) }
  sides w h view.Ready others r = record { here = refl; there = one_other view.Waiting others r.2 refl }
  sides w h (view.Idle n) others r = record { here = refl; there = one_other view.Waiting others r.2 refl }
  sides w h (view.Out j n) others r = running_sides w h j n others r
  sides w h (view.Closed n) others r = record { here = refl; there = one_other view.Waiting others r.2 refl }
  sides w h view.Waiting others r = absurd r
  sides w h (view.Working j) others r = absurd r

  module _ (s : State (MessageSlot T D) (View T)) (k : Kept gives s) where
    both : Sides k.shop k.others
    both = sides k.word k.slot k.shop k.others k.row

    -- a view of the shop's is the first
    shop_first : (id : ℕ) (v : View T) → get_elem? s.views id ≡ home.some v → is_shop v ≡ true → (id ≡ 0) × (k.shop ≡ v)
    shop_first id v at h = by id (ap (λ vs. get_elem? vs id) (sym k.views) ∙ at)
      where
        by : (id : ℕ) → get_elem? (k.shop ∷ k.others) id ≡ home.some v → (id ≡ 0) × (k.shop ≡ v)
        by zero e = (refl, some-injective k.shop v e)
        by (suc i) e = absurd (true≢false (sym h ∙ (both.there i v e).1))

    -- a view of the worker's is the second
    worker_second : (id : ℕ) (v : View T) → get_elem? s.views id ≡ home.some v → is_shop v ≡ false → (id ≡ 1) × (get_elem? k.others 0 ≡ home.some v)
    worker_second id v at h = by id (ap (λ vs. get_elem? vs id) (sym k.views) ∙ at)
      where
        by : (id : ℕ) → get_elem? (k.shop ∷ k.others) id ≡ home.some v → (id ≡ 1) × (get_elem? k.others 0 ≡ home.some v)
        by zero e = absurd (true≢false (sym both.here ∙ ap is_shop (some-injective k.shop v e) ∙ h))
        by (suc i) e = (ap suc (both.there i v e).0, ap (get_elem? k.others) (sym (both.there i v e).0) ∙ e)

    shop_set : (id : ℕ) (w : View T) → id ≡ 0 → set s.views id w ≡ w ∷ k.others
    shop_set id w e = ap (λ i. set s.views i w) e ∙ ap (λ vs. set vs 0 w) k.views

    word_set : (n : ℕ) → set s.words 0 n ≡ n ∷ []
    word_set n = ap (λ ws. set ws 0 n) k.words

    slot_set : (h : home.Option (MessageSlot T D)) → set s.homes 0 h ≡ h ∷ []
    slot_set h = ap (λ hs. set hs 0 h) k.homes

    slot_there : (x : MessageSlot T D) → k.slot ≡ home.some x → get_elem? s.homes 0 ≡ home.some (home.some x)
    slot_there x e = ap (λ hs. get_elem? hs 0) k.homes ∙ ap home.some e

    -- the row of the shop's own view
    row_of : (v : View T) → k.shop ≡ v → Row gives k.word k.slot v k.others
    row_of v e = subst (λ u. Row gives k.word k.slot u k.others) e k.row

  -- ---- the shop's steps

  pub opens : (slots id : ℕ) → Allows (Kept gives) slots id (Free view.Ready) 0 (λ _. 0) (λ _ after. Opens gives after)
  opens slots id s k homes at fits =
      let first = shop_first s k id view.Ready at refl in
      let row = row_of s k view.Ready first.1 in (
        view.Idle 0,
        takes 0 None,
        slot_there s k None row.1,
        record {
          word = 0;
          slot = home.none;
          shop = view.Idle 0;
          others = k.others;
          words = word_set s k 0;
          homes = slot_set s k home.none;
          views = shop_set s k id (view.Idle 0) first.0;
          row = (refl, refl, row.2);
        },
        refl,
      )

  pub hands_over : (slots id : ℕ) (looks : ℕ) (j : T) → Allows (Kept gives) slots id (Carries (view.Idle looks) (Some (letter.Job j))) 0 (λ _. 1)
      (λ _ after. after ≡ Free (view.Out j looks))
  hands_over slots id looks j s k homes at fits =
      let first = shop_first s k id (view.Idle looks) at refl in
      let row = row_of s k (view.Idle looks) first.1 in (
        view.Out j looks,
        hands,
        tt,
        record {
          word = 1;
          slot = home.some (Some (letter.Job j));
          shop = view.Out j looks;
          others = k.others;
          words = word_set s k 1;
          homes = slot_set s k (home.some (Some (letter.Job j)));
          views = shop_set s k id (view.Out j looks) first.0;
          row = inl (refl, refl, row.2);
        },
        refl,
      )

  pub closes : (slots id : ℕ) (looks : ℕ) (x : MessageSlot T D) → Allows (Kept gives) slots id (Carries (view.Idle looks) x) 0 (λ _. 4)
      (λ _ after. Closes gives after)
  closes slots id looks x s k homes at fits =
      let first = shop_first s k id (view.Idle looks) at refl in
      let row = row_of s k (view.Idle looks) first.1 in (
        view.Closed looks,
        keeps,
        tt,
        record {
          word = 4;
          slot = k.slot;
          shop = view.Closed looks;
          others = k.others;
          words = word_set s k 4;
          homes = k.homes;
          views = shop_set s k id (view.Closed looks) first.0;
          row = (refl, row.1, row.2);
        },
        tt,
      )

  -- where the word is 3, the result of the job lies in the slot
  result_there : (w : ℕ) (h : home.Option (MessageSlot T D)) (j : T) (others : List (View T)) → Running gives w h j others → w ≡ 3 → HasResult gives j h × (others ≡ view.Waiting ∷ [])
  result_there w h j others (inl r) e = absurd (omega (arith, r.0, e))
  result_there w h j others (inr (inl r)) e = absurd (omega (arith, r.0, e))
  result_there w h j others (inr (inr r)) e = (r.1, r.2)

  pub takes_home : (slots id : ℕ) (j : T) (looks : ℕ) → Allows (Kept gives) slots id (Free (view.Out j looks)) 0 (λ n. either (n == 3) 0 n)
      (λ n after. TakesHome gives (Free (view.Out j looks)) n after)
  takes_home slots id j looks s k homes at fits = by (n == 3) refl
    where
      n : ℕ
      n = get_or s.words 0 0

      found : n ≡ k.word
      found = ap (λ ws. get_or ws 0 0) k.words

      first : (id ≡ 0) × (k.shop ≡ view.Out j looks)
      first = shop_first s k id (view.Out j looks) at refl

      row : Running gives k.word k.slot j k.others
      row = row_of s k (view.Out j looks) first.1

      by : (b : Bool) → (n == 3) ≡ b → (w : View T) × (a : Act (MessageSlot T D)) × Valid s.homes [] a × Kept gives (stepped s 0 (either (n == 3) 0 n) id [] w a)
          × TakesHome gives (Free (view.Out j looks)) n (w, carried_after [] a)
      by true e =
          let there = result_there k.word k.slot j k.others row (sym found ∙ eqb-true n 3 e) in (
            view.Idle looks,
            takes 0 (Some (letter.Done there.0.0)),
            slot_there s k (Some (letter.Done there.0.0)) there.0.1,
            record {
              word = 0;
              slot = home.none;
              shop = view.Idle looks;
              others = k.others;
              words = ap (λ b. set s.words 0 (either b 0 n)) e ∙ word_set s k 0;
              homes = slot_set s k home.none;
              views = shop_set s k id (view.Idle looks) first.0;
              row = (refl, refl, there.1);
            },
            ((λ f. (there.0.0, record { job = j; job_is = refl; result = there.0.2; after_is = refl })), λ f. absurd (f (eqb-true n 3 e))),
          )
      by false e = (
        view.Out j (looks + 1),
        keeps,
        tt,
        record {
          word = k.word;
          slot = k.slot;
          shop = view.Out j (looks + 1);
          others = k.others;
          words = ap (λ b. set s.words 0 (either b 0 n)) e ∙ word_set s k n ∙ ap (λ m. m ∷ []) found;
          homes = k.homes;
          views = shop_set s k id (view.Out j (looks + 1)) first.0;
          row = row;
        },
        ((λ f. absurd (true≢false (sym (eq-eqb n 3 f) ∙ e))), λ f. record { job = j; job_is = refl; after_is = refl }),
      )

  -- ---- the worker's steps

  -- where the word is 1, a job lies in the slot
  pub record IsGiven (h : home.Option (MessageSlot T D)) (shop : View T) (others : List (View T)) : Type 0 where
    pub job : T
    pub looks : ℕ
    pub shop_is : shop ≡ view.Out job looks
    pub slot_is : h ≡ home.some (Some (letter.Job job))
    pub others_is : others ≡ view.Waiting ∷ []

  given : (w : ℕ) (h : home.Option (MessageSlot T D)) (shop : View T) (others : List (View T)) → Row gives w h shop others → w ≡ 1 → IsGiven h shop others
  given w h view.Alone others r e = absurd (omega (arith, r.0, e))
  given w h view.Ready others r e = absurd (omega (arith, r.0, e))
  given w h (view.Idle n) others r e = absurd (omega (arith, r.0, e))
  given w h (view.Out j n) others (inl r) e = record { job = j; looks = n; shop_is = refl; slot_is = r.1; others_is = r.2 }
  given w h (view.Out j n) others (inr (inl r)) e = absurd (omega (arith, r.0, e))
  given w h (view.Out j n) others (inr (inr r)) e = absurd (omega (arith, r.0, e))
  given w h (view.Closed n) others r e = absurd (omega (arith, r.0, e))
  given w h view.Waiting others r e = absurd r
  given w h (view.Working j) others r e = absurd r

  -- where the worker works on a job, the shop has it out
  pub record IsWorked (j : T) (shop : View T) (others : List (View T)) : Type 0 where
    pub looks : ℕ
    pub shop_is : shop ≡ view.Out j looks
    pub others_is : others ≡ view.Working j ∷ []

  only : (j : T) (v : View T) (others : List (View T)) → others ≡ v ∷ [] → get_elem? others 0 ≡ home.some (view.Working j) → v ≡ view.Working j
  only j v others e at = some-injective v (view.Working j) (ap (λ vs. get_elem? vs 0) (sym e) ∙ at)

  not_waiting : (j : T) → view.Waiting ≡ view.Working j → ⊥
  not_waiting j e = absurd (true≢false (ap is_waiting e))
    where
      is_waiting : View T → Bool
      is_waiting view.Waiting = true
      is_waiting _ = false

  working : (w : ℕ) (h : home.Option (MessageSlot T D)) (shop : View T) (others : List (View T)) (j : T) → Row gives w h shop others → get_elem? others 0 ≡ home.some (view.Working j) → IsWorked j shop others
  working w h view.Alone others j r at = absurd (some-ne-none (view.Working j) (sym (ap (λ vs. get_elem? vs 0) (sym r.2) ∙ at)))
  working w h view.Ready others j r at = absurd (not_waiting j (only j view.Waiting others r.2 at))
  working w h (view.Idle n) others j r at = absurd (not_waiting j (only j view.Waiting others r.2 at))
  working w h (view.Out i n) others j (inl r) at = absurd (not_waiting j (only j view.Waiting others r.2 at))
  working w h (view.Out i n) others j (inr (inl r)) at =
      let same : i ≡ j = job_is i j (only j (view.Working i) others r.2 at) in
      record { looks = n; shop_is = ap (λ x. view.Out x n) same; others_is = r.2 ∙ ap (λ x. view.Working x ∷ []) same }
    where
      job_of : T → View T → T
      job_of d (view.Working x) = x
      job_of d _ = d

      job_is : (a b : T) → view.Working a ≡ view.Working b → a ≡ b
      job_is a b e = ap (job_of a) e
  working w h (view.Out i n) others j (inr (inr r)) at = absurd (not_waiting j (only j view.Waiting others r.2 at))
  working w h (view.Closed n) others j r at = absurd (not_waiting j (only j view.Waiting others r.2 at))
  working w h view.Waiting others j r at = absurd r
  working w h (view.Working i) others j r at = absurd r

  worker_set : (s : State (MessageSlot T D) (View T)) (k : Kept gives s) (id : ℕ) (w v : View T) → id ≡ 1 → k.others ≡ v ∷ [] → set s.views id w ≡ k.shop ∷ w ∷ []
  worker_set s k id w v e others = ap (λ i. set s.views i w) e ∙ ap (λ vs. set vs 1 w) k.views ∙ ap (λ vs. k.shop ∷ set vs 0 w) others

  pub takes_job : (slots id : ℕ) → Allows (Kept gives) slots id (Free view.Waiting) 0 (λ n. either (n == 1) 2 n) (λ n after. TakesJob gives (Free view.Waiting) n after)
  takes_job slots id s k homes at fits = by (n == 1) refl
    where
      n : ℕ
      n = get_or s.words 0 0

      found : n ≡ k.word
      found = ap (λ ws. get_or ws 0 0) k.words

      second : (id ≡ 1) × (get_elem? k.others 0 ≡ home.some view.Waiting)
      second = worker_second s k id view.Waiting at refl

      by : (b : Bool) → (n == 1) ≡ b → (w : View T) × (a : Act (MessageSlot T D)) × Valid s.homes [] a × Kept gives (stepped s 0 (either (n == 1) 2 n) id [] w a)
          × TakesJob gives (Free view.Waiting) n (w, carried_after [] a)
      by true e =
          let g = given k.word k.slot k.shop k.others k.row (sym found ∙ eqb-true n 1 e) in (
            view.Working g.job,
            takes 0 (Some (letter.Job g.job)),
            slot_there s k (Some (letter.Job g.job)) g.slot_is,
            record {
              word = 2;
              slot = home.none;
              shop = view.Out g.job g.looks;
              others = view.Working g.job ∷ [];
              words = ap (λ b. set s.words 0 (either b 2 n)) e ∙ word_set s k 2;
              homes = slot_set s k home.none;
              views = worker_set s k id (view.Working g.job) view.Waiting second.0 g.others_is ∙ ap (λ v. v ∷ view.Working g.job ∷ []) g.shop_is;
              row = inr (inl (refl, refl, refl));
            },
            ((λ f. (g.job, refl)), λ f. absurd (f (eqb-true n 1 e))),
          )
      by false e = (view.Waiting, keeps, tt, subst (λ t. Kept gives t) (sym same) k, ((λ f. absurd (true≢false (sym (eq-eqb n 1 f) ∙ e))), λ f. refl))
        where
          same : stepped s 0 (either (n == 1) 2 n) id [] view.Waiting keeps ≡ s
          same = λ i. record {
            words = (ap (λ b. set s.words 0 (either b 2 n)) e ∙ set-get_or s.words 0 0) i;
            homes = s.homes;
            views = set_again s.views id view.Waiting at i;
          }

  pub hands_back : (slots id : ℕ) (j : T) (d : D) → gives j d → Allows (Kept gives) slots id (Carries (view.Working j) (Some (letter.Done d))) 0 (λ _. 3)
      (λ _ after. HandsBack gives after)
  hands_back slots id j d r s k homes at fits =
      let second = worker_second s k id (view.Working j) at refl in
      let g = working k.word k.slot k.shop k.others j k.row second.1 in (
        view.Waiting,
        hands,
        tt,
        record {
          word = 3;
          slot = home.some (Some (letter.Done d));
          shop = view.Out j g.looks;
          others = view.Waiting ∷ [];
          words = word_set s k 3;
          homes = slot_set s k (home.some (Some (letter.Done d)));
          views = worker_set s k id view.Waiting (view.Working j) second.0 g.others_is ∙ ap (λ v. v ∷ view.Waiting ∷ []) g.shop_is;
          row = inr (inr (refl, (d, refl, r), refl));
        },
        refl,
      )

  -- ---- the start

  pub parts : (id : ℕ) → Splits (Kept gives) id view.Alone view.Ready view.Waiting
  parts id s k at =
      let first = shop_first s k id view.Alone at refl in
      let row = row_of s k view.Alone first.1 in
      record {
        word = 0;
        slot = home.some None;
        shop = view.Ready;
        others = view.Waiting ∷ [];
        words = k.words ∙ ap (λ w. w ∷ []) row.0;
        homes = k.homes ∙ ap (λ h. h ∷ []) row.1;
        views = ap (λ vs. vs ++ view.Waiting ∷ []) (shop_set s k id view.Ready first.0) ∙ ap (λ vs. view.Ready ∷ (vs ++ view.Waiting ∷ [])) row.2;
        row = (refl, refl, refl);
      }

  pub alone : Kept gives (opening (0 ∷ []) (None ∷ []) view.Alone)
  alone = record {
    word = 0;
    slot = home.some None;
    shop = view.Alone;
    others = [];
    words = refl;
    homes = refl;
    views = refl;
    row = (refl, refl, refl);
  }

  -- ---- the same for a seat that is known to stand so

  job_in_letter : T → Me (MessageSlot T D) (View T) → T
  job_in_letter d m = of m.1
    where
      of : List (ℕ × MessageSlot T D) → T
      of [] = d
      of (x ∷ xs) = from x.1
        where
          from : MessageSlot T D → T
          from None = d
          from (Some (letter.Job j)) = j
          from (Some (letter.Done r)) = d

  handed_over : (slots id : ℕ) (looks : ℕ) (j : T) → Allows (Kept gives) slots id (Carries (view.Idle looks) (Some (letter.Job j))) 0 (λ _. 1)
      (λ _ after. Hands gives (Carries (view.Idle looks) (Some (letter.Job j))) after)
  unfolding job_in_letter
  handed_over slots id looks j s k homes at fits =
      let all = hands_over slots id looks j s k homes at fits in
      (all.0, all.1, all.2, all.3, λ i n e. all.4 ∙ ap (λ x. Free (view.Out x looks)) (ap (job_in_letter j) e))

  pub gives_job : (slots id : ℕ) (m : Me (MessageSlot T D) (View T)) (looks : ℕ) (j : T) → m ≡ Carries (view.Idle looks) (Some (letter.Job j))
      → Allows (Kept gives) slots id m 0 (λ _. 1) (λ _ after. Hands gives m after)
  gives_job slots id m looks j e = subst (λ m. Allows (Kept gives) slots id m 0 (λ _. 1) (λ _ after. Hands gives m after)) (sym e) (handed_over slots id looks j)

  pub opens_table : (slots id : ℕ) (m : Me (MessageSlot T D) (View T)) → m ≡ Free view.Ready → Allows (Kept gives) slots id m 0 (λ _. 0) (λ _ after. Opens gives after)
  opens_table slots id m e = subst (λ m. Allows (Kept gives) slots id m 0 (λ _. 0) (λ _ after. Opens gives after)) (sym e) (opens slots id)

  pub closes_table : (slots id : ℕ) (m : Me (MessageSlot T D) (View T)) (looks : ℕ) (x : MessageSlot T D) → m ≡ Carries (view.Idle looks) x
      → Allows (Kept gives) slots id m 0 (λ _. 4) (λ _ after. Closes gives after)
  closes_table slots id m looks x e = subst (λ m. Allows (Kept gives) slots id m 0 (λ _. 4) (λ _ after. Closes gives after)) (sym e) (closes slots id looks x)

  pub fetches : (slots id : ℕ) (m : Me (MessageSlot T D) (View T)) (j : T) (looks : ℕ) → m ≡ Free (view.Out j looks)
      → Allows (Kept gives) slots id m 0 (λ n. either (n == 3) 0 n) (λ n after. TakesHome gives m n after)
  fetches slots id m j looks e = subst (λ m. Allows (Kept gives) slots id m 0 (λ n. either (n == 3) 0 n) (λ n after. TakesHome gives m n after)) (sym e) (takes_home slots id j looks)

  pub takes_it : (slots id : ℕ) (m : Me (MessageSlot T D) (View T)) → m ≡ Free view.Waiting
      → Allows (Kept gives) slots id m 0 (λ n. either (n == 1) 2 n) (λ n after. TakesJob gives m n after)
  takes_it slots id m e = subst (λ m. Allows (Kept gives) slots id m 0 (λ n. either (n == 1) 2 n) (λ n after. TakesJob gives m n after)) (sym e) (takes_job slots id)

  pub gives_back : (slots id : ℕ) (m : Me (MessageSlot T D) (View T)) (j : T) (d : D) → gives j d → m ≡ Carries (view.Working j) (Some (letter.Done d))
      → Allows (Kept gives) slots id m 0 (λ _. 3) (λ _ after. HandsBack gives after)
  gives_back slots id m j d r e = subst (λ m. Allows (Kept gives) slots id m 0 (λ _. 3) (λ _ after. HandsBack gives after)) (sym e) (hands_back slots id j d r)
