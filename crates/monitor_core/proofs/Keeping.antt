-- Each step of a seat keeps the rule of the table.
use Rattle.std.proofs.Common.{◌≡◌, ◌≢◌, ◌≤◌, ◌<◌, ◌+◌, ◌-◌, ◌*◌, ◌⊎◌, inl, inr, ℕ, zero, suc, List, [], ◌∷◌, ◌++◌, length, take, drop, set, get_or, replicate, refl, sym, ap, subst, ◌∙◌, arith, ⊎_elim}
use Rattle.std.proofs.lemmas.List.{set-get_or, get_or-set_other, length-set, get_or-take, get_or-drop, length-take, length-drop, length-replicate, take-replicate, drop-replicate}
use Rattle.std.proofs.lemmas.Grind.{get_or-set_at}
use Rattle.std.proofs.lemmas.Bool.Decides.{eqb_tells}
use mathlib.Core.Option.{Option, some, some-ne-none, some-injective}
use lib.ListN.{get_elem?}
use Rattle.atomic_table.specs.Table.{State, Me, keeps, stepped, opening, Allows, Splits}
use Rattle.atomic_table.proofs.Lists.{at_set, set_again}
use Rattle.monitor_core.specs.Kept.{Owns, AreApart, Kept, ReadsOwn, with_word, all_but_four, last_four, unused}
use Rattle.monitor_core.specs.Places.{place}
use Rattle.monitor_core.specs.declared.counter.Counter.{Counter}
use Rattle.monitor_core.specs.declared.counter.Counter.TheVariants as counter
use Rattle.monitor_core.specs.declared.rule.CounterView.{CounterView}

-- what the last place of a longer list holds
at_end : (l : List CounterView) (a b : CounterView) (j : ℕ) → get_elem? (l ++ a ∷ []) j ≡ some b → (get_elem? l j ≡ some b) ⊎ ((j ≡ length l) × (a ≡ b))
at_end [] a b zero e = inr (refl, some-injective a b e)
at_end [] a b (suc j) e = absurd (some-ne-none b (sym e))
at_end (x ∷ xs) a b zero e = inl e
at_end (x ∷ xs) a b (suc j) e = ⊎_elim (λ h. inl h) (λ h. inr (ap suc h.0, h.1)) (at_end xs a b j e)

-- a view with the words of an old one, or with some of them
pub record Within (v u : CounterView) : Type 0 where
  pub begins : v.from ≤ u.from
  pub ends : u.from + length u.counts ≤ v.from + length v.counts

within_itself : (v : CounterView) → Within v v
within_itself v = record { begins = omega arith; ends = omega arith }

apart_within : (v w a b : CounterView) → Within v a → Within w b → AreApart v w → AreApart a b
apart_within v w a b f g h = ⊎_elim (λ e. inl (omega (arith, e, f.begins, f.ends, g.begins, g.ends))) (λ e. inr (omega (arith, e, f.begins, f.ends, g.begins, g.ends))) h

-- ---- loads

pub reads : (slots id : ℕ) (me : Me Unit CounterView) (i : ℕ) → Allows Kept slots id me i (λ n. n) (λ n after. (after ≡ me) × ReadsOwn me.0 i n)
reads slots id me i s kept homes there fits = (me.0, keeps, tt, same, (refl, own))
  where
    words : set s.words i (get_or s.words i 0) ≡ s.words
    words = set-get_or s.words i 0

    views : set s.views id me.0 ≡ s.views
    views = set_again s.views id me.0 there

    same : Kept (stepped s i (get_or s.words i 0) id me.1 me.0 keeps)
    same = subst (λ ws. Kept record { words = ws; homes = s.homes; views = set s.views id me.0 }) (sym words) (subst (λ vs. Kept record { words = s.words; homes = s.homes; views = vs }) (sym views) kept)

    own : ReadsOwn me.0 i (get_or s.words i 0)
    own lo hi = let e : me.0.from + (i - me.0.from) ≡ i = omega arith in ap (λ k. get_or s.words k 0) (sym e) ∙ (kept.owned id me.0 there).same (i - me.0.from) (omega arith)

-- ---- stores

module _ (s : State Unit CounterView) (id : ℕ) (v : CounterView) (i n : ℕ) (kept : Kept s) (there : get_elem? s.views id ≡ some v) (lo : v.from ≤ i) (hi : i < v.from + length v.counts) where
  own_set : Owns (set s.words i n) (with_word v i n)
  own_set = record {
    within = omega (arith, length-set s.words i n, length-set v.counts (i - v.from) n, (kept.owned id v there).within);
    same = at;
  }
    where
      at : (j : ℕ) → j < length (set v.counts (i - v.from) n) → get_or (set s.words i n) (v.from + j) 0 ≡ get_or (set v.counts (i - v.from) n) j 0
      at j h = ⊎_elim
          (λ e. get_or-set_at s.words i (v.from + j) n 0 (omega (arith, e.1)) (omega (arith, (kept.owned id v there).within)) ∙ sym (get_or-set_at v.counts (i - v.from) j n 0 e.1 (omega arith)))
          (λ e. get_or-set_other s.words i (v.from + j) n 0 (λ f. e.1 (omega (arith, f))) ∙ (kept.owned id v there).same j (omega (arith, h, length-set v.counts (i - v.from) n)) ∙ sym (get_or-set_other v.counts (i - v.from) j n 0 e.1))
          (eqb_tells j (i - v.from))

  other_set : (k : ℕ) (u : CounterView) → k ≢ id → get_elem? s.views k ≡ some u → Owns (set s.words i n) u
  other_set k u ne at = record {
    within = omega (arith, length-set s.words i n, (kept.owned k u at).within);
    same = λ j h. get_or-set_other s.words i (u.from + j) n 0 (λ e. ⊎_elim (λ l. absurd (omega (arith, l, e))) (λ l. absurd (omega (arith, l, e))) (kept.apart k id u v ne at there)) ∙ (kept.owned k u at).same j h;
  }

  old_of : (k : ℕ) (u : CounterView) → get_elem? (set s.views id (with_word v i n)) k ≡ some u → (w : CounterView) × (get_elem? s.views k ≡ some w) × Within w u
  old_of k u e = ⊎_elim
      (λ h. (v, ap (get_elem? s.views) h.0 ∙ there, subst (λ x. Within v x) h.1 (record { begins = omega arith; ends = omega (arith, length-set v.counts (i - v.from) n) })))
      (λ h. (u, h.1, within_itself u))
      (at_set s.views id k (with_word v i n) u e)

  stored : (homes : List (Option Unit)) → Kept record { words = set s.words i n; homes = homes; views = set s.views id (with_word v i n) }
  stored homes = record {
    owned = λ k u e. ⊎_elim (λ h. subst (λ x. Owns (set s.words i n) x) h.1 own_set) (λ h. other_set k u h.0 h.1) (at_set s.views id k (with_word v i n) u e);
    apart = λ k l a b ne f g. let old = old_of k a f in let other = old_of l b g in
        apart_within old.0 other.0 a b old.2 other.2 (kept.apart k l old.0 other.0 ne old.1 other.1);
  }

pub stores : (slots id : ℕ) (me : Me Unit CounterView) (i n : ℕ) → me.0.from ≤ i → i < me.0.from + length me.0.counts
    → Allows Kept slots id me i (λ _. n) (λ _ after. after ≡ (with_word me.0 i n, me.1))
stores slots id me i n lo hi s kept homes there fits = (with_word me.0 i n, keeps, tt, stored s id me.0 i n kept there lo hi s.homes, refl)

-- ---- a new seat

module _ (s : State Unit CounterView) (id : ℕ) (v : CounterView) (kept : Kept s) (there : get_elem? s.views id ≡ some v) where
  owns_front : Owns s.words (all_but_four v)
  owns_front = record {
    within = omega (arith, length-take (length v.counts - 4) v.counts, (kept.owned id v there).within);
    same = λ j h. (kept.owned id v there).same j (omega (arith, h, length-take (length v.counts - 4) v.counts)) ∙ sym (get_or-take (length v.counts - 4) v.counts j 0 (omega (arith, h, length-take (length v.counts - 4) v.counts)));
  }

  owns_four : Owns s.words (last_four v)
  owns_four = record {
    within = omega (arith, length-drop (length v.counts - 4) v.counts, (kept.owned id v there).within);
    same = λ j h. let e : v.from + (length v.counts - 4) + j ≡ v.from + (length v.counts - 4 + j) = omega arith in
        ap (λ k. get_or s.words k 0) e ∙ (kept.owned id v there).same (length v.counts - 4 + j) (omega (arith, h, length-drop (length v.counts - 4) v.counts)) ∙ sym (get_or-drop (length v.counts - 4) v.counts j 0);
  }

  front_within : Within v (all_but_four v)
  front_within = record { begins = omega arith; ends = omega (arith, length-take (length v.counts - 4) v.counts) }

  four_within : Within v (last_four v)
  four_within = record { begins = omega arith; ends = omega (arith, length-drop (length v.counts - 4) v.counts) }

  four_behind : AreApart (all_but_four v) (last_four v)
  four_behind = inl (omega (arith, length-take (length v.counts - 4) v.counts))

  -- a view behind the split: one of before, but for the words that were given away, or the new one
  data Comes (k : ℕ) (u : CounterView) : Type 0 where
    Kept_as : (w : CounterView) → get_elem? s.views k ≡ some w → k ≢ id → w ≡ u → Comes k u
    Front : k ≡ id → all_but_four v ≡ u → Comes k u
    New : k ≡ length (set s.views id (all_but_four v)) → last_four v ≡ u → Comes k u

  comes : (k : ℕ) (u : CounterView) → get_elem? (set s.views id (all_but_four v) ++ last_four v ∷ []) k ≡ some u → Comes k u
  comes k u e = ⊎_elim
      (λ h. ⊎_elim (λ g. Front g.0 g.1) (λ g. Kept_as u g.1 g.0 refl) (at_set s.views id k (all_but_four v) u h))
      (λ h. New h.0 h.1)
      (at_end (set s.views id (all_but_four v)) (last_four v) u k e)

  owned_by : (k : ℕ) (u : CounterView) → Comes k u → Owns s.words u
  owned_by k u (Kept_as w at ne e) = subst (λ x. Owns s.words x) e (kept.owned k w at)
  owned_by k u (Front e f) = subst (λ x. Owns s.words x) f owns_front
  owned_by k u (New e f) = subst (λ x. Owns s.words x) f owns_four

  swap_apart : (a b : CounterView) → AreApart a b → AreApart b a
  swap_apart a b h = ⊎_elim (λ e. inr e) (λ e. inl e) h

  beside_old : (k : ℕ) (w u : CounterView) → k ≢ id → get_elem? s.views k ≡ some w → Within v u → AreApart w u
  beside_old k w u nw at within = apart_within w v w u (within_itself w) within (kept.apart k id w v nw at there)

  beside : (k l : ℕ) (a b : CounterView) → k ≢ l → Comes k a → Comes l b → AreApart a b
  beside k l a b ne (Kept_as w at nw e) (Kept_as x bt nx f) = subst (λ y. AreApart y b) e (subst (λ y. AreApart w y) f (kept.apart k l w x ne at bt))
  beside k l a b ne (Kept_as w at nw e) (Front g f) = subst (λ y. AreApart y b) e (subst (λ y. AreApart w y) f (beside_old k w (all_but_four v) nw at front_within))
  beside k l a b ne (Kept_as w at nw e) (New g f) = subst (λ y. AreApart y b) e (subst (λ y. AreApart w y) f (beside_old k w (last_four v) nw at four_within))
  beside k l a b ne (Front g f) (Kept_as x bt nx e) = subst (λ y. AreApart y b) f (subst (λ y. AreApart (all_but_four v) y) e (swap_apart x (all_but_four v) (beside_old l x (all_but_four v) nx bt front_within)))
  beside k l a b ne (Front g f) (Front h e) = absurd (ne (g ∙ sym h))
  beside k l a b ne (Front g f) (New h e) = subst (λ y. AreApart y b) f (subst (λ y. AreApart (all_but_four v) y) e four_behind)
  beside k l a b ne (New g f) (Kept_as x bt nx e) = subst (λ y. AreApart y b) f (subst (λ y. AreApart (last_four v) y) e (swap_apart x (last_four v) (beside_old l x (last_four v) nx bt four_within)))
  beside k l a b ne (New g f) (Front h e) = subst (λ y. AreApart y b) f (subst (λ y. AreApart (last_four v) y) e (swap_apart (all_but_four v) (last_four v) four_behind))
  beside k l a b ne (New g f) (New h e) = absurd (ne (g ∙ sym h))

pub splits : (id : ℕ) (v : CounterView) → Splits Kept id v (all_but_four v) (last_four v)
splits id v s kept there = record {
  owned = λ k u e. owned_by s id v kept there k u (comes s id v kept there k u e);
  apart = λ k l a b ne f g. beside s id v kept there k l a b ne (comes s id v kept there k a f) (comes s id v kept there l b g);
}

-- ---- the table at the start

abbrev first : ℕ → CounterView
first n = record { from = 0; counts = replicate n 0 }

pub opens : (n : ℕ) → Kept (opening (replicate n 0) [] (first n))
opens n = record {
  owned = λ k v e. ⊎_elim (λ h. absurd (some-ne-none v (sym h))) (λ h. subst (λ x. Owns (replicate n 0) x) h.1 all) (at_end [] (first n) v k e);
  apart = λ k l v w ne f g. ⊎_elim (λ h. absurd (some-ne-none v (sym h)))
      (λ h. ⊎_elim (λ j. absurd (some-ne-none w (sym j))) (λ j. absurd (ne (h.0 ∙ sym j.0))) (at_end [] (first n) w l g)) (at_end [] (first n) v k f);
}
  where
    all : Owns (replicate n 0) (first n)
    all = record { within = omega arith; same = λ i h. let e : 0 + i ≡ i = omega arith in ap (λ k. get_or (replicate n 0) k 0) e }

-- ---- the places of counters

pub place_few : (c : Counter) → place c < 4
place_few counter.Accepted = omega arith
place_few counter.Delivered = omega arith
place_few counter.Dead = omega arith
place_few counter.Acknowledged = omega arith

-- ---- seats of the table at the start

pub front_unused : (n : ℕ) → all_but_four (unused (n + 1)) ≡ unused n
front_unused n = λ i. record { from = 0; counts = less i }
  where
    long : length {A = ℕ} (replicate (4 * (n + 1)) 0) ≡ 4 * (n + 1)
    long = length-replicate (4 * (n + 1)) 0

    less : take {A = ℕ} (length {A = ℕ} (replicate (4 * (n + 1)) 0) - 4) (replicate (4 * (n + 1)) 0) ≡ replicate (4 * n) 0
    less = let e : length {A = ℕ} (replicate (4 * (n + 1)) 0) - 4 ≡ 4 * n = omega (arith, long) in
        ap (λ k. take {A = ℕ} k (replicate (4 * (n + 1)) 0)) e ∙ take-replicate (4 * n) (4 * (n + 1)) 0 (omega arith)

pub four_unused : (n : ℕ) → last_four (unused (n + 1)) ≡ record { from = 4 * n; counts = replicate 4 0 }
four_unused n = λ i. record { from = begins i; counts = four i }
  where
    long : length {A = ℕ} (replicate (4 * (n + 1)) 0) ≡ 4 * (n + 1)
    long = length-replicate (4 * (n + 1)) 0

    begins : 0 + (length {A = ℕ} (replicate (4 * (n + 1)) 0) - 4) ≡ 4 * n
    begins = omega (arith, long)

    four : drop {A = ℕ} (length {A = ℕ} (replicate (4 * (n + 1)) 0) - 4) (replicate (4 * (n + 1)) 0) ≡ replicate 4 0
    four = let e : length {A = ℕ} (replicate (4 * (n + 1)) 0) - 4 ≡ 4 * n = omega (arith, long) in let f : 4 * (n + 1) - 4 * n ≡ 4 = omega arith in
        ap (λ k. drop {A = ℕ} k (replicate (4 * (n + 1)) 0)) e ∙ drop-replicate (4 * n) (4 * (n + 1)) 0 ∙ ap (λ k. replicate {A = ℕ} k 0) f
