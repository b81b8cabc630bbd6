-- Kits that are given boxes, one after another.
use Rattle.std.specs.Prelude.{if◌then◌else◌, nat_lt}
use Rattle.std.proofs.lemmas.Bool.{false≢true, ltb-true, ltb-false}
use Rattle.std.proofs.lemmas.List.{length-append, length-map, take_all, map-append}
use Rattle.std.proofs.lemmas.Option.{slice_get-map, slice_get_past}
use Rattle.std.proofs.Math.ListN.{get_or-map}
use Rattle.std.proofs.Common.{◌≡◌, ◌<◌, ◌≤◌, ℕ, zero, suc, ◌+◌, ◌-◌, List, [], ◌∷◌, ◌++◌, length, map, take, drop, get_or, refl, sym, ap, ap₂, subst, ◌∙◌, arith, append_assoc, append-nil, All, Bool, true, false, Option, Some, None, IsSome, option_map, option_to_list, slice_get, slice_set}
use Rattle.event_tree.specs.Paths.{over}
use Rattle.event_text.proofs.ItemPlaces.{get_set}
use Rattle.plugin_graph.specs.Graphs.{boxes_in, built_in, contents_of}
use Rattle.plugin_graph.specs.Kits.{no_boxes}
use Rattle.built_plugins.specs.Makes.{is_boxed}
use Rattle.plugin_graph.specs.Loads.{Contents}
use Rattle.built_plugins.specs.declared.filter.Filter.{Filter}
use Rattle.built_plugins.specs.declared.filter.Filter.TheVariants as f
use Rattle.plugin_graph.specs.declared.kit.Kit.{Kit}
use Rattle.graph_checks.specs.Filling.{StandsFrom, one_if, wanted, wanted_at}
use Rattle.graph_checks.proofs.Tails.{changed, drop_end, dropped, is_old, taken}
use Rattle.graph_checks.specs.Plans.{HasItsBoxes, HasNoBox, IsIts, boxes_of_kits, column, columns, held, most, rows, width}

pub get_other : {X : Type 0} (xs : List X) (i j : ℕ) (y : X) → (i ≡ j → ⊥) → slice_get (slice_set xs i y) j ≡ slice_get xs j
get_other [] i j y apart = refl
get_other (x ∷ xs) zero zero y apart = absurd (apart refl)
get_other (x ∷ xs) zero (suc j) y apart = refl
get_other (x ∷ xs) (suc i) zero y apart = refl
get_other (x ∷ xs) (suc i) (suc j) y apart = get_other xs i j y (λ e. apart (ap suc e))

-- a place where no box stands holds none
none_held : {X : Type 0} (fs : List Filter) (k : ℕ) → held {X = X} (slice_get (no_boxes fs) k) ≡ []
none_held [] k = refl
none_held (x ∷ xs) zero = refl
none_held (x ∷ xs) (suc k) = none_held xs k

plain : {X : Type 0} (fs : List Filter) (k : ℕ) (box : Option (Option X)) → over is_boxed false (slice_get fs k) ≡ false → box ≡ slice_get (no_boxes fs) k → IsIts (slice_get fs k) box
plain [] k box is none = none
plain (f.Built b ∷ xs) zero box is none = none
plain (f.Boxed b ∷ xs) zero box is none = absurd (false≢true (sym is))
plain (x ∷ xs) (suc k) box is none = plain xs k box is none

-- a boxed filter has no box at first, and then this one
boxed_none : {X : Type 0} (fs : List Filter) (k : ℕ) → over is_boxed false (slice_get fs k) ≡ true → slice_get (no_boxes {X = X} fs) k ≡ Some None
boxed_none [] k is = absurd (false≢true is)
boxed_none (x ∷ xs) zero is = refl
boxed_none (x ∷ xs) (suc k) is = boxed_none xs k is

boxed_its : {X : Type 0} (fs : List Filter) (k : ℕ) (x : X) (box : Option (Option X)) → over is_boxed false (slice_get fs k) ≡ true → box ≡ Some (Some x) → IsIts (slice_get fs k) box
boxed_its [] k x box is there = absurd (false≢true is)
boxed_its (f.Built b ∷ xs) zero x box is there = absurd (false≢true is)
boxed_its (f.Boxed b ∷ xs) zero x box is there = (x, there)
boxed_its (y ∷ xs) (suc k) x box is there = boxed_its xs k x box is there

held_count : {X : Type 0} (o : Option Filter) (box : Option (Option X)) → IsIts o box → length (held box) ≡ one_if (over is_boxed false o)
held_count None box is = ap (λ b. length (held b)) is
held_count (Some (f.Built b)) box is = ap (λ b. length (held b)) is
held_count (Some (f.Boxed b)) box (x, is) = ap (λ b. length (held b)) is

module _ {X : Type 0} (at : ℕ) where
  module _ (kit : Kit X) (s : StandsFrom (at + 1) kit) where
    past : (k : ℕ) → (IsIts (slice_get (contents_of kit).filters at) (slice_get (boxes_in kit) at)) → at ≤ k → IsIts (slice_get (contents_of kit).filters k) (slice_get (boxes_in kit) k)
    past k here from = by (nat_lt at k) refl
      where
        by : (b : Bool) → nat_lt at k ≡ b → IsIts (slice_get (contents_of kit).filters k) (slice_get (boxes_in kit) k)
        by true is = let less = ltb-true at k is in s.behind k (omega (arith, less))
        by false is =
            let same : at ≡ k = omega (arith, from, ltb-false at k is) in
            subst (λ j. IsIts (slice_get (contents_of kit).filters j) (slice_get (boxes_in kit) j)) same here

    -- the filter is no boxed one
    pub stands_plain : over is_boxed false (slice_get (contents_of kit).filters at) ≡ false → StandsFrom at kit
    stands_plain is = record {
      behind = λ k from. past k (plain (contents_of kit).filters at (slice_get (boxes_in kit) at) is (s.before at (omega arith))) from;
      before = λ k less. s.before k (omega (arith, less));
    }

    pub boxes_plain : (left : List X) → left ++ held (slice_get (boxes_in kit) at) ≡ left
    boxes_plain left = ap (λ h. left ++ h) (ap held (s.before at (omega arith)) ∙ none_held (contents_of kit).filters at) ∙ append-nil left

    -- the filter is a boxed one, and has a box now
    module _ (new : Kit X) (is : over is_boxed false (slice_get (contents_of kit).filters at) ≡ true) (x : X) (put : boxes_in new ≡ slice_set (boxes_in kit) at (Some x)) (same : contents_of new ≡ contents_of kit) where
      here_now : slice_get (boxes_in new) at ≡ Some (Some x)
      here_now = ap (λ r. slice_get r at) put ∙ get_set (boxes_in kit) at None (Some x) (s.before at (omega arith) ∙ boxed_none (contents_of kit).filters at is)

      pub others_now : (k : ℕ) → (at ≡ k → ⊥) → slice_get (boxes_in new) k ≡ slice_get (boxes_in kit) k
      others_now k apart = ap (λ r. slice_get r k) put ∙ get_other (boxes_in kit) at k (Some x) apart

      filters_now : (contents_of new).filters ≡ (contents_of kit).filters
      filters_now = ap (λ c. c.filters) same

      pub stands_boxed : StandsFrom at new
      stands_boxed = record {
        behind = λ k from. by k from (nat_lt at k) refl;
        before = λ k less. others_now k (λ e. omega (arith, less, e)) ∙ s.before k (omega (arith, less)) ∙ ap (λ fs. slice_get (no_boxes fs) k) (sym filters_now);
      }
        where
          by : (k : ℕ) → at ≤ k → (b : Bool) → nat_lt at k ≡ b → IsIts (slice_get (contents_of new).filters k) (slice_get (boxes_in new) k)
          by k from true less =
              let past = ltb-true at k less in
              subst (λ fs. IsIts (slice_get fs k) (slice_get (boxes_in new) k)) (sym filters_now)
              (subst (IsIts (slice_get (contents_of kit).filters k)) (sym (others_now k (λ e. omega (arith, past, e)))) (s.behind k (omega (arith, past))))
          by k from false more =
              let e : at ≡ k = omega (arith, from, ltb-false at k more) in
              subst (λ fs. IsIts (slice_get fs k) (slice_get (boxes_in new) k)) (sym filters_now)
              (subst (λ j. IsIts (slice_get (contents_of kit).filters j) (slice_get (boxes_in new) j)) e (boxed_its (contents_of kit).filters at x (slice_get (boxes_in new) at) is here_now))

      pub boxes_boxed : (left old : List X) → old ≡ left ++ x ∷ [] → left ++ held (slice_get (boxes_in new) at) ≡ old
      boxes_boxed left old popped = ap (λ b. left ++ held b) here_now ∙ sym popped

-- the last of some boxes
pub popped : {X : Type 0} (left old : List X) (r : Option X) → old ≡ left ++ option_to_list r → IsSome r → (x : X) × (r ≡ Some x) × (old ≡ left ++ x ∷ [])
popped left old (Some x) is some = (x, refl, is)
popped left old None is some = absurd (false≢true some)

all_cons : {A : Type 0} (P : A → Type 0) (x : A) (xs : List A) → P x → All P xs → All P (x ∷ xs)
all_cons P x xs first others zero d less = first
all_cons P x xs first others (suc k) d less = others k d (omega (arith, less))

wanted_behind : (k : ℕ) (cs : List Contents) (c : Contents) → wanted_at k (cs ++ c ∷ []) ≡ wanted_at k cs + one_if (over is_boxed false (slice_get c.filters k))
wanted_behind k [] c = omega arith
wanted_behind k (d ∷ cs) c = omega (arith, wanted_behind k cs c)

-- as many boxes stand there as are wanted
column_count : {X : Type 0} (at : ℕ) (kits : List (Kit X)) → All (StandsFrom at) kits → length (column at (rows kits)) ≡ wanted_at at (map contents_of kits)
column_count at [] all = refl
column_count at (kit ∷ kits) all =
    let s = all 0 kit (omega arith) in
    length-append (held (slice_get (boxes_in kit) at)) (column at (rows kits))
    ∙ ap₂ (λ a b. a + b) (held_count (slice_get (contents_of kit).filters at) (slice_get (boxes_in kit) at) (s.behind at (omega arith))) (column_count at kits (λ k d less. all (suc k) d (omega (arith, less))))

module _ {X : Type 0} (at : ℕ) (old : List (Kit X)) (boxes : List X) where
  -- boxes were handed out to the kits from this one on
  pub record SoFar (next : ℕ) (now : List (Kit X)) (left : List X) : Type 0 where
    pub tail : List (Kit X)
    pub is : now ≡ take next old ++ tail
    pub within : next ≤ length old
    pub stand : All (StandsFrom at) tail
    pub boxes_are : left ++ column at (rows tail) ≡ boxes
    pub behind : (k : ℕ) → at < k → column k (rows tail) ≡ column k (rows (drop next old))
    pub contents : map contents_of tail ≡ map contents_of (drop next old)
    pub built : map built_in tail ≡ map built_in (drop next old)
    pub enough : wanted_at at (map contents_of (take next old)) ≤ length left

  pub so_far : wanted_at at (map contents_of old) ≤ length boxes → SoFar (length old) old boxes
  so_far enough = record {
    tail = [];
    is = sym (append-nil (take (length old) old) ∙ take_all (length old) old (omega arith));
    within = omega arith;
    stand = λ k d less. absurd (omega (arith, less));
    boxes_are = append-nil boxes;
    behind = λ k less. ap (λ ks. column k (rows ks)) (sym (drop_end old));
    contents = ap (map contents_of) (sym (drop_end old));
    built = ap (map built_in) (sym (drop_end old));
    enough = subst (λ ks. wanted_at at (map contents_of ks) ≤ length boxes) (sym (take_all (length old) old (omega arith))) enough;
  }

  module _ (n : ℕ) (now : List (Kit X)) (left : List X) (s : SoFar (suc n) now left) (x : Kit X) (found : x ≡ get_or now n x) where
    pub x_stands : All (StandsFrom (at + 1)) old → StandsFrom (at + 1) x
    x_stands all = subst (StandsFrom (at + 1)) (sym (is_old old now s.tail n s.is s.within x found)) (all n x s.within)

    abbrev wanted_of : ℕ
    wanted_of = one_if (over is_boxed false (slice_get (contents_of x).filters at))

    both : wanted_at at (map contents_of (take n old)) + wanted_of ≤ length left
    both =
        let e : wanted_at at (map contents_of (take (suc n) old)) ≡ wanted_at at (map contents_of (take n old)) + wanted_of =
        ap (λ ks. wanted_at at (map contents_of ks)) (taken old now s.tail n s.is s.within x found) ∙ ap (wanted_at at) (map-append contents_of (take n old) (x ∷ [])) ∙ wanted_behind at (map contents_of (take n old)) (contents_of x) in
        subst (λ m. m ≤ length left) e s.enough

    pub x_enough : wanted_of ≤ length left
    x_enough = omega (arith, both)

    module _ (y : Kit X) (rest : List X) (stands : StandsFrom at y) (gave : rest ++ held (slice_get (boxes_in y) at) ≡ left) (others : (k : ℕ) → at < k → slice_get (boxes_in y) k ≡ slice_get (boxes_in x) k)
        (same : contents_of y ≡ contents_of x) (read : built_in y ≡ built_in x) where
      pub so_far_next : SoFar n (slice_set now n y) rest
      so_far_next =
          let w = s.within in
          let next = dropped old now s.tail n s.is s.within x found in
          let count : length (held (slice_get (boxes_in y) at)) ≡ wanted_of = held_count (slice_get (contents_of y).filters at) (slice_get (boxes_in y) at) (stands.behind at (omega arith)) ∙ ap (λ c. one_if (over is_boxed false (slice_get c.filters at))) same in
          let sum = sym (length-append rest (held (slice_get (boxes_in y) at))) ∙ ap length gave in
          record {
            tail = y ∷ s.tail;
            is = changed old now s.tail n s.is s.within x found y;
            within = omega (arith, w);
            stand = all_cons (StandsFrom at) y s.tail stands s.stand;
            boxes_are = sym (append_assoc rest (held (slice_get (boxes_in y) at)) (column at (rows s.tail))) ∙ ap (λ bs. bs ++ column at (rows s.tail)) gave ∙ s.boxes_are;
            behind = λ k less. ap₂ (λ b bs. held b ++ bs) (others k less) (s.behind k less) ∙ ap (λ ks. column k (rows ks)) (sym next);
            contents = ap₂ (λ c cs. c ∷ cs) same s.contents ∙ ap (map contents_of) (sym next);
            built = ap₂ (λ b bs. b ∷ bs) read s.built ∙ ap (map built_in) (sym next);
            enough = omega (arith, both, count, sum);
          }

  module _ (now : List (Kit X)) (left : List X) (s : SoFar 0 now left) where
    pub all_stand : All (StandsFrom at) now
    all_stand = subst (All (StandsFrom at)) (sym s.is) s.stand

    pub all_boxes : left ++ column at (rows now) ≡ boxes
    all_boxes = ap (λ ks. left ++ column at (rows ks)) s.is ∙ s.boxes_are

    pub all_behind : (k : ℕ) → at < k → column k (rows now) ≡ column k (rows old)
    all_behind k less = ap (λ ks. column k (rows ks)) s.is ∙ s.behind k less

    pub all_contents : map contents_of now ≡ map contents_of old
    all_contents = ap (map contents_of) s.is ∙ s.contents

    pub all_built : map built_in now ≡ map built_in old
    all_built = ap (map built_in) s.is ∙ s.built

-- the boxes of so many filters, from one on
abbrev pub behind : {X : Type 0} → ℕ → ℕ → List (List (Option X)) → List X
behind at zero rs = []
behind at (suc n) rs = column at rs ++ behind (suc at) n rs

pub joined : {X : Type 0} (n at : ℕ) (rs : List (List (Option X))) → columns (at + n) rs ≡ columns at rs ++ behind at n rs
joined zero at rs =
    let e : at + 0 ≡ at = omega arith in
    ap (λ k. columns k rs) e ∙ sym (append-nil (columns at rs))
joined (suc n) at rs =
    let e : at + suc n ≡ suc at + n = omega arith in
    ap (λ k. columns k rs) e ∙ joined n (suc at) rs ∙ append_assoc (columns at rs) (column at rs) (behind (suc at) n rs)

behind_same : {X : Type 0} (n at : ℕ) (rs new : List (List (Option X))) → ((k : ℕ) → at ≤ k → column k new ≡ column k rs) → behind at n new ≡ behind at n rs
behind_same zero at rs new same = refl
behind_same (suc n) at rs new same = ap₂ (λ a b. a ++ b) (same at (omega arith)) (behind_same n (suc at) rs new (λ k from. same k (omega (arith, from))))

-- no kit has more filters than the one with the most
least_case : (b : Bool) (m l : ℕ) (cs : List Contents) → nat_lt m l ≡ b → l ≤ most l cs → m ≤ most m cs → m ≤ most (if b then l else m) cs
least_case true m l cs is here there = let less = ltb-true m l is in omega (arith, less, here)
least_case false m l cs is here there = there

most_least : (m : ℕ) (cs : List Contents) → m ≤ most m cs
most_least m [] = omega arith
most_least m (c ∷ cs) = least_case (nat_lt m (length c.filters)) m (length c.filters) cs refl (most_least (length c.filters) cs) (most_least m cs)

fits_case : (b : Bool) (m l : ℕ) (cs : List Contents) → nat_lt m l ≡ b → l ≤ most (if b then l else m) cs
fits_case true m l cs is = most_least l cs
fits_case false m l cs is = let more = ltb-false m l is in omega (arith, more, most_least m cs)

fits : (m : ℕ) (cs : List Contents) (k : ℕ) (d : Contents) → k < length cs → length (get_or cs k d).filters ≤ most m cs
fits m [] k d less = absurd (omega (arith, less))
fits m (c ∷ cs) zero d less = fits_case (nat_lt m (length c.filters)) m (length c.filters) cs refl
fits m (c ∷ cs) (suc k) d less = fits (if nat_lt m (length c.filters) then length c.filters else m) cs k d (omega (arith, less))

module _ {X : Type 0} (n : ℕ) (old : List (Kit X)) (boxes : List X) where
  -- boxes were handed out for the filters from this one on
  pub record HandedOut (at : ℕ) (now : List (Kit X)) (left : List X) : Type 0 where
    pub within : at ≤ n
    pub stand : All (StandsFrom at) now
    pub contents : map contents_of now ≡ map contents_of old
    pub built : map built_in now ≡ map built_in old
    pub boxes_are : left ++ behind at (n - at) (rows now) ≡ boxes
    pub enough : wanted at (map contents_of old) ≡ length left

  pub handed_none : width (map contents_of old) ≡ n → All HasNoBox old → wanted n (map contents_of old) ≡ length boxes → HandedOut n old boxes
  handed_none wide none enough = record {
    within = omega arith;
    stand = λ k d less. stands (get_or old k d) (none k d less) (narrow k d less);
    contents = refl;
    built = refl;
    boxes_are = ap (λ m. boxes ++ behind n m (rows old)) nothing ∙ append-nil boxes;
    enough = enough;
  }
    where
      nothing : n - n ≡ 0
      nothing = omega arith

      narrow : (k : ℕ) (d : Kit X) → k < length old → length (contents_of (get_or old k d)).filters ≤ n
      narrow k d less =
          subst (λ m. length (contents_of (get_or old k d)).filters ≤ m) wide
          (subst (λ c. length c.filters ≤ width (map contents_of old)) (get_or-map contents_of old k d) (fits 0 (map contents_of old) k (contents_of d) (subst (λ m. k < m) (sym (length-map old contents_of)) less)))

      stands : (kit : Kit X) → HasNoBox kit → length (contents_of kit).filters ≤ n → StandsFrom n kit
      stands kit is most_n = record {
        behind = λ k from. past k (slice_get_past (contents_of kit).filters k (omega (arith, most_n, from))) (ap (λ r. slice_get r k) is);
        before = λ k less. ap (λ r. slice_get r k) is;
      }
        where
          past : (k : ℕ) → slice_get (contents_of kit).filters k ≡ None → slice_get (boxes_in kit) k ≡ slice_get (no_boxes (contents_of kit).filters) k → IsIts (slice_get (contents_of kit).filters k) (slice_get (boxes_in kit) k)
          past k none_there row =
              subst (λ o. IsIts o (slice_get (boxes_in kit) k)) (sym none_there)
              (row ∙ slice_get-map (λ x. None) (contents_of kit).filters k ∙ ap (option_map (λ x. None)) none_there)

  module _ (a : ℕ) (now new : List (Kit X)) (left rest : List X) (h : HandedOut (suc a) now left) where
    pub still_enough : wanted_at a (map contents_of now) ≤ length left
    still_enough =
        let e = h.enough in
        let same = ap (wanted_at a) h.contents in
        omega (arith, e, same)

    pub handed_next : All (StandsFrom a) new → rest ++ column a (rows new) ≡ left → ((k : ℕ) → a < k → column k (rows new) ≡ column k (rows now)) → map contents_of new ≡ map contents_of now → map built_in new ≡ map built_in now → HandedOut a new rest
    handed_next stand gave same contents built =
        let w = h.within in
        let less : n - a ≡ suc (n - suc a) = omega (arith, w) in
        let later = behind_same (n - suc a) (suc a) (rows now) (rows new) (λ k from. same k (omega (arith, from))) in
        let count = column_count a new stand ∙ ap (wanted_at a) (contents ∙ h.contents) in
        let sum = sym (length-append rest (column a (rows new))) ∙ ap length gave in
        let e = h.enough in
        record {
          within = omega (arith, w);
          stand = stand;
          contents = contents ∙ h.contents;
          built = built ∙ h.built;
          boxes_are = ap (λ m. rest ++ behind a m (rows new)) less ∙ sym (append_assoc rest (column a (rows new)) (behind (suc a) (n - suc a) (rows new))) ∙ ap₂ (λ xs ys. xs ++ ys) gave later ∙ h.boxes_are;
          enough = omega (arith, e, count, sum);
        }

  module _ (now : List (Kit X)) (left : List X) (h : HandedOut 0 now left) where
    pub all_filled : All HasItsBoxes now
    all_filled k d less j = (h.stand k d less).behind j (omega arith)

    nothing_left : (xs : List X) → 0 ≡ length xs → xs ≡ []
    nothing_left [] e = refl
    nothing_left (x ∷ xs) e = absurd (omega (arith, e))

    pub all_handed : width (map contents_of old) ≡ n → boxes_of_kits now ≡ boxes
    all_handed wide =
        ap (λ cs. columns (width cs) (rows now)) h.contents ∙ ap (λ m. columns m (rows now)) (wide ∙ all_in) ∙ joined n 0 (rows now)
        ∙ ap (λ xs. xs ++ behind 0 n (rows now)) (sym (nothing_left left h.enough)) ∙ ap (λ m. left ++ behind 0 m (rows now)) all_of ∙ h.boxes_are
      where
        all_of : n ≡ n - 0
        all_of = omega arith

        all_in : n ≡ 0 + n
        all_in = omega arith
