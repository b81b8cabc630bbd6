-- Boxes of kits that go back, one after another.
use Rattle.std.proofs.lemmas.List.{length-map, map-append, take_all}
use Rattle.std.proofs.lemmas.Option.{slice_get_past}
use Rattle.std.proofs.Common.{◌≡◌, ◌<◌, ◌≤◌, ℕ, zero, suc, List, [], ◌∷◌, ◌++◌, length, take, drop, get_or, refl, sym, ap, ap₂, subst, ◌∙◌, arith, append_assoc, append-nil, Option, slice_get, slice_set}
use Rattle.foreign_parts.specs.Stocks.{Stock, given_back, out_of}
use Rattle.plugin_graph.specs.Graphs.{boxes_in, contents_of}
use Rattle.plugin_graph.specs.declared.kit.Kit.{Kit}
use Rattle.graph_checks.specs.Drawings.{MayGoBack, Numbered, all_back}
use Rattle.graph_checks.specs.Drawns.{boxes_of}
use Rattle.graph_checks.specs.Plans.{column, columns, held, rows}
use Rattle.graph_checks.specs.declared.drawn.Drawn.{Drawn}
use Rattle.graph_checks.proofs.Tails.{changed, drop_end, dropped, taken}

-- of two lists the second goes back first
pub back_split : (xs bs : Numbered) (ss : List Stock) → all_back (xs ++ bs) ss ≡ all_back xs (all_back bs ss)
back_split [] bs ss = refl
back_split (a ∷ xs) bs ss = ap (given_back a.0 a.1) (back_split xs bs ss)

pub may_split : (Out : List Stock → ℕ → Type 0) (xs bs : Numbered) (ss : List Stock) → MayGoBack Out (xs ++ bs) ss → MayGoBack Out xs (all_back bs ss) × MayGoBack Out bs ss
may_split Out [] bs ss may = (tt, may)
may_split Out (a ∷ xs) bs ss (others, some, out) =
    let same = back_split xs bs ss in
    let (front, behind) = may_split Out xs bs ss others in
    ((front, subst (λ ys. 0 < out_of a.0 ys) same some, subst (λ ys. Out ys a.1) same out), behind)

-- a filter past the last has no box
pub none_past : {X : Type 0} (kit : Kit X) (at : ℕ) → length (contents_of kit).filters ≤ at → held (slice_get (boxes_in kit) at) ≡ []
none_past kit at past =
    let fs = kit.parts.filters in
    ap held (slice_get_past (boxes_in kit) at (subst (λ n. n ≤ at) (length-map fs (λ f. f.filter) ∙ sym (length-map fs (λ f. f.plugged))) past))

column_behind : {X : Type 0} (at : ℕ) (kits : List (Kit X)) (kit : Kit X) → column at (rows (kits ++ kit ∷ [])) ≡ column at (rows kits) ++ held (slice_get (boxes_in kit) at)
column_behind at [] kit = append-nil (held (slice_get (boxes_in kit) at))
column_behind at (k ∷ kits) kit =
    ap (λ bs. held (slice_get (boxes_in k) at) ++ bs) (column_behind at kits kit) ∙ sym (append_assoc (held (slice_get (boxes_in k) at)) (column at (rows kits)) (held (slice_get (boxes_in kit) at)))

pub columns_same : {X : Type 0} (n : ℕ) (rs new : List (List (Option X))) → ((k : ℕ) → k < n → column k new ≡ column k rs) → columns n new ≡ columns n rs
columns_same zero rs new same = refl
columns_same (suc n) rs new same = ap₂ (λ a b. a ++ b) (columns_same n rs new (λ k less. same k (omega (arith, less)))) (same n (omega arith))

module _ {P : Type 0} (number : P → ℕ) (Out : List Stock → ℕ → Type 0) (at : ℕ) (old : List (Kit (Drawn P))) (first : List Stock) where
  abbrev boxes_at : List (Kit (Drawn P)) → Numbered
  boxes_at kits = boxes_of number (column at (rows kits))

  -- the boxes of the kits from this one on went back
  pub record WentBack (next : ℕ) (now : List (Kit (Drawn P))) (ss : List Stock) : Type 0 where
    pub tail : List (Kit (Drawn P))
    pub is : now ≡ take next old ++ tail
    pub within : next ≤ length old
    pub before : (k : ℕ) → k < at → column k (rows tail) ≡ column k (rows (drop next old))
    pub may : MayGoBack Out (boxes_of number (column at (rows (take next old)))) ss
    pub back : all_back (boxes_of number (column at (rows (take next old)))) ss ≡ all_back (boxes_of number (column at (rows old))) first

  pub none_back : MayGoBack Out (boxes_of number (column at (rows old))) first → WentBack (length old) old first
  none_back may =
      let all : take (length old) old ≡ old = take_all (length old) old (omega arith) in
      record {
        tail = [];
        is = sym (append-nil (take (length old) old) ∙ all);
        within = omega arith;
        before = λ k less. ap (λ ks. column k (rows ks)) (sym (drop_end old));
        may = subst (λ ks. MayGoBack Out (boxes_at ks) first) (sym all) may;
        back = ap (λ ks. all_back (boxes_at ks) first) all;
      }

  module _ (n : ℕ) (now : List (Kit (Drawn P))) (ss : List Stock) (w : WentBack (suc n) now ss) (x : Kit (Drawn P)) (found : x ≡ get_or now n x) where
    abbrev ones : Numbered
    ones = boxes_of number (held (slice_get (boxes_in x) at))

    both : boxes_at (take (suc n) old) ≡ boxes_at (take n old) ++ ones
    both =
        ap boxes_at (taken old now w.tail n w.is w.within x found) ∙ ap (boxes_of number) (column_behind at (take n old) x)
        ∙ map-append (λ d. (d.want.name, number d.plugged)) (column at (rows (take n old))) (held (slice_get (boxes_in x) at))

    parts : MayGoBack Out (boxes_at (take n old)) (all_back ones ss) × MayGoBack Out ones ss
    parts = may_split Out (boxes_at (take n old)) ones ss (subst (λ bs. MayGoBack Out bs ss) both w.may)

    pub one_may : MayGoBack Out (boxes_of number (held (slice_get (boxes_in x) at))) ss
    one_may = parts.1

    module _ (y : Kit (Drawn P)) (new : List Stock) (gave : new ≡ all_back (boxes_of number (held (slice_get (boxes_in x) at))) ss) (others : (k : ℕ) → k < at → slice_get (boxes_in y) k ≡ slice_get (boxes_in x) k) where
      pub one_back : WentBack n (slice_set now n y) new
      one_back =
          let h = w.within in
          record {
            tail = y ∷ w.tail;
            is = changed old now w.tail n w.is w.within x found y;
            within = omega (arith, h);
            before = λ k less. ap₂ (λ b bs. held b ++ bs) (others k less) (w.before k less) ∙ ap (λ ks. column k (rows ks)) (sym (dropped old now w.tail n w.is w.within x found));
            may = subst (MayGoBack Out (boxes_at (take n old))) (sym gave) parts.0;
            back = ap (all_back (boxes_at (take n old))) gave ∙ sym (back_split (boxes_at (take n old)) ones ss) ∙ ap (λ bs. all_back bs ss) (sym both) ∙ w.back;
          }

  module _ (now : List (Kit (Drawn P))) (ss : List Stock) (w : WentBack 0 now ss) where
    pub all_went : ss ≡ all_back (boxes_of number (column at (rows old))) first
    all_went = w.back

    pub all_before : (k : ℕ) → k < at → column k (rows now) ≡ column k (rows old)
    all_before k less = ap (λ ks. column k (rows ks)) w.is ∙ w.before k less

-- the boxes of the last of so many filters went back
module _ {P : Type 0} (number : P → ℕ) (Out : List Stock → ℕ → Type 0) (a : ℕ) (kits : List (Kit (Drawn P))) (ss : List Stock) (may : MayGoBack Out (boxes_of number (columns (suc a) (rows kits))) ss) where
  split : boxes_of number (columns (suc a) (rows kits)) ≡ boxes_of number (columns a (rows kits)) ++ boxes_of number (column a (rows kits))
  split = map-append (λ d. (d.want.name, number d.plugged)) (columns a (rows kits)) (column a (rows kits))

  halves : MayGoBack Out (boxes_of number (columns a (rows kits))) (all_back (boxes_of number (column a (rows kits))) ss) × MayGoBack Out (boxes_of number (column a (rows kits))) ss
  halves = may_split Out (boxes_of number (columns a (rows kits))) (boxes_of number (column a (rows kits))) ss (subst (λ bs. MayGoBack Out bs ss) split may)

  pub column_may : MayGoBack Out (boxes_of number (column a (rows kits))) ss
  column_may = halves.1

  module _ (new : List (Kit (Drawn P))) (left : List Stock) (gave : left ≡ all_back (boxes_of number (column a (rows kits))) ss) (before : (k : ℕ) → k < a → column k (rows new) ≡ column k (rows kits)) where
    same : columns a (rows new) ≡ columns a (rows kits)
    same = columns_same a (rows kits) (rows new) before

    pub columns_may : MayGoBack Out (boxes_of number (columns a (rows new))) left
    columns_may = subst (λ ds. MayGoBack Out (boxes_of number ds) left) (sym same) (subst (MayGoBack Out (boxes_of number (columns a (rows kits)))) (sym gave) halves.0)

    pub columns_back : (end : List Stock) → all_back (boxes_of number (columns (suc a) (rows kits))) ss ≡ end → all_back (boxes_of number (columns a (rows new))) left ≡ end
    columns_back end so_far =
        ap₂ (λ ds xs. all_back (boxes_of number ds) xs) same gave ∙ sym (back_split (boxes_of number (columns a (rows kits))) (boxes_of number (column a (rows kits))) ss)
        ∙ ap (λ bs. all_back bs ss) (sym split) ∙ so_far
