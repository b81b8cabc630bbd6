-- One box more that is drawn, or goes back.
use Rattle.std.proofs.lemmas.List.{map-append}
use Rattle.std.proofs.Common.{◌≡◌, ◌<◌, ℕ, List, [], ◌∷◌, ◌++◌, map, sym, ap, subst, ◌∙◌, append_assoc}
use Rattle.foreign_parts.specs.Stocks.{Stock, IsLast, IsOut, drawn, given_back, left_of, out_of}
use Rattle.graph_checks.specs.Drawings.{AllDrawn, AreDrawn, MayGoBack, Numbered, all_back}
use Rattle.graph_checks.specs.Drawns.{boxes_of}
use Rattle.graph_checks.specs.Wants.{AreLeft, names_of}
use Rattle.graph_checks.specs.declared.drawn.Drawn.{Drawn}
use Rattle.graph_checks.specs.declared.want.Want.{Want}
use Rattle.graph_checks.proofs.Restoring.{drawn_more, last_back, last_may, left_behind}

-- a number that is out, in a rack that holds the same
pub filter_out : {given now n : ℕ} {ss os others : List Stock} → given ≡ now → os ≡ others → IsOut given ss os n → IsOut now ss others n
filter_out {given} {now} {n} {ss} {os} {others} first second out = subst (λ m. IsOut m ss others n) first (subst (λ xs. IsOut given ss xs n) second out)

pub output_out : {given now n : ℕ} {ss fs others : List Stock} → given ≡ now → fs ≡ others → IsOut given fs ss n → IsOut now others ss n
output_out {given} {now} {n} {ss} {fs} {others} first second out = subst (λ m. IsOut m others ss n) first (subst (λ xs. IsOut given xs ss n) second out)

module _ {P : Type 0} (ds new_ds : List (Drawn P)) (d : Drawn P) (is : new_ds ≡ ds ++ d ∷ []) where
  boxes : (number : P → ℕ) → boxes_of number new_ds ≡ boxes_of number ds ++ (d.want.name, number d.plugged) ∷ []
  boxes number = ap (boxes_of number) is ∙ map-append (λ x. (x.want.name, number x.plugged)) ds (d ∷ [])

  pub wants_more : (left rest all : List Want) → left ≡ d.want ∷ rest → map (λ x. x.want) ds ++ left ≡ all → map (λ x. x.want) new_ds ++ rest ≡ all
  wants_more left rest all next so_far =
      ap (λ xs. map (λ x. x.want) xs ++ rest) is ∙ ap (λ ws. ws ++ rest) (map-append (λ x. x.want) ds (d ∷ []))
      ∙ append_assoc (map (λ x. x.want) ds) (d.want ∷ []) rest ∙ ap (λ ws. map (λ x. x.want) ds ++ ws) (sym next) ∙ so_far

  module _ (number : P → ℕ) (Out : List Stock → ℕ → Type 0) (name : List ℕ) (named : name ≡ d.want.name) where
    pub draws : (old mid new : List Stock) → AreDrawn Out (boxes_of number ds) old mid → IsLast (number d.plugged) (left_of name mid) → Out new (number d.plugged) → new ≡ drawn name mid → AreDrawn Out (boxes_of number new_ds) old new
    draws old mid new so_far last out next =
        subst (λ bs. AreDrawn Out bs old new) (sym (boxes number))
        (drawn_more Out (boxes_of number ds) d.want.name (number d.plugged) old mid new so_far (subst (λ k. IsLast (number d.plugged) (left_of k mid)) named last) out (next ∙ ap (λ k. drawn k mid) named))

    -- the last of these boxes may go back
    module _ (ss : List Stock) (may : MayGoBack Out (boxes_of number new_ds) ss) where
      may_last : MayGoBack Out (boxes_of number ds) (given_back d.want.name (number d.plugged) ss) × (0 < out_of d.want.name ss) × Out ss (number d.plugged)
      may_last = last_may Out (boxes_of number ds) d.want.name (number d.plugged) ss (subst (λ bs. MayGoBack Out bs ss) (boxes number) may)

      pub is_out : 0 < out_of name ss
      is_out = subst (λ k. 0 < out_of k ss) (sym named) may_last.1

      pub is_own : Out ss (number d.plugged)
      is_own = may_last.2

      pub others_may : (new : List Stock) → new ≡ given_back name (number d.plugged) ss → MayGoBack Out (boxes_of number ds) new
      others_may new gave = subst (λ xs. MayGoBack Out (boxes_of number ds) xs) (sym (gave ∙ ap (λ k. given_back k (number d.plugged) ss) named)) may_last.0

      pub others_back : (new end : List Stock) → new ≡ given_back name (number d.plugged) ss → all_back (boxes_of number new_ds) ss ≡ end → all_back (boxes_of number ds) new ≡ end
      others_back new end gave so_far =
          ap (all_back (boxes_of number ds)) (gave ∙ ap (λ k. given_back k (number d.plugged) ss) named)
          ∙ sym (last_back Out (boxes_of number ds) d.want.name (number d.plugged) ss) ∙ ap (λ bs. all_back bs ss) (sym (boxes number)) ∙ so_far

-- as many are left as are still wanted
pub left_more : (left rest : List Want) (w : Want) (name : List ℕ) (mid new : List Stock) → left ≡ w ∷ rest → name ≡ w.name → new ≡ drawn name mid → AreLeft (names_of left) mid → AreLeft (names_of rest) new
left_more left rest w name mid new is named next so_far =
    subst (AreLeft (names_of rest)) (sym (next ∙ ap (λ k. drawn k mid) named))
    (left_behind w.name (names_of rest) mid (subst (λ ws. AreLeft (names_of ws) mid) is so_far))

-- filters and then outputs were drawn from a rack that stood as before
pub all_drawn : {n n1 n2 : ℕ} {fs fs1 fs2 new_fs os os1 os2 new_os : List Stock} (filters outputs : Numbered) → fs1 ≡ fs → os1 ≡ os → os2 ≡ os1 → new_fs ≡ fs2 → n ≡ n1 → n2 ≡ n1
    → AreDrawn (λ ss k. IsOut n1 ss os1 k) filters fs1 fs2 → AreDrawn (λ ss k. IsOut n2 fs2 ss k) outputs os2 new_os → AllDrawn n filters outputs fs os new_fs new_os
all_drawn {n} {n1} {n2} {fs} {fs1} {fs2} {new_fs} {os} {os1} {os2} {new_os} filters outputs a b c d e f first second = record {
  of_filters =
      subst (λ xs. AreDrawn (λ ss k. IsOut n ss os k) filters fs xs) (sym d)
      (subst (λ xs. AreDrawn (λ ss k. IsOut n ss os k) filters xs fs2) a
      (subst (λ xs. AreDrawn (λ ss k. IsOut n ss xs k) filters fs1 fs2) b
      (subst (λ m. AreDrawn (λ ss k. IsOut m ss os1 k) filters fs1 fs2) (sym e) first)));
  of_outputs =
      subst (λ xs. AreDrawn (λ ss k. IsOut n xs ss k) outputs os new_os) (sym d)
      (subst (λ xs. AreDrawn (λ ss k. IsOut n fs2 ss k) outputs xs new_os) (c ∙ b)
      (subst (λ m. AreDrawn (λ ss k. IsOut m fs2 ss k) outputs os2 new_os) (f ∙ sym e) second));
}

-- the same of a rack that stood so before
pub drawn_before : {n : ℕ} {fs before_fs new_fs os before_os new_os : List Stock} (filters outputs : Numbered) → fs ≡ before_fs → os ≡ before_os
    → AllDrawn n filters outputs fs os new_fs new_os → AllDrawn n filters outputs before_fs before_os new_fs new_os
drawn_before {n} {fs} {before_fs} {new_fs} {os} {before_os} {new_os} filters outputs a b drew =
    subst (λ xs. AllDrawn n filters outputs xs before_os new_fs new_os) a (subst (λ ys. AllDrawn n filters outputs fs ys new_fs new_os) b drew)
