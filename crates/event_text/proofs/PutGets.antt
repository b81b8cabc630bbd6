-- What stands at a path after a put.
use Rattle.std.proofs.Common.{◌≡◌, ◌≢◌, ℕ, List, [], ◌∷◌, ◌++◌, Bool, true, false, if◌then◌else◌, Option, Some, None, option_map, option_and_then, refl, sym, ap, ◌∙◌, arith, rules, length, ◌<◌, slice_get, slice_set}
use Rattle.plain_data.specs.Members.{get_member, set_member, insert_member}
use Rattle.plain_data.proofs.ChangeLemmas.{get_member-insert_member, get_member-set_member, get_member-insert_member-other, get_member-set_member-other}
use Rattle.event_tree.specs.Values.{Members}
use Rattle.event_tree.specs.Paths.{list_place, step, at, put, wrap, over}
use Rattle.event_tree.proofs.PutLaws.{list_no_object}
use Rattle.std.proofs.lemmas.Option.{same_Some, slice_get_past}
use Rattle.event_tree.specs.declared.value.Value.{Value}
use Rattle.event_tree.specs.declared.value.Value.TheVariants as v
use Rattle.event_text.specs.PathLaws.{IsNoList, is_from_end, passes_end_in, passes_end}
use Rattle.event_text.proofs.Levels.{step-List, step-Object, Changed, set_item, push_item, set_field, insert_field, changed}
use Rattle.event_text.proofs.ItemPlaces.{none_past, step_pushed, step_set, step_is}
use Rattle.event_text.proofs.TakeGets.{list_is}

passes-List : (p : List ℕ) (ps : List (List ℕ)) (vs : List Value) (o : Option Value) → step p (v.List vs) ≡ o → passes_end (p ∷ ps) (v.List vs) ≡ over (passes_end ps) (is_from_end p) o
passes-List p ps vs o e = ap (passes_end_in p (passes_end ps)) (v.outs-List vs) ∙ ap (over (passes_end ps) (is_from_end p)) (sym (step-List p vs) ∙ e)

passes-Object : (p : List ℕ) (ps : List (List ℕ)) (ms : Members) (o : Option Value) → get_member p ms ≡ o → passes_end (p ∷ ps) (v.Object ms) ≡ over (passes_end ps) false o
passes-Object p ps ms o e = ap (passes_end_in p (passes_end ps)) (v.outs-Object ms) ∙ ap (over (passes_end ps) false) e

at_wrap : (ps : List (List ℕ)) (d : Value) → at ps (wrap ps d) ≡ Some d
at_wrap [] d = refl
at_wrap (p ∷ ps) d = ap (option_and_then (at ps)) (step-Object p ((p, wrap ps d) ∷ []) ∙ get_member-insert_member p (wrap ps d) []) ∙ at_wrap ps d

abbrev found : Bool → Value → Option Value
found b d = if b then None else Some d

module _ (p : List ℕ) (ps : List (List ℕ)) (d old new : Value) (inner : (x y : Value) → put ps d x ≡ Some y → at ps y ≡ found (passes_end ps x) d) where
  -- where the part led to x, and leads to y now
  through : (x y : Value) → step p new ≡ Some y → passes_end (p ∷ ps) old ≡ passes_end ps x → put ps d x ≡ Some y → at (p ∷ ps) new ≡ found (passes_end (p ∷ ps) old) d
  through x y e f h = ap (option_and_then (at ps)) e ∙ inner x y h ∙ ap (λ b. found b d) (sym f)

  -- where a value was made at the part
  made : (b : Bool) → step p new ≡ (if b then None else Some (wrap ps d)) → passes_end (p ∷ ps) old ≡ b → at (p ∷ ps) new ≡ found (passes_end (p ∷ ps) old) d
  made true e f = ap (option_and_then (at ps)) e ∙ ap (λ b. found b d) (sym f)
  made false e f = ap (option_and_then (at ps)) e ∙ at_wrap ps d ∙ ap (λ b. found b d) (sym f)

  one_level : Changed p (put ps d) (wrap ps d) old new → at (p ∷ ps) new ≡ found (passes_end (p ∷ ps) old) d
  one_level (set_item vs i x y is e g h n) = through x y
      (ap (step p) n ∙ step-List p (slice_set vs i y) ∙ step_set p vs i x y e g)
      (ap (passes_end (p ∷ ps)) is ∙ passes-List p ps vs (Some x) (step-List p vs ∙ step_is p vs i (Some x) e g)) h
  one_level (push_item vs i is e g n) = made (is_from_end p)
      (ap (step p) n ∙ step-List p (vs ++ wrap ps d ∷ []) ∙ step_pushed p vs i (wrap ps d) e g)
      (ap (passes_end (p ∷ ps)) is ∙ passes-List p ps vs None (step-List p vs ∙ step_is p vs i None e g))
  one_level (set_field ms x y is g h n) = through x y
      (ap (step p) n ∙ step-Object p (set_member p y ms) ∙ get_member-set_member p y ms ∙ ap (option_map (λ _. y)) g)
      (ap (passes_end (p ∷ ps)) is ∙ passes-Object p ps ms (Some x) g) h
  one_level (insert_field ms is g n) = made false
      (ap (step p) n ∙ step-Object p (insert_member p (wrap ps d) ms) ∙ get_member-insert_member p (wrap ps d) ms)
      (ap (passes_end (p ∷ ps)) is ∙ passes-Object p ps ms None g)

-- at the path of a put stands what was put
pub at_put : (ps : List (List ℕ)) (d old new : Value) → put ps d old ≡ Some new → at ps new ≡ (if passes_end ps old then None else Some d)
at_put [] d old new h = sym h
at_put (p ∷ ps) d old new h = one_level p ps d old new (λ x y k. at_put ps d x y k) (changed p (put ps d) (wrap ps d) old new h)

-- ---- paths that part from it at a key

module _ (p q : List ℕ) (ps qs : List (List ℕ)) (d : Value) (other : p ≢ q) where
  at_wrap_other : (front : List (List ℕ)) → at (front ++ q ∷ qs) (wrap (front ++ p ∷ ps) d) ≡ None
  at_wrap_other [] = ap (option_and_then (at qs)) (step-Object q ((p, wrap ps d) ∷ []) ∙ get_member-insert_member-other p q other (wrap ps d) [])
  at_wrap_other (r ∷ front) = ap (option_and_then (at (front ++ q ∷ qs))) (step-Object r ((r, wrap (front ++ p ∷ ps) d) ∷ []) ∙ get_member-insert_member r (wrap (front ++ p ∷ ps) d) []) ∙ at_wrap_other front

  parted : (old new : Value) → IsNoList (Some old) → Changed p (put ps d) (wrap ps d) old new → at (q ∷ qs) new ≡ at (q ∷ qs) old
  parted old new unlisted (set_item vs i x y is e g h n) = absurd (unlisted vs (ap Some is))
  parted old new unlisted (push_item vs i is e g n) = absurd (unlisted vs (ap Some is))
  parted old new unlisted (set_field ms x y is g h n) = ap (option_and_then (at qs))
      (ap (step q) n ∙ step-Object q (set_member p y ms) ∙ get_member-set_member-other p q other y ms ∙ sym (step-Object q ms) ∙ ap (step q) (sym is))
  parted old new unlisted (insert_field ms is g n) = ap (option_and_then (at qs))
      (ap (step q) n ∙ step-Object q (insert_member p (wrap ps d) ms) ∙ get_member-insert_member-other p q other (wrap ps d) ms ∙ sym (step-Object q ms) ∙ ap (step q) (sym is))

  module _ (r : List ℕ) (front : List (List ℕ)) (old new : Value) (unlisted : IsNoList (at (r ∷ front) old))
      (inner : (x y : Value) → IsNoList (at front x) → put (front ++ p ∷ ps) d x ≡ Some y → at (front ++ q ∷ qs) y ≡ at (front ++ q ∷ qs) x) where
    through_both : (x y : Value) → step r old ≡ Some x → step r new ≡ Some y → put (front ++ p ∷ ps) d x ≡ Some y → at (r ∷ (front ++ q ∷ qs)) new ≡ at (r ∷ (front ++ q ∷ qs)) old
    through_both x y e f h = ap (option_and_then (at (front ++ q ∷ qs))) f ∙ inner x y (λ vs k. unlisted vs (ap (option_and_then (at front)) e ∙ k)) h ∙ sym (ap (option_and_then (at (front ++ q ∷ qs))) e)

    made_both : (b : Bool) → step r old ≡ None → step r new ≡ (if b then None else Some (wrap (front ++ p ∷ ps) d)) → at (r ∷ (front ++ q ∷ qs)) new ≡ at (r ∷ (front ++ q ∷ qs)) old
    made_both true e f = ap (option_and_then (at (front ++ q ∷ qs))) (f ∙ sym e)
    made_both false e f = ap (option_and_then (at (front ++ q ∷ qs))) f ∙ at_wrap_other front ∙ sym (ap (option_and_then (at (front ++ q ∷ qs))) e)

    deeper : Changed r (put (front ++ p ∷ ps) d) (wrap (front ++ p ∷ ps) d) old new → at (r ∷ (front ++ q ∷ qs)) new ≡ at (r ∷ (front ++ q ∷ qs)) old
    deeper (set_item vs i x y is e g h n) = through_both x y
        (ap (step r) is ∙ step-List r vs ∙ step_is r vs i (Some x) e g) (ap (step r) n ∙ step-List r (slice_set vs i y) ∙ step_set r vs i x y e g) h
    deeper (push_item vs i is e g n) = made_both (is_from_end r)
        (ap (step r) is ∙ step-List r vs ∙ step_is r vs i None e g) (ap (step r) n ∙ step-List r (vs ++ wrap (front ++ p ∷ ps) d ∷ []) ∙ step_pushed r vs i (wrap (front ++ p ∷ ps) d) e g)
    deeper (set_field ms x y is g h n) = through_both x y
        (ap (step r) is ∙ step-Object r ms ∙ g) (ap (step r) n ∙ step-Object r (set_member r y ms) ∙ get_member-set_member r y ms ∙ ap (option_map (λ _. y)) g) h
    deeper (insert_field ms is g n) = made_both false
        (ap (step r) is ∙ step-Object r ms ∙ g) (ap (step r) n ∙ step-Object r (insert_member r (wrap (front ++ p ∷ ps) d) ms) ∙ get_member-insert_member r (wrap (front ++ p ∷ ps) d) ms)

  -- what stands at a path that parts from that of a put at a key stands there as before
  pub at_put_other : (front : List (List ℕ)) (old new : Value) → IsNoList (at front old) → put (front ++ p ∷ ps) d old ≡ Some new → at (front ++ q ∷ qs) new ≡ at (front ++ q ∷ qs) old
  at_put_other [] old new unlisted h = parted old new unlisted (changed p (put ps d) (wrap ps d) old new h)
  at_put_other (r ∷ front) old new unlisted h = deeper r front old new unlisted (λ x y k l. at_put_other front x y k l) (changed r (put (front ++ p ∷ ps) d) (wrap (front ++ p ∷ ps) d) old new h)

-- ---- lists

module _ (p : List ℕ) (d : Value) (vs : List Value) (i : ℕ) (named : list_place p (length vs) ≡ Some i) where
  -- the same list and the same place
  place_is : (ws : List Value) (j : ℕ) → ws ≡ vs → list_place p (length ws) ≡ Some j → j ≡ i
  place_is ws j same at = same_Some j i (sym at ∙ ap (λ us. list_place p (length us)) same ∙ named)

  pub set_here : i < length vs → (old new : Value) → old ≡ v.List vs → Changed p (put [] d) (wrap [] d) old new → new ≡ v.List (slice_set vs i d)
  set_here within old new is (set_item ws j x y was at g h n) =
      let same : ws ≡ vs = list_is ws vs (sym was ∙ is) in
      n ∙ ap (λ us. v.List (slice_set us j y)) same ∙ ap (λ k. v.List (slice_set vs k y)) (place_is ws j same at) ∙ ap (λ z. v.List (slice_set vs i z)) (sym (same_Some d y h))
  set_here within old new is (push_item ws j was at g n) =
      let same : ws ≡ vs = list_is ws vs (sym was ∙ is) in
      absurd (omega (arith, within, none_past ws j g, place_is ws j same at, ap length same))
  set_here within old new is (set_field ms x y was g h n) = absurd (list_no_object vs ms (sym is ∙ was))
  set_here within old new is (insert_field ms was g n) = absurd (list_no_object vs ms (sym is ∙ was))

  pub added_here : i ≡ length vs → (old new : Value) → old ≡ v.List vs → Changed p (put [] d) (wrap [] d) old new → new ≡ v.List (vs ++ d ∷ [])
  added_here end old new is (set_item ws j x y was at g h n) =
      let same : ws ≡ vs = list_is ws vs (sym was ∙ is) in
      let none : slice_get ws j ≡ None = slice_get_past ws j (omega (arith, end, place_is ws j same at, ap length same)) in
      absurd (search (sym none ∙ g, rules))
  added_here end old new is (push_item ws j was at g n) = n ∙ ap (λ us. v.List (us ++ d ∷ [])) (list_is ws vs (sym was ∙ is))
  added_here end old new is (set_field ms x y was g h n) = absurd (list_no_object vs ms (sym is ∙ was))
  added_here end old new is (insert_field ms was g n) = absurd (list_no_object vs ms (sym is ∙ was))

module _ (p : List ℕ) (d e made : Value) (here : (old new : Value) → old ≡ e → Changed p (put [] d) (wrap [] d) old new → new ≡ made) where
  module _ (r : List ℕ) (front : List (List ℕ)) (old new : Value) (is : at (r ∷ front) old ≡ Some e)
      (inner : (x y : Value) → at front x ≡ Some e → put (front ++ p ∷ []) d x ≡ Some y → at front y ≡ Some made) where
    through_here : (x y : Value) → step r old ≡ Some x → step r new ≡ Some y → put (front ++ p ∷ []) d x ≡ Some y → at (r ∷ front) new ≡ Some made
    through_here x y was now h = ap (option_and_then (at front)) now ∙ inner x y (sym (ap (option_and_then (at front)) was) ∙ is) h

    missing : step r old ≡ None → at (r ∷ front) new ≡ Some made
    missing was = absurd (search (sym is ∙ ap (option_and_then (at front)) was, rules))

    one_deeper : Changed r (put (front ++ p ∷ []) d) (wrap (front ++ p ∷ []) d) old new → at (r ∷ front) new ≡ Some made
    one_deeper (set_item vs i x y was e g h n) = through_here x y
        (ap (step r) was ∙ step-List r vs ∙ step_is r vs i (Some x) e g) (ap (step r) n ∙ step-List r (slice_set vs i y) ∙ step_set r vs i x y e g) h
    one_deeper (push_item vs i was e g n) = missing (ap (step r) was ∙ step-List r vs ∙ step_is r vs i None e g)
    one_deeper (set_field ms x y was g h n) = through_here x y
        (ap (step r) was ∙ step-Object r ms ∙ g) (ap (step r) n ∙ step-Object r (set_member r y ms) ∙ get_member-set_member r y ms ∙ ap (option_map (λ _. y)) g) h
    one_deeper (insert_field ms was g n) = missing (ap (step r) was ∙ step-Object r ms ∙ g)

  -- what a put at a part of the value at the end of the front makes of that value
  pub at_put_here : (front : List (List ℕ)) (old new : Value) → at front old ≡ Some e → put (front ++ p ∷ []) d old ≡ Some new → at front new ≡ Some made
  at_put_here [] old new is h = ap Some (here old new (same_Some old e is) (changed p (put [] d) (wrap [] d) old new h))
  at_put_here (r ∷ front) old new is h = one_deeper r front old new is (λ x y k l. at_put_here front x y k l) (changed r (put (front ++ p ∷ []) d) (wrap (front ++ p ∷ []) d) old new h)
