-- Pairs that were sorted by their keys, those with equal keys in their order, are the same members.
use Rattle.std.proofs.Common.{◌≡◌, ◌≢◌, ℕ, List, [], ◌∷◌, ◌++◌, Bool, true, false, ◌&&◌, cond, Option, Some, None, Result, Ok, Err, OnOk, refl, sym, ap, subst, ◌∙◌, rules}
use Rattle.event_json.proofs.Tests.{bool_cases}
use Rattle.std.specs.Prelude.{not}
use Rattle.std.specs.List.{filter}
use Rattle.std.specs.List.Sorted.{IsStableBy, ties}
use Rattle.std.specs.Ordering.{is_lt, is_eq}
use Rattle.std.specs.declared.cmp.Ordering.TheVariants.{Less, Equal, Greater}
use Rattle.plain_data.specs.Keys.{text_cmp, same_key}
use Rattle.plain_data.specs.Members.{Rises, AllBelow, get_member, insert_member}
use Rattle.plain_data.proofs.KeyLemmas.{order_cases, text_cmp-self, text_cmp-flip}
use Rattle.plain_data.proofs.MemberLemmas.{Rises-insert_member}
use Rattle.plain_data.proofs.ChangeLemmas.{get_member-insert_member, get_member-insert_member-other, insert_member-above, same_members, same_key-decides}
use Rattle.event_tree.specs.Values.{Members}
use Rattle.event_tree.specs.declared.value.Value.{Value}
use Rattle.event_tree.specs.declared.value.Value.TheVariants as v
use Rattle.event_json.specs.Gathered.{put_all}

-- the order of pairs by their keys
abbrev pub by_key : List ℕ × Value → List ℕ × Value → Bool
by_key p q = is_lt (text_cmp p.0 q.0)

put_all-push : (found : Members) (ps : List (List ℕ × Value)) (p : List ℕ × Value) → put_all found (ps ++ p ∷ []) ≡ insert_member p.0 p.1 (put_all found ps)
put_all-push found [] p = refl
put_all-push found (q ∷ ps) p = put_all-push (insert_member q.0 q.1 found) ps p

-- a pair that goes behind all others is put there
pub put_above : {T E : Type 0} (r : Result T E) (k : List ℕ) (d : Value) (old new : Members) → AllBelow old k → OnOk r (new ≡ old ++ (k, d) ∷ []) → OnOk r (new ≡ insert_member k d old)
put_above (Ok x) k d old new below is = is ∙ sym (insert_member-above k d old below)
put_above (Err x) k d old new below is = tt

pub pushed : (ps qs : List (List ℕ × Value)) (p : List ℕ × Value) → qs ≡ ps ++ p ∷ [] → put_all [] qs ≡ insert_member p.0 p.1 (put_all [] ps)
pushed ps qs p is = ap (put_all []) is ∙ put_all-push [] ps p

Rises-put_all : (found : Members) (ps : List (List ℕ × Value)) → Rises found → Rises (put_all found ps)
Rises-put_all found [] rises = rises
Rises-put_all found (p ∷ ps) rises = Rises-put_all (insert_member p.0 p.1 found) ps (Rises-insert_member p.0 p.1 found rises)

module _ (k : List ℕ) where
  -- the value of the last pair with the key, or what there was before them
  abbrev last_at : List (List ℕ × Value) → Option Value → Option Value
  last_at [] before = before
  last_at (p ∷ ps) before = last_at ps (cond (same_key k p.0) (Some p.1) before)

  other_key : (l : List ℕ) → same_key k l ≡ false → l ≢ k
  other_key l other same = let itself : same_key k l ≡ true = ap (λ m. is_eq (text_cmp k m)) same ∙ ap is_eq (text_cmp-self k) in absurd (search (sym itself ∙ other, rules))

  get_inserted : (l : List ℕ) (d : Value) (found : Members) → get_member k (insert_member l d found) ≡ cond (same_key k l) (Some d) (get_member k found)
  get_inserted l d found = bool_cases (same_key k l)
      (λ e. let same : k ≡ l = (same_key-decides k l).0 e in
      subst (λ m. get_member m (insert_member l d found) ≡ Some d) (sym same) (get_member-insert_member l d found) ∙ sym (ap (λ t. cond t (Some d) (get_member k found)) e))
      (λ e. get_member-insert_member-other l k (other_key l e) d found ∙ sym (ap (λ t. cond t (Some d) (get_member k found)) e))

  got : (found : Members) (ps : List (List ℕ × Value)) → get_member k (put_all found ps) ≡ last_at ps (get_member k found)
  got found [] = refl
  got found (p ∷ ps) = got (insert_member p.0 p.1 found) ps ∙ ap (last_at ps) (get_inserted p.0 p.1 found)

  -- a pair ties with the key just where it has the key
  tie : (p : List ℕ × Value) → ties by_key (k, v.Null) p ≡ same_key k p.0
  tie p = order_cases (text_cmp k p.0)
      (λ e. rw e refl)
      (λ e. let f : text_cmp p.0 k ≡ Equal = text_cmp-flip k p.0 Equal e in rw (e, f) refl)
      (λ e. let f : text_cmp p.0 k ≡ Less = text_cmp-flip k p.0 Greater e in rw (e, f) refl)

  last_tied : (ps : List (List ℕ × Value)) (before : Option Value) → last_at ps before ≡ last_at (filter (ties by_key (k, v.Null)) ps) before
  last_tied [] before = refl
  last_tied (p ∷ ps) before = bool_cases (same_key k p.0)
      (λ e. let t = tie p ∙ e in rw (t, e) (last_tied ps (Some p.1)))
      (λ e. let t = tie p ∙ e in rw (t, e) (last_tied ps before))

pub put_sorted : (ps qs : List (List ℕ × Value)) → IsStableBy by_key ps qs → put_all [] qs ≡ put_all [] ps
put_sorted ps qs stable = same_members (put_all [] qs) (put_all [] ps) (Rises-put_all [] qs tt) (Rises-put_all [] ps tt) (λ k.
    got k [] qs ∙ last_tied k qs None ∙ ap (λ rs. last_at k rs None) (stable (k, v.Null)) ∙ sym (last_tied k ps None) ∙ sym (got k [] ps))
