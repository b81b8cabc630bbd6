-- Pairs that were sorted by their names, those with equal names in their order, make the same groups.
use Rattle.std.proofs.Common.{◌≡◌, ◌≢◌, ℕ, List, [], ◌∷◌, Bool, true, false, cond, Option, Some, None, refl, sym, ap, subst, ◌∙◌, rules}
use Rattle.std.specs.List.{filter}
use Rattle.std.specs.List.Sorted.{IsStableBy, ties}
use Rattle.std.specs.Ordering.{is_lt, is_eq}
use Rattle.std.specs.declared.cmp.Ordering.TheVariants.{Less, Equal, Greater}
use Rattle.event_json.proofs.Tests.{bool_cases}
use Rattle.plain_data.specs.Keys.{text_cmp, same_key}
use Rattle.plain_data.specs.Members.{Rises, get_member, insert_member, set_member}
use Rattle.plain_data.proofs.KeyLemmas.{order_cases, text_cmp-self, text_cmp-flip}
use Rattle.plain_data.proofs.MemberLemmas.{Rises-insert_member}
use Rattle.plain_data.proofs.ChangeLemmas.{get_member-insert_member, get_member-insert_member-other, insert_member-found, same_members, same_key-decides}
use Rattle.event_tree.specs.Paths.{over}
use Rattle.filters_text.specs.Kv.{Groups, joined, added, all_added}

abbrev Pair : Type 0
Pair = List ℕ × List ℕ

-- the order of pairs by their names
abbrev pub by_name : Pair → Pair → Bool
by_name p q = is_lt (text_cmp p.0 q.0)

module _ (dup : Bool) where
  -- the texts with one more
  abbrev more : List ℕ → Option (List (List ℕ)) → List (List ℕ)
  more s None = s ∷ []
  more s (Some texts) = joined dup s texts

  inserts_by : (found : Groups) (p : Pair) (o : Option (List (List ℕ))) → Rises found → get_member p.0 found ≡ o
      → over (λ texts. set_member p.0 (joined dup p.1 texts) found) (insert_member p.0 (p.1 ∷ []) found) o ≡ insert_member p.0 (more p.1 o) found
  inserts_by found p None rises is = refl
  inserts_by found p (Some texts) rises is = sym (insert_member-found p.0 (joined dup p.1 texts) found texts rises is)

  inserts : (found : Groups) (p : Pair) → Rises found → added dup found p ≡ insert_member p.0 (more p.1 (get_member p.0 found)) found
  inserts found p rises = inserts_by found p (get_member p.0 found) rises refl

  Rises-added : (found : Groups) (p : Pair) → Rises found → Rises (added dup found p)
  Rises-added found p rises = subst Rises (sym (inserts found p rises)) (Rises-insert_member p.0 (more p.1 (get_member p.0 found)) found rises)

  Rises-all : (found : Groups) (ps : List Pair) → Rises found → Rises (all_added dup found ps)
  Rises-all found [] rises = rises
  Rises-all found (p ∷ ps) rises = Rises-all (added dup found p) ps (Rises-added found p rises)

  module _ (k : List ℕ) where
    -- the texts at the name, with those of the pairs
    abbrev grown : List Pair → Option (List (List ℕ)) → Option (List (List ℕ))
    grown [] before = before
    grown (p ∷ ps) before = grown ps (cond (same_key k p.0) (Some (more p.1 before)) before)

    other_name : (l : List ℕ) → same_key k l ≡ false → l ≢ k
    other_name l other same = let itself : same_key k l ≡ true = ap (λ m. is_eq (text_cmp k m)) same ∙ ap is_eq (text_cmp-self k) in absurd (search (sym itself ∙ other, rules))

    get_added : (found : Groups) (p : Pair) → Rises found → get_member k (added dup found p) ≡ cond (same_key k p.0) (Some (more p.1 (get_member k found))) (get_member k found)
    get_added found p rises =
        let texts = more p.1 (get_member p.0 found) in
        ap (get_member k) (inserts found p rises) ∙ bool_cases (same_key k p.0)
        (λ e. let same : k ≡ p.0 = (same_key-decides k p.0).0 e in
        subst (λ m. get_member m (insert_member p.0 texts found) ≡ Some (more p.1 (get_member m found))) (sym same) (get_member-insert_member p.0 texts found)
        ∙ sym (ap (λ t. cond t (Some (more p.1 (get_member k found))) (get_member k found)) e))
        (λ e. get_member-insert_member-other p.0 k (other_name p.0 e) texts found ∙ sym (ap (λ t. cond t (Some (more p.1 (get_member k found))) (get_member k found)) e))

    got : (found : Groups) (ps : List Pair) → Rises found → get_member k (all_added dup found ps) ≡ grown ps (get_member k found)
    got found [] rises = refl
    got found (p ∷ ps) rises = got (added dup found p) ps (Rises-added found p rises) ∙ ap (grown ps) (get_added found p rises)

    -- a pair ties with the name just where it has the name
    tie : (p : Pair) → ties by_name (k, []) p ≡ same_key k p.0
    tie p = order_cases (text_cmp k p.0)
        (λ e. rw e refl)
        (λ e. let f : text_cmp p.0 k ≡ Equal = text_cmp-flip k p.0 Equal e in rw (e, f) refl)
        (λ e. let f : text_cmp p.0 k ≡ Less = text_cmp-flip k p.0 Greater e in rw (e, f) refl)

    grown_tied : (ps : List Pair) (before : Option (List (List ℕ))) → grown ps before ≡ grown (filter (ties by_name (k, [])) ps) before
    grown_tied [] before = refl
    grown_tied (p ∷ ps) before = bool_cases (same_key k p.0)
        (λ e. let t = tie p ∙ e in rw (t, e) (grown_tied ps (Some (more p.1 before))))
        (λ e. let t = tie p ∙ e in rw (t, e) (grown_tied ps before))

  pub group_sorted : (ps qs : List Pair) → IsStableBy by_name ps qs → all_added dup [] qs ≡ all_added dup [] ps
  group_sorted ps qs stable = same_members (all_added dup [] qs) (all_added dup [] ps) (Rises-all [] qs tt) (Rises-all [] ps tt) (λ k.
      got k [] qs tt ∙ grown_tied k qs None ∙ ap (λ rs. grown k rs None) (stable (k, [])) ∙ sym (grown_tied k ps None) ∙ sym (got k [] ps tt))
