-- What one change of a list or of an object does to depth.
use Rattle.std.proofs.Common.{◌≡◌, ℕ, zero, suc, ◌+◌, ◌≤◌, max, List, [], ◌∷◌, ◌++◌, length, Some, ap, arith, rules, slice_get, slice_set, remove}
use Rattle.plain_data.specs.Keys.{text_cmp}
use Rattle.plain_data.specs.Members.{get_member, set_member, insert_member, remove_member}
use Rattle.plain_data.proofs.KeyLemmas.{order_cases}
use Rattle.event_tree.specs.Values.{Members, depth, items_depth, members_depth}
use Rattle.event_tree.specs.Paths.{wrap}
use Rattle.event_tree.specs.declared.value.Value.{Value}
use Rattle.event_tree.proofs.Depths.{depth-Object}

pub items_depth-get : (vs : List Value) (i : ℕ) (x : Value) → slice_get vs i ≡ Some x → depth x ≤ items_depth vs
items_depth-get [] i x h = absurd (search (h, rules))
items_depth-get (z ∷ vs) zero x h = let e : z ≡ x = search (h, rules) in let s : depth z ≡ depth x = ap depth e in omega (arith, s)
items_depth-get (z ∷ vs) (suc i) x h = omega (arith, items_depth-get vs i x h)

pub items_depth-set : (vs : List Value) (i : ℕ) (x y : Value) → slice_get vs i ≡ Some x → (depth y ≤ items_depth (slice_set vs i y)) × (items_depth (slice_set vs i y) ≤ max (items_depth vs) (depth y))
items_depth-set [] i x y h = absurd (search (h, rules))
items_depth-set (z ∷ vs) zero x y h = (omega arith, omega arith)
items_depth-set (z ∷ vs) (suc i) x y h = let k = items_depth-set vs i x y h in (omega (arith, k.0), omega (arith, k.1))

pub items_depth-push : (vs : List Value) (x : Value) → items_depth (vs ++ x ∷ []) ≡ max (items_depth vs) (depth x)
items_depth-push [] x = omega arith
items_depth-push (z ∷ vs) x = omega (arith, items_depth-push vs x)

pub items_depth-remove : (vs : List Value) (i : ℕ) (x : Value) → slice_get vs i ≡ Some x → items_depth (remove vs i) ≤ items_depth vs
items_depth-remove [] i x h = absurd (search (h, rules))
items_depth-remove (z ∷ vs) zero x h = omega arith
items_depth-remove (z ∷ vs) (suc i) x h = omega (arith, items_depth-remove vs i x h)

module _ (p : List ℕ) where
  pub members_depth-get : (ms : Members) (x : Value) → get_member p ms ≡ Some x → depth x ≤ members_depth ms
  members_depth-get [] x h = absurd (search (h, rules))
  members_depth-get (m ∷ ms) x h = order_cases (text_cmp p m.0)
      (λ e. let k : depth x ≤ members_depth ms = members_depth-get ms x (rw e at h) in omega (arith, k))
      (λ e. let w : m.1 ≡ x = search ((rw e at h), rules) in let s : depth m.1 ≡ depth x = ap depth w in omega (arith, s))
      (λ e. let k : depth x ≤ members_depth ms = members_depth-get ms x (rw e at h) in omega (arith, k))

  pub members_depth-set : (ms : Members) (x y : Value) → get_member p ms ≡ Some x → (depth y ≤ members_depth (set_member p y ms)) × (members_depth (set_member p y ms) ≤ max (members_depth ms) (depth y))
  members_depth-set [] x y h = absurd (search (h, rules))
  members_depth-set (m ∷ ms) x y h = order_cases (text_cmp p m.0)
      (λ e. let k = members_depth-set ms x y (rw e at h) in rw e (omega (arith, k.0), omega (arith, k.1)))
      (λ e. rw e (omega arith, omega arith))
      (λ e. let k = members_depth-set ms x y (rw e at h) in rw e (omega (arith, k.0), omega (arith, k.1)))

  pub members_depth-insert : (ms : Members) (y : Value) → (depth y ≤ members_depth (insert_member p y ms)) × (members_depth (insert_member p y ms) ≤ max (members_depth ms) (depth y))
  members_depth-insert [] y = (omega arith, omega arith)
  members_depth-insert (m ∷ ms) y = order_cases (text_cmp p m.0)
      (λ e. rw e (omega arith, omega arith))
      (λ e. rw e (omega arith, omega arith))
      (λ e. let k = members_depth-insert ms y in rw e (omega (arith, k.0), omega (arith, k.1)))

  pub members_depth-remove : (ms : Members) → members_depth (remove_member p ms) ≤ members_depth ms
  members_depth-remove [] = omega arith
  members_depth-remove (m ∷ ms) = order_cases (text_cmp p m.0)
      (λ e. rw e (omega (arith, members_depth-remove ms)))
      (λ e. rw e (omega arith))
      (λ e. rw e (omega (arith, members_depth-remove ms)))

pub depth-wrap : (ps : List (List ℕ)) (d : Value) → depth (wrap ps d) ≡ length ps + depth d
depth-wrap [] d = omega arith
depth-wrap (p ∷ ps) d = omega (arith, depth-Object ((p, wrap ps d) ∷ []), depth-wrap ps d)
