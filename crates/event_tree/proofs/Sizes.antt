-- The equations of size, and what one change of a list or of an object does to it.
use Rattle.std.proofs.Common.{◌≡◌, ℕ, zero, suc, ◌+◌, ◌≤◌, List, [], ◌∷◌, ◌++◌, length, Bool, ℤ, Some, None, ap, arith, rules, slice_get, slice_set, remove}
use Rattle.plain_data.specs.Keys.{text_cmp}
use Rattle.plain_data.specs.Members.{get_member, set_member, insert_member, remove_member}
use Rattle.plain_data.proofs.KeyLemmas.{order_cases, same_from_Equal}
use Rattle.event_tree.specs.Number.{Num}
use Rattle.event_tree.specs.Values.{Members}
use Rattle.event_tree.specs.Sizes.{size, size_step, items_size, members_size}
use Rattle.event_tree.specs.Paths.{wrap, wrap_size}
use Rattle.event_tree.specs.declared.value.Value.{Value}
use Rattle.event_tree.specs.declared.value.Value.TheVariants as v
use Rattle.event_tree.proofs.Folds.{IsFold, fold_is}

size_equations : IsFold ℕ size_step size
unfolding size
size_equations = fold_is ℕ size_step

pub size-Null : size v.Null ≡ 1
size-Null = size_equations.null

pub size-Bool : (b : Bool) → size (v.Bool b) ≡ 1
size-Bool b = size_equations.bool b

pub size-Num : (n : Num) → size (v.Num n) ≡ 10
size-Num n = size_equations.number n

pub size-Text : (s : List ℕ) → size (v.Text s) ≡ 5 + length s
size-Text s = size_equations.text s

pub size-Time : (t : ℤ) → size (v.Time t) ≡ 13
size-Time t = size_equations.time t

pub size-List : (vs : List Value) → size (v.List vs) ≡ 5 + items_size vs
size-List vs = size_equations.list vs

pub size-Object : (ms : Members) → size (v.Object ms) ≡ 5 + members_size ms
size-Object ms = size_equations.object ms

pub ruleset sizes = (size-Null, size-Bool, size-Num, size-Text, size-Time, size-List, size-Object)

pub items_size-get : (vs : List Value) (i : ℕ) (x : Value) → slice_get vs i ≡ Some x → size x ≤ items_size vs
items_size-get [] i x h = absurd (search (h, rules))
items_size-get (z ∷ vs) zero x h = let e : z ≡ x = search (h, rules) in let s : size z ≡ size x = ap size e in omega (arith, s)
items_size-get (z ∷ vs) (suc i) x h = omega (arith, items_size-get vs i x h)

pub items_size-set : (vs : List Value) (i : ℕ) (x y : Value) → slice_get vs i ≡ Some x → items_size (slice_set vs i y) + size x ≡ items_size vs + size y
items_size-set [] i x y h = absurd (search (h, rules))
items_size-set (z ∷ vs) zero x y h = let e : z ≡ x = search (h, rules) in let s : size z ≡ size x = ap size e in omega (arith, s)
items_size-set (z ∷ vs) (suc i) x y h = omega (arith, items_size-set vs i x y h)

pub items_size-push : (vs : List Value) (x : Value) → items_size (vs ++ x ∷ []) ≡ items_size vs + size x
items_size-push [] x = omega arith
items_size-push (z ∷ vs) x = omega (arith, items_size-push vs x)

pub items_size-remove : (vs : List Value) (i : ℕ) (x : Value) → slice_get vs i ≡ Some x → items_size (remove vs i) + size x ≡ items_size vs
items_size-remove [] i x h = absurd (search (h, rules))
items_size-remove (z ∷ vs) zero x h = let e : z ≡ x = search (h, rules) in let s : size z ≡ size x = ap size e in omega (arith, s)
items_size-remove (z ∷ vs) (suc i) x h = omega (arith, items_size-remove vs i x h)

module _ (p : List ℕ) where
  pub members_size-get : (ms : Members) (x : Value) → get_member p ms ≡ Some x → size x ≤ members_size ms
  members_size-get [] x h = absurd (search (h, rules))
  members_size-get (m ∷ ms) x h = order_cases (text_cmp p m.0)
      (λ e. let k : size x ≤ members_size ms = members_size-get ms x (rw e at h) in omega (arith, k))
      (λ e. let w : m.1 ≡ x = search ((rw e at h), rules) in let s : size m.1 ≡ size x = ap size w in omega (arith, s))
      (λ e. let k : size x ≤ members_size ms = members_size-get ms x (rw e at h) in omega (arith, k))

  pub members_size-set : (ms : Members) (x y : Value) → get_member p ms ≡ Some x → members_size (set_member p y ms) + size x ≡ members_size ms + size y
  members_size-set [] x y h = absurd (search (h, rules))
  members_size-set (m ∷ ms) x y h = order_cases (text_cmp p m.0)
      (λ e. rw e (omega (arith, members_size-set ms x y (rw e at h))))
      (λ e. let w : m.1 ≡ x = search ((rw e at h), rules) in let s : size m.1 ≡ size x = ap size w in rw e (omega (arith, s)))
      (λ e. rw e (omega (arith, members_size-set ms x y (rw e at h))))

  pub members_size-insert : (ms : Members) (y : Value) → get_member p ms ≡ None → members_size (insert_member p y ms) ≡ members_size ms + (4 + length p + size y)
  members_size-insert [] y h = omega arith
  members_size-insert (m ∷ ms) y h = order_cases (text_cmp p m.0)
      (λ e. rw e (omega arith))
      (λ e. absurd (search ((rw e at h), rules)))
      (λ e. rw e (omega (arith, members_size-insert ms y (rw e at h))))

  pub members_size-remove : (ms : Members) (x : Value) → get_member p ms ≡ Some x → members_size (remove_member p ms) + (4 + length p + size x) ≡ members_size ms
  members_size-remove [] x h = absurd (search (h, rules))
  members_size-remove (m ∷ ms) x h = order_cases (text_cmp p m.0)
      (λ e. rw e (omega (arith, members_size-remove ms x (rw e at h))))
      (λ e. let w : m.1 ≡ x = search ((rw e at h), rules) in let s : size m.1 ≡ size x = ap size w in
      let k : length p ≡ length m.0 = ap length (same_from_Equal p m.0 e) in rw e (omega (arith, s, k)))
      (λ e. rw e (omega (arith, members_size-remove ms x (rw e at h))))

pub size-wrap : (ps : List (List ℕ)) (d : Value) → size (wrap ps d) ≡ wrap_size ps + size d
size-wrap [] d = omega arith
size-wrap (p ∷ ps) d = omega (arith, size-Object ((p, wrap ps d) ∷ []), size-wrap ps d)
