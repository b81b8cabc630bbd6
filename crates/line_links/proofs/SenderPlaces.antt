-- The sender to an address among those of a pipeline, by its place, and why a delivery to it waits.
use Rattle.std.specs.Prelude.{slice_set}
use Rattle.std.proofs.Common.{◌≡◌, ◌<◌, ◌≤◌, ◌⊎◌, inl, inr, ◌^◌, ◌-◌, ℕ, zero, suc, Bool, true, false, if◌then◌else◌, List, [], ◌∷◌, length, get_or, refl, sym, ap, ◌∙◌, subst, arith}
use Rattle.std.specs.Str.{bytes_eq}
use Rattle.std.proofs.lemmas.Bool.{cases_lt}
use Rattle.std.specs.Cmp.Lexicographic.{bytes_decides}
use Rattle.io_traits.specs.Counts.{Rose, one_more}
use Rattle.line_links.specs.Senders.{send_state}
use Rattle.line_links.specs.SenderTables.{AssuredNow, HasNoSender, IsAssured, OneWaits, WaitsOn, sender_place, states_of}
use Rattle.line_links.specs.declared.sender.AddressSender.{AddressSender}

-- a count that one more was added to rose
pub rises : (n : ℕ) → Rose n (one_more n)
rises n = by_order (cases_lt n (2 ^ 64 - 1)) where
  by_order : (n < 2 ^ 64 - 1) ⊎ (2 ^ 64 - 1 ≤ n) → Rose n (one_more n)
  by_order (inl less) = inl (omega arith)
  by_order (inr most) = inr (omega arith)

-- where no place is found there is none to the address
none_case : (b : Bool) (n p : ℕ) (Rest : Type 0) → (n ≤ p → Rest) → suc n ≤ (if b then 0 else suc p) → (b ≡ false) × Rest
none_case true n p Rest next past = absurd (omega (arith, past))
none_case false n p Rest next past = (refl, next (omega (arith, past)))

pub none_past : (address : List ℕ) (ss : List AddressSender) → length ss ≤ sender_place address ss → HasNoSender address (states_of ss)
none_past address [] past = tt
none_past address (s ∷ ss) past =
    none_case (bytes_eq s.address address) (length ss) (sender_place address ss) (HasNoSender address (states_of ss)) (none_past address ss) past

-- the one that is found is to the address
found_case : (s : AddressSender) (address : List ℕ) (ss : List AddressSender) (n : ℕ) (t : AddressSender) → (t ≡ get_or ss n t → n < length ss → t.address ≡ address)
    → (b : Bool) → (b ≡ true → s.address ≡ address) → t ≡ get_or (s ∷ ss) (if b then 0 else suc n) t → (if b then 0 else suc n) < suc (length ss) → t.address ≡ address
found_case s address ss n t next true same is below = ap (λ (x : AddressSender). x.address) is ∙ same refl
found_case s address ss n t next false same is below = next is (omega (arith, below))

pub found_at : (address : List ℕ) (ss : List AddressSender) (t : AddressSender) → t ≡ get_or ss (sender_place address ss) t → sender_place address ss < length ss → t.address ≡ address
found_at address [] t is below = absurd (omega (arith, below))
found_at address (s ∷ ss) t is below =
    found_case s address ss (sender_place address ss) t (found_at address ss t) (bytes_eq s.address address) ((bytes_decides s.address address).0) is below

-- one of them changed
state_at : (ss : List AddressSender) (at : ℕ) (t : AddressSender) → at < length ss → t ≡ get_or ss at t → send_state t ≡ get_or (states_of ss) at (send_state t)
state_at [] at t below is = absurd (omega (arith, below))
state_at (s ∷ ss) zero t below is = ap send_state is
state_at (s ∷ ss) (suc at) t below is = state_at ss at t (omega (arith, below)) is

state_set : (ss : List AddressSender) (at : ℕ) (t : AddressSender) → at < length ss → send_state t ≡ get_or (states_of (slice_set ss at t)) at (send_state t)
state_set [] at t below = absurd (omega (arith, below))
state_set (s ∷ ss) zero t below = refl
state_set (s ∷ ss) (suc at) t below = state_set ss at t (omega (arith, below))

many_states : (ss : List AddressSender) → length (states_of ss) ≡ length ss
many_states [] = refl
many_states (s ∷ ss) = ap suc (many_states ss)

many_set : (ss : List AddressSender) (at : ℕ) (t : AddressSender) → length (states_of (slice_set ss at t)) ≡ length ss
many_set [] at t = refl
many_set (s ∷ ss) zero t = ap suc (many_states ss)
many_set (s ∷ ss) (suc at) t = ap suc (many_set ss at t)

module _ (address : List ℕ) (ss : List AddressSender) (at : ℕ) (old new : AddressSender) (place : at ≡ sender_place address ss) (below : at < length ss) (is : old ≡ get_or ss at old) where
  pub one_waits : WaitsOn (send_state old) (send_state new) → OneWaits address (states_of ss) (states_of (slice_set ss at new))
  one_waits waits = record {
    place = at;
    there = subst (λ n. at < n) (sym (many_states ss)) below;
    before = send_state old;
    after = send_state new;
    was = state_at ss at old below is;
    is = state_set ss at new below;
    address_is = found_at address ss old (is ∙ ap (λ n. get_or ss n old) place) (subst (λ n. n < length ss) place below);
    waits = waits;
  }

  pub one_assured : AssuredNow (send_state new) → IsAssured (states_of (slice_set ss at new))
  one_assured assured = record {
    place = at;
    there = subst (λ n. at < n) (sym (many_set ss at new)) below;
    sender = send_state new;
    is = state_set ss at new below;
    assured = assured;
  }
