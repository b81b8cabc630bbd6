-- When a folder is bare, from a list of its files.
use Rattle.std.proofs.Common.{◌≡◌, ◌≢◌, ⊎_elim, ℕ, zero, suc, ◌+◌, ◌<◌, ◌≤◌, ◌==◌, ◌&&◌, not, nat_lt, Bool, true, false, List, [], ◌∷◌, length, Option, None, is_some, IsSome, refl, sym, ◌∙◌, ap, subst, arith}
use Rattle.std.proofs.Math.Path.{ap₂}
use Rattle.std.proofs.lemmas.Bool.{cases_eq, and_parts, eqb-true, false≢true}
use Rattle.std.specs.List.{list_all}
use Rattle.std.specs.Prelude.{Contains}
use Rattle.io_traits.specs.Reads.{bytes_of}
use Rattle.slot_files.specs.Checkpoints.{slots_of}
use Rattle.slot_files.specs.declared.checkpoint.Slots.{Slots}
use Rattle.queue_files.specs.Folders.{Role, head, page, checkpoint, Folder}
use Rattle.queue_files.specs.Found.{none_of, has_page_0_at_most, is_new}
use Rattle.queue_files.specs.Listing.{IsListed}
use Rattle.queue_files.specs.declared.listing.Listing.{Listing}
use Rattle.queue_files.proofs.Members.{is_first, is_later, first_or_later}
use Rattle.queue_files.proofs.Tidying.{none_if_not}

none_if_all : (kind : ℕ → Role) (folder : Folder) (count from : ℕ) → ((n : ℕ) → from ≤ n → n < from + count → folder (kind n) ≡ None) → none_of kind count from folder ≡ true
unfolding none_of
none_if_all kind folder zero from all = refl
none_if_all kind folder (suc count) from all =
    ap₂ (λ (o : Option (List ℕ)) (rest : Bool). not (is_some o) && rest) (all from (omega arith) (omega arith)) (none_if_all kind folder count (suc from) (λ n past within. all n (omega (arith, past)) (omega (arith, within))))

and_never : (b : Bool) → (b && false) ≡ false
and_never true = refl
and_never false = refl

not_if_one : (kind : ℕ → Role) (folder : Folder) (count from n : ℕ) → from ≤ n → n < from + count → IsSome (folder (kind n)) → none_of kind count from folder ≡ false
unfolding none_of
not_if_one kind folder zero from n past within some = absurd (omega (arith, past, within))
not_if_one kind folder (suc count) from n past within some = ⊎_elim
    (λ (is : from ≡ n). ap (λ (b : Bool). not b && none_of kind count (suc from) folder) (subst (λ (m : ℕ). IsSome (folder (kind m))) (sym is) some))
    (λ other. ap (λ (rest : Bool). not (is_some (folder (kind from))) && rest) (not_if_one kind folder count (suc from) n (omega (arith, past, other)) (omega (arith, within)) some) ∙ and_never (not (is_some (folder (kind from)))))
    (cases_eq from n)

-- ---- a list of zeros

all_zero : (xs : List ℕ) → list_all (λ n. n == 0) xs ≡ true → (n : ℕ) → Contains xs n → n ≡ 0
all_zero [] all n c = absurd (omega (arith, c.1))
all_zero (x ∷ xs) all n c =
    let parts = and_parts (x == 0) (list_all (λ n. n == 0) xs) all in
    ⊎_elim (λ (same : x ≡ n). sym same ∙ eqb-true x 0 parts.0) (λ later. all_zero xs parts.1 n later) (first_or_later x xs n c)

-- one that isn't
abbrev Other : List ℕ → Type 0
Other xs = (n : ℕ) × Contains xs n × (n ≢ 0)

other_by : (x : ℕ) (xs : List ℕ) → (list_all (λ n. n == 0) xs ≡ false → Other xs) → (b : Bool) → (x == 0) ≡ b → (b && list_all (λ n. n == 0) xs) ≡ false → Other (x ∷ xs)
other_by x xs later true is all = let o = later all in (o.0, is_later x xs o.0 o.1, o.2)
other_by x xs later false is all = (x, is_first x xs, λ zero_is. false≢true (sym is ∙ ap (λ n. n == 0) zero_is))

some_other : (xs : List ℕ) → list_all (λ n. n == 0) xs ≡ false → Other xs
some_other [] all = absurd (false≢true (sym all))
some_other (x ∷ xs) all = other_by x xs (some_other xs) (x == 0) refl all

-- ---- a folder

module _ (folder : Folder) (l : Listing) (listed : IsListed folder l) where
  pages : (b : Bool) → list_all (λ n. n == 0) l.pages.items ≡ b → none_of page 0xFFFF_FFFF 1 folder ≡ b
  pages true all = none_if_all page folder 0xFFFF_FFFF 1 (λ n past within. none_if_not (folder (page n))
      (λ some. omega (arith, past, all_zero l.pages.items all n ((listed.pages.each n).1 (omega (arith, within), some)))))
  pages false all =
      let o = some_other l.pages.items all in
      let found = (listed.pages.each o.0).0 o.1 in
      not_if_one page folder 0xFFFF_FFFF 1 o.0 (omega (arith, o.2)) (omega (arith, found.0)) found.1

  no_checkpoints : length l.checkpoints.items ≡ 0 → none_of checkpoint 0x1_0000_0000 0 folder ≡ true
  no_checkpoints none = none_if_all checkpoint folder 0x1_0000_0000 0 (λ n past within. none_if_not (folder (checkpoint n))
      (λ some. omega (arith, none, ((listed.checkpoints.each n).1 (omega (arith, within), some)).1)))

  some_checkpoint : (items : List ℕ) → items ≡ l.checkpoints.items → length items ≢ 0 → none_of checkpoint 0x1_0000_0000 0 folder ≡ false
  some_checkpoint [] is some = absurd (some refl)
  some_checkpoint (n ∷ items) is some =
      let found = (listed.checkpoints.each n).0 (subst (λ l. Contains l n) is (is_first n items)) in
      not_if_one checkpoint folder 0x1_0000_0000 0 n (omega arith) (omega (arith, found.0)) found.1

  pub is_not_bare : length l.checkpoints.items ≢ 0 → has_page_0_at_most folder ≡ false
  unfolding has_page_0_at_most
  is_not_bare some = ap (λ (b : Bool). b && none_of page 0xFFFF_FFFF 1 folder) (some_checkpoint l.checkpoints.items refl some)

  pub is_bare_so : length l.checkpoints.items ≡ 0 → has_page_0_at_most folder ≡ list_all (λ n. n == 0) l.pages.items
  unfolding has_page_0_at_most
  is_bare_so none = ap₂ (λ (a b : Bool). a && b) (no_checkpoints none) (pages (list_all (λ n. n == 0) l.pages.items) refl)

module _ (folder : Folder) (slots : Slots) (are : slots ≡ slots_of (bytes_of (folder head))) where
  pub not_if_slot : is_some slots.newest ≡ true → is_new folder ≡ false
  unfolding is_new
  not_if_slot some = ap (λ (b : Bool). not b && nat_lt (length (bytes_of (folder head))) 49 && has_page_0_at_most folder) (ap (λ (s : Slots). is_some s.newest) (sym are) ∙ some)

  pub not_if_long : nat_lt slots.length 49 ≡ false → is_new folder ≡ false
  unfolding is_new
  not_if_long long =
      ap (λ (b : Bool). not (is_some (slots_of (bytes_of (folder head))).newest) && b && has_page_0_at_most folder) (ap (λ (s : Slots). nat_lt s.length 49) (sym are) ∙ long)
      ∙ ap (λ (b : Bool). b && has_page_0_at_most folder) (and_never (not (is_some (slots_of (bytes_of (folder head))).newest)))

  pub new_as_bare : is_some slots.newest ≡ false → nat_lt slots.length 49 ≡ true → is_new folder ≡ has_page_0_at_most folder
  unfolding is_new
  new_as_bare none short =
      ap₂ (λ (a b : Bool). not a && b && has_page_0_at_most folder) (ap (λ (s : Slots). is_some s.newest) (sym are) ∙ none) (ap (λ (s : Slots). nat_lt s.length 49) (sym are) ∙ short)
