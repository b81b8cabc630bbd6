-- Folders of a new queue.
use Rattle.std.proofs.Common.{◌≡◌, inr, ⊎_elim, ℕ, zero, suc, ◌+◌, ◌<◌, ◌≤◌, ◌^◌, ◌&&◌, not, nat_lt, Bool, true, List, [], ◌∷◌, length, take, Option, Some, None, is_some, Ok, refl, ◌∙◌, subst, arith, ap}
use Rattle.std.proofs.Math.Path.{ap₂}
use Rattle.std.proofs.lemmas.Bool.{and_parts, cases_eq, cond-true}
use Rattle.std.proofs.lemmas.Bool.Decides.{nat_tests}
use Rattle.io_traits.specs.Reads.{bytes_of}
use Rattle.crc_frame.specs.Slots.{newest_slot}
use Rattle.slot_files.specs.Checkpoints.{newest_in}
use Rattle.slot_files.proofs.CheckpointReads.{no_slot, none_said}
use Rattle.io_traits.specs.declared.pages.PageState.{PageState}
use Rattle.queue_files.specs.Folders.{Role, head, page, checkpoint, Folder}
use Rattle.queue_files.specs.Found.{Row, since, none_of, has_page_0_at_most, is_new, nothing_found, found}
use Rattle.queue_files.specs.Laws.{StaysNew, FirstIsHeld, FirstIsEmpty}

none_same : (kind : ℕ → Role) (a b : Folder) (count from : ℕ) → ((n : ℕ) → from ≤ n → b (kind n) ≡ a (kind n)) → none_of kind count from b ≡ none_of kind count from a
unfolding none_of
none_same kind a b zero from same = refl
none_same kind a b (suc count) from same =
    ap₂ (λ (o : Option (List ℕ)) (rest : Bool). not (is_some o) && rest) (same from (omega arith)) (none_same kind a b count (suc from) (λ n past. same n (omega (arith, past))))

not_some : (o : Option (List ℕ)) → not (is_some o) ≡ true → o ≡ None
not_some None is = refl
not_some (Some bytes) is = absurd cc

none_there : (kind : ℕ → Role) (folder : Folder) (count from : ℕ) → none_of kind count from folder ≡ true → (n : ℕ) → from ≤ n → n < from + count → folder (kind n) ≡ None
unfolding none_of
none_there kind folder zero from none n past within = absurd (omega (arith, past, within))
none_there kind folder (suc count) from none n past within =
    let parts = and_parts (not (is_some (folder (kind from)))) (none_of kind count (suc from) folder) none in
    ⊎_elim
    (λ (is : from ≡ n). subst (λ (m : ℕ). folder (kind m) ≡ None) is (not_some (folder (kind from)) parts.0))
    (λ other. none_there kind folder count (suc from) parts.1 n (omega (arith, past, other)) (omega (arith, within)))
    (cases_eq from n)

bare_same : (a b : Folder) → ((n : ℕ) → 1 ≤ n → b (page n) ≡ a (page n)) → ((n : ℕ) → b (checkpoint n) ≡ a (checkpoint n)) → has_page_0_at_most b ≡ has_page_0_at_most a
unfolding has_page_0_at_most
bare_same a b pages slots = ap₂ (λ (x y : Bool). x && y) (none_same checkpoint a b 0x1_0000_0000 0 (λ n past. slots n)) (none_same page a b 0xFFFF_FFFF 1 pages)

-- nothing but page 0 stands in a bare folder
record Bare (folder : Folder) : Type 0 where
  checkpoints : (n : ℕ) → n < 2 ^ 32 → folder (checkpoint n) ≡ None
  pages : (n : ℕ) → 1 ≤ n → n < 2 ^ 32 → folder (page n) ≡ None

bare_is : (folder : Folder) → has_page_0_at_most folder ≡ true → Bare folder
unfolding has_page_0_at_most
bare_is folder is =
    let parts = and_parts (none_of checkpoint 0x1_0000_0000 0 folder) (none_of page 0xFFFF_FFFF 1 folder) is in
    record {
      checkpoints = λ n fits. none_there checkpoint folder 0x1_0000_0000 0 parts.0 n (omega arith) (omega (arith, fits));
      pages = λ n past fits. none_there page folder 0xFFFF_FFFF 1 parts.1 n past (omega (arith, fits));
    }

-- its head slot
pub record NewHead (folder : Folder) : Type 0 where
  pub none : newest_slot 48 (bytes_of (folder head)) ≡ None
  pub short : length (bytes_of (folder head)) ≤ 48

said_none : (o : Option (ℕ × PageState)) → not (is_some o) ≡ true → o ≡ None
said_none None is = refl
said_none (Some said) is = absurd cc

pub new_head : (folder : Folder) → is_new folder ≡ true → NewHead folder
unfolding is_new
new_head folder is =
    let parts = and_parts _ _ (and_parts _ _ is).0 in
    record { none = no_slot (bytes_of (folder head)) (said_none (newest_in (bytes_of (folder head))) parts.0); short = grind (arith, nat_tests, parts.1) }

pub new_is_empty : (folder : Folder) → is_new folder ≡ true → found folder ≡ Ok nothing_found
new_is_empty folder is = cond-true (is_new folder) _ _ is

new_bare : (folder : Folder) → is_new folder ≡ true → has_page_0_at_most folder ≡ true
unfolding is_new
new_bare folder is = (and_parts _ _ is).1

pub stays_new : StaysNew
unfolding is_new
stays_new a b is none short pages slots =
    let said : newest_in (bytes_of (b head)) ≡ None = none_said (bytes_of (b head)) none in
    let few : nat_lt (length (bytes_of (b head))) 49 ≡ true = grind (arith, nat_tests, short) in
    ap₂ (λ (o : Option _) (rest : Bool). not (is_some o) && rest && has_page_0_at_most b) said few ∙ bare_same a b pages slots ∙ new_bare a is

pub first_is_held : FirstIsHeld
first_is_held a b is pages slots begun records =
    let bare = bare_is a (new_bare a is) in
    record {
      tails = tt;
      gone = λ n less none. absurd (omega (arith, less));
      top = record {
        front = 2 ∷ [];
        tail = [];
        stands = begun;
        marked = omega arith;
        is_page = record { is_version = inr refl; elements = []; begins = refl; are = refl };
        behind = refl;
        short = omega arith;
        records = records;
      };
      no_pages = λ n above fits. pages n (omega (arith, above)) ∙ bare.pages n (omega (arith, above)) fits;
      no_checkpoints = λ n above fits. slots n ∙ bare.checkpoints n fits;
    }

none_since : (number k : ℕ) → since number (take k []) ≡ []
none_since number zero = refl
none_since number (suc k) = refl

pub first_is_empty : FirstIsEmpty
first_is_empty folder kept =
    let top = kept.kept in
    let rows : kept.held.rows ≡ [] = ⊎_elim (λ is. is ∙ none_since 1 top.count) (λ is. is ∙ none_since _ top.count) top.since in
    let next : kept.held.next ≡ 1 = omega (arith, top.next_is, top.within) in
    let recorded : kept.held.recorded ≡ 1 = omega (arith, kept.recorded, next) in
    kept.is_found ∙ ap₂ (λ (l : List Row) (n : ℕ). Ok (record { rows = l; next = n; recorded = kept.held.recorded })) rows next
    ∙ ap (λ (n : ℕ). Ok (record { rows = []; next = 1; recorded = n })) recorded
