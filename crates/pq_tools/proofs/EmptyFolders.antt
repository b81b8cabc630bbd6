-- A folder without a file, and the queue that is made there.
use Rattle.std.proofs.Common.{rules, ◌≡◌, ⊎_elim, ℕ, zero, suc, ◌+◌, ◌<◌, ◌≤◌, ◌^◌, ◌&&◌, ◌==◌, not, nat_lt, Bool, true, false, List, [], ◌∷◌, ◌++◌, length, Option, Some, None, is_some, IsSome, Result, Ok, Err, refl, sym, ◌∙◌, ap, subst, arith}
use Rattle.std.proofs.Math.Path.{ap₂}
use Rattle.std.proofs.lemmas.Bool.{false≢true}
use Rattle.std.proofs.lemmas.List.{nil_from_length}
use Rattle.std.specs.List.{list_any}
use Rattle.std.specs.Prelude.{codes}
use Rattle.io_traits.specs.Folders.{Content, IsPart, Lists, folder_start}
use Rattle.io_traits.specs.Reads.{bytes_of}
use Rattle.io_traits.specs.declared.queue_faults.QueueFault.TheVariants as q
use Rattle.io_traits.specs.declared.pages.PageState.{PageState}
use Rattle.io_traits.specs.declared.queue_faults.Damage.{Damage}
use Rattle.slot_files.specs.Checkpoints.{newest_in, slots_of}
use Rattle.slot_files.proofs.CheckpointReads.{found_within, sayer}
use Rattle.queue_page.specs.Pages.{PageRows}
use Rattle.queue_page.specs.Views.{PageView}
use Rattle.queue_page.specs.declared.row.PageRow.{PageRow}
use Rattle.queue_files.specs.Folders.{Folder, Role, checkpoint, head, names_in, number_text, page}
use Rattle.queue_files.specs.Found.{Damaged, Found, found, has_page_0_at_most, is_new, none_of, since}
use Rattle.queue_files.specs.Kept.{Page, Queue, all_rows, leading}
use Rattle.queue_files.proofs.NewFolders.{new_is_empty}
use Rattle.queue_files.specs.Collected.{IsLost}
use Rattle.queue_files.specs.Known.{IsFirst, IsOfFolder}
use Rattle.queue_files.specs.Listing.{AreNumbers}
use Rattle.queue_files.specs.Marks.{read_in}
use Rattle.queue_files.specs.Queues.{ArePages, IsQueueOf, below}
use Rattle.queue_files.specs.declared.opening.OpenedQueue.{OpenedQueue}
use Rattle.queue_files.specs.declared.sealed_pages.SealedPage.{SealedPage}
use Rattle.queue_files.proofs.Listings.{are_numbers}
use Rattle.queue_files.proofs.Members.{any_decides, is_first}
use Rattle.queue_core.specs.Opening.{page_opened, queue_opened, queue_with, tails_opened}
use Rattle.pq_tools.specs.Numbers.{limits, new_queue, new_state}
use Rattle.pq_tools.specs.Repairs.{AllFresh, HasFile, IsNewQueue}

-- ---- none of its files

none_if_all : (kind : ℕ → Role) (folder : Folder) (count from : ℕ) → ((n : ℕ) → n < from + count → folder (kind n) ≡ None) → none_of kind count from folder ≡ true
unfolding none_of
none_if_all kind folder zero from all = refl
none_if_all kind folder (suc count) from all =
    ap₂ (λ (o : Option (List ℕ)) (rest : Bool). not (is_some o) && rest) (all from (omega arith)) (none_if_all kind folder count (suc from) (λ n within. all n (omega (arith, within))))

none_if_not : {X : Type 0} (o : Option X) → (IsSome o → ⊥) → o ≡ None
none_if_not None none = refl
none_if_not (Some x) none = absurd (none refl)

-- a file of no bytes has no slot
slot_long : (slots : List ℕ) (turn : ℕ) (s : PageState) → newest_in slots ≡ Some (turn, s) → 48 ≤ length slots
slot_long slots turn s is =
    let w = sayer slots turn s is in
    let place = found_within slots w.newest w.is.is in
    omega (arith, place.inside)

no_slot : (newest : Option (ℕ × PageState)) → newest_in [] ≡ newest → is_some newest ≡ false
no_slot None is = refl
no_slot (Some (turn, s)) is = absurd (omega (arith, slot_long [] turn s is))

head_part : IsPart (codes "checkpoint." ++ codes "head")
head_part = record {
  some = λ none. absurd (omega (arith, ap length none));
  plain = λ c. false≢true ((any_decides (codes "checkpoint." ++ codes "head") 47).1 c);
}

module _ (folder : List ℕ) (content : Content) (starts : folder_start folder ≡ folder) (lists : Lists content folder []) where
  pub no_file : HasFile folder content → ⊥
  no_file (part, is_part, some) = omega (arith, ((lists.each part).1 (is_part, subst (λ (f : List ℕ). IsSome (content (f ++ part))) (sym starts) some)).1)

  none_listed : (text : List ℕ) (kind : ℕ → Role) → list_any (λ b. b == 47) text ≡ false → ((n : ℕ) → names_in folder (kind n) ≡ folder ++ (text ++ number_text n)) → AreNumbers kind (read_in (names_in folder) content) []
  none_listed text kind plain named = are_numbers folder content [] text kind [] starts lists plain named (search rules) (λ n. ((λ c. absurd (omega (arith, c.1))), (λ f. absurd (omega (arith, f.1.1)))))

  abbrev f : Folder
  f = read_in (names_in folder) content

  none_there : (text : List ℕ) (kind : ℕ → Role) → list_any (λ b. b == 47) text ≡ false → ((n : ℕ) → names_in folder (kind n) ≡ folder ++ (text ++ number_text n)) → (n : ℕ) → n < 2 ^ 32 → f (kind n) ≡ None
  none_there text kind plain named n fits = none_if_not (f (kind n)) (λ some. omega (arith, (((none_listed text kind plain named).each n).1 (fits, some)).1))

  pub head_none : f head ≡ None
  head_none = none_if_not (f head) (λ some. no_file (codes "checkpoint." ++ codes "head", head_part, some))

  bare : has_page_0_at_most f ≡ true
  unfolding has_page_0_at_most
  bare = ap₂ (λ (a b : Bool). a && b)
      (none_if_all checkpoint f 0x1_0000_0000 0 (λ n within. none_there (codes "checkpoint.") checkpoint refl (λ n. refl) n (omega (arith, within))))
      (none_if_all page f 0xFFFF_FFFF 1 (λ n within. none_there (codes "page.") page refl (λ n. refl) n (omega (arith, within))))

  pub is_new_folder : is_new f ≡ true
  unfolding is_new
  is_new_folder =
      ap (λ (o : Option (List ℕ)). not (is_some (slots_of (bytes_of o)).newest) && nat_lt (length (bytes_of o)) 49 && has_page_0_at_most f) head_none
      ∙ ap₂ (λ (a b : Bool). not a && true && b) (no_slot (newest_in []) refl) bare

  -- it isn't damaged
  pub not_damaged : (d : Damage) → IsLost (names_in folder) (q.Damaged d) (found f) → ⊥
  not_damaged d (role, file, is) = absurd (ok_err (sym (new_is_empty f is_new_folder) ∙ is))
    where
      ok_err : {x : Found} {y : Damaged} → ◌≡◌ {A = Result Found Damaged} (Ok x) (Err y) → ⊥
      ok_err is = absurd cc

  -- ---- the queue that is made there

  first_of : (o : OpenedQueue) → IsOfFolder f o → IsFirst o
  first_of o is = ⊎_elim (λ first. first.1)
      (λ reads. absurd (omega (arith, slot_long (bytes_of (f head)) o.turn o.state reads.head_is.is, ap (λ (x : Option (List ℕ)). length (bytes_of x)) head_none))) is

  pub made_new : (o : OpenedQueue) → IsOfFolder f o → queue_opened folder limits o ≡ new_queue folder
  made_new o of =
      let first = first_of o of in
      let top : o.pages.top ≡ record { version = 2; state = new_state } = first.top ∙ ap (λ (s : PageState). record { version = 2; state = s }) first.state in
      λ i. queue_with folder limits (tails_opened folder (first.tails i) o.pages.pages.items) (page_opened folder (first.state i).page (first.turn i) (first.state i).first_open (top i))

  no_rows : (s : PageState) (top : PageView) (read : PageRows) → top ≡ record { version = read.version; state = record s { count = length read.rows; length = read.length } } → top.state.count ≡ 0 → read.rows ≡ []
  no_rows s top read view none = nil_from_length read.rows (sym (ap (λ (v : PageView). v.state.count) view) ∙ none)

  pub has_none : (o : OpenedQueue) (queue : Queue) → IsOfFolder f o → IsQueueOf f o queue → IsNewQueue queue []
  has_none o queue of is =
      let first = first_of o of in
      let tails : queue.tails ≡ [] = subst (λ (ts : List SealedPage). ArePages ts o.pages.pages.items queue.tails) first.tails is.tails in
      let count : o.pages.top.state.count ≡ 0 = ap (λ (v : PageView). v.state.count) first.top ∙ ap (λ (s : PageState). s.count) first.state in
      let none : is.read.rows ≡ [] = no_rows o.state o.pages.top is.read is.top_is count in
      let rows : queue.top.rows ≡ [] = ap (λ (p : Page). p.rows) is.top ∙ none in
      let least : queue.top.least ≡ 1 = ap (λ (p : Page). p.least) is.top ∙ ap (λ (s : PageState). s.least) first.state in
      let from : queue.top.from ≡ 1 = ap (λ (p : Page). p.from) is.top ∙ ap (λ (s : PageState). s.first_open) first.state in
      record {
        rows_are = ap (λ (ts : List Page). all_rows ts queue.top) tails ∙ ap (since queue.top.from) rows;
        tails = subst AllFresh (sym tails) tt;
        top = record { from = from ∙ sym least; none = ap (λ (p : Page). leading p.acknowledged) is.top ∙ ap (λ (rs : List PageRow). leading (below o.state.first_open rs)) none };
        next = omega (arith, least, ap length rows);
      }

-- a folder with names has a file
pub has_file : (folder : List ℕ) (content : Content) (names : List (List ℕ)) → folder_start folder ≡ folder → Lists content folder names → (length names == 0) ≡ false → HasFile folder content
has_file folder content [] starts lists some = absurd (false≢true (sym some))
has_file folder content (part ∷ names) starts lists some =
    let there = (lists.each part).0 (is_first part names) in
    (part, there.0, subst (λ (f : List ℕ). IsSome (content (f ++ part))) starts there.1)
