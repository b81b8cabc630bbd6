-- What a folder holds, by what was read of its pages.
use Rattle.std.proofs.Common.{◌≡◌, ℕ, ◌+◌, Bool, true, false, List, [], ◌∷◌, ◌++◌, map, Option, Some, None, option_map, Result, Ok, Err, refl, sym, ◌∙◌, ap, subst}
use Rattle.std.specs.Result.{IsErrAnd}
use Rattle.io_traits.specs.Folders.{Content}
use Rattle.io_traits.specs.Reads.{bytes_of}
use Rattle.std.proofs.lemmas.Result.{err_from_is_err_and}
use Rattle.io_traits.specs.declared.queue_faults.QueueFault.{QueueFault}
use Rattle.io_traits.specs.declared.queue_faults.QueueFault.TheVariants as f
use Rattle.io_traits.specs.declared.pages.PageState.{PageState}
use Rattle.queue_page.specs.Answers.{Answers}
use Rattle.queue_page.specs.Elements.{and_then}
use Rattle.queue_page.specs.Pages.{PageRows, opened, opened_view, view_of}
use Rattle.queue_page.specs.Views.{PageView}
use Rattle.queue_page.proofs.ElementReads.{and_then_ok}
use Rattle.queue_files.specs.Folders.{page, Names, Folder}
use Rattle.queue_files.specs.Checkpoints.{misfit}
use Rattle.queue_files.specs.Found.{Damaged, or_damage, Found, Held, head_held, falling, unless, opened_page, top_found, with_page, read_all, found_in}
use Rattle.queue_files.specs.Collected.{collected, IsLost}
use Rattle.queue_files.specs.Opening.{held_tail, held_of, view_at, views_of, falls_at}
use Rattle.queue_files.specs.Marks.{read_in}
use Rattle.queue_files.specs.declared.checkpoint_state.Differing.{Differing}
use Rattle.queue_files.specs.Queues.{HaveBytes}
use Rattle.queue_files.specs.Reading.{found_of, IsBelow, IsScanned, FindsScanned}
use Rattle.queue_files.specs.declared.page_scan.PagesBelow.{PagesBelow}
use Rattle.queue_files.specs.declared.scanned.Scanned.{Scanned}
use Rattle.queue_files.specs.declared.sealed_pages.SealedPage.{SealedPage}
use Rattle.queue_files.proofs.Collecting.{lost_of}

or_ok : {X M : Type 0} (r : Result X M) (damage : M → Damaged) (x : X) → or_damage r damage ≡ Ok x → r ≡ Ok x
or_ok (Ok y) damage x is = cc
or_ok (Err m) damage x is = absurd cc

ok_same : {X M : Type 0} (x y : X) → ◌≡◌ {A = Result X M} (Ok x) (Ok y) → x ≡ y
ok_same x y is = cc

err_same : {X : Type 0} (a b : Damaged) → ◌≡◌ {A = Result X Damaged} (Err a) (Err b) → a ≡ b
err_same a b is = cc

lost_view : {M : Type 0} (s : PageState) (e : Damaged) (damage : M → Damaged) (r : Result PageRows M) → or_damage (and_then r (λ page. Ok (view_of s page))) damage ≡ Err e → or_damage r damage ≡ Err e
lost_view s e damage (Ok read) is = absurd cc
lost_view s e damage (Err m) is = ap Err (err_same (damage m) e is)

-- a page that reads as this has rows
pub record HasRows (is_head : Bool) (p : Held) (v : PageView) : Type 0 where
  pub read : PageRows
  pub opens : opened_page is_head p ≡ Ok read
  pub view : view_of p.state read ≡ v

has_rows : (is_head : Bool) (p : Held) (v : PageView) → view_at is_head p ≡ Ok v → HasRows is_head p v
has_rows is_head p v is =
    let made = and_then_ok (opened is_head p.state p.bytes) (λ page. Ok (view_of p.state page)) v (or_ok (opened_view is_head p.state p.bytes) (λ m. (page p.number, misfit m.place m.found m.expected)) v is) in
    record {
      read = made.0;
      opens = ap (λ r. or_damage r (λ m. (page p.number, misfit m.place m.found m.expected))) made.1;
      view = ok_same (view_of p.state made.0) v made.2;
    }

-- one that is damaged as it is read is damaged
view_lost : (is_head : Bool) (p : Held) (e : Damaged) → view_at is_head p ≡ Err e → opened_page is_head p ≡ Err e
view_lost is_head p e is = lost_view p.state e (λ m. (page p.number, misfit m.place m.found m.expected)) (opened is_head p.state p.bytes) is

-- ---- all pages

pub record ReadsRows (tails : List Held) (top : Held) (v : PageView) : Type 0 where
  pub rows : Found
  pub reads : read_all tails top ≡ Ok rows
  pub next : rows.next ≡ v.state.least + v.state.count
  pub recorded : rows.recorded ≡ top.state.least + top.state.count

pub all_read : (tails : List Held) (top : Held) (views : List PageView) (v : PageView) → collected (view_at false) tails ≡ Ok views → view_at true top ≡ Ok v → ReadsRows tails top v
all_read [] top views v tails_are top_is =
    let h = has_rows true top v top_is in
    record {
      rows = top_found top h.read;
      reads = ap (λ (r : Result PageRows Damaged). and_then r (λ read. Ok (top_found top read))) h.opens;
      next = ap (λ (w : PageView). w.state.least + w.state.count) h.view;
      recorded = refl;
    }
all_read (p ∷ tails) top views v tails_are top_is =
    let first = and_then_ok (view_at false p) (λ y. and_then (collected (view_at false) tails) (λ ys. Ok (y ∷ ys))) views tails_are in
    let rest = and_then_ok (collected (view_at false) tails) (λ ys. Ok (first.0 ∷ ys)) views first.2 in
    let h = has_rows false p first.0 first.1 in
    let more = all_read tails top rest.0 v rest.1 top_is in
    record {
      rows = with_page p h.read more.rows;
      reads = ap (λ (r : Result PageRows Damaged). and_then r (λ read. and_then (read_all tails top) (λ found. Ok (with_page p read found)))) h.opens
          ∙ ap (λ (r : Result Found Damaged). and_then r (λ found. Ok (with_page p h.read found))) more.reads;
      next = more.next;
      recorded = more.recorded;
    }

behind_lost : (v : PageView) (e : Damaged) (r : Result (List PageView) Damaged) → and_then r (λ ys. Ok (v ∷ ys)) ≡ Err e → r ≡ Err e
behind_lost v e (Ok ys) is = absurd cc
behind_lost v e (Err m) is = is

pub tail_lost : (tails : List Held) (top : Held) (e : Damaged) → collected (view_at false) tails ≡ Err e → read_all tails top ≡ Err e
tail_lost [] top e is = absurd cc
tail_lost (p ∷ tails) top e is = at (view_at false p) refl (λ lost. tail_lost tails top e lost)
  where
    at : (r : Result PageView Damaged) → view_at false p ≡ r → (collected (view_at false) tails ≡ Err e → read_all tails top ≡ Err e) → read_all (p ∷ tails) top ≡ Err e
    at (Err m) first again =
        let same : ◌≡◌ {A = Result (List PageView) Damaged} (Err m) (Err e) = sym (ap (λ (r : Result PageView Damaged). and_then r (λ y. and_then (collected (view_at false) tails) (λ ys. Ok (y ∷ ys)))) first) ∙ is in
        let m_is : m ≡ e = cc in
        ap (λ (r : Result PageRows Damaged). and_then r (λ read. and_then (read_all tails top) (λ found. Ok (with_page p read found)))) (view_lost false p m first) ∙ ap Err m_is
    at (Ok v) first again =
        let h = has_rows false p v first in
        let rest : and_then (collected (view_at false) tails) (λ ys. Ok (v ∷ ys)) ≡ Err e = sym (ap (λ (r : Result PageView Damaged). and_then r (λ y. and_then (collected (view_at false) tails) (λ ys. Ok (y ∷ ys)))) first) ∙ is in
        let more = again (behind_lost v e (collected (view_at false) tails) rest) in
        ap (λ (r : Result PageRows Damaged). and_then r (λ read. and_then (read_all tails top) (λ found. Ok (with_page p read found)))) h.opens
        ∙ ap (λ (r : Result Found Damaged). and_then r (λ found. Ok (with_page p h.read found))) more

pub top_lost : (tails : List Held) (top : Held) (views : List PageView) (e : Damaged) → collected (view_at false) tails ≡ Ok views → view_at true top ≡ Err e → read_all tails top ≡ Err e
top_lost [] top views e tails_are top_is = ap (λ (r : Result PageRows Damaged). and_then r (λ read. Ok (top_found top read))) (view_lost true top e top_is)
top_lost (p ∷ tails) top views e tails_are top_is =
    let first = and_then_ok (view_at false p) (λ y. and_then (collected (view_at false) tails) (λ ys. Ok (y ∷ ys))) views tails_are in
    let rest = and_then_ok (collected (view_at false) tails) (λ ys. Ok (first.0 ∷ ys)) views first.2 in
    let h = has_rows false p first.0 first.1 in
    ap (λ (r : Result PageRows Damaged). and_then r (λ read. and_then (read_all tails top) (λ found. Ok (with_page p read found)))) h.opens
    ∙ ap (λ (r : Result Found Damaged). and_then r (λ found. Ok (with_page p h.read found))) (top_lost tails top rest.0 e rest.1 top_is)

-- ---- the folder

views_are : (folder : Folder) (tails : List SealedPage) → collected (view_at false) (map (held_tail folder) tails) ≡ views_of folder tails
views_are folder [] = refl
views_are folder (t ∷ tails) = ap (λ (r : Result (List PageView) Damaged). and_then (view_at false (held_tail folder t)) (λ y. and_then r (λ ys. Ok (y ∷ ys)))) (views_are folder tails)

module _ (folder : Folder) (s : PageState) (numbers : List ℕ) (tails : List SealedPage) (held : held_of folder numbers ≡ Ok (map (held_tail folder) tails)) where
  abbrev top : Held
  top = head_held folder s

  abbrev hs : List Held
  hs = map (held_tail folder) tails

  in_pages : found_of folder s numbers ≡ unless (falling 0 (hs ++ top ∷ [])) (read_all hs top)
  in_pages = ap (λ (r : Result (List Held) Damaged). and_then r (found_in top)) held

  pub found_falls : (e : Damaged) → falling 0 (hs ++ top ∷ []) ≡ Some e → found_of folder s numbers ≡ Err e
  found_falls e falls = in_pages ∙ ap (λ (o : Option Damaged). unless o (read_all hs top)) falls

  module _ (rises : falling 0 (hs ++ top ∷ []) ≡ None) where
    in_rows : found_of folder s numbers ≡ read_all hs top
    in_rows = in_pages ∙ ap (λ (o : Option Damaged). unless o (read_all hs top)) rises

    pub found_tail_lost : (names : Names) (fault : QueueFault) → IsLost names fault (views_of folder tails) → IsLost names fault (found_of folder s numbers)
    found_tail_lost names fault lost = lost_of names fault (views_of folder tails) (found_of folder s numbers) (λ e is. in_rows ∙ tail_lost hs top e (views_are folder tails ∙ is)) lost

    module _ (views : List PageView) (read : views_of folder tails ≡ Ok views) where
      pub found_top_lost : (names : Names) (fault : QueueFault) → IsLost names fault (view_at true top) → IsLost names fault (found_of folder s numbers)
      found_top_lost names fault lost = lost_of names fault (view_at true top) (found_of folder s numbers) (λ e is. in_rows ∙ top_lost hs top views e (views_are folder tails ∙ read) is) lost

      pub found_rows : (v : PageView) → view_at true top ≡ Ok v → ReadsRows hs top v
      found_rows v is = all_read hs top views v (views_are folder tails ∙ read) is

      pub rows_found : (v : PageView) (rows : ReadsRows hs top v) → found_of folder s numbers ≡ Ok rows.rows
      rows_found v rows = in_rows ∙ rows.reads

-- what is read of one page, with the name of its file
pub page_lost : (names : Names) (is_head : Bool) (p : Held) (name : List ℕ) (fault : QueueFault) → name ≡ names (page p.number) → Answers (λ (v : PageView). v) name (Err fault) (opened_view is_head p.state p.bytes)
    → IsLost names fault (view_at is_head p)
page_lost names is_head p name (f.Damaged d) is said =
    (page p.number, said.0 ∙ is, ap (λ r. or_damage r (λ m. (page p.number, misfit m.place m.found m.expected))) said.1)
page_lost names is_head p name f.Fault is said = tt
page_lost names is_head p name f.Memory is said = tt

pub page_read : (is_head : Bool) (p : Held) (v : PageView) → opened_view is_head p.state p.bytes ≡ Ok v → view_at is_head p ≡ Ok v
page_read is_head p v is = ap (λ r. or_damage r (λ m. (page p.number, misfit m.place m.found m.expected))) is

-- ---- exits

-- what a `?` hands on
pub handed_on : {X : Type 0} (Says : Result X QueueFault → Type 0) (result : Result X QueueFault) (lost : QueueFault) → IsErrAnd result (λ e. e ≡ lost) → Says (Err lost) → Says result
handed_on Says result lost err says =
    let p = err_from_is_err_and result err in
    subst Says (sym (p.1 ∙ ap Err p.2)) says

-- where none falls
pub none_falls : (folder : Folder) (s : PageState) (slice tails : List SealedPage) (result : Option (ℕ × Differing)) → slice ≡ tails → result ≡ None
    → ((folder : Folder) → option_map falls_at result ≡ falling 0 (map (held_tail folder) slice ++ head_held folder s ∷ [])) → falling 0 (map (held_tail folder) tails ++ head_held folder s ∷ []) ≡ None
none_falls folder s slice tails result same is says =
    subst (λ l. falling 0 (map (held_tail folder) l ++ head_held folder s ∷ []) ≡ None) same (sym (says folder) ∙ ap (option_map falls_at) is)

-- what was read of the pages, where reads give the same as at first
module _ (names : Names) (old now : Content) (same : now ≡ old) (slice tails : List SealedPage) (is_slice : slice ≡ tails) where
  pub pages_lost : (fault : QueueFault) → IsLost names fault (views_of (read_in names now) slice) → IsLost names fault (views_of (read_in names old) tails)
  pages_lost fault lost = subst (λ (c : Content). IsLost names fault (views_of (read_in names c) tails)) same (subst (λ l. IsLost names fault (views_of (read_in names now) l)) is_slice lost)

  pub pages_read : (views : List PageView) → views_of (read_in names now) slice ≡ Ok views → views_of (read_in names old) tails ≡ Ok views
  pages_read views is = subst (λ (c : Content). views_of (read_in names c) tails ≡ Ok views) same (subst (λ l. views_of (read_in names now) l ≡ Ok views) is_slice is)

  pub pages_have : HaveBytes (read_in names now) slice → HaveBytes (read_in names old) tails
  pages_have have = subst (HaveBytes (read_in names old)) is_slice (subst (λ (c : Content). HaveBytes (read_in names c) slice) same have)

-- and of the head page
module _ (names : Names) (old now : Content) (same : now ≡ old) (s : PageState) (name : List ℕ) (is_name : name ≡ names (page s.page)) where
  pub head_lost : (fault : QueueFault) → Answers (λ (v : PageView). v) name (Err fault) (opened_view true s (bytes_of (now name))) → IsLost names fault (view_at true (head_held (read_in names old) s))
  head_lost fault said =
      page_lost names true (head_held (read_in names old) s) name fault is_name
      (subst (λ n. Answers (λ (v : PageView). v) name (Err fault) (opened_view true s (bytes_of (old n)))) is_name
      (subst (λ (c : Content). Answers (λ (v : PageView). v) name (Err fault) (opened_view true s (bytes_of (c name)))) same said))

  pub head_read : (v : PageView) → opened_view true s (bytes_of (now name)) ≡ Ok v → view_at true (head_held (read_in names old) s) ≡ Ok v
  head_read v is =
      page_read true (head_held (read_in names old) s) v
      (subst (λ n. opened_view true s (bytes_of (old n)) ≡ Ok v) is_name (subst (λ (c : Content). opened_view true s (bytes_of (c name)) ≡ Ok v) same is))

-- the head page, behind the pages below it
module _ (names : Names) (old now : Content) (same : now ≡ old) (s : PageState) (numbers : List ℕ) (b : PagesBelow) (below : IsBelow (read_in names old) numbers b)
    (rises : (f : Folder) → falling 0 (map (held_tail f) b.tails.items ++ head_held f s ∷ []) ≡ None) (name : List ℕ) (is_name : name ≡ names (page s.page)) where
  abbrev folder : Folder
  folder = read_in names old

  pub last_lost : (result : Result Scanned QueueFault) (lost : QueueFault) → IsErrAnd result (λ e. e ≡ lost) → Answers (λ (v : PageView). v) name (Err lost) (opened_view true s (bytes_of (now name)))
      → FindsScanned names folder s numbers result
  last_lost result lost err said =
      handed_on (FindsScanned names folder s numbers) result lost err
      (found_top_lost folder s numbers b.tails.items below.tails (rises folder) b.pages.items below.pages names lost (head_lost names old now same s name is_name lost said))

  pub last_read : (v : PageView) → opened_view true s (bytes_of (now name)) ≡ Ok v → IsScanned folder s numbers (record { tails = b.tails; pages = b.pages; top = v })
  last_read v is =
      let top = head_read names old now same s name is_name v is in
      let rows = found_rows folder s numbers b.tails.items below.tails (rises folder) b.pages.items below.pages v top in
      record {
        tails = below.tails;
        pages = below.pages;
        top = top;
        rows = rows.rows;
        is_found = rows_found folder s numbers b.tails.items below.tails (rises folder) b.pages.items below.pages v rows;
        next = rows.next;
        recorded = rows.recorded;
      }
