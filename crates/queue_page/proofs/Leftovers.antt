-- What a stop leaves of a page while it is opened.
use Rattle.std.proofs.Common.{◌≡◌, ℕ, ◌+◌, ◌-◌, ◌≤◌, Bool, true, false, IsTrue, List, [], ◌++◌, length, take, drop, Option, Some, None, option_map, unwrap_or, Result, Ok, Err, sym, ap, ◌∙◌, subst, arith, append-nil, take-append-drop, length-take, if◌then◌else◌}
use Rattle.std.proofs.lemmas.Bool.{false≢true}
use Rattle.std.proofs.lemmas.List.{take-take, take_all, drop-take, drop-drop}
use Rattle.io_traits.specs.Folders.{Content}
use Rattle.io_traits.specs.Reads.{bytes_of}
use Rattle.io_traits.specs.Images.{Image, FileImage, at_rest}
use Rattle.io_traits.specs.Chance.{StandsAt}
use Rattle.io_traits.specs.Moments.{MayLeaveNow, EachMoment, ImagesTell}
use Rattle.io_traits.specs.Tails.{HoldsTail, TailImage, HasTail, HoldsCut}
use Rattle.io_traits.specs.declared.stores.Store.{Ghosts as StoreWords}
use Rattle.io_traits.proofs.Moments.{weaker, one_then_other}
use Rattle.io_traits.proofs.TailImages.{at_rest_tail}
use Rattle.io_traits.specs.declared.pages.PageState.{PageState}
use Rattle.io_traits.proofs.Looking.{Nothing, nothing_left}
use Rattle.queue_page.specs.Elements.{misfit, and_then, is_element}
use Rattle.queue_page.specs.Runs.{run, behind}
use Rattle.queue_page.specs.Views.{PageView}
use Rattle.queue_page.specs.Pages.{PageRows, recorded, counted, is_version, version_of, within as within_extent, room_of, run_behind, with_run, extended, opened, opened_view}
use Rattle.queue_page.specs.Leaving.{SaysSame}
use Rattle.queue_page.specs.declared.fault.Mismatch.{Mismatch}
use Rattle.queue_page.proofs.ElementReads.{and_then_ok}
use Rattle.queue_page.proofs.RunLemmas.{run_took, none_behind, none_there, FrontStands}
use Rattle.queue_page.proofs.PageReads.{recorded_long_if, recorded_took, as_rows}

-- other bytes with the same front, behind which no element stands but where one stood
pub record Fronted (n : ℕ) (bytes other : List ℕ) : Type 0 where
  pub stands : take n other ≡ take n bytes
  pub only : FrontStands (drop n other) (drop n bytes)
  pub within : n ≤ length bytes

module _ (s : PageState) (bytes other : List ℕ) where
  pub same_recorded : (n : ℕ) → s.length ≤ n → n ≤ length bytes → take n other ≡ take n bytes → recorded s other ≡ recorded s bytes
  same_recorded n long within stands =
      let there : n ≤ length other = omega (arith, within, ap length stands, length-take n bytes, length-take n other) in
      let same : take s.length other ≡ take s.length bytes = sym (take-take s.length n other long) ∙ ap (take s.length) stands ∙ take-take s.length n bytes long in
      recorded_long_if s other (omega (arith, long, there))
      ∙ ap (λ (e : List ℕ). if is_version (version_of e) then counted s (version_of e) (within_extent s e) else Err (misfit 0 (version_of e) 2)) same
      ∙ sym (recorded_long_if s bytes (omega (arith, long, within)))

  recorded_same : (n : ℕ) → s.length ≤ n → Fronted n bytes other → recorded s other ≡ recorded s bytes
  recorded_same n long f = same_recorded n long f.within f.stands

  run_same : (rows : PageRows) → Fronted (run_behind s rows.version bytes).end bytes other → with_run rows (run_behind s rows.version other) ≡ with_run rows (run_behind s rows.version bytes)
  run_same rows f =
      let limit = room_of s in
      let number = s.least + s.count in
      let r = run_behind s rows.version bytes in
      let took = run_took limit rows.version number s.length (drop s.length bytes) in
      let size = took.size in
      let ends : take (s.length + size) other ≡ take (s.length + size) bytes = subst (λ n. take n other ≡ take n bytes) took.end_is f.stands in
      let begins : take size (drop s.length other) ≡ take size (drop s.length bytes) = sym (drop-take s.length size other) ∙ ap (drop s.length) ends ∙ drop-take s.length size bytes in
      let rest_of : (xs : List ℕ) → drop r.end xs ≡ drop size (drop s.length xs) = λ xs. ap (λ n. drop n xs) took.end_is ∙ sym (drop-drop size s.length xs) in
      let only : FrontStands (drop size (drop s.length other)) (drop size (drop s.length bytes)) =
      subst (λ (b : List ℕ). FrontStands b (drop size (drop s.length bytes))) (rest_of other) (subst (FrontStands (drop r.end other)) (rest_of bytes) f.only) in
      let rest = run (limit - length r.rows) rows.version (number + length r.rows) (s.length + size) (drop size (drop s.length other)) in
      let none = none_there (limit - length r.rows) rows.version (number + length r.rows) (s.length + size) (drop size (drop s.length other)) (drop size (drop s.length bytes)) only
      (none_behind limit rows.version number s.length (drop s.length bytes) took) in
      let again : run_behind s rows.version other ≡ behind r.rows rest = took.again (drop s.length other) begins in
      let all : rows.rows ++ (r.rows ++ rest.rows) ≡ rows.rows ++ r.rows = ap (λ l. rows.rows ++ l) (ap (λ l. r.rows ++ l) none.rows ∙ append-nil r.rows) in
      let end : rest.end ≡ r.end = none.end ∙ sym took.end_is in
      ap (with_run rows) again ∙ (λ i. record { version = rows.version; rows = all i; length = end i })

  abbrev more : Bool → PageRows → Result PageRows Mismatch
  more head rows = Ok (extended head s bytes rows)

  same_by : (head : Bool) (rows last : PageRows) → recorded s bytes ≡ Ok rows → more head rows ≡ Ok last → Fronted last.length bytes other → opened head s other ≡ opened head s bytes
  same_by false rows last read is f =
      let same : rows ≡ last = cc in
      let took = recorded_took s bytes rows read in
      let long : s.length ≤ last.length = omega (arith, ap (λ (r : PageRows). r.length) same, took.length_is) in
      ap (λ r. and_then r (λ page. Ok (extended false s other page))) (recorded_same last.length long f)
  same_by true rows last read is f =
      let same : with_run rows (run_behind s rows.version bytes) ≡ last = cc in
      let took = run_took (room_of s) rows.version (s.least + s.count) s.length (drop s.length bytes) in
      let end : (run_behind s rows.version bytes).end ≡ last.length = ap (λ (r : PageRows). r.length) same in
      let long : s.length ≤ last.length = omega (arith, end, took.end_is) in
      ap (λ r. and_then r (λ page. Ok (extended true s other page))) (recorded_same last.length long f ∙ read)
      ∙ ap Ok (run_same rows (subst (λ n. Fronted n bytes other) (sym end) f))
      ∙ ap (λ r. and_then r (λ page. Ok (extended true s bytes page))) (sym read)

  pub opened_same : (head : Bool) (page : PageView) → opened_view head s bytes ≡ Ok page → Fronted page.state.length bytes other → opened head s other ≡ opened head s bytes
  opened_same head page read f =
      let r = as_rows s (opened head s bytes) page read in
      let b = and_then_ok (recorded s bytes) (λ rows. Ok (extended head s bytes rows)) r.rows r.is in
      same_by head b.0 r.rows b.1 b.2 (subst (λ n. Fronted n bytes other) (sym (ap (λ (p : PageView). p.state.length) r.seen)) f)

-- a missing file is no page
none_opened : (head : Bool) (s : PageState) (page : PageView) → opened_view head s [] ≡ Ok page → ⊥
none_opened head s page read =
    let r = as_rows s (opened head s []) page read in
    let b = and_then_ok (recorded s []) (λ rows. Ok (extended head s [] rows)) r.rows r.is in
    let took = recorded_took s [] b.0 b.1 in
    let none : take s.length [] ≡ [] = take_all s.length [] (omega arith) in
    false≢true (ap (λ (e : List ℕ). is_version (version_of e)) (sym none) ∙ took.known)

module _ {S : Type 0} (store : StoreWords S) (tell : ImagesTell store) (name : List ℕ) (head : Bool) (s : PageState) (file : Option (List ℕ)) where
  abbrev Same : Image → Type 0
  Same = SaysSame name head s file

  abbrev Rests : S → Type 0
  Rests now = (i : Image) → MayLeaveNow store now i → i name ≡ at_rest file

  rest_same : (i : Image) → i name ≡ at_rest file → Same i
  rest_same i is = λ chance. ap (λ (f : FileImage). opened head s (bytes_of f.file)) is

  -- calls that only look
  pub looked : (old new : S) → Nothing store old new → Rests old → EachMoment store old new Same
  looked old new nothing rests = weaker store tell old new (MayLeaveNow store old) Same (nothing_left store old new nothing) (λ i told left. rest_same i (rests i left))

  pub seen_at_rest : (now : S) → (IsTrue store.tells → (i : Image) × store.may_leave now (store.moment now) i × ((n : List ℕ) → (i n).file ≡ store.seen now n)) → Rests now → IsTrue store.tells → store.seen now name ≡ file
  seen_at_rest now law rests told = let i = law told in sym (i.2 name) ∙ ap (λ (f : FileImage). f.file) (rests i.0 i.1)

-- a cut behind what was read
held_same : (head : Bool) (s : PageState) (bytes : List ℕ) (page : PageView) (f : FileImage) → opened_view head s bytes ≡ Ok page → page.state.length ≤ length bytes
    → HoldsTail is_element (take page.state.length bytes) (drop page.state.length bytes) f → opened head s (bytes_of f.file) ≡ opened head s bytes
held_same head s bytes page f read within held =
    let n = page.state.length in
    let long : length (take n bytes) ≡ n = omega (arith, length-take n bytes, within) in
    let stands : take n (bytes_of f.file) ≡ take n bytes = ap (λ k. take k (bytes_of f.file)) (sym long) ∙ held.stands in
    let zero : n - length (take n bytes) ≡ 0 = omega (arith, long) in
    let only : FrontStands (drop n (bytes_of f.file)) (drop n bytes) =
    λ frame is some here. subst (λ k. StandsAt k frame (drop n bytes)) zero (held.only n frame (omega (arith, long)) is some here) in
    opened_same s bytes (bytes_of f.file) head page read (record { stands = stands; only = only; within = within })

module _ {S : Type 0} (store : StoreWords S) (tell : ImagesTell store) (name : List ℕ) (head : Bool) (s : PageState) (bytes : List ℕ) (page : PageView) (mid new : S) where
  has_tail : ((i : Image) → MayLeaveNow store mid i → i name ≡ at_rest (Some bytes)) → (IsTrue store.tells → store.seen mid name ≡ Some bytes) → HasTail store mid name (take page.state.length bytes) (drop page.state.length bytes)
  has_tail rests seen =
      let n = page.state.length in
      let all : take n bytes ++ drop n bytes ≡ bytes = take-append-drop n bytes in
      record {
        images = λ i left. subst (TailImage (take n bytes) (drop n bytes)) (ap (λ b. at_rest (Some b)) all ∙ sym (rests i left)) (at_rest_tail (take n bytes) (drop n bytes));
        seen = λ told. seen told ∙ ap Some (sym all);
      }

  cut_each : ((i : Image) → MayLeaveNow store mid i → i name ≡ at_rest (Some bytes)) → (IsTrue store.tells → store.seen mid name ≡ Some bytes)
      → (IsTrue store.tells → (opened_view head s bytes ≡ Ok page) × (page.state.length ≤ length bytes)) → HoldsCut store name page.state.length mid new
      → (t : ℕ) (i : Image) → store.moment mid ≤ t → t ≤ store.moment new → store.may_leave new t i → SaysSame name head s (Some bytes) i
  cut_each rests seen read cut t i from to left = λ chance.
      let told = tell new t i left in
      let n = page.state.length in
      let long : n ≡ length (take n bytes) = omega (arith, length-take n bytes, (read told).1) in
      held_same head s bytes page (i name) (read told).0 (read told).1 ((cut is_element (take n bytes) (drop n bytes) (has_tail rests seen) long).each t i from to left chance)

pub cut_same : {S : Type 0} (store : StoreWords S) → ImagesTell store → (name : List ℕ) (head : Bool) (s : PageState) (file : Option (List ℕ)) (page : PageView) (mid new : S) (P : Image → Type 0)
    → ((i : Image) → MayLeaveNow store mid i → i name ≡ at_rest file) → (IsTrue store.tells → store.seen mid name ≡ file)
    → (IsTrue store.tells → (opened_view head s (bytes_of file) ≡ Ok page) × (page.state.length ≤ length (bytes_of file))) → EachMoment store mid new P → HoldsCut store name page.state.length mid new
    → EachMoment store mid new (SaysSame name head s file)
cut_same store tell name head s (Some bytes) page mid new P rests seen read run cut =
    record { later = run.later; each = cut_each store tell name head s bytes page mid new rests seen read cut; past = run.past }
cut_same store tell name head s None page mid new P rests seen read run cut =
    record { later = run.later; each = λ t i from to left chance. absurd (none_opened head s page (read (tell new t i left)).0); past = run.past }

len_is : (file : Option (List ℕ)) (o : Option ℕ) (len : ℕ) → o ≡ option_map length file → len ≡ unwrap_or o 0 → len ≡ length (bytes_of file)
len_is None o len told read = read ∙ ap (λ x. unwrap_or x 0) told
len_is (Some bytes) o len told read = read ∙ ap (λ x. unwrap_or x 0) told

-- a look and then a cut behind what was read
opened_run : {S : Type 0} (store : StoreWords S) → ImagesTell store → (name : List ℕ) (head : Bool) (s : PageState) (file : Option (List ℕ)) (page : PageView) (old mid new : S) (P : Image → Type 0)
    → ((now : S) → IsTrue store.tells → (i : Image) × store.may_leave now (store.moment now) i × ((n : List ℕ) → (i n).file ≡ store.seen now n)) → ((i : Image) → MayLeaveNow store old i → i name ≡ at_rest file) → Nothing store old mid
    → (IsTrue store.tells → (opened_view head s (bytes_of (store.seen old name)) ≡ Ok page) × (page.state.length ≤ length (bytes_of (store.seen old name)))) → EachMoment store mid new P → HoldsCut store name page.state.length mid new
    → EachMoment store old new (SaysSame name head s file)
opened_run store tell name head s file page old mid new P law rests nothing read run cut =
    let rests_mid : (i : Image) → MayLeaveNow store mid i → i name ≡ at_rest file = λ i left. rests i (nothing.images i left) in
    let seen_old = seen_at_rest store tell name head s file old (law old) rests in
    let seen_mid = seen_at_rest store tell name head s file mid (law mid) rests_mid in
    let read_of : IsTrue store.tells → (opened_view head s (bytes_of file) ≡ Ok page) × (page.state.length ≤ length (bytes_of file)) =
    λ told. subst (λ (f : Option (List ℕ)). (opened_view head s (bytes_of f) ≡ Ok page) × (page.state.length ≤ length (bytes_of f))) (seen_old told) (read told) in
    one_then_other store tell old mid new (SaysSame name head s file) (SaysSame name head s file) (SaysSame name head s file)
    (looked store tell name head s file old mid nothing rests) (cut_same store tell name head s file page mid new P rests_mid seen_mid read_of run cut) (λ i told p. p) (λ i told p. p)

-- the same, by what the calls told: the length of the file, the page, and how many bytes of it are kept
pub scanned : {S : Type 0} (store : StoreWords S) → ImagesTell store → (name : List ℕ) (head : Bool) (s : PageState) (file : Option (List ℕ)) (page : PageView) (old between mid new : S) (P : Image → Type 0)
    → ((now : S) → IsTrue store.tells → (i : Image) × store.may_leave now (store.moment now) i × ((n : List ℕ) → (i n).file ≡ store.seen now n)) → ((i : Image) → MayLeaveNow store old i → i name ≡ at_rest file) → Nothing store old mid
    → (IsTrue store.tells → store.seen between ≡ store.seen old) → (told : Option ℕ) (len kept : ℕ) → (IsTrue store.tells → told ≡ option_map length (store.seen old name)) → len ≡ unwrap_or told 0
    → (IsTrue store.tells → len ≡ length (bytes_of (store.seen between name)) → opened_view head s (bytes_of (store.seen between name)) ≡ Ok page) → (kept ≡ page.state.length) × (page.state.length ≤ len)
    → EachMoment store mid new P → HoldsCut store name kept mid new → EachMoment store old new (SaysSame name head s file)
scanned store tell name head s file page old between mid new P law rests nothing same_reads told len kept length_told len_is_told read kept_is run cut =
    opened_run store tell name head s file page old mid new P law rests nothing
    (λ t.
    let same : store.seen between name ≡ store.seen old name = ap (λ (c : Content). c name) (same_reads t) in
    let there = len_is (store.seen old name) told len (length_told t) len_is_told in
    (sym (ap (λ (f : Option (List ℕ)). opened_view head s (bytes_of f)) same) ∙ read t (there ∙ sym (ap (λ (f : Option (List ℕ)). length (bytes_of f)) same)), omega (arith, there, kept_is.1)))
    run (subst (λ n. HoldsCut store name n mid new) kept_is.0 cut)
