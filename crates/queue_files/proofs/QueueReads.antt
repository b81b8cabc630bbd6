-- What reads give once the pages of a folder are read.
use Rattle.std.proofs.Common.{◌≡◌, ◌≢◌, ⊎_elim, ℕ, zero, suc, ◌<◌, ◌^◌, true, IsTrue, List, [], ◌∷◌, ◌++◌, take, Option, Some, None, option_map, Ok, refl, sym, ◌∙◌, ap, subst}
use Rattle.std.proofs.lemmas.Bool.{false≢true}
use Rattle.io_traits.specs.Reads.{bytes_of}
use Rattle.io_traits.specs.Images.{Image, IsAtRest, at_rest}
use Rattle.io_traits.specs.Moments.{MayLeaveNow, EachMoment, LeavesBeside, ReadsBeside, ImagesTell}
use Rattle.io_traits.specs.Tails.{IsSettled}
use Rattle.io_traits.specs.declared.stores.Store.{Ghosts as StoreWords}
use Rattle.io_traits.proofs.Moments.{holds_now}
use Rattle.io_traits.proofs.Looking.{Nothing}
use Rattle.io_traits.specs.declared.pages.PageState.{PageState}
use Rattle.queue_page.specs.Blocks.{AreBytesIn}
use Rattle.queue_page.specs.Pages.{is_version, version_of, opened, opened_view, kept_of}
use Rattle.queue_page.specs.Views.{PageView}
use Rattle.queue_page.proofs.PageReads.{as_rows, recorded_took}
use Rattle.queue_files.specs.Folders.{Folder, Names, AreApart, page, checkpoint}
use Rattle.queue_files.specs.Marks.{read_in}
use Rattle.queue_files.specs.Queues.{IsNewest, AreNewest, HaveBytes, LeavesRead}
use Rattle.queue_files.specs.declared.scanned.Scanned.{Scanned}
use Rattle.queue_files.specs.declared.sealed_pages.SealedPage.{SealedPage}
use Rattle.queue_files.proofs.QueueHead.{head_parts}
use Rattle.queue_files.proofs.Removals.{is_or_not}

take_none : (n : ℕ) → take {A = ℕ} n [] ≡ []
take_none zero = refl
take_none (suc n) = refl

-- a page has a first byte
no_page : (s : PageState) (v : PageView) → opened_view true s [] ≡ Ok v → ⊥
no_page s v opens =
    let read = as_rows s (opened true s []) v opens in
    let parts = head_parts s [] read.rows read.is in
    let known = (recorded_took s [] parts.r0 parts.reads).known in
    false≢true (ap (λ (extent : List ℕ). is_version (version_of extent)) (sym (take_none s.length)) ∙ known)

-- one checkpoint more
pub newest_more : (folder : Folder) (tails items : List SealedPage) (t : SealedPage) → items ≡ tails ++ t ∷ [] → AreNewest folder tails → IsNewest (bytes_of (folder (checkpoint t.number))) t.turn t.state → AreNewest folder items
newest_more folder tails items t more are is = subst (AreNewest folder) (sym more) (one tails are)
  where
    one : (tails : List SealedPage) → AreNewest folder tails → AreNewest folder (tails ++ t ∷ [])
    one [] are = (is, tt)
    one (x ∷ tails) are = (are.0, one tails are.1)

module _ {S : Type 0} (store : StoreWords S) (tell : ImagesTell store) (names : Names) (apart : AreApart names) (s : PageState) (s0 s1 s2 : S) (rests : (i : Image) → MayLeaveNow store s0 i → IsAtRest (store.seen s0) i)
    (nothing : Nothing store s0 s1) (name : List ℕ) (is_name : name ≡ names (page s.page)) (r : Scanned) (opens : IsTrue store.tells → opened_view true s (bytes_of (store.seen s1 name)) ≡ Ok r.top)
    (kept : IsTrue store.tells → store.seen s2 name ≡ option_map (kept_of true r.top) (store.seen s1 name))
    (settled : (bytes : List ℕ) → IsSettled store s1 name bytes → IsSettled store s2 name (kept_of true r.top bytes)) (reads : ReadsBeside store (λ n. n ≡ name) s1 s2)
    (beside : EachMoment store s1 s2 (LeavesBeside store (λ n. n ≡ name) s1)) (newest : IsTrue store.tells → AreNewest (read_in names (store.seen s0)) r.tails.items)
    (tail_bytes : IsTrue store.tells → HaveBytes (read_in names (store.seen s0)) r.tails.items) (top_bytes : IsTrue store.tells → AreBytesIn 0 r.top.state.length (bytes_of (store.seen s1 name))) (short : r.top.state.length < 2 ^ 64) where
  rests1 : (i : Image) → MayLeaveNow store s1 i → IsAtRest (store.seen s0) i
  rests1 i left = rests i (nothing.images i left)

  same1 : IsTrue store.tells → (n : List ℕ) → store.seen s1 n ≡ store.seen s0 n
  same1 told n = ap (λ c. c n) (nothing.reads told)

  others : IsTrue store.tells → (n : List ℕ) → n ≢ name → store.seen s2 n ≡ store.seen s0 n
  others told n other = reads told n other ∙ same1 told n

  top_rest : IsTrue store.tells → (i : Image) → MayLeaveNow store s2 i → i name ≡ at_rest (store.seen s2 name)
  top_rest told i left = by (store.seen s1 name) refl
    where
      by : (o : Option (List ℕ)) → store.seen s1 name ≡ o → i name ≡ at_rest (store.seen s2 name)
      by None is = absurd (no_page s r.top (ap (λ (o : Option (List ℕ)). opened_view true s (bytes_of o)) (sym is) ∙ opens told))
      by (Some bytes) is =
          let st = settled bytes (record { images = λ i left. rests1 i left name ∙ ap at_rest (sym (same1 told name) ∙ is); seen = λ t. is }) in
          st.images i left ∙ ap at_rest (sym (st.seen told))

  other_rest : IsTrue store.tells → (i : Image) → MayLeaveNow store s2 i → (n : List ℕ) → n ≢ name → i n ≡ at_rest (store.seen s2 n)
  other_rest told i left n other =
      let d = holds_now store s1 s2 (LeavesBeside store (λ k. k ≡ name) s1) beside i left in
      d.2 n other
      ∙ ⊎_elim (λ still. rests1 d.0 still n) (λ synced. synced.1 n ∙ ap at_rest (same1 told n)) d.1
      ∙ ap at_rest (sym (others told n other))

  pub leaves_read : LeavesRead store names s r s0 s2
  leaves_read = record {
    rests = λ i left n.
        let told = tell s2 (store.moment s2) i left in
        ⊎_elim (λ is. subst (λ k. i k ≡ at_rest (store.seen s2 k)) (sym is) (top_rest told i left)) (λ other. other_rest told i left n other.0) (is_or_not n name);
    cut = λ told. record {
      top = subst (λ n. store.seen s2 n ≡ option_map (take r.top.state.length) (store.seen s0 n)) is_name (kept told ∙ ap (option_map (take r.top.state.length)) (same1 told name));
      others = λ role other. others told (names role) (λ is. other (apart role (page s.page) (is ∙ is_name)));
    };
    newest = newest;
    tail_bytes = tail_bytes;
    top_bytes = λ told. subst (λ n. AreBytesIn 0 r.top.state.length (bytes_of (store.seen s0 n))) is_name (subst (λ (o : Option (List ℕ)). AreBytesIn 0 r.top.state.length (bytes_of o)) (same1 told name) (top_bytes told));
    short = short;
  }
