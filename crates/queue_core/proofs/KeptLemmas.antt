-- Rows that are kept for their batch: one of them is read, and what calls make of the files keeps them.
use Rattle.std.proofs.Common.{◌≡◌, ◌≤◌, ◌⊎◌, inl, inr, ⊎_elim, IsTrue, ℕ, suc, List, [], ◌∷◌, ◌++◌, length, take, drop, Ok, sym, ap, ◌∙◌, subst, arith, append_assoc, append-nil}
use Rattle.std.proofs.lemmas.List.{drop-append-le, length-append, take_at}
use Rattle.io_traits.specs.Folders.{Content}
use Rattle.io_traits.specs.Reads.{bytes_of}
use Rattle.io_traits.specs.declared.stores.Store.{Ghosts as StoreWords}
use Rattle.queue_page.specs.Blocks.{left_of}
use Rattle.queue_page.specs.Elements.{element_at}
use Rattle.queue_page.proofs.Elements.{element_read}
use Rattle.queue_files.specs.Folders.{page, names_in}
use Rattle.queue_files.specs.Kept.{Queue}
use Rattle.queue_core.specs.Keeping.{KeepsOne, with_kept}
use Rattle.queue_core.specs.Kept.{AreKept, StandsIn}
use Rattle.queue_core.specs.Opens.{IsOfFiles, IsReady, IsSlotted, Opens}
use Rattle.queue_core.specs.Views.{CursorView, OpenPageView, QueueView}
use Rattle.queue_core.specs.declared.kept.KeptRow.{KeptRow}

-- ---- a row that is kept

-- it is read as it was written
pub kept_read : (o : OpenPageView) (file : List ℕ) (k : KeptRow) → length file ≡ o.page.state.length → StandsIn o.page.version file k
    → element_at o.page.version k.row.number k.place (left_of file k.place o.page.state.length) ≡ Ok k.row
kept_read o file k long stands =
    let all : take o.page.state.length file ≡ file = ap (take o.page.state.length) (sym (append-nil file)) ∙ take_at file [] o.page.state.length long in
    ap (λ l. element_at o.page.version k.row.number k.place (drop k.place l)) all ∙ ap (element_at o.page.version k.row.number k.place) stands.parts
    ∙ (element_read o.page.version k.place k.row stands.front stands.rest stands.element).element

-- ---- calls

-- the file has more behind it
stands_grown : (version : ℕ) (file more : List ℕ) (k : KeptRow) → StandsIn version file k → StandsIn version (file ++ more) k
stands_grown version file more k stands = record {
  within = omega (arith, stands.within, length-append file more);
  front = stands.front;
  rest = stands.rest ++ more;
  parts = drop-append-le k.place file more stands.within ∙ ap (λ l. l ++ more) stands.parts ∙ append_assoc stands.front stands.rest more;
  element = stands.element;
}

pub kept_grown : (top version : ℕ) (file more : List ℕ) (kept : List KeptRow) → AreKept top version file kept → AreKept top version (file ++ more) kept
kept_grown top version file more [] are = tt
kept_grown top version file more (k ∷ kept) are = (are.0, λ here. stands_grown version file more k (are.1 here), kept_grown top version file more kept are.2)

-- another page is the head page
pub kept_rolled : (top version other : ℕ) (file begun : List ℕ) (kept : List KeptRow) → AreKept top version file kept → AreKept (suc top) other begun kept
kept_rolled top version other file begun [] are = tt
kept_rolled top version other file begun (k ∷ kept) are = (omega (arith, are.0), λ here. absurd (omega (arith, are.0, here)), kept_rolled top version other file begun kept are.2)

-- one more is kept
pub one_more_kept : (top version : ℕ) (file : List ℕ) (kept : List KeptRow) (k : KeptRow) → AreKept top version file kept → k.page ≤ top → (k.page ≡ top → StandsIn version file k) → AreKept top version file (kept ++ k ∷ [])
one_more_kept top version file [] k are within stands = (within, stands, tt)
one_more_kept top version file (x ∷ kept) k are within stands = (are.0, are.1, one_more_kept top version file kept k are.2 within stands)

-- one fewer is kept
one_fewer_kept : (top version : ℕ) (file : List ℕ) (kept : List KeptRow) (k : KeptRow) → AreKept top version file (kept ++ k ∷ []) → AreKept top version file kept
one_fewer_kept top version file [] k are = tt
one_fewer_kept top version file (x ∷ kept) k are = (are.0, are.1, one_fewer_kept top version file kept k are.2)

pub fewer_kept : (top version : ℕ) (file : List ℕ) (old new : List KeptRow) → KeepsOne old new → AreKept top version file new → AreKept top version file old
fewer_kept top version file old new (inl same) are = subst (AreKept top version file) same are
fewer_kept top version file old new (inr more) are = one_fewer_kept top version file old more.0 (subst (AreKept top version file) more.1 are)

-- a queue of which one row more is kept
module _ (v : QueueView) (content : Content) where
  pub kept_more_files : (kept : List KeptRow) (k : KeptRow) → (kept ≡ v.cursor.kept ++ k ∷ []) ⊎ (kept ≡ v.cursor.kept) → k.page ≡ v.top.number
      → StandsIn v.top.page.version (bytes_of (content (names_in v.folder (page v.top.number)))) k → IsOfFiles v content → IsOfFiles (with_kept kept v) content
  kept_more_files kept k either here stands files =
      let file = bytes_of (content (names_in v.folder (page v.top.number))) in
      record {
        tails = files.tails;
        top = files.top;
        part = files.part;
        within = files.within;
        kept = ⊎_elim
            (λ (more : kept ≡ v.cursor.kept ++ k ∷ []). subst (AreKept v.top.number v.top.page.version file) (sym more) (one_more_kept v.top.number v.top.page.version file v.cursor.kept k files.kept (omega (arith, here)) (λ is. stands)))
            (λ (same : kept ≡ v.cursor.kept). subst (AreKept v.top.number v.top.page.version file) (sym same) files.kept)
            either;
      }

  -- by its cursor
  pub held_files : (cursor : CursorView) (k other : KeptRow) → k ≡ other → (cursor ≡ record v.cursor { kept = v.cursor.kept ++ k ∷ [] }) ⊎ (cursor ≡ v.cursor) → other.page ≡ v.top.number
      → StandsIn v.top.page.version (bytes_of (content (names_in v.folder (page v.top.number)))) other → IsOfFiles v content → IsOfFiles (record v { cursor = cursor }) content
  held_files cursor k other same either here stands files = ⊎_elim
      (λ (more : cursor ≡ record v.cursor { kept = v.cursor.kept ++ k ∷ [] }).
      subst (λ (c : CursorView). IsOfFiles (record v { cursor = c }) content) (sym more)
      (kept_more_files (v.cursor.kept ++ k ∷ []) other (inl (ap (λ (x : KeptRow). v.cursor.kept ++ x ∷ []) same)) here stands files))
      (λ (stays : cursor ≡ v.cursor). subst (λ (c : CursorView). IsOfFiles (record v { cursor = c }) content) (sym stays) files)
      either

  pub kept_fewer_files : (kept : List KeptRow) → KeepsOne v.cursor.kept kept → IsOfFiles (with_kept kept v) content → IsOfFiles v content
  kept_fewer_files kept one files = record {
    tails = files.tails;
    top = files.top;
    part = files.part;
    within = files.within;
    kept = fewer_kept v.top.number v.top.page.version (bytes_of (content (names_in v.folder (page v.top.number)))) v.cursor.kept kept one files.kept;
  }

-- ---- a queue of a store

module _ {S : Type 0} (store : StoreWords S) (w : QueueView) (s : S) where
  -- it takes calls whatever is kept
  pub ready_kept : (next : QueueView) (kept : List KeptRow) → next ≡ with_kept kept w → IsReady store w s → IsReady store next s
  ready_kept next kept same ready told = subst (λ (x : QueueView). IsSlotted x (store.seen s)) (sym same) (record { climb = (ready told).climb; tails = (ready told).tails; top = (ready told).top })

module _ {S : Type 0} (store : StoreWords S) (w : QueueView) (q : Queue) (s : S) where
  -- the store holds one that differs in what is kept, where its files are those
  pub opens_kept : (next : QueueView) (kept : List KeptRow) → next ≡ with_kept kept w → (IsTrue store.tells → IsOfFiles next (store.seen s)) → Opens store w q s → Opens store next q s
  opens_kept next kept same = subst (λ (x : QueueView). (IsTrue store.tells → IsOfFiles x (store.seen s)) → Opens store w q s → Opens store x q s) (sym same)
      (λ files opens. record { ready = opens.ready; tails = opens.tails; top = opens.top; files = files })

  pub opens_fewer : (kept : List KeptRow) → KeepsOne w.cursor.kept kept → Opens store (with_kept kept w) q s → Opens store w q s
  opens_fewer kept one opens = record { ready = opens.ready; tails = opens.tails; top = opens.top; files = λ told. kept_fewer_files w (store.seen s) kept one (opens.files told) }
