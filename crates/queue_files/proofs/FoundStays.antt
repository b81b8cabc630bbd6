-- What a stop leaves of a folder at rest while its pages are read.
use Rattle.std.proofs.Common.{◌≡◌, ◌≢◌, inl, ⊎_elim, ℕ, true, IsTrue, List, Option, Ok, sym, ◌∙◌, ap, subst, arith}
use Rattle.io_traits.specs.Reads.{bytes_of}
use Rattle.io_traits.specs.Images.{Image, FileImage, IsAtRest, at_rest}
use Rattle.io_traits.specs.Moments.{MayLeaveNow, EachMoment, LeavesBeside, ImagesTell}
use Rattle.io_traits.specs.declared.stores.Store.{Ghosts as StoreWords}
use Rattle.io_traits.proofs.Moments.{weaker, one_then_other}
use Rattle.io_traits.specs.declared.pages.PageState.{PageState}
use Rattle.io_traits.proofs.Looking.{Nothing, nothing_left}
use Rattle.io_traits.specs.Chance.{NoChance}
use Rattle.io_traits.specs.Tails.{passes}
use Rattle.queue_page.specs.Elements.{is_element}
use Rattle.queue_page.specs.Leaving.{SaysSame, LeavesSame}
use Rattle.queue_page.specs.Pages.{opened}
use Rattle.queue_files.specs.Folders.{Role, head, page, checkpoint, Folder, Names, AreApart, folder_in}
use Rattle.queue_files.specs.Checkpoints.{told}
use Rattle.queue_files.specs.Found.{found}
use Rattle.queue_files.proofs.Others.{found_goes_by_pages}
use Rattle.queue_files.specs.Marks.{read_in, NoChances}
use Rattle.queue_files.proofs.TornMarks.{number_of}

-- the same folder but for the head page, which says the same
pub same_found : (a b : Folder) (s : PageState) → told (a head) ≡ Ok s → ((role : Role) → role ≢ page s.page → b role ≡ a role) → opened true s (bytes_of (b (page s.page))) ≡ opened true s (bytes_of (a (page s.page)))
    → found b ≡ found a
same_found a b s tells same opens =
    found_goes_by_pages a b s tells (ap told (same head (λ is. absurd cc)) ∙ tells) (λ n less. same (page n) (λ is. absurd (omega (arith, less, ap number_of is)))) (λ n less. inl (same (checkpoint n) (λ is. absurd cc))) opens

module _ {S : Type 0} (store : StoreWords S) (tell : ImagesTell store) (names : Names) (apart : AreApart names) (s : PageState) (s0 : S) (rests : (i : Image) → MayLeaveNow store s0 i → IsAtRest (store.seen s0) i)
    (tells : IsTrue store.tells → told (store.seen s0 (names head)) ≡ Ok s) where
  abbrev before : Folder
  before = read_in names (store.seen s0)

  abbrev pub Holds : Image → Type 0
  Holds i = NoChances names i → found (folder_in names i) ≡ found before

  rest_holds : (i : Image) → IsTrue store.tells → IsAtRest (store.seen s0) i → Holds i
  rest_holds i told rest chances =
      let same : (role : Role) → folder_in names i role ≡ before role = λ role. ap (λ (f : FileImage). f.file) (rest (names role)) in
      same_found before (folder_in names i) s (tells told) (λ role other. same role) (ap (λ (o : Option (List ℕ)). opened true s (bytes_of o)) (same (page s.page)))

  -- while nothing changes
  pub looked : (s1 : S) → Nothing store s0 s1 → EachMoment store s0 s1 Holds
  looked s1 nothing = weaker store tell s0 s1 (MayLeaveNow store s0) Holds (nothing_left store s0 s1 nothing) (λ i told left. rest_holds i told (rests i left))

  -- and while the head page is opened
  module _ (s1 : S) (nothing : Nothing store s0 s1) (name : List ℕ) (is_name : name ≡ names (page s.page)) (s2 : S) (says : LeavesSame store name true s s1 s2)
      (beside : EachMoment store s1 s2 (LeavesBeside store (λ n. n ≡ name) s1)) where
    rests1 : (i : Image) → MayLeaveNow store s1 i → IsAtRest (store.seen s0) i
    rests1 i left = rests i (nothing.images i left)

    run : EachMoment store s1 s2 (SaysSame name true s (store.seen s0 name))
    run = says (store.seen s0 name) (λ i left. rests1 i left name)

    opened_holds : (i : Image) → IsTrue store.tells → SaysSame name true s (store.seen s0 name) i → LeavesBeside store (λ n. n ≡ name) s1 i → Holds i
    opened_holds i told said others chances =
        let d = others.0 in
        let rest : IsAtRest (store.seen s0) d = ⊎_elim (λ left. rests1 d left) (λ synced n. synced.1 n ∙ ap (λ c. at_rest (c n)) (nothing.reads told)) others.1 in
        let same : (role : Role) → role ≢ page s.page → folder_in names i role ≡ before role =
        λ role other. ap (λ (f : FileImage). f.file) (others.2 (names role) (λ is. other (apart role (page s.page) (is ∙ is_name))) ∙ rest (names role)) in
        same_found before (folder_in names i) s (tells told) same
        (subst (λ n. opened true s (bytes_of (i n).file) ≡ opened true s (bytes_of (store.seen s0 n))) is_name (said (subst (λ n. NoChance (passes is_element) (i n)) (sym is_name) (chances.elements (page s.page)))))

    pub opened_run : EachMoment store s0 s2 Holds
    opened_run = one_then_other store tell s0 s1 s2 Holds (λ i. SaysSame name true s (store.seen s0 name) i × LeavesBeside store (λ n. n ≡ name) s1 i) Holds (looked s1 nothing) both (λ i told holds. holds)
        (λ i told two. opened_holds i told two.0 two.1)
      where
        both : EachMoment store s1 s2 (λ i. SaysSame name true s (store.seen s0 name) i × LeavesBeside store (λ n. n ≡ name) s1 i)
        both = record { later = run.later; each = λ t i from to left. (run.each t i from to left, beside.each t i from to left); past = run.past }
