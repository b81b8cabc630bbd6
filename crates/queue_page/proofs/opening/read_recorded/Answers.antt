use Rattle.std.proofs.Common.{◌≡◌, ⊎_elim, ◌≤◌, ◌<◌, ℕ, true, length, take, Err, sym, ap, ◌∙◌, subst, arith}
use Rattle.std.proofs.lemmas.Bool.{cases_lt, false≢true}
use Rattle.std.proofs.lemmas.Result.{IfOk-weaker}
use Rattle.std.proofs.Math.Path.{ap₂}
use Rattle.io_traits.specs.Reads.{bytes_of}
use Rattle.queue_page.specs.Answers.{Tells}
use Rattle.queue_page.specs.Elements.{misfit}
use Rattle.queue_page.specs.Views.{PageView}
use Rattle.queue_page.specs.Blocks.{AreBytesIn}
use Rattle.queue_page.specs.Pages.{version_of, is_version, counted_view}
use Rattle.queue_page.proofs.Told.{over}
use Rattle.queue_page.proofs.FileBytes.{and_behind, first_byte}
use Rattle.queue_page.proofs.PageReads.{recorded_short, recorded_other, recorded_version, ok_number}
use Rattle.queue_page.proofs.opening.read_recorded.Goals as goal

some_version : (version : ℕ) → is_version version ≡ true → 0 < version
some_version version known = ⊎_elim (λ none. absurd (false≢true (ap is_version (zero_is none) ∙ known))) (λ some. some) (cases_lt version 1)
  where
    zero_is : version < 1 → 0 ≡ version
    zero_is none = omega (arith, none)

pub returns-then-len-state-clause-page : goal.returns-then-len-state-clause-page
returns-then-len-state-clause-page g c = λ told part is. recorded_short c.args.state.now (bytes_of (g.S.Store.seen c.args.store.now c.args.name.now)) c.args.len is c.if-len-state.true

pub returns-then-not-is_version-clause-page : goal.returns-then-not-is_version-clause-page
returns-then-not-is_version-clause-page g c = λ told part is.
    let s = c.args.state.now in
    let file = bytes_of (g.S.Store.seen c.args.store.now c.args.name.now) in
    let long : s.length ≤ length file = omega (arith, is, c.if-len-state.false) in
    let version = ok_number (version_of (take s.length file)) c.in_ok-version.version (c.in_ok-version.ensures.version told part long) in
    recorded_other s file c.in_ok-version.version long version (sym c.is_version.ensures ∙ c.if-not-is_version.true)
    ∙ ap₂ (λ a b. Err (misfit 0 a b)) (sym c.from.ensures) (sym c.from-then-not-is_version.ensures)

pub returns-clause-page : goal.returns-clause-page
returns-clause-page g c = λ told part is.
    let s = c.args.state.now in
    let name = c.args.name.now in
    let file = bytes_of (g.S.Store.seen c.args.store.now name) in
    let v = c.in_ok-version.version in
    let result = c.read_elements.result in
    let long : s.length ≤ length file = omega (arith, is, c.if-len-state.false) in
    let version = ok_number (version_of (take s.length file)) v (c.in_ok-version.ensures.version told part long) in
    let read = over (g.S.Store.seen c.read_version.new.store) (g.S.Store.seen c.args.store.now) name c.read_version.new.block
    (λ f. s.length ≤ length f → Tells (λ (page : PageView). page) result (counted_view s v (take s.length f)))
    (c.read_version.ensures.same.reads told) (c.read_elements.ensures.page told) (c.in_ok-version.ensures.part told part) long in
    subst (λ r. Tells (λ (page : PageView). page) result r) (sym (recorded_version s file v long version (sym c.is_version.ensures ∙ c.if-not-is_version.false))) read

pub returns-clause-bytes : goal.returns-clause-bytes
returns-clause-bytes g c =
    IfOk-weaker c.read_elements.result _ _
    (λ page are told part is.
    let s = c.args.state.now in
    let file = bytes_of (g.S.Store.seen c.args.store.now c.args.name.now) in
    let v = c.in_ok-version.version in
    let long : s.length ≤ length file = omega (arith, is, c.if-len-state.false) in
    let version = ok_number (version_of (take s.length file)) v (c.in_ok-version.ensures.version told part long) in
    let known : is_version v ≡ true = sym c.is_version.ensures ∙ c.if-not-is_version.false in
    let some : 0 < s.length = c.in_ok-version.ensures.some (some_version v known) in
    and_behind file 0 1 s.length (first_byte file s.length v some version (omega arith))
    (over (g.S.Store.seen c.read_version.new.store) (g.S.Store.seen c.args.store.now) c.args.name.now c.read_version.new.block (λ f. s.length ≤ length f → AreBytesIn 1 s.length f)
    (c.read_version.ensures.same.reads told) (are told) (c.in_ok-version.ensures.part told part) long))
    c.read_elements.ensures.bytes
