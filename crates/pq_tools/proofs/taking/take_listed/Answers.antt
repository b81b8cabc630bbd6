use Rattle.std.proofs.Common.{rules, ◌≡◌, Err, [], ◌∷◌, ◌++◌, ◌+◌, drop, get_or, List, ℕ, refl, sym, ◌∙◌, ap, subst, arith, append_assoc, append-nil}
use Rattle.std.proofs.lemmas.List.{drop_all, drop_more}
use Rattle.io_traits.specs.Reads.{bytes_of}
use Rattle.io_traits.proofs.Looking.{nothing_yet}
use Rattle.slot_files.specs.Checkpoints.{newest_in}
use Rattle.queue_files.specs.Folders.{Folder, IsOwn, head, names_in}
use Rattle.queue_files.specs.Marks.{read_in}
use Rattle.queue_files.specs.Others.{KeepsOthers}
use Rattle.queue_files.proofs.OtherFiles.{others_looked, others_then}
use Rattle.pq_tools.specs.Repairs.{AreDifferent, Spends, salvaged_of}
use Rattle.pq_tools.specs.declared.fault.RepairFault.TheVariants as r
use Rattle.pq_tools.proofs.Takings.{adds_by, adds_same, adds_then, same_folder, spends_by, spends_then}
use Rattle.pq_tools.proofs.taking.take_listed.Goals as goal

pub loop-number-init : goal.loop-number-init
loop-number-init g c = record {
  ready = c.requires.ready;
  folder = refl;
  beside = others_looked g.S.Store g.met.S.Store.images_tell (IsOwn (names_in c.args.queue.now.folder)) c.args.store.now c.args.store.now (nothing_yet g.S.Store c.args.store.now);
  faults = refl;
  done = [];
  adds = adds_same g.S.Store c.args.queue.now c.args.store.now c.args.store.now (nothing_yet g.S.Store c.args.store.now);
  so_far = λ told newest. refl;
}

pub take_numbered-requires-clause-apart : goal.take_numbered-requires-clause-apart
take_numbered-requires-clause-apart g c = subst (AreDifferent c.args.folder.now) (sym c.loop-number.invariant.folder) c.requires.apart

pub loop-number-preserved : goal.loop-number-preserved
loop-number-preserved g c =
    let i = c.loop-number.invariant in
    let folder = c.args.folder.now in
    let xs = c.args.numbers.now in
    let at = c.loop-number.number-index in
    let n = get_or xs at 0 in
    let Mine = IsOwn (names_in c.args.queue.now.folder) in
    let s = c.in_ok-behind.ensures.taken in
    let behind = c.in_ok-behind.behind in
    let split : drop at xs ≡ n ∷ drop (at + 1) xs = drop_more xs at 0 c.loop-number-test.true in
    record {
      ready = c.in_ok-behind.ensures.ready;
      folder = c.take_numbered.ensures.folder ∙ i.folder;
      beside = others_then g.S.Store g.met.S.Store.images_tell Mine c.args.store.now c.loop-number.store c.take_numbered.new.store i.beside
          (subst (λ (m : List ℕ). KeepsOthers g.S.Store (IsOwn (names_in m)) c.loop-number.store c.take_numbered.new.store) i.folder c.take_numbered.ensures.beside);
      faults = c.in_ok-behind.ensures.cause.same (λ f. absurd cc) ∙ i.faults;
      done = i.done ++ s.done;
      adds = adds_then g.S.Store i.done s.done c.args.queue.now c.loop-number.queue c.take_numbered.new.queue c.args.store.now c.loop-number.store c.take_numbered.new.store i.adds s.adds;
      so_far = λ told newest.
          let same = same_folder g.S.Store folder c.args.queue.now.folder c.args.store.now c.loop-number.store c.requires.apart i.beside told in
          let head_same = ap (λ (f : Folder). newest_in (bytes_of (f head))) same ∙ newest in
          let more = s.is told head_same (drop (at + 1) xs) in
          let here = subst (λ (f : Folder). salvaged_of f c.loop-number.end (n ∷ drop (at + 1) xs) ≡ s.done ++ salvaged_of f behind (drop (at + 1) xs)) same more in
          let f = read_in (names_in folder) (g.S.Store.seen c.args.store.now) in
          append_assoc i.done s.done (salvaged_of f behind (drop (at + 1) xs)) ∙ ap (λ l. i.done ++ l) (sym here ∙ ap (salvaged_of f c.loop-number.end) (sym split)) ∙ i.so_far told newest;
    }

pub returns-clause-adds : goal.returns-clause-adds
returns-clause-adds g c told newest =
    let i = c.loop-number.invariant in
    let f = read_in (names_in c.args.folder.now) (g.S.Store.seen c.args.store.now) in
    let none : drop c.loop-number.number-index c.args.numbers.now ≡ [] = drop_all c.loop-number.number-index c.args.numbers.now (omega (arith, c.loop-number-test.false)) in
    adds_by g.S.Store i.done (salvaged_of f 0 c.args.numbers.now) c.args.queue.now c.loop-number.queue c.args.store.now c.loop-number.store
    (λ t. sym (append-nil i.done) ∙ ap (λ l. i.done ++ l) (sym (ap (salvaged_of f c.loop-number.end) none)) ∙ i.so_far told newest) i.adds

pub returns-in_err-behind-clause-folder : goal.returns-in_err-behind-clause-folder
returns-in_err-behind-clause-folder g c = c.take_numbered.ensures.folder ∙ c.loop-number.invariant.folder

pub returns-in_err-behind-clause-beside : goal.returns-in_err-behind-clause-beside
returns-in_err-behind-clause-beside g c =
    others_then g.S.Store g.met.S.Store.images_tell (IsOwn (names_in c.args.queue.now.folder)) c.args.store.now c.loop-number.store c.take_numbered.new.store c.loop-number.invariant.beside
    (subst (λ (m : List ℕ). KeepsOthers g.S.Store (IsOwn (names_in m)) c.loop-number.store c.take_numbered.new.store) c.loop-number.invariant.folder c.take_numbered.ensures.beside)

pub returns-in_err-behind-clause-spent : goal.returns-in_err-behind-clause-spent
returns-in_err-behind-clause-spent g c err newest told =
    let out_is : c.take_numbered.result ≡ Err r.NumbersSpent = search (err, c.in_err-behind.was, c.from_residual.ensures, rules) in
    let i = c.loop-number.invariant in
    let folder = c.args.folder.now in
    let xs = c.args.numbers.now in
    let at = c.loop-number.number-index in
    let n = get_or xs at 0 in
    let v = c.args.queue.now in
    let f = read_in (names_in folder) (g.S.Store.seen c.args.store.now) in
    let split : drop at xs ≡ n ∷ drop (at + 1) xs = drop_more xs at 0 c.loop-number-test.true in
    let same = same_folder g.S.Store folder v.folder c.args.store.now c.loop-number.store c.requires.apart i.beside told in
    let head_same = ap (λ (f : Folder). newest_in (bytes_of (f head))) same ∙ newest in
    let rest = salvaged_of f c.loop-number.end (n ∷ drop (at + 1) xs) in
    let out = subst (λ (f : Folder). Spends g.S.Store (salvaged_of f c.loop-number.end (n ∷ drop (at + 1) xs)) c.loop-number.queue) same (c.take_numbered.ensures.spent out_is head_same (drop (at + 1) xs)) in
    spends_by g.S.Store (i.done ++ rest) (salvaged_of f 0 xs) v (λ t. ap (λ l. i.done ++ salvaged_of f c.loop-number.end l) (sym split) ∙ i.so_far t newest)
    (spends_then g.S.Store i.done rest v c.loop-number.queue c.args.store.now c.loop-number.store i.adds out) told
