use Rattle.std.proofs.Common.{◌≡◌, ◌++◌, ◌+◌, ◌∷◌, [], ℕ, Bool, true, false, not, List, map, filter, drop, get_or, sym, ◌∙◌, ap, append-nil}
use Rattle.std.proofs.lemmas.List.{drop_all, drop_more}
use Rattle.queue_files.specs.Folders.{checkpoint, names_in}
use Rattle.queue_files.specs.Unread.{is_paired, unpaired}
use Rattle.queue_files.proofs.Members.{one_made, none_made}
use Rattle.queue_files.proofs.unread.add_checkpoints.Goals.{then-is_unpaired+in_ok-name+in_ok-push, else-is_unpaired}
use Rattle.queue_files.proofs.unread.add_checkpoints.Goals as goal

pub loop-number-preserved : goal.loop-number-preserved
loop-number-preserved c =
    let f : ℕ → List ℕ = λ n. names_in c.args.folder.now (checkpoint n) in
    let p : ℕ → Bool = (λ n. not (is_paired c.args.head c.args.pages.now n)) in
    let xs = c.args.checkpoints.now in
    let at = c.loop-number.number-index in
    let x = get_or xs at 0 in
    let made = c.loop-number.names.items in
    let split = drop_more xs at 0 c.loop-number-test.true in
    elim c.if-is_unpaired.branch [
      | then-is_unpaired+in_ok-name+in_ok-push w ↦
          let passes : p x ≡ true = sym c.is_unpaired.ensures ∙ w.if-is_unpaired.true in
          let new : c.if-is_unpaired.names.items ≡ made ++ f x ∷ [] = ap (λ v. v.items) w.names-is ∙ w.in_ok-push.ensures.items ∙ ap (λ n. made ++ n ∷ []) w.in_ok-name.ensures in
          record { so_far = c.loop-number.invariant.so_far ∙ one_made f p xs at x made split passes ∙ ap (λ l. l ++ map f (filter p (drop (at + 1) xs))) (sym new) }
      | else-is_unpaired w ↦
          let stays : p x ≡ false = sym c.is_unpaired.ensures ∙ w.if-is_unpaired.false in
          record { so_far = c.loop-number.invariant.so_far ∙ none_made f p xs at x made split stays ∙ ap (λ v. v.items ++ map f (filter p (drop (at + 1) xs))) (sym w.names-is) }
    ]

pub returns : goal.returns
returns c =
    let xs = c.args.checkpoints.now in
    let made = c.loop-number.names.items in
    sym (c.loop-number.invariant.so_far ∙ ap (λ l. made ++ unpaired c.args.folder.now c.args.head c.args.pages.now l) (drop_all c.loop-number.number-index xs c.loop-number-test.false) ∙ append-nil made)
