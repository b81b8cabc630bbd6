use Rattle.std.proofs.Common.{◌≡◌, ◌+◌, false, true, sym, ap, ◌∙◌, drop}
use Rattle.std.proofs.lemmas.List.{take_rest}
use Rattle.std.specs.Prelude.{nat_le}
use Rattle.std.specs.List.{sum}
use Rattle.dead_letters.specs.Shedding.{shedding, older, not_kept}
use Rattle.dead_letters.proofs.Sheds.{sheds_none, sheds}
use Rattle.dead_letters.proofs.shedding.shed.Goals as goal

pub returns-then-fits_all : goal.returns-then-fits_all
returns-then-fits_all c =
    let segments = c.args.segments.now in
    let fits : nat_le (sum segments + sum c.args.records.now) c.args.limit ≡ true = ap (λ n. nat_le (sum segments + n) c.args.limit) (sym c.total-added.ensures.sum) ∙ sym c.fits_all.ensures ∙ c.if-fits_all.true in
    ap (shedding 0) c.new.ensures ∙ sheds_none c.args.policy c.args.limit segments c.args.records.now fits

pub returns : goal.returns
returns c =
    let segments = c.args.segments.now in
    let records = c.args.records.now in
    let limit = c.args.limit in
    let k = c.older_of-older.result in
    let not_fits : nat_le (sum segments + sum records) limit ≡ false = ap (λ n. nat_le (sum segments + n) limit) (sym c.total-added.ensures.sum) ∙ sym c.fits_all.ensures ∙ c.if-fits_all.false in
    let is : k ≡ older c.args.policy limit (sum records) segments = c.older_of-older.ensures.older ∙ ap (λ n. older c.args.policy limit n segments) c.total-added.ensures.sum in
    let used : c.total-used.result ≡ sum (drop k segments) = c.total-used.ensures.sum ∙ ap sum (take_rest segments k) in
    ap (shedding k) (c.in_ok-newer.ensures ∙ ap (λ n. not_kept limit n 0 records) used) ∙ sheds c.args.policy limit segments records not_fits k is
