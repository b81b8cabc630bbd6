use Rattle.std.proofs.Common.{◌≡◌, ◌+◌, ◌-◌, min, true, sym, ap, ◌∙◌, subst, arith}
use Rattle.in_file.specs.Looks.{WasPolled, looks, read_limit, taken_in}
use Rattle.in_file.specs.Views.{Watched}
use Rattle.in_file.specs.contracts.input.FileInput.{the_view}
use Rattle.in_file.proofs.Polling.{Holds, looked_so, found_so, took_in}
use Rattle.in_file.proofs.input.FileInput.look.Goals as goal

pub returns-clause-polled : goal.returns-clause-polled
returns-clause-polled g c =
    let w : Watched = the_view c.self.inside in
    let r = c.in_ok-count.ensures.read in
    let holds : Holds w.unread c.fill.new.self r.bytes = (c.fill.ensures.rest, r.whole) in
    let found = found_so g.F.Files c.args.moment w c.args.files.now c.fill.new.files _ _ _ _ _ r c.as_str.ensures (ap (λ n. c.self.inside.behind + n) c.len.ensures)
    (c.min-room.ensures ∙ ap (λ n. min (18446744073709551615 - (c.self.inside.behind + n)) read_limit) c.len.ensures) in
    let took = c.append_read.ensures ∙ ap (λ n. taken_in n c.args.moment (record w { unread = c.fill.new.self })) (sym r.counted) ∙ took_in w c.fill.new.self r.bytes c.args.moment holds in
    subst (λ v. WasPolled g.F.Files c.args.moment c.args.files.now c.fill.new.files v c.append_read.new.self) c.self.view_is
    (looked_so g.F.Files c.args.moment c.args.files.now c.fill.new.files w c.append_read.new.self r.bytes (omega (arith, c.self.invariant.1)) (subst (λ v. looks v ≡ true) (sym c.self.view_is) c.requires) found took)
