use Rattle.std.proofs.Common.{◌≡◌, [], true, refl, sym, ap, ◌∙◌, subst, arith, take}
use Rattle.byte_lines.specs.Unread.{Unread}
use Rattle.io_traits.specs.Pieces.{Came, End, Nothing}
use Rattle.in_file.specs.Streams.{Stream, WasPolled, looks}
use Rattle.in_file.specs.contracts.stdin.StdinInput.{the_view}
use Rattle.in_file.proofs.Polling.{holds_more, holds_same}
use Rattle.in_file.proofs.Streaming.{looked_so}
use Rattle.in_file.proofs.stdin.StdinInput.read.Goals as goal

pub returns-in-Bytes-clause-polled : goal.returns-in-Bytes-clause-polled
returns-in-Bytes-clause-polled g c =
    let s : Stream = the_view c.self.inside in
    let after : Stream = the_view (record c.self.inside { held = c.fill_from.new.self; moment = c.args.moment }) in
    let e = rw c.in-Bytes.is at c.in_ok-fill_from.ensures in
    let found = e.read in
    subst (λ v. WasPolled g.I.Source c.args.moment c.args.source.now c.fill_from.new.source v after) c.self.view_is
    (looked_so g.I.Source c.args.moment c.args.source.now c.fill_from.new.source s after (Came (take c.in-Bytes.field-0 found.room)) (omega (arith, c.self.invariant)) (subst (λ v. looks v ≡ true) (sym c.self.view_is) c.requires) found.found
    (ap (λ u. record s { unread = u; moment = c.args.moment }) (holds_more c.self.inside.held c.fill_from.new.self (take c.in-Bytes.field-0 found.room) (c.fill_from.ensures.rest, found.whole))))

pub returns-in-NotYet-clause-polled : goal.returns-in-NotYet-clause-polled
returns-in-NotYet-clause-polled g c =
    let s : Stream = the_view c.self.inside in
    let after : Stream = the_view (record c.self.inside { held = c.fill_from.new.self }) in
    let e = rw c.in-NotYet.is at c.in_ok-fill_from.ensures in
    let found = e.read in
    subst (λ v. WasPolled g.I.Source c.args.moment c.args.source.now c.fill_from.new.source v after) c.self.view_is
    (looked_so g.I.Source c.args.moment c.args.source.now c.fill_from.new.source s after (Nothing) (omega (arith, c.self.invariant)) (subst (λ v. looks v ≡ true) (sym c.self.view_is) c.requires) found.found
    (ap (λ u. record s { unread = u }) (holds_same c.self.inside.held c.fill_from.new.self [] (c.fill_from.ensures.rest, found.whole) refl)))

pub returns-in-End-clause-polled : goal.returns-in-End-clause-polled
returns-in-End-clause-polled g c =
    let s : Stream = the_view c.self.inside in
    let after : Stream = the_view (record c.self.inside { held = c.end.new.self; moment = c.args.moment }) in
    let e = rw c.in-End.is at c.in_ok-fill_from.ensures in
    let found = e.read in
    subst (λ v. WasPolled g.I.Source c.args.moment c.args.source.now c.fill_from.new.source v after) c.self.view_is
    (looked_so g.I.Source c.args.moment c.args.source.now c.fill_from.new.source s after (End) (omega (arith, c.self.invariant)) (subst (λ v. looks v ≡ true) (sym c.self.view_is) c.requires) found.found
    (ap (λ u. record s { unread = u; moment = c.args.moment }) (c.end.ensures ∙ ap (λ (u : Unread). record u { ended = true }) (holds_same c.self.inside.held c.fill_from.new.self [] (c.fill_from.ensures.rest, found.whole) refl))))
