use Rattle.std.proofs.Common.{◌≡◌, ◌↔◌, false, [], drop, sym, ◌∙◌, subst}
use Rattle.byte_lines.specs.Unread.{lines_left}
use Rattle.in_lines.specs.Decoding.{event_by}
use Rattle.line_inputs.specs.Sources.{events_held}
use Rattle.line_inputs.proofs.Giving.{tcp_holds}
use Rattle.line_inputs.proofs.Holding.{first_held, generator_holds, holds_so}
use Rattle.line_inputs.proofs.source.InputSource.holds.Goals as goal

pub returns-in-Stdin : goal.returns-in-Stdin
returns-in-Stdin c =
    let s = c.in-Stdin.input in
    subst (λ o. (c.holds.result ≡ false) ↔ (events_held o ≡ [])) (sym c.in-Stdin.is) (holds_so (event_by s.codec) s.moment (lines_left s.unread) c.holds.result c.holds.ensures)

pub returns-in-Generated : goal.returns-in-Generated
returns-in-Generated c =
    let h = generator_holds c.in-Generated.input in
    subst (λ o. (c.holds-in-Generated.result ≡ false) ↔ (events_held o ≡ [])) (sym c.in-Generated.is)
    (λ no. h.0 (sym c.holds-in-Generated.ensures ∙ no), λ none. c.holds-in-Generated.ensures ∙ h.1 none)

pub returns-in-Files : goal.returns-in-Files
returns-in-Files c =
    let w = c.in-Files.input in
    let h = first_held (drop w.at w.files) in
    subst (λ o. (c.holds-in-Files.result ≡ false) ↔ (events_held o ≡ [])) (sym c.in-Files.is)
    (λ no. h.0 (c.holds-in-Files.ensures.0 no), λ none. c.holds-in-Files.ensures.1 (h.1 none))

pub returns-in-Connections : goal.returns-in-Connections
returns-in-Connections c =
    subst (λ o. (c.holds-in-Connections.result ≡ false) ↔ (events_held o ≡ [])) (sym c.in-Connections.is)
    (tcp_holds c.in-Connections.input c.holds-in-Connections.result c.holds-in-Connections.ensures)
