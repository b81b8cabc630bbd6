use Rattle.std.proofs.Common.{sym, ap, ◌∙◌}
use Rattle.byte_lines.specs.Unread.{lines_left}
use Rattle.in_file.specs.Held.{is_some}
use Rattle.in_file.specs.Streams.{Stream}
use Rattle.in_file.proofs.Holding.{none_is}
use Rattle.in_file.proofs.stdin.StdinInput.holds.Goals as goal

pub returns : goal.returns
returns c =
    let same = ap (λ (w : Stream). is_some (lines_left w.unread)) c.self.view_is in (
      λ none. none_is (lines_left c.args.self.now.unread) (sym same ∙ sym c.holds.ensures ∙ none),
      λ none. c.holds.ensures ∙ same ∙ ap is_some none,
    )
