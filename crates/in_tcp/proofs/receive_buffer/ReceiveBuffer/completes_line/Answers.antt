use Rattle.std.proofs.Common.{sym, ap, ◌∙◌, subst, arith, leb-true, leb-false, ltb-true, ltb-false}
use Rattle.std.proofs.lemmas.Bool.{false≢true}
use Rattle.byte_lines.specs.Split.{HasNoLineFeed}
use Rattle.in_tcp.specs.Pieces.{count_of}
use Rattle.in_tcp.proofs.Searching.{by_end, by_length, feed_in_piece, feed_in_rest}
use Rattle.in_tcp.proofs.receive_buffer.ReceiveBuffer.completes_line.Goals as goal

pub returns-then-has_line_feed : goal.returns-then-has_line_feed
returns-then-has_line_feed c =
    feed_in_piece c.args.self.now c.args.place c.requires.none c.mark-mark.result c.mark-mark.ensures c.in-Bytes.count c.in-Bytes.is
    (λ free. false≢true (sym (c.has_line_feed.ensures.1 (subst HasNoLineFeed (sym c.bytes.ensures) free)) ∙ c.if-has_line_feed.true))

pub returns-then-has_line_feed-2 : goal.returns-then-has_line_feed-2
returns-then-has_line_feed-2 c =
    feed_in_rest c.args.self.now c.args.place c.requires.none c.mark-mark.result c.mark-mark.ensures c.in-Bytes.count c.in-Bytes.is
    (λ free. false≢true (sym (c.has_line_feed-in-Bytes.ensures.1 (subst HasNoLineFeed (sym c.bytes-in-Bytes.ensures) free)) ∙ c.if-has_line_feed-2.true))

pub returns-else-has_line_feed-2 : goal.returns-else-has_line_feed-2
returns-else-has_line_feed-2 c =
    let long = c.mark-mark.ensures.long ∙ ap count_of c.in-Bytes.is in
    by_length c.args.self.now c.args.place c.requires.none c.mark-mark.result c.mark-mark.ensures c.in-Bytes.count c.in-Bytes.is
    (subst HasNoLineFeed c.bytes.ensures (c.has_line_feed.ensures.0 c.if-has_line_feed.false))
    (subst HasNoLineFeed c.bytes-in-Bytes.ensures (c.has_line_feed-in-Bytes.ensures.0 c.if-has_line_feed-2.false)) _
    (λ full. let more = leb-true _ _ full in omega (arith, more, long, c.left_len.ensures, c.saturating_add.ensures))
    (λ less. let fewer = leb-false _ _ less in omega (arith, fewer, long, c.left_len.ensures, c.saturating_add.ensures))

pub returns-in-End : goal.returns-in-End
returns-in-End c =
    by_end c.args.self.now c.args.place c.requires.none c.mark-mark.result c.mark-mark.ensures c.in-End.is _
    (λ some. let more = ltb-true _ _ some in omega (arith, more, c.left_len-in-End.ensures))
    (λ none. let fewer = ltb-false _ _ none in omega (arith, fewer, c.left_len-in-End.ensures))
