use Rattle.std.proofs.Common.{◌<◌, length, arith}
use Rattle.event_tree.proofs.PathLemmas.{closing, unclosed_end, unclosed_open, empty_pair}
use Rattle.event_tree.proofs.path.part_end.Goals as goal
use Rattle.event_tree.proofs.path.part_end.Goals.{then-end-bytes-via-then-end-bytes, then-end-bytes-via-else-end-bytes+then-bytes-end-eq91}

pub returns-then-end-bytes-clause-fault : goal.returns-then-end-bytes-clause-fault
returns-then-end-bytes-clause-fault c = λ ps names front at_end.
    let e = c.name_end-end.ensures in
    elim c.then-end-bytes.branch [
      | then-end-bytes-via-then-end-bytes w ↦ unclosed_end c.args.bytes.now ps c.args.at names front at_end c.requires.within c.requires.open c.name_end-end.result e.after e.within e.name w.if-end-bytes.true
      | then-end-bytes-via-else-end-bytes+then-bytes-end-eq91 w ↦
          let n = w.if-end-bytes.false in
          unclosed_open c.args.bytes.now ps c.args.at names front at_end c.requires.within c.requires.open c.name_end-end.result e.after e.within e.name (omega (arith, e.within, n)) w.if-bytes-end-eq91.true
    ]

pub returns-then-end-at-clause-fault : goal.returns-then-end-at-clause-fault
returns-then-end-at-clause-fault c = λ ps names front at_end.
    let e = c.name_end-end.ensures in
    let h : c.name_end-end.result < length c.args.bytes.now = omega (arith, e.within, c.if-end-bytes.false) in
    empty_pair c.args.bytes.now ps c.args.at names front at_end c.requires.within c.requires.open c.name_end-end.result e.after e.within c.if-end-at.true h (closing _ (e.end h) c.if-bytes-end-eq91.false)

pub returns-clause-part : goal.returns-clause-part
returns-clause-part c =
    let e = c.name_end-end.ensures in
    let h : c.name_end-end.result < length c.args.bytes.now = omega (arith, e.within, c.if-end-bytes.false) in
    record { some = omega (arith, e.after, c.if-end-at.false); within = h; name = e.name; closed = closing _ (e.end h) c.if-bytes-end-eq91.false }
