use Rattle.std.proofs.Common.{◌<◌, length, arith}
use Rattle.byte_lines.proofs.Decoding.{pushed_all, pushed_replacement}
use Rattle.byte_lines.proofs.text.push_front.Goals as goal

pub returns-then-taken-bytes-clause-text : goal.returns-then-taken-bytes-clause-text
returns-then-taken-bytes-clause-text c =
    pushed_all _ _ c.valid_front-front.result.now c.args.bytes.now _ c.in_ok-push_str.ensures.bytes c.valid_front-front.ensures.front c.valid_front-front.utf8

pub returns-clause-text : goal.returns-clause-text
unfolding lib.Utf8.encode
returns-clause-text c =
    let n = length c.valid_front-front.result.now in
    let bytes = c.args.bytes.now in
    let less : n < length bytes = omega (arith, c.valid_front-front.ensures.within, c.if-taken-bytes.false) in
    pushed_replacement _ _ _ c.valid_front-front.result.now bytes n c.in_ok-push_str.ensures.bytes c.in_ok-push.ensures.bytes c.valid_front-front.ensures.front c.valid_front-front.utf8 less (c.valid_front-front.ensures.longest less)
