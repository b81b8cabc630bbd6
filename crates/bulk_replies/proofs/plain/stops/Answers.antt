use Rattle.std.proofs.Common.{arith}
use Rattle.std.proofs.lemmas.Simd.{zip2_of_maps, zip2_splat}
use lib.Bits.{bit_or}
use Rattle.json.specs.Run.{is_stop}
use Rattle.bulk_replies.proofs.Lanes.{hit, below, masked}
use Rattle.bulk_replies.proofs.plain.stops.Goals as goal

pub returns : goal.returns
returns c =
    let v = c.args.bytes in
    let long = c.fits-bytes.0 in
    masked _ is_stop v _ (omega arith) c.fits-bytes.1
    (zip2_of_maps bit_or _ _ v (zip2_of_maps bit_or _ _ v (zip2_splat hit v 16 34 long) (zip2_splat hit v 16 92 long)) (zip2_splat below v 16 32 long)) tt
