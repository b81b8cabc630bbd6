use Rattle.std.proofs.Common.{ap, ◌∙◌}
use Rattle.std.proofs.lemmas.List.{take_rest}
use Rattle.byteorder.specs.Endian.{big_number}
use Rattle.slot_files.specs.Checkpoints.{says}
use Rattle.slot_files.proofs.checkpoint_slot.state_in.Goals as goal

pub returns : goal.returns
unfolding says
returns c =
    let slot = c.args.slot.now in
    let page = c.read_u32.ensures ∙ ap (big_number 4) (take_rest slot 10) in
    let first_open = c.read_u64.ensures ∙ ap (big_number 8) (take_rest slot 14) in
    let least = c.read_u64-2.ensures ∙ ap (big_number 8) (take_rest slot 22) in
    let count = c.read_u32-2.ensures ∙ ap (big_number 4) (take_rest slot 30) in
    let length = c.read_u64-3.ensures ∙ ap (big_number 8) (take_rest slot 34) in
    λ i. record { page = page i; first_open = first_open i; least = least i; count = count i; length = length i }
