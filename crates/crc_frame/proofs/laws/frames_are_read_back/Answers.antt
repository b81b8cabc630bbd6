use Rattle.crc_frame.proofs.FrameLemmas.{unframed-frame_of, frames_differ}
use Rattle.crc_frame.proofs.laws.frames_are_read_back.Goals as goal

pub returns-clause-read_back : goal.returns-clause-read_back
returns-clause-read_back c = unframed-frame_of

pub returns-clause-differ : goal.returns-clause-differ
returns-clause-differ c = frames_differ
