use Rattle.crc_frame.proofs.FramesAgain.{frames_are_read, frames_are_read_again}
use Rattle.crc_frame.proofs.laws.frames_are_read_wherever_they_stand.Goals as goal

pub returns-clause-read : goal.returns-clause-read
returns-clause-read c = frames_are_read

pub returns-clause-again : goal.returns-clause-again
returns-clause-again c = frames_are_read_again
