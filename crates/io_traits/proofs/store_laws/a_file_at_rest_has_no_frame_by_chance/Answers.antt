use Rattle.std.proofs.Common.{inl}
use Rattle.io_traits.proofs.store_laws.a_file_at_rest_has_no_frame_by_chance.Goals as goal

pub returns : goal.returns
returns c = λ is_frame file. record { each = λ place frame is stands. inl stands }
