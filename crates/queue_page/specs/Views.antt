-- What a page that is open, and a part of a file that is held in memory, are to callers.
use Rattle.std.specs.Prelude.{ℕ, List}
use Rattle.io_traits.specs.declared.pages.PageState.{PageState}

pub record PageView : Type 0 where
  pub version : ℕ
  pub state : PageState

-- these bytes stand in a file from this place on
pub record PageBufferView : Type 0 where
  pub place : ℕ
  pub bytes : List ℕ
