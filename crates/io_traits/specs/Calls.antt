-- What the calls of a store leave.
use Rattle.std.specs.Prelude.{◌≡◌, ◌⊎◌, ℕ, Bool, IsTrue, List}
use Rattle.io_traits.specs.Folders.{Content}
use Rattle.io_traits.specs.Images.{Image, FileImage, On, IsAtRest, Follows, Beside}
use Rattle.io_traits.specs.Times.{Elapses}

module _ {S : Type 0} (tells : Bool) (seen : S → Content) (moment : S → ℕ) (may_leave : S → ℕ → Image → Type 0) (old new : S) where
  -- nothing changed: reads give the same, and a stop leaves nothing that it might not have left before
  pub record ChangesNothing : Type 0 where
    pub reads : IsTrue tells → seen new ≡ seen old
    pub images : (i : Image) → may_leave new (moment new) i → may_leave old (moment old) i
    pub time : Elapses (moment old) (moment new) (may_leave old) (may_leave new)

  -- the file of one name was changed by this step, whole or in part, and no other file
  pub record ChangesOne (name : List ℕ) (step : FileImage → FileImage → Type 0) : Type 0 where
    pub beside : IsTrue tells → Beside name (seen old) (seen new)
    pub images : Follows (On name step) (may_leave old (moment old)) (may_leave new (moment new))
    pub time : Elapses (moment old) (moment new) (may_leave old) (may_leave new)

  -- reads give the same, and a stop leaves what it might have left before, or what reads give
  pub record MaySettle : Type 0 where
    pub reads : IsTrue tells → seen new ≡ seen old
    pub images : (i : Image) → may_leave new (moment new) i → may_leave old (moment old) i ⊎ IsAtRest (seen old) i
    pub time : Elapses (moment old) (moment new) (may_leave old) (may_leave new)
