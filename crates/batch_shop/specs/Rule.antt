-- Whose turn it is at the table that a shop shares with one worker, and what lies in its slot.
use Rattle.std.specs.Prelude.{◌≡◌, ◌≢◌, ◌+◌, ◌==◌, if◌then◌else◌, ℕ, List, [], ◌∷◌, ◌⊎◌, Option, Some, None}
use mathlib.Core.Option as home
use Rattle.atomic_table.specs.Table.{State, Me}
use Rattle.batch_shop.specs.declared.rule.View.{View}
use Rattle.batch_shop.specs.declared.rule.View.TheVariants as view
use Rattle.batch_shop.specs.declared.rule.Message.{Message}
use Rattle.batch_shop.specs.declared.rule.Message.TheVariants as letter

-- what may lie in the slot
abbrev pub MessageSlot : Type 0 → Type 0 → Type 0
MessageSlot T D = Option (Message T D)

module _ {T D : Type 0} (gives : T → D → Type 0) where
  -- a result of the job lies in the slot, at home
  abbrev pub HasResult : T → home.Option (MessageSlot T D) → Type 0
  HasResult j h = (d : D) × (h ≡ home.some (Some (letter.Done d))) × gives j d

  -- a job is out: given, and lying in the slot; taken by the worker; or done, with its result in the slot
  abbrev pub Running : ℕ → home.Option (MessageSlot T D) → T → List (View T) → Type 0
  Running word h j others =
      ((word ≡ 1) × (h ≡ home.some (Some (letter.Job j))) × (others ≡ view.Waiting ∷ []))
      ⊎ ((word ≡ 2) × (h ≡ home.none) × (others ≡ view.Working j ∷ []))
      ⊎ ((word ≡ 3) × HasResult j h × (others ≡ view.Waiting ∷ []))

  -- by the shop's view: the word, whether the slot is at home, and what the worker knows
  abbrev pub Row : ℕ → home.Option (MessageSlot T D) → View T → List (View T) → Type 0
  Row word h view.Alone others = (word ≡ 0) × (h ≡ home.some None) × (others ≡ [])
  Row word h view.Ready others = (word ≡ 0) × (h ≡ home.some None) × (others ≡ view.Waiting ∷ [])
  Row word h (view.Idle looks) others = (word ≡ 0) × (h ≡ home.none) × (others ≡ view.Waiting ∷ [])
  Row word h (view.Out j looks) others = Running word h j others
  Row word h (view.Closed looks) others = (word ≡ 4) × (h ≡ home.none) × (others ≡ view.Waiting ∷ [])
  Row word h view.Waiting others = ⊥
  Row word h (view.Working j) others = ⊥

  pub record Kept (s : State (MessageSlot T D) (View T)) : Type 0 where
    pub word : ℕ
    pub slot : home.Option (MessageSlot T D)
    pub shop : View T
    pub others : List (View T)
    pub words : s.words ≡ word ∷ []
    pub homes : s.homes ≡ slot ∷ []
    pub views : s.views ≡ shop ∷ others
    pub row : Row word slot shop others

module _ {T : Type 0} where
  -- the job that is out, by the shop's view, if any
  abbrev pub job_in : View T → List T
  job_in view.Alone = []
  job_in view.Ready = []
  job_in (view.Idle n) = []
  job_in (view.Out j n) = j ∷ []
  job_in (view.Closed n) = []
  job_in view.Waiting = []
  job_in (view.Working j) = []

  -- the shop's count of looks
  abbrev pub looks_in : View T → ℕ
  looks_in view.Alone = 0
  looks_in view.Ready = 0
  looks_in (view.Idle n) = n
  looks_in (view.Out j n) = n
  looks_in (view.Closed n) = n
  looks_in view.Waiting = 0
  looks_in (view.Working j) = 0

module _ {T D : Type 0} where
  -- the slot lies with the seat, and holds this
  abbrev pub Carries : View T → MessageSlot T D → Me (MessageSlot T D) (View T)
  Carries v x = (v, (0, x) ∷ [])

  -- the slot lies elsewhere
  abbrev pub Free : View T → Me (MessageSlot T D) (View T)
  Free v = (v, [])

  -- no job is out, and the slot lies with the shop's seat
  abbrev pub IsIdle : Me (MessageSlot T D) (View T) → Type 0
  IsIdle m = (looks : ℕ) × (x : MessageSlot T D) × (m ≡ Carries (view.Idle looks) x)

  -- a job is out
  abbrev pub IsOut : Me (MessageSlot T D) (View T) → Type 0
  IsOut m = (j : T) × (looks : ℕ) × (m ≡ Free (view.Out j looks))

  -- the worker waits
  abbrev pub IsWaiting : Me (MessageSlot T D) (View T) → Type 0
  IsWaiting m = m ≡ Free view.Waiting

  -- the worker works on the job
  abbrev pub IsWorking : T → Me (MessageSlot T D) (View T) → Type 0
  IsWorking j m = (x : MessageSlot T D) × (m ≡ Carries (view.Working j) x)

  -- the shop's seat once it gave the job away
  abbrev pub given_away : T → Me (MessageSlot T D) (View T) → Me (MessageSlot T D) (View T)
  given_away j m = Free (view.Out j (looks_in m.0))

-- how a seat stands between two calls
module _ {S : Type 0} where
  abbrev holds_one : List (ℕ × S) → ℕ → ℕ
  holds_one [] n = 0
  holds_one (x ∷ []) n = if x.0 == 0 then n else 0
  holds_one (x ∷ y ∷ xs) n = 0

  abbrev holds_none : List (ℕ × S) → ℕ → ℕ
  holds_none [] n = n
  holds_none (x ∷ xs) n = 0

  module _ {T : Type 0} where
    abbrev stance_of : View T → List (ℕ × S) → ℕ
    stance_of view.Alone held = 0
    stance_of view.Ready held = 0
    stance_of (view.Idle n) held = holds_one held 1
    stance_of (view.Out j n) held = holds_none held 2
    stance_of (view.Closed n) held = 0
    stance_of view.Waiting held = 0
    stance_of (view.Working j) held = 0

    -- 1 where no job is out and the slot lies with the shop's seat, 2 where a job is out, and else 0
    abbrev pub stance : Me S (View T) → ℕ
    stance m = stance_of m.0 m.1

-- what each step tells, from the seat before it to the seat behind it
module _ {T D : Type 0} (gives : T → D → Type 0) where
  -- the shop's first store takes the empty slot
  abbrev pub Opens : Me (MessageSlot T D) (View T) → Type 0
  Opens after = after ≡ Carries (view.Idle 0) None

  -- the shop gives the slot with a job
  abbrev pub Hands : Me (MessageSlot T D) (View T) → Me (MessageSlot T D) (View T) → Type 0
  Hands me after = (j : T) (looks : ℕ) → me ≡ Carries (view.Idle looks) (Some (letter.Job j)) → after ≡ given_away j me

  -- the worker takes the job where it finds 1, and else nothing changes
  abbrev pub TakesJob : Me (MessageSlot T D) (View T) → ℕ → Me (MessageSlot T D) (View T) → Type 0
  TakesJob me found after = (found ≡ 1 → (j : T) × (after ≡ Carries (view.Working j) (Some (letter.Job j)))) × (found ≢ 1 → after ≡ me)

  -- the worker gives the slot back with a result
  abbrev pub HandsBack : Me (MessageSlot T D) (View T) → Type 0
  HandsBack after = after ≡ Free view.Waiting

  -- the result of the job that is out came home
  pub record ComesBack (me : Me (MessageSlot T D) (View T)) (d : D) (after : Me (MessageSlot T D) (View T)) (x : MessageSlot T D) : Type 0 where
    pub job : T
    pub job_is : job_in me.0 ≡ job ∷ []
    pub result : gives job d
    pub after_is : after ≡ Carries (view.Idle (looks_in me.0)) x

  -- the job is still out, and one more look was in vain
  pub record StaysOut (me after : Me (MessageSlot T D) (View T)) : Type 0 where
    pub job : T
    pub job_is : job_in me.0 ≡ job ∷ []
    pub after_is : after ≡ Free (view.Out job (looks_in me.0 + 1))

  -- the shop takes the result where it finds 3, and else counts a look
  abbrev pub TakesHome : Me (MessageSlot T D) (View T) → ℕ → Me (MessageSlot T D) (View T) → Type 0
  TakesHome me found after = (found ≡ 3 → (d : D) × ComesBack me d after (Some (letter.Done d))) × (found ≢ 3 → StaysOut me after)

  -- the shop keeps the slot for good
  abbrev pub Closes : Me (MessageSlot T D) (View T) → Type 0
  Closes after = Unit {0}
