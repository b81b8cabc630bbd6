-- The numbers and the ids of a pipeline's inputs, by the configurations that it adopted since it was opened.
use Rattle.std.specs.Prelude.{◌≡◌, ◌⊎◌, ℕ, suc, List, [], ◌∷◌, length, map, true, false, Bool, codes, ⊤}
use Rattle.config_tree.specs.declared.tree.Plugin.{Plugin}
use Rattle.event_flow.specs.Ids.{plugin_id}
use Rattle.history_book.specs.States.{Plan}
use Rattle.history_book.specs.Lists.{IsIn}

-- an input: its number, its statement, its id, and whether the newest configuration has it
pub record Input : Type 0 where
  pub number : ℕ
  pub statement : Plugin
  pub id : List ℕ
  pub is_open : Bool

-- the statements of inputs with their ids, the first of which is the k-th
abbrev pub named_from : ℕ → List Plugin → List (Plugin × List ℕ)
named_from k [] = []
named_from k (p ∷ ps) = (p, plugin_id (codes "input") k p) ∷ named_from (suc k) ps

abbrev pub closed : Input → Input
closed i = record i { is_open = false }

-- The statement is that of an open input: of the first of these, which has this number; the others are these.
abbrev pub Continues : Plugin → List Input → ℕ → List Input → Type 0
Continues p [] number others = ⊥
Continues p (i ∷ is) number others =
    ((i.statement ≡ p) × (i.is_open ≡ true) × (number ≡ i.number) × (others ≡ is))
    ⊎ (((i.statement ≡ p) × (i.is_open ≡ true) → ⊥) × (rest : List Input) × (others ≡ i ∷ rest) × Continues p is number rest)

-- it is that of none of them
abbrev pub IsNew : Plugin → List Input → Type 0
IsNew p [] = ⊤
IsNew p (i ∷ is) = ((i.statement ≡ p) × (i.is_open ≡ true) → ⊥) × IsNew p is

-- The inputs of a configuration, in the order of its text: one whose statement is that of an input that was open keeps its number; each other one gets the
-- next number that is unused since the pipeline was opened. Inputs that no statement continues stay behind them, closed.
abbrev pub Renumbered : ℕ → List Input → List (Plugin × List ℕ) → List Input → Type 0
Renumbered unused before [] now = now ≡ map closed before
Renumbered unused before (p ∷ ps) now =
    (i : Input) × (rest : List Input) × (now ≡ i ∷ rest) × (i.statement ≡ p.0) × (i.id ≡ p.1) × (i.is_open ≡ true)
    × (((others : List Input) × Continues p.0 before i.number others × Renumbered unused others ps rest)
    ⊎ (IsNew p.0 before × (i.number ≡ unused) × Renumbered (suc unused) before ps rest))

-- the inputs by these configurations, the newest first
abbrev pub AreInputs : List Plan → List Input → Type 0
AreInputs [] now = now ≡ []
AreInputs (plan ∷ plans) now =
    (before : List Input) × AreInputs plans before × Renumbered (length before) before (named_from 1 plan.config.inputs) now

-- by them this is the input of this number
pub record IsInput (plans : List Plan) (number : ℕ) (input : Input) : Type 0 where
  pub inputs : List Input
  pub are : AreInputs plans inputs
  pub has : IsIn input inputs
  pub number_is : input.number ≡ number

-- the input of this number has this id by them
abbrev pub HasId : List Plan → ℕ → List ℕ → Type 0
HasId plans number id = (input : Input) × IsInput plans number input × (input.id ≡ id)
