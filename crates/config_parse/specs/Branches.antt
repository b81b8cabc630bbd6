-- What the branches of a configuration are like.
use Rattle.std.specs.Prelude.{List, [], ◌∷◌, IsSome}
use Rattle.config_tree.specs.declared.tree.Arm.{Arm}
use Rattle.config_tree.specs.declared.tree.Plugin.{Plugin}
use Rattle.config_tree.specs.declared.tree.Statement.{Statement}
use Rattle.config_tree.specs.declared.tree.Statement.TheVariants as s
use Rattle.config_tree.specs.declared.tree.Config.{Config}

-- but for the last, each arm has a condition
abbrev pub OnlyLastWithout : List Arm → Type 0
OnlyLastWithout [] = Unit {0}
OnlyLastWithout (x ∷ []) = Unit {0}
OnlyLastWithout (x ∷ y ∷ arms) = IsSome x.condition × OnlyLastWithout (y ∷ arms)

-- the first arm stands there and has a condition, and behind it the last alone may have none
abbrev pub IsBranch : List Arm → Type 0
IsBranch [] = ⊥
IsBranch (x ∷ arms) = IsSome x.condition × OnlyLastWithout arms

mutual
  -- each branch of the statements is one, also in its blocks
  pub data AreBranched : List Statement → Type 0 where
    none : AreBranched []
    plugin : {x : Plugin} {xs : List Statement} → AreBranched xs → AreBranched (s.Plugin x ∷ xs)
    branch : {arms : List Arm} {xs : List Statement} → IsBranch arms → BlocksBranched arms → AreBranched xs → AreBranched (s.Branch arms ∷ xs)

  pub data BlocksBranched : List Arm → Type 0 where
    no_block : BlocksBranched []
    block : {x : Arm} {arms : List Arm} → AreBranched x.block → BlocksBranched arms → BlocksBranched (x ∷ arms)

-- each branch of the configuration is one
abbrev pub HasBranches : Config → Type 0
HasBranches config = AreBranched config.filters × AreBranched config.outputs
