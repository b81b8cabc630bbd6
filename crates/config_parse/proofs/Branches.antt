-- What is read has branches as they should be.
use Rattle.std.proofs.Common.{List, [], ◌∷◌, ◌++◌, ℕ, IsSome, refl}
use Rattle.config_lex.specs.declared.token.Token.{Token}
use Rattle.config_tree.specs.declared.tree.Arm.{Arm}
use Rattle.config_tree.specs.declared.tree.Statement.{Statement}
use Rattle.config_tree.specs.declared.tree.Config.{Config}
use Rattle.config_parse.specs.Grammar as g
use Rattle.config_parse.specs.Machine.{last_arm}
use Rattle.config_parse.specs.Branches as b
use Rattle.config_parse.specs.Branches.{OnlyLastWithout, IsBranch, AreBranched, BlocksBranched, HasBranches}

both : {xs ys : List Statement} → AreBranched xs → AreBranched ys → AreBranched (xs ++ ys)
both b.none q = q
both (b.plugin p) q = b.plugin (both p q)
both (b.branch i a p) q = b.branch i a (both p q)

-- arms that all have conditions, and one more
abbrev Conditions : List Arm → Type 0
Conditions [] = Unit {0}
Conditions (x ∷ arms) = IsSome x.condition × Conditions arms

and_one : (arms : List Arm) (x : Arm) → Conditions arms → IsSome x.condition → Conditions (arms ++ x ∷ [])
and_one [] x c h = (h, tt)
and_one (y ∷ arms) x c h = (c.0, and_one arms x c.1 h)

and_block : (arms : List Arm) (x : Arm) → BlocksBranched arms → AreBranched x.block → BlocksBranched (arms ++ x ∷ [])
and_block [] x p q = b.block q b.no_block
and_block (y ∷ arms) x (b.block p ps) q = b.block p (and_block arms x ps q)

ends : (arms : List Arm) → Conditions arms → OnlyLastWithout arms
ends [] c = tt
ends (x ∷ []) c = tt
ends (x ∷ y ∷ arms) c = (c.0, ends (y ∷ arms) c.1)

ends_with : (arms : List Arm) (x : Arm) → Conditions arms → OnlyLastWithout (arms ++ x ∷ [])
ends_with [] x c = tt
ends_with (y ∷ []) x c = (c.0, tt)
ends_with (y ∷ z ∷ arms) x c = (c.0, ends_with (z ∷ arms) x c.1)

-- arms in front of what comes behind them
abbrev Front : List Arm → Type 0
Front [] = ⊥
Front (x ∷ arms) = IsSome x.condition × Conditions arms

goes_on : (arms : List Arm) (x : Arm) → Front arms → IsSome x.condition → Front (arms ++ x ∷ [])
goes_on [] x f h = absurd f
goes_on (y ∷ arms) x f h = (f.0, and_one arms x f.1 h)

is_branch : (arms : List Arm) → Front arms → IsBranch arms
is_branch [] f = absurd f
is_branch (x ∷ arms) f = (f.0, ends arms f.1)

with_last : (arms : List Arm) (x : Arm) → Front arms → IsBranch (arms ++ x ∷ [])
with_last [] x f = absurd f
with_last (y ∷ arms) x f = (f.0, ends_with arms x f.1)

mutual
  statements_branched : {d : ℕ} {front : List Statement} {a : List Token} {xs : List Statement} → g.ReadsStatements d front a xs → AreBranched front → AreBranched xs
  statements_branched g.no_statement f = f
  statements_branched (g.plugin_statement p r) f = statements_branched r (both f (b.plugin b.none))
  statements_branched (g.branch p q r) f =
      let x = arm_branched p in
      let arms = else_branched q (x.0, tt) (b.block x.1 b.no_block) in statements_branched r (both f (b.branch arms.0 arms.1 b.none))

  arm_branched : {d : ℕ} {a : List Token} {x : Arm} → g.ReadsArm d a x → IsSome x.condition × AreBranched x.block
  arm_branched (g.arm p q) = (refl, statements_branched q b.none)

  else_branched : {d : ℕ} {a : List Token} {front arms : List Arm} → g.ReadsElse d front a arms → Front front → BlocksBranched front → IsBranch arms × BlocksBranched arms
  else_branched (g.no_else {front = front}) f h = (is_branch front f, h)
  else_branched (g.else_if {x = x} {front = front} p q) f h = let arm = arm_branched p in else_branched q (goes_on front x f arm.0) (and_block front x h arm.1)
  else_branched (g.else {front = front} {xs = xs} q) f h = let last = last_arm xs in (with_last front last f, and_block front last h (statements_branched q b.none))

sections_branched : {d : ℕ} {front : Config} {a : List Token} {all : Config} → g.ReadsSections d front a all → HasBranches front → HasBranches all
sections_branched g.no_section h = h
sections_branched (g.input p q) h = sections_branched q h
sections_branched (g.filter p q) h = sections_branched q (both h.0 (statements_branched p b.none), h.1)
sections_branched (g.output p q) h = sections_branched q (h.0, both h.1 (statements_branched p b.none))

pub branched : {d : ℕ} {a : List Token} {config : Config} → g.ReadsConfig d a config → HasBranches config
branched q = sections_branched q (b.none, b.none)
