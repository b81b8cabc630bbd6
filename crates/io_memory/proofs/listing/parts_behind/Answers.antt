use Rattle.std.proofs.Common.{[], sym, ◌∙◌, subst, arith}
use Rattle.std.proofs.lemmas.List.{take_all}
use Rattle.plain_data.specs.Members.{Rises}
use Rattle.io_memory.specs.Parts.{IsListed, Takes}
use Rattle.io_memory.proofs.PartLemmas.{listed_none, listed_step}
use Rattle.io_memory.proofs.listing.parts_behind.Goals as goal

pub loop-member-init : goal.loop-member-init
loop-member-init c = subst (IsListed c.args.start.now []) (sym c.new-names.ensures) (listed_none c.args.start.now)

pub loop-member-preserved : goal.loop-member-preserved
loop-member-preserved c =
    let takes : Takes c.args.start.now c.member-item.result.0 c.loop-member.names c.take_part.new.names = subst (λ n. Takes c.args.start.now n c.loop-member.names c.take_part.new.names) c.as_str.ensures c.in_ok-take_part.ensures in
    listed_step c.args.start.now c.members-member-items.result.now c.loop-member.member-index c.member-item.result c.loop-member.names c.take_part.new.names c.loop-member.invariant (subst Rises (sym c.members-member-items.ensures.same) c.members-member-items.ensures.rises) (omega arith) c.member-item.is takes

pub returns : goal.returns
returns c =
    subst (λ l. IsListed c.args.start.now l c.loop-member.names) (take_all c.loop-member.member-index c.members-member-items.result.now (omega arith) ∙ c.members-member-items.ensures.same) c.loop-member.invariant
