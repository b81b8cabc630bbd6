use Rattle.std.proofs.lemmas.List.Elements.{All-push}
use Rattle.std.proofs.Common.{All, sym, subst, ap, ◌+◌, ◌∷◌, [], length, length-append, ◌∙◌}
use Rattle.graph_checks.specs.Plans.{HasNoBox, IsKitOf}
use Rattle.graph_checks.proofs.kits.make_kits.Goals as goal

pub loop-preserved : goal.loop-preserved
loop-preserved g c =
    let i = c.loop.invariant in
    let kit = c.in_ok-make_kit.field-0 in
    let kits = c.loop.kits.items in
    let more = c.in_ok-push.ensures.items in
    record {
      kits = subst (All (IsKitOf c.args.draws.now c.args.config.now)) (sym more) (All-push (IsKitOf c.args.draws.now c.args.config.now) kits kit i.kits c.in_ok-make_kit.ensures.kit);
      boxes = subst (All HasNoBox) (sym more) (All-push HasNoBox kits kit i.boxes c.in_ok-make_kit.ensures.boxes);
      count = ap length more ∙ length-append kits (kit ∷ []) ∙ ap (λ n. n + 1) i.count;
    }
