use Rattle.std.proofs.Common.{◌++◌, ◌∷◌, [], map, ◌∙◌, ap}
use Rattle.std.proofs.Math.Path.{ap₂}
use Rattle.std.proofs.lemmas.List.{map-append}
use Rattle.queue_files.specs.declared.marking.Mark.{Mark}
use Rattle.queue_core.proofs.opening.new_marks.Goals as goal

pub returns : goal.returns
returns c =
    ap (map (λ (m : Mark). m.file)) c.in_ok-push.ensures.items ∙ map-append (λ (m : Mark). m.file) c.in_ok-marks.marks.items _
    ∙ ap₂ (λ l name. l ++ name ∷ []) c.in_ok-marks.ensures c.in_ok-file.ensures
