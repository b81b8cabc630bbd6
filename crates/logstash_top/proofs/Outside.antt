-- The files to which the outputs of a configuration that passes its checks write stand outside of the folder of its pipeline.
use Rattle.std.specs.Prelude.{codes, bytes_eq}
use Rattle.std.proofs.Common.{◌≡◌, ◌+◌, ◌&&◌, ℕ, Bool, true, false, true≢false, Option, Some, None, List, [], ◌∷◌, ◌++◌, append_assoc, if◌then◌else◌, Ok, Err, refl, sym, ap, ap₂, ◌∙◌, subst}
use Rattle.std.proofs.lemmas.Slice.Eq.{bytes_eq-Decides}
use Rattle.std.proofs.Math.Seq.{take-append_seam, drop-append_seam}
use Rattle.std.specs.List.{AllByRecursion}
use Rattle.config_tree.specs.declared.tree.Config.{Config}
use Rattle.config_tree.specs.declared.tree.Plugin.{Plugin}
use Rattle.event_flow.specs.Parts.{parts_of}
use Rattle.graph_checks.specs.Planned.{planned_outputs}
use Rattle.graph_checks.specs.Whole.{Given, checked}
use Rattle.graph_checks.specs.declared.planned.PlannedOutputs.{PlannedOutputs}
use Rattle.event_flow.specs.Places.{Draws, drawn_for}
use Rattle.event_tree.specs.Paths.{over}
use Rattle.foreign_parts.specs.declared.place.Place.{Place}
use Rattle.foreign_parts.specs.declared.place.Place.TheVariants as place
use Rattle.built_plugins.specs.Numbering.{output_id, output_places, targets_from, targets_of}
use Rattle.built_plugins.specs.declared.output.Target.{Target}
use Rattle.graph_checks.specs.Answers.{Checked, next}
use Rattle.graph_checks.specs.declared.fault.GraphFault.{GraphFault}
use Rattle.graph_checks.specs.declared.fault.GraphFault.TheVariants.{TwicePath}
use Rattle.line_outputs.specs.OpenFiles.{IsOutside}
use Rattle.line_core.specs.Openings.{AreOutside, IsPlaceOutside}
use Rattle.settings_lines.specs.Own.{folder_of}
use Rattle.settings_lines.specs.declared.settings.PipelineSettings.{PipelineSettings}
use Rattle.logstash_top.specs.Checks.{begins_with_slash, checked_all, is_within, place_checked, targets_checked}

-- a path in a folder is within it
within_it : (folder more : List ℕ) → is_within folder (folder ++ 47 ∷ more) ≡ true
within_it folder more =
    ap₂ (λ t d. bytes_eq t folder && begins_with_slash d) (take-append_seam folder (47 ∷ more)) (drop-append_seam folder (47 ∷ more)) ∙ ap (λ b. b && true) ((bytes_eq-Decides folder folder).1 refl)

abbrev passed : Checked (Unit {0})
passed = Ok tt

abbrev no : List ℕ → Checked (Unit {0})
no path = Err (TwicePath path)

failed_by : (e : GraphFault) → Err e ≡ passed → ⊥
failed_by e is = cc

failed : (path : List ℕ) → no path ≡ passed → ⊥
failed path is = failed_by (TwicePath path) is

module _ (s : PipelineSettings) where
  in_folder : (rest : List ℕ) → folder_of s ++ rest ≡ s.path_data ++ 47 ∷ ((s.pipeline_id ++ 47 ∷ []) ++ rest)
  in_folder rest = append_assoc s.path_data (47 ∷ (s.pipeline_id ++ 47 ∷ [])) rest

  file_outside : (path : List ℕ) (within : Bool) → is_within s.path_data path ≡ within → (if within then no path else passed) ≡ passed → IsOutside (folder_of s) path
  file_outside path true is none = absurd (failed path none)
  file_outside path false is none = λ rest e.
      true≢false (sym (within_it s.path_data ((s.pipeline_id ++ 47 ∷ []) ++ rest)) ∙ sym (ap (is_within s.path_data) (e ∙ in_folder rest)) ∙ is)

  place_outside : (p : Place) → place_checked s.path_data p ≡ passed → IsPlaceOutside (folder_of s) p
  place_outside place.Stdout is = tt
  place_outside (place.File path) is = file_outside path (is_within s.path_data path) refl is
  place_outside (place.Address address) is = tt
  place_outside (place.Foreign n) is = tt
  place_outside place.Discard is = tt
  place_outside place.Dead is = tt

  abbrev Outside : Target → Type 0
  Outside t = IsPlaceOutside (folder_of s) t.place

  abbrev Passes : List Target → Type 0
  Passes ts = targets_checked s.path_data ts ≡ passed

  -- of some that pass with others behind them
  passes_next : (said : Checked (Unit {0})) (f : Checked (Unit {0})) → next (λ u. f) said ≡ passed → (said ≡ passed) × (f ≡ passed)
  passes_next (Ok u) f is = (refl, is)
  passes_next (Err e) f is = absurd (failed_by e is)

  both_pass : (ts us : List Target) → Passes (ts ++ us) → AllByRecursion Outside ts × Passes us
  both_pass [] us is = (tt, is)
  both_pass (t ∷ ts) us is =
      let one = passes_next (place_checked s.path_data t.place) (targets_checked s.path_data (ts ++ us)) is in
      let more = both_pass ts us one.1 in
      ((place_outside t.place one.0, more.0), more.1)

  all_both : (ts us : List Target) → AllByRecursion Outside ts → AllByRecursion Outside us → AllByRecursion Outside (ts ++ us)
  all_both [] us one other = other
  all_both (t ∷ ts) us one other = (one.0, all_both ts us one.1 other)

  -- a box that is drawn is no file
  foreign_outside : (id : List ℕ) (n : Option ℕ) → AllByRecursion Outside (targets_of id (over (λ k. place.Foreign k ∷ []) [] n))
  foreign_outside id None = tt
  foreign_outside id (Some k) = (tt, tt)

  alike : (id : List ℕ) (a b c d : Bool) (one two three four five six : List Place) → AllByRecursion Outside (targets_of id six)
      → AllByRecursion Outside (targets_of id (if a then one else (if b then two else (if c then three else (if d then four else five)))))
      → AllByRecursion Outside (targets_of id (if a then one else (if b then two else (if c then three else (if d then four else six)))))
  alike id true b c d one two three four five six box all = all
  alike id false true c d one two three four five six box all = all
  alike id false false true d one two three four five six box all = all
  alike id false false false true one two three four five six box all = all
  alike id false false false false one two three four five six box all = box

  pub targets_outside : (draws : Draws) (k : ℕ) (ps : List Plugin) → Passes (targets_from [] k ps) → AllByRecursion Outside (targets_from draws k ps)
  targets_outside draws k [] is = tt
  targets_outside draws k (p ∷ ps) is =
      let both = both_pass (targets_of (output_id k p) (output_places [] k p)) (targets_from [] (k + 1) ps) is in
      all_both (targets_of (output_id k p) (output_places draws k p)) (targets_from draws (k + 1) ps)
      (alike (output_id k p) (bytes_eq p.name (codes "stdout")) (bytes_eq p.name (codes "file")) (bytes_eq p.name (codes "pipeline")) (bytes_eq p.name (codes "sink")) _ _ _ _ _ _ (foreign_outside (output_id k p) (drawn_for (output_id k p) draws)) both.0)
      (targets_outside draws (k + 1) ps both.1)

  pub outgoing_outside : (given : Given) (config : Config) (draws : Draws) (outgoing : PlannedOutputs) → outgoing ≡ planned_outputs draws config → checked_all given s.path_data config ≡ Ok tt → AreOutside (folder_of s) outgoing
  outgoing_outside given config draws outgoing is passes =
      subst (AreOutside (folder_of s)) (sym is) (targets_outside draws 1 (parts_of config.outputs).plugins (passes_next (checked given config) (targets_checked s.path_data (targets_from [] 1 (parts_of config.outputs).plugins)) passes).1)
