-- The addresses from outside of inputs that were checked.
use Rattle.std.specs.Prelude.{if◌then◌else◌}
use Rattle.std.proofs.Common.{◌≡◌, ℕ, ◌+◌, List, [], ◌∷◌, ◌++◌, sym, ap, ◌∙◌, subst, append_assoc, append-nil, Bool, true, false, Option, Some, None, Ok, Err}
use Rattle.config_tree.specs.declared.tree.Plugin.{Plugin}
use Rattle.filter_settings.specs.Settings.{Made}
use Rattle.plugin_settings.specs.Read.{input_of}
use Rattle.plugin_settings.specs.declared.read.Input.{Input}
use Rattle.plugin_settings.specs.declared.read.Input.TheVariants as i
use Rattle.slot_files.specs.declared.name.PositionOf.TheVariants as position
use Rattle.graph_checks.specs.Answers.{Checked, next, of_plugin, all_checked}
use Rattle.graph_checks.specs.Inputs.{http_address, letters_address, is_many, input_path_met, address_met, outside_met, with_outside, source_met, input_id_met, input_id_next, input_read, input_checked, inputs_checked, inputs_start}
use Rattle.graph_checks.specs.Linked.{outside_address, outside_read, outside_of}
use Rattle.graph_checks.specs.Plugins.{id_behind, met_behind, path_behind, path_met}
use Rattle.graph_checks.specs.declared.fault.GraphFault.TheVariants as fault
use Rattle.graph_checks.specs.declared.inputs.SeenInputs.{SeenInputs}
use Rattle.graph_checks.proofs.Passing.{Fails, ok_same, went}

stdin_outside : (b : Bool) (m n : SeenInputs) → ◌≡◌ {A = Checked SeenInputs} (if b then Err fault.TwiceStdin else Ok (record m { has_stdin = true })) (Ok n) → n.outside ≡ m.outside
stdin_outside true m n is = absurd (subst Fails is tt)
stdin_outside false m n is = sym (ap (λ x. x.outside) (ok_same (record m { has_stdin = true }) n is))

path_outside : (path : List ℕ) (m n : SeenInputs) → input_path_met path m ≡ Ok n → n.outside ≡ m.outside
path_outside path m n is =
    let a = went (λ met. Ok (record m { paths = met })) (if is_many false path then path_behind path m.paths else path_met position.Input path m.paths) n is in
    sym (ap (λ x. x.outside) (ok_same (record m { paths = a.value }) n a.later))

address_outside : (address : List ℕ) (m n : SeenInputs) → address_met address m ≡ Ok n → n.outside ≡ m.outside
address_outside address m n is =
    let a = went (λ met. Ok (record m { addresses = met })) (met_behind (fault.TwiceAddress address) address m.addresses) n is in
    sym (ap (λ x. x.outside) (ok_same (record m { addresses = a.value }) n a.later))

outside_more : (address : List ℕ) (m n : SeenInputs) → outside_met address m ≡ Ok n → n.outside ≡ m.outside ++ address ∷ []
outside_more address m n is =
    let a = went (λ met. Ok (with_outside address met)) (address_met address m) n is in
    sym (ap (λ x. x.outside) (ok_same (with_outside address a.value) n a.later)) ∙ ap (λ xs. xs ++ address ∷ []) (address_outside address m a.value a.first)

-- none more
module _ (m n : SeenInputs) where
  none_more : n.outside ≡ m.outside → n.outside ≡ m.outside ++ []
  none_more is = is ∙ sym (append-nil m.outside)

  source_outside : (input : Input) → source_met input m ≡ Ok n → n.outside ≡ m.outside ++ outside_address input
  source_outside (i.Stdin s) is = none_more (stdin_outside m.has_stdin m n is)
  source_outside (i.Generator g) is = none_more (sym (ap (λ x. x.outside) (ok_same m n is)))
  source_outside (i.File f) is = none_more (path_outside f.path m n is)
  source_outside (i.Tcp t) is = none_more (sym (ap (λ x. x.outside) (ok_same m n is)))
  source_outside (i.Http h) is = outside_more (http_address h.port) m n is
  source_outside (i.Pipeline a) is = none_more (address_outside a.address m n is)
  source_outside (i.DeadLetters d) is = outside_more (letters_address d.pipeline_id) m n is

  id_outside : (id : List ℕ) → input_id_met id m ≡ Ok n → n.outside ≡ m.outside
  id_outside id is =
      let a = went (λ met. Ok (record m { ids = met; inputs = m.inputs + 1 })) (id_behind id m.ids) n is in
      sym (ap (λ x. x.outside) (ok_same (record m { ids = a.value; inputs = m.inputs + 1 }) n a.later))

read_outside : (id : List ℕ) (p : Plugin) (m n : SeenInputs) (r : Made (Option Input)) → next (input_read id p m) (of_plugin id r) ≡ Ok n → n.outside ≡ m.outside ++ outside_read r
read_outside id p m n (Ok (Some input)) is =
    let a = went (source_met input) (input_id_met id m) n is in
    source_outside a.value n input a.later ∙ ap (λ xs. xs ++ outside_address input) (id_outside m a.value id a.first)
read_outside id p m n (Ok None) is = absurd (subst Fails is tt)
read_outside id p m n (Err f) is = absurd (subst Fails is tt)

input_outside : (p : Plugin) (m n : SeenInputs) → input_checked p m ≡ Ok n → n.outside ≡ m.outside ++ outside_read (input_of p.name p.settings.list)
unfolding input_checked
input_outside p m n is = read_outside (input_id_next m p) p m n (input_of p.name p.settings.list) is

all_outside : (ps : List Plugin) (m n : SeenInputs) → all_checked input_checked ps m ≡ Ok n → n.outside ≡ m.outside ++ outside_of ps
all_outside [] m n is = none_more m n (sym (ap (λ x. x.outside) (ok_same m n is)))
all_outside (p ∷ ps) m n is =
    let a = went (all_checked input_checked ps) (input_checked p m) n is in
    let one = outside_read (input_of p.name p.settings.list) in
    all_outside ps a.value n a.later ∙ ap (λ xs. xs ++ outside_of ps) (input_outside p m a.value a.first) ∙ append_assoc m.outside one (outside_of ps)

pub outside_is : (ps : List Plugin) (n : SeenInputs) → inputs_checked ps ≡ Ok n → n.outside ≡ outside_of ps
unfolding inputs_checked
outside_is ps n is = all_outside ps inputs_start n is
