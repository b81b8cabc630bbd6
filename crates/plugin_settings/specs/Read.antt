-- What inputs and outputs are read as, by their names.
use Rattle.std.specs.Prelude.{ℕ, List, if◌then◌else◌, codes, bytes_eq, Option, Some, None, Ok}
use Rattle.config_tree.specs.Joining.{Entries}
use Rattle.filter_settings.specs.Settings.{Made, with_made}
use Rattle.plugin_settings.specs.Inputs as inputs
use Rattle.plugin_settings.specs.Outputs as outputs
use Rattle.plugin_settings.specs.declared.read.Input.{Input}
use Rattle.plugin_settings.specs.declared.read.Input.TheVariants as i
use Rattle.plugin_settings.specs.declared.read.Output.{Output}
use Rattle.plugin_settings.specs.declared.read.Output.TheVariants as o

-- what is made, as an input or an output that was found
abbrev pub some_of : {A B : Type 0} → (A → B) → Made A → Made (Option B)
some_of f made = with_made (λ x. Some (f x)) made

-- the input of a name; none where no input has it
unfoldable pub input_of : List ℕ → Entries → Made (Option Input)
input_of k es =
    if bytes_eq k (codes "stdin") then some_of i.Stdin (inputs.stdin_of es)
    else (if bytes_eq k (codes "generator") then some_of i.Generator (inputs.generator_of es)
    else (if bytes_eq k (codes "file") then some_of i.File (inputs.file_of es)
    else (if bytes_eq k (codes "tcp") then some_of i.Tcp (inputs.tcp_of es)
    else (if bytes_eq k (codes "http") then some_of i.Http (inputs.http_of es)
    else (if bytes_eq k (codes "pipeline") then some_of i.Pipeline (inputs.address_of es)
    else (if bytes_eq k (codes "dead_letter_queue") then some_of i.DeadLetters (inputs.letters_of es)
    else Ok None))))))

-- the output of a name; none where no output that is built in has it
unfoldable pub output_of : List ℕ → Entries → Made (Option Output)
output_of k es =
    if bytes_eq k (codes "stdout") then some_of o.Stdout (outputs.stdout_of es)
    else (if bytes_eq k (codes "file") then some_of o.File (outputs.file_of es)
    else (if bytes_eq k (codes "pipeline") then some_of o.Pipeline (outputs.send_of es)
    else (if bytes_eq k (codes "sink") then some_of o.Sink (outputs.sink_of es)
    else Ok None)))
