-- Inputs as their settings open them.
use Rattle.std.specs.Prelude.{◌≡◌, ℕ, false, Option, Some, None, Result, Ok, Err, List, []}
use Rattle.std.specs.declared.alloc.AllocError.{AllocError}
use Rattle.io_traits.specs.declared.files.Files.{Ghosts as FilesWords}
use Rattle.io_traits.specs.declared.stores.Store.{Ghosts as StoreWords}
use Rattle.in_file.specs.Streams.{begun}
use Rattle.in_file.specs.declared.faults.OpenFault.{OpenFault}
use Rattle.in_file.specs.declared.faults.OpenFault.TheVariants.{Memory}
use Rattle.in_lines.specs.declared.codec.Codec.TheVariants.{Plain}
use Rattle.plugin_settings.specs.declared.inputs.FileInputSettings.{FileInputSettings}
use Rattle.plugin_settings.specs.declared.inputs.GeneratorSettings.{GeneratorSettings}
use Rattle.plugin_settings.specs.declared.common.InputSettings.{InputSettings}
use Rattle.plugin_settings.specs.declared.network.TcpSettings.{TcpSettings}
use Rattle.plugin_settings.specs.declared.read.Input.{Input}
use Rattle.plugin_settings.specs.declared.read.Input.TheVariants as i
use Rattle.line_inputs.specs.Generating.{begun as generator_begun}
use Rattle.line_inputs.specs.Inputs.{InputView}
use Rattle.line_inputs.specs.Openings.{AreOfPath, AreOpen}
use Rattle.line_inputs.specs.Settings.{generator_of, plain_settings, plan_of, settings_of}
use Rattle.line_inputs.specs.Sources.{files_of}
use Rattle.line_inputs.specs.declared.source.InputSource.TheVariants.{Stdin, Generated, Connections}

-- an input that was made, or that there was no memory for it
abbrev pub or_memory : Result InputView AllocError → Result (Option InputView) OpenFault
or_memory (Ok made) = Ok (Some made)
or_memory (Err e) = Err Memory

abbrev pub stdin_input : InputSettings → InputView
stdin_input s = record { source = Stdin (begun s.codec); settings = settings_of s; waiting = None; ended = false }

abbrev pub generator_input : GeneratorSettings → InputView
generator_input g = record { source = Generated (generator_begun (generator_of g)); settings = plain_settings Plain; waiting = None; ended = false }

abbrev pub tcp_input : TcpSettings → InputView
tcp_input t = record {
  source = Connections (record { host = t.host; port = t.port; codec = t.common.codec; connections = []; parts = []; looks = [] });
  settings = settings_of t.common;
  waiting = None;
  ended = false;
}

module _ {S F : Type 0} (store : StoreWords S) (files : FilesWords F) (folder : List ℕ) (first : S) (files_first : F) (watched joined : List (List ℕ)) where
  -- the input of the files that settings name
  pub record IsFileInput (f : FileInputSettings) (made : InputView) : Type 0 where
    pub paths : AreOfPath files folder f.path watched joined files_first (files_of made.source)
    pub open_are : AreOpen store files folder (plan_of f) first (files_of made.source)
    pub settings : made.settings ≡ settings_of f.common
    pub waiting : made.waiting ≡ None
    pub ended : made.ended ≡ false

  abbrev IsFileOpen : FileInputSettings → Option InputView → Type 0
  IsFileOpen f None = ⊥
  IsFileOpen f (Some made) = IsFileInput f made

  -- the input that settings open; none, where it takes no lines
  abbrev pub IsOpenAs : Input → Option InputView → Type 0
  IsOpenAs (i.Stdin s) made = made ≡ Some (stdin_input s)
  IsOpenAs (i.Generator g) made = made ≡ Some (generator_input g)
  IsOpenAs (i.File f) made = IsFileOpen f made
  IsOpenAs (i.Tcp t) made = made ≡ Some (tcp_input t)
  IsOpenAs (i.Http h) made = made ≡ None
  IsOpenAs (i.Pipeline a) made = made ≡ None
  IsOpenAs (i.DeadLetters d) made = made ≡ None
