-- The settings of the one pipeline that a command line itself names, and the folder of a pipeline.
use Rattle.std.specs.Prelude.{ℕ, List, [], ◌++◌, codes}
use Rattle.settings_lines.specs.Values.{settings_of}
use Rattle.settings_lines.specs.declared.orders.Orders.{Orders}
use Rattle.settings_lines.specs.declared.settings.PipelineSettings.{PipelineSettings}

-- those of an entry without keys, with the id and the source that the words name
abbrev pub own_settings : Orders → PipelineSettings
own_settings o = record (settings_of o []) { pipeline_id = o.pipeline_id; source = o.source }

-- `<path.data>/<id>/`
abbrev pub folder_of : PipelineSettings → List ℕ
folder_of s = s.path_data ++ (codes "/" ++ (s.pipeline_id ++ codes "/"))
