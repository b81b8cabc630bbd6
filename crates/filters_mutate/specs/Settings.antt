-- What the settings of the filter mutate are read as.
use Rattle.std.specs.Prelude.{ℕ, List, [], codes, bytes_eq, if◌then◌else◌, Ok, Err}
use Rattle.event_text.specs.Options.{no_options}
use Rattle.config_tree.specs.Joining.{Entries}
use Rattle.config_tree.specs.declared.fault.SettingFault.TheVariants as fault
use Rattle.config_tree.specs.declared.tree.SettingValue.{SettingValue}
use Rattle.filter_settings.specs.Settings.{Made, wanted, with_made, next, all_set}
use Rattle.filter_settings.specs.Readers.{text_of, paths_of, field_texts_of, field_paths_of, field_templates_of, field_conversions_of}
use Rattle.filter_settings.specs.Options.{option_set}
use Rattle.filters_mutate.specs.Gsub.{substitutions_of, are_patterns}
use Rattle.filters_mutate.specs.declared.gsub.Substitution.{Substitution}
use Rattle.filters_mutate.specs.declared.mutate.Mutate.{Mutate}

-- the substitutions, where each pattern is one
abbrev pub with_patterns : List ℕ → List Substitution → Made (List Substitution)
with_patterns k gs = if are_patterns gs then Ok gs else Err (fault.BadPattern k)

abbrev pub gsub_of : List ℕ → SettingValue → Made (List Substitution)
gsub_of k x = next (with_patterns k) (wanted k (substitutions_of x))

-- one setting of an operation on a text or a list, the tag, or one that every filter has
abbrev pub further_set : List ℕ → SettingValue → Mutate → Made Mutate
further_set k x m = if bytes_eq k (codes "uppercase") then with_made (λ ws. record m { uppercase = ws }) (wanted k (paths_of x))
    else (if bytes_eq k (codes "capitalize") then with_made (λ ws. record m { capitalize = ws }) (wanted k (paths_of x))
    else (if bytes_eq k (codes "lowercase") then with_made (λ ws. record m { lowercase = ws }) (wanted k (paths_of x))
    else (if bytes_eq k (codes "strip") then with_made (λ ws. record m { strip = ws }) (wanted k (paths_of x))
    else (if bytes_eq k (codes "split") then with_made (λ ps. record m { split = ps }) (wanted k (field_texts_of x))
    else (if bytes_eq k (codes "join") then with_made (λ ps. record m { join = ps }) (wanted k (field_texts_of x))
    else (if bytes_eq k (codes "tag_on_failure") then with_made (λ s. record m { tag_on_failure = s }) (wanted k (text_of x))
    else with_made (λ o. record m { options = o }) (option_set k x m.options)))))))

-- one setting
abbrev pub mutate_set : List ℕ → SettingValue → Mutate → Made Mutate
mutate_set k x m = if bytes_eq k (codes "coerce") then with_made (λ ps. record m { coerce = ps }) (wanted k (field_templates_of x))
    else (if bytes_eq k (codes "rename") then with_made (λ ps. record m { rename = ps }) (wanted k (field_paths_of x))
    else (if bytes_eq k (codes "update") then with_made (λ ps. record m { update = ps }) (wanted k (field_templates_of x))
    else (if bytes_eq k (codes "replace") then with_made (λ ps. record m { replace = ps }) (wanted k (field_templates_of x))
    else (if bytes_eq k (codes "convert") then with_made (λ ps. record m { convert = ps }) (wanted k (field_conversions_of x))
    else (if bytes_eq k (codes "gsub") then with_made (λ gs. record m { gsub = gs }) (gsub_of k x)
    else (if bytes_eq k (codes "merge") then with_made (λ ps. record m { merge = ps }) (wanted k (field_paths_of x))
    else (if bytes_eq k (codes "copy") then with_made (λ ps. record m { copy = ps }) (wanted k (field_paths_of x))
    else further_set k x m)))))))

-- before any setting
abbrev pub mutate_start : Mutate
mutate_start = record {
  coerce = [];
  rename = [];
  update = [];
  replace = [];
  convert = [];
  gsub = [];
  uppercase = [];
  capitalize = [];
  lowercase = [];
  strip = [];
  split = [];
  join = [];
  merge = [];
  copy = [];
  tag_on_failure = codes "_mutate_error";
  options = no_options;
}

-- what the settings are read as
abbrev pub mutate_of : Entries → Made Mutate
mutate_of es = all_set mutate_set es mutate_start
