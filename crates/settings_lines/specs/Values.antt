-- The keys of an entry with their values, and the settings that they make.
use Rattle.std.specs.Prelude.{ℕ, ◌||◌, not, Bool, false, List, [], ◌∷◌, ◌++◌, find, if◌then◌else◌, Option, Some, None, option_map, is_some, unwrap_or, codes, bytes_eq}
use Rattle.settings_lines.specs.Numbers.{number_in, size_in}
use Rattle.settings_lines.specs.Table.{value_test}
use Rattle.settings_lines.specs.declared.orders.ConfigSource.{ConfigSource}
use Rattle.settings_lines.specs.declared.orders.ConfigSource.TheVariants as source
use Rattle.settings_lines.specs.declared.orders.Orders.{Orders}
use Rattle.settings_lines.specs.declared.settings.Policy.{Policy}
use Rattle.settings_lines.specs.declared.settings.Policy.TheVariants as policy
use Rattle.settings_lines.specs.declared.settings.PipelineSettings.{PipelineSettings}

-- keys with their values, in the order of the lines, each key once
abbrev pub Values : Type 0
Values = List (List ℕ × List ℕ)

-- a line's key and scalar; none where it has no form
abbrev pub Line : Type 0
Line = Option (List ℕ × List ℕ)

abbrev pub value_at : List ℕ → Values → Option (List ℕ)
value_at k vs = option_map (λ v. v.1) (find (λ v. bytes_eq v.0 k) vs)

abbrev pub stands : List ℕ → Values → Bool
stands k vs = is_some (value_at k vs)

-- with the key of a line, where it is one of the table and doesn't stand yet
abbrev pub with_pair : Values → List ℕ × List ℕ → Values
with_pair vs p = if stands p.0 vs || not (is_some (value_test p.0 p.1)) then vs else vs ++ p ∷ []

abbrev pub with_line : Values → Line → Values
with_line vs None = vs
with_line vs (Some p) = with_pair vs p

-- values in their ranges; a default stands where a key doesn't
abbrev pub number_or : ℕ → ℕ → ℕ → Option (List ℕ) → ℕ
number_or default low high None = default
number_or default low high (Some s) = unwrap_or (number_in low high s) default

abbrev pub size_or : ℕ → ℕ → Option (List ℕ) → ℕ
size_or default low None = default
size_or default low (Some s) = unwrap_or (size_in low s) default

abbrev pub text_or : List ℕ → Option (List ℕ) → List ℕ
text_or default s = unwrap_or s default

abbrev pub switch_of : Option (List ℕ) → Bool
switch_of None = false
switch_of (Some s) = bytes_eq s (codes "true")

abbrev pub policy_of : Option (List ℕ) → Policy
policy_of None = policy.Hold
policy_of (Some s) =
    if bytes_eq s (codes "drop_newer") then policy.DropNewer
    else (if bytes_eq s (codes "drop_older") then policy.DropOlder
    else policy.Hold)

-- of `config.string` and `path.config`
abbrev pub source_of : Option (List ℕ) → Option (List ℕ) → ConfigSource
source_of (Some text) path = source.Text text
source_of None path = source.Path (text_or [] path)

unfoldable pub settings_of : Orders → Values → PipelineSettings
settings_of orders vs = record {
  pipeline_id = text_or [] (value_at (codes "pipeline.id") vs);
  path_data = orders.path_data;
  source = source_of (value_at (codes "config.string") vs) (value_at (codes "path.config") vs);
  workers = number_or orders.workers 1 64 (value_at (codes "pipeline.workers") vs);
  batch = number_or orders.batch 1 10000 (value_at (codes "pipeline.batch.size") vs);
  page_capacity = size_or 67108864 1 (value_at (codes "queue.page_capacity") vs);
  max_bytes = size_or 1073741824 1 (value_at (codes "queue.max_bytes") vs);
  checkpoint_writes = number_or 1024 1 1000000 (value_at (codes "queue.checkpoint.writes") vs);
  checkpoint_acks = number_or 1024 1 1000000 (value_at (codes "queue.checkpoint.acks") vs);
  drain = switch_of (value_at (codes "queue.drain") vs);
  dead_max_bytes = size_or 1073741824 0 (value_at (codes "dead_letter_queue.max_bytes") vs);
  storage_policy = policy_of (value_at (codes "dead_letter_queue.storage_policy") vs);
}
