-- How many patterns a filter has.
use Rattle.std.specs.Prelude.{ℕ, length}
use Rattle.std.specs.List.{sum_by}
use Rattle.built_plugins.specs.declared.built.BuiltFilter.{BuiltFilter}
use Rattle.built_plugins.specs.declared.built.BuiltFilter.TheVariants as built
use Rattle.built_plugins.specs.declared.filter.Filter.{Filter}
use Rattle.built_plugins.specs.declared.filter.Filter.TheVariants as f

-- the patterns of a built-in filter: those of `gsub` and of grok
abbrev pub built_patterns : BuiltFilter → ℕ
built_patterns (built.Mutate x) = length x.gsub
built_patterns (built.Grok x) = sum_by (λ p. length p.1) x.fields
built_patterns (built.Clone x) = 0
built_patterns (built.Split x) = 0
built_patterns (built.Drop x) = 0
built_patterns (built.Json x) = 0
built_patterns (built.Kv x) = 0
built_patterns (built.Csv x) = 0
built_patterns (built.Date x) = 0

abbrev pub filter_patterns : Filter → ℕ
filter_patterns (f.Built x) = built_patterns x
filter_patterns (f.Boxed x) = 0
