-- What the words of a command line order, of the options that the command finds. The options are those of Logstash, and
-- `--sample`, `--apart`, `--pqcheck` and `--pqrepair` are this project's own.
use Rattle.std.specs.Prelude.{◌≡◌, ℕ, ◌&&◌, not, nat_lt, Bool, true, false, List, [], ◌∷◌, if◌then◌else◌, Option, Some, None, option_map, is_some, unwrap_or, Result, Ok, Err, ⊤, codes, bytes_eq, count_by}
use Rattle.std.specs.Option.{option_map_or}
use Rattle.std.specs.Borrow.{Bor}
use Rattle.clap.specs.Walk.{Row, Text, first_of, rows_of}
use Rattle.clap.specs.Matches.{found_of}
use Rattle.clap.specs.Kinds.{Kinds}
use Rattle.clap.specs.declared.parser.matches.ArgMatches.{ArgMatches}
use Rattle.settings_lines.specs.Numbers.{number_in, is_id}
use Rattle.settings_lines.specs.declared.orders.ConfigSource.{ConfigSource}
use Rattle.settings_lines.specs.declared.orders.ConfigSource.TheVariants as source
use Rattle.settings_lines.specs.declared.orders.QueueTool.{QueueTool}
use Rattle.settings_lines.specs.declared.orders.QueueTool.TheVariants as tool
use Rattle.settings_lines.specs.declared.orders.Orders.{Orders}
use Rattle.logstash_settings.specs.declared.fault.RangedOption.{RangedOption}
use Rattle.logstash_settings.specs.declared.fault.RangedOption.TheVariants as ranged
use Rattle.logstash_settings.specs.declared.fault.WordsFault.{WordsFault}
use Rattle.logstash_settings.specs.declared.fault.WordsFault.TheVariants as fault
use Rattle.logstash_settings.specs.Command.{faults, found}

-- what a parse found
abbrev pub rows : ArgMatches → List Row
rows m = rows_of (found_of m)

-- the text behind a reference, if there is one
abbrev pub text_in : Option (Bor Text) → Option Text
text_in = option_map (λ s. s.now)

-- the value of an option, where it stands; that of a flag is `true` or `false`
abbrev pub value : Text → List Row → Option Text
value id found = first_of id found

abbrev pub is_set : Text → List Row → Bool
is_set id found = option_map_or (λ t. bytes_eq t (codes "true")) (value id found) false

abbrev pub stands : Text → List Row → Bool
stands id found = is_some (value id found)

-- the options that say what is to run, of which one stands at most
abbrev pub sources : List Text
sources = codes "config.string" ∷ codes "path.config" ∷ codes "sample" ∷ codes "pqcheck" ∷ codes "pqrepair" ∷ []

abbrev pub has_both : List Row → Bool
has_both found = nat_lt 1 (count_by (λ id. stands id found) sources)

-- a value in its range, or none at all
abbrev pub fits_number : ℕ → ℕ → Option Text → Bool
fits_number low high None = true
fits_number low high (Some t) = is_some (number_in low high t)

abbrev pub fits_id : Option Text → Bool
fits_id None = true
fits_id (Some t) = is_id t

-- the first option whose value is not in its range
abbrev pub range_fault : List Row → Option RangedOption
range_fault found =
    if not (fits_number 1 64 (value (codes "pipeline.workers") found)) then Some ranged.Workers
    else (if not (fits_number 1 10000 (value (codes "pipeline.batch.size") found)) then Some ranged.BatchSize
    else (if not (fits_id (value (codes "pipeline.id") found)) then Some ranged.PipelineId
    else (if not (fits_number 1 1000000 (value (codes "sample") found)) then Some ranged.Sample
    else (if not (fits_id (value (codes "pqcheck") found)) then Some ranged.QueueCheck
    else (if not (fits_id (value (codes "pqrepair") found)) then Some ranged.QueueRepair
    else None)))))

-- a number, or its default where the option doesn't stand
abbrev pub number_or : ℕ → ℕ → ℕ → Option Text → ℕ
number_or default low high None = default
number_or default low high (Some t) = unwrap_or (number_in low high t) default

abbrev pub text_or : Text → Option Text → Text
text_or default t = unwrap_or t default

abbrev pub sample_of : Option ℕ → ConfigSource
sample_of None = source.Pipelines
sample_of (Some n) = source.Sample n

-- of `-e`, `-f` and `--sample`
abbrev pub source_of : Option Text → Option Text → Option Text → ConfigSource
source_of (Some t) path sample = source.Text t
source_of None (Some p) sample = source.Path p
source_of None None (Some n) = sample_of (number_in 1 1000000 n)
source_of None None None = source.Pipelines

-- of `--pqcheck` and `--pqrepair`
abbrev pub tool_of : Option Text → Option Text → Option QueueTool
tool_of (Some id) repair = Some (tool.Check id)
tool_of None (Some id) = Some (tool.Repair id)
tool_of None None = None

abbrev pub orders_of : List Row → Orders
orders_of found = record {
  source = source_of (value (codes "config.string") found) (value (codes "path.config") found) (value (codes "sample") found);
  tool = tool_of (value (codes "pqcheck") found) (value (codes "pqrepair") found);
  test = is_set (codes "config.test_and_exit") found;
  reload = is_set (codes "config.reload.automatic") found;
  apart = is_set (codes "apart") found;
  workers = number_or 2 1 64 (value (codes "pipeline.workers") found);
  batch = number_or 125 1 10000 (value (codes "pipeline.batch.size") found);
  path_data = text_or (codes "data") (value (codes "path.data") found);
  path_settings = text_or (codes "config") (value (codes "path.settings") found);
  pipeline_id = text_or (codes "main") (value (codes "pipeline.id") found);
}

-- what is answered: the orders, or the first fault
abbrev pub Answer : Type 0
Answer = Result Orders WordsFault

abbrev pub in_range : Option RangedOption → Answer → Answer
in_range None next = next
in_range (Some option) next = Err (fault.Range option)

abbrev pub taken : List Row → Answer
taken found =
    if has_both found then Err fault.Both
    else in_range (range_fault found)
    (if is_set (codes "apart") found && is_set (codes "config.reload.automatic") found then Err fault.Apart
    else Ok (orders_of found))

abbrev pub answer : Kinds → List Row → Answer
answer [] found = taken found
answer (k ∷ ks) found = Err fault.Unread

-- of the words: the command takes them where it finds no fault in them
abbrev pub answer_of : List Text → Answer
answer_of words = answer (faults words) (found words)

-- the fault is that one; memory may run out in its place
abbrev pub Refuses : WordsFault → Answer → Type 0
Refuses fault.Memory said = ⊤
Refuses why said = said ≡ Err why

-- the answer is that one, unless memory ran out
abbrev pub Gives : Answer → Answer → Type 0
Gives (Ok orders) said = said ≡ Ok orders
Gives (Err why) said = Refuses why said
