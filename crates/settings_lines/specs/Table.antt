-- The keys of `pipelines.yml` with their values: those of Logstash's settings, in the ranges of this project.
use Rattle.std.specs.Prelude.{ℕ, ◌||◌, Bool, true, List, if◌then◌else◌, Option, Some, None, is_some, not, codes, bytes_eq}
use Rattle.std.specs.List.{list_all}
use Rattle.std.specs.Prelude.{◌&&◌, ◌==◌, length}
use Rattle.std.specs.Char.{is_ascii_digit}
use Rattle.settings_lines.specs.Numbers.{number_in, size_in, is_id}

abbrev pub is_number : ℕ → ℕ → List ℕ → Bool
is_number low high s = is_some (number_in low high s)

abbrev pub is_size : ℕ → List ℕ → Bool
is_size low s = is_some (size_in low s)

-- digits, of which any number is read and not used
abbrev pub is_digits : List ℕ → Bool
is_digits s = not (length s == 0) && list_all is_ascii_digit s

abbrev pub is_switch : List ℕ → Bool
is_switch s = bytes_eq s (codes "true") || bytes_eq s (codes "false")

abbrev pub is_policy : List ℕ → Bool
is_policy s = bytes_eq s (codes "hold") || bytes_eq s (codes "drop_newer") || bytes_eq s (codes "drop_older")

-- whether a value is in the range of its key; none where there is no such key
abbrev pub dead_letter_test : List ℕ → List ℕ → Option Bool
dead_letter_test k s =
    if bytes_eq k (codes "dead_letter_queue.enable") then Some (bytes_eq s (codes "true"))
    else (if bytes_eq k (codes "dead_letter_queue.max_bytes") then Some (is_size 0 s)
    else (if bytes_eq k (codes "dead_letter_queue.storage_policy") then Some (is_policy s)
    else None))

abbrev pub queue_test : List ℕ → List ℕ → Option Bool
queue_test k s =
    if bytes_eq k (codes "queue.type") then Some (bytes_eq s (codes "persisted"))
    else (if bytes_eq k (codes "queue.page_capacity") then Some (is_size 1 s)
    else (if bytes_eq k (codes "queue.max_bytes") then Some (is_size 1 s)
    else (if bytes_eq k (codes "queue.checkpoint.writes") then Some (is_number 1 1000000 s)
    else (if bytes_eq k (codes "queue.checkpoint.acks") then Some (is_number 1 1000000 s)
    else (if bytes_eq k (codes "queue.drain") then Some (is_switch s)
    else dead_letter_test k s)))))

unfoldable pub value_test : List ℕ → List ℕ → Option Bool
value_test k s =
    if bytes_eq k (codes "pipeline.id") then Some (is_id s)
    else (if bytes_eq k (codes "path.config") then Some true
    else (if bytes_eq k (codes "config.string") then Some true
    else (if bytes_eq k (codes "pipeline.workers") then Some (is_number 1 64 s)
    else (if bytes_eq k (codes "pipeline.batch.size") then Some (is_number 1 10000 s)
    else (if bytes_eq k (codes "pipeline.batch.delay") then Some (is_digits s)
    else queue_test k s)))))
