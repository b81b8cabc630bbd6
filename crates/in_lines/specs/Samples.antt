-- The lines of a sample: made from numbers that follow one another, so that each run of it has the same lines (this project's tables).
use Rattle.std.specs.Prelude.{ℕ, zero, suc, ◌+◌, ◌*◌, ◌/◌, ◌%◌, ◌^◌, ◌==◌, List, ◌++◌, codes, decimal, if◌then◌else◌}

-- the next number: a linear congruential generator modulo 2^64, with Knuth's multiplier for MMIX (The Art of Computer Programming, volume 2, 3.3.4)
abbrev pub next_number : ℕ → ℕ
next_number x = (x * 6364136223846793005 + 1442695040888963407) % 2 ^ 64

-- the number of the k-th line of a sample from a number on
abbrev pub number_at : ℕ → ℕ → ℕ
number_at from zero = from
number_at from (suc k) = next_number (number_at from k)

-- a text with a number behind it
abbrev pub with_number : List ℕ → ℕ → List ℕ
with_number text n = text ++ decimal n

-- key=value, JSON, an access line, and one of no form, by the upper bits of the number
abbrev pub pairs_line : ℕ → List ℕ
pairs_line r = with_number (codes "user=u") (r % 100) ++ with_number (codes " took=") (r % 1000)

abbrev pub json_line : ℕ → List ℕ
json_line r = (with_number (codes "{\"user\":\"u") (r % 100) ++ with_number (codes "\",\"took\":") (r % 1000)) ++ codes "}"

abbrev pub access_line : ℕ → List ℕ
access_line r =
    (with_number (codes "10.0.0.") (r % 250) ++ with_number (codes " - - [10/Oct/2000:13:55:36 +0000] \"GET /p") (r % 1000))
    ++ with_number (codes " HTTP/1.1\" 200 ") (r % 10000)

abbrev pub line_by : ℕ → List ℕ
line_by r =
    if r % 4 == 0 then pairs_line r
    else (if r % 4 == 1 then json_line r
    else (if r % 4 == 2 then access_line r
    else with_number (codes "junk ") r))

abbrev pub sample_line : ℕ → List ℕ
sample_line x = line_by (x / 2 ^ 33)
