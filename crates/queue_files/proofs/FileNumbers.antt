-- Numbers in the names of files.
use Rattle.std.proofs.Common.{◌≡◌, ℕ, ◌+◌, ◌<◌, ◌^◌, nat_lt, replicate, sym, arith}
use Rattle.std.proofs.lemmas.Bool.{cond-true}
use Rattle.std.proofs.lemmas.Bool.Decides.{nat_tests}
use Rattle.std.specs.Fmt.{decimal}
use Rattle.queue_files.specs.Folders.{number_text}

-- a number that a file may have
pub number_is : (n : ℕ) → n < 2 ^ 32 → decimal n ≡ number_text n
number_is n fits = sym (cond-true (nat_lt n 0x1_0000_0000) (decimal n) (replicate (n + 1) 46) (grind (arith, nat_tests, fits)))
