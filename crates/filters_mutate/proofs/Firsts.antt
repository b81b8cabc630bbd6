-- The first byte of a text, where it is ASCII.
use Rattle.std.proofs.Common.{◌≡◌, ℕ, zero, suc, ◌<◌, List, [], ◌∷◌, length, get_or, map, Some, None, sym, ap, ◌∙◌, subst, arith, true, cond, rules}
use Rattle.std.proofs.lemmas.Bool.Decides.{nat_tests}
use Rattle.std.proofs.lemmas.Option.{none-some, same_Some}
use Rattle.std.specs.Prelude.{slice_get}
use Rattle.std.specs.Char.{is_ascii_alphabetic, to_ascii_lowercase}
use Rattle.std.specs.Str.{IsCharBoundary, IsUtf8}
use Rattle.std.proofs.lemmas.Str.{IsCharBoundary-after_ascii}
use Rattle.filters_mutate.specs.Gsub.{is_group}
use Rattle.filters_mutate.specs.Texts.{lowered}

-- a text may be cut behind it
pub cut_behind_first : (s : List ℕ) (b : ℕ) → IsUtf8 s → slice_get s 0 ≡ Some b → b < 128 → IsCharBoundary s 1
cut_behind_first [] b utf8 is ascii = absurd (none-some b is)
cut_behind_first (x ∷ xs) b utf8 is ascii = IsCharBoundary-after_ascii (x ∷ xs) 0 utf8 (omega arith) (subst (λ y. y < 128) (sym (same_Some _ _ is)) ascii)

pub group_is_ascii : (b : ℕ) → is_group b ≡ true → b < 128
group_is_ascii b group = grind (arith, nat_tests)

pub lowered_is_ascii : (b : ℕ) → is_ascii_alphabetic b ≡ true → to_ascii_lowercase b < 128
lowered_is_ascii b letter = grind (arith, nat_tests)

pub first_lowered : (s : List ℕ) (b : ℕ) → slice_get s 0 ≡ Some b → slice_get (lowered s) 0 ≡ Some (to_ascii_lowercase b)
first_lowered [] b is = absurd (none-some b is)
first_lowered (x ∷ xs) b is = ap (λ y. Some (to_ascii_lowercase y)) (same_Some _ _ is)
