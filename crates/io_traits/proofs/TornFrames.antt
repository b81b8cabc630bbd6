-- What stands whole at the place of a write that a stop may have torn.
use Rattle.std.proofs.Common.{◌≡◌, ◌⊎◌, inl, inr, ⊎_elim, ℕ, ◌-◌, Bool, List, length, take, drop, Option, sym, ◌∙◌, ap, arith}
use Rattle.std.proofs.Math.Path.{ap₂}
use Rattle.std.proofs.lemmas.List.{take_all}
use Rattle.io_traits.specs.Reads.{bytes_of}
use Rattle.io_traits.specs.Images.{FileImage, TornFile, at_rest}
use Rattle.io_traits.specs.Chance.{NoChance, StandsAt, part}
use Rattle.io_traits.specs.Tails.{passes}

-- A frame as long as what was written over a file at rest, where none stands by chance: it stood there before, or it is what was written.
pub torn_frame : (is_frame : ℕ → List ℕ → Bool) (place : ℕ) (bytes : List ℕ) (old : Option (List ℕ)) (f : FileImage) → TornFile place bytes (at_rest old) f → NoChance (passes is_frame) f
    → length (part place (length bytes) (bytes_of f.file)) ≡ length bytes → passes is_frame place (part place (length bytes) (bytes_of f.file))
    → (part place (length bytes) (bytes_of f.file) ≡ part place (length bytes) (bytes_of old)) ⊎ (part place (length bytes) (bytes_of f.file) ≡ bytes)
torn_frame is_frame place bytes old f torn chance long is =
    let n = length bytes in
    let new = bytes_of f.file in
    let frame = part place n new in
    let stands : StandsAt place frame new = ap (λ (m : ℕ). take m (drop place new)) long in
    ⊎_elim
    (λ (settled : StandsAt place frame (bytes_of f.settled)).
    let before : part place n (bytes_of old) ≡ frame = ap (λ (m : ℕ). take m (drop place (bytes_of old))) (sym long) ∙ ap (λ (o : Option (List ℕ)). take (length frame) (drop place (bytes_of o))) (sym torn.settled) ∙ settled in
    inl (sym before))
    (λ w. ⊎_elim
    (λ none. absurd none)
    (λ (same : w.0 ≡ (place, bytes)).
    let zero : place - w.0.0 ≡ 0 = omega (arith, ap (λ (v : ℕ × List ℕ). v.0) same) in
    inr (sym w.3 ∙ ap₂ (λ (k : ℕ) (b : List ℕ). take (length frame) (drop k b)) zero (ap (λ (v : ℕ × List ℕ). v.1) same) ∙ ap (λ (m : ℕ). take m bytes) long ∙ take_all n bytes (omega arith)))
    (torn.writes w.0 w.1))
    (chance.each place frame is stands)
