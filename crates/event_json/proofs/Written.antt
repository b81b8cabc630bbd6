-- Bytes that are added one part after another, where memory may run out.
use Rattle.std.proofs.Common.{◌≡◌, ℕ, List, ◌++◌, Result, Ok, Err, OnErr, OnOk}
use Rattle.event_tree.specs.Adds.{Adds, Keeps}
use Rattle.event_tree.proofs.Adding.{adds_on, keeps_on}

pub keeps_err : {T E : Type 0} (r : Result T E) (xs ys : List ℕ) → Keeps xs ys → OnErr r (Keeps xs ys)
keeps_err (Ok x) xs ys h = tt
keeps_err (Err e) xs ys h = h

pub keeps_after : {T E : Type 0} (r : Result T E) (xs ys zs : List ℕ) → Keeps xs ys → OnErr r (Keeps ys zs) → OnErr r (Keeps xs zs)
keeps_after (Ok x) xs ys zs h k = tt
keeps_after (Err e) xs ys zs h k = keeps_on xs ys zs h k

pub adds_two : {T E : Type 0} (r : Result T E) (one two whole xs ys zs : List ℕ) → whole ≡ one ++ two → Adds one xs ys → OnOk r (Adds two ys zs) → OnOk r (Adds whole xs zs)
adds_two (Ok x) one two whole xs ys zs e h k = adds_on one two whole xs ys zs e h k
adds_two (Err x) one two whole xs ys zs e h k = tt
