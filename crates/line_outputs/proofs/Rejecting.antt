-- What events that a boxed output rejects become, one after another.
use Rattle.std.proofs.Common.{refl, suc, [], ◌≡◌, ℕ, ◌+◌, ◌<◌, List, ◌∷◌, ◌++◌, length, drop, get_or, sym, ap, ◌∙◌, append_assoc}
use Rattle.std.proofs.Math.Path.{ap₂}
use Rattle.std.proofs.lemmas.List.{drop_more}
use Rattle.event_tree.specs.Events.{Ev}
use Rattle.event_tree.specs.declared.lists.DeadPart.{DeadPart}
use Rattle.foreign_parts.specs.declared.output.Fate.{Fate}
use Rattle.foreign_parts.specs.declared.output.Fate.TheVariants.{Took, Rejected}
use Rattle.line_outputs.specs.NewLetters.{FatesAreAsMany, rejection, rejections}

pub one_more : (kind id : List ℕ) (fates : List Fate) (es : List Ev) (at : ℕ) (x : Fate) (e : Ev) (parts more : List DeadPart) → at < length fates → at < length es → x ≡ get_or fates at x → e ≡ get_or es at e
    → more ≡ parts ++ rejection kind id x e → parts ++ rejections kind id (drop at fates) (drop at es) ≡ rejections kind id fates es
    → more ++ rejections kind id (drop (at + 1) fates) (drop (at + 1) es) ≡ rejections kind id fates es
one_more kind id fates es at x e parts more some some_too is_x is_e pushed so_far =
    let front : drop at fates ≡ x ∷ drop (at + 1) fates = drop_more fates at x some ∙ ap (λ y. y ∷ drop (at + 1) fates) (sym is_x) in
    let events : drop at es ≡ e ∷ drop (at + 1) es = drop_more es at e some_too ∙ ap (λ y. y ∷ drop (at + 1) es) (sym is_e) in
    ap (λ p. p ++ rejections kind id (drop (at + 1) fates) (drop (at + 1) es)) pushed
    ∙ append_assoc parts (rejection kind id x e) (rejections kind id (drop (at + 1) fates) (drop (at + 1) es))
    ∙ ap (λ r. parts ++ r) (sym (ap₂ (λ f v. rejections kind id f v) front events))
    ∙ so_far

-- there is a fate for each event
pub as_many : FatesAreAsMany
as_many [] [] are = refl
as_many [] (e ∷ es) are = absurd are
as_many (x ∷ fates) [] are = absurd are
as_many (Took ∷ fates) (e ∷ es) are = ap suc (as_many fates es are)
as_many (Rejected status text ∷ fates) (e ∷ es) are = ap suc (as_many fates es are.1)
