-- An object that is made member by member.
use Rattle.std.proofs.Common.{◌≡◌, List, [], ◌∷◌, ◌++◌, ap, ◌∙◌}

pub four_pushed : {X : Type 0} {a b c d e : List X} {one two three four : X} → a ≡ [] → b ≡ a ++ one ∷ [] → c ≡ b ++ two ∷ [] → d ≡ c ++ three ∷ [] → e ≡ d ++ four ∷ []
    → e ≡ one ∷ two ∷ three ∷ four ∷ []
four_pushed {one = one} {two = two} {three = three} {four = four} a b c d e = e ∙ ap (λ l. l ++ four ∷ []) (d ∙ ap (λ l. l ++ three ∷ []) (c ∙ ap (λ l. l ++ two ∷ []) (b ∙ ap (λ l. l ++ one ∷ []) a)))
