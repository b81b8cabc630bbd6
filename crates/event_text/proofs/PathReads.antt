-- A text is read as a path in one way: the reading that is computed is the one that `IsPathText` allows, and there is none where a fault is.
use Rattle.std.proofs.Common.{◌≡◌, ◌≢◌, ◌==◌, ℕ, ◌<◌, ◌⊎◌, inl, inr, List, [], ◌∷◌, ◌++◌, length, Bool, true, false, if◌then◌else◌, refl, sym, ap, ◌∙◌, arith, append_assoc, Option, Some, None, option_map}
use Rattle.std.specs.Option.{option_and_then}
use Rattle.std.proofs.lemmas.List.{append-nil}
use Rattle.std.proofs.lemmas.Bool.Decides.{nat_tests}
use Rattle.event_tree.specs.PathTexts.{is_bracket, NoBracket, IsName, AreNames, bracketed, IsPathText, IsEmptyFault, IsUnclosed, IsStrayOutside, IsStrayInside}
use Rattle.event_text.specs.PathReading.{bare, with_name, names_in, name_in, parts_in}

pub no_open : (b : ℕ) → is_bracket b ≡ false → (b == 91) ≡ false
no_open b h = grind (arith, nat_tests)

pub no_close : (b : ℕ) → is_bracket b ≡ false → (b == 93) ≡ false
no_close b h = grind (arith, nat_tests)

pub other : (b k : ℕ) → b ≢ k → (b == k) ≡ false
other b k h = grind (arith, nat_tests)

bare_whole : (name : List ℕ) → NoBracket name → bare name ≡ Some name
bare_whole [] h = refl
bare_whole (b ∷ bs) h = ap (λ t. if t then None else option_map (λ name. b ∷ name) (bare bs)) h.0 ∙ ap (option_map (λ name. b ∷ name)) (bare_whole bs h.1)

bare_stray : (name : List ℕ) (b : ℕ) (more : List ℕ) → NoBracket name → is_bracket b ≡ true → bare (name ++ b ∷ more) ≡ None
bare_stray [] b more h k = ap (λ t. if t then None else option_map (λ name. b ∷ name) (bare more)) k
bare_stray (a ∷ name) b more h k = ap (λ t. if t then None else option_map (λ name. a ∷ name) (bare (name ++ b ∷ more))) h.0 ∙ ap (option_map (λ name. a ∷ name)) (bare_stray name b more h.1 k)

abbrev more_of_name : ℕ → List ℕ → Bool → Bool → Option (List ℕ × List (List ℕ))
more_of_name b bs close begin = if close then option_map (λ names. ([], names)) (names_in bs) else (if begin then None else option_map (λ r. (b ∷ r.0, r.1)) (name_in bs))

name_step : (b : ℕ) (bs : List ℕ) → is_bracket b ≡ false → name_in (b ∷ bs) ≡ option_map (λ r. (b ∷ r.0, r.1)) (name_in bs)
name_step b bs h = ap (λ t. more_of_name b bs t (b == 91)) (no_close b h) ∙ ap (λ t. more_of_name b bs false t) (no_open b h)

with_front : (b : ℕ) (name : List ℕ) (o : Option (List (List ℕ))) → option_map {T = List ℕ × List (List ℕ)} {U = List ℕ × List (List ℕ)} (λ r. (b ∷ r.0, r.1)) (option_map (λ names. (name, names)) o) ≡ option_map (λ names. (b ∷ name, names)) o
with_front b name None = refl
with_front b name (Some names) = refl

closed_name : (name rest : List ℕ) → NoBracket name → name_in (name ++ 93 ∷ rest) ≡ option_map (λ names. (name, names)) (names_in rest)
closed_name [] rest h = refl
closed_name (b ∷ name) rest h = name_step b (name ++ 93 ∷ rest) h.0 ∙ ap (option_map (λ r. (b ∷ r.0, r.1))) (closed_name name rest h.1) ∙ with_front b name (names_in rest)

unclosed_name : (name rest : List ℕ) → NoBracket name → name_in rest ≡ None → name_in (name ++ rest) ≡ None
unclosed_name [] rest h k = k
unclosed_name (b ∷ name) rest h k = name_step b (name ++ rest) h.0 ∙ ap (option_map (λ r. (b ∷ r.0, r.1))) (unclosed_name name rest h.1 k)

first_name : (p : List ℕ) (ps : List (List ℕ)) (o : Option (List (List ℕ))) → 0 < length p → option_and_then with_name (option_map (λ names. (p, names)) (option_map (λ names. ps ++ names) o)) ≡ option_map (λ names. (p ∷ ps) ++ names) o
first_name [] ps o h = absurd (omega arith)
first_name (b ∷ p) ps None h = refl
first_name (b ∷ p) ps (Some names) h = refl

nothing_first : (o : Option (List (List ℕ))) → option_map (λ names. [] ++ names) o ≡ o
nothing_first None = refl
nothing_first (Some names) = refl

names_first : (ps : List (List ℕ)) (rest : List ℕ) → AreNames ps → names_in (bracketed ps ++ rest) ≡ option_map (λ names. ps ++ names) (names_in rest)
names_first [] rest h = sym (nothing_first (names_in rest))
names_first (p ∷ ps) rest h =
    ap (λ l. option_and_then with_name (name_in l)) (append_assoc p (93 ∷ bracketed ps) rest)
    ∙ ap (option_and_then with_name) (closed_name p (bracketed ps ++ rest) h.0.1)
    ∙ ap (λ o. option_and_then with_name (option_map (λ names. (p, names)) o)) (names_first ps rest h.1)
    ∙ first_name p ps (names_in rest) h.0.0

bracketed_parts : (ps : List (List ℕ)) (rest : List ℕ) → 0 < length ps → parts_in (bracketed ps ++ rest) ≡ names_in (bracketed ps ++ rest)
bracketed_parts [] rest h = absurd (omega arith)
bracketed_parts (p ∷ ps) rest h = refl

opened_parts : (ps : List (List ℕ)) (rest : List ℕ) → parts_in (bracketed ps ++ 91 ∷ rest) ≡ names_in (bracketed ps ++ 91 ∷ rest)
opened_parts [] rest = refl
opened_parts (p ∷ ps) rest = refl

bare_parts : (b : ℕ) (bs : List ℕ) → (b == 91) ≡ false → parts_in (b ∷ bs) ≡ option_map (λ name. name ∷ []) (bare (b ∷ bs))
bare_parts b bs h = ap (λ t. if t then names_in (b ∷ bs) else option_map (λ name. name ∷ []) (bare (b ∷ bs))) h

bare_path : (text : List ℕ) → IsName text → parts_in text ≡ Some (text ∷ [])
bare_path [] h = absurd (omega (arith, h.0))
bare_path (b ∷ bs) h = bare_parts b bs (no_open b h.1.0) ∙ ap (option_map (λ name. name ∷ [])) (bare_whole (b ∷ bs) h.1)

bracketed_path : (ps : List (List ℕ)) → 0 < length ps → AreNames ps → parts_in (bracketed ps) ≡ Some ps
bracketed_path ps some names =
    ap parts_in (sym (append-nil (bracketed ps))) ∙ bracketed_parts ps [] some ∙ names_first ps [] names ∙ ap Some (append-nil ps)

pub path_text : (ps : List (List ℕ)) (text : List ℕ) → IsPathText ps text → parts_in text ≡ Some ps
path_text ps text (inl h) = bare_path text h.0 ∙ ap Some (sym h.1)
path_text ps text (inr h) = ap parts_in h.2 ∙ bracketed_path ps h.0 h.1

-- behind parts that are in order
nothing_behind : (ps : List (List ℕ)) (rest : List ℕ) → AreNames ps → names_in rest ≡ None → names_in (bracketed ps ++ rest) ≡ None
nothing_behind ps rest names h = names_first ps rest names ∙ ap (option_map (λ qs. ps ++ qs)) h

no_name : (o : Option (List (List ℕ))) → option_and_then with_name (option_map (λ names. ([], names)) o) ≡ None
no_name None = refl
no_name (Some names) = refl

pub empty_fault : (text : List ℕ) → IsEmptyFault text → parts_in text ≡ None
empty_fault text (inl h) = ap parts_in h
empty_fault text (inr h) =
    let ps = h.0 in
    let more = h.1 in
    ap parts_in h.3 ∙ opened_parts ps (93 ∷ more) ∙ nothing_behind ps (91 ∷ 93 ∷ more) h.2 (no_name (names_in more))

end_of_name : (rest : List ℕ) → (rest ≡ []) ⊎ ((more : List ℕ) × (rest ≡ 91 ∷ more)) → name_in rest ≡ None
end_of_name rest (inl e) = ap name_in e
end_of_name rest (inr e) = ap name_in e.1

pub unclosed_fault : (at : ℕ) (text : List ℕ) → IsUnclosed at text → parts_in text ≡ None
unclosed_fault at text h =
    let ps = h.0 in
    let name = h.1 in
    let rest = h.2 in
    ap parts_in h.5 ∙ opened_parts ps (name ++ rest) ∙ nothing_behind ps (91 ∷ (name ++ rest)) h.3 (ap (option_and_then with_name) (unclosed_name name rest h.4 (end_of_name rest h.6)))

outside_fault : (at : ℕ) (text : List ℕ) → IsStrayOutside at text → parts_in text ≡ None
outside_fault at text h =
    let ps = h.0 in
    let b = h.1 in
    let more = h.2 in
    ap parts_in h.6 ∙ bracketed_parts ps (b ∷ more) h.3 ∙ nothing_behind ps (b ∷ more) h.4 (ap (λ t. if t then option_and_then with_name (name_in more) else None) (other b 91 h.5))

inside_fault : (at : ℕ) (text : List ℕ) → IsStrayInside at text → parts_in text ≡ None
inside_fault at text h = ap parts_in h.6 ∙ stray h.0 h.3 h.5 where
  stray : (name : List ℕ) → NoBracket name → (h.1 ≡ 91 → 0 < length name) → parts_in (name ++ h.1 ∷ h.2) ≡ None
  stray [] free some = bare_parts h.1 h.2 (other h.1 91 (λ e. absurd (omega (arith, some e)))) ∙ ap (option_map (λ name. name ∷ [])) (bare_stray [] h.1 h.2 free h.4)
  stray (a ∷ name) free some = bare_parts a (name ++ h.1 ∷ h.2) (no_open a free.0) ∙ ap (option_map (λ name. name ∷ [])) (bare_stray (a ∷ name) h.1 h.2 free h.4)

pub stray_fault : (at : ℕ) (text : List ℕ) → IsStrayOutside at text ⊎ IsStrayInside at text → parts_in text ≡ None
stray_fault at text (inl h) = outside_fault at text h
stray_fault at text (inr h) = inside_fault at text h
