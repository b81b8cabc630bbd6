-- Reading elements one after the other, as a loop does, and values by their first byte.
use Rattle.std.proofs.Common.{◌≡◌, ℕ, zero, suc, ◌-◌, ◌+◌, ◌≤◌, ◌<◌, List, [], ◌∷◌, ◌++◌, length, Result, Ok, Err, refl, sym, ap, subst, ◌∙◌, arith, true, false, ◌==◌, eqb-true}
use Rattle.std.proofs.lemmas.Bool.{false_from_ne_true}
use Rattle.plain_data.specs.Members.{insert_member}
use Rattle.event_tree.specs.Values.{Members}
use Rattle.event_tree.specs.declared.value.Value.{Value}
use Rattle.event_tree.specs.declared.value.Value.TheVariants as v
use Rattle.event_json.specs.Reading.{◌>>=◌, Fault, At, Deep, Reads, skip, spaced_at, after_element, elements_at, group_from, group_at, item_at, entry_at, member_at, list_at, object_at, text_at, scalar_at, node_at, string_at}
use Rattle.event_json.specs.declared.fault.JsonStop.{JsonStop}
use Rattle.event_json.specs.declared.fault.JsonStop.TheVariants as stops
use Rattle.event_json.specs.Stops.{Fails}

-- the bytes don't begin with b
abbrev pub Never : List ℕ → ℕ → Type 0
Never bytes b = (rest : List ℕ) → bytes ≡ b ∷ rest → ⊥

pub never : (x b : ℕ) (bs : List ℕ) → Never (x ∷ bs) b → (x == b) ≡ false
never x b bs h = false_from_ne_true (x == b) (λ t. h bs (ap (λ (y : ℕ). y ∷ bs) (eqb-true x b t)))

-- a reading that fails goes on to fail
pub fails_on : {A B : Type 0} (e : JsonStop) (read : Result A Fault) (f : A → Result B Fault) → Fails e read → Fails e (read >>= f)
fails_on stops.Memory read f h = tt
fails_on (stops.At k) read f h = ap (λ r. r >>= f) h
fails_on (stops.Deep k) read f h = ap (λ r. r >>= f) h

pub fails_as : {A : Type 0} (e : JsonStop) (x y : Result A Fault) → x ≡ y → Fails e x → Fails e y
fails_as e x y h f = subst (Fails e) h f

module _ {A : Type 0} (c : ℕ) (element : A → Reads A) where
  one_more : (n i : ℕ) (found : A) (bytes : List ℕ) → i < n → elements_at c element (n - i) found bytes ≡ (element found bytes >>= λ x. after_element c (elements_at c element (n - (i + 1))) x.0 x.1)
  unfolding elements_at
  one_more n i found bytes lt = let k : n - i ≡ suc (n - (i + 1)) = omega arith in ap (λ j. elements_at c element j found bytes) k

  read_one : (n i : ℕ) (found new : A) (bytes after : List ℕ) (total : Result (A × List ℕ) Fault) → i < n → element found bytes ≡ Ok (new, after) → elements_at c element (n - i) found bytes ≡ total → total ≡ after_element c (elements_at c element (n - (i + 1))) new after
  read_one n i found new bytes after total lt e so_far = sym so_far ∙ one_more n i found bytes lt ∙ ap (λ r. r >>= λ x. after_element c (elements_at c element (n - (i + 1))) x.0 x.1) e

  pub closes : (n i : ℕ) (found new : A) (bytes after more : List ℕ) (total : Result (A × List ℕ) Fault) → (c == c) ≡ true → i < n → element found bytes ≡ Ok (new, after) → after ≡ c ∷ more → elements_at c element (n - i) found bytes ≡ total → total ≡ Ok (new, more)
  closes n i found new bytes after more total same lt e is so_far =
      let step : after_element c (elements_at c element (n - (i + 1))) new (c ∷ more) ≡ Ok (new, more) = rw same refl in
      read_one n i found new bytes after total lt e so_far ∙ ap (after_element c (elements_at c element (n - (i + 1))) new) is ∙ step

  pub goes_on : (n i : ℕ) (found new : A) (bytes after more : List ℕ) (total : Result (A × List ℕ) Fault) → (44 == c) ≡ false → i < n → element found bytes ≡ Ok (new, after) → after ≡ 44 ∷ more → elements_at c element (n - i) found bytes ≡ total → elements_at c element (n - (i + 1)) new more ≡ total
  goes_on n i found new bytes after more total other lt e is so_far =
      let step : after_element c (elements_at c element (n - (i + 1))) new (44 ∷ more) ≡ elements_at c element (n - (i + 1)) new more = rw other refl in
      sym (read_one n i found new bytes after total lt e so_far ∙ ap (after_element c (elements_at c element (n - (i + 1))) new) is ∙ step)

  neither : (more : A → Reads A) (new : A) (after : List ℕ) → Never after c → Never after 44 → after_element c more new after ≡ Err (At (length after))
  neither more new [] h k = refl
  neither more new (b ∷ bs) h k = rw (never b c bs h, never b 44 bs k) refl

  pub stops_after : (n i : ℕ) (found new : A) (bytes after : List ℕ) (total : Result (A × List ℕ) Fault) → i < n → element found bytes ≡ Ok (new, after) → Never after c → Never after 44 → elements_at c element (n - i) found bytes ≡ total → total ≡ Err (At (length after))
  stops_after n i found new bytes after total lt e h k so_far = read_one n i found new bytes after total lt e so_far ∙ neither (elements_at c element (n - (i + 1))) new after h k

  pub fails : (e : JsonStop) (n i : ℕ) (found : A) (bytes : List ℕ) (total : Result (A × List ℕ) Fault) → i < n → Fails e (element found bytes) → elements_at c element (n - i) found bytes ≡ total → Fails e total
  fails e n i found bytes total lt f so_far = fails_as e _ total (sym (one_more n i found bytes lt) ∙ so_far) (fails_on e (element found bytes) (λ x. after_element c (elements_at c element (n - (i + 1))) x.0 x.1) f)

  pub runs_out : (n i : ℕ) (found : A) (bytes : List ℕ) (total : Result (A × List ℕ) Fault) → n ≤ i → elements_at c element (n - i) found bytes ≡ total → total ≡ Err (At (length bytes))
  unfolding elements_at
  runs_out n i found bytes total le so_far = let k : n - i ≡ 0 = omega arith in sym so_far ∙ ap (λ j. elements_at c element j found bytes) k

  from_more : (found : A) (bytes : List ℕ) → Never bytes c → group_from c (elements_at c element) found bytes ≡ elements_at c element (length bytes) found bytes
  unfolding elements_at
  from_more found [] h = refl
  from_more found (b ∷ bs) h = rw (never b c bs h) refl

  -- what doesn't close at once has elements
  pub group_more : (found : A) (text inside : List ℕ) → inside ≡ skip text → Never inside c → group_at c element found text ≡ elements_at c element (length inside) found inside
  group_more found text inside is h = ap (group_from c (elements_at c element) found) (sym is) ∙ from_more found inside h

-- ---- one element

pub item_read : (node : Reads Value) (found : List Value) (bytes after : List ℕ) (d : Value) → spaced_at node bytes ≡ Ok (d, after) → item_at node found bytes ≡ Ok (found ++ d ∷ [], after)
item_read node found bytes after d e = ap (λ r. r >>= λ x. Ok (found ++ x.0 ∷ [], x.1)) e

pub member_read : (node : Reads Value) (found : Members) (bytes after : List ℕ) (k : List ℕ) (d : Value) → entry_at node bytes ≡ Ok ((k, d), after) → member_at node found bytes ≡ Ok (insert_member k d found, after)
member_read node found bytes after k d e = ap (λ r. r >>= λ x. Ok (insert_member x.0.0 x.0.1 found, x.1)) e

-- ---- values by their first byte

pub node_text : (levels : ℕ) (text rest : List ℕ) → text ≡ 34 ∷ rest → node_at levels text ≡ text_at rest
unfolding node_at
node_text zero text rest e = rw e refl
node_text (suc n) text rest e = rw e refl

pub node_list : (levels : ℕ) (text rest : List ℕ) → text ≡ 91 ∷ rest → (levels ≡ 0 → ⊥) → node_at levels text ≡ list_at (node_at (levels - 1)) rest
unfolding node_at
node_list zero text rest e some = absurd (some refl)
node_list (suc n) text rest e some = let k : suc n - 1 ≡ n = omega arith in rw (e, k) refl

pub node_object : (levels : ℕ) (text rest : List ℕ) → text ≡ 123 ∷ rest → (levels ≡ 0 → ⊥) → node_at levels text ≡ object_at (node_at (levels - 1)) rest
unfolding node_at
node_object zero text rest e some = absurd (some refl)
node_object (suc n) text rest e some = let k : suc n - 1 ≡ n = omega arith in rw (e, k) refl

pub list_deep : (levels : ℕ) (text rest : List ℕ) → text ≡ 91 ∷ rest → levels ≡ 0 → node_at levels text ≡ Err (Deep (length text))
unfolding node_at
list_deep zero text rest e z = rw e refl
list_deep (suc n) text rest e z = absurd (omega arith)

pub object_deep : (levels : ℕ) (text rest : List ℕ) → text ≡ 123 ∷ rest → levels ≡ 0 → node_at levels text ≡ Err (Deep (length text))
unfolding node_at
object_deep zero text rest e z = rw e refl
object_deep (suc n) text rest e z = absurd (omega arith)

pub node_scalar : (levels : ℕ) (text : List ℕ) → Never text 34 → Never text 91 → Never text 123 → node_at levels text ≡ scalar_at text
unfolding node_at
node_scalar zero [] q l o = refl
node_scalar (suc n) [] q l o = refl
node_scalar zero (b ∷ bs) q l o = rw (never b 34 bs q, never b 91 bs l, never b 123 bs o) refl
node_scalar (suc n) (b ∷ bs) q l o = rw (never b 34 bs q, never b 91 bs l, never b 123 bs o) refl

-- ---- what a list or an object comes to

pub list_ok : (node : Reads Value) (text inside rest : List ℕ) (ds : List Value) → inside ≡ skip text → Never inside 93 → elements_at 93 (item_at node) (length inside) [] inside ≡ Ok (ds, rest) → list_at node text ≡ Ok (v.List ds, rest)
list_ok node text inside rest ds is h e = ap (λ r. r >>= λ x. Ok (v.List x.0, x.1)) (group_more 93 (item_at node) [] text inside is h ∙ e)

pub list_fails : (node : Reads Value) (e : JsonStop) (text inside : List ℕ) → inside ≡ skip text → Never inside 93 → Fails e (elements_at 93 (item_at node) (length inside) [] inside) → Fails e (list_at node text)
list_fails node e text inside is h f = fails_on e (group_at 93 (item_at node) [] text) (λ x. Ok (v.List x.0, x.1)) (fails_as e _ _ (sym (group_more 93 (item_at node) [] text inside is h)) f)

pub object_ok : (node : Reads Value) (text inside rest : List ℕ) (ms : Members) → inside ≡ skip text → Never inside 125 → elements_at 125 (member_at node) (length inside) [] inside ≡ Ok (ms, rest) → object_at node text ≡ Ok (v.Object ms, rest)
object_ok node text inside rest ms is h e = ap (λ r. r >>= λ x. Ok (v.Object x.0, x.1)) (group_more 125 (member_at node) [] text inside is h ∙ e)

pub object_fails : (node : Reads Value) (e : JsonStop) (text inside : List ℕ) → inside ≡ skip text → Never inside 125 → Fails e (elements_at 125 (member_at node) (length inside) [] inside) → Fails e (object_at node text)
object_fails node e text inside is h f = fails_on e (group_at 125 (member_at node) [] text) (λ x. Ok (v.Object x.0, x.1)) (fails_as e _ _ (sym (group_more 125 (member_at node) [] text inside is h)) f)

pub text_ok : (levels : ℕ) (text inside rest s : List ℕ) → text ≡ 34 ∷ inside → string_at inside ≡ Ok (s, rest) → node_at levels text ≡ Ok (v.Text s, rest)
text_ok levels text inside rest s is e = node_text levels text inside is ∙ ap (λ r. r >>= λ x. Ok (v.Text x.0, x.1)) e

pub text_fails : (levels : ℕ) (text inside : List ℕ) (e : JsonStop) → text ≡ 34 ∷ inside → Fails e (string_at inside) → Fails e (node_at levels text)
text_fails levels text inside e is f = fails_as e _ _ (sym (node_text levels text inside is)) (fails_on e (string_at inside) (λ x. Ok (v.Text x.0, x.1)) f)
