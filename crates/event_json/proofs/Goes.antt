-- Reading, beside the machine: values, arrays, objects and the whole text.
use Rattle.std.proofs.Common.{◌≡◌, ℕ, zero, suc, ◌+◌, ◌≤◌, List, [], ◌∷◌, ◌++◌, length, Option, Some, None, Result, Ok, Err, refl, sym, ap, ◌∙◌, arith, true, false, if◌then◌else◌, ◌==◌, nat_lt, length-append}
use Rattle.std.specs.Prelude.{codes}
use Rattle.std.proofs.lemmas.Bool.Decides.{nat_tests}
use Rattle.plain_data.specs.Members.{insert_member}
use Rattle.event_tree.specs.Values.{Members}
use Rattle.event_tree.specs.declared.value.Value.{Value}
use Rattle.event_tree.specs.declared.value.Value.TheVariants as v
use Rattle.event_json.specs.Grammar.{is_space}
use Rattle.event_json.specs.Reading as r
use Rattle.event_json.specs.Reading.{◌>>=◌, Fault, At, Deep, Reads}
use Rattle.event_json.proofs.Tests.{bool_cases}
use Rattle.event_json.proofs.GrammarFronts.{Fronts}
use Rattle.event_json.proofs.StringReads.{ReadAs}
use Rattle.event_json.proofs.NodeReads.{IsTextOf, IsEntryOf, node_reads, spaced_reads, entry_reads, scalar_null, scalar_true, scalar_false, scalar_number}
use Rattle.event_json.proofs.Only.{NoSpace}
use Rattle.event_json.proofs.Machine.{Frame, in_list, in_object, plain, Mode, want, opened, after, opened_object, key, colon, text, word, fails, moves, step, step_signed, step_scalar, ends, fate, fate_from}
use Rattle.event_json.proofs.Fates as f

skip-none : (bs : List ℕ) → NoSpace (r.skip bs)
skip-none [] = tt
skip-none (b ∷ bs) = bool_cases (is_space b) (λ e. rw e (skip-none bs)) (λ e. rw e e)

-- reading ended before no blank, and took nothing but of its bytes
abbrev Ends : {A : Type 0} → ℕ → Result (A × List ℕ) Fault → Type 0
Ends n (Ok x) = NoSpace x.1 × (length x.1 ≤ n)
Ends n (Err e) = Unit {0}

ends_map : {A B : Type 0} (n : ℕ) (read : Result (A × List ℕ) Fault) (g : A → B) → Ends n read → Ends n (read >>= λ x. Ok (g x.0, x.1))
ends_map n (Ok x) g h = h
ends_map n (Err e) g h = tt

front_shorter : (P : List ℕ → Type 0) (bytes rest : List ℕ) → Fronts P bytes rest → length rest ≤ length bytes
front_shorter P bytes rest h = omega (arith, ap length h.2, length-append h.0 rest)

spaced_ends : (n : ℕ) (bytes : List ℕ) (read : Result (Value × List ℕ) Fault) → ReadAs (IsTextOf n) bytes (read >>= λ x. Ok (x.0, r.skip x.1)) → Ends (length bytes) (read >>= λ x. Ok (x.0, r.skip x.1))
spaced_ends n bytes (Ok x) h = (skip-none x.1, front_shorter (λ front. IsTextOf n front x.0) bytes (r.skip x.1) h)
spaced_ends n bytes (Err e) h = tt

item_ends : (n : ℕ) (found : List Value) (bytes : List ℕ) → Ends (length bytes) (r.item_at (r.node_at n) found bytes)
item_ends n found bytes = ends_map (length bytes) (r.spaced_at (r.node_at n) bytes) (λ d. found ++ d ∷ []) (spaced_ends n bytes (r.node_at n (r.skip bytes)) (spaced_reads n (r.node_at n) (node_reads n) bytes))

-- a value behind its key; a colon and a value behind it; a key and these
abbrev keyed : List ℕ → Result (Value × List ℕ) Fault → Result ((List ℕ × Value) × List ℕ) Fault
keyed s read = read >>= λ x. Ok ((s, x.0), x.1)

abbrev with_value : Reads Value → List ℕ → Result (List ℕ) Fault → Result ((List ℕ × Value) × List ℕ) Fault
with_value node s read = read >>= λ rest. keyed s (r.spaced_at node rest)

abbrev with_colon : Reads Value → Result (List ℕ × List ℕ) Fault → Result ((List ℕ × Value) × List ℕ) Fault
with_colon node read = read >>= λ k. with_value node k.0 (r.after_colon (r.skip k.1))

abbrev skipped : Result (Value × List ℕ) Fault → Result (Value × List ℕ) Fault
skipped read = read >>= λ x. Ok (x.0, r.skip x.1)

entry_value_ends : (s : List ℕ) (n : ℕ) (bytes : List ℕ) (read : Result (Value × List ℕ) Fault) → ReadAs (IsEntryOf n) bytes (keyed s (skipped read)) → Ends (length bytes) (keyed s (skipped read))
entry_value_ends s n bytes (Ok x) g = (skip-none x.1, front_shorter (λ front. IsEntryOf n front (s, x.0)) bytes (r.skip x.1) g)
entry_value_ends s n bytes (Err e) g = tt

entry_colon_ends : (node : Reads Value) (s : List ℕ) (n : ℕ) (bytes : List ℕ) (read : Result (List ℕ) Fault) → ReadAs (IsEntryOf n) bytes (with_value node s read) → Ends (length bytes) (with_value node s read)
entry_colon_ends node s n bytes (Ok b) h = entry_value_ends s n bytes (node (r.skip b)) h
entry_colon_ends node s n bytes (Err e) h = tt

entry_key_ends : (node : Reads Value) (n : ℕ) (bytes : List ℕ) (read : Result (List ℕ × List ℕ) Fault) → ReadAs (IsEntryOf n) bytes (with_colon node read) → Ends (length bytes) (with_colon node read)
entry_key_ends node n bytes (Ok k) h = entry_colon_ends node k.0 n bytes (r.after_colon (r.skip k.1)) h
entry_key_ends node n bytes (Err e) h = tt

member_ends : (n : ℕ) (found : Members) (bytes : List ℕ) → Ends (length bytes) (r.member_at (r.node_at n) found bytes)
member_ends n found bytes = ends_map (length bytes) (r.entry_at (r.node_at n) bytes) (λ x. insert_member x.0 x.1 found) (entry_key_ends (r.node_at n) n bytes (r.key_at (r.skip bytes)) (entry_reads n (r.node_at n) (node_reads n) bytes))

module _ (levels : ℕ) where
  -- ---- literals and numbers

  null_goes : (b : ℕ) (bs : List ℕ) (fs : List Frame) → (b == 110) ≡ true → fate levels bs (word 117 (108 ∷ 108 ∷ [])) fs ≡ f.onward levels after fs (r.word_at (codes "null") v.Null (b ∷ bs))
  null_goes b bs fs x = f.word_goes levels 117 (108 ∷ 108 ∷ []) bs fs ∙ sym (f.onward-bind levels after fs (r.after_word (codes "null") (b ∷ bs)) (λ rest. v.Null) ∙ ap (f.ahead levels after fs) (rw x refl))

  true_goes : (b : ℕ) (bs : List ℕ) (fs : List Frame) → (b == 116) ≡ true → fate levels bs (word 114 (117 ∷ 101 ∷ [])) fs ≡ f.onward levels after fs (r.word_at (codes "true") (v.Bool true) (b ∷ bs))
  true_goes b bs fs x = f.word_goes levels 114 (117 ∷ 101 ∷ []) bs fs ∙ sym (f.onward-bind levels after fs (r.after_word (codes "true") (b ∷ bs)) (λ rest. v.Bool true) ∙ ap (f.ahead levels after fs) (rw x refl))

  false_goes : (b : ℕ) (bs : List ℕ) (fs : List Frame) → (b == 102) ≡ true → fate levels bs (word 97 (108 ∷ 115 ∷ 101 ∷ [])) fs ≡ f.onward levels after fs (r.word_at (codes "false") (v.Bool false) (b ∷ bs))
  false_goes b bs fs x = f.word_goes levels 97 (108 ∷ 115 ∷ 101 ∷ []) bs fs ∙ sym (f.onward-bind levels after fs (r.after_word (codes "false") (b ∷ bs)) (λ rest. v.Bool false) ∙ ap (f.ahead levels after fs) (rw x refl))

  step_null : (b : ℕ) (fs : List Frame) → (b == 110) ≡ true → step_scalar fs b ≡ moves (word 117 (108 ∷ 108 ∷ [])) fs
  step_null b fs x = rw x refl

  step_true : (b : ℕ) (fs : List Frame) → (b == 110) ≡ false → (b == 116) ≡ true → step_scalar fs b ≡ moves (word 114 (117 ∷ 101 ∷ [])) fs
  step_true b fs x y = rw (x, y) refl

  step_false : (b : ℕ) (fs : List Frame) → (b == 110) ≡ false → (b == 116) ≡ false → (b == 102) ≡ true → step_scalar fs b ≡ moves (word 97 (108 ∷ 115 ∷ 101 ∷ [])) fs
  step_false b fs x y z = rw (x, y, z) refl

  step_other : (b : ℕ) (fs : List Frame) → (b == 110) ≡ false → (b == 116) ≡ false → (b == 102) ≡ false → step_scalar fs b ≡ step_signed fs b
  step_other b fs x y z = rw (x, y, z) refl

  scalar_goes : (b : ℕ) (bs : List ℕ) (fs : List Frame) → fate_from (step_scalar fs b) (fate levels bs) (suc (length bs)) ≡ f.onward levels after fs (r.scalar_at (b ∷ bs))
  scalar_goes b bs fs = bool_cases (b == 110)
      (λ x. ap (λ m. fate_from m (fate levels bs) (suc (length bs))) (step_null b fs x) ∙ null_goes b bs fs x ∙ sym (ap (f.onward levels after fs) (scalar_null b bs x)))
      (λ x. bool_cases (b == 116)
      (λ y. ap (λ m. fate_from m (fate levels bs) (suc (length bs))) (step_true b fs x y) ∙ true_goes b bs fs y ∙ sym (ap (f.onward levels after fs) (scalar_true b bs x y)))
      (λ y. bool_cases (b == 102)
      (λ z. ap (λ m. fate_from m (fate levels bs) (suc (length bs))) (step_false b fs x y z) ∙ false_goes b bs fs z ∙ sym (ap (f.onward levels after fs) (scalar_false b bs x y z)))
      (λ z. ap (λ m. fate_from m (fate levels bs) (suc (length bs))) (step_other b fs x y z) ∙ f.number_goes levels b bs fs ∙ sym (ap (f.onward levels after fs) (scalar_number b bs x y z)))))

  -- ---- blanks round a value

  abbrev NodeGoes : ℕ → Reads Value → Type 0
  NodeGoes room node = (bytes : List ℕ) (fs : List Frame) → length fs + room ≡ levels → NoSpace bytes → fate levels bytes want fs ≡ f.onward levels after fs (node bytes)

  onward-skip : (fs : List Frame) (read : Result (Value × List ℕ) Fault) → f.onward levels after fs read ≡ f.onward levels after fs (read >>= λ x. Ok (x.0, r.skip x.1))
  onward-skip fs (Ok x) = sym (f.fate-skip levels after fs (f.space_after levels fs) x.1)
  onward-skip fs (Err e) = refl

  spaced_goes : (room : ℕ) (node : Reads Value) → NodeGoes room node → (bytes : List ℕ) (fs : List Frame) → length fs + room ≡ levels → fate levels bytes want fs ≡ f.onward levels after fs (r.spaced_at node bytes)
  spaced_goes room node below bytes fs e = sym (f.fate-skip levels want fs (f.space_want levels fs) bytes) ∙ below (r.skip bytes) fs e (skip-none bytes) ∙ onward-skip fs (node (r.skip bytes))

  -- ---- keys

  key_goes : (fs : List Frame) (bytes : List ℕ) → NoSpace bytes → fate levels bytes key fs ≡ f.onward levels colon fs (r.key_at bytes)
  unfolding fate
  key_goes fs [] s = refl
  key_goes fs (b ∷ bs) s = bool_cases (b == 34) (λ e. rw (s, e) (f.string_goes levels true fs bs)) (λ e. rw (s, e) refl)

  colon_goes : (fs : List Frame) (bytes : List ℕ) → NoSpace bytes → fate levels bytes colon fs ≡ f.ahead levels want fs (r.after_colon bytes)
  unfolding fate
  colon_goes fs [] s = refl
  colon_goes fs (b ∷ bs) s = bool_cases (b == 58) (λ e. rw (s, e) refl) (λ e. rw (s, e) refl)

  entry_colon : (room : ℕ) (node : Reads Value) → NodeGoes room node → (fs : List Frame) → length fs + room ≡ levels → (s : List ℕ) (read : Result (List ℕ) Fault) → f.ahead levels want fs read ≡ f.onward levels after fs (with_value node s read)
  entry_colon room node below fs e s (Ok rest) = spaced_goes room node below rest fs e ∙ sym (f.onward-map levels after fs (r.spaced_at node rest) (λ d. (s, d)))
  entry_colon room node below fs e s (Err x) = refl

  entry_key : (room : ℕ) (node : Reads Value) → NodeGoes room node → (fs : List Frame) → length fs + room ≡ levels → (read : Result (List ℕ × List ℕ) Fault) → f.onward levels colon fs read ≡ f.onward levels after fs (with_colon node read)
  entry_key room node below fs e (Ok k) = sym (f.fate-skip levels colon fs (f.space_colon levels fs) k.1) ∙ colon_goes fs (r.skip k.1) (skip-none k.1) ∙ entry_colon room node below fs e k.0 (r.after_colon (r.skip k.1))
  entry_key room node below fs e (Err x) = refl

  entry_goes : (room : ℕ) (node : Reads Value) → NodeGoes room node → (bytes : List ℕ) (fs : List Frame) → length fs + room ≡ levels → fate levels bytes key fs ≡ f.onward levels after fs (r.entry_at node bytes)
  entry_goes room node below bytes fs e = sym (f.fate-skip levels key fs (f.space_key levels fs) bytes) ∙ key_goes fs (r.skip bytes) (skip-none bytes) ∙ entry_key room node below fs e (r.key_at (r.skip bytes))

  -- ---- arrays and objects

  module _ {A : Type 0} (c : ℕ) (frame : Frame) (fs : List Frame) (m o : Mode) (element : A → Reads A)
      (goes : (found : A) (bytes : List ℕ) → fate levels bytes m (frame ∷ fs) ≡ f.onward levels after (frame ∷ fs) (element found bytes))
      (tidy : (found : A) (bytes : List ℕ) → Ends (length bytes) (element found bytes))
      (nothing : ends m (frame ∷ fs) ≡ Some (At 0))
      (nothing_open : ends o (frame ∷ fs) ≡ Some (At 0))
      (nothing_after : ends after (frame ∷ fs) ≡ Some (At 0))
      (after_step : (b : ℕ) → is_space b ≡ false → step levels after (frame ∷ fs) b ≡ (if b == c then moves after fs else (if b == 44 then moves m (frame ∷ fs) else fails)))
      (open_step : (b : ℕ) → is_space b ≡ false → step levels o (frame ∷ fs) b ≡ (if b == c then moves after fs else step levels m (frame ∷ fs) b))
      (open_space : (b : ℕ) → is_space b ≡ true → step levels o (frame ∷ fs) b ≡ moves o (frame ∷ fs)) where
    after_cases : (b : ℕ) (bs : List ℕ) (new : A) (more : A → Reads A) → ((found : A) → fate levels bs m (frame ∷ fs) ≡ f.onward levels after fs (more found bs)) → fate_from (if b == c then moves after fs else (if b == 44 then moves m (frame ∷ fs) else fails)) (fate levels bs) (suc (length bs)) ≡ f.onward levels after fs (r.after_element c more new (b ∷ bs))
    after_cases b bs new more ih = bool_cases (b == c) (λ e. rw e refl) (λ e. rw e (bool_cases (b == 44) (λ g. rw g (ih new)) (λ g. rw g refl)))

    after_goes : (k : ℕ) (new : A) (rest : List ℕ) → ((found : A) (bytes : List ℕ) → length bytes ≤ k → fate levels bytes m (frame ∷ fs) ≡ f.onward levels after fs (r.elements_at c element k found bytes)) → NoSpace rest → length rest ≤ suc k → fate levels rest after (frame ∷ fs) ≡ f.onward levels after fs (r.after_element c (r.elements_at c element k) new rest)
    unfolding fate
    after_goes k new [] ih s le = nothing_after
    after_goes k new (b ∷ bs) ih s le = ap (λ x. fate_from x (fate levels bs) (suc (length bs))) (after_step b s) ∙ after_cases b bs new (r.elements_at c element k) (λ found. ih found bs (omega arith))

    bind_goes : (k n : ℕ) (read : Result (A × List ℕ) Fault) → ((found : A) (bytes : List ℕ) → length bytes ≤ k → fate levels bytes m (frame ∷ fs) ≡ f.onward levels after fs (r.elements_at c element k found bytes)) → Ends n read → n ≤ suc k → f.onward levels after (frame ∷ fs) read ≡ f.onward levels after fs (read >>= λ x. r.after_element c (r.elements_at c element k) x.0 x.1)
    bind_goes k n (Ok x) ih h le = after_goes k x.0 x.1 ih h.0 (omega (arith, h.1))
    bind_goes k n (Err e) ih h le = refl

    elements_go : (k : ℕ) (found : A) (bytes : List ℕ) → length bytes ≤ k → fate levels bytes m (frame ∷ fs) ≡ f.onward levels after fs (r.elements_at c element k found bytes)
    unfolding r.elements_at fate
    elements_go zero found [] le = nothing
    elements_go zero found (b ∷ bs) le = absurd (omega arith)
    elements_go (suc k) found bytes le = goes found bytes ∙ bind_goes k (length bytes) (element found bytes) (elements_go k) (tidy found bytes) le

    open_cases : (b : ℕ) (bs : List ℕ) (start : A) → is_space b ≡ false → fate_from (if b == c then moves after fs else step levels m (frame ∷ fs) b) (fate levels bs) (suc (length bs)) ≡ f.onward levels after fs (r.group_from c (r.elements_at c element) start (b ∷ bs))
    unfolding fate
    open_cases b bs start s = bool_cases (b == c) (λ e. rw e refl) (λ e. rw e (elements_go (suc (length bs)) start (b ∷ bs) (omega arith)))

    from_goes : (start : A) (bytes : List ℕ) → NoSpace bytes → fate levels bytes o (frame ∷ fs) ≡ f.onward levels after fs (r.group_from c (r.elements_at c element) start bytes)
    unfolding fate
    from_goes start [] s = nothing_open
    from_goes start (b ∷ bs) s = ap (λ x. fate_from x (fate levels bs) (suc (length bs))) (open_step b s) ∙ open_cases b bs start s

    pub group_goes : (start : A) (bytes : List ℕ) → fate levels bytes o (frame ∷ fs) ≡ f.onward levels after fs (r.group_at c element start bytes)
    group_goes start bytes = sym (f.fate-skip levels o (frame ∷ fs) open_space bytes) ∙ from_goes start (r.skip bytes) (skip-none bytes)

  list_step : (fs : List Frame) (b : ℕ) → is_space b ≡ false → step levels after (in_list ∷ fs) b ≡ (if b == 93 then moves after fs else (if b == 44 then moves want (in_list ∷ fs) else fails))
  list_step fs b s = rw s refl

  list_open : (fs : List Frame) (b : ℕ) → is_space b ≡ false → step levels opened (in_list ∷ fs) b ≡ (if b == 93 then moves after fs else step levels want (in_list ∷ fs) b)
  list_open fs b s = rw s refl

  object_step : (fs : List Frame) (b : ℕ) → is_space b ≡ false → step levels after (in_object ∷ fs) b ≡ (if b == 125 then moves after fs else (if b == 44 then moves key (in_object ∷ fs) else fails))
  object_step fs b s = rw s refl

  object_open : (fs : List Frame) (b : ℕ) → is_space b ≡ false → step levels opened_object (in_object ∷ fs) b ≡ (if b == 125 then moves after fs else step levels key (in_object ∷ fs) b)
  object_open fs b s = rw s refl

  deeper : (fs : List Frame) (n : ℕ) (frame : Frame) → length fs + suc n ≡ levels → length (frame ∷ fs) + n ≡ levels
  deeper fs n frame e = omega arith

  list_goes : (n : ℕ) → NodeGoes n (r.node_at n) → (fs : List Frame) → length fs + suc n ≡ levels → (bytes : List ℕ) → fate levels bytes opened (in_list ∷ fs) ≡ f.onward levels after fs (r.list_at (r.node_at n) bytes)
  list_goes n below fs e bytes =
      group_goes 93 in_list fs want opened (r.item_at (r.node_at n))
      (λ found bs. spaced_goes n (r.node_at n) below bs (in_list ∷ fs) (deeper fs n in_list e) ∙ sym (f.onward-map levels after (in_list ∷ fs) (r.spaced_at (r.node_at n) bs) (λ d. found ++ d ∷ [])))
      (item_ends n) refl refl refl (list_step fs) (list_open fs) (f.space_opened levels (in_list ∷ fs)) [] bytes
      ∙ sym (f.onward-map levels after fs (r.group_at 93 (r.item_at (r.node_at n)) [] bytes) (λ (ds : List Value). v.List ds))

  object_goes : (n : ℕ) → NodeGoes n (r.node_at n) → (fs : List Frame) → length fs + suc n ≡ levels → (bytes : List ℕ) → fate levels bytes opened_object (in_object ∷ fs) ≡ f.onward levels after fs (r.object_at (r.node_at n) bytes)
  object_goes n below fs e bytes =
      group_goes 125 in_object fs key opened_object (r.member_at (r.node_at n))
      (λ found bs. entry_goes n (r.node_at n) below bs (in_object ∷ fs) (deeper fs n in_object e) ∙ sym (f.onward-map levels after (in_object ∷ fs) (r.entry_at (r.node_at n) bs) (λ x. insert_member x.0 x.1 found)))
      (member_ends n) refl refl refl (object_step fs) (object_open fs) (f.space_object levels (in_object ∷ fs)) [] bytes
      ∙ sym (f.onward-map levels after fs (r.group_at 125 (r.member_at (r.node_at n)) [] bytes) (λ (ms : Members). v.Object ms))

  -- ---- values

  no_room : (fs : List Frame) → length fs + 0 ≡ levels → nat_lt (length fs) levels ≡ false
  no_room fs e = grind (arith, nat_tests)

  some_room : (fs : List Frame) (n : ℕ) → length fs + suc n ≡ levels → nat_lt (length fs) levels ≡ true
  some_room fs n e = grind (arith, nat_tests)

  text_value_goes : (fs : List Frame) (bs : List ℕ) → fate levels bs (text false plain) fs ≡ f.onward levels after fs (r.text_at bs)
  text_value_goes fs bs = f.string_goes levels false fs bs ∙ sym (f.onward-map levels after fs (r.string_at bs) (λ (s : List ℕ). v.Text s))

  pub node_goes : (n : ℕ) → NodeGoes n (r.node_at n)
  unfolding r.node_at fate
  node_goes zero [] fs e s = refl
  node_goes zero (b ∷ bs) fs e s = bool_cases (b == 34) (λ x. rw (s, x) (text_value_goes fs bs))
      (λ x. bool_cases (b == 91) (λ y. rw (s, x, y, no_room fs e) refl)
      (λ y. bool_cases (b == 123) (λ z. rw (s, x, y, z, no_room fs e) refl)
      (λ z. rw (s, x, y, z) (scalar_goes b bs fs))))
  node_goes (suc n) [] fs e s = refl
  node_goes (suc n) (b ∷ bs) fs e s = bool_cases (b == 34) (λ x. rw (s, x) (text_value_goes fs bs))
      (λ x. bool_cases (b == 91) (λ y. rw (s, x, y, some_room fs n e) (list_goes n (node_goes n) fs e bs))
      (λ y. bool_cases (b == 123) (λ z. rw (s, x, y, z, some_room fs n e) (object_goes n (node_goes n) fs e bs))
      (λ z. rw (s, x, y, z) (scalar_goes b bs fs))))

-- ---- the whole text

abbrev pub fault_of : Result Value Fault → Option Fault
fault_of (Ok d) = None
fault_of (Err f) = Some f

last_goes : (levels : ℕ) (d : Value) (rest : List ℕ) → NoSpace rest → fate levels rest after [] ≡ fault_of (r.if_last d rest)
unfolding fate
last_goes levels d [] s = refl
last_goes levels d (b ∷ bs) s = rw s refl

whole_goes : (levels : ℕ) (bytes : List ℕ) (read : Result (Value × List ℕ) Fault) → Ends (length bytes) read → f.onward levels after [] read ≡ fault_of (read >>= λ x. r.if_last x.0 x.1)
whole_goes levels bytes (Ok x) h = last_goes levels x.0 x.1 h.0
whole_goes levels bytes (Err e) h = refl

-- the machine meets the fault that reading meets, and none where a text is read
pub read_goes : (levels : ℕ) (bytes : List ℕ) → fate levels bytes want [] ≡ fault_of (r.read levels bytes)
unfolding r.read
read_goes levels bytes =
    spaced_goes levels levels (r.node_at levels) (node_goes levels levels) bytes [] (omega arith)
    ∙ whole_goes levels bytes (r.spaced_at (r.node_at levels) bytes) (spaced_ends levels bytes (r.node_at levels (r.skip bytes)) (spaced_reads levels (r.node_at levels) (node_reads levels) bytes))
