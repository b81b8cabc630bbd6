-- The part of a connection among those of all.
use Rattle.std.proofs.Common.{◌≡◌, ◌+◌, ◌==◌, ℕ, suc, List, [], ◌∷◌, ◌++◌, Bool, true, false, Some, None, get_or, set, drop, length, refl, sym, ap, ap₂, ◌∙◌, arith, subst}
use Rattle.std.specs.Prelude.{filter, nat_eq, not, if◌then◌else◌}
use Rattle.std.proofs.lemmas.Bool.{eqb-true}
use Rattle.std.proofs.Math.Seq.{drop-nil}
use Rattle.std.proofs.lemmas.Option.{none-some, same_Some}
use Rattle.std.proofs.lemmas.Bool.Decides.{nat_tests}
use Rattle.in_tcp.specs.Lines.{HasNoLine, Part}
use Rattle.in_tcp.specs.Rests.{Becomes, bytes_of, place_from}

abbrev part : ℕ → List ℕ → Part
part conn bytes = record { conn = conn; bytes = bytes }

-- the part that stands at the place that was found, and what all bytes are once it has others
pub record StandsAt (parts : List Part) (conn place : ℕ) (d : Part) : Type 0 where
  pub conn_is : (get_or parts place d).conn ≡ conn
  pub bytes_is : bytes_of parts conn ≡ (get_or parts place d).bytes
  pub put : (bytes : List ℕ) → Becomes conn bytes parts (set parts place (part conn bytes))

abbrev FoundAt : ℕ → ℕ → ℕ → List Part → Part → Type 0
FoundAt at place conn parts d = (k : ℕ) × (place ≡ at + k) × StandsAt parts conn k d

found_from : (at place conn : ℕ) (parts : List Part) (d : Part) → place_from at conn parts ≡ Some place → FoundAt at place conn parts d
found_from at place conn [] d is = absurd (none-some place is)
found_from at place conn (p ∷ parts) d is = either (nat_eq p.conn conn) refl is (λ later. found_from (at + 1) place conn parts d later)
  where
    either : (b : Bool) → nat_eq p.conn conn ≡ b → (if b then Some at else place_from (at + 1) conn parts) ≡ Some place → (place_from (at + 1) conn parts ≡ Some place → FoundAt (at + 1) place conn parts d) → FoundAt at place conn (p ∷ parts) d
    either true same found later = let is = eqb-true p.conn conn same in (
      0,
      omega (arith, same_Some at place found),
      record {
        conn_is = is;
        bytes_is = ap (λ b. if b then p.bytes else bytes_of parts conn) same;
        put = λ bytes n. grind (arith, nat_tests, is);
      },
    )
    either false differ found later = let f = later found in (
      suc f.0,
      omega (arith, f.1),
      record {
        conn_is = f.2.conn_is;
        bytes_is = ap (λ b. if b then p.bytes else bytes_of parts conn) differ ∙ f.2.bytes_is;
        put = λ bytes n. grind (arith, nat_tests, differ, f.2.put bytes n);
      },
    )

pub found_at : (place conn : ℕ) (parts : List Part) (d : Part) → place_from 0 conn parts ≡ Some place → StandsAt parts conn place d
found_at place conn parts d is = let f = found_from 0 place conn parts d is in subst (λ k. StandsAt parts conn k d) (omega (arith, f.1)) f.2

-- a connection without a part has no bytes
pub none_of : (at conn : ℕ) (parts : List Part) → place_from at conn parts ≡ None → bytes_of parts conn ≡ []
none_of at conn [] none = refl
none_of at conn (p ∷ parts) none = either (nat_eq p.conn conn) refl none (λ later. none_of (at + 1) conn parts later)
  where
    either : (b : Bool) → nat_eq p.conn conn ≡ b → (if b then Some at else place_from (at + 1) conn parts) ≡ None → (place_from (at + 1) conn parts ≡ None → bytes_of parts conn ≡ []) → (if b then p.bytes else bytes_of parts conn) ≡ []
    either true same found later = absurd (none-some at (sym found))
    either false differ found later = later found

-- one part more behind the others
pub becomes_pushed : (at conn : ℕ) (bytes : List ℕ) (parts : List Part) → place_from at conn parts ≡ None → Becomes conn bytes parts (parts ++ part conn bytes ∷ [])
becomes_pushed at conn bytes [] none n = refl
becomes_pushed at conn bytes (p ∷ parts) none n = either (nat_eq p.conn conn) refl none (λ later. becomes_pushed (at + 1) conn bytes parts later n)
  where
    either : (b : Bool) → nat_eq p.conn conn ≡ b → (if b then Some at else place_from (at + 1) conn parts) ≡ None
        → (place_from (at + 1) conn parts ≡ None → bytes_of (parts ++ part conn bytes ∷ []) n ≡ (if nat_eq conn n then bytes else bytes_of parts n))
        → (if nat_eq p.conn n then p.bytes else bytes_of (parts ++ part conn bytes ∷ []) n) ≡ (if nat_eq conn n then bytes else (if nat_eq p.conn n then p.bytes else bytes_of parts n))
    either true same found later = absurd (none-some at (sym found))
    either false differ found later = grind (arith, nat_tests, differ, later found)

-- without the parts of a connection
pub becomes_none : (conn : ℕ) (parts : List Part) → Becomes conn [] parts (filter (λ p. not (nat_eq p.conn conn)) parts)
becomes_none conn [] n = grind (arith, nat_tests)
becomes_none conn (p ∷ parts) n = grind (arith, nat_tests, becomes_none conn parts n)

-- the same for the values that a call has: where a part was found and changed
pub put_at : (place conn : ℕ) (parts now : List Part) (d new : Part) (f : List ℕ → List ℕ) → place_from 0 conn parts ≡ Some place → parts ≡ now → d ≡ get_or parts place d → new ≡ record d { bytes = f d.bytes }
    → Becomes conn (f (bytes_of now conn)) now (set parts place new)
put_at place conn parts now d new f found same at is =
    let s = found_at place conn parts d found in
    let bytes : bytes_of now conn ≡ d.bytes = ap (λ ps. bytes_of ps conn) (sym same) ∙ s.bytes_is ∙ ap (λ p. p.bytes) (sym at) in
    let made : part conn (f (bytes_of now conn)) ≡ new = ap₂ (λ c b. part c b) (sym s.conn_is ∙ ap (λ p. p.conn) (sym at)) (ap f bytes) ∙ sym is in
    subst (λ ps. Becomes conn (f (bytes_of now conn)) ps (set parts place new)) same
    (subst (λ p. Becomes conn (f (bytes_of now conn)) parts (set parts place p)) made (s.put (f (bytes_of now conn))))

pub bytes_at : (place conn : ℕ) (parts now : List Part) (d : Part) → place_from 0 conn parts ≡ Some place → parts ≡ now → d ≡ get_or parts place d → bytes_of now conn ≡ d.bytes
bytes_at place conn parts now d found same at = ap (λ ps. bytes_of ps conn) (sym same) ∙ (found_at place conn parts d found).bytes_is ∙ ap (λ p. p.bytes) (sym at)

-- without the parts of a connection that has no bytes
pub left_out : (conn : ℕ) (parts kept : List Part) → bytes_of parts conn ≡ [] → kept ≡ filter (λ p. not (nat_eq p.conn conn)) parts → (n : ℕ) → bytes_of kept n ≡ bytes_of parts n
left_out conn parts kept none is n = ap (λ ps. bytes_of ps n) is ∙ becomes_none conn parts n ∙ by (nat_eq conn n) refl
  where
    by : (b : Bool) → nat_eq conn n ≡ b → (if b then [] else bytes_of parts n) ≡ bytes_of parts n
    by true same = sym (ap (bytes_of parts) (sym (eqb-true conn n same)) ∙ none)
    by false same = refl

-- of a connection without bytes none are given up
pub becomes_same : (conn count : ℕ) (parts : List Part) → bytes_of parts conn ≡ [] → Becomes conn (drop count (bytes_of parts conn)) parts parts
becomes_same conn count parts none n = sym (by (nat_eq conn n) refl)
  where
    by : (b : Bool) → nat_eq conn n ≡ b → (if b then drop count (bytes_of parts conn) else bytes_of parts n) ≡ bytes_of parts n
    by true same = ap (drop count) none ∙ drop-nil count ∙ sym (ap (bytes_of parts) (sym (eqb-true conn n same)) ∙ none)
    by false same = refl

pub becomes_then : (conn : ℕ) (bytes : List ℕ) (old mid new : List Part) → Becomes conn bytes old mid → ((n : ℕ) → bytes_of new n ≡ bytes_of mid n) → Becomes conn bytes old new
becomes_then conn bytes old mid new one other n = other n ∙ one n

pub no_bytes : (bytes : List ℕ) → true ≡ (length bytes == 0) → bytes ≡ []
no_bytes [] is = refl
no_bytes (b ∷ bytes) is = let none : suc (length bytes) ≡ 0 = eqb-true (suc (length bytes)) 0 (sym is) in absurd (omega arith)

pub no_line : HasNoLine []
no_line = record { free = tt; short = omega arith }

pub becomes_added : (conn : ℕ) (bytes : List ℕ) (parts new : List Part) (p : Part) → place_from 0 conn parts ≡ None → new ≡ parts ++ p ∷ [] → p ≡ part conn bytes → Becomes conn (bytes_of parts conn ++ bytes) parts new
becomes_added conn bytes parts new p none is same =
    subst (λ b. Becomes conn (b ++ bytes) parts new) (sym (none_of 0 conn parts none))
    (subst (Becomes conn bytes parts) (sym (is ∙ ap (λ x. parts ++ x ∷ []) same)) (becomes_pushed 0 conn bytes parts none))
