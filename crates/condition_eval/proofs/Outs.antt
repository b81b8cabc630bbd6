-- What values are, by their variants.
use Rattle.std.proofs.Common.{◌≡◌, ◌↔◌, ℕ, List, [], Bool, true, ℤ, sym, ap, ◌∙◌}
use Rattle.event_tree.specs.Number.{Num}
use Rattle.event_tree.specs.Values.{Members}
use Rattle.event_tree.specs.declared.value.Value.{Value, out-Value, out-roll-Value}
use Rattle.event_tree.specs.declared.value.Value.TheOpen.{Value-F}
use Rattle.event_tree.specs.declared.value.Value.TheVariants as v

pub out-Null : out-Value v.Null ≡ Value-F.Null
out-Null = ap out-Value (sym v.rolls-Null) ∙ out-roll-Value Value-F.Null

pub out-Bool : (b : Bool) → out-Value (v.Bool b) ≡ Value-F.Bool b
out-Bool b = ap out-Value (sym (v.rolls-Bool b)) ∙ out-roll-Value (Value-F.Bool b)

pub out-Num : (n : Num) → out-Value (v.Num n) ≡ Value-F.Num n
out-Num n = ap out-Value (sym (v.rolls-Num n)) ∙ out-roll-Value (Value-F.Num n)

pub out-Text : (s : List ℕ) → out-Value (v.Text s) ≡ Value-F.Text s
out-Text s = ap out-Value (sym (v.rolls-Text s)) ∙ out-roll-Value (Value-F.Text s)

pub out-Time : (t : ℤ) → out-Value (v.Time t) ≡ Value-F.Time t
out-Time t = ap out-Value (sym (v.rolls-Time t)) ∙ out-roll-Value (Value-F.Time t)

pub out-List : (xs : List Value) → out-Value (v.List xs) ≡ Value-F.List xs
out-List xs = ap out-Value (sym (v.rolls-List xs)) ∙ out-roll-Value (Value-F.List xs)

pub out-Object : (ms : Members) → out-Value (v.Object ms) ≡ Value-F.Object ms
out-Object ms = ap out-Value (sym (v.rolls-Object ms)) ∙ out-roll-Value (Value-F.Object ms)

pub ruleset outs = (out-Null, out-Bool, out-Num, out-Text, out-Time, out-List, out-Object)

abbrev items_in : Value-F Value → List Value
items_in Value-F.Null = []
items_in (Value-F.Bool b) = []
items_in (Value-F.Num n) = []
items_in (Value-F.Text s) = []
items_in (Value-F.Time t) = []
items_in (Value-F.List xs) = xs
items_in (Value-F.Object ms) = []

abbrev members_in : Value-F Value → Members
members_in Value-F.Null = []
members_in (Value-F.Bool b) = []
members_in (Value-F.Num n) = []
members_in (Value-F.Text s) = []
members_in (Value-F.Time t) = []
members_in (Value-F.List xs) = []
members_in (Value-F.Object ms) = ms

items_where : (xs ys : List Value) → v.List xs ≡ v.List ys → xs ≡ ys
items_where xs ys e = sym (ap items_in (out-List xs)) ∙ ap (λ d. items_in (out-Value d)) e ∙ ap items_in (out-List ys)

members_where : (ms ns : Members) → v.Object ms ≡ v.Object ns → ms ≡ ns
members_where ms ns e = sym (ap members_in (out-Object ms)) ∙ ap (λ d. members_in (out-Value d)) e ∙ ap members_in (out-Object ns)

-- a test whether lists are equal, and objects, as one of values
pub as_lists : (b : Bool) (xs ys : List Value) → ((b ≡ true) ↔ (xs ≡ ys)) → ((b ≡ true) ↔ (v.List xs ≡ v.List ys))
as_lists b xs ys h = (λ t. ap v.List (h.0 t), λ e. h.1 (items_where xs ys e))

pub as_objects : (b : Bool) (ms ns : Members) → ((b ≡ true) ↔ (ms ≡ ns)) → ((b ≡ true) ↔ (v.Object ms ≡ v.Object ns))
as_objects b ms ns h = (λ t. ap v.Object (h.0 t), λ e. h.1 (members_where ms ns e))
