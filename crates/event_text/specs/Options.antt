-- The four options that filters have in common, as this project's table of common options has them, and what they make of an event.
use Rattle.std.specs.Prelude.{ℕ, List, [], ◌∷◌, ◌++◌, Bool, false, not, if◌then◌else◌, codes, bytes_eq, Option, Some, None, option_map, option_and_then, Result, Ok, Err}
use Rattle.std.specs.List.{list_any, filter}
use Rattle.event_tree.specs.Events.{Ev, Way, to, event_at, event_put, event_take, limited}
use Rattle.event_tree.specs.Paths.{over}
use Rattle.event_tree.specs.declared.fault.PutFault.{PutFault}
use Rattle.event_tree.specs.declared.value.Value.{Value, out-Value}
use Rattle.event_tree.specs.declared.value.Value.TheOpen.{Value-F}
use Rattle.event_tree.specs.declared.value.Value.TheVariants as v
use Rattle.event_text.specs.PathReading.{way_in}
use Rattle.event_text.specs.Template.{template_parts, text}
use Rattle.event_text.specs.declared.options.Options.{Options}
use Rattle.event_text.specs.declared.template.TemplatePart.{TemplatePart}

-- one change for each element, one after another
abbrev pub each_done : {X : Type 0} → (X → Ev → Ev) → List X → Ev → Ev
each_done f [] e = e
each_done f (x ∷ xs) e = each_done f xs (f x e)

abbrev pub after_put : Ev → Result Ev PutFault → Ev
after_put old (Ok e) = e
after_put old (Err fault) = old

-- the event with the value there; a put that is refused sets nothing
abbrev pub set_at : Way → Value → Ev → Ev
set_at w x e = after_put e (limited (event_put w x e))

abbrev items_in : Value-F Value → Option (List Value)
items_in Value-F.Null = None
items_in (Value-F.Bool b) = None
items_in (Value-F.Num n) = None
items_in (Value-F.Text s) = None
items_in (Value-F.Time t) = None
items_in (Value-F.List xs) = Some xs
items_in (Value-F.Object ms) = None

-- the items of a list
abbrev pub items : Value → Option (List Value)
items x = items_in (out-Value x)

-- the values that a value stands for: the items of a list, or it alone
abbrev pub values : Value → List Value
values x = over (λ xs. xs) (x ∷ []) (items x)

-- the values of a field that is there, and none of one that is missing
abbrev pub values_of : Option Value → List Value
values_of None = []
values_of (Some x) = values x

-- what a field becomes by add_field: the value, or a list of the old values and it where the field is there
abbrev pub value_and : Value → Option Value → Value
value_and x None = x
value_and x (Some old) = v.List (values old ++ x ∷ [])

-- add_field: a text that the event fills
abbrev pub with_field : Way × List TemplatePart → Ev → Ev
with_field p e = set_at p.0 (value_and (v.Text (text p.1 e)) (event_at p.0 e)) e

abbrev pub without_taken : Ev → Option (Value × Ev) → Ev
without_taken old None = old
without_taken old (Some r) = r.1

-- remove_field
abbrev pub without_field : Way → Ev → Ev
without_field w e = without_taken e (event_take w e)

abbrev pub tags : Way
tags = to false (codes "tags" ∷ [])

abbrev is_text_in : List ℕ → Value-F Value → Bool
is_text_in s Value-F.Null = false
is_text_in s (Value-F.Bool b) = false
is_text_in s (Value-F.Num n) = false
is_text_in s (Value-F.Text t) = bytes_eq t s
is_text_in s (Value-F.Time t) = false
is_text_in s (Value-F.List xs) = false
is_text_in s (Value-F.Object ms) = false

-- the value is this text
abbrev pub is_text : List ℕ → Value → Bool
is_text s x = is_text_in s (out-Value x)

-- the text is one of the values
abbrev pub has_text : List ℕ → List Value → Bool
has_text s xs = list_any (is_text s) xs

-- the event with the tag, where it doesn't stand already and can be put
abbrev pub tagged : List ℕ → Ev → Ev
tagged s e = if has_text s (values_of (event_at tags e)) then e else set_at tags (v.List (values_of (event_at tags e) ++ v.Text s ∷ [])) e

-- add_tag: a text that the event fills
abbrev pub with_tag : List TemplatePart → Ev → Ev
with_tag parts e = tagged (text parts e) e

-- the values that are not this text
abbrev pub others : List ℕ → List Value → List Value
others s xs = filter (λ x. not (is_text s x)) xs

-- the event without the tag, where the tags are a list; the last tag that goes leaves an empty list
abbrev pub untagged_in : List ℕ → Ev → List Value → Ev
untagged_in s e xs = if has_text s xs then set_at tags (v.List (others s xs)) e else e

abbrev pub untagged : List ℕ → Ev → Ev
untagged s e = over (untagged_in s e) e (option_and_then items (event_at tags e))

-- remove_tag: a text that the event fills
abbrev pub without_tag : List TemplatePart → Ev → Ev
without_tag parts e = untagged (text parts e) e

-- the options in their order: add_field, remove_field, add_tag, remove_tag
unfoldable pub with_options : Options → Ev → Ev
with_options o e =
    each_done without_tag o.remove_tag
    (each_done with_tag o.add_tag
    (each_done without_field o.remove_field
    (each_done with_field o.add_field e)))

-- each as f says, where it says something of each
abbrev pub each_in : {A B : Type 0} → (A → Option B) → List A → Option (List B)
each_in f [] = Some []
each_in f (x ∷ xs) = option_and_then (λ y. option_map (λ ys. y ∷ ys) (each_in f xs)) (f x)

-- a field and the text of a template
abbrev pub field_in : List ℕ × List ℕ → Option (Way × List TemplatePart)
field_in p = option_map (λ w. (w, template_parts p.1)) (way_in p.0)

-- no option
abbrev pub no_options : Options
no_options = record { add_field = []; remove_field = []; add_tag = []; remove_tag = [] }
