-- What the operations of the filter mutate make of an event, as this project's table of plugins has them. Kinds of values that an operation does not speak of stay as they are.
use Rattle.std.specs.Prelude.{ℕ, List, [], ◌∷◌, ◌++◌, map, Option, Some, None, Result, Ok}
use Rattle.event_tree.specs.Events.{Ev, Way, event_at, event_move}
use Rattle.event_tree.specs.Paths.{over}
use Rattle.event_tree.specs.Values.{Members}
use Rattle.plain_data.specs.Members.{insert_member}
use Rattle.event_tree.specs.declared.fault.PutFault.{PutFault}
use Rattle.event_tree.specs.declared.value.Value.{Value, out-Value}
use Rattle.event_tree.specs.declared.value.Value.TheOpen.{Value-F}
use Rattle.event_tree.specs.declared.value.Value.TheVariants as v
use Rattle.event_text.specs.Options.{values}
use Rattle.event_text.specs.Shown.{shown}
use Rattle.event_text.specs.Template.{text}
use Rattle.event_text.specs.declared.applied.Applied.{Applied}
use Rattle.event_text.specs.declared.template.TemplatePart.{TemplatePart}
use Rattle.pattern_box.specs.Replacements.{substituted}
use Rattle.filter_settings.specs.Convert.{converted}
use Rattle.filter_settings.specs.Pieces.{split_text}
use Rattle.filter_settings.specs.Trying.{Tried, all_tried, put_at, change_at, unless_refused, finished}
use Rattle.filter_settings.specs.declared.conversion.Conversion.{Conversion}
use Rattle.filter_settings.specs.declared.field_changes.Change.{Change}
use Rattle.filter_settings.specs.declared.field_changes.Change.TheVariants as c
use Rattle.filters_mutate.specs.Texts.{in_case, stripped, joined_by}
use Rattle.filters_mutate.specs.declared.cases.Case.{Case}
use Rattle.filters_mutate.specs.declared.cases.Case.TheVariants as case
use Rattle.filters_mutate.specs.declared.fills.Fill.{Fill}
use Rattle.filters_mutate.specs.declared.fills.Fill.TheVariants as fill
use Rattle.filters_mutate.specs.declared.gsub.Substitution.{Substitution}
use Rattle.filters_mutate.specs.declared.lists.ListConversion.{ListConversion}
use Rattle.filters_mutate.specs.declared.lists.ListConversion.TheVariants as list
use Rattle.filters_mutate.specs.declared.moves.Move.{Move}
use Rattle.filters_mutate.specs.declared.moves.Move.TheVariants as move
use Rattle.filters_mutate.specs.declared.mutate.Mutate.{Mutate}
use Rattle.filters_mutate.specs.declared.operation.Operation.{Operation}
use Rattle.filters_mutate.specs.declared.operation.Operation.TheVariants as op

-- the value of a field becomes what f says of it; a field that is missing is passed over
abbrev pub changed_at : (Value → Change) → Way → Ev → Tried
changed_at f w e = change_at w (over f c.Keep (event_at w e)) e

abbrev null_to : Value → Value-F Value → Change
null_to x Value-F.Null = c.Set x
null_to x (Value-F.Bool b) = c.Keep
null_to x (Value-F.Num n) = c.Keep
null_to x (Value-F.Text s) = c.Keep
null_to x (Value-F.Time t) = c.Keep
null_to x (Value-F.List xs) = c.Keep
null_to x (Value-F.Object ms) = c.Keep

-- a null becomes the text
abbrev pub coerced : List ℕ → Value → Change
coerced s x = null_to (v.Text s) (out-Value x)

-- coerce, update and replace: a text that the event fills takes the place of a null, of what is there, and of all
abbrev pub filled : Fill → Way × List TemplatePart → Ev → Tried
filled fill.Coerce p e = changed_at (coerced (text p.1 e)) p.0 e
filled fill.Update p e = changed_at (λ x. c.Set (v.Text (text p.1 e))) p.0 e
filled fill.Replace p e = put_at p.0 (v.Text (text p.1 e)) e

-- members behind others, in place of those with the same keys
abbrev pub with_members : Members → Members → Members
with_members ms [] = ms
with_members ms (n ∷ ns) = with_members (insert_member n.0 n.1 ms) ns

abbrev merged_in : Value → Value → Value-F Value → Value-F Value → Change
merged_in x y (Value-F.Object ms) (Value-F.Object ns) = c.Set (v.Object (with_members ms ns))
merged_in x y (Value-F.Object ms) (Value-F.List ys) = c.Fail
merged_in x y (Value-F.List xs) (Value-F.Object ns) = c.Fail
merged_in x y _ _ = c.Set (v.List (values x ++ values y))

-- two objects: the keys of the second win; a list and an object fail; else both as lists, joined
abbrev pub merged : Value → Value → Change
merged x y = merged_in x y (out-Value x) (out-Value y)

-- where nothing stands there is nothing to move
abbrev pub renamed : Ev → Option (Result Ev PutFault) → Tried
renamed e None = Ok e
renamed e (Some moved) = unless_refused e moved

-- rename: what stands at the first path moves to the second; copy: a copy of it does; merge: what stands at the second path is added to what stands at the first
abbrev pub moved : Move → Way × Way → Ev → Tried
moved move.Rename p e = renamed e (event_move p.0 p.1 e)
moved move.Copy p e = over (λ x. put_at p.1 x e) (Ok e) (event_at p.0 e)
moved move.Merge p e = over (λ y. changed_at (λ x. merged x y) p.0 e) (Ok e) (event_at p.1 e)

-- convert
abbrev pub converted_at : Way × Conversion → Ev → Tried
converted_at p e = changed_at (converted p.1) p.0 e

abbrev on_text : (List ℕ → Value) → Value-F Value → Change
on_text f Value-F.Null = c.Keep
on_text f (Value-F.Bool b) = c.Keep
on_text f (Value-F.Num n) = c.Keep
on_text f (Value-F.Text s) = c.Set (f s)
on_text f (Value-F.Time t) = c.Keep
on_text f (Value-F.List xs) = c.Keep
on_text f (Value-F.Object ms) = c.Keep

-- a text becomes what f says
abbrev pub text_to : (List ℕ → Value) → Value → Change
text_to f x = on_text f (out-Value x)

-- gsub: each match becomes the replacement
abbrev pub substituted_in : Substitution → List ℕ → Value
substituted_in g s = v.Text (substituted g.pattern g.replacement s)

abbrev pub substituted_at : Substitution → Ev → Tried
substituted_at g e = changed_at (text_to (substituted_in g)) g.field e

abbrev item_in_case : Case → Value → Value-F Value → Value
item_in_case k x (Value-F.Text s) = v.Text (in_case k s)
item_in_case k x _ = x

abbrev pub item_cased : Case → Value → Value
item_cased k x = item_in_case k x (out-Value x)

abbrev in_case_of : Case → Value-F Value → Change
in_case_of k Value-F.Null = c.Keep
in_case_of k (Value-F.Bool b) = c.Keep
in_case_of k (Value-F.Num n) = c.Keep
in_case_of k (Value-F.Text s) = c.Set (v.Text (in_case k s))
in_case_of k (Value-F.Time t) = c.Keep
in_case_of k (Value-F.List xs) = c.Set (v.List (map (item_cased k) xs))
in_case_of k (Value-F.Object ms) = c.Keep

-- a text, or each text of a list, in another case
abbrev pub cased : Case → Value → Change
cased k x = in_case_of k (out-Value x)

-- uppercase, capitalize and lowercase
abbrev pub cased_at : Case → Way → Ev → Tried
cased_at k w e = changed_at (cased k) w e

-- strip
abbrev pub stripped_at : Way → Ev → Tried
stripped_at w e = changed_at (text_to (λ s. v.Text (stripped s))) w e

-- a text as the list of its pieces
abbrev pub split_by : List ℕ → Value → Change
split_by separator x = text_to (λ s. v.List (map v.Text (split_text separator s))) x

abbrev on_list : (List Value → Value) → Value-F Value → Change
on_list f Value-F.Null = c.Keep
on_list f (Value-F.Bool b) = c.Keep
on_list f (Value-F.Num n) = c.Keep
on_list f (Value-F.Text s) = c.Keep
on_list f (Value-F.Time t) = c.Keep
on_list f (Value-F.List xs) = c.Set (f xs)
on_list f (Value-F.Object ms) = c.Keep

-- a list as the text of what its items are shown by
abbrev pub join_by : List ℕ → Value → Change
join_by separator x = on_list (λ xs. v.Text (joined_by separator (map shown xs))) (out-Value x)

-- split and join
abbrev pub listed : ListConversion → Way × List ℕ → Ev → Tried
listed list.Split p e = changed_at (split_by p.1) p.0 e
listed list.Join p e = changed_at (join_by p.1) p.0 e

-- all that the settings say of one operation, in the order of the text
abbrev pub operated : Mutate → Operation → Ev → Tried
operated m op.Coerce = all_tried (filled fill.Coerce) m.coerce
operated m op.Rename = all_tried (moved move.Rename) m.rename
operated m op.Update = all_tried (filled fill.Update) m.update
operated m op.Replace = all_tried (filled fill.Replace) m.replace
operated m op.Convert = all_tried converted_at m.convert
operated m op.Gsub = all_tried substituted_at m.gsub
operated m op.Uppercase = all_tried (cased_at case.Upper) m.uppercase
operated m op.Capitalize = all_tried (cased_at case.Capital) m.capitalize
operated m op.Lowercase = all_tried (cased_at case.Lower) m.lowercase
operated m op.Strip = all_tried stripped_at m.strip
operated m op.Split = all_tried (listed list.Split) m.split
operated m op.Join = all_tried (listed list.Join) m.join
operated m op.Merge = all_tried (moved move.Merge) m.merge
operated m op.Copy = all_tried (moved move.Copy) m.copy

-- the order of the operations, whatever the order of the text
abbrev pub order : List Operation
order = op.Coerce ∷ op.Rename ∷ op.Update ∷ op.Replace ∷ op.Convert ∷ op.Gsub ∷ op.Uppercase ∷ op.Capitalize ∷ op.Lowercase ∷ op.Strip ∷ op.Split ∷ op.Join ∷ op.Merge ∷ op.Copy ∷ []

-- the filter: the operations in their order, up to the first that fails
abbrev pub mutated : Mutate → Ev → Applied
mutated m e = finished m.options m.tag_on_failure (all_tried (operated m) order e)
