-- What the value of a setting is read as; none where it is of another kind. A whole setting that has to be a text is one; where an item of a list or a value of a hash has to be a text, a number stands for its decimal text.
use Rattle.std.specs.Prelude.{ℕ, List, [], ◌∷◌, ◌&&◌, nat_lt, nat_le, length, Bool, if◌then◌else◌, codes, bytes_eq, Option, Some, None, option_map, option_and_then}
use Rattle.event_tree.specs.Events.{Way}
use Rattle.event_tree.specs.declared.value.Value.TheVariants as v
use Rattle.event_text.specs.Options.{each_in}
use Rattle.event_text.specs.PathReading.{way_in}
use Rattle.event_text.specs.Shown.{shown}
use Rattle.event_text.specs.Template.{template_parts}
use Rattle.event_text.specs.declared.template.TemplatePart.{TemplatePart}
use Rattle.config_tree.specs.Joining.{Entries}
use Rattle.config_tree.specs.Readers.{Open, flag_of as flag_text}
use Rattle.config_tree.specs.declared.tree.SettingValue.{SettingValue, out-SettingValue}
use Rattle.config_tree.specs.declared.tree.SettingValue.TheOpen.{SettingValue-F}
use Rattle.filter_settings.specs.declared.conversion.Conversion.{Conversion}
use Rattle.filter_settings.specs.declared.conversion.Conversion.TheVariants as to

abbrev text_in : Open → Option (List ℕ)
text_in (SettingValue-F.Text s) = Some s
text_in _ = None

-- a text
abbrev pub text_of : SettingValue → Option (List ℕ)
text_of x = text_in (out-SettingValue x)

-- a flag: the texts `true` and `false`
abbrev pub flag_of : SettingValue → Option Bool
flag_of x = option_and_then flag_text (text_of x)

abbrev list_in : SettingValue → Open → Option (List SettingValue)
list_in x (SettingValue-F.Array xs) = Some xs
list_in x (SettingValue-F.Text s) = Some (x ∷ [])
list_in x (SettingValue-F.Number n) = Some (x ∷ [])
list_in x _ = None

-- a list: an array, and a single text or number as a list of one
abbrev pub list_of : SettingValue → Option (List SettingValue)
list_of x = list_in x (out-SettingValue x)

abbrev hash_in : Open → Option Entries
hash_in (SettingValue-F.Hash entries) = Some entries
hash_in _ = None

-- a hash, with its entries in the order of the text
abbrev pub hash_of : SettingValue → Option Entries
hash_of x = hash_in (out-SettingValue x)

abbrev item_text : Open → Option (List ℕ)
item_text (SettingValue-F.Text s) = Some s
item_text (SettingValue-F.Number n) = Some (shown (v.Num n))
item_text _ = None

-- an item of a list, or a value of a hash, as a text, a path and a template
abbrev pub text_item : SettingValue → Option (List ℕ)
text_item x = item_text (out-SettingValue x)

abbrev pub path_item : SettingValue → Option Way
path_item x = option_and_then way_in (text_item x)

abbrev pub template_item : SettingValue → Option (List TemplatePart)
template_item x = option_map template_parts (text_item x)

-- the kind that a text names
abbrev pub conversion_of : List ℕ → Option Conversion
conversion_of s = if bytes_eq s (codes "integer") then Some to.Integer
    else (if bytes_eq s (codes "float") then Some to.Float
    else (if bytes_eq s (codes "string") then Some to.Text
    else (if bytes_eq s (codes "boolean") then Some to.Boolean else None)))

abbrev pub conversion_item : SettingValue → Option Conversion
conversion_item x = option_and_then conversion_of (text_item x)

-- the path that a whole setting is
abbrev pub path_of : SettingValue → Option Way
path_of x = option_and_then way_in (text_of x)

-- the template that a whole setting is
abbrev pub template_of : SettingValue → Option (List TemplatePart)
template_of x = option_map template_parts (text_of x)

-- lists of texts, of paths and of templates
abbrev pub texts_of : SettingValue → Option (List (List ℕ))
texts_of x = option_and_then (each_in text_item) (list_of x)

abbrev pub paths_of : SettingValue → Option (List Way)
paths_of x = option_and_then (each_in path_item) (list_of x)

abbrev pub templates_of : SettingValue → Option (List (List TemplatePart))
templates_of x = option_and_then (each_in template_item) (list_of x)

-- a field and what stands at it
abbrev pub at_field : {A : Type 0} → (SettingValue → Option A) → List ℕ × SettingValue → Option (Way × A)
at_field f e = option_and_then (λ w. option_map (λ x. (w, x)) (f e.1)) (way_in e.0)

-- hashes of fields with texts, lists of texts, paths and templates, in the order of the text
abbrev pub field_texts_of : SettingValue → Option (List (Way × List ℕ))
field_texts_of x = option_and_then (each_in (at_field text_item)) (hash_of x)

abbrev pub field_lists_of : SettingValue → Option (List (Way × List (List ℕ)))
field_lists_of x = option_and_then (each_in (at_field texts_of)) (hash_of x)

abbrev pub field_paths_of : SettingValue → Option (List (Way × Way))
field_paths_of x = option_and_then (each_in (at_field path_item)) (hash_of x)

abbrev pub field_templates_of : SettingValue → Option (List (Way × List TemplatePart))
field_templates_of x = option_and_then (each_in (at_field template_item)) (hash_of x)

-- a hash of fields with the kinds to which they are converted
abbrev pub field_conversions_of : SettingValue → Option (List (Way × Conversion))
field_conversions_of x = option_and_then (each_in (at_field conversion_item)) (hash_of x)

-- a text that may be an id: one of 1 to 255 bytes
abbrev pub is_id : List ℕ → Bool
is_id s = nat_lt 0 (length s) && nat_le (length s) 255

abbrev id_in : List ℕ → Option (List ℕ)
id_in s = if is_id s then Some s else None

abbrev pub id_of : SettingValue → Option (List ℕ)
id_of x = option_and_then id_in (text_of x)
