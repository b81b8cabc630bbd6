-- The texts of kinds and of reasons.
use Rattle.std.specs.Prelude.{ℕ, List, ◌++◌, codes}
use Rattle.std.specs.Fmt.{decimal}
use Rattle.condition_eval.specs.declared.truth.Kind.{Kind}
use Rattle.condition_eval.specs.declared.truth.Kind.TheVariants as k
use Rattle.condition_eval.specs.declared.truth.Reason.{Reason}
use Rattle.condition_eval.specs.declared.truth.Reason.TheVariants as r

abbrev pub kind_text : Kind → List ℕ
kind_text k.Null = codes "null"
kind_text k.Boolean = codes "boolean"
kind_text k.Number = codes "number"
kind_text k.Text = codes "text"
kind_text k.Time = codes "time"
kind_text k.List = codes "list"
kind_text k.Object = codes "object"

-- the text of a reason, as a dead letter has it
abbrev pub reason_text : Reason → List ℕ
reason_text (r.Order left right) = codes "order of " ++ kind_text left ++ codes " and " ++ kind_text right
reason_text (r.Match kind) = codes "match of " ++ kind_text kind
reason_text (r.Status status said) = codes "status " ++ decimal status ++ codes ": " ++ said
