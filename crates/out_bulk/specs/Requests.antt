-- The request that sends events (RFC 9112; Elasticsearch 8, "Bulk API").
use Rattle.std.specs.Prelude.{ℕ, List, [], ◌∷◌, ◌++◌, length, flat_map, codes, decimal}
use Rattle.event_tree.specs.Events.{Ev}
use Rattle.event_tree.specs.declared.value.Value.TheVariants as v
use Rattle.event_json.specs.Json.{json}
use Rattle.event_text.specs.Template.{text}
use Rattle.httparse.specs.Ascii.{crlf_bytes, line_feed}
use Rattle.out_bulk.specs.Settings.{Target}

-- the action of an event: it is put into the index of this name
abbrev pub action_of : List ℕ → List ℕ
action_of name = codes "{\"index\":{\"_index\":" ++ (json (v.Text name) ++ codes "}}")

-- the line of an event's action
abbrev pub action_line : Target → Ev → List ℕ
action_line t e = action_of (text t.index e) ++ line_feed ∷ []

-- two lines for an event: its action, and its JSON text without `@metadata`
abbrev pub lines_of : Target → Ev → List ℕ
lines_of t e = action_line t e ++ (json e.fields ++ line_feed ∷ [])

abbrev pub body_of : Target → List Ev → List ℕ
body_of t es = flat_map (lines_of t) es

abbrev line : List ℕ → List ℕ
line s = s ++ crlf_bytes

-- the head of a request to this host, with a body of so many bytes: lines, of which the last is empty
abbrev pub head_of : List ℕ → ℕ → List ℕ
head_of host n =
    flat_map line (codes "POST /_bulk HTTP/1.1"
    ∷ (codes "Host: " ++ host)
    ∷ codes "Content-Type: application/x-ndjson"
    ∷ (codes "Content-Length: " ++ decimal n)
    ∷ codes "Connection: close"
    ∷ [] ∷ [])

unfoldable pub request_of : Target → List Ev → List ℕ
request_of t es = head_of t.host (length (body_of t es)) ++ body_of t es
