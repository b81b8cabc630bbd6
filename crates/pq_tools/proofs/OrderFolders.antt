-- The folders of an order.
use Rattle.std.proofs.Common.{◌≡◌, ⊎_elim, ℕ, suc, ◌-◌, ◌++◌, nat_eq, List, [], ◌∷◌, length, get_or, slice_get, unwrap_or, Option, Some, None, Result, Ok, Err, if◌then◌else◌, refl, sym, ◌∙◌, ap, subst, arith, append_assoc, length-append}
use Rattle.std.specs.Prelude.{codes}
use Rattle.io_traits.specs.Folders.{folder_start}
use Rattle.queue_files.specs.Folders.{Role, checkpoint, head, names_in, number_text, page}
use Rattle.settings_lines.specs.declared.orders.QueueTool.{QueueTool}
use Rattle.settings_lines.specs.declared.orders.QueueTool.TheVariants as tool
use Rattle.logstash_settings.specs.Words.{Answer}
use Rattle.logstash_settings.specs.declared.fault.WordsFault.{WordsFault}
use Rattle.pq_tools.specs.Orders.{Ordered, Orders, checked, checked_by, order_of, repaired, repaired_by}
use Rattle.pq_tools.specs.Repairs.{AreDifferent}
use Rattle.pq_tools.specs.declared.orders.ToolOrder.{ToolOrder}

-- ---- folders that end with a slash

last_is : (front : List ℕ) → slice_get (front ++ 47 ∷ []) (length (front ++ 47 ∷ []) - 1) ≡ Some 47
last_is [] = refl
last_is (x ∷ front) =
    let some : length (x ∷ (front ++ 47 ∷ [])) - 1 ≡ suc (length (front ++ 47 ∷ []) - 1) = omega (arith, length-append front (47 ∷ [])) in
    ap (slice_get (x ∷ (front ++ 47 ∷ []))) some ∙ last_is front

slashed : (front : List ℕ) → folder_start (front ++ 47 ∷ []) ≡ front ++ 47 ∷ []
slashed front = ap (λ (o : Option ℕ). if nat_eq (unwrap_or o 47) 47 then front ++ 47 ∷ [] else (front ++ 47 ∷ []) ++ 47 ∷ []) (last_is front)

ends : (folder front : List ℕ) → folder ≡ front ++ 47 ∷ [] → folder_start folder ≡ folder
ends folder front is = ap folder_start is ∙ slashed front ∙ sym is

get_at : (front : List ℕ) (x : ℕ) (rest : List ℕ) → get_or (front ++ x ∷ rest) (length front) 0 ≡ x
get_at [] x rest = refl
get_at (y ∷ front) x rest = get_at front x rest

-- the name of a file begins with its folder
named : (folder : List ℕ) (role : Role) → (rest : List ℕ) × (names_in folder role ≡ folder ++ rest)
named folder head = (codes "checkpoint." ++ codes "head", refl)
named folder (page n) = (codes "page." ++ number_text n, refl)
named folder (checkpoint n) = (codes "checkpoint." ++ number_text n, refl)

module _ (path id : List ℕ) where
  pub folder_ends : folder_start (order_of path id).folder ≡ (order_of path id).folder
  folder_ends = ends (order_of path id).folder (path ++ 47 ∷ id) (sym (append_assoc path (47 ∷ id) (47 ∷ [])))

  pub repaired_ends : folder_start (order_of path id).repaired ≡ (order_of path id).repaired
  repaired_ends = ends (order_of path id).repaired (path ++ 47 ∷ (id ++ codes ".repaired"))
      (ap (λ l. path ++ 47 ∷ l) (sym (append_assoc id (codes ".repaired") (47 ∷ []))) ∙ sym (append_assoc path (47 ∷ (id ++ codes ".repaired")) (47 ∷ [])))

  -- the one is not the other
  abbrev front : List ℕ
  front = path ++ 47 ∷ id

  in_folder : (rest : List ℕ) → get_or ((order_of path id).folder ++ rest) (length front) 0 ≡ 47
  in_folder rest =
      ap (λ l. get_or (l ++ rest) (length front) 0) (sym (append_assoc path (47 ∷ id) (47 ∷ [])))
      ∙ ap (λ l. get_or l (length front) 0) (append_assoc front (47 ∷ []) rest) ∙ get_at front 47 rest

  in_repaired : (rest : List ℕ) → get_or ((order_of path id).repaired ++ rest) (length front) 0 ≡ 46
  in_repaired rest =
      ap (λ l. get_or (l ++ rest) (length front) 0) (sym (append_assoc path (47 ∷ id) (codes ".repaired/")))
      ∙ ap (λ l. get_or l (length front) 0) (append_assoc front (codes ".repaired/") rest) ∙ get_at front 46 (codes "repaired/" ++ rest)

  pub folders_differ : AreDifferent (order_of path id).folder (order_of path id).repaired
  folders_differ role (other, same) =
      let one = named (order_of path id).folder role in
      let two = named (order_of path id).repaired other in
      let both : get_or ((order_of path id).folder ++ one.0) (length front) 0 ≡ get_or ((order_of path id).repaired ++ two.0) (length front) 0 = ap (λ l. get_or l (length front) 0) (sym one.1 ∙ same ∙ two.1) in
      omega (arith, in_folder one.0, in_repaired two.0, both)

-- ---- the folder of a check

order_ok : {x y : ToolOrder} → ◌≡◌ {A = Result ToolOrder WordsFault} (Ok x) (Ok y) → x ≡ y
order_ok is = cc

checked_folder : (path : List ℕ) (found : Option QueueTool) (order : ToolOrder) → checked_by path found ≡ Ok order → folder_start order.folder ≡ order.folder
checked_folder path (Some (tool.Check id)) order is = subst (λ (o : ToolOrder). folder_start o.folder ≡ o.folder) (order_ok is) (folder_ends path id)
checked_folder path (Some (tool.Repair id)) order is = absurd cc
checked_folder path None order is = absurd cc

answered : (answer : Answer) (order : ToolOrder) → checked answer ≡ Ok order → folder_start order.folder ≡ order.folder
answered (Ok orders) order is = checked_folder orders.path_data orders.tool order is
answered (Err why) order is = absurd cc

-- what was ordered, by what was answered
pub ordered_ok : (ordered : Ordered) (order : ToolOrder) → Orders ordered (Ok order) → ordered ≡ Ok order
ordered_ok (Ok other) order is = ⊎_elim (λ same. cc) (λ none. absurd cc) is
ordered_ok (Err why) order is = ⊎_elim (λ same. absurd cc) (λ none. absurd cc) is

pub check_folder : (answer : Answer) (order : ToolOrder) → Orders (checked answer) (Ok order) → folder_start order.folder ≡ order.folder
check_folder answer order is = answered answer order (ordered_ok (checked answer) order is)

-- ---- those of a repair

-- what is known of the folders of an order
pub record AreFolders (order : ToolOrder) : Type 0 where
  pub folder : folder_start order.folder ≡ order.folder
  pub repaired : folder_start order.repaired ≡ order.repaired
  pub apart : AreDifferent order.folder order.repaired

-- those of what was ordered
abbrev pub AreApart : Ordered → Type 0
AreApart ordered = (order : ToolOrder) → ordered ≡ Ok order → AreDifferent order.folder order.repaired

repaired_folders : (path : List ℕ) (found : Option QueueTool) (order : ToolOrder) → repaired_by path found ≡ Ok order → AreFolders order
repaired_folders path (Some (tool.Repair id)) order is = subst AreFolders (order_ok is) (record { folder = folder_ends path id; repaired = repaired_ends path id; apart = folders_differ path id })
repaired_folders path (Some (tool.Check id)) order is = absurd cc
repaired_folders path None order is = absurd cc

pub repair_answered : (answer : Answer) (order : ToolOrder) → repaired answer ≡ Ok order → AreFolders order
repair_answered (Ok orders) order is = repaired_folders orders.path_data orders.tool order is
repair_answered (Err why) order is = absurd cc

pub repair_folders : (answer : Answer) (order : ToolOrder) → Orders (repaired answer) (Ok order) → AreFolders order
repair_folders answer order is = repair_answered answer order (ordered_ok (repaired answer) order is)
