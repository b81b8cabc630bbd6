-- To which part of a pipeline each file belongs.
use Rattle.std.specs.Prelude.{codes, bytes_eq, ◌==◌, ◌||◌}
use Rattle.std.proofs.Common.{◌≡◌, ◌⊎◌, inl, inr, IsTrue, ℕ, zero, suc, List, ◌++◌, length, take, drop, get_or, sym, ap, ◌∙◌}
use Rattle.std.proofs.lemmas.Bool.{cond-true, cond-false, cases_Bool, false≢true}
use Rattle.std.proofs.lemmas.List.{take-append-drop}
use Rattle.std.proofs.lemmas.Slice.Eq.{bytes_eq-Decides}
use Rattle.std.proofs.Math.Seq.{take-append_seam, drop-append_seam}
use Rattle.slot_files.specs.Names.{position_name}
use Rattle.slot_files.specs.declared.name.PositionOf.TheVariants.{Output as OfOutput, Input as OfInput}
use Rattle.dead_letters.specs.Queues.{Role as LettersRole, segment, names, position, name_in}
use Rattle.dead_letters.specs.Views.{IsOwn as IsOfLetters}
use Rattle.queue_files.specs.Folders.{Role, head, page, checkpoint, names_in, number_text, IsOwn as IsOfQueue}
use Rattle.line_outputs.specs.OpenFiles.{IsFileOf, IsOutside, slot_in}
use Rattle.line_folder.specs.FileNames.{of_queue, of_letters, of_outputs, of_inputs, of_outside, part_by, part_named, part_number, belongs, is_delivered_to, input_slot, NamesTellParts}

-- a name in the folder
in_folder : (folder rest : List ℕ) → part_named folder (folder ++ rest) ≡ part_by (get_or rest 0 0)
in_folder folder rest =
    cond-true (bytes_eq (take (length folder) (folder ++ rest)) folder) (part_by (get_or (drop (length folder) (folder ++ rest)) 0 0)) of_outside
    ((bytes_eq-Decides (take (length folder) (folder ++ rest)) folder).1 (take-append_seam folder rest))
    ∙ ap (λ r. part_by (get_or r 0 0)) (drop-append_seam folder rest)

queue_role : (folder : List ℕ) (role : Role) → part_named folder (names_in folder role) ≡ of_queue
queue_role folder head = in_folder folder (codes "checkpoint." ++ codes "head")
queue_role folder (page n) = in_folder folder (codes "page." ++ number_text n)
queue_role folder (checkpoint n) = in_folder folder (codes "checkpoint." ++ number_text n)

pub letters_role : (folder : List ℕ) (role : LettersRole) → part_named folder (name_in folder role) ≡ of_letters
letters_role folder (segment zero) = in_folder folder _
letters_role folder (segment (suc k)) = in_folder folder _
letters_role folder names = in_folder folder _
letters_role folder position = in_folder folder _

pub queue_part : (folder name : List ℕ) → IsOfQueue (names_in folder) name → part_named folder name ≡ of_queue
queue_part folder name (role, is) = ap (part_named folder) is ∙ queue_role folder role

pub letters_part : (folder name : List ℕ) → IsOfLetters folder name → part_named folder name ≡ of_letters
letters_part folder name (role, ok, is) = ap (part_named folder) is ∙ letters_role folder role

pub slot_part : (folder path : List ℕ) → part_named folder (slot_in folder path) ≡ of_outputs
slot_part folder path = in_folder folder (position_name OfOutput path)

pub input_part : (folder path : List ℕ) → part_named folder (input_slot folder path) ≡ of_inputs
input_part folder path = in_folder folder (position_name OfInput path)

pub outside_part : (folder path : List ℕ) → IsOutside folder path → part_named folder path ≡ of_outside
outside_part folder path outside = elim (cases_Bool (bytes_eq (take (length folder) path) folder)) [
  | inl same ↦ absurd (outside (drop (length folder) path)
      (sym (take-append-drop (length folder) path) ∙ ap (λ x. x ++ drop (length folder) path) ((bytes_eq-Decides (take (length folder) path) folder).0 same)))
  | inr other ↦ cond-false (bytes_eq (take (length folder) path) folder) (part_by (get_or (drop (length folder) path) 0 0)) of_outside other
]

pub file_part : (folder path name : List ℕ) → IsOutside folder path → IsFileOf folder path name → (part_named folder name ≡ of_outside) ⊎ (part_named folder name ≡ of_outputs)
file_part folder path name outside (inl is) = inl (ap (part_named folder) is ∙ outside_part folder path outside)
file_part folder path name outside (inr is) = inr (ap (part_named folder) is ∙ slot_part folder path)

pub names_tell_parts : NamesTellParts
names_tell_parts = record { queue = queue_part; letters = letters_part; outputs = slot_part; inputs = input_part; outside = outside_part }

-- ---- no name belongs to two parts

pub queue_or_letters : (folder name : List ℕ) → IsOfQueue (names_in folder) name → IsOfLetters folder name → ⊥
queue_or_letters folder name own other = let a = queue_part folder name own in let b = letters_part folder name other in let e : of_queue ≡ of_letters = sym a ∙ b in cc

pub queue_or_file : (folder path name : List ℕ) → IsOutside folder path → IsOfQueue (names_in folder) name → IsFileOf folder path name → ⊥
queue_or_file folder path name outside own other = elim (file_part folder path name outside other) [
  | inl b ↦ (let e : of_queue ≡ of_outside = sym (queue_part folder name own) ∙ b in cc)
  | inr b ↦ (let e : of_queue ≡ of_outputs = sym (queue_part folder name own) ∙ b in cc)
]

pub letters_or_file : (folder path name : List ℕ) → IsOutside folder path → IsOfLetters folder name → IsFileOf folder path name → ⊥
letters_or_file folder path name outside own other = elim (file_part folder path name outside other) [
  | inl b ↦ (let e : of_letters ≡ of_outside = sym (letters_part folder name own) ∙ b in cc)
  | inr b ↦ (let e : of_letters ≡ of_outputs = sym (letters_part folder name own) ∙ b in cc)
]

pub input_or_queue : (folder path name : List ℕ) → name ≡ input_slot folder path → IsOfQueue (names_in folder) name → ⊥
input_or_queue folder path name is own = let e : of_inputs ≡ of_queue = sym (input_part folder path) ∙ ap (part_named folder) (sym is) ∙ queue_part folder name own in cc

pub input_or_letters : (folder path name : List ℕ) → name ≡ input_slot folder path → IsOfLetters folder name → ⊥
input_or_letters folder path name is own = let e : of_inputs ≡ of_letters = sym (input_part folder path) ∙ ap (part_named folder) (sym is) ∙ letters_part folder name own in cc

pub input_or_file : (folder path out name : List ℕ) → name ≡ input_slot folder path → IsOutside folder out → IsFileOf folder out name → ⊥
input_or_file folder path out name is outside own = elim (file_part folder out name outside own) [
  | inl b ↦ (let e : of_inputs ≡ of_outside = sym (input_part folder path) ∙ ap (part_named folder) (sym is) ∙ b in cc)
  | inr b ↦ (let e : of_inputs ≡ of_outputs = sym (input_part folder path) ∙ ap (part_named folder) (sym is) ∙ b in cc)
]

-- ---- tests of names

pub tests_letters : (folder name : List ℕ) → IsOfLetters folder name → IsTrue (belongs of_letters folder name)
tests_letters folder name own = ap (λ x. part_number x == part_number of_letters) (letters_part folder name own)

pub tests_input : (folder path name : List ℕ) → name ≡ input_slot folder path → IsTrue (belongs of_inputs folder name)
tests_input folder path name is = ap (λ x. part_number x == part_number of_inputs) (ap (part_named folder) is ∙ input_part folder path)

pub tests_file : (folder path name : List ℕ) → IsOutside folder path → IsFileOf folder path name → IsTrue (is_delivered_to folder name)
tests_file folder path name outside own = elim (file_part folder path name outside own) [
  | inl b ↦ ap (λ x. (part_number x == part_number of_outside) || (part_number x == part_number of_outputs)) b
  | inr b ↦ ap (λ x. (part_number x == part_number of_outside) || (part_number x == part_number of_outputs)) b
]

pub queue_not_letters : (folder name : List ℕ) → IsOfQueue (names_in folder) name → IsTrue (belongs of_letters folder name) → ⊥
queue_not_letters folder name own is = false≢true (sym (ap (λ x. part_number x == part_number of_letters) (queue_part folder name own)) ∙ is)

pub queue_not_input : (folder name : List ℕ) → IsOfQueue (names_in folder) name → IsTrue (belongs of_inputs folder name) → ⊥
queue_not_input folder name own is = false≢true (sym (ap (λ x. part_number x == part_number of_inputs) (queue_part folder name own)) ∙ is)

pub queue_not_file : (folder name : List ℕ) → IsOfQueue (names_in folder) name → IsTrue (is_delivered_to folder name) → ⊥
queue_not_file folder name own is =
    false≢true (sym (ap (λ x. (part_number x == part_number of_outside) || (part_number x == part_number of_outputs)) (queue_part folder name own)) ∙ is)
