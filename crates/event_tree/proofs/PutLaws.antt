-- What a put does to the length of the encoding, to depth and to what holds of each part, and that the growth tells where it has a way.
use Rattle.std.proofs.Common.{◌≡◌, ℕ, ◌+◌, ◌<◌, ◌≤◌, max, List, [], ◌∷◌, ◌++◌, length, true, Option, Some, None, option_map, refl, sym, ap, subst, ◌∙◌, arith, slice_get, slice_set}
use Rattle.plain_data.specs.Members.{get_member, set_member, insert_member}
use Rattle.event_tree.specs.Values.{Members, depth}
use Rattle.event_tree.specs.Sizes.{size}
use Rattle.event_tree.specs.Sound.{are_texts, sound}
use Rattle.event_tree.specs.Paths.{list_place, change_in, put, wrap, wrap_size}
use Rattle.event_tree.specs.Growth.{growth_in, growth}
use Rattle.event_tree.specs.Events.{IsObject}
use Rattle.event_tree.specs.declared.value.Value.{Value, out-Value, roll-Value, roll-out-Value}
use Rattle.event_tree.specs.declared.value.Value.TheOpen.{Value-F}
use Rattle.event_tree.specs.declared.value.Value.TheVariants as v
use Rattle.event_tree.proofs.Depths.{depth-List, depth-Object}
use Rattle.event_tree.proofs.DepthLemmas.{items_depth-get, items_depth-set, items_depth-push, members_depth-get, members_depth-set, members_depth-insert, depth-wrap}
use Rattle.event_tree.proofs.Sizes.{size-List, size-Object, items_size-set, items_size-push, members_size-set, members_size-insert, size-wrap}
use Rattle.event_tree.proofs.Sounds.{sound-List, items_sound-get, items_sound-set, items_sound-push, sound-get_member, sound-set_member, sound-insert_member, sound-wrap, first_text, other_texts}

-- a list is no object
pub list_no_object : {P : Type 0} (vs : List Value) (ms : Members) → v.List vs ≡ v.Object ms → P
list_no_object vs ms h = let e : Value-F.List vs ≡ Value-F.Object ms = sym (v.outs-List vs) ∙ ap out-Value h ∙ v.outs-Object ms in absurd cc

-- what there is after d was put into old, where the growth is m
pub record Grown (ps : List (List ℕ)) (d old new : Value) (m : ℕ × ℕ) : Type 0 where
  pub size_is : size new + m.0 ≡ size old + m.1 + size d
  pub deep : length ps + depth d ≤ depth new
  pub shallow : depth new ≤ max (depth old) (length ps + depth d)
  pub kept : are_texts ps ≡ true → sound d ≡ true → sound old ≡ true → sound new ≡ true
  pub object : 0 < length ps → IsObject old → IsObject new

pub data PutCases (ps : List (List ℕ)) (d old : Value) : Type 0 where
  refused : growth ps old ≡ None → put ps d old ≡ None → PutCases ps d old
  done : (m : ℕ × ℕ) (new : Value) → growth ps old ≡ Some m → put ps d old ≡ Some new → Grown ps d old new m → PutCases ps d old

-- the same of one level
data LevelCases (p : List ℕ) (ps : List (List ℕ)) (d : Value) (f : Value-F Value) : Type 0 where
  stuck : growth_in p (growth ps) (wrap_size ps) f ≡ None → change_in p (put ps d) (wrap ps d) f ≡ None → LevelCases p ps d f
  moved : (m : ℕ × ℕ) (new : Value) → growth_in p (growth ps) (wrap_size ps) f ≡ Some m → change_in p (put ps d) (wrap ps d) f ≡ Some new → Grown (p ∷ ps) d (roll-Value f) new m → LevelCases p ps d f

module _ (p : List ℕ) (ps : List (List ℕ)) (d : Value) where
  set_item : (vs : List Value) (i : ℕ) (x y : Value) (m : ℕ × ℕ) → slice_get vs i ≡ Some x → Grown ps d x y m → Grown (p ∷ ps) d (v.List vs) (v.List (slice_set vs i y)) m
  set_item vs i x y m g k = record {
    size_is = omega (arith, size-List vs, size-List (slice_set vs i y), items_size-set vs i x y g, k.size_is);
    deep = omega (arith, depth-List (slice_set vs i y), (items_depth-set vs i x y g).0, k.deep);
    shallow = omega (arith, depth-List vs, depth-List (slice_set vs i y), (items_depth-set vs i x y g).1, items_depth-get vs i x g, k.shallow);
    kept = λ t a b. sound-List (slice_set vs i y) ∙ items_sound-set vs i y (sym (sound-List vs) ∙ b) (k.kept (other_texts p ps t) a (items_sound-get vs i x (sym (sound-List vs) ∙ b) g));
    object = λ n o. list_no_object vs o.0 o.1;
  }

  push_item : (vs : List Value) → Grown (p ∷ ps) d (v.List vs) (v.List (vs ++ wrap ps d ∷ [])) (0, wrap_size ps)
  push_item vs = record {
    size_is = omega (arith, size-List vs, size-List (vs ++ wrap ps d ∷ []), items_size-push vs (wrap ps d), size-wrap ps d);
    deep = omega (arith, depth-List (vs ++ wrap ps d ∷ []), items_depth-push vs (wrap ps d), depth-wrap ps d);
    shallow = omega (arith, depth-List vs, depth-List (vs ++ wrap ps d ∷ []), items_depth-push vs (wrap ps d), depth-wrap ps d);
    kept = λ t a b. sound-List (vs ++ wrap ps d ∷ []) ∙ items_sound-push vs (wrap ps d) (sym (sound-List vs) ∙ b) (sound-wrap ps d (other_texts p ps t) a);
    object = λ n o. list_no_object vs o.0 o.1;
  }

  set_field : (ms : Members) (x y : Value) (m : ℕ × ℕ) → get_member p ms ≡ Some x → Grown ps d x y m → Grown (p ∷ ps) d (v.Object ms) (v.Object (set_member p y ms)) m
  set_field ms x y m g k = record {
    size_is = omega (arith, size-Object ms, size-Object (set_member p y ms), members_size-set p ms x y g, k.size_is);
    deep = omega (arith, depth-Object (set_member p y ms), (members_depth-set p ms x y g).0, k.deep);
    shallow = omega (arith, depth-Object ms, depth-Object (set_member p y ms), (members_depth-set p ms x y g).1, members_depth-get p ms x g, k.shallow);
    kept = λ t a b. sound-set_member p ms y b (k.kept (other_texts p ps t) a (sound-get_member p ms x b g));
    object = λ n o. (set_member p y ms, refl);
  }

  insert_field : (ms : Members) → get_member p ms ≡ None → Grown (p ∷ ps) d (v.Object ms) (v.Object (insert_member p (wrap ps d) ms)) (0, 4 + length p + wrap_size ps)
  insert_field ms g = record {
    size_is = omega (arith, size-Object ms, size-Object (insert_member p (wrap ps d) ms), members_size-insert p ms (wrap ps d) g, size-wrap ps d);
    deep = omega (arith, depth-Object (insert_member p (wrap ps d) ms), (members_depth-insert p ms (wrap ps d)).0, depth-wrap ps d);
    shallow = omega (arith, depth-Object ms, depth-Object (insert_member p (wrap ps d) ms), (members_depth-insert p ms (wrap ps d)).1, depth-wrap ps d);
    kept = λ t a b. sound-insert_member p ms (wrap ps d) (first_text p ps t) b (sound-wrap ps d (other_texts p ps t) a);
    object = λ n o. (insert_member p (wrap ps d) ms, refl);
  }

  module _ (inner : (x : Value) → PutCases ps d x) where
    in_item : (vs : List Value) (i : ℕ) (x : Value) → list_place p (length vs) ≡ Some i → slice_get vs i ≡ Some x → PutCases ps d x → LevelCases p ps d (Value-F.List vs)
    in_item vs i x e g (refused a b) = stuck (rw (e, g) a) (rw (e, g) (ap (option_map (λ y. v.List (slice_set vs i y))) b))
    in_item vs i x e g (done m y a b k) = moved m (v.List (slice_set vs i y)) (rw (e, g) a) (rw (e, g) (ap (option_map (λ y. v.List (slice_set vs i y))) b))
        (subst (λ o. Grown (p ∷ ps) d o (v.List (slice_set vs i y)) m) (sym (v.rolls-List vs)) (set_item vs i x y m g k))

    at_item : (vs : List Value) (i : ℕ) (o : Option Value) → list_place p (length vs) ≡ Some i → slice_get vs i ≡ o → LevelCases p ps d (Value-F.List vs)
    at_item vs i None e g = moved (0, wrap_size ps) (v.List (vs ++ wrap ps d ∷ [])) (rw (e, g) refl) (rw (e, g) refl)
        (subst (λ o. Grown (p ∷ ps) d o (v.List (vs ++ wrap ps d ∷ [])) (0, wrap_size ps)) (sym (v.rolls-List vs)) (push_item vs))
    at_item vs i (Some x) e g = in_item vs i x e g (inner x)

    at_place : (vs : List Value) (o : Option ℕ) → list_place p (length vs) ≡ o → LevelCases p ps d (Value-F.List vs)
    at_place vs None e = stuck (rw e refl) (rw e refl)
    at_place vs (Some i) e = at_item vs i (slice_get vs i) e refl

    in_field : (ms : Members) (x : Value) → get_member p ms ≡ Some x → PutCases ps d x → LevelCases p ps d (Value-F.Object ms)
    in_field ms x g (refused a b) = stuck (rw g a) (rw g (ap (option_map (λ y. v.Object (set_member p y ms))) b))
    in_field ms x g (done m y a b k) = moved m (v.Object (set_member p y ms)) (rw g a) (rw g (ap (option_map (λ y. v.Object (set_member p y ms))) b))
        (subst (λ o. Grown (p ∷ ps) d o (v.Object (set_member p y ms)) m) (sym (v.rolls-Object ms)) (set_field ms x y m g k))

    at_field : (ms : Members) (o : Option Value) → get_member p ms ≡ o → LevelCases p ps d (Value-F.Object ms)
    at_field ms None g = moved (0, 4 + length p + wrap_size ps) (v.Object (insert_member p (wrap ps d) ms)) (rw g refl) (rw g refl)
        (subst (λ o. Grown (p ∷ ps) d o (v.Object (insert_member p (wrap ps d) ms)) (0, 4 + length p + wrap_size ps)) (sym (v.rolls-Object ms)) (insert_field ms g))
    at_field ms (Some x) g = in_field ms x g (inner x)

    level : (f : Value-F Value) → LevelCases p ps d f
    level Value-F.Null = stuck refl refl
    level (Value-F.Bool b) = stuck refl refl
    level (Value-F.Num n) = stuck refl refl
    level (Value-F.Text s) = stuck refl refl
    level (Value-F.Time t) = stuck refl refl
    level (Value-F.List vs) = at_place vs (list_place p (length vs)) refl
    level (Value-F.Object ms) = at_field ms (get_member p ms) refl

  from_level : (old : Value) → LevelCases p ps d (out-Value old) → PutCases (p ∷ ps) d old
  from_level old (stuck a b) = refused a b
  from_level old (moved m new a b k) = done m new a b (subst (λ o. Grown (p ∷ ps) d o new m) (roll-out-Value old) k)

pub put_cases : (ps : List (List ℕ)) (d old : Value) → PutCases ps d old
put_cases [] d old = done (size old, 0) d refl refl (record {
  size_is = omega arith;
  deep = omega arith;
  shallow = omega arith;
  kept = λ t a b. a;
  object = λ n o. absurd (omega arith);
})
put_cases (p ∷ ps) d old = from_level p ps d old (level p ps d (λ x. put_cases ps d x) (out-Value old))
