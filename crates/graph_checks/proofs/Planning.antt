-- What a plan has, by what it was made of.
use Rattle.std.specs.Prelude.{if◌then◌else◌, nat_lt}
use Rattle.std.proofs.lemmas.Bool.{ltb-false}
use Rattle.std.proofs.lemmas.List.{length-append, length-map, length-replicate}
use Rattle.std.proofs.Math.ListN.{get_or-map}
use Rattle.std.proofs.Math.Nat.{mul_comm}
use Rattle.std.proofs.Common.{◌≡◌, ◌<◌, ℕ, zero, suc, ◌+◌, ◌*◌, List, [], ◌∷◌, length, map, replicate, get_or, refl, sym, ap, ap₂, subst, ◌∙◌, arith, All, Bool, true, false, Option, Some, None, option_map, slice_get, Ok, Err}
use Rattle.event_tree.specs.Paths.{over}
use Rattle.config_tree.specs.declared.tree.Config.{Config}
use Rattle.config_tree.specs.declared.tree.Plugin.{Plugin}
use Rattle.event_flow.specs.Ids as ids
use Rattle.event_flow.specs.Laying.{IsTableOf}
use Rattle.event_flow.specs.Parts.{parts_of}
use Rattle.event_flow.specs.Places.{Draws}
use Rattle.filter_settings.specs.Settings.{Made, next, with_made}
use Rattle.foreign_parts.specs.declared.boxes.BoxKind.TheVariants as kind
use Rattle.built_plugins.specs.Conditions.{compiled}
use Rattle.plugin_graph.specs.Counts.{patterns_in}
use Rattle.built_plugins.specs.Each.{each_made}
use Rattle.plugin_graph.specs.Graphs.{built_in, contents_of}
use Rattle.plugin_graph.specs.Kits.{table_of}
use Rattle.built_plugins.specs.Makes.{boxed_of, boxed_unless, built_of, filter_of, is_boxed, makes}
use Rattle.plugin_graph.specs.Loads.{Contents, contents, conditions_of, loaded}
use Rattle.built_plugins.specs.Numbering.{outputs_of}
use Rattle.built_plugins.specs.declared.boxed.BoxedFilter.{BoxedFilter}
use Rattle.built_plugins.specs.declared.built.BuiltFilter.{BuiltFilter}
use Rattle.built_plugins.specs.declared.condition.NamedCondition.{NamedCondition}
use Rattle.built_plugins.specs.declared.filter.Filter.{Filter}
use Rattle.built_plugins.specs.declared.filter.Filter.TheVariants as f
use Rattle.plugin_graph.specs.declared.kit.Kit.{Kit}
use Rattle.built_plugins.proofs.Making.{Fails, in_front, is_same}
use Rattle.graph_checks.specs.BuiltIn.{built_in as built_in_of, no_path}
use Rattle.graph_checks.specs.Filling.{one_if, wanted, wanted_at}
use Rattle.graph_checks.specs.Plans.{IsKitOf, most, width}
use Rattle.graph_checks.specs.Plugins.{section_name}
use Rattle.graph_checks.specs.Readings.{IsRead}
use Rattle.graph_checks.specs.Wants.{so_often, want_of, wants_from, wants_of}
use Rattle.graph_checks.specs.declared.want.Want.{Want}
use Rattle.graph_checks.proofs.Loadings.{loads_read}

-- so many of these filters are boxed ones
abbrev boxed : List Filter → ℕ
boxed [] = 0
boxed (x ∷ xs) = one_if (is_boxed x) + boxed xs

-- a filter that is read is wanted as a box where it is a boxed one
filter_wants : (id : List ℕ) (p : Plugin) (x : Filter) → filter_of p ≡ Ok x → length (want_of id p.name (built_in_of kind.Filter p.name p.settings.list)) ≡ one_if (is_boxed x)
filter_wants id p x said = by (built_of p.name p.settings.list) said
  where
    boxed_case : (m : Made BoxedFilter) → with_made f.Boxed m ≡ Ok x → one_if true ≡ one_if (is_boxed x)
    boxed_case (Ok b) is = ap (λ y. one_if (is_boxed y)) (is_same (f.Boxed b) x is)
    boxed_case (Err e) is = absurd (subst Fails is tt)

    by : (m : Made (Option BuiltFilter)) → next (boxed_unless p.settings.list) m ≡ Ok x → length (want_of id p.name (with_made (option_map (λ (b : BuiltFilter). no_path)) m)) ≡ one_if (is_boxed x)
    by (Ok (Some b)) is = ap (λ y. one_if (is_boxed y)) (is_same (f.Built b) x is)
    by (Ok None) is = boxed_case (boxed_of p.settings.list) is
    by (Err e) is = absurd (subst Fails is tt)

wants_count : (k : ℕ) (ps : List Plugin) (fs : List Filter) → each_made filter_of ps ≡ Ok fs → length (wants_from kind.Filter k ps) ≡ boxed fs
wants_count k [] fs is = ap boxed (is_same [] fs is)
wants_count k (p ∷ ps) fs is =
    let m = in_front filter_of p ps fs is in
    let id = ids.plugin_id (section_name kind.Filter) k p in
    length-append (want_of id p.name (built_in_of kind.Filter p.name p.settings.list)) (wants_from kind.Filter (k + 1) ps)
    ∙ ap₂ (λ a b. a + b) (filter_wants id p m.one m.is_one) (wants_count (k + 1) ps m.others m.are_others) ∙ ap boxed (sym m.whole)

so_many : (n : ℕ) (ws : List Want) → length (so_often n ws) ≡ length ws * n
so_many n [] = omega arith
so_many n (w ∷ ws) = omega (arith, length-append (replicate n w) (so_often n ws), length-replicate n w, so_many n ws)

-- boxed ones among the first so many filters
abbrev below : ℕ → List Filter → ℕ
below zero fs = 0
below (suc n) fs = below n fs + one_if (over is_boxed false (slice_get fs n))

below_more : (n : ℕ) (x : Filter) (xs : List Filter) → below (suc n) (x ∷ xs) ≡ one_if (is_boxed x) + below n xs
below_more zero x xs = omega arith
below_more (suc n) x xs = omega (arith, below_more n x xs)

below_all : (fs : List Filter) → below (length fs) fs ≡ boxed fs
below_all [] = refl
below_all (x ∷ xs) = below_more (length xs) x xs ∙ ap (λ n. one_if (is_boxed x) + n) (below_all xs)

-- as many kits, each with the same contents
module _ (c : Contents) where
  at_all : (w k : ℕ) → wanted_at k (replicate w c) ≡ w * one_if (over is_boxed false (slice_get c.filters k))
  at_all zero k = omega arith
  at_all (suc w) k = omega (arith, at_all w k)

  wanted_all : (w n : ℕ) → wanted n (replicate w c) ≡ below n c.filters * w
  wanted_all w zero = omega arith
  wanted_all w (suc n) =
      let b = one_if (over is_boxed false (slice_get c.filters n)) in
      ap₂ (λ x y. x + y) (wanted_all w n) (at_all w n ∙ mul_comm w b) ∙ spread (below n c.filters) b
    where
      spread : (x y : ℕ) → x * w + y * w ≡ (x + y) * w
      spread x y = omega arith

  most_same : (w : ℕ) → most (length c.filters) (replicate w c) ≡ length c.filters
  most_same zero = refl
  most_same (suc w) = ap (λ n. most n (replicate w c)) (either (nat_lt (length c.filters) (length c.filters)) (length c.filters)) ∙ most_same w
    where
      either : (b : Bool) (n : ℕ) → (if b then n else n) ≡ n
      either true n = refl
      either false n = refl

  width_is : (w : ℕ) → width (replicate (suc w) c) ≡ length c.filters
  width_is w = ap (λ n. most n (replicate w c)) (first (length c.filters)) ∙ most_same w
    where
      first : (n : ℕ) → (if nat_lt 0 n then n else 0) ≡ n
      first n = by (nat_lt 0 n) refl
        where
          by : (b : Bool) → nat_lt 0 n ≡ b → (if b then n else 0) ≡ n
          by true is = refl
          by false is = omega (arith, ltb-false 0 n is)

  wanted_by_all : (w : ℕ) → wanted (width (replicate w c)) (replicate w c) ≡ boxed c.filters * w
  wanted_by_all zero = omega arith
  wanted_by_all (suc w) = ap (λ n. wanted n (replicate (suc w) c)) (width_is w) ∙ wanted_all (suc w) (length c.filters) ∙ ap (λ n. n * suc w) (below_all c.filters)

abbrev or_else : Contents → Made Contents → Contents
or_else d (Ok c) = c
or_else d (Err e) = d

module _ (draws : Draws) (config : Config) where
  -- its filters are those that were read
  filters_read : (c : Contents) → loaded draws config ≡ Ok c → each_made filter_of (parts_of config.filters).plugins ≡ Ok c.filters
  unfolding loaded
  filters_read c loads = by (each_made filter_of (parts_of config.filters).plugins) (each_made compiled (conditions_of config)) loads
    where
      by : (m : Made (List Filter)) (n : Made (List NamedCondition)) → next (λ fs. with_made (λ cs. contents (outputs_of draws (parts_of config.outputs).plugins) fs cs) n) m ≡ Ok c → m ≡ Ok c.filters
      by (Ok fs) (Ok cs) is = ap (λ x. Ok x.filters) (is_same (contents (outputs_of draws (parts_of config.outputs).plugins) fs cs) c is)
      by (Ok fs) (Err e) is = absurd (subst Fails is tt)
      by (Err e) n is = absurd (subst Fails is tt)

  module _ {X : Type 0} where
    alike : (c : Contents) → loaded draws config ≡ Ok c → (kits : List (Kit X)) → All (IsKitOf draws config) kits → map contents_of kits ≡ replicate (length kits) c
    alike c loads [] all = refl
    alike c loads (kit ∷ kits) all =
        let first = all 0 kit (omega arith) in
        ap₂ (λ x xs. x ∷ xs) (is_same (contents_of kit) c (sym first.loaded ∙ loads)) (alike c loads kits (λ k d less. all (suc k) d (omega (arith, less))))

    -- as many boxes are wanted by the kits as there are
    pub enough : (workers boxes : ℕ) (ws : List Want) (kits : List (Kit X)) → IsRead config → All (IsKitOf draws config) kits → length kits ≡ workers → boxes ≡ length (so_often workers ws)
        → ws ≡ wants_of kind.Filter (parts_of config.filters).plugins → boxes ≡ wanted (width (map contents_of kits)) (map contents_of kits)
    enough workers boxes ws kits read all many are wants =
        let (c, loads) = loads_read draws config read in
        let same : map contents_of kits ≡ replicate workers c = alike c loads kits all ∙ ap (λ n. replicate n c) many in
        let some : length ws ≡ boxed c.filters = ap length wants ∙ wants_count 1 (parts_of config.filters).plugins c.filters (filters_read c loads) in
        are ∙ so_many workers ws ∙ ap (λ n. n * workers) some ∙ sym (wanted_by_all c workers) ∙ ap (λ cs. wanted (width cs) cs) (sym same)

    -- kits of which the boxes alone were changed
    pub still_kits : (kits news : List (Kit X)) → map contents_of news ≡ map contents_of kits → map built_in news ≡ map built_in kits → All (IsKitOf draws config) kits → All (IsKitOf draws config) news
    still_kits kits news same built all k d less =
        let size : length news ≡ length kits = sym (length-map news contents_of) ∙ ap length same ∙ length-map kits contents_of in
        let was = all k d (subst (λ n. k < n) size less) in
        let at : contents_of (get_or news k d) ≡ contents_of (get_or kits k d) = sym (get_or-map contents_of news k d) ∙ ap (λ cs. get_or cs k (contents_of d)) same ∙ get_or-map contents_of kits k d in
        let counts : built_in (get_or news k d) ≡ built_in (get_or kits k d) = sym (get_or-map built_in news k d) ∙ ap (λ ns. get_or ns k (built_in d)) built ∙ get_or-map built_in kits k d in
        record {
          loaded = was.loaded ∙ ap Ok (sym at);
          table = subst (λ c. IsTableOf makes config draws (table_of c)) (sym at) was.table;
          built = counts ∙ was.built ∙ ap patterns_in (sym at);
        }
