-- Steps that are laid for parts, for statements in a row and for the arms of a branch.
use Rattle.std.proofs.lemmas.List.{drop_more}
use Rattle.std.proofs.lemmas.Grind.{common_steps}
use Rattle.std.proofs.Common.{Result, Ok, Err, IfOk, map, drop, get_or, ◌<◌, ◌≤◌, ◌≡◌, ℕ, suc, ◌+◌, List, [], ◌∷◌, ◌++◌, length, refl, sym, ap, subst, ◌∙◌, arith, append-nil, append_assoc, length-append, Option, Some, None}
use Rattle.config_tree.specs.declared.tree.Arm.{Arm}
use Rattle.config_tree.specs.declared.tree.Condition.{Condition}
use Rattle.config_tree.specs.declared.tree.Plugin.{Plugin}
use Rattle.config_tree.specs.declared.tree.Statement.{Statement}
use Rattle.config_tree.specs.declared.tree.Statement.TheVariants as statement
use Rattle.event_flow.specs.Flows.{Goes, led}
use Rattle.event_flow.specs.Laying.{HasPlugins, HasConditions, Lays, IsLaid, number_of, count, behind_block, closing, with_block, assembled}
use Rattle.event_flow.specs.Parts.{Section, Part, empty, one_plugin, follow, arm_if, arm_else, arm, branch, part_of, arm_of, parts_of}
use Rattle.event_flow.specs.Steps.{Table, Mean}
use Rattle.event_flow.specs.declared.block.Block.{Block}
use Rattle.event_flow.specs.declared.block.Flattened.{Flattened}
use Rattle.event_flow.specs.declared.step.FlowStep.{FlowStep}
use Rattle.event_flow.specs.declared.step.FlowStep.TheVariants as s
use Rattle.event_flow.proofs.StepMeaning.{mean_nothing, mean_plugin, mean_behind, mean_block, mean_last}
use Rattle.event_flow.proofs.Statements.{part_of-Plugin, part_of-Branch, arm_of-is}

plus_none : (n : ℕ) → n + 0 ≡ n
plus_none n = omega arith

plus_more : (n m : ℕ) → n + 1 + m ≡ n + suc m
plus_more n m = omega arith

plugins_apart : (section : Section) (table : Table) (n k : ℕ) (ps qs : List Plugin) → HasPlugins section table n k (ps ++ qs) → HasPlugins section table n k ps × HasPlugins section table (n + length ps) (k + length ps) qs
plugins_apart section table n k [] qs all = (tt, subst (λ m. HasPlugins section table m (k + 0) qs) (sym (plus_none n)) (subst (λ m. HasPlugins section table n m qs) (sym (plus_none k)) all))
plugins_apart section table n k (p ∷ ps) qs all =
    let rest = plugins_apart section table (n + 1) (k + 1) ps qs all.1 in
    ((all.0, rest.0), subst (λ m. HasPlugins section table m (k + suc (length ps)) qs) (plus_more n (length ps)) (subst (λ m. HasPlugins section table (n + 1 + length ps) m qs) (plus_more k (length ps)) rest.1))

conditions_apart : (section : Section) (table : Table) (t u : ℕ) (cs ds : List Condition) → HasConditions section table t u (cs ++ ds) → HasConditions section table t u cs × HasConditions section table (t + length cs) (u + length cs) ds
conditions_apart section table t u [] ds all = (tt, subst (λ m. HasConditions section table m (u + 0) ds) (sym (plus_none t)) (subst (λ m. HasConditions section table t m ds) (sym (plus_none u)) all))
conditions_apart section table t u (c ∷ cs) ds all =
    let rest = conditions_apart section table (t + 1) (u + 1) cs ds all.2 in
    ((all.0, all.1, rest.0), subst (λ m. HasConditions section table m (u + suc (length cs)) ds) (plus_more t (length cs)) (subst (λ m. HasConditions section table (t + 1 + length cs) m ds) (plus_more u (length cs)) rest.1))

pub lays_empty : (n t : ℕ) → Lays empty n t [] n t
lays_empty n t = record { plugins = sym (plus_none n); conditions = sym (plus_none t); means = λ section table k u plugins conditions. mean_nothing table }

lays_plugin : (p : Plugin) (n t : ℕ) → Lays (one_plugin p) n t (s.Plugin n ∷ []) (n + 1) t
lays_plugin p n t = record {
  plugins = refl;
  conditions = sym (plus_none t);
  means = λ section table k u plugins conditions. subst (λ (f : Goes → Goes). Mean table (s.Plugin n ∷ []) f) (λ i goes e. plugins.0 goes e i) (mean_plugin table n);
}

-- what is laid behind a part means what it does there
behind_part : (q : Part) (n t n' t' a b : ℕ) (ts : List FlowStep) (n'' t'' : ℕ) → n' ≡ n + a → t' ≡ t + b → Lays q n' t' ts n'' t'' → (section : Section) (table : Table) (k u : ℕ) → HasPlugins section table (n + a) (k + a) q.plugins → HasConditions section table (t + b) (u + b) q.conditions → Mean table ts (q.flow section (k + a) (u + b))
behind_part q n t n' t' a b ts n'' t'' plugins conditions lays section table k u has tests =
    lays.means section table (k + a) (u + b) (subst (λ m. HasPlugins section table m (k + a) q.plugins) (sym plugins) has) (subst (λ m. HasConditions section table m (u + b) q.conditions) (sym conditions) tests)

lays_follow : (p q : Part) (n t n' t' n'' t'' : ℕ) (ss ts : List FlowStep) → Lays p n t ss n' t' → Lays q n' t' ts n'' t'' → Lays (follow p q) n t (ss ++ ts) n'' t''
lays_follow p q n t n' t' n'' t'' ss ts first second = record {
  plugins = second.plugins ∙ ap (λ m. m + length q.plugins) first.plugins ∙ omega (arith, length-append p.plugins q.plugins);
  conditions = second.conditions ∙ ap (λ m. m + length q.conditions) first.conditions ∙ omega (arith, length-append p.conditions q.conditions);
  means = λ section table k u plugins conditions.
      let ps = plugins_apart section table n k p.plugins q.plugins plugins in
      let cs = conditions_apart section table t u p.conditions q.conditions conditions in
      mean_behind table ss ts (p.flow section k u) (q.flow section (k + length p.plugins) (u + length p.conditions)) (first.means section table k u ps.0 cs.0)
      (behind_part q n t n' t' (length p.plugins) (length p.conditions) ts n'' t'' first.plugins first.conditions second section table k u ps.1 cs.1);
}

lays_if : (c : Condition) (p q : Part) (n t n' t' n'' t'' : ℕ) (ss ts : List FlowStep) → Lays p n (t + 1) ss n' t' → Lays q n' t' ts n'' t'' → Lays (arm_if c p q) n t (s.Test t (behind_block (length ss) ts) ∷ ss ++ closing ts) n'' t''
lays_if c p q n t n' t' n'' t'' ss ts first second = record {
  plugins = second.plugins ∙ ap (λ m. m + length q.plugins) first.plugins ∙ omega (arith, length-append p.plugins q.plugins);
  conditions = second.conditions ∙ ap (λ m. m + length q.conditions) first.conditions ∙ omega (arith, length-append p.conditions q.conditions);
  means = λ section table k u plugins conditions.
      let ps = plugins_apart section table n k p.plugins q.plugins plugins in
      let cs = conditions_apart section table (t + 1) (u + 1) p.conditions q.conditions conditions.2 in
      let there : Mean table ts (q.flow section (k + length p.plugins) (u + 1 + length p.conditions))
      = behind_part q n (t + 1) n' t' (length p.plugins) (length p.conditions) ts n'' t'' first.plugins first.conditions second section table k (u + 1) ps.1 cs.1 in
      subst (λ (f : Goes → Goes). Mean table (s.Test t (behind_block (length ss) ts) ∷ ss ++ closing ts) f)
      (λ i goes e. led (conditions.1 i) (conditions.0 e i) (p.flow section k (u + 1) goes) (q.flow section (k + length p.plugins) (u + 1 + length p.conditions) goes) e)
      (mean_block table t ss ts (p.flow section k (u + 1)) (q.flow section (k + length p.plugins) (u + 1 + length p.conditions)) (first.means section table k (u + 1) ps.0 cs.0) there);
}

lays_else : (p q : Part) (n t n' t' n'' t'' : ℕ) (ss ts : List FlowStep) → Lays p n t ss n' t' → Lays q n' t' ts n'' t'' → Lays (arm_else p q) n t (ss ++ closing ts) n'' t''
lays_else p q n t n' t' n'' t'' ss ts first second = record {
  plugins = second.plugins ∙ ap (λ m. m + length q.plugins) first.plugins ∙ omega (arith, length-append p.plugins q.plugins);
  conditions = second.conditions ∙ ap (λ m. m + length q.conditions) first.conditions ∙ omega (arith, length-append p.conditions q.conditions);
  means = λ section table k u plugins conditions.
      mean_last table ss ts (p.flow section k u) (first.means section table k u (plugins_apart section table n k p.plugins q.plugins plugins).0 (conditions_apart section table t u p.conditions q.conditions conditions).0);
}

lays_block : (condition : Option Condition) (p q : Part) (n t n' t' n'' t'' : ℕ) (b : Block) (ts : List FlowStep) → b.condition ≡ number_of condition t → Lays p n (t + count (number_of condition t)) b.steps n' t' → Lays q n' t' ts n'' t'' → Lays (arm condition p q) n t (with_block b ts) n'' t''
lays_block None p q n t n' t' n'' t'' b ts number first second =
    let e : b.steps ++ closing ts ≡ with_block b ts = sym (rw number refl) in
    subst (λ xs. Lays (arm_else p q) n t xs n'' t'') e (lays_else p q n t n' t' n'' t'' b.steps ts (subst (λ m. Lays p n m b.steps n' t') (plus_none t) first) second)
lays_block (Some c) p q n t n' t' n'' t'' b ts number first second =
    let e : s.Test t (behind_block (length b.steps) ts) ∷ b.steps ++ closing ts ≡ with_block b ts = sym (rw number refl) in
    subst (λ xs. Lays (arm_if c p q) n t xs n'' t'') e (lays_if c p q n t n' t' n'' t'' b.steps ts first second)

-- what is laid so far, in front of what is left
pub record LaidSoFar (whole rest : Part) (n t n' t' : ℕ) (ss : List FlowStep) : Type 0 where
  pub goes_on : (n'' t'' : ℕ) (ts : List FlowStep) → Lays rest n' t' ts n'' t'' → Lays whole n t (ss ++ ts) n'' t''

pub laid_next : (whole : Part) (xs : List Statement) (i : ℕ) (x : Statement) (n t n' t' n'' t'' m u : ℕ) (ss ts out : List FlowStep) → i < length xs → x ≡ get_or xs i x → LaidSoFar whole (parts_of (drop i xs)) n t n' t' ss → Lays (part_of x) n' t' ts n'' t'' → out ≡ ss ++ ts → m ≡ n'' → u ≡ t'' → LaidSoFar whole (parts_of (drop (i + 1) xs)) n t m u out
laid_next whole xs i x n t n' t' n'' t'' m u ss ts out below is so_far lays steps plugins conditions =
    let rest = parts_of (drop (i + 1) xs) in
    let front : drop i xs ≡ x ∷ drop (i + 1) xs = drop_more xs i x below ∙ ap (λ y. y ∷ drop (i + 1) xs) (sym is) in
    let here = subst (λ ys. LaidSoFar whole (parts_of ys) n t n' t' ss) front so_far in
    let behind : LaidSoFar whole rest n t n'' t'' (ss ++ ts)
    = record { goes_on = λ n3 t3 us laid. subst (λ ys. Lays whole n t ys n3 t3) (sym (append_assoc ss ts us)) (here.goes_on n3 t3 (ts ++ us) (lays_follow (part_of x) rest n' t' n'' t'' n3 t3 ts us lays laid)) } in
    subst (λ o. LaidSoFar whole rest n t m u o) (sym steps) (subst (λ k. LaidSoFar whole rest n t k u (ss ++ ts)) (sym plugins) (subst (λ k. LaidSoFar whole rest n t n'' k (ss ++ ts)) (sym conditions) behind))

pub laid_end : (whole : Part) (xs : List Statement) (i : ℕ) (n t n' t' : ℕ) (ss : List FlowStep) → length xs ≤ i → LaidSoFar whole (parts_of (drop i xs)) n t n' t' ss → Lays whole n t ss n' t'
laid_end whole xs i n t n' t' ss end so_far =
    let none : drop i xs ≡ [] = grind (arith, common_steps) in
    let all = subst (λ ys. LaidSoFar whole (parts_of ys) n t n' t' ss) none so_far in
    subst (λ us. Lays whole n t us n' t') (append-nil ss) (all.goes_on n' t' [] (lays_empty n' t'))

-- the arms so far, in front of those that are left
pub record ArmsSoFar (whole rest : Part) (n t n' t' : ℕ) (blocks : List Block) : Type 0 where
  pub goes_on : (n'' t'' : ℕ) (more : List Block) → Lays rest n' t' (assembled more []) n'' t'' → Lays whole n t (assembled (blocks ++ more) []) n'' t''

pub arms_next : (whole : Part) (xs : List Arm) (i : ℕ) (x : Arm) (ys : List Statement) (n t n' t' n'' t'' inner : ℕ) (blocks out : List Block) (b : Block) → i < length xs → x ≡ get_or xs i x → ys ≡ x.block → ArmsSoFar whole (branch (map arm_of (drop i xs))) n t n' t' blocks → b.condition ≡ number_of x.condition t' → inner ≡ t' + count b.condition → Lays (parts_of ys) n' inner b.steps n'' t'' → out ≡ blocks ++ b ∷ [] → ArmsSoFar whole (branch (map arm_of (drop (i + 1) xs))) n t n'' t'' out
arms_next whole xs i x ys n t n' t' n'' t'' inner blocks out b below is block so_far number counted lays pushed =
    let rest = branch (map arm_of (drop (i + 1) xs)) in
    let front : drop i xs ≡ x ∷ drop (i + 1) xs = drop_more xs i x below ∙ ap (λ y. y ∷ drop (i + 1) xs) (sym is) in
    let here : ArmsSoFar whole (arm x.condition (parts_of x.block) rest) n t n' t' blocks
    = subst (λ p. ArmsSoFar whole p n t n' t' blocks) (arm_of-is x rest) (subst (λ zs. ArmsSoFar whole (branch (map arm_of zs)) n t n' t' blocks) front so_far) in
    let laid : Lays (parts_of x.block) n' (t' + count (number_of x.condition t')) b.steps n'' t''
    = subst (λ zs. Lays (parts_of zs) n' (t' + count (number_of x.condition t')) b.steps n'' t'') block (subst (λ k. Lays (parts_of ys) n' k b.steps n'' t'') (counted ∙ ap (λ o. t' + count o) number) lays) in
    subst (λ bs. ArmsSoFar whole rest n t n'' t'' bs) (sym pushed) (record {
      goes_on = λ n3 t3 more others. subst (λ bs. Lays whole n t (assembled bs []) n3 t3) (sym (append_assoc blocks (b ∷ []) more))
          (here.goes_on n3 t3 (b ∷ more) (lays_block x.condition (parts_of x.block) rest n' t' n'' t'' n3 t3 b (assembled more []) number laid others));
    })

pub arms_end : (whole : Part) (xs : List Arm) (i : ℕ) (n t n' t' : ℕ) (blocks : List Block) (ss : List FlowStep) → length xs ≤ i → ss ≡ assembled blocks [] → ArmsSoFar whole (branch (map arm_of (drop i xs))) n t n' t' blocks → Lays whole n t ss n' t'
arms_end whole xs i n t n' t' blocks ss end steps so_far =
    let none : drop i xs ≡ [] = grind (arith, common_steps) in
    let all = subst (λ ys. ArmsSoFar whole (branch (map arm_of ys)) n t n' t' blocks) none so_far in
    subst (λ o. Lays whole n t o n' t') (ap (λ bs. assembled bs []) (append-nil blocks) ∙ sym steps) (all.goes_on n' t' [] (lays_empty n' t'))

pub laid_plugin : {F : Type 0} (r : Result Flattened F) (x : Statement) (p : Plugin) (n t : ℕ) → x ≡ statement.Plugin p → IfOk r (λ laid. (laid.steps ≡ s.Plugin n ∷ []) × (laid.plugin ≡ n + 1) × (laid.condition ≡ t)) → IfOk r (IsLaid (part_of x) n t)
laid_plugin (Ok laid) x p n t is h =
    let part : one_plugin p ≡ part_of x = sym (ap part_of is ∙ part_of-Plugin p) in
    subst (λ q. Lays q n t laid.steps laid.plugin laid.condition) part
    (subst (λ ss. Lays (one_plugin p) n t ss laid.plugin laid.condition) (sym h.0) (subst (λ m. Lays (one_plugin p) n t (s.Plugin n ∷ []) m laid.condition) (sym h.1) (subst (λ m. Lays (one_plugin p) n t (s.Plugin n ∷ []) (n + 1) m) (sym h.2) (lays_plugin p n t))))
laid_plugin (Err f) x p n t is h = tt

pub laid_branch : {F : Type 0} (r : Result Flattened F) (x : Statement) (arms ys : List Arm) (n t : ℕ) → x ≡ statement.Branch arms → ys ≡ arms → IfOk r (IsLaid (branch (map arm_of ys)) n t) → IfOk r (IsLaid (part_of x) n t)
laid_branch r x arms ys n t is same h = subst (λ p. IfOk r (IsLaid p n t)) (sym (ap part_of is ∙ part_of-Branch arms ∙ ap (λ zs. branch (map arm_of zs)) (sym same))) h
