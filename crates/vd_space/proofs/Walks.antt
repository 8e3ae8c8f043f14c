-- The steps of the walk that reads a problem off a program.
use Rattle.std.proofs.Common.{◌≡◌, ℕ, suc, ◌+◌, ◌*◌, ◌<◌, ◌≤◌, Ok, Err, List, [], ◌∷◌, ◌++◌, length, get_or, drop, map, refl, sym, ap, ◌∙◌, subst, arith, rules, append_assoc, append-nil, add-one, drop-cons}
use Rattle.std.specs.Prelude.{Result, OnOk, ⊤, sum}
use Rattle.std.specs.List.{sum_by}
use Rattle.std.proofs.lemmas.List.{drop_all}
use Rattle.std.proofs.lemmas.List.Sums.{sum-map, sum_by-cons, get_or-le-sum_by}
use Rattle.std.proofs.lemmas.Grind.{flat_map-append}
use Rattle.vd_base.specs.declared.ids.SlotId.{SlotId}
use Rattle.vd_base.specs.declared.ids.HostId.{HostId}
use Rattle.vd_core.specs.declared.normal.Stmt.{Stmt, roll-Stmt, map-Stmt, ind-Stmt}
use Rattle.vd_core.specs.declared.normal.Stmt.TheVariants.{If, For}
use Rattle.vd_core.specs.declared.normal.Stmt.TheOpen.{Stmt-F}
use Rattle.vd_core.specs.declared.normal.Stmt.TheFolds.{the_lemmas, fold-roll-Stmt}
use Rattle.vd_core.specs.Facts.{Weighing, weigh_all, weigh_step, weighing}
use Rattle.vd_constraints.specs.declared.labels.Labels.{Labels}
use Rattle.vd_space.specs.declared.problem.Problem.{Problem}
use Rattle.vd_space.specs.declared.problem.Guard.{Guard}
use Rattle.vd_space.specs.Reading.{Parts, Read, no_parts, joined, all_parts, all_named, all_told, guard_of, read_step, read_stmt}
use Rattle.vd_space.specs.Steps.{with_parts, with_block, with_branch, with_stmt}

pub on_ok : {E : Type 0} {P Q : Type 0} (r : Result ⊤ E) → (P → Q) → OnOk r P → OnOk r Q
on_ok (Ok x) leads holds = leads holds
on_ok (Err e) leads holds = tt

at_item : (body : List Stmt) (i : ℕ) (s : Stmt) → i < length body → s ≡ get_or body i s → drop i body ≡ s ∷ drop (i + 1) body
at_item body i s low is = rw (add-one i) (drop-cons body i s low ∙ ap (λ x. x ∷ drop (suc i) body) (sym is))

module _ (l : Labels) where
  read_if : (y : SlotId) (a b : List Stmt) (offset : ℕ) → read_stmt l (If y a b offset) ≡ read_step l (Stmt-F.If y (map (read_stmt l) a) (map (read_stmt l) b) offset)
  read_if y a b offset = search (rules, the_lemmas)

  read_for : (count : ℕ) (body : List Stmt) → read_stmt l (For count body) ≡ read_step l (Stmt-F.For count (map (read_stmt l) body))
  read_for count body = search (rules, the_lemmas)

  -- ---- what a guard's branches name and tell

  guard_grows : (guard : Guard) (slots more : List SlotId) (hosts others : List HostId)
      → record guard { slots = (guard.slots ++ slots) ++ more; hosts = (guard.hosts ++ hosts) ++ others } ≡ record guard { slots = guard.slots ++ (slots ++ more); hosts = guard.hosts ++ (hosts ++ others) }
  guard_grows guard slots more hosts others = λ i. record guard { slots = append_assoc guard.slots slots more i; hosts = append_assoc guard.hosts hosts others i }

  pub branch_next : (guard after : Guard) (body : List Stmt) (i : ℕ) (s : Stmt) → i < length body → s ≡ get_or body i s → after ≡ with_stmt guard l s → with_branch after l (drop (i + 1) body) ≡ with_branch guard l (drop i body)
  branch_next guard after body i s low is step =
      let read = read_stmt l s in
      let rest = map (read_stmt l) (drop (i + 1) body) in
      ap (λ g. with_branch g l (drop (i + 1) body)) step ∙ guard_grows guard read.named (all_named rest) read.told (all_told rest) ∙ ap (with_branch guard l) (sym (at_item body i s low is))

  pub branch_done : (guard : Guard) (body : List Stmt) (i : ℕ) → length body ≤ i → with_branch guard l (drop i body) ≡ guard
  branch_done guard body i high = ap (with_branch guard l) (drop_all i body high) ∙ (λ i. record guard { slots = append-nil guard.slots i; hosts = append-nil guard.hosts i })

  pub name_if : (guard second third : Guard) (slots : List SlotId) (y : SlotId) (a b a_ b_ : List Stmt) (offset : ℕ) (stmt : Stmt) → stmt ≡ If y a b offset → a_ ≡ a → b_ ≡ b → slots ≡ guard.slots ++ y ∷ []
      → second ≡ with_branch (record guard { slots = slots }) l a_ → third ≡ with_branch second l b_ → third ≡ with_stmt guard l stmt
  name_if guard second third slots y a b a_ b_ offset stmt is same_a same_b pushed first last =
      let ra = map (read_stmt l) a in
      let rb = map (read_stmt l) b in
      last ∙ (λ i. with_branch (first i) l (same_b i)) ∙ (λ i. with_branch (with_branch (record guard { slots = pushed i }) l (same_a i)) l b)
      ∙ guard_grows (record guard { slots = guard.slots ++ y ∷ [] }) (all_named ra) (all_named rb) (all_told ra) (all_told rb)
      ∙ (λ i. record guard { slots = append_assoc guard.slots (y ∷ []) (all_named ra ++ all_named rb) i; hosts = guard.hosts ++ (all_told ra ++ all_told rb) })
      ∙ ap (λ (read : Read). record guard { slots = guard.slots ++ read.named; hosts = guard.hosts ++ read.told }) (sym (read_if y a b offset))
      ∙ ap (with_stmt guard l) (sym is)

  pub name_for : (guard after : Guard) (count : ℕ) (body body_ : List Stmt) (stmt : Stmt) → stmt ≡ For count body → body_ ≡ body → after ≡ with_branch guard l body_ → after ≡ with_stmt guard l stmt
  name_for guard after count body body_ stmt is same step =
      step ∙ ap (with_branch guard l) same ∙ ap (λ (read : Read). record guard { slots = guard.slots ++ read.named; hosts = guard.hosts ++ read.told }) (sym (read_for count body)) ∙ ap (with_stmt guard l) (sym is)

  -- ---- what statements bring

  parts_grow : (problem : Problem) (one more : Parts) → with_parts (with_parts problem one) more ≡ with_parts problem (joined one more)
  parts_grow problem one more = λ i. record problem {
    slots = append_assoc problem.slots one.slots more.slots i;
    uses = append_assoc problem.uses one.uses more.uses i;
    outputs = append_assoc problem.outputs one.outputs more.outputs i;
    guards = append_assoc problem.guards one.guards more.guards i;
    indexes = append_assoc problem.indexes one.indexes more.indexes i;
  }

  pub block_next : (problem after : Problem) (weight : ℕ) (body : List Stmt) (i : ℕ) (s : Stmt) → i < length body → s ≡ get_or body i s → after ≡ with_parts problem ((read_stmt l s).parts weight)
      → with_block after l weight (drop (i + 1) body) ≡ with_block problem l weight (drop i body)
  block_next problem after weight body i s low is step =
      let rest = map (read_stmt l) (drop (i + 1) body) in
      ap (λ p. with_block p l weight (drop (i + 1) body)) step ∙ parts_grow problem ((read_stmt l s).parts weight) (all_parts rest weight) ∙ ap (with_block problem l weight) (sym (at_item body i s low is))

  guard_alone : (problem : Problem) (guard : Guard) → with_parts problem (record no_parts { guards = guard ∷ [] }) ≡ record problem { guards = problem.guards ++ guard ∷ [] }
  guard_alone problem guard = λ i. record problem {
    slots = append-nil problem.slots i;
    uses = append-nil problem.uses i;
    outputs = append-nil problem.outputs i;
    guards = problem.guards ++ guard ∷ [];
    indexes = append-nil problem.indexes i;
  }

  pub add_if : (problem second third : Problem) (guards : List Guard) (guard first last : Guard) (weight : ℕ) (y : SlotId) (a b a_ b_ c_ d_ : List Stmt) (offset : ℕ) (stmt : Stmt) → stmt ≡ If y a b offset
      → a_ ≡ a → b_ ≡ b → c_ ≡ a → d_ ≡ b
      → guard ≡ record { slot = y; weight = weight; slots = []; hosts = [] } → first ≡ with_branch guard l a_ → last ≡ with_branch first l b_ → guards ≡ problem.guards ++ last ∷ []
      → second ≡ with_block (record problem { guards = guards }) l weight c_ → third ≡ with_block second l weight d_
      → third ≡ with_parts problem ((read_stmt l stmt).parts weight)
  add_if problem second third guards guard first last weight y a b a_ b_ c_ d_ offset stmt is same_a same_b same_c same_d begins named_a named_b pushed add_a add_b =
      let ra = map (read_stmt l) a in
      let rb = map (read_stmt l) b in
      let whole : last ≡ guard_of y weight (ra ++ rb) =
      named_b ∙ (λ i. with_branch (named_a i) l (same_b i)) ∙ (λ i. with_branch (with_branch (begins i) l (same_a i)) l b)
      ∙ (λ i. record { slot = y; weight = weight; slots = sym (flat_map-append (λ (read : Read). read.named) ra rb) i; hosts = sym (flat_map-append (λ (read : Read). read.told) ra rb) i }) in
      let guards_are : guards ≡ problem.guards ++ guard_of y weight (ra ++ rb) ∷ [] = pushed ∙ ap (λ g. problem.guards ++ g ∷ []) whole in
      let one = record no_parts { guards = guard_of y weight (ra ++ rb) ∷ [] } in
      let start : record problem { guards = problem.guards ++ guard_of y weight (ra ++ rb) ∷ [] } ≡ with_parts problem one = sym (guard_alone problem (guard_of y weight (ra ++ rb))) in
      add_b ∙ (λ i. with_block (add_a i) l weight (same_d i)) ∙ (λ i. with_block (with_block (record problem { guards = guards_are i }) l weight (same_c i)) l weight b)
      ∙ ap (λ p. with_block (with_block p l weight a) l weight b) start
      ∙ parts_grow (with_parts problem one) (all_parts ra weight) (all_parts rb weight)
      ∙ parts_grow problem one (joined (all_parts ra weight) (all_parts rb weight))
      ∙ ap (λ (read : Read). with_parts problem (read.parts weight)) (sym (read_if y a b offset))
      ∙ ap (λ s. with_parts problem ((read_stmt l s).parts weight)) (sym is)

-- ---- weights

map_twice : (weight : ℕ) (body : List Stmt) → map (λ (w : Weighing). w weight) (map weighing body) ≡ map (λ s. weighing s weight) body
map_twice weight [] = refl
map_twice weight (s ∷ body) = ap (λ rest. weighing s weight ∷ rest) (map_twice weight body)

weighs : (body : List Stmt) (weight : ℕ) → weigh_all (map weighing body) weight ≡ sum_by (λ (s : Stmt). weighing s weight) body
weighs body weight = ap sum (map_twice weight body) ∙ sum-map (λ (s : Stmt). weighing s weight) body

pub weigh_fits : (body : List Stmt) (k : ℕ) (s : Stmt) (weight : ℕ) → k < length body → s ≡ get_or body k s → weighing s weight ≤ weigh_all (map weighing body) weight
weigh_fits body k s weight low is =
    let within = get_or-le-sum_by (λ (x : Stmt). weighing x weight) body k s low in
    let same = ap (λ x. weighing x weight) is in
    let whole = weighs body weight in
    omega (arith, within, same, whole)

abbrev IsHeavy : Stmt → Type 0
IsHeavy s = (weight : ℕ) → weight ≤ weighing s weight

abbrev Heavy : Type 0
Heavy = (s : Stmt) × IsHeavy s

abbrev heavy_layer : Stmt-F Heavy → Stmt-F Stmt
heavy_layer = map-Stmt Heavy Stmt (λ m. m.0)

step_heavy : (y : Stmt-F Weighing) (weight : ℕ) → weight ≤ weigh_step y weight
step_heavy (Stmt-F.Let x r) weight = omega arith
step_heavy (Stmt-F.NewVar v x) weight = omega arith
step_heavy (Stmt-F.NewArray v cells) weight = omega arith
step_heavy (Stmt-F.Store v x) weight = omega arith
step_heavy (Stmt-F.Put v i x) weight = omega arith
step_heavy (Stmt-F.Output x h offset) weight = omega arith
step_heavy (Stmt-F.If x a b offset) weight = omega arith
step_heavy (Stmt-F.For count body) weight = omega arith

heavy : (s : Stmt) → IsHeavy s
heavy = ind-Stmt IsHeavy (λ x y is. subst (λ z. IsHeavy (roll-Stmt z)) is (λ weight. subst (λ (w : Weighing). weight ≤ w weight) (sym (fold-roll-Stmt Weighing weigh_step (heavy_layer y))) (step_heavy (map-Stmt Stmt Weighing weighing (heavy_layer y)) weight)))

for_weighs : (count : ℕ) (body : List Stmt) (weight : ℕ) → weighing (For count body) weight ≡ weight + weigh_all (map weighing body) (weight * count)
for_weighs count body weight = search (rules, the_lemmas)

some_weigh : (body : List Stmt) (weight : ℕ) → 0 < length body → weight ≤ weigh_all (map weighing body) weight
some_weigh [] weight some = absurd (omega arith)
some_weigh (s ∷ body) weight some = let whole = weighs (s ∷ body) weight in omega (arith, whole, sum_by-cons (λ (x : Stmt). weighing x weight) s body, heavy s weight)

pub turns_fit : (count : ℕ) (body body_ : List Stmt) (weight most : ℕ) (stmt : Stmt) → stmt ≡ For count body → body_ ≡ body → 0 < length body_ → weighing stmt weight ≤ most → weight * count ≤ most
turns_fit count body body_ weight most stmt is same some fits =
    let whole = ap (λ s. weighing s weight) is ∙ for_weighs count body weight in
    let least = some_weigh body (weight * count) (subst (λ b. 0 < length b) same some) in
    omega (arith, whole, least, fits)
