-- What the rows of a statement cost is what the terms cost that it brings.
use Rattle.std.proofs.Common.{◌≡◌, ℕ, zero, suc, ◌+◌, ◌*◌, Bool, true, false, ◌||◌, Some, None, List, [], ◌∷◌, ◌++◌, map, length, refl, sym, ap, ◌∙◌, subst, subst₂, arith, length-append}
use Rattle.std.specs.Prelude.{unwrap_or, if◌then◌else◌}
use Rattle.std.specs.List.{list_any}
use Rattle.std.proofs.lemmas.List.Folds.{list_any-append}
use Rattle.std.proofs.lemmas.Grind.{flat_map-append}
use Rattle.vd_base.specs.declared.ids.HostId.{HostId}
use Rattle.vd_base.specs.declared.ids.SlotId.{SlotId}
use Rattle.vd_base.specs.declared.protocols.Proto.{Proto}
use Rattle.vd_base.specs.declared.protocols.Proto.TheVariants.{Local, Rep, Commit, Add, Xor}
use Rattle.vd_base.specs.HostSets.{host, same_host}
use Rattle.vd_base.specs.Costs.{cost_at, made_at, input_at}
use Rattle.vd_base.specs.Moves.{move_at}
use Rattle.vd_base.specs.Holders.{is_holder, proto_in}
use Rattle.vd_core.specs.declared.normal.Right.{Right}
use Rattle.vd_core.specs.declared.normal.Right.TheVariants.{Lit, Turn, Copy, Apply, Input, Declassify, Endorse, Load, Get}
use Rattle.vd_core.specs.declared.normal.Stmt.{Stmt, roll-Stmt, map-Stmt, ind-Stmt}
use Rattle.vd_core.specs.declared.normal.Stmt.TheOpen.{Stmt-F}
use Rattle.vd_core.specs.declared.normal.Stmt.TheFolds.{fold-roll-Stmt}
use Rattle.vd_core.specs.declared.normal.NormalForm.{NormalForm}
use Rattle.vd_core.specs.Facts.{slots_step, slots_of, slots_made}
use Rattle.vd_constraints.specs.declared.labels.Labels.{Labels}
use Rattle.vd_space.specs.declared.problem.Making.{Making}
use Rattle.vd_space.specs.declared.problem.Use.{Use}
use Rattle.vd_space.specs.declared.problem.Output.{Output}
use Rattle.vd_space.specs.declared.problem.Guard.{Guard}
use Rattle.vd_space.specs.declared.problem.Index.{Index}
use Rattle.vd_space.specs.Reading.{Parts, Read, no_parts, joined, all_parts, row_of, operands_of, use_of, guard_of, binding_parts, read_step, read_stmt}
use Rattle.vd_space.specs.Reading as reading
use Rattle.vd_space.specs.Sizes.{heft}
use Rattle.vd_space.proofs.Front.{heft_append}
use Rattle.vd_draw_rows.specs.Moves.{move_of, told_if, told_to, index_moves, operation_of, is_part, kept_at}
use Rattle.vd_draw_rows.specs.Rows.{Drawn, all_rows, all_named, all_told, deeper, binding_row, otherwise_rows, drawn_step, drawn}
use Rattle.vd_draw_rows.specs.Costs.{move_cost, row_cost, rows_cost}

module _ (list : List Proto) (hosts : ℕ) where
  -- ---- what terms cost

  abbrev pub tell_cost : SlotId → HostId → ℕ
  tell_cost s h = unwrap_or (move_at (proto_in list s.0) (Local h)) 0

  abbrev pub told_cost : SlotId → (HostId → Bool) → ℕ → ℕ
  told_cost s test zero = 0
  told_cost s test (suc n) = told_cost s test n + (if test (host n) then tell_cost s (host n) else 0)

  abbrev pub use_cost : Use → ℕ
  use_cost u = u.weight * unwrap_or (move_at (proto_in list u.source.0) (proto_in list u.target.0)) 0

  abbrev pub output_cost : Output → ℕ
  output_cost o = o.weight * tell_cost o.slot o.host

  abbrev pub guard_cost : Guard → ℕ
  guard_cost g = g.weight * told_cost g.slot (is_part list g.slots g.hosts) hosts

  abbrev pub index_cost : Index → ℕ
  index_cost i = i.weight * told_cost i.index (is_holder (proto_in list i.array.0)) hosts

  abbrev pub making_cost : ℕ → Making → ℕ
  making_cost x m = m.weight * unwrap_or (cost_at m.row (proto_in list x)) 0

  abbrev pub made_cost : List ℕ → List Making → ℕ
  made_cost [] ms = 0
  made_cost (x ∷ xs) [] = 0
  made_cost (x ∷ xs) (m ∷ ms) = making_cost x m + made_cost xs ms

  abbrev pub parts_cost : List ℕ → Parts → ℕ
  parts_cost xs parts = made_cost xs parts.slots + heft use_cost parts.uses + heft output_cost parts.outputs + heft guard_cost parts.guards + heft index_cost parts.indexes

  made_append : (xs ys : List ℕ) (ms ns : List Making) → length xs ≡ length ms → made_cost (xs ++ ys) (ms ++ ns) ≡ made_cost xs ms + made_cost ys ns
  made_append [] ys [] ns many = omega arith
  made_append [] ys (m ∷ ms) ns many = absurd (omega (arith, many))
  made_append (x ∷ xs) ys [] ns many = absurd (omega (arith, many))
  made_append (x ∷ xs) ys (m ∷ ms) ns many = let rest = made_append xs ys ms ns (omega (arith, many)) in omega (arith, rest)

  joined_parts : (xs ys : List ℕ) (a b : Parts) → length xs ≡ length a.slots → parts_cost (xs ++ ys) (joined a b) ≡ parts_cost xs a + parts_cost ys b
  joined_parts xs ys a b many =
      let made = made_append xs ys a.slots b.slots many in
      let uses = heft_append use_cost a.uses b.uses in
      let outputs = heft_append output_cost a.outputs b.outputs in
      let guards = heft_append guard_cost a.guards b.guards in
      let indexes = heft_append index_cost a.indexes b.indexes in
      omega (arith, made, uses, outputs, guards, indexes)

  -- ---- moves

  told_if_costs : (s : SlotId) (h : HostId) (b : Bool) → heft move_cost (told_if b (move_of list s (Local h))) ≡ (if b then tell_cost s h else 0)
  told_if_costs s h true = omega arith
  told_if_costs s h false = refl

  told_costs : (s : SlotId) (test : HostId → Bool) (n : ℕ) → heft move_cost (told_to list s test n) ≡ told_cost s test n
  told_costs s test zero = refl
  told_costs s test (suc n) =
      let here = told_if_costs s (host n) (test (host n)) in
      let before = told_costs s test n in
      let both = heft_append move_cost (told_to list s test n) (told_if (test (host n)) (move_of list s (Local (host n)))) in
      omega (arith, here, before, both)

  same_told : (s : SlotId) (f g : HostId → Bool) → ((h : HostId) → f h ≡ g h) → (n : ℕ) → told_cost s f n ≡ told_cost s g n
  same_told s f g same zero = refl
  same_told s f g same (suc n) = λ i. same_told s f g same n i + (if same (host n) i then tell_cost s (host n) else 0)

  operand_costs : (weight : ℕ) (x : SlotId) (ys : List SlotId) → heft use_cost (map (use_of weight x) ys) ≡ weight * heft move_cost (map (λ y. move_of list y (proto_in list x.0)) ys)
  operand_costs weight x [] = omega arith
  operand_costs weight x (y ∷ ys) = let rest = operand_costs weight x ys in omega (arith, rest)

  index_costs : (weight : ℕ) (v i : SlotId) (x : SlotId)
      → weight * heft move_cost (index_moves list hosts v i ++ move_of list v (proto_in list x.0) ∷ []) ≡ heft use_cost (use_of weight x v ∷ []) + heft index_cost (reading.index_of weight v i ∷ [])
  index_costs weight v i x =
      let told = told_costs i (is_holder (proto_in list v.0)) hosts in
      let both = heft_append move_cost (index_moves list hosts v i) (move_of list v (proto_in list x.0) ∷ []) in
      ap (λ k. weight * k) both ∙ ap (λ k. weight * (k + heft move_cost (move_of list v (proto_in list x.0) ∷ []))) told ∙ spread weight (told_cost i (is_holder (proto_in list v.0)) hosts) (unwrap_or (move_at (proto_in list v.0) (proto_in list x.0)) 0)
    where
      spread : (w a b : ℕ) → w * (a + (b + 0)) ≡ w * b + 0 + (w * a + 0)
      spread w a b = omega arith

  -- ---- operations

  made_free : (q : Proto) → unwrap_or (made_at q) 0 ≡ 0
  made_free (Local h) = refl
  made_free (Rep set) = refl
  made_free (Commit p v) = refl
  made_free (Add a b) = refl
  made_free (Xor a b) = refl

  input_if : (b : Bool) → ◌≡◌ {A = ℕ} (unwrap_or (if b then Some 0 else None) 0) 0
  input_if true = refl
  input_if false = refl

  input_free : (h : HostId) (q : Proto) → unwrap_or (input_at h q) 0 ≡ 0
  input_free h (Local k) = input_if (same_host h k)
  input_free h (Rep set) = refl
  input_free h (Commit p v) = refl
  input_free h (Add a b) = refl
  input_free h (Xor a b) = refl

  operation_costs : (right : Right) (q : Proto) → unwrap_or (cost_at (row_of right) q) 0 ≡ operation_of right q
  operation_costs (Lit n) q = made_free q
  operation_costs Turn q = made_free q
  operation_costs (Copy y) q = refl
  operation_costs (Apply o ys) q = refl
  operation_costs (Input h) q = input_free h q
  operation_costs (Declassify y to) q = refl
  operation_costs (Endorse y to) q = refl
  operation_costs (Load v) q = refl
  operation_costs (Get v i) q = refl

  -- ---- a binding

  total_is : (w c op m u i : ℕ) → c ≡ op → w * m ≡ u + i → w * (op + m) + 0 ≡ w * c + 0 + u + 0 + 0 + i
  total_is w c op m u i same moved = let first : w * c ≡ w * op = ap (λ k. w * k) same in omega (arith, first, moved)

  -- ---- who takes part in either of two blocks

  or_swaps : (a b c d : Bool) → ((a || b) || (c || d)) ≡ ((a || c) || (b || d))
  or_swaps true b c d = refl
  or_swaps false b true d = or_true b
    where
      or_true : (b : Bool) → (b || true) ≡ true
      or_true true = refl
      or_true false = refl
  or_swaps false true false d = refl
  or_swaps false false false d = refl

  pub part_of_both : (h : HostId) (xs ys : List SlotId) (hs ks : List HostId) → (is_part list xs hs h || is_part list ys ks h) ≡ is_part list (xs ++ ys) (hs ++ ks) h
  part_of_both h xs ys hs ks =
      or_swaps (list_any (same_host h) hs) (list_any (kept_at list h) xs) (list_any (same_host h) ks) (list_any (kept_at list h) ys)
      ∙ (λ i. sym (list_any-append (same_host h) hs ks) i || sym (list_any-append (kept_at list h) xs ys) i)

module _ (source : List ℕ) (p : NormalForm) (list : List Proto) (l : Labels) where
  abbrev n : ℕ
  n = length p.hosts

  abbrev costs_of : List ℕ → Parts → ℕ
  costs_of = parts_cost list n

  -- what a statement brings is told by its rows
  pub record Tells (d : Drawn) (xs : List ℕ) (r : Read) : Type 0 where
    pub costs : (weight depth : ℕ) → rows_cost (d.rows weight depth) ≡ costs_of xs (r.parts weight)
    pub named : d.named ≡ r.named
    pub told : d.told ≡ r.told
    pub many : (weight : ℕ) → length xs ≡ length (r.parts weight).slots

  binding_costs : (weight depth : ℕ) (x : SlotId) (right : Right) → rows_cost (binding_row source p list weight depth x right ∷ []) ≡ costs_of (x.0 ∷ []) (binding_parts l weight x right)
  binding_costs weight depth x right = total_is list n weight (unwrap_or (cost_at (row_of right) (proto_in list x.0)) 0) (operation_of right (proto_in list x.0)) _ _ _ (operation_costs list n right (proto_in list x.0)) (moved right)
    where
      one : (w m : ℕ) → w * (m + 0) ≡ w * m + 0 + 0
      one w m = omega arith

      nothing : (w : ℕ) → w * 0 ≡ 0 + 0
      nothing w = omega arith

      moved : (right : Right) → weight * heft move_cost (binding_row source p list weight depth x right).moves
          ≡ heft (use_cost list n) (map (use_of weight x) (operands_of right)) + heft (index_cost list n) (reading.indexes_of weight right)
      moved (Lit k) = nothing weight
      moved Turn = nothing weight
      moved (Copy y) = one weight _
      moved (Apply o ys) = let uses = operand_costs list n weight x ys in omega (arith, uses)
      moved (Input h) = nothing weight
      moved (Declassify y to) = one weight _
      moved (Endorse y to) = one weight _
      moved (Load v) = one weight _
      moved (Get v i) = index_costs list n weight v i x

  abbrev M : Type 0
  M = (s : Stmt) × Tells (drawn source p list s) (slots_of s) (read_stmt l s)

  abbrev statements : List M → List Stmt
  statements = map {B = Stmt} (λ (m : M). m.0)

  abbrev layer : Stmt-F M → Stmt-F Stmt
  layer = map-Stmt M Stmt (λ m. m.0)

  pub record AllTell (ds : List Drawn) (xs : List ℕ) (rs : List Read) : Type 0 where
    pub costs : (weight depth : ℕ) → rows_cost (all_rows ds weight depth) ≡ costs_of xs (all_parts rs weight)
    pub named : all_named ds ≡ reading.all_named rs
    pub told : all_told ds ≡ reading.all_told rs
    pub many : (weight : ℕ) → length xs ≡ length (all_parts rs weight).slots

  none_tell : AllTell [] [] []
  none_tell = record { costs = λ weight depth. refl; named = refl; told = refl; many = λ weight. refl }

  more_tell : (d : Drawn) (ds : List Drawn) (xs ys : List ℕ) (r : Read) (rs : List Read) → Tells d xs r → AllTell ds ys rs → AllTell (d ∷ ds) (xs ++ ys) (r ∷ rs)
  more_tell d ds xs ys r rs one rest = record {
    costs = λ weight depth.
        let first = one.costs weight depth in
        let others = rest.costs weight depth in
        let rows = heft_append row_cost (d.rows weight depth) (all_rows ds weight depth) in
        let parts = joined_parts list n xs ys (r.parts weight) (all_parts rs weight) (one.many weight) in
        omega (arith, first, others, rows, parts);
    named = λ i. one.named i ++ rest.named i;
    told = λ i. one.told i ++ rest.told i;
    many = λ weight. omega (arith, one.many weight, rest.many weight, length-append xs ys, length-append (r.parts weight).slots (all_parts rs weight).slots);
  }

  all_tell : (ms : List M) → AllTell (map (drawn source p list) (statements ms)) (slots_made (statements ms)) (map (read_stmt l) (statements ms))
  all_tell [] = none_tell
  all_tell (m ∷ ms) = more_tell (drawn source p list m.0) (map (drawn source p list) (statements ms)) (slots_of m.0) (slots_made (statements ms)) (read_stmt l m.0) (map (read_stmt l) (statements ms)) m.1 (all_tell ms)

  -- the other block of a branch
  otherwise_costs : (ds : List Drawn) (weight depth : ℕ) → rows_cost (otherwise_rows source p list ds weight depth) ≡ rows_cost (all_rows ds weight depth)
  otherwise_costs [] weight depth = refl
  otherwise_costs (d ∷ ds) weight depth = let zero : weight * (0 + 0) ≡ 0 = omega arith in omega (arith, zero)

  -- who takes part in one of two blocks, as the rows tell it, and as the guard does
  abbrev part_of_either : List Drawn → List Drawn → HostId → Bool
  part_of_either first other h = is_part list (all_named first) (all_told first) h || is_part list (all_named other) (all_told other) h

  abbrev part_read : List Read → List Read → HostId → Bool
  part_read rs qs = is_part list (reading.all_named (rs ++ qs)) (reading.all_told (rs ++ qs))

  -- a branch
  if_tells : (g : SlotId) (offset : ℕ) (first other : List Drawn) (xs ys : List ℕ) (rs qs : List Read) → AllTell first xs rs → AllTell other ys qs
      → Tells (drawn_step source p list (Stmt-F.If g first other offset)) (xs ++ ys) (read_step l (Stmt-F.If g rs qs offset))
  if_tells g offset first other xs ys rs qs a b = record {
    costs = λ weight depth.
        let guards : heft move_cost (told_to list g (part_of_either first other) n) ≡ told_cost list n g (part_read rs qs) n =
        told_costs list n g (part_of_either first other) n ∙ same_told list n g (part_of_either first other) (part_read rs qs) same n in
        let head : weight * (0 + heft move_cost (told_to list g (part_of_either first other) n)) ≡ weight * told_cost list n g (part_read rs qs) n =
        ap (λ k. weight * (0 + k)) guards ∙ plain weight (told_cost list n g (part_read rs qs) n) in
        let inner = a.costs weight (deeper depth) in
        let outer = otherwise_costs other weight (deeper depth) ∙ b.costs weight (deeper depth) in
        let rows = heft_append row_cost (all_rows first weight (deeper depth)) (otherwise_rows source p list other weight (deeper depth)) in
        let parts = joined_parts list n xs ys (all_parts rs weight) (all_parts qs weight) (a.many weight) in
        omega (arith, head, inner, outer, rows, parts);
    named = λ i. g ∷ a.named i ++ b.named i;
    told = λ i. a.told i ++ b.told i;
    many = λ weight. omega (arith, a.many weight, b.many weight, length-append xs ys, length-append (all_parts rs weight).slots (all_parts qs weight).slots);
  }
    where
      plain : (w k : ℕ) → w * (0 + k) ≡ w * k
      plain w k = omega arith

      same : (h : HostId) → part_of_either first other h ≡ part_read rs qs h
      same h =
          part_of_both list n h (all_named first) (all_named other) (all_told first) (all_told other)
          ∙ (λ i. is_part list (a.named i ++ b.named i) (a.told i ++ b.told i) h)
          ∙ (λ i. is_part list (sym (flat_map-append (λ (r : Read). r.named) rs qs) i) (sym (flat_map-append (λ (r : Read). r.told) rs qs) i) h)

  for_tells : (count : ℕ) (body : List Drawn) (xs : List ℕ) (rs : List Read) → AllTell body xs rs → Tells (drawn_step source p list (Stmt-F.For count body)) xs (read_step l (Stmt-F.For count rs))
  for_tells count body xs rs a = record {
    costs = λ weight depth. let zero : weight * (0 + 0) ≡ 0 = omega arith in let inner = a.costs (weight * count) (deeper depth) in omega (arith, zero, inner);
    named = a.named;
    told = a.told;
    many = λ weight. a.many (weight * count);
  }

  -- ---- the other statements

  let_tells : (x : SlotId) (right : Right) → Tells (drawn_step source p list (Stmt-F.Let x right)) (x.0 ∷ []) (read_step l (Stmt-F.Let x right))
  let_tells x right = record { costs = λ weight depth. binding_costs weight depth x right; named = refl; told = refl; many = λ weight. refl }

  free : (q : Proto) → unwrap_or (made_at q) 0 ≡ 0
  free = made_free list n

  var_tells : (v y : SlotId) → Tells (drawn_step source p list (Stmt-F.NewVar v y)) (v.0 ∷ []) (read_step l (Stmt-F.NewVar v y))
  var_tells v y = record {
    costs = λ weight depth. let made : weight * unwrap_or (made_at (proto_in list v.0)) 0 ≡ weight * 0 = ap (λ k. weight * k) (free (proto_in list v.0)) in omega (arith, made);
    named = refl;
    told = refl;
    many = λ weight. refl;
  }

  array_tells : (v : SlotId) (cells : ℕ) → Tells (drawn_step source p list (Stmt-F.NewArray v cells)) (v.0 ∷ []) (read_step l (Stmt-F.NewArray v cells))
  array_tells v cells = record {
    costs = λ weight depth. let made : weight * unwrap_or (made_at (proto_in list v.0)) 0 ≡ weight * 0 = ap (λ k. weight * k) (free (proto_in list v.0)) in omega (arith, made);
    named = refl;
    told = refl;
    many = λ weight. refl;
  }

  store_tells : (v y : SlotId) → Tells (drawn_step source p list (Stmt-F.Store v y)) [] (read_step l (Stmt-F.Store v y))
  store_tells v y = record { costs = λ weight depth. omega arith; named = refl; told = refl; many = λ weight. refl }

  put_tells : (v i y : SlotId) → Tells (drawn_step source p list (Stmt-F.Put v i y)) [] (read_step l (Stmt-F.Put v i y))
  put_tells v i y = record { costs = λ weight depth. put_costs weight; named = refl; told = refl; many = λ weight. refl }
    where
      spread : (w a b : ℕ) → w * (0 + (a + (b + 0))) + 0 ≡ 0 + (w * b + 0) + 0 + 0 + (w * a + 0)
      spread w a b = omega arith

      put_costs : (w : ℕ) → w * (0 + heft move_cost (index_moves list n v i ++ move_of list y (proto_in list v.0) ∷ [])) + 0
          ≡ 0 + (w * unwrap_or (move_at (proto_in list y.0) (proto_in list v.0)) 0 + 0) + 0 + 0 + (w * told_cost list n i (is_holder (proto_in list v.0)) n + 0)
      put_costs w =
          let told = told_costs list n i (is_holder (proto_in list v.0)) n in
          let both = heft_append move_cost (index_moves list n v i) (move_of list y (proto_in list v.0) ∷ []) in
          ap (λ k. w * (0 + k) + 0) both ∙ ap (λ k. w * (0 + (k + heft move_cost (move_of list y (proto_in list v.0) ∷ []))) + 0) told ∙ spread w (told_cost list n i (is_holder (proto_in list v.0)) n) (unwrap_or (move_at (proto_in list y.0) (proto_in list v.0)) 0)

  output_tells : (y : SlotId) (h : HostId) (offset : ℕ) → Tells (drawn_step source p list (Stmt-F.Output y h offset)) [] (read_step l (Stmt-F.Output y h offset))
  output_tells y h offset = record { costs = λ weight depth. omega arith; named = refl; told = refl; many = λ weight. refl }

  step : (y : Stmt-F M) → Tells (drawn_step source p list (map-Stmt Stmt Drawn (drawn source p list) (layer y))) (slots_step (map-Stmt Stmt (List ℕ) slots_of (layer y))) (read_step l (map-Stmt Stmt Read (read_stmt l) (layer y)))
  step (Stmt-F.Let x r) = let_tells x r
  step (Stmt-F.NewVar v y) = var_tells v y
  step (Stmt-F.NewArray v cells) = array_tells v cells
  step (Stmt-F.Store v y) = store_tells v y
  step (Stmt-F.Put v i y) = put_tells v i y
  step (Stmt-F.Output y h offset) = output_tells y h offset
  step (Stmt-F.If g a b offset) = if_tells g offset (map (drawn source p list) (statements a)) (map (drawn source p list) (statements b)) (slots_made (statements a)) (slots_made (statements b)) (map (read_stmt l) (statements a)) (map (read_stmt l) (statements b)) (all_tell a) (all_tell b)
  step (Stmt-F.For count body) = for_tells count (map (drawn source p list) (statements body)) (slots_made (statements body)) (map (read_stmt l) (statements body)) (all_tell body)

  stmt_tells : (s : Stmt) → Tells (drawn source p list s) (slots_of s) (read_stmt l s)
  stmt_tells = ind-Stmt (λ s. Tells (drawn source p list s) (slots_of s) (read_stmt l s)) (λ x y is. subst (λ z. Tells (drawn source p list (roll-Stmt z)) (slots_of (roll-Stmt z)) (read_stmt l (roll-Stmt z))) is (at_roll y))
    where
      at_roll : (y : Stmt-F M) → Tells (drawn source p list (roll-Stmt (layer y))) (slots_of (roll-Stmt (layer y))) (read_stmt l (roll-Stmt (layer y)))
      at_roll y =
          subst (λ d. Tells d (slots_of (roll-Stmt (layer y))) (read_stmt l (roll-Stmt (layer y)))) (sym (fold-roll-Stmt Drawn (drawn_step source p list) (layer y)))
          (subst₂ (Tells (drawn_step source p list (map-Stmt Stmt Drawn (drawn source p list) (layer y)))) (sym (fold-roll-Stmt (List ℕ) slots_step (layer y))) (sym (fold-roll-Stmt Read (read_step l) (layer y))) (step y))

  pub body_tells : (body : List Stmt) → AllTell (map (drawn source p list) body) (slots_made body) (map (read_stmt l) body)
  body_tells [] = none_tell
  body_tells (s ∷ body) = more_tell (drawn source p list s) (map (drawn source p list) body) (slots_of s) (slots_made body) (read_stmt l s) (map (read_stmt l) body) (stmt_tells s) (body_tells body)
