-- Under guards that pass a test, statements name only slots that are made under such guards.
use Rattle.std.proofs.Common.{◌≡◌, ℕ, Bool, true, false, ◌&&◌, List, [], ◌∷◌, ◌++◌, map, refl, sym, ◌∙◌, subst, nat_eq, if◌then◌else◌}
use Rattle.std.specs.List.{list_all, list_any}
use Rattle.std.proofs.lemmas.Bool.{and_parts}
use Rattle.std.proofs.lemmas.List.Folds.{list_all-append}
use Rattle.vd_base.specs.declared.ids.SlotId.{SlotId}
use Rattle.vd_core.specs.declared.normal.Right.{Right}
use Rattle.vd_core.specs.declared.normal.Right.TheVariants.{Lit, Turn, Copy, Apply, Input, Declassify, Endorse, Load, Get}
use Rattle.vd_core.specs.declared.normal.Stmt.{Stmt, roll-Stmt, map-Stmt, ind-Stmt}
use Rattle.vd_core.specs.declared.normal.Stmt.TheOpen.{Stmt-F}
use Rattle.vd_core.specs.declared.normal.Stmt.TheFolds.{fold-roll-Stmt}
use Rattle.vd_core.specs.declared.normal.NormalForm.{NormalForm}
use Rattle.vd_core.specs.Facts.{Sight, Seeing, is_binding, is_variable, is_array, right_sees, seeing_all, seeing_step, seeing, nothing_seen, SlotsMadeBefore}
use Rattle.vd_noninter.specs.Reading.{Makes, all_visible, all_hidden, makes_step, makes, visible_slots, right_names, stmt_names, names}
use Rattle.vd_noninter.proofs.Lawful.{and_of, member}
use Rattle.vd_noninter.proofs.Members.{all_there}

module _ (test V : ℕ → Bool) where
  record Shown (sight : Sight) : Type 0 where
    pub bindings : list_all V sight.bindings ≡ true
    pub variables : list_all V sight.variables ≡ true
    pub arrays : list_all V sight.arrays ≡ true

  abbrev Names : Seeing → Makes → Bool → Type 0
  Names see m named = (sight : Sight) → Shown sight → (see sight).all ≡ true → list_all V m.visible ≡ true → (named ≡ true) × Shown (see sight).after

  both_parts : (xs ys : List ℕ) → list_all V (xs ++ ys) ≡ true → (list_all V xs ≡ true) × (list_all V ys ≡ true)
  both_parts xs ys all = and_parts (list_all V xs) (list_all V ys) (sym (list_all-append V xs ys) ∙ all)

  abbrev block_makes : List Makes → Makes
  block_makes ms = record { visible = all_visible ms; hidden = [] }

  abbrev all_true : List Bool → Bool
  all_true = list_all (λ b. b)

  more_names : (see : Seeing) (sees : List Seeing) (m : Makes) (ms : List Makes) (b : Bool) (bs : List Bool) → Names see m b → Names (seeing_all sees) (block_makes ms) (all_true bs) → Names (seeing_all (see ∷ sees)) (block_makes (m ∷ ms)) (all_true (b ∷ bs))
  more_names see sees m ms b bs one rest sight shown saw vis =
      let saws = and_parts (see sight).all (seeing_all sees (see sight).after).all saw in
      let viss = both_parts m.visible (all_visible ms) vis in
      let p = one sight shown saws.0 viss.0 in
      let q = rest (see sight).after p.1 saws.1 viss.1 in
      (and_of b (all_true bs) p.0 q.0, q.1)

  abbrev StmtNames : Stmt → Type 0
  StmtNames s = Names (seeing s) (makes test s) (names test V s)

  abbrev M : Type 0
  M = (s : Stmt) × StmtNames s

  abbrev statements : List M → List Stmt
  statements = map {B = Stmt} (λ (m : M). m.0)

  abbrev layer : Stmt-F M → Stmt-F Stmt
  layer = map-Stmt M Stmt (λ m. m.0)

  abbrev BlockNames : List Stmt → Type 0
  BlockNames body = Names (seeing_all (map seeing body)) (block_makes (map (makes test) body)) (all_true (map (names test V) body))

  stmt_more : (s : Stmt) (body : List Stmt) → StmtNames s → BlockNames body → BlockNames (s ∷ body)
  stmt_more s body = more_names (seeing s) (map seeing body) (makes test s) (map (makes test) body) (names test V s) (map (names test V) body)

  all_names : (ms : List M) → BlockNames (statements ms)
  all_names [] = λ sight shown saw vis. (refl, shown)
  all_names (m ∷ ms) = stmt_more m.0 (statements ms) m.1 (all_names ms)

  with_shown : (x : ℕ) (xs : List ℕ) → list_all V (x ∷ []) ≡ true → list_all V xs ≡ true → list_all V (x ∷ xs) ≡ true
  with_shown x xs vis all = and_of (V x) (list_all V xs) (and_parts (V x) true vis).0 all

  binding : (sight : Sight) (y : SlotId) → Shown sight → is_binding sight y ≡ true → V y.0 ≡ true
  binding sight y shown here = member V y.0 sight.bindings shown.bindings here

  operands_named : (sight : Sight) (ys : List SlotId) → Shown sight → list_all (is_binding sight) ys ≡ true → list_all (λ y. V y.0) ys ≡ true
  operands_named sight [] shown saw = refl
  operands_named sight (y ∷ ys) shown saw =
      let p = and_parts (is_binding sight y) (list_all (is_binding sight) ys) saw in
      rw (binding sight y shown p.0, operands_named sight ys shown p.1) refl

  right_named : (sight : Sight) (r : Right) → Shown sight → right_sees r sight ≡ true → right_names V r ≡ true
  right_named sight (Lit n) shown saw = refl
  right_named sight Turn shown saw = refl
  right_named sight (Copy y) shown saw = binding sight y shown saw
  right_named sight (Apply op ys) shown saw = operands_named sight ys shown saw
  right_named sight (Input host) shown saw = refl
  right_named sight (Declassify y to) shown saw = binding sight y shown saw
  right_named sight (Endorse y to) shown saw = binding sight y shown saw
  right_named sight (Load v) shown saw = member V v.0 sight.variables shown.variables saw
  right_named sight (Get v i) shown saw =
      let p = and_parts (is_array sight v) (is_binding sight i) saw in
      and_of (V v.0) (V i.0) (member V v.0 sight.arrays shown.arrays p.0) (binding sight i shown p.1)

  abbrev branch_makes : Bool → List Makes → List Makes → Makes
  branch_makes b ms ns =
      if b then record { visible = all_visible ms ++ all_visible ns; hidden = all_hidden ms ++ all_hidden ns }
      else record { visible = []; hidden = (all_visible ms ++ all_hidden ms) ++ (all_visible ns ++ all_hidden ns) }

  if_names : (g : SlotId) (offset : ℕ) (sees tees : List Seeing) (ms ns : List Makes) (as' bs : List Bool) → Names (seeing_all sees) (block_makes ms) (all_true as') → Names (seeing_all tees) (block_makes ns) (all_true bs)
      → Names (seeing_step (Stmt-F.If g sees tees offset)) (makes_step test (Stmt-F.If g ms ns offset)) (stmt_names test V (Stmt-F.If g as' bs offset))
  if_names g offset sees tees ms ns as' bs one two sight shown saw vis =
      let saws = and_parts (is_binding sight g && (seeing_all sees sight).all) (seeing_all tees sight).all saw in
      let front = and_parts (is_binding sight g) (seeing_all sees sight).all saws.0 in
      (and_of (V g.0) (if test g.0 then all_true as' && all_true bs else true) (binding sight g shown front.0) (by (test g.0) (λ a. (one sight shown front.1 a).0) (λ b. (two sight shown saws.1 b).0) vis), shown)
    where
      by : (b : Bool) → (list_all V (all_visible ms) ≡ true → all_true as' ≡ true) → (list_all V (all_visible ns) ≡ true → all_true bs ≡ true)
          → list_all V (branch_makes b ms ns).visible ≡ true
          → (if b then all_true as' && all_true bs else true) ≡ true
      by true x y vis = let p = both_parts (all_visible ms) (all_visible ns) vis in and_of (all_true as') (all_true bs) (x p.0) (y p.1)
      by false x y vis = refl

  step : (y : Stmt-F M) → Names (seeing_step (map-Stmt Stmt Seeing seeing (layer y))) (makes_step test (map-Stmt Stmt Makes (makes test) (layer y))) (stmt_names test V (map-Stmt Stmt Bool (names test V) (layer y)))
  step (Stmt-F.Let x r) = λ sight shown saw vis.
      (and_of (V x.0) (right_names V r) (and_parts (V x.0) true vis).0 (right_named sight r shown saw), record { bindings = with_shown x.0 sight.bindings vis shown.bindings; variables = shown.variables; arrays = shown.arrays })
  step (Stmt-F.NewVar v y) = λ sight shown saw vis.
      (and_of (V v.0) (V y.0) (and_parts (V v.0) true vis).0 (binding sight y shown saw), record { bindings = shown.bindings; variables = with_shown v.0 sight.variables vis shown.variables; arrays = shown.arrays })
  step (Stmt-F.NewArray v size) = λ sight shown saw vis. ((and_parts (V v.0) true vis).0, record { bindings = shown.bindings; variables = shown.variables; arrays = with_shown v.0 sight.arrays vis shown.arrays })
  step (Stmt-F.Store v y) = λ sight shown saw vis.
      let p = and_parts (is_variable sight v) (is_binding sight y) saw in
      (and_of (V v.0) (V y.0) (member V v.0 sight.variables shown.variables p.0) (binding sight y shown p.1), shown)
  step (Stmt-F.Put v i y) = λ sight shown saw vis.
      let p = and_parts (is_array sight v && is_binding sight i) (is_binding sight y) saw in
      let q = and_parts (is_array sight v) (is_binding sight i) p.0 in
      (and_of (V v.0 && V i.0) (V y.0) (and_of (V v.0) (V i.0) (member V v.0 sight.arrays shown.arrays q.0) (binding sight i shown q.1)) (binding sight y shown p.1), shown)
  step (Stmt-F.Output y host offset) = λ sight shown saw vis. (binding sight y shown saw, shown)
  step (Stmt-F.If g a b offset) =
      if_names g offset (map seeing (statements a)) (map seeing (statements b)) (map (makes test) (statements a)) (map (makes test) (statements b)) (map (names test V) (statements a)) (map (names test V) (statements b)) (all_names a) (all_names b)
  step (Stmt-F.For count body) = λ sight shown saw vis. ((all_names body sight shown saw vis).0, shown)

  stmt_named : (s : Stmt) → StmtNames s
  stmt_named = ind-Stmt StmtNames (λ x y is. subst (λ z. StmtNames (roll-Stmt z)) is (at_roll y))
    where
      at_roll : (y : Stmt-F M) → StmtNames (roll-Stmt (layer y))
      at_roll y = rw (fold-roll-Stmt Seeing seeing_step (layer y), fold-roll-Stmt Makes (makes_step test) (layer y), fold-roll-Stmt Bool (stmt_names test V) (layer y)) (step y)

  body_named : (body : List Stmt) → BlockNames body
  body_named [] = λ sight shown saw vis. (refl, shown)
  body_named (s ∷ body) = stmt_more s body (stmt_named s) (body_named body)

pub named_are_visible : (p : NormalForm) (test : ℕ → Bool) → SlotsMadeBefore p → list_all (λ b. b) (map (names test (λ x. list_any (nat_eq x) (visible_slots test p.body))) p.body) ≡ true
named_are_visible p test before =
    let visible = visible_slots test p.body in
    (body_named test (λ x. list_any (nat_eq x) visible) p.body nothing_seen (record { bindings = refl; variables = refl; arrays = refl }) before (all_there visible visible (λ x is. is))).0
