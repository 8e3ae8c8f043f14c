-- The edges for what a host is told hold at a reach exactly where the statements are closed.
use Rattle.std.proofs.Common.{◌≡◌, ℕ, ◌≤◌, Bool, true, false, ◌&&◌, ◌||◌, List, [], ◌∷◌, map, refl, sym, ap, ◌∙◌, subst, arith, nat_eq, nat_lt}
use Rattle.std.specs.List.{list_all}
use Rattle.std.proofs.lemmas.Bool.{and_parts, ltb-true, lt-ltb}
use Rattle.std.proofs.lemmas.List.Folds.{list_all-append}
use Rattle.vd_base.specs.declared.ids.SlotId.{SlotId}
use Rattle.vd_core.specs.declared.normal.Right.{Right}
use Rattle.vd_core.specs.declared.normal.Right.TheVariants.{Lit, Turn, Copy, Apply, Input, Declassify, Endorse, Load, Get}
use Rattle.vd_core.specs.declared.normal.Stmt.{Stmt, roll-Stmt, map-Stmt, ind-Stmt}
use Rattle.vd_core.specs.declared.normal.Stmt.TheOpen.{Stmt-F}
use Rattle.vd_core.specs.declared.normal.Stmt.TheFolds.{fold-roll-Stmt}
use Rattle.vd_core.specs.Facts.{blocks_meet, meets, all_meet, host_is_declared}
use Rattle.vd_noninter.specs.Flowing.{only_with}
use Rattle.vd_noninter.specs.NoninterLawsDependence.{Reach, Closing, all_close}
use Rattle.vd_noninter.proofs.Lawful.{and_of}
use Rattle.vd_noninter.specs.IntegrityLawsInfluence.{right_influences, stmt_influences, influences}
use Rattle.vd_noninter.specs.declared.edge.Edge.{Edge}
use Rattle.vd_noninter.specs.declared.around.Around.{Around}
use Rattle.vd_noninter.specs.Edges.{Adding, in_order, no_guards, with_made, with_told, within}
use Rattle.vd_noninter.specs.InfluenceEdges.{endorsed_part, right_made, stmt_made, with_stmt_made, with_body_made, influence_edges_of}
use Rattle.vd_noninter.specs.Reached.{all_hold}
use Rattle.vd_noninter.proofs.Closing.{alone, and_joins, and_swap, and_true, input_holds, made_holds, one_told, only_true, told_holds}
use Rattle.vd_noninter.proofs.Declared.{all_yes, eight_hosts, yes_where}

-- what is asked of a slot, of the guards around it and of its parts
made_joins : (all x around parts : Bool) → ((all && only_with x around) && only_with x parts) ≡ (all && only_with x (around && parts))
made_joins false x around parts = refl
made_joins true true around parts = refl
made_joins true false around parts = refl

module _ (passed : Bool) (r : Reach) (host : ℕ) where
  abbrev all_in : List SlotId → Bool
  all_in = list_all (λ y. r.slots y.0)

  -- the guards around are these
  abbrev Fits : Around → List SlotId → Type 0
  Fits around guards = all_in around.guards ≡ all_in guards

  alone_is : (around : Around) (guards : List SlotId) → Fits around guards → (x : SlotId) (edges : List Edge)
      → all_hold r (with_made around x [] edges) ≡ (all_hold r edges && only_with (r.slots x.0) (all_in guards))
  alone_is around guards fits x edges =
      made_holds r around x [] edges ∙ alone (all_hold r edges) (r.slots x.0) (all_in around.guards) ∙ ap (λ b. all_hold r edges && only_with (r.slots x.0) b) fits

  made_is : (around : Around) (guards : List SlotId) → Fits around guards → (x : SlotId) (ys : List SlotId) (edges : List Edge) (parts : Bool) → all_in ys ≡ parts
      → all_hold r (with_made around x ys edges) ≡ (all_hold r edges && only_with (r.slots x.0) (all_in guards && parts))
  made_is around guards fits x ys edges parts is =
      made_holds r around x ys edges
      ∙ made_joins (all_hold r edges) (r.slots x.0) (all_in around.guards) (all_in ys)
      ∙ (λ i. all_hold r edges && only_with (r.slots x.0) (fits i && is i))

  one_in : (y : SlotId) → all_in (y ∷ []) ≡ r.slots y.0
  one_in y = and_true (r.slots y.0)

  two_in : (y z : SlotId) → all_in (y ∷ z ∷ []) ≡ (r.slots y.0 && r.slots z.0)
  two_in y z = ap (λ b. r.slots y.0 && b) (and_true (r.slots z.0))

  endorsed_in : (b : Bool) (y : SlotId) → all_in (endorsed_part b y) ≡ only_with b (r.slots y.0)
  endorsed_in true y = one_in y
  endorsed_in false y = refl

  right_is : (x : SlotId) (s : Right) (around : Around) (guards : List SlotId) (edges : List Edge) → Fits around guards
      → all_hold r (right_made passed x s around edges) ≡ (all_hold r edges && right_influences passed r (all_in guards) x s)
  right_is x (Lit k) around guards edges fits = alone_is around guards fits x edges
  right_is x Turn around guards edges fits = alone_is around guards fits x edges
  right_is x (Copy y) around guards edges fits = made_is around guards fits x (y ∷ []) edges (r.slots y.0) (one_in y)
  right_is x (Apply op ys) around guards edges fits = made_is around guards fits x ys edges (all_in ys) refl
  right_is x (Input other) around guards edges fits =
      input_holds r around x other edges ∙ ap (λ b. all_hold r edges && (only_with (r.slots x.0) (r.hosts other.0) && only_with (r.hosts other.0 || r.slots x.0) b)) fits
  right_is x (Declassify y to) around guards edges fits = made_is around guards fits x (y ∷ []) edges (r.slots y.0) (one_in y)
  right_is x (Endorse y to) around guards edges fits = made_is around guards fits x (endorsed_part passed y) edges (only_with passed (r.slots y.0)) (endorsed_in passed y)
  right_is x (Load v) around guards edges fits = made_is around guards fits x (v ∷ []) edges (r.slots v.0) (one_in v)
  right_is x (Get v i) around guards edges fits = made_is around guards fits x (v ∷ i ∷ []) edges (r.slots v.0 && r.slots i.0) (two_in v i)

  abbrev Agree : Adding → Closing → Type 0
  Agree add c = (around : Around) (guards : List SlotId) (edges : List Edge) → Fits around guards → all_hold r (add around edges) ≡ (all_hold r edges && c guards)

  none_agree : Agree (in_order []) (all_close [])
  none_agree around guards edges fits = sym (and_true (all_hold r edges))

  more_agree : (add : Adding) (adds : List Adding) (c : Closing) (cs : List Closing) → Agree add c → Agree (in_order adds) (all_close cs) → Agree (in_order (add ∷ adds)) (all_close (c ∷ cs))
  more_agree add adds c cs first rest around guards edges fits =
      rest around guards (add around edges) fits ∙ ap (λ b. b && all_close cs guards) (first around guards edges fits) ∙ and_joins (all_hold r edges) (c guards) (all_close cs guards)

  inner_fits : (around : Around) (guards : List SlotId) (g : SlotId) → Fits around guards → Fits (within around g true) (g ∷ guards)
  inner_fits around guards g fits =
      list_all-append (λ y. r.slots y.0) around.guards (g ∷ []) ∙ (λ i. fits i && and_true (r.slots g.0) i) ∙ and_swap (all_in guards) (r.slots g.0)

  if_agree : (g : SlotId) (offset : ℕ) (adds_a adds_b : List Adding) (cs ds : List Closing) → Agree (in_order adds_a) (all_close cs) → Agree (in_order adds_b) (all_close ds)
      → Agree (stmt_made passed host (Stmt-F.If g adds_a adds_b offset)) (stmt_influences passed host r (Stmt-F.If g cs ds offset))
  if_agree g offset adds_a adds_b cs ds first second around guards edges fits =
      let inner = within around g true in
      let inside = inner_fits around guards g fits in
      let a = all_close cs (g ∷ guards) in
      let b = all_close ds (g ∷ guards) in
      second inner (g ∷ guards) (in_order adds_a inner edges) inside
      ∙ ap (λ z. z && b) (first inner (g ∷ guards) edges inside)
      ∙ and_joins (all_hold r edges) a b

  output_agrees : (told : Bool) (y : SlotId) (around : Around) (guards : List SlotId) (edges : List Edge) → Fits around guards
      → all_hold r (with_told told (y ∷ []) (with_told told around.guards edges)) ≡ (all_hold r edges && only_with told (all_in guards && r.slots y.0))
  output_agrees told y around guards edges fits =
      one_told r told y (with_told told around.guards edges)
      ∙ ap (λ b. b && only_with told (r.slots y.0)) (told_holds r told around.guards edges)
      ∙ made_joins (all_hold r edges) told (all_in around.guards) (r.slots y.0)
      ∙ (λ i. all_hold r edges && only_with told (fits i && r.slots y.0))

  abbrev M : Type 0
  M = (s : Stmt) × Agree (with_stmt_made passed host s) (influences passed host r s)

  abbrev statements : List M → List Stmt
  statements = map {B = Stmt} (λ (m : M). m.0)

  abbrev layer : Stmt-F M → Stmt-F Stmt
  layer = map-Stmt M Stmt (λ m. m.0)

  abbrev BlockAgrees : List Stmt → Type 0
  BlockAgrees body = Agree (with_body_made passed host body) (all_close (map (influences passed host r) body))

  stmt_more : (s : Stmt) (body : List Stmt) → Agree (with_stmt_made passed host s) (influences passed host r s) → BlockAgrees body → BlockAgrees (s ∷ body)
  stmt_more s body = more_agree (with_stmt_made passed host s) (map (with_stmt_made passed host) body) (influences passed host r s) (map (influences passed host r) body)

  all_agree : (ms : List M) → BlockAgrees (statements ms)
  all_agree [] = none_agree
  all_agree (m ∷ ms) = stmt_more m.0 (statements ms) m.1 (all_agree ms)

  step : (y : Stmt-F M) → Agree (stmt_made passed host (map-Stmt Stmt Adding (with_stmt_made passed host) (layer y))) (stmt_influences passed host r (map-Stmt Stmt Closing (influences passed host r) (layer y)))
  step (Stmt-F.Let x s) = λ around guards edges fits. right_is x s around guards edges fits
  step (Stmt-F.NewVar v y) = λ around guards edges fits. made_is around guards fits v (y ∷ []) edges (r.slots y.0) (one_in y)
  step (Stmt-F.NewArray v size) = λ around guards edges fits. alone_is around guards fits v edges
  step (Stmt-F.Store v y) = λ around guards edges fits. made_is around guards fits v (y ∷ []) edges (r.slots y.0) (one_in y)
  step (Stmt-F.Put v i y) = λ around guards edges fits. made_is around guards fits v (i ∷ y ∷ []) edges (r.slots i.0 && r.slots y.0) (two_in i y)
  step (Stmt-F.Output y other offset) = λ around guards edges fits. output_agrees (nat_eq other.0 host) y around guards edges fits
  step (Stmt-F.If g a b offset) =
      if_agree g offset (map (with_stmt_made passed host) (statements a)) (map (with_stmt_made passed host) (statements b)) (map (influences passed host r) (statements a)) (map (influences passed host r) (statements b))
      (all_agree a) (all_agree b)
  step (Stmt-F.For count body) = all_agree body

  stmt_agrees : (s : Stmt) → Agree (with_stmt_made passed host s) (influences passed host r s)
  stmt_agrees = ind-Stmt (λ s. Agree (with_stmt_made passed host s) (influences passed host r s))
      (λ x y is. subst (λ z. Agree (with_stmt_made passed host (roll-Stmt z)) (influences passed host r (roll-Stmt z))) is (at_roll y))
    where
      at_roll : (y : Stmt-F M) → Agree (with_stmt_made passed host (roll-Stmt (layer y))) (influences passed host r (roll-Stmt (layer y)))
      at_roll y = rw (fold-roll-Stmt Adding (stmt_made passed host) (layer y), fold-roll-Stmt Closing (stmt_influences passed host r) (layer y)) (step y)

  body_agrees : (body : List Stmt) → BlockAgrees body
  body_agrees [] = none_agree
  body_agrees (s ∷ body) = stmt_more s body (stmt_agrees s) (body_agrees body)

  pub influences_close : (body : List Stmt) → all_hold r (influence_edges_of passed host body) ≡ all_close (map (influences passed host r) body) []
  influences_close body = body_agrees body no_guards [] [] refl

-- ---- all slots, and the first eight hosts, are closed
module _ (passed : Bool) (host n : ℕ) (few : n ≤ 8) where
  abbrev every : List SlotId → Bool
  every = list_all (λ (x : SlotId). true)

  low : (k : ℕ) → nat_lt k n ≡ true → nat_lt k 8 ≡ true
  low k is = let less = ltb-true k n is in lt-ltb k 8 (omega arith)

  abbrev declared : Stmt-F Bool → Bool
  declared = host_is_declared n

  with_true : (guards : List SlotId) → (every guards && true) ≡ true
  with_true guards = and_of (every guards) true (all_yes guards) refl

  right_is_closed : (x : SlotId) (s : Right) (guards : List SlotId) → declared (Stmt-F.Let x s) ≡ true → right_influences passed eight_hosts (every guards) x s ≡ true
  right_is_closed x (Lit k) guards is = all_yes guards
  right_is_closed x Turn guards is = all_yes guards
  right_is_closed x (Copy y) guards is = with_true guards
  right_is_closed x (Apply op ys) guards is = and_of (every guards) (every ys) (all_yes guards) (all_yes ys)
  right_is_closed x (Input other) guards is =
      and_of (nat_lt other.0 8) (only_with (nat_lt other.0 8 || true) (every guards)) (low other.0 is) (yes_where (nat_lt other.0 8 || true) (every guards) (all_yes guards))
  right_is_closed x (Declassify y to) guards is = with_true guards
  right_is_closed x (Endorse y to) guards is = and_of (every guards) (only_with passed true) (all_yes guards) (only_true passed)
  right_is_closed x (Load v) guards is = with_true guards
  right_is_closed x (Get v i) guards is = with_true guards

  abbrev Closed : Closing → Bool → Type 0
  Closed c is_declared = (guards : List SlotId) → is_declared ≡ true → c guards ≡ true

  abbrev test : Stmt-F Bool → Bool
  test s = declared s && blocks_meet s

  abbrev N : Type 0
  N = (s : Stmt) × Closed (influences passed host eight_hosts s) (meets declared s)

  abbrev stmts_of : List N → List Stmt
  stmts_of = map {B = Stmt} (λ (m : N). m.0)

  abbrev layer_of : Stmt-F N → Stmt-F Stmt
  layer_of = map-Stmt N Stmt (λ m. m.0)

  abbrev all_true : List Bool → Bool
  all_true = list_all (λ b. b)

  all_closed : (ms : List N) → Closed (all_close (map (influences passed host eight_hosts) (stmts_of ms))) (all_true (map (meets declared) (stmts_of ms)))
  all_closed [] guards is = refl
  all_closed (m ∷ ms) guards is =
      let parts = and_parts (meets declared m.0) (all_true (map (meets declared) (stmts_of ms))) is in
      and_of (influences passed host eight_hosts m.0 guards) (all_close (map (influences passed host eight_hosts) (stmts_of ms)) guards) (m.1 guards parts.0) (all_closed ms guards parts.1)

  step_closed : (y : Stmt-F N) → Closed (stmt_influences passed host eight_hosts (map-Stmt Stmt Closing (influences passed host eight_hosts) (layer_of y))) (test (map-Stmt Stmt Bool (meets declared) (layer_of y)))
  step_closed (Stmt-F.Let x s) = λ guards is. right_is_closed x s guards (and_parts (declared (Stmt-F.Let x s)) true is).0
  step_closed (Stmt-F.NewVar v y) = λ guards is. with_true guards
  step_closed (Stmt-F.NewArray v size) = λ guards is. all_yes guards
  step_closed (Stmt-F.Store v y) = λ guards is. with_true guards
  step_closed (Stmt-F.Put v i y) = λ guards is. with_true guards
  step_closed (Stmt-F.Output y other offset) = λ guards is. yes_where (nat_eq other.0 host) (every guards && true) (with_true guards)
  step_closed (Stmt-F.If g a b offset) = λ guards is.
      let first_meet = all_true (map (meets declared) (stmts_of a)) in
      let second_meet = all_true (map (meets declared) (stmts_of b)) in
      let parts = and_parts first_meet second_meet is in
      let first = all_close (map (influences passed host eight_hosts) (stmts_of a)) (g ∷ guards) in
      let second = all_close (map (influences passed host eight_hosts) (stmts_of b)) (g ∷ guards) in
      and_of first second (all_closed a (g ∷ guards) parts.0) (all_closed b (g ∷ guards) parts.1)
  step_closed (Stmt-F.For count body) = all_closed body

  stmt_closed : (s : Stmt) → Closed (influences passed host eight_hosts s) (meets declared s)
  stmt_closed = ind-Stmt (λ s. Closed (influences passed host eight_hosts s) (meets declared s))
      (λ x y is. subst (λ z. Closed (influences passed host eight_hosts (roll-Stmt z)) (meets declared (roll-Stmt z))) is (closed_at_roll y))
    where
      closed_at_roll : (y : Stmt-F N) → Closed (influences passed host eight_hosts (roll-Stmt (layer_of y))) (meets declared (roll-Stmt (layer_of y)))
      closed_at_roll y = rw (fold-roll-Stmt Closing (stmt_influences passed host eight_hosts) (layer_of y), fold-roll-Stmt Bool test (layer_of y)) (step_closed y)

  pub hosts_closed : (body : List Stmt) → all_meet declared body ≡ true → all_close (map (influences passed host eight_hosts) body) [] ≡ true
  hosts_closed [] is = refl
  hosts_closed (s ∷ body) is =
      let parts = and_parts (meets declared s) (all_meet declared body) is in
      and_of (influences passed host eight_hosts s []) (all_close (map (influences passed host eight_hosts) body) []) (stmt_closed s [] parts.0) (hosts_closed body parts.1)
