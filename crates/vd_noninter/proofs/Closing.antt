-- The edges of statements hold at a reach exactly where the statements are closed.
use Rattle.std.proofs.Common.{◌≡◌, ℕ, Bool, true, false, ◌&&◌, ◌||◌, List, [], ◌∷◌, ◌++◌, map, refl, sym, ap, ◌∙◌, subst, nat_eq}
use Rattle.std.specs.List.{list_all}
use Rattle.std.proofs.lemmas.Bool.{and_parts}
use Rattle.std.proofs.lemmas.List.Folds.{list_all-append}
use Rattle.vd_base.specs.declared.ids.SlotId.{SlotId}
use Rattle.vd_base.specs.declared.ids.HostId.{HostId}
use Rattle.vd_core.specs.declared.normal.Right.{Right}
use Rattle.vd_core.specs.declared.normal.Right.TheVariants.{Lit, Turn, Copy, Apply, Input, Declassify, Endorse, Load, Get}
use Rattle.vd_core.specs.declared.normal.Stmt.{Stmt, roll-Stmt, map-Stmt, ind-Stmt}
use Rattle.vd_core.specs.declared.normal.Stmt.TheOpen.{Stmt-F}
use Rattle.vd_core.specs.declared.normal.Stmt.TheFolds.{fold-roll-Stmt}
use Rattle.vd_constraints.specs.Scoped.{is_below, right_below, stmt_below, slots_below, block_below}
use Rattle.vd_noninter.specs.Flowing.{only_with}
use Rattle.vd_noninter.specs.NoninterLawsDependence.{Reach, right_closes, Closing, all_close, stmt_closes, closes}
use Rattle.vd_noninter.specs.declared.edge.Node.{Node}
use Rattle.vd_noninter.specs.declared.edge.Node.TheVariants.{Told, Slot, Inputs}
use Rattle.vd_noninter.specs.declared.edge.Edge.{Edge}
use Rattle.vd_noninter.specs.declared.around.Around.{Around}
use Rattle.vd_noninter.specs.Edges.{within, with_slots, with_told, with_made, with_parts, with_input, right_edges, in_order, Adding, stmt_edges, with_stmt, with_body, no_guards, edges_of}
use Rattle.vd_noninter.specs.Reached.{in_reach, holds, all_hold}

-- ---- tests
pub and_true : (b : Bool) → (b && true) ≡ b
and_true true = refl
and_true false = refl

and_same : (b : Bool) → (b && b) ≡ b
and_same true = refl
and_same false = refl

pub and_swap : (a b : Bool) → (a && b) ≡ (b && a)
and_swap true true = refl
and_swap true false = refl
and_swap false true = refl
and_swap false false = refl

pub and_joins : (a b c : Bool) → ((a && b) && c) ≡ (a && (b && c))
and_joins true b c = refl
and_joins false b c = refl

pub only_true : (a : Bool) → only_with a true ≡ true
only_true true = refl
only_true false = refl

only_joins : (a b c : Bool) → (only_with a b && only_with a c) ≡ only_with a (b && c)
only_joins true b c = refl
only_joins false b c = refl

-- what is asked of a slot, of the guards around it and of its parts; then one thing more, and two
pub alone : (all x around : Bool) → ((all && only_with x around) && only_with x true) ≡ (all && only_with x around)
alone false x around = refl
alone true true around = and_true around
alone true false around = refl

one_more : (all x around parts more : Bool) → (((all && only_with x around) && only_with x parts) && more) ≡ (all && (only_with x (around && parts) && more))
one_more false x around parts more = refl
one_more true true around parts more = refl
one_more true false around parts more = refl

two_more : (all x around parts more last : Bool) → ((((all && only_with x around) && only_with x parts) && more) && last) ≡ (all && (only_with x (around && parts) && (more && last)))
two_more false x around parts more last = refl
two_more true true around parts more last = and_joins (around && parts) more last
two_more true false around parts more last = refl

input_asks : (all x host around : Bool) → (((all && (only_with x host && true)) && only_with x around) && only_with host around) ≡ (all && (only_with x host && only_with (host || x) around))
input_asks false x host around = refl
input_asks true false false around = refl
input_asks true false true around = refl
input_asks true true false around = refl
input_asks true true true around = and_same around

module _ (r : Reach) where
  abbrev all_in : List SlotId → Bool
  all_in = list_all (λ y. r.slots y.0)

  slots_hold : (from : Node) (ys : List SlotId) → all_hold r (map (λ y. record { from = from; to = Slot y }) ys) ≡ only_with (in_reach r from) (all_in ys)
  slots_hold from [] = sym (only_true (in_reach r from))
  slots_hold from (y ∷ ys) = (λ i. only_with (in_reach r from) (r.slots y.0) && slots_hold from ys i) ∙ only_joins (in_reach r from) (r.slots y.0) (all_in ys)

  with_slots_holds : (from : Node) (ys : List SlotId) (edges : List Edge) → all_hold r (with_slots from ys edges) ≡ (all_hold r edges && only_with (in_reach r from) (all_in ys))
  with_slots_holds from ys edges = list_all-append (holds r) edges (map (λ y. record { from = from; to = Slot y }) ys) ∙ ap (λ b. all_hold r edges && b) (slots_hold from ys)

  pub told_holds : (told : Bool) (ys : List SlotId) (edges : List Edge) → all_hold r (with_told told ys edges) ≡ (all_hold r edges && only_with told (all_in ys))
  told_holds true ys edges = with_slots_holds Told ys edges
  told_holds false ys edges = sym (and_true (all_hold r edges))

  pub one_told : (told : Bool) (y : SlotId) (edges : List Edge) → all_hold r (with_told told (y ∷ []) edges) ≡ (all_hold r edges && only_with told (r.slots y.0))
  one_told told y edges = told_holds told (y ∷ []) edges ∙ ap (λ b. all_hold r edges && only_with told b) (and_true (r.slots y.0))

  pub made_holds : (around : Around) (x : SlotId) (ys : List SlotId) (edges : List Edge)
      → all_hold r (with_made around x ys edges) ≡ ((all_hold r edges && only_with (r.slots x.0) (all_in around.guards)) && only_with (r.slots x.0) (all_in ys))
  made_holds around x ys edges =
      with_slots_holds (Slot x) ys (with_slots (Slot x) around.guards edges) ∙ ap (λ b. b && only_with (r.slots x.0) (all_in ys)) (with_slots_holds (Slot x) around.guards edges)

  pub input_holds : (around : Around) (x : SlotId) (host : HostId) (edges : List Edge)
      → all_hold r (with_input around x host edges) ≡ (all_hold r edges && (only_with (r.slots x.0) (r.hosts host.0) && only_with (r.hosts host.0 || r.slots x.0) (all_in around.guards)))
  input_holds around x host edges =
      let edge : Edge = record { from = Slot x; to = Inputs host } in
      let G = all_in around.guards in
      with_slots_holds (Inputs host) around.guards (with_slots (Slot x) around.guards (edges ++ edge ∷ []))
      ∙ ap (λ b. b && only_with (r.hosts host.0) G) (with_slots_holds (Slot x) around.guards (edges ++ edge ∷ []))
      ∙ ap (λ b. (b && only_with (r.slots x.0) G) && only_with (r.hosts host.0) G) (list_all-append (holds r) edges (edge ∷ []))
      ∙ input_asks (all_hold r edges) (r.slots x.0) (r.hosts host.0) G

  -- ---- the table of what the host reads is right for the slots of the program
  module _ (reads table : ℕ → Bool) (host n : ℕ) (same : (x : SlotId) → is_below n x ≡ true → table x.0 ≡ reads x.0) where
    abbrev all_read : List SlotId → Bool
    all_read = list_all (λ g. reads g.0)

    record Fits (around : Around) (guards : List SlotId) : Type 0 where
      reached : all_in around.guards ≡ all_in guards
      told : around.told ≡ all_read guards

    alone_holds : (around : Around) (guards : List SlotId) → Fits around guards → (x : SlotId) (edges : List Edge)
        → all_hold r (with_made around x [] edges) ≡ (all_hold r edges && only_with (r.slots x.0) (all_in guards))
    alone_holds around guards fits x edges =
        made_holds around x [] edges ∙ alone (all_hold r edges) (r.slots x.0) (all_in around.guards) ∙ ap (λ b. all_hold r edges && only_with (r.slots x.0) b) fits.reached

    -- and something more is asked
    made_and : (around : Around) (guards : List SlotId) → Fits around guards → (x : SlotId) (ys : List SlotId) (edges : List Edge) (parts more : Bool) → all_in ys ≡ parts
        → (all_hold r (with_made around x ys edges) && more) ≡ (all_hold r edges && (only_with (r.slots x.0) (all_in guards && parts) && more))
    made_and around guards fits x ys edges parts more is =
        ap (λ b. b && more) (made_holds around x ys edges)
        ∙ one_more (all_hold r edges) (r.slots x.0) (all_in around.guards) (all_in ys) more
        ∙ (λ i. all_hold r edges && (only_with (r.slots x.0) (fits.reached i && is i) && more))

    made_and_two : (around : Around) (guards : List SlotId) → Fits around guards → (x : SlotId) (ys : List SlotId) (edges : List Edge) (parts more last : Bool) → all_in ys ≡ parts
        → ((all_hold r (with_made around x ys edges) && more) && last) ≡ (all_hold r edges && (only_with (r.slots x.0) (all_in guards && parts) && (more && last)))
    made_and_two around guards fits x ys edges parts more last is =
        ap (λ b. (b && more) && last) (made_holds around x ys edges)
        ∙ two_more (all_hold r edges) (r.slots x.0) (all_in around.guards) (all_in ys) more last
        ∙ (λ i. all_hold r edges && (only_with (r.slots x.0) (fits.reached i && is i) && (more && last)))

    told_where : (around : Around) (guards : List SlotId) → Fits around guards → (x : SlotId) → is_below n x ≡ true → (around.told && table x.0) ≡ (all_read guards && reads x.0)
    told_where around guards fits x low = λ i. fits.told i && same x low i

    parts_hold : (around : Around) (guards : List SlotId) → Fits around guards → (x : SlotId) → is_below n x ≡ true → (ys : List SlotId) (edges : List Edge) (parts : Bool) → all_in ys ≡ parts
        → all_hold r (with_parts around (table x.0) x ys edges) ≡ (all_hold r edges && (only_with (r.slots x.0) (all_in guards && parts) && only_with (all_read guards && reads x.0) parts))
    parts_hold around guards fits x low ys edges parts is =
        told_holds (around.told && table x.0) ys (with_made around x ys edges)
        ∙ (λ i. all_hold r (with_made around x ys edges) && only_with (told_where around guards fits x low i) (is i))
        ∙ made_and around guards fits x ys edges parts (only_with (all_read guards && reads x.0) parts) is

    -- two slots told of what is made
    two_told : (around : Around) (guards : List SlotId) → Fits around guards → (x a y b z : SlotId) → is_below n a ≡ true → is_below n b ≡ true → (ys : List SlotId) (edges : List Edge) (parts : Bool) → all_in ys ≡ parts
        → all_hold r (with_told (around.told && table b.0) (z ∷ []) (with_told (around.told && table a.0) (y ∷ []) (with_made around x ys edges)))
        ≡ (all_hold r edges && (only_with (r.slots x.0) (all_in guards && parts) && (only_with (all_read guards && reads a.0) (r.slots y.0) && only_with (all_read guards && reads b.0) (r.slots z.0))))
    two_told around guards fits x a y b z low_a low_b ys edges parts is =
        one_told (around.told && table b.0) z (with_told (around.told && table a.0) (y ∷ []) (with_made around x ys edges))
        ∙ ap (λ c. c && only_with (around.told && table b.0) (r.slots z.0)) (one_told (around.told && table a.0) y (with_made around x ys edges))
        ∙ (λ i. (all_hold r (with_made around x ys edges) && only_with (told_where around guards fits a low_a i) (r.slots y.0)) && only_with (told_where around guards fits b low_b i) (r.slots z.0))
        ∙ made_and_two around guards fits x ys edges parts (only_with (all_read guards && reads a.0) (r.slots y.0)) (only_with (all_read guards && reads b.0) (r.slots z.0)) is

    one_in : (y : SlotId) → all_in (y ∷ []) ≡ r.slots y.0
    one_in y = and_true (r.slots y.0)

    two_in : (y z : SlotId) → all_in (y ∷ z ∷ []) ≡ (r.slots y.0 && r.slots z.0)
    two_in y z = ap (λ b. r.slots y.0 && b) (and_true (r.slots z.0))

    -- a slot that is told itself
    self_told : (around : Around) (guards : List SlotId) → Fits around guards → (x : SlotId) → is_below n x ≡ true → (edges : List Edge)
        → all_hold r (with_told (around.told && table x.0) (x ∷ []) edges) ≡ (all_hold r edges && only_with (all_read guards && reads x.0) (r.slots x.0))
    self_told around guards fits x low edges = one_told (around.told && table x.0) x edges ∙ ap (λ b. all_hold r edges && only_with b (r.slots x.0)) (told_where around guards fits x low)

    right_holds : (x : SlotId) (s : Right) (around : Around) (guards : List SlotId) (edges : List Edge) → is_below n x ≡ true → right_below n s ≡ true → Fits around guards
        → all_hold r (right_edges table x s around edges) ≡ (all_hold r edges && right_closes reads r (all_in guards) (all_read guards) x s)
    right_holds x (Lit k) around guards edges low lows fits = alone_holds around guards fits x edges
    right_holds x Turn around guards edges low lows fits = alone_holds around guards fits x edges
    right_holds x (Copy y) around guards edges low lows fits = parts_hold around guards fits x low (y ∷ []) edges (r.slots y.0) (one_in y)
    right_holds x (Apply op ys) around guards edges low lows fits = parts_hold around guards fits x low ys edges (all_in ys) refl
    right_holds x (Input other) around guards edges low lows fits =
        input_holds around x other edges ∙ ap (λ b. all_hold r edges && (only_with (r.slots x.0) (r.hosts other.0) && only_with (r.hosts other.0 || r.slots x.0) b)) fits.reached
    right_holds x (Declassify y to) around guards edges low lows fits =
        self_told around guards fits x low (with_made around x [] edges)
        ∙ ap (λ b. b && only_with (all_read guards && reads x.0) (r.slots x.0)) (alone_holds around guards fits x edges)
        ∙ and_joins (all_hold r edges) (only_with (r.slots x.0) (all_in guards)) (only_with (all_read guards && reads x.0) (r.slots x.0))
    right_holds x (Endorse y to) around guards edges low lows fits = parts_hold around guards fits x low (y ∷ []) edges (r.slots y.0) (one_in y)
    right_holds x (Load v) around guards edges low lows fits =
        self_told around guards fits x low (with_made around x (v ∷ []) edges)
        ∙ made_and around guards fits x (v ∷ []) edges (r.slots v.0) (only_with (all_read guards && reads x.0) (r.slots x.0)) (one_in v)
    right_holds x (Get v i) around guards edges low lows fits =
        let parts = and_parts (is_below n v) (is_below n i) lows in
        two_told around guards fits x x x i i low parts.1 (v ∷ i ∷ []) edges (r.slots v.0 && r.slots i.0) (two_in v i)

    -- ---- statements
    abbrev Agree : Adding → Closing → Bool → Type 0
    Agree add c below = (around : Around) (guards : List SlotId) (edges : List Edge) → below ≡ true → Fits around guards → all_hold r (add around edges) ≡ (all_hold r edges && c guards)

    abbrev all_true : List Bool → Bool
    all_true = list_all (λ b. b)

    none_agree : Agree (in_order []) (all_close []) (all_true [])
    none_agree around guards edges low fits = sym (and_true (all_hold r edges))

    more_agree : (add : Adding) (adds : List Adding) (c : Closing) (cs : List Closing) (below : Bool) (belows : List Bool) → Agree add c below → Agree (in_order adds) (all_close cs) (all_true belows)
        → Agree (in_order (add ∷ adds)) (all_close (c ∷ cs)) (all_true (below ∷ belows))
    more_agree add adds c cs below belows first rest around guards edges low fits =
        let lows = and_parts below (all_true belows) low in
        rest around guards (add around edges) lows.1 fits ∙ ap (λ b. b && all_close cs guards) (first around guards edges lows.0 fits) ∙ and_joins (all_hold r edges) (c guards) (all_close cs guards)

    inner_fits : (around : Around) (guards : List SlotId) (g : SlotId) → is_below n g ≡ true → Fits around guards → Fits (within around g (table g.0)) (g ∷ guards)
    inner_fits around guards g low fits = record {
      reached = list_all-append (λ y. r.slots y.0) around.guards (g ∷ []) ∙ (λ i. fits.reached i && and_true (r.slots g.0) i) ∙ and_swap (all_in guards) (r.slots g.0);
      told = told_where around guards fits g low ∙ and_swap (all_read guards) (reads g.0);
    }

    if_agree : (g : SlotId) (offset : ℕ) (adds_a adds_b : List Adding) (cs ds : List Closing) (low_a low_b : List Bool) → Agree (in_order adds_a) (all_close cs) (all_true low_a) → Agree (in_order adds_b) (all_close ds) (all_true low_b)
        → Agree (stmt_edges table host (Stmt-F.If g adds_a adds_b offset)) (stmt_closes reads host r (Stmt-F.If g cs ds offset)) (stmt_below n (Stmt-F.If g low_a low_b offset))
    if_agree g offset adds_a adds_b cs ds low_a low_b first second around guards edges low fits =
        let lows = and_parts (is_below n g && all_true low_a) (all_true low_b) low in
        let front = and_parts (is_below n g) (all_true low_a) lows.0 in
        let inner = within around g (table g.0) in
        let inside = inner_fits around guards g front.0 fits in
        let told = with_told (around.told && table g.0) (g ∷ []) edges in
        let asked = only_with (all_read guards && reads g.0) (r.slots g.0) in
        let a = all_close cs (g ∷ guards) in
        let b = all_close ds (g ∷ guards) in
        second inner (g ∷ guards) (in_order adds_a inner told) lows.1 inside
        ∙ ap (λ z. z && b) (first inner (g ∷ guards) told front.1 inside)
        ∙ ap (λ z. (z && a) && b) (self_told around guards fits g front.0 edges)
        ∙ ap (λ z. z && b) (and_joins (all_hold r edges) asked a)
        ∙ and_joins (all_hold r edges) (asked && a) b
        ∙ ap (λ z. all_hold r edges && z) (and_joins asked a b)

    abbrev M : Type 0
    M = (s : Stmt) × Agree (with_stmt table host s) (closes reads host r s) (slots_below n s)

    abbrev statements : List M → List Stmt
    statements = map {B = Stmt} (λ (m : M). m.0)

    abbrev layer : Stmt-F M → Stmt-F Stmt
    layer = map-Stmt M Stmt (λ m. m.0)

    abbrev BlockAgrees : List Stmt → Type 0
    BlockAgrees body = Agree (with_body table host body) (all_close (map (closes reads host r) body)) (block_below n body)

    stmt_more : (s : Stmt) (body : List Stmt) → Agree (with_stmt table host s) (closes reads host r s) (slots_below n s) → BlockAgrees body → BlockAgrees (s ∷ body)
    stmt_more s body = more_agree (with_stmt table host s) (map (with_stmt table host) body) (closes reads host r s) (map (closes reads host r) body) (slots_below n s) (map (slots_below n) body)

    all_agree : (ms : List M) → BlockAgrees (statements ms)
    all_agree [] = none_agree
    all_agree (m ∷ ms) = stmt_more m.0 (statements ms) m.1 (all_agree ms)

    step : (y : Stmt-F M) → Agree (stmt_edges table host (map-Stmt Stmt Adding (with_stmt table host) (layer y))) (stmt_closes reads host r (map-Stmt Stmt Closing (closes reads host r) (layer y))) (stmt_below n (map-Stmt Stmt Bool (slots_below n) (layer y)))
    step (Stmt-F.Let x s) = λ around guards edges low fits. let lows = and_parts (is_below n x) (right_below n s) low in right_holds x s around guards edges lows.0 lows.1 fits
    step (Stmt-F.NewVar v y) = λ around guards edges low fits. let lows = and_parts (is_below n v) (is_below n y) low in parts_hold around guards fits v lows.0 (y ∷ []) edges (r.slots y.0) (one_in y)
    step (Stmt-F.NewArray v size) = λ around guards edges low fits. sym (and_true (all_hold r edges))
    step (Stmt-F.Store v y) = λ around guards edges low fits. let lows = and_parts (is_below n v) (is_below n y) low in parts_hold around guards fits v lows.0 (y ∷ []) edges (r.slots y.0) (one_in y)
    step (Stmt-F.Put v i y) = λ around guards edges low fits.
        let lows = and_parts (is_below n v && is_below n i) (is_below n y) low in
        let front = and_parts (is_below n v) (is_below n i) lows.0 in
        two_told around guards fits v v y i i front.0 front.1 (i ∷ y ∷ []) edges (r.slots i.0 && r.slots y.0) (two_in i y)
    step (Stmt-F.Output y other offset) = λ around guards edges low fits.
        one_told (around.told && nat_eq other.0 host) y edges ∙ ap (λ b. all_hold r edges && only_with (b && nat_eq other.0 host) (r.slots y.0)) fits.told
    step (Stmt-F.If g a b offset) =
        if_agree g offset (map (with_stmt table host) (statements a)) (map (with_stmt table host) (statements b)) (map (closes reads host r) (statements a)) (map (closes reads host r) (statements b))
        (map (slots_below n) (statements a)) (map (slots_below n) (statements b)) (all_agree a) (all_agree b)
    step (Stmt-F.For count body) = all_agree body

    stmt_agrees : (s : Stmt) → Agree (with_stmt table host s) (closes reads host r s) (slots_below n s)
    stmt_agrees = ind-Stmt (λ s. Agree (with_stmt table host s) (closes reads host r s) (slots_below n s))
        (λ x y is. subst (λ z. Agree (with_stmt table host (roll-Stmt z)) (closes reads host r (roll-Stmt z)) (slots_below n (roll-Stmt z))) is (at_roll y))
      where
        at_roll : (y : Stmt-F M) → Agree (with_stmt table host (roll-Stmt (layer y))) (closes reads host r (roll-Stmt (layer y))) (slots_below n (roll-Stmt (layer y)))
        at_roll y =
            rw (
              fold-roll-Stmt Adding (stmt_edges table host) (layer y),
              fold-roll-Stmt Closing (stmt_closes reads host r) (layer y),
              fold-roll-Stmt Bool (stmt_below n) (layer y),
            ) (step y)

    body_agrees : (body : List Stmt) → BlockAgrees body
    body_agrees [] = none_agree
    body_agrees (s ∷ body) = stmt_more s body (stmt_agrees s) (body_agrees body)

    pub edges_close : (body : List Stmt) → block_below n body ≡ true → all_hold r (edges_of table host body) ≡ all_close (map (closes reads host r) body) []
    edges_close body low = body_agrees body no_guards [] [] low (record { reached = refl; told = refl })
