-- All slots, and the first eight hosts, are closed in every program.
use Rattle.std.proofs.Common.{◌≡◌, ℕ, ◌≤◌, Bool, true, false, ◌&&◌, ◌||◌, List, [], ◌∷◌, map, refl, subst, arith, nat_eq, nat_lt}
use Rattle.std.specs.List.{list_all}
use Rattle.std.proofs.lemmas.Bool.{and_parts, ltb-true, lt-ltb}
use Rattle.vd_base.specs.declared.ids.SlotId.{SlotId}
use Rattle.vd_core.specs.declared.normal.Right.{Right}
use Rattle.vd_core.specs.declared.normal.Right.TheVariants.{Lit, Turn, Copy, Apply, Input, Declassify, Endorse, Load, Get}
use Rattle.vd_core.specs.declared.normal.Stmt.{Stmt, roll-Stmt, map-Stmt, ind-Stmt}
use Rattle.vd_core.specs.declared.normal.Stmt.TheOpen.{Stmt-F}
use Rattle.vd_core.specs.declared.normal.Stmt.TheFolds.{fold-roll-Stmt}
use Rattle.vd_core.specs.Facts.{blocks_meet, meets, all_meet, host_is_declared}
use Rattle.vd_noninter.specs.Flowing.{only_with}
use Rattle.vd_noninter.specs.NoninterLawsDependence.{Reach, right_closes, Closing, all_close, stmt_closes, closes}
use Rattle.vd_noninter.proofs.Lawful.{and_of}
use Rattle.vd_noninter.proofs.Closing.{only_true}

abbrev pub eight_hosts : Reach
eight_hosts = record { slots = λ x. true; hosts = λ k. nat_lt k 8 }

pub all_yes : (xs : List SlotId) → list_all (λ (x : SlotId). true) xs ≡ true
all_yes [] = refl
all_yes (x ∷ xs) = all_yes xs

pub yes_where : (a b : Bool) → b ≡ true → only_with a b ≡ true
yes_where true b is = is
yes_where false b is = refl

module _ (reads : ℕ → Bool) (host n : ℕ) (few : n ≤ 8) where
  abbrev all_in : List SlotId → Bool
  all_in = list_all (λ (x : SlotId). true)

  low : (k : ℕ) → nat_lt k n ≡ true → nat_lt k 8 ≡ true
  low k is = let less = ltb-true k n is in lt-ltb k 8 (omega arith)

  abbrev declared : Stmt-F Bool → Bool
  declared = host_is_declared n

  right_is_closed : (x : SlotId) (s : Right) (guards : List SlotId) (told : Bool) → declared (Stmt-F.Let x s) ≡ true → right_closes reads eight_hosts (all_in guards) told x s ≡ true
  right_is_closed x (Lit k) guards told is = all_yes guards
  right_is_closed x Turn guards told is = all_yes guards
  right_is_closed x (Copy y) guards told is = and_of (all_in guards && true) (only_with (told && reads x.0) true) (and_of (all_in guards) true (all_yes guards) refl) (only_true (told && reads x.0))
  right_is_closed x (Apply op ys) guards told is =
      and_of (all_in guards && all_in ys) (only_with (told && reads x.0) (all_in ys)) (and_of (all_in guards) (all_in ys) (all_yes guards) (all_yes ys)) (yes_where (told && reads x.0) (all_in ys) (all_yes ys))
  right_is_closed x (Input other) guards told is =
      and_of (nat_lt other.0 8) (only_with (nat_lt other.0 8 || true) (all_in guards)) (low other.0 is) (yes_where (nat_lt other.0 8 || true) (all_in guards) (all_yes guards))
  right_is_closed x (Declassify y to) guards told is = and_of (all_in guards) (only_with (told && reads x.0) true) (all_yes guards) (only_true (told && reads x.0))
  right_is_closed x (Endorse y to) guards told is = and_of (all_in guards && true) (only_with (told && reads x.0) true) (and_of (all_in guards) true (all_yes guards) refl) (only_true (told && reads x.0))
  right_is_closed x (Load v) guards told is = and_of (all_in guards && true) (only_with (told && reads x.0) true) (and_of (all_in guards) true (all_yes guards) refl) (only_true (told && reads x.0))
  right_is_closed x (Get v i) guards told is =
      and_of (all_in guards && true) (only_with (told && reads x.0) true && only_with (told && reads i.0) true) (and_of (all_in guards) true (all_yes guards) refl)
      (and_of (only_with (told && reads x.0) true) (only_with (told && reads i.0) true) (only_true (told && reads x.0)) (only_true (told && reads i.0)))

  abbrev Closed : Closing → Bool → Type 0
  Closed c is_declared = (guards : List SlotId) → is_declared ≡ true → c guards ≡ true

  abbrev test : Stmt-F Bool → Bool
  test s = declared s && blocks_meet s

  abbrev M : Type 0
  M = (s : Stmt) × Closed (closes reads host eight_hosts s) (meets declared s)

  abbrev statements : List M → List Stmt
  statements = map {B = Stmt} (λ (m : M). m.0)

  abbrev layer : Stmt-F M → Stmt-F Stmt
  layer = map-Stmt M Stmt (λ m. m.0)

  abbrev all_true : List Bool → Bool
  all_true = list_all (λ b. b)

  all_closed : (ms : List M) → Closed (all_close (map (closes reads host eight_hosts) (statements ms))) (all_true (map (meets declared) (statements ms)))
  all_closed [] guards is = refl
  all_closed (m ∷ ms) guards is =
      let parts = and_parts (meets declared m.0) (all_true (map (meets declared) (statements ms))) is in
      and_of (closes reads host eight_hosts m.0 guards) (all_close (map (closes reads host eight_hosts) (statements ms)) guards) (m.1 guards parts.0) (all_closed ms guards parts.1)

  store_closed : (v y : SlotId) (guards : List SlotId) → ((all_in guards && true) && only_with (list_all (λ g. reads g.0) guards && reads v.0) true) ≡ true
  store_closed v y guards =
      and_of (all_in guards && true) (only_with (list_all (λ g. reads g.0) guards && reads v.0) true) (and_of (all_in guards) true (all_yes guards) refl) (only_true (list_all (λ g. reads g.0) guards && reads v.0))

  step : (y : Stmt-F M) → Closed (stmt_closes reads host eight_hosts (map-Stmt Stmt Closing (closes reads host eight_hosts) (layer y))) (test (map-Stmt Stmt Bool (meets declared) (layer y)))
  step (Stmt-F.Let x s) = λ guards is. right_is_closed x s guards (list_all (λ g. reads g.0) guards) (and_parts (declared (Stmt-F.Let x s)) true is).0
  step (Stmt-F.NewVar v y) = λ guards is. store_closed v y guards
  step (Stmt-F.NewArray v size) = λ guards is. refl
  step (Stmt-F.Store v y) = λ guards is. store_closed v y guards
  step (Stmt-F.Put v i y) = λ guards is.
      let told = list_all (λ g. reads g.0) guards in
      and_of (all_in guards && true) (only_with (told && reads v.0) true && only_with (told && reads i.0) true) (and_of (all_in guards) true (all_yes guards) refl)
      (and_of (only_with (told && reads v.0) true) (only_with (told && reads i.0) true) (only_true (told && reads v.0)) (only_true (told && reads i.0)))
  step (Stmt-F.Output y other offset) = λ guards is. only_true (list_all (λ g. reads g.0) guards && nat_eq other.0 host)
  step (Stmt-F.If g a b offset) = λ guards is.
      let first_meet = all_true (map (meets declared) (statements a)) in
      let second_meet = all_true (map (meets declared) (statements b)) in
      let parts = and_parts first_meet second_meet is in
      let first = all_close (map (closes reads host eight_hosts) (statements a)) (g ∷ guards) in
      let second = all_close (map (closes reads host eight_hosts) (statements b)) (g ∷ guards) in
      let asked = list_all (λ x. reads x.0) guards && reads g.0 in
      and_of (only_with asked true) (first && second) (only_true asked) (and_of first second (all_closed a (g ∷ guards) parts.0) (all_closed b (g ∷ guards) parts.1))
  step (Stmt-F.For count body) = all_closed body

  stmt_closed : (s : Stmt) → Closed (closes reads host eight_hosts s) (meets declared s)
  stmt_closed = ind-Stmt (λ s. Closed (closes reads host eight_hosts s) (meets declared s))
      (λ x y is. subst (λ z. Closed (closes reads host eight_hosts (roll-Stmt z)) (meets declared (roll-Stmt z))) is (at_roll y))
    where
      at_roll : (y : Stmt-F M) → Closed (closes reads host eight_hosts (roll-Stmt (layer y))) (meets declared (roll-Stmt (layer y)))
      at_roll y = rw (fold-roll-Stmt Closing (stmt_closes reads host eight_hosts) (layer y), fold-roll-Stmt Bool test (layer y)) (step y)

  pub body_closed : (body : List Stmt) → all_meet declared body ≡ true → all_close (map (closes reads host eight_hosts) body) [] ≡ true
  body_closed [] is = refl
  body_closed (s ∷ body) is =
      let parts = and_parts (meets declared s) (all_meet declared body) is in
      and_of (closes reads host eight_hosts s []) (all_close (map (closes reads host eight_hosts) body) []) (stmt_closed s [] parts.0) (body_closed body parts.1)
