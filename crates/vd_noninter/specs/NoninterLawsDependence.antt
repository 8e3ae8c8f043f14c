-- Which slots, and the inputs of which hosts, the words depend on that reach a host in clear.
use Rattle.std.specs.Prelude.{◌≡◌, ℕ, nat_eq, Bool, true, ◌&&◌, ◌||◌, List, [], ◌∷◌, map}
use Rattle.std.specs.List.{list_all}
use Rattle.vd_base.specs.declared.ids.SlotId.{SlotId}
use Rattle.vd_base.specs.declared.ids.HostId.{HostId}
use Rattle.vd_core.specs.declared.normal.Right.{Right}
use Rattle.vd_core.specs.declared.normal.Right.TheVariants.{Lit, Turn, Copy, Apply, Input, Declassify, Endorse, Load, Get}
use Rattle.vd_core.specs.declared.normal.Stmt.{Stmt}
use Rattle.vd_core.specs.declared.normal.Stmt.TheOpen.{Stmt-F}
use Rattle.vd_core.specs.declared.normal.Stmt.TheFolds.{fold-Stmt}
use Rattle.vd_core.specs.declared.normal.NormalForm.{NormalForm}
use Rattle.vd_core.specs.Facts.{IsWellMade}
use Rattle.vd_constraints.specs.declared.labels.Labels.{Labels}
use Rattle.vd_constraints.specs.Rules.{system_of}
use Rattle.vd_constraints.specs.Satisfies.{Satisfies}
use Rattle.vd_noninter.specs.Flowing.{only_with}
use Rattle.vd_noninter.specs.Reading.{reads_slot, reads_result, reads_host, in_view, LearnsOnly}

-- slots, and hosts whose inputs are among them
pub record Reach : Type 0 where
  pub slots : ℕ → Bool
  pub hosts : ℕ → Bool

-- a right side asks this of a reach, where it makes x; `around` tells whether all guards around it are reached, `told`
-- whether the host reads them all
abbrev pub right_closes : (ℕ → Bool) → Reach → Bool → Bool → SlotId → Right → Bool
right_closes reads r around told x (Lit n) = only_with (r.slots x.0) around
right_closes reads r around told x Turn = only_with (r.slots x.0) around
right_closes reads r around told x (Copy y) = only_with (r.slots x.0) (around && r.slots y.0) && only_with (told && reads x.0) (r.slots y.0)
right_closes reads r around told x (Apply op ys) =
    only_with (r.slots x.0) (around && list_all (λ y. r.slots y.0) ys) && only_with (told && reads x.0) (list_all (λ y. r.slots y.0) ys)
right_closes reads r around told x (Input host) = only_with (r.slots x.0) (r.hosts host.0) && only_with (r.hosts host.0 || r.slots x.0) around
right_closes reads r around told x (Declassify y to) = only_with (r.slots x.0) around && only_with (told && reads x.0) (r.slots x.0)
right_closes reads r around told x (Endorse y to) = only_with (r.slots x.0) (around && r.slots y.0) && only_with (told && reads x.0) (r.slots y.0)
right_closes reads r around told x (Load v) = only_with (r.slots x.0) (around && r.slots v.0) && only_with (told && reads x.0) (r.slots x.0)
right_closes reads r around told x (Get v i) =
    only_with (r.slots x.0) (around && (r.slots v.0 && r.slots i.0)) && (only_with (told && reads x.0) (r.slots x.0) && only_with (told && reads i.0) (r.slots i.0))

-- by the guards around a statement
abbrev pub Closing : Type 0
Closing = List SlotId → Bool

abbrev pub all_close : List Closing → Closing
all_close cs guards = list_all (λ (c : Closing). c guards) cs

abbrev pub stmt_closes : (ℕ → Bool) → ℕ → Reach → Stmt-F Closing → Closing
stmt_closes reads host r (Stmt-F.Let x right) guards = right_closes reads r (list_all (λ g. r.slots g.0) guards) (list_all (λ g. reads g.0) guards) x right
stmt_closes reads host r (Stmt-F.NewVar v y) guards =
    only_with (r.slots v.0) (list_all (λ g. r.slots g.0) guards && r.slots y.0) && only_with (list_all (λ g. reads g.0) guards && reads v.0) (r.slots y.0)
stmt_closes reads host r (Stmt-F.NewArray v size) guards = true
stmt_closes reads host r (Stmt-F.Store v y) guards =
    only_with (r.slots v.0) (list_all (λ g. r.slots g.0) guards && r.slots y.0) && only_with (list_all (λ g. reads g.0) guards && reads v.0) (r.slots y.0)
stmt_closes reads host r (Stmt-F.Put v i y) guards =
    only_with (r.slots v.0) (list_all (λ g. r.slots g.0) guards && (r.slots i.0 && r.slots y.0))
    && (only_with (list_all (λ g. reads g.0) guards && reads v.0) (r.slots y.0) && only_with (list_all (λ g. reads g.0) guards && reads i.0) (r.slots i.0))
stmt_closes reads host r (Stmt-F.Output y other offset) guards = only_with (list_all (λ g. reads g.0) guards && nat_eq other.0 host) (r.slots y.0)
stmt_closes reads host r (Stmt-F.If g then_block else_block offset) guards =
    only_with (list_all (λ g. reads g.0) guards && reads g.0) (r.slots g.0) && (all_close then_block (g ∷ guards) && all_close else_block (g ∷ guards))
stmt_closes reads host r (Stmt-F.For count body) guards = all_close body guards

abbrev pub closes : (ℕ → Bool) → ℕ → Reach → Stmt → Closing
closes reads host r = fold-Stmt Closing (stmt_closes reads host r)

-- It has the first slots of the host, and goes on from each slot that it has.
abbrev pub IsClosed : NormalForm → Labels → HostId → Reach → Type 0
IsClosed p l h r = all_close (map (closes (reads_slot p l h) h.0 r) p.body) [] ≡ true

pub record IsWithin (r other : Reach) : Type 0 where
  pub slots : (x : ℕ) → r.slots x ≡ true → other.slots x ≡ true
  pub hosts : (k : ℕ) → r.hosts k ≡ true → other.hosts k ≡ true

-- the slots and hosts that are reached from the first slots of the host, and no other
pub record IsDependence (p : NormalForm) (l : Labels) (h : HostId) (r : Reach) : Type 0 where
  pub closed : IsClosed p l h r
  pub least : (other : Reach) → IsClosed p l h other → IsWithin r other

-- of these, the slots in the host's view
abbrev pub reached_in_view : NormalForm → Labels → HostId → Reach → ℕ → Bool
reached_in_view p l h r x = in_view p l h x && r.slots x

-- these hosts are those whose inputs are reached, and no other
pub record AreReached (p : NormalForm) (l : Labels) (h : HostId) (hosts : ℕ → Bool) : Type 0 where
  pub reach : Reach
  pub dependence : IsDependence p l h reach
  pub same : (k : ℕ) → hosts k ≡ reach.hosts k

-- the host may read each of these
abbrev pub AreReadable : NormalForm → HostId → (ℕ → Bool) → Type 0
AreReadable p h hosts = (k : ℕ) → hosts k ≡ true → reads_host p h k ≡ true

-- what reaches the host depends on the inputs of these hosts alone
abbrev pub AreEnough : NormalForm → Labels → HostId → (ℕ → Bool) → Type 0
AreEnough p l h hosts = (r : Reach) → IsDependence p l h r → LearnsOnly p h (reads_result p l h) hosts (reached_in_view p l h r)

-- at most one set of hosts has this property
abbrev pub IsSingle : ((ℕ → Bool) → Type 0) → Type 0
IsSingle P = (hosts others : ℕ → Bool) → P hosts → P others → (k : ℕ) → hosts k ≡ others k

-- of each host of a well-made program whose labels keep its flow rules
abbrev pub OfEachHost : (NormalForm → Labels → HostId → Type 0) → Type 0
OfEachHost P = (p : NormalForm) (l : Labels) (h : HostId) → IsWellMade p → Satisfies (system_of p) l → P p l h
