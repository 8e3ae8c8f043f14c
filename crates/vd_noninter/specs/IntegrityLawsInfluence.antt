-- Whose inputs can bear on a host's outputs, through endorsements or not.
use Rattle.std.specs.Prelude.{◌≡◌, ℕ, nat_eq, Bool, true, false, ◌&&◌, ◌||◌, not, List, [], ◌∷◌, map}
use Rattle.std.specs.List.{list_all}
use Rattle.vd_base.specs.declared.ids.SlotId.{SlotId}
use Rattle.vd_base.specs.declared.ids.HostId.{HostId}
use Rattle.vd_core.specs.declared.normal.Right.{Right}
use Rattle.vd_core.specs.declared.normal.Right.TheVariants.{Lit, Turn, Copy, Apply, Input, Declassify, Endorse, Load, Get}
use Rattle.vd_core.specs.declared.normal.Stmt.{Stmt}
use Rattle.vd_core.specs.declared.normal.Stmt.TheOpen.{Stmt-F}
use Rattle.vd_core.specs.declared.normal.Stmt.TheFolds.{fold-Stmt}
use Rattle.vd_core.specs.declared.normal.NormalForm.{NormalForm}
use Rattle.vd_noninter.specs.Flowing.{only_with}
use Rattle.vd_noninter.specs.Reading.{SameInputs, endorsed_words, outputs_to}
use Rattle.vd_noninter.specs.NoninterLawsDependence.{Reach, IsWithin, Closing, all_close}
use Rattle.vd_constraints.specs.Rules.{host_label}
use Rattle.vd_noninter.specs.Trust.{for_formula, trusts_host}

-- a right side asks this of a reach, where it makes x; `around` tells whether all guards around it are reached, and `passed`
-- whether endorsements are passed
abbrev pub right_influences : Bool → Reach → Bool → SlotId → Right → Bool
right_influences passed r around x (Lit n) = only_with (r.slots x.0) around
right_influences passed r around x Turn = only_with (r.slots x.0) around
right_influences passed r around x (Copy y) = only_with (r.slots x.0) (around && r.slots y.0)
right_influences passed r around x (Apply op ys) = only_with (r.slots x.0) (around && list_all (λ y. r.slots y.0) ys)
right_influences passed r around x (Input host) = only_with (r.slots x.0) (r.hosts host.0) && only_with (r.hosts host.0 || r.slots x.0) around
right_influences passed r around x (Declassify y to) = only_with (r.slots x.0) (around && r.slots y.0)
right_influences passed r around x (Endorse y to) = only_with (r.slots x.0) (around && only_with passed (r.slots y.0))
right_influences passed r around x (Load v) = only_with (r.slots x.0) (around && r.slots v.0)
right_influences passed r around x (Get v i) = only_with (r.slots x.0) (around && (r.slots v.0 && r.slots i.0))

abbrev pub stmt_influences : Bool → ℕ → Reach → Stmt-F Closing → Closing
stmt_influences passed host r (Stmt-F.Let x right) guards = right_influences passed r (list_all (λ g. r.slots g.0) guards) x right
stmt_influences passed host r (Stmt-F.NewVar v y) guards = only_with (r.slots v.0) (list_all (λ g. r.slots g.0) guards && r.slots y.0)
stmt_influences passed host r (Stmt-F.NewArray v size) guards = only_with (r.slots v.0) (list_all (λ g. r.slots g.0) guards)
stmt_influences passed host r (Stmt-F.Store v y) guards = only_with (r.slots v.0) (list_all (λ g. r.slots g.0) guards && r.slots y.0)
stmt_influences passed host r (Stmt-F.Put v i y) guards = only_with (r.slots v.0) (list_all (λ g. r.slots g.0) guards && (r.slots i.0 && r.slots y.0))
stmt_influences passed host r (Stmt-F.Output y other offset) guards = only_with (nat_eq other.0 host) (list_all (λ g. r.slots g.0) guards && r.slots y.0)
stmt_influences passed host r (Stmt-F.If g then_block else_block offset) guards = all_close then_block (g ∷ guards) && all_close else_block (g ∷ guards)
stmt_influences passed host r (Stmt-F.For count body) guards = all_close body guards

abbrev pub influences : Bool → ℕ → Reach → Stmt → Closing
influences passed host r = fold-Stmt Closing (stmt_influences passed host r)

-- It has all that is output to the host, and goes on from each slot that it has.
abbrev pub IsClosed : Bool → NormalForm → HostId → Reach → Type 0
IsClosed passed p h r = all_close (map (influences passed h.0 r) p.body) [] ≡ true

-- the slots and hosts that are reached from what is output to the host, and no other
pub record IsInfluence (passed : Bool) (p : NormalForm) (h : HostId) (r : Reach) : Type 0 where
  pub closed : IsClosed passed p h r
  pub least : (other : Reach) → IsClosed passed p h other → IsWithin r other

-- these hosts are those whose inputs are reached, and no other
pub record AreInfluences (passed : Bool) (p : NormalForm) (h : HostId) (hosts : ℕ → Bool) : Type 0 where
  pub reach : Reach
  pub influence : IsInfluence passed p h reach
  pub same : (k : ℕ) → hosts k ≡ reach.hosts k

-- where endorsements are not passed, those whose results are reached
abbrev pub cut : Bool → Reach → ℕ → ℕ → Bool
cut passed r x y = not passed && r.slots x

-- Inputs that agree on these hosts, and make the same words trusted where endorsements are not passed, tell the host the same.
abbrev pub AreEnoughToTell : Bool → NormalForm → HostId → (ℕ → Bool) → Type 0
AreEnoughToTell passed p h hosts =
    (r : Reach) → IsInfluence passed p h r → (first second : List (List ℕ)) → SameInputs hosts first second
    → endorsed_words p (cut passed r) first ≡ endorsed_words p (cut passed r) second → outputs_to p h first ≡ outputs_to p h second

-- the integrity of each of these hosts acts for that of the host
abbrev pub AreTrusted : NormalForm → HostId → (ℕ → Bool) → Type 0
AreTrusted p h hosts = (k : ℕ) → hosts k ≡ true → trusts_host p (for_formula (host_label p h).integ) k ≡ true

-- of each program and host, and the hosts whose inputs are reached
abbrev pub OfEachInfluence : (Bool → NormalForm → HostId → (ℕ → Bool) → Type 0) → Type 0
OfEachInfluence P = (passed : Bool) (p : NormalForm) (h : HostId) (hosts : ℕ → Bool) → AreInfluences passed p h hosts → P passed p h hosts

-- the hosts that are reached without endorsements are among those that are reached with them
abbrev pub AreNested : NormalForm → HostId → Type 0
AreNested p h = (all direct : ℕ → Bool) → AreInfluences true p h all → AreInfluences false p h direct → (k : ℕ) → direct k ≡ true → all k ≡ true
