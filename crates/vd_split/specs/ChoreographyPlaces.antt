-- Which hosts have an instruction, and which acts are well formed, whatever the state.
use Rattle.std.specs.Prelude.{◌≡◌, ℕ, ◌^◌, ◌<◌, ◌≤◌, nat_eq, Bool, true, false, ◌||◌, IsTrue, List, length}
use Rattle.std.specs.List.{list_any}
use Rattle.vd_base.specs.declared.ids.HostId.{HostId}
use Rattle.vd_base.specs.declared.operations.Op.{Op}
use Rattle.vd_base.specs.declared.protocols.Proto.{Proto}
use Rattle.vd_base.specs.declared.rows.Row.TheVariants.{Constant, Input, Variable, Apply}
use Rattle.vd_base.specs.HostSets.{host}
use Rattle.vd_base.specs.Arity.{arity}
use Rattle.vd_base.specs.Holders.{is_holder}
use Rattle.vd_execution.specs.Joint.{Apart}
use Rattle.vd_execution.specs.Plans.{Plan, Ends, Then, Branch, Loop}
use Rattle.vd_duet.specs.Laws.{NumberFits}
use Rattle.vd_split.specs.Joint.{Hosts, Each}
use Rattle.vd_split.specs.Suite.{Suite, Ready, Operand, Operands}

-- a host takes part in a branch or a loop
abbrev pub is_part : List (ℕ × ℕ) → ℕ → Bool
is_part ps h = list_any (λ p. nat_eq h p.0) ps

module _ (m : Hosts) where
  -- the host has an instruction of some of the acts
  abbrev pub acting : List m.Act → ℕ → Bool
  acting acts h = list_any (λ a. m.acts_at a h) acts

  abbrev pub active : Plan m.Act → ℕ → Bool
  active Ends h = false
  active (Then x r) h = m.acts_at x h || active r h
  active (Branch ps t e r) h = (is_part ps h || active t h || active e h) || active r h
  active (Loop ps n b r) h = (is_part ps h || active b h) || active r h

  -- each act is well formed, all hosts that have an instruction inside a branch or a loop take part in it, each once, and a loop has a word of turns
  abbrev pub Tidy : Plan m.Act → Type 0
  Tidy Ends = Unit {0}
  Tidy (Then x r) = m.IsTidy x × Tidy r
  Tidy (Branch ps t e r) = Apart ps × ((h : ℕ) → (active t h || active e h) ≡ true → is_part ps h ≡ true) × Tidy t × Tidy e × Tidy r
  Tidy (Loop ps n b r) = Apart ps × ((h : ℕ) → active b h ≡ true → is_part ps h ≡ true) × (n ≤ 2 ^ 32) × Tidy b × Tidy r

  -- who takes part in a loop has an instruction of its body
  abbrev pub NeedsItsLoops : Plan m.Act → Type 0
  NeedsItsLoops Ends = Unit {0}
  NeedsItsLoops (Then x r) = NeedsItsLoops r
  NeedsItsLoops (Branch ps t e r) = NeedsItsLoops t × NeedsItsLoops e × NeedsItsLoops r
  NeedsItsLoops (Loop ps n b r) = ((h : ℕ) → is_part ps h ≡ true → active b h ≡ true) × NeedsItsLoops b × NeedsItsLoops r

  -- acts are well formed, and at exactly these of the first hosts
  pub record Where (hosts : ℕ) (acts : List m.Act) (place : ℕ → Bool) : Type 0 where
    pub tidy : Each m.IsTidy acts
    pub at : (h : ℕ) → acting acts h ≡ true → (h < hosts) × (place h ≡ true)
    pub all : (h : ℕ) → h < hosts → place h ≡ true → acting acts h ≡ true

  -- Where the calls of a suite have instructions. Each call is made as its law asks.
  pub record Places (s : Suite m) : Type 0 where
    -- moves and operations have none but at hosts of their protocols
    pub moves_inside : (p q : Proto) (h : ℕ) → s.calls.moves_at p q h ≡ true → (is_holder p (host h) || is_holder q (host h)) ≡ true
    pub applies_inside : (o : Op) (p : Proto) (h : ℕ) → s.calls.applies_at o p h ≡ true → is_holder p (host h) ≡ true
    pub input_inside : (k : HostId) (p : Proto) (h : ℕ) → s.holds (Input k) p ≡ true → nat_eq k.0 h ≡ true → is_holder p (host h) ≡ true
    pub literal_at : (p : Proto) → s.Declared p → IsTrue (s.holds Constant p) → (v : ℕ) → v < 2 ^ 32 → (next : List ℕ) (w : m.World) → Ready m s next w
        → Where s.calls.hosts (s.calls.literal p v next).acts (λ h. is_holder p (host h))
    pub turn_at : (p : Proto) → s.Declared p → IsTrue (s.holds Constant p) → (loop next : List ℕ) (w : m.World) → Ready m s next w
        → Where s.calls.hosts (s.calls.turn p loop next).acts (λ h. is_holder p (host h))
    pub move_at : (p q : Proto) → s.Declared p → s.Declared q → IsTrue (s.joins p q) → (x : s.Parts) (v : ℕ) (next : List ℕ) (w : m.World) → Ready m s next w
        → Operand m s next w p x v → Where s.calls.hosts (s.calls.move p q x next).acts (s.calls.moves_at p q)
    pub apply_at : (o : Op) (p : Proto) → s.Declared p → IsTrue (s.holds (Apply o) p) → NumberFits o → (xs : List s.Parts) (vs : List ℕ) → length xs ≡ arity o
        → (next : List ℕ) (w : m.World) → Ready m s next w → Operands m s next w p xs vs → Where s.calls.hosts (s.calls.apply o p xs next).acts (s.calls.applies_at o p)
    pub input_at : (k : HostId) → k.0 < s.calls.hosts → (next : List ℕ) → Where s.calls.hosts (s.calls.input k next).acts (λ h. nat_eq k.0 h)
    pub output_at : (k : HostId) → k.0 < s.calls.hosts → (x : s.Parts) → Where s.calls.hosts (s.calls.output k x) (λ h. nat_eq k.0 h)
    pub keep_at : (p : Proto) → s.Declared p → IsTrue (s.holds Variable p) → (x : s.Parts) (v : ℕ) (next : List ℕ) (w : m.World) → Ready m s next w
        → Operand m s next w p x v → Where s.calls.hosts (s.calls.keep p x next).acts (λ h. is_holder p (host h))
    pub renew_at : (p : Proto) → s.Declared p → IsTrue (s.holds Variable p) → (kept x : s.Parts) (u v : ℕ) (next : List ℕ) (w : m.World) → Ready m s next w
        → Operand m s next w p kept u → Operand m s next w p x v → Where s.calls.hosts (s.calls.renew p kept x) (λ h. is_holder p (host h))
    pub cells_at : (p : Proto) → s.Declared p → IsTrue (s.holds Variable p) → (n : ℕ) (next : List ℕ) → Where s.calls.hosts (s.calls.cells p n next).acts (λ h. is_holder p (host h))
    pub get_at : (p : Proto) → s.Declared p → IsTrue (s.holds Variable p) → (x : s.Parts) (index : List (ℕ × ℕ)) (next : List ℕ)
        → Where s.calls.hosts (s.calls.get p x index next).acts (λ h. is_holder p (host h))
    pub put_at : (p : Proto) → s.Declared p → IsTrue (s.holds Variable p) → (kept : s.Parts) (index : List (ℕ × ℕ)) (x : s.Parts)
        → Where s.calls.hosts (s.calls.put p kept index x) (λ h. is_holder p (host h))
