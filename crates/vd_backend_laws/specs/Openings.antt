-- The words that gadgets tell openly: clear words, and parts of words that are opened.
use Rattle.std.specs.Prelude.{◌≡◌, ℕ, nat_eq, if◌then◌else◌, IsTrue, List, [], ◌∷◌, ◌++◌, map}
use Rattle.vd_base.specs.declared.ids.HostId.{HostId}
use Rattle.vd_base.specs.declared.operations.Op.{Op}
use Rattle.vd_execution.specs.declared.instructions.Reg.{Reg}
use Rattle.vd_execution.specs.Gadgets.{Gadget, Alone, Tells, Shares, BothShare, Opens, Masked, Paired}
use Rattle.vd_base.specs.declared.protocols.Proto.{Proto}
use Rattle.vd_base.specs.Holders.{holders, is_among}
use Rattle.vd_duet.specs.Calls.{Places, hosts_of, Calls}
use Rattle.vd_clear.specs.Copies.{clear_calls}
use Rattle.vd_backend_sharing.specs.PairCalls.{shares_of}

-- who tells, the word of which register, to whom
abbrev pub Opening : Type 0
Opening = HostId × (Reg × HostId)

abbrev pub openings : Gadget → List Opening
openings (Alone h a) = []
openings (Tells a said b heard) = map (λ r. (a, (r, b))) said
openings (Shares a r b heard) = []
openings (BothShare a r heard b q heard_b) = []
openings (Opens sharing a x b y heard) = (a, (x, b)) ∷ []
openings (Masked sharing m n) = []
openings (Paired p q) = []

abbrev pub all_openings : List Gadget → List Opening
all_openings [] = []
all_openings (g ∷ gs) = openings g ++ all_openings gs

-- the calls of two hosts that share words open parts only where a word is shown, and only to whom it is shown
pub record TellsWhatIsShown (a b : HostId) (c : Calls) : Type 0 where
  pub literal : (v : ℕ) (next : List ℕ) → all_openings (c.literal v next).gadgets ≡ []
  pub share : (from : HostId) (x : Reg) (next : List ℕ) → all_openings (c.share from x next).gadgets ≡ []
  pub adopt : (x : Places) (next : List ℕ) → all_openings (c.adopt x next).gadgets ≡ []
  pub keep : (x : Places) (next : List ℕ) → all_openings (c.keep x next).gadgets ≡ []
  pub renew : (kept x : Places) → all_openings (c.renew kept x) ≡ []
  pub apply : (o : Op) → IsTrue (c.serves o) → (xs : List Places) (next : List ℕ) → all_openings (c.apply o xs next).gadgets ≡ []
  pub show : (x : Places) (to : HostId) (next : List ℕ) → all_openings (c.show x to next).gadgets
      ≡ (if nat_eq to.0 a.0 then (b, ((shares_of x).second, a)) ∷ [] else (a, ((shares_of x).first, b)) ∷ [])
  pub show_all : (x : Places) (next : List ℕ) → all_openings (c.show_all x next).gadgets
      ≡ (a, ((shares_of x).first, b)) ∷ (b, ((shares_of x).second, a)) ∷ []

-- ---- copies

-- what is told to each of these hosts, one after the other
abbrev pub to_each : (HostId → List Opening) → List HostId → List Opening
to_each told [] = []
to_each told (h ∷ hs) = told h ++ to_each told hs

-- a word goes from its host to each of these but itself
abbrev pub passed_on : HostId → Reg → List HostId → List Opening
passed_on from x to = to_each (λ k. if nat_eq from.0 k.0 then [] else (from, (x, k)) ∷ []) to

-- each copy goes to each of these that has none
abbrev pub shown_on : Places → List HostId → List Opening
shown_on x to = to_each (λ k. if is_among (hosts_of x) k.0 then [] else map (λ q. (q.0, (q.1, k))) x) to

-- hosts that hold copies tell a word where it is passed to them, and where it is shown to a host that has no copy
pub record CopiesTellWhatIsShown (p : Proto) : Type 0 where
  pub literal : (v : ℕ) (next : List ℕ) → all_openings ((clear_calls p).literal v next).gadgets ≡ []
  pub share : (from : HostId) (x : Reg) (next : List ℕ) → all_openings ((clear_calls p).share from x next).gadgets ≡ passed_on from x (holders p)
  pub adopt : (x : Places) (next : List ℕ) → all_openings ((clear_calls p).adopt x next).gadgets ≡ []
  pub keep : (x : Places) (next : List ℕ) → all_openings ((clear_calls p).keep x next).gadgets ≡ []
  pub renew : (kept x : Places) → all_openings ((clear_calls p).renew kept x) ≡ []
  pub apply : (o : Op) (xs : List Places) (next : List ℕ) → all_openings ((clear_calls p).apply o xs next).gadgets ≡ []
  pub show : (x : Places) (to : HostId) (next : List ℕ) → all_openings ((clear_calls p).show x to next).gadgets ≡ shown_on x (to ∷ [])
  pub show_all : (x : Places) (next : List ℕ) → all_openings ((clear_calls p).show_all x next).gadgets ≡ []
