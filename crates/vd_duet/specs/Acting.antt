-- Which hosts act in a call. The splitter knows it of the protocols alone, before any gadget is made.
use Rattle.std.specs.Prelude.{◌≡◌, ℕ, nat_eq, Bool, true, false, ◌||◌, if◌then◌else◌, IsTrue, List}
use Rattle.std.specs.List.{list_any}
use Rattle.vd_base.specs.declared.ids.HostId.{HostId}
use Rattle.vd_base.specs.declared.operations.Op.{Op}
use Rattle.vd_base.specs.declared.operations.Op.TheVariants.{Not, Flip}
use Rattle.vd_base.specs.declared.protocols.Proto.{Proto}
use Rattle.vd_base.specs.declared.protocols.Proto.TheVariants.{Local, Rep, Commit, Add, Xor}
use Rattle.vd_base.specs.Holders.{holders, is_among}
use Rattle.vd_execution.specs.declared.instructions.Reg.{Reg}
use Rattle.vd_execution.specs.Gadgets.{Gadget, Alone, Tells, Shares, BothShare, Opens, Masked, Paired}
use Rattle.vd_duet.specs.Calls.{Places, hosts_of, Calls}

abbrev pub is_either : ℕ → HostId → HostId → Bool
is_either h a b = nat_eq h a.0 || nat_eq h b.0

-- a host has an act of a gadget
abbrev pub acts_in : ℕ → Gadget → Bool
acts_in h (Alone g a) = nat_eq h g.0
acts_in h (Tells a said b heard) = is_either h a b
acts_in h (Shares a r b heard) = is_either h a b
acts_in h (BothShare a r heard b q heard_b) = is_either h a b
acts_in h (Opens sharing a x b y heard) = is_either h a b
acts_in h (Masked sharing m n) = is_either h m.host n.host
acts_in h (Paired p q) = is_either h p.host q.host

abbrev pub acts_at : List Gadget → ℕ → Bool
acts_at gadgets h = list_any (acts_in h) gadgets

-- a word goes from a to b, or stays
abbrev pub pass_at : HostId → HostId → ℕ → Bool
pass_at a b h = if nat_eq a.0 b.0 then false else is_either h a b

-- the move from a host in clear
abbrev pub share_at : HostId → Proto → ℕ → Bool
share_at from (Local k) h = pass_at from k h
share_at from (Rep set) h = list_any (λ k. pass_at from k h) (holders (Rep set))
share_at from (Commit p v) h = is_either h p v
share_at from (Add a b) h = is_either h a b
share_at from (Xor a b) h = is_either h a b

-- the move from copies: the second host's share is made of nothing
abbrev pub adopt_at : Proto → ℕ → Bool
adopt_at (Local k) h = false
adopt_at (Rep set) h = false
adopt_at (Commit p v) h = false
adopt_at (Add a b) h = nat_eq h b.0
adopt_at (Xor a b) h = nat_eq h b.0

-- each of these hosts tells another host a word, which is none of them
abbrev pub told_at : List HostId → HostId → ℕ → Bool
told_at hosts to h = if is_among hosts to.0 then false else list_any (λ k. is_either h k to) hosts

-- the move to a host in clear
abbrev pub show_at : Proto → HostId → ℕ → Bool
show_at (Local k) to h = told_at (holders (Local k)) to h
show_at (Rep set) to h = told_at (holders (Rep set)) to h
show_at (Commit p v) to h = if nat_eq to.0 p.0 then false else is_either h p v
show_at (Add a b) to h = is_either h a b
show_at (Xor a b) to h = is_either h a b

-- the move to copies at all hosts of the protocol
abbrev pub show_all_at : Proto → ℕ → Bool
show_all_at (Local k) h = false
show_all_at (Rep set) h = false
show_all_at (Commit p v) h = is_either h p v
show_all_at (Add a b) h = is_either h a b
show_all_at (Xor a b) h = is_either h a b

abbrev pub is_negation : Op → Bool
is_negation Not = true
is_negation Flip = true
is_negation o = false

-- an operation. Of words shared by exclusive or, a negation is the first host's alone
abbrev pub apply_at : Op → Proto → ℕ → Bool
apply_at o (Local k) h = is_among (holders (Local k)) h
apply_at o (Rep set) h = is_among (holders (Rep set)) h
apply_at o (Commit p v) h = is_either h p v
apply_at o (Add a b) h = is_either h a b
apply_at o (Xor a b) h = if is_negation o then nat_eq h a.0 else is_either h a b

-- The calls of a back end act exactly there.
pub record ActsWhereItSays (c : Calls) : Type 0 where
  pub literal : (v : ℕ) (next : List ℕ) (h : ℕ) → acts_at (c.literal v next).gadgets h ≡ is_among (holders c.proto) h
  pub share : (from : HostId) (x : Reg) (next : List ℕ) (h : ℕ) → acts_at (c.share from x next).gadgets h ≡ share_at from c.proto h
  pub adopt : (x : Places) (next : List ℕ) (h : ℕ) → acts_at (c.adopt x next).gadgets h ≡ adopt_at c.proto h
  pub show : (x : Places) → hosts_of x ≡ holders c.proto → (to : HostId) (next : List ℕ) (h : ℕ) → acts_at (c.show x to next).gadgets h ≡ show_at c.proto to h
  pub show_all : (x : Places) → hosts_of x ≡ holders c.proto → (next : List ℕ) (h : ℕ) → acts_at (c.show_all x next).gadgets h ≡ show_all_at c.proto h
  pub keep : (x : Places) (next : List ℕ) (h : ℕ) → acts_at (c.keep x next).gadgets h ≡ is_among (holders c.proto) h
  pub renew : (kept x : Places) → hosts_of kept ≡ holders c.proto → (h : ℕ) → acts_at (c.renew kept x) h ≡ is_among (holders c.proto) h
  pub apply : (o : Op) → IsTrue (c.serves o) → (xs : List Places) (next : List ℕ) (h : ℕ) → acts_at (c.apply o xs next).gadgets h ≡ apply_at o c.proto h
