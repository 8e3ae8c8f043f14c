-- Worked programs: which clear words come to whom.
use Rattle.std.specs.Prelude.{◌≡◌, ℕ, List, [], ◌∷◌, map}
use Rattle.vd_base.specs.declared.ids.SlotId.{SlotId}
use Rattle.vd_base.specs.declared.ids.HostId.{HostId}
use Rattle.vd_base.specs.declared.form.Form as form
use Rattle.vd_base.specs.declared.operations.Op.TheVariants as op
use Rattle.vd_base.specs.declared.protocols.Proto.{Proto}
use Rattle.vd_base.specs.declared.protocols.Proto.TheVariants.{Local, Rep, Add, Xor}
use Rattle.vd_base.specs.HostSets.{host, host_set}
use Rattle.vd_core.specs.declared.normal.Right.TheVariants.{Lit, Apply, Input, Declassify, Load}
use Rattle.vd_core.specs.declared.normal.Stmt.{Stmt, Let, NewVar, Store, Output, If}
use Rattle.vd_constraints.specs.declared.labels.Labels.{Labels}
use Rattle.vd_semantics.specs.World.{world_at_start}
use Rattle.vd_semantics.specs.ProgramMeaning.{state_at_start}
use Rattle.vd_noninter_protocols.specs.Hearing.{heard, heard_in_order}

abbrev pub alice : HostId
alice = host 0

abbrev pub bob : HostId
bob = host 1

abbrev pub slot : ℕ → SlotId
slot k = record { 0 = k }

-- the protocols of two hosts
abbrev pub at_alice : Proto
at_alice = Local alice

abbrev pub at_bob : Proto
at_bob = Local bob

abbrev pub at_both : Proto
at_both = Rep (host_set 3)

abbrev pub sums_at_both : Proto
sums_at_both = Add alice bob

abbrev pub bits_at_both : Proto
bits_at_both = Xor alice bob

-- they do not matter to what comes
abbrev pub no_labels : Labels
no_labels = record { slots = []; blocks = [] }

-- the words that come to a host of a program with these protocols, where alice and bob have these inputs
abbrev pub come : List Stmt → List Proto → HostId → ℕ → ℕ → List ℕ
come body protocols h a b = heard_in_order (map (heard protocols h no_labels) body) 0 (state_at_start (world_at_start 2 ((a ∷ []) ∷ (b ∷ []) ∷ [])))

-- which of two inputs is greater, declassified and told to both
abbrev pub comparison : List Stmt
comparison =
    Let (slot 0) (Input alice)
    ∷ Let (slot 1) (Input bob)
    ∷ Let (slot 2) (Apply op.Lt (slot 0 ∷ slot 1 ∷ []))
    ∷ Let (slot 3) (Declassify (slot 2) form.Any)
    ∷ Output (slot 3) alice 0
    ∷ Output (slot 3) bob 0
    ∷ []

-- alice alone, bob alone, shares of both by exclusive or, copies at both
abbrev pub shared : List Proto
shared = at_alice ∷ at_bob ∷ bits_at_both ∷ at_both ∷ []

-- a variable that is set under a guard on alice's input, and told to bob
abbrev pub guarded : List Stmt
guarded =
    Let (slot 0) (Input alice)
    ∷ Let (slot 1) (Lit 3)
    ∷ Let (slot 2) (Apply op.Lt (slot 0 ∷ slot 1 ∷ []))
    ∷ Let (slot 3) (Lit 0)
    ∷ NewVar (slot 4) (slot 3)
    ∷ If (slot 2) (Let (slot 5) (Lit 1) ∷ Store (slot 4) (slot 5) ∷ []) [] 0
    ∷ Let (slot 6) (Load (slot 4))
    ∷ Output (slot 6) bob 0
    ∷ []

-- the guard at alice alone, the variable and what is stored in it as copies at both
abbrev pub copied : List Proto
copied = at_alice ∷ at_alice ∷ at_alice ∷ at_both ∷ at_both ∷ at_both ∷ at_both ∷ []

pub record WorkedWords : Type 0 where
  -- alice is told the comparison twice: where it is opened to copies, and where it is output
  pub opened : come comparison shared alice 3 7 ≡ 1 ∷ 1 ∷ []
  pub opened_again : come comparison shared alice 3 8 ≡ 1 ∷ 1 ∷ []
  pub opened_other : come comparison shared alice 3 2 ≡ 0 ∷ 0 ∷ []
  -- bob is told the guard and the variable
  pub guard : come guarded copied bob 2 0 ≡ 1 ∷ 1 ∷ []
  pub guard_other : come guarded copied bob 5 0 ≡ 0 ∷ 0 ∷ []
