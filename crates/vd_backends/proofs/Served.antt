-- A program at protocols over its hosts at which it is valid is one that the splitter can be asked for.
use Rattle.std.proofs.Common.{◌≡◌, ℕ, ◌<◌, nat_lt, nat_eq, Bool, true, false, ◌&&◌, if◌then◌else◌, Option, Some, None, is_some, List, [], ◌∷◌, length, map, refl, sym, ap, ◌∙◌, arith}
use Rattle.std.specs.List.{list_all}
use Rattle.std.proofs.lemmas.Bool.{and_from, eq-eqb, eqb-true}
use Rattle.std.proofs.lemmas.Bool.Decides.{nat_tests}
use Rattle.vd_base.specs.declared.ids.HostId.{HostId}
use Rattle.vd_base.specs.declared.operations.Op.{Op}
use Rattle.vd_base.specs.declared.protocols.Proto.{Proto}
use Rattle.vd_base.specs.declared.protocols.Proto.TheVariants.{Local, Rep, Commit, Add, Xor}
use Rattle.vd_base.specs.declared.rows.Row.TheVariants.{Input as InputRow, Apply as ApplyRow}
use Rattle.vd_base.specs.Holders.{holders, is_alone, proto_in}
use Rattle.vd_core.specs.declared.normal.Right.{Right}
use Rattle.vd_core.specs.declared.normal.Right.TheVariants.{Lit, Turn, Copy, Apply, Input, Declassify, Endorse, Load, Get}
use Rattle.vd_core.specs.declared.normal.Stmt.{Stmt}
use Rattle.vd_core.specs.declared.normal.Stmt.TheOpen.{Stmt-F}
use Rattle.vd_core.specs.Facts.{meets, blocks_meet}
use Rattle.vd_execution.specs.World.{Tape}
use Rattle.vd_duet.specs.Laws.{Each}
use Rattle.vd_split.specs.Block.{Block, End, Let, NewVar, NewArray, Store, Put, Output, If, For, block_of, each}
use Rattle.vd_split.specs.Validity.{Placed, RightPlaced}
use Rattle.vd_split.proofs.Front.{fold_each}
use Rattle.vd_split.specs.Offer.{right_stands, stmt_stands}
use Rattle.vd_backend_laws.specs.Machine.{machine}
use Rattle.vd_backend_laws.specs.Parts.{back_end}
use Rattle.vd_backend_laws.specs.Suite.{holds, suite}
use Rattle.vd_backends.specs.Offered.{offer_of, ProgramsCanBeSplit}

of_lt : (a b : ℕ) → a < b → nat_lt a b ≡ true
of_lt a b h = grind (arith, nat_tests)

all_below : (n : ℕ) (hs : List HostId) → Each (λ h. h.0 < n) hs → list_all (λ h. nat_lt h.0 n) hs ≡ true
all_below n [] e = refl
all_below n (h ∷ hs) e = and_from _ _ (of_lt h.0 n e.0) (all_below n hs e.1)

wrong : {X : Type 0} → false ≡ true → X
wrong e = absurd (no e)
  where
    no : false ≡ true → ⊥
    no e = cc

input_at_host : (h : HostId) (q : Proto) → holds (InputRow h) q ≡ true → is_alone h q ≡ true
input_at_host h (Local k) e = eq-eqb k.0 h.0 (sym (eqb-true h.0 k.0 (at (nat_eq h.0 k.0) e)))
  where
    at : (b : Bool) → is_some (let o : Option ℕ = if b then Some 0 else None in o) ≡ true → b ≡ true
    at true e = refl
    at false e = e
input_at_host h (Rep set) e = wrong e
input_at_host h (Commit p v) e = wrong e
input_at_host h (Add a b) e = wrong e
input_at_host h (Xor a b) e = wrong e

op_served : (o : Op) (q : Proto) → holds (ApplyRow o) q ≡ true → (back_end q).serves o ≡ true
op_served o (Local k) e = refl
op_served o (Rep set) e = refl
op_served o (Commit p v) e = wrong e
op_served o (Add a b) e = e
op_served o (Xor a b) e = e

list_all_map : {A : Type 0} (f : A → Bool) (xs : List A) → list_all f xs ≡ list_all (λ x. x) (map f xs)
list_all_map f [] = refl
list_all_map f (x ∷ xs) = ap (λ z. f x && z) (list_all_map f xs)

abbrev block_passes : (Stmt-F Bool → Bool) → Block → Bool
block_passes test b = list_all (λ x. x) (each (λ s. test s && blocks_meet s) b)

all_pass : (test : Stmt-F Bool → Bool) (body : List Stmt) → block_passes test (block_of body) ≡ true → list_all (meets test) body ≡ true
all_pass test body h = list_all_map (meets test) body ∙ ap (list_all (λ x. x)) (fold_each (λ s. test s && blocks_meet s) body) ∙ h

module _ (t : Tape) (inputs : ℕ → List ℕ) (hosts : ℕ) (protos : List Proto) where
  right_served : (q : Proto) (r : Right) → RightPlaced (machine t inputs) (suite t inputs hosts) (proto_in protos) q r → right_stands (offer_of hosts) protos q r ≡ true
  right_served q (Lit n) e = refl
  right_served q Turn e = refl
  right_served q (Copy y) e = refl
  right_served q (Apply o ys) e = op_served o q e.0
  right_served q (Input h) e = input_at_host h q e
  right_served q (Declassify y to) e = refl
  right_served q (Endorse y to) e = refl
  right_served q (Load v) e = refl
  right_served q (Get v i) e = refl

  block_served : (b : Block) → Placed (machine t inputs) (suite t inputs hosts) (proto_in protos) b → block_passes (stmt_stands (offer_of hosts) protos) b ≡ true
  block_served End e = refl
  block_served (Let x right rest) e = and_from _ _ (and_from _ _ (right_served (proto_in protos x.0) right e.0) refl) (block_served rest e.1)
  block_served (NewVar v x rest) e = block_served rest e.2
  block_served (NewArray v cells rest) e = block_served rest e.1
  block_served (Store v x rest) e = block_served rest e.2
  block_served (Put v i x rest) e = block_served rest e.3
  block_served (Output x h offset rest) e = block_served rest e.1
  block_served (If x first other offset rest) e = and_from _ _ (and_from _ _ (block_served first e.1) (block_served other e.2)) (block_served rest e.3)
  block_served (For count body rest) e = and_from _ _ (block_served body e.0) (block_served rest e.1)

pub programs_can_be_split : ProgramsCanBeSplit
programs_can_be_split program protos can =
    let n = length program.hosts in
    record {
      slots = record {
        few = can.made.limits.hosts;
        slots = λ x. and_from _ _ (can.over x).ordered (all_below n (holders (proto_in protos x)) (can.over x).known);
        locals = λ h lt. and_from _ _ (of_lt h.0 n lt) refl;
      };
      stands = all_pass (stmt_stands (offer_of n) protos) program.body (block_served can.tape can.inputs n protos (block_of program.body) can.valid);
    }
