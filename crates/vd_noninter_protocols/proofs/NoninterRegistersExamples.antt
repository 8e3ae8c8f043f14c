-- The words of the worked program.
use Rattle.std.proofs.Common.{◌≡◌, [], ◌∷◌, refl, ap, ◌∙◌, rules}
use Rattle.vd_base.specs.declared.operations.Op.TheVariants as op
use Rattle.vd_core.specs.declared.normal.Right.TheVariants.{Lit, Apply, Input, Load}
use Rattle.vd_core.specs.declared.normal.Stmt.TheFolds.{the_lemmas}
use Rattle.vd_execution.specs.Registers.{put}
use Rattle.vd_split.specs.Block.{Block, End, Let, NewVar, Store, Output, If, block_of}
use Rattle.vd_noninter_protocols.specs.Example.{alice, bob, slot, guarded, copied}
use Rattle.vd_noninter_protocols.specs.NoninterRegistersExample.{told_of, WorkedRegisters}

abbrev guarded_block : Block
guarded_block =
    Let (slot 0) (Input alice)
    (Let (slot 1) (Lit 3)
    (Let (slot 2) (Apply op.Lt (slot 0 ∷ slot 1 ∷ []))
    (Let (slot 3) (Lit 0)
    (NewVar (slot 4) (slot 3)
    (If (slot 2) (Let (slot 5) (Lit 1) (Store (slot 4) (slot 5) End)) End 0
    (Let (slot 6) (Load (slot 4))
    (Output (slot 6) bob 0 End)))))))

same_block : block_of guarded ≡ guarded_block
same_block = search (rules, the_lemmas)

set : told_of guarded_block copied bob 2 0 ≡ 1 ∷ 1 ∷ []
unfolding put lib.Count.ones
set = refl

kept : told_of guarded_block copied bob 5 0 ≡ 0 ∷ 0 ∷ []
unfolding put lib.Count.ones
kept = refl

pub worked : WorkedRegisters
worked = record { set = ap (λ b. told_of b copied bob 2 0) same_block ∙ set; kept = ap (λ b. told_of b copied bob 5 0) same_block ∙ kept }
