-- The numbers of the worked program.
use Rattle.std.proofs.Common.{◌≡◌, [], ◌∷◌, refl, ap, ◌∙◌, rules}
use Rattle.vd_base.specs.declared.form.Form as form
use Rattle.vd_base.specs.declared.operations.Op.TheVariants as op
use Rattle.vd_core.specs.declared.normal.Right.TheVariants.{Apply, Input, Declassify}
use Rattle.vd_core.specs.declared.normal.Stmt.TheFolds.{the_lemmas}
use Rattle.vd_execution.specs.Registers.{put}
use Rattle.vd_execution.specs.Step.{Triples, Pairs}
use Rattle.vd_backend_sharing.specs.Gates as gates
use Rattle.vd_backend_sharing.specs.PairCalls as calls
use Rattle.vd_split.specs.Block.{Block, End, Let, Output, block_of}
use Rattle.vd_noninter_protocols.specs.Example.{alice, bob, slot}
use Rattle.vd_views.specs.Items as items
use Rattle.vd_views.specs.Excused.{with_item}
use Rattle.vd_views.specs.Example.{deal_with}
use Rattle.vd_views.specs.ViewsProgramsExample.{product, excuse_of, bob_prints, bob_is_told, WorkedExcuse, conversion, excuse_with, WorkedConversion}

abbrev product_block : Block
product_block =
    Let (slot 0) (Input alice)
    (Let (slot 1) (Input bob)
    (Let (slot 2) (Apply op.Mul (slot 0 ∷ slot 1 ∷ []))
    (Let (slot 3) (Declassify (slot 2) form.Any)
    (Output (slot 3) alice 0
    (Output (slot 3) bob 0 End)))))

same_block : block_of product ≡ product_block
same_block = search (rules, the_lemmas)

alices : excuse_of product_block (deal_with 7 1) 2147483655 0 (Triples 1) 0 ≡ 2147483649 ∷ 4 ∷ 5 ∷ []
unfolding put with_item lib.Count.ones calls.product_shares
alices = refl

bobs : excuse_of product_block (deal_with 7 1) 2147483655 1 (Triples 0) 0 ≡ 2 ∷ 0 ∷ 7 ∷ []
unfolding put with_item lib.Count.ones calls.product_shares
bobs = refl

back : excuse_of product_block (deal_with 2147483655 2147483649) 7 0 (Triples 1) 0 ≡ 1 ∷ 4 ∷ 5 ∷ []
unfolding put with_item lib.Count.ones calls.product_shares
back = refl

prints : bob_prints product_block (deal_with 7 1) ≡ 42 ∷ []
unfolding put lib.Count.ones calls.product_shares
prints = refl

prints_again : bob_prints product_block (deal_with 2147483655 2147483649) ≡ 42 ∷ []
unfolding put lib.Count.ones calls.product_shares
prints_again = refl

told : bob_is_told product_block (deal_with 7 1) ≡ (4294967293 ∷ []) ∷ (9 ∷ 4294967293 ∷ []) ∷ (42 ∷ []) ∷ []
unfolding put lib.Count.ones calls.product_shares
told = refl

told_again : bob_is_told product_block (deal_with 2147483655 2147483649) ≡ (4294967293 ∷ []) ∷ (9 ∷ 4294967293 ∷ []) ∷ (42 ∷ []) ∷ []
unfolding put lib.Count.ones calls.product_shares
told_again = refl

pub worked : WorkedExcuse
worked = record {
  alices = ap (λ b. excuse_of b (deal_with 7 1) 2147483655 0 (Triples 1) 0) same_block ∙ alices;
  bobs = ap (λ b. excuse_of b (deal_with 7 1) 2147483655 1 (Triples 0) 0) same_block ∙ bobs;
  back = ap (λ b. excuse_of b (deal_with 2147483655 2147483649) 7 0 (Triples 1) 0) same_block ∙ back;
  prints = ap (λ b. bob_prints b (deal_with 7 1)) same_block ∙ prints;
  prints_again = ap (λ b. bob_prints b (deal_with 2147483655 2147483649)) same_block ∙ prints_again;
  told = ap (λ b. bob_is_told b (deal_with 7 1)) same_block ∙ told;
  told_again = ap (λ b. bob_is_told b (deal_with 2147483655 2147483649)) same_block ∙ told_again;
}

abbrev conversion_block : Block
conversion_block =
    Let (slot 0) (Input alice)
    (Let (slot 1) (Input bob)
    (Let (slot 2) (Apply op.Xor (slot 0 ∷ slot 1 ∷ []))
    (Let (slot 3) (Apply op.Add (slot 2 ∷ slot 1 ∷ []))
    (Let (slot 4) (Declassify (slot 3) form.Any)
    (Output (slot 4) alice 0 End)))))

same_conversion : block_of conversion ≡ conversion_block
same_conversion = search (rules, the_lemmas)

alices_pair : excuse_with conversion_block (deal_with 7 1) 9 0 (Pairs 1) 0 ≡ 14 ∷ 14 ∷ []
unfolding put with_item lib.Count.ones items.pair_item gates.gates_of calls.product_shares
alices_pair = refl

bobs_pair : excuse_with conversion_block (deal_with 7 1) 9 1 (Pairs 0) 0 ≡ 0 ∷ 0 ∷ []
unfolding put with_item lib.Count.ones items.pair_item gates.gates_of calls.product_shares
bobs_pair = refl

pub worked_conversion : WorkedConversion
worked_conversion = record {
  alices = ap (λ b. excuse_with b (deal_with 7 1) 9 0 (Pairs 1) 0) same_conversion ∙ alices_pair;
  bobs = ap (λ b. excuse_with b (deal_with 7 1) 9 1 (Pairs 0) 0) same_conversion ∙ bobs_pair;
}
