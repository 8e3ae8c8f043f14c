-- Worked programs: the product of two inputs, calculated in shares by sums and declassified; and a word that is converted.
use Rattle.std.specs.Prelude.{◌≡◌, ℕ, List, [], ◌∷◌}
use Rattle.vd_base.specs.declared.form.Form as form
use Rattle.vd_base.specs.declared.operations.Op.TheVariants as op
use Rattle.vd_base.specs.declared.protocols.Proto.{Proto}
use Rattle.vd_base.specs.Holders.{proto_in}
use Rattle.vd_core.specs.declared.normal.Right.TheVariants.{Apply, Input, Declassify}
use Rattle.vd_core.specs.declared.normal.Stmt.{Stmt, Let, Output}
use Rattle.vd_execution.specs.Step.{Triples, Pairs}
use Rattle.vd_execution.specs.World.{Tape}
use Rattle.vd_execution.specs.Joint.{fresh, joint}
use Rattle.vd_execution.specs.Gadgets.{Gadget}
use Rattle.vd_execution.specs.Plans.{Plan, joint_of}
use Rattle.vd_split.specs.Block.{Block, block_of, each}
use Rattle.vd_split.specs.Emission.{in_turn, stmt_emission, emitting_at_start}
use Rattle.vd_backend_laws.specs.Parts.{suite_calls}
use Rattle.vd_views.specs.Contract.{with_inputs}
use Rattle.vd_views.specs.Example.{deal_with, inputs_with}
use Rattle.vd_noninter_protocols.specs.Example.{alice, bob, slot, at_alice, at_bob, sums_at_both, bits_at_both}
use Rattle.vd_views.specs.Views.{alone}
use Rattle.vd_views.specs.Excused.{excused}

abbrev pub product : List Stmt
product =
    Let (slot 0) (Input alice)
    ∷ Let (slot 1) (Input bob)
    ∷ Let (slot 2) (Apply op.Mul (slot 0 ∷ slot 1 ∷ []))
    ∷ Let (slot 3) (Declassify (slot 2) form.Any)
    ∷ Output (slot 3) alice 0
    ∷ Output (slot 3) bob 0
    ∷ []

-- alice alone, bob alone, shares of both by sums, and the product at alice, who tells it to bob
abbrev pub in_sums : List Proto
in_sums = at_alice ∷ at_bob ∷ sums_at_both ∷ at_alice ∷ []

-- both inputs by exclusive or, and that word once more by sums, for alice
abbrev pub conversion : List Stmt
conversion =
    Let (slot 0) (Input alice)
    ∷ Let (slot 1) (Input bob)
    ∷ Let (slot 2) (Apply op.Xor (slot 0 ∷ slot 1 ∷ []))
    ∷ Let (slot 3) (Apply op.Add (slot 2 ∷ slot 1 ∷ []))
    ∷ Let (slot 4) (Declassify (slot 3) form.Any)
    ∷ Output (slot 4) alice 0
    ∷ []

-- alice alone, bob alone, shares by exclusive or, shares by sums, and the sum at alice
abbrev pub converted_once : List Proto
converted_once = at_alice ∷ at_bob ∷ bits_at_both ∷ sums_at_both ∷ at_alice ∷ []

abbrev pub plan_with : Block → List Proto → Plan Gadget
plan_with block protocols =
    ((in_turn (suite_calls 2) (proto_in protocols) (each (stmt_emission (suite_calls 2) (proto_in protocols)) block)).emit (emitting_at_start (suite_calls 2) (proto_in protocols))).tree

-- what excuses the second run to bob
abbrev pub excuse_of : Block → Tape → ℕ → Tape
excuse_of block t input = excused (alone 1) t (plan_with block in_sums) (with_inputs t (inputs_with input)) fresh fresh

abbrev pub excuse_with : Block → Tape → ℕ → Tape
excuse_with block t input = excused (alone 1) t (plan_with block converted_once) (with_inputs t (inputs_with input)) fresh fresh

-- what bob prints, and what alice sends him, by these deals
abbrev pub bob_prints : Block → Tape → List ℕ
bob_prints block t = (joint t (joint_of (plan_with block in_sums)) fresh 1).printed

abbrev pub bob_is_told : Block → Tape → List (List ℕ)
bob_is_told block t = (joint t (joint_of (plan_with block in_sums)) fresh 0).sent 1

-- 7 for alice is explained by 2147483655, with the same product: the first part of her triple rises by half the words, and
-- bob's part stays; and back. He is told 42 in both runs, and the same packets
pub record WorkedExcuse : Type 0 where
  pub alices : excuse_of (block_of product) (deal_with 7 1) 2147483655 0 (Triples 1) 0 ≡ 2147483649 ∷ 4 ∷ 5 ∷ []
  pub bobs : excuse_of (block_of product) (deal_with 7 1) 2147483655 1 (Triples 0) 0 ≡ 2 ∷ 0 ∷ 7 ∷ []
  pub back : excuse_of (block_of product) (deal_with 2147483655 2147483649) 7 0 (Triples 1) 0 ≡ 1 ∷ 4 ∷ 5 ∷ []
  pub prints : bob_prints (block_of product) (deal_with 7 1) ≡ 42 ∷ []
  pub prints_again : bob_prints (block_of product) (deal_with 2147483655 2147483649) ≡ 42 ∷ []
  pub told : bob_is_told (block_of product) (deal_with 7 1) ≡ (4294967293 ∷ []) ∷ (9 ∷ 4294967293 ∷ []) ∷ (42 ∷ []) ∷ []
  pub told_again : bob_is_told (block_of product) (deal_with 2147483655 2147483649) ≡ (4294967293 ∷ []) ∷ (9 ∷ 4294967293 ∷ []) ∷ (42 ∷ []) ∷ []

-- 7 for alice is explained to bob by 9: the word that is converted, 1 before, is 15 then, so the dealt word rises by 14
pub record WorkedConversion : Type 0 where
  pub alices : excuse_with (block_of conversion) (deal_with 7 1) 9 0 (Pairs 1) 0 ≡ 14 ∷ 14 ∷ []
  pub bobs : excuse_with (block_of conversion) (deal_with 7 1) 9 1 (Pairs 0) 0 ≡ 0 ∷ 0 ∷ []
