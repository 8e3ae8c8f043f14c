-- All turns of a long division give what Div and Rem give.
use Rattle.std.proofs.Common.{◌≡◌, ℕ, zero, suc, ◌^◌, ◌<◌, ◌%◌, nat_eq, Bool, if◌then◌else◌, refl, ap, ◌∙◌, arith}
use Rattle.std.proofs.lemmas.Bool.{ne_eqb}
use Rattle.std.proofs.Math.Nat.{div-one}
use Rattle.vd_base.specs.Operations.{operation, truth_word}
use Rattle.vd_base.specs.declared.operations.Op.TheVariants.{Div, Rem, Eq, Mux}
use Rattle.vd_long.specs.LongDivision.{divided}
use Rattle.vd_long.proofs.DivisionWords.{is_divided}

pub whole_rest : (a b : ℕ) → a < 2 ^ 32 → (divided a b 32).rest ≡ operation Rem a b 0
whole_rest a b word = (is_divided a b 32 word (omega arith)).rest ∙ ap (λ z. operation Rem z b 0) (div-one a)

pub whole_quotient : (a b : ℕ) → a < 2 ^ 32 → operation Mux (operation Eq b 0 0) 0 (divided a b 32).quotient ≡ operation Div a b 0
whole_quotient a zero word = refl
whole_quotient a (suc c) word =
    ap (λ (z : Bool). if nat_eq (truth_word z % 2) 1 then 0 else (divided a (suc c) 32).quotient) (ne_eqb (suc c) 0 (λ e. omega (arith, e)))
    ∙ (is_divided a (suc c) 32 word (omega arith)).quotient (omega arith) ∙ ap (λ z. operation Div z (suc c) 0) (div-one a)
