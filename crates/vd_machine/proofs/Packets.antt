-- The words of a packet, written one after the other.
use Rattle.std.proofs.Common.{◌≡◌, ℕ, zero, suc, ◌+◌, ◌<◌, List, [], ◌∷◌, ◌++◌, length, take, get_or, refl, sym, ap, ap₂, ◌∙◌, arith, add-one}
use Rattle.std.specs.Prelude.{slice_set}
use Rattle.vd_execution.specs.declared.instructions.Reg.{Reg}
use Rattle.vd_execution.specs.Step.{words_in}

write_more : (words : List ℕ) (i x : ℕ) → i < length words → take (suc i) (slice_set words i x) ≡ take i words ++ x ∷ []
write_more [] i x h = absurd (omega (arith, h))
write_more (w ∷ words) zero x h = refl
write_more (w ∷ words) (suc i) x h = ap (λ l. w ∷ l) (write_more words i x (omega (arith, h)))

take_more : (f : ℕ → ℕ) (rs : List Reg) (i : ℕ) (d : Reg) → i < length rs → words_in f (take (suc i) rs) ≡ words_in f (take i rs) ++ f (get_or rs i d).0 ∷ []
take_more f [] i d h = absurd (omega (arith, h))
take_more f (r ∷ rs) zero d h = refl
take_more f (r ∷ rs) (suc i) d h = ap (λ l. f r.0 ∷ l) (take_more f rs i d (omega (arith, h)))

pub one_more : (f : ℕ → ℕ) (rs : List Reg) (words : List ℕ) (i x : ℕ) (d : Reg) → i < length rs → i < length words → x ≡ f (get_or rs i d).0 → take i words ≡ words_in f (take i rs)
    → take (i + 1) (slice_set words i x) ≡ words_in f (take (i + 1) rs)
one_more f rs words i x d h k e so =
    ap (λ n. take n (slice_set words i x)) (add-one i) ∙ write_more words i x k
    ∙ ap₂ (λ (l : List ℕ) (y : ℕ). l ++ y ∷ []) so e ∙ sym (take_more f rs i d h) ∙ ap (λ n. words_in f (take n rs)) (sym (add-one i))
