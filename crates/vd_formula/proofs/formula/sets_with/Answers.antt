-- Each word is compared with the test at all 64 sets.
use Rattle.std.proofs.Common.{◌≡◌, ℕ, zero, suc, ◌<◌, List, [], ◌∷◌, get_or, refl, arith}
use Rattle.std.proofs.lemmas.Bool.{agree_below_at}
use Rattle.vd_formula.specs.TruthTable.{has}
use Rattle.vd_formula.proofs.formula.sets_with.Goals as goal

abbrev words : List ℕ
words = 0xaaaaaaaaaaaaaaaa ∷ 0xcccccccccccccccc ∷ 0xf0f0f0f0f0f0f0f0 ∷ 0xff00ff00ff00ff00 ∷ 0xffff0000ffff0000 ∷ 0xffffffff00000000 ∷ []

at_name : (name : ℕ) → name < 6 → (set : ℕ) → set < 64 → has (get_or words name 0) set ≡ has set name
at_name zero _ set h = agree_below_at (has 0xaaaaaaaaaaaaaaaa) (λ s. has s 0) 64 set refl h
at_name (suc zero) _ set h = agree_below_at (has 0xcccccccccccccccc) (λ s. has s 1) 64 set refl h
at_name (suc (suc zero)) _ set h = agree_below_at (has 0xf0f0f0f0f0f0f0f0) (λ s. has s 2) 64 set refl h
at_name (suc (suc (suc zero))) _ set h = agree_below_at (has 0xff00ff00ff00ff00) (λ s. has s 3) 64 set refl h
at_name (suc (suc (suc (suc zero)))) _ set h = agree_below_at (has 0xffff0000ffff0000) (λ s. has s 4) 64 set refl h
at_name (suc (suc (suc (suc (suc zero))))) _ set h = agree_below_at (has 0xffffffff00000000) (λ s. has s 5) 64 set refl h
at_name (suc (suc (suc (suc (suc (suc n)))))) low set h = absurd (omega arith)

pub returns : goal.returns
returns c = at_name c.args.name c.requires
