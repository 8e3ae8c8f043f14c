-- Open blocks, the innermost first, as a list whose last item is the innermost.
use Rattle.std.proofs.Common.{◌≡◌, ◌-◌, List, [], ◌∷◌, ◌++◌, length, reverse, Option, Some, None, refl, sym, ap, subst, ◌∙◌, length-append, arith}
use Rattle.std.specs.Prelude.{slice_get, MatchOption}
use Rattle.std.proofs.lemmas.List.{reverse-append, reverse-reverse}
use Rattle.vd_hostcode.specs.declared.host_text.blocks.Block.{Block}
use Rattle.vd_hostcode.specs.Lines.{innermost, outer}

pub entered : (bs : List Block) (b : Block) → reverse (bs ++ b ∷ []) ≡ b ∷ reverse bs
entered bs b = reverse-append bs (b ∷ [])

at_end : (bs : List Block) (b : Block) → slice_get (bs ++ b ∷ []) (length bs) ≡ Some b
at_end [] b = refl
at_end (c ∷ bs) b = at_end bs b

by_reverse : (rs : List Block) → slice_get (reverse rs) (length (reverse rs) - 1) ≡ innermost rs
by_reverse [] = refl
by_reverse (b ∷ bs) =
    let turned : reverse (b ∷ bs) ≡ reverse bs ++ b ∷ [] = reverse-append (b ∷ []) bs in
    let place : length (reverse bs ++ b ∷ []) - 1 ≡ length (reverse bs) = omega (arith, length-append (reverse bs) (b ∷ [])) in
    ap (λ xs. slice_get xs (length xs - 1)) turned ∙ ap (slice_get (reverse bs ++ b ∷ [])) place ∙ at_end (reverse bs) b

pub last_is : (bs : List Block) → slice_get bs (length bs - 1) ≡ innermost (reverse bs)
last_is bs = subst (λ xs. slice_get xs (length xs - 1) ≡ innermost (reverse bs)) (reverse-reverse bs) (by_reverse (reverse bs))

pub left : (old new : List Block) (r : Option Block) → MatchOption r ((old ≡ []) × (new ≡ [])) (λ b. old ≡ new ++ b ∷ []) → reverse new ≡ outer (reverse old)
left old new None h = ap reverse h.1 ∙ ap (λ bs. outer (reverse bs)) (sym h.0)
left old new (Some b) h = sym (ap (λ bs. outer (reverse bs)) h ∙ ap outer (entered new b))
