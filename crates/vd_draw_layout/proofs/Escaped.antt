-- Escaped bytes begin no tag, byte by byte.
use Rattle.std.proofs.Common.{◌≡◌, ℕ, Bool, true, false, cond, ◌&&◌, ◌==◌, not, List, [], ◌∷◌, ◌++◌, refl, ap, sym, ◌∙◌}
use Rattle.std.specs.Prelude.{if◌then◌else◌, codes}
use Rattle.std.specs.List.{list_all}
use Rattle.std.proofs.lemmas.List.Folds.{list_all-append}
use Rattle.vd_draw_layout.specs.Tags.{escaped_byte, escaped}
use Rattle.vd_draw_layout.specs.Escapes.{is_no_tag, EscapedTextsHaveNoTags}

abbrev named : Bool → Bool → Bool → ℕ → List ℕ
named amp less more b = if amp then codes "&amp;" else (if less then codes "&lt;" else (if more then codes "&gt;" else b ∷ []))

by_tests : (b : ℕ) (amp less more : Bool) → (b == 60) ≡ less → (b == 62) ≡ more → list_all is_no_tag (named amp less more b) ≡ true
by_tests b true less more e f = refl
by_tests b false true more e f = refl
by_tests b false false true e f = refl
by_tests b false false false e f = (λ i. (not (e i) && not (f i)) && true)

pub no_tags : EscapedTextsHaveNoTags
no_tags [] = refl
no_tags (b ∷ bs) =
    list_all-append is_no_tag (escaped_byte b) (escaped bs)
    ∙ (λ i. by_tests b (b == 38) (b == 60) (b == 62) refl refl i && no_tags bs i)
