-- Escaped bytes begin no tag.
use Rattle.std.specs.Prelude.{◌≡◌, ℕ, Bool, true, ◌&&◌, ◌==◌, not, List}
use Rattle.std.specs.List.{list_all}
use Rattle.vd_draw_layout.specs.Tags.{escaped}

-- a byte that neither begins nor ends a tag
abbrev pub is_no_tag : ℕ → Bool
is_no_tag b = not (b == 60) && not (b == 62)

abbrev pub EscapedTextsHaveNoTags : Type 0
EscapedTextsHaveNoTags = (bytes : List ℕ) → list_all is_no_tag (escaped bytes) ≡ true
