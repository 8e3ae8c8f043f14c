-- The last of some values.
use Rattle.std.proofs.Common.{rules, ◌≡◌, ℕ, suc, ◌-◌, List, [], ◌∷◌, length, map, Option, Some, None, Bor, refl, sym, ap, ◌∙◌, arith}
use Rattle.std.specs.Prelude.{slice_get, option_map, option_copied}
use Rattle.serde_json.specs.Data.{Data}
use Rattle.serde_json.specs.View.{view, items_of, items_view}
use Rattle.serde_json.specs.declared.value.Value.{Value}
use Rattle.vd_lsp_messages.specs.Members.{last_item}

last_at : (vs : List Value) → option_map view (slice_get vs (length vs - 1)) ≡ last_item (items_view vs)
unfolding last_item
last_at [] = search rules
last_at (v ∷ []) = search rules
last_at (v ∷ w ∷ ws) =
    let behind : length (v ∷ w ∷ ws) - 1 ≡ suc (length (w ∷ ws) - 1) = omega arith in
    ap (λ n. option_map view (slice_get (v ∷ w ∷ ws) n)) behind ∙ last_at (w ∷ ws)

copied : (found : Option (Bor Value)) → option_map (λ value. view value.now) found ≡ option_map view (option_copied found)
copied None = refl
copied (Some value) = refl

pub last_of : (vs shown : List Value) (found : Option (Bor Value)) → shown ≡ vs → option_copied found ≡ slice_get shown (length shown - 1)
    → option_map (λ value. view value.now) found ≡ last_item (items_view vs)
last_of vs shown found same e = copied found ∙ ap (option_map view) e ∙ last_at shown ∙ ap (λ (l : List Value). last_item (items_view l)) same
