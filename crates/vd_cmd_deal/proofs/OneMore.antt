-- One more host's file.
use Rattle.std.proofs.Common.{◌≡◌, ℕ, ◌+◌, ◌<◌, List, [], ◌∷◌, ◌++◌, get_or, length, take, map, codes, refl, sym, ap, ◌∙◌, arith}
use Rattle.std.proofs.lemmas.List.{map-append, length-map, length-take-le}
use Rattle.std.proofs.lemmas.Grind.{take_at_read}
use Rattle.vd_outside.specs.declared.stored.Stored.{Stored}
use Rattle.vd_tape.specs.declared.deal_items.deal.Deal.{Deal}
use Rattle.vd_tape.specs.Text.{deal_text}
use Rattle.vd_cmd_plan.specs.Numbered.{file_name, numbered}
use Rattle.vd_cmd_plan.proofs.Front.{numbered_more}
use Rattle.vd_cmd_deal.specs.Dealing.{deal_files}

texts : (deals : List Deal) (i : ℕ) (deal : Deal) → i < length deals → deal ≡ get_or deals i deal → map deal_text (take (i + 1) deals) ≡ map deal_text (take i deals) ++ deal_text deal ∷ []
texts deals i deal h is =
    ap (map deal_text) ((take_at_read deals i deal h).1) ∙ map-append deal_text (take i deals) (get_or deals i deal ∷ [])
    ∙ ap (λ (d : Deal). map deal_text (take i deals) ++ deal_text d ∷ []) (sym is)

counted : (deals : List Deal) (i : ℕ) → i < length deals → i ≡ 0 + length (map deal_text (take i deals))
counted deals i h = let le = length-take-le i deals (omega arith) in let len = length-map (take i deals) deal_text in omega (arith, le, len)

pub one_more : (prefix : List ℕ) (deals : List Deal) (i : ℕ) (deal : Deal) (name content : List ℕ) (old new : List Stored) → i < length deals → deal ≡ get_or deals i deal → old ≡ deal_files prefix (take i deals)
    → name ≡ file_name prefix i (codes ".deal") → content ≡ deal_text deal → new ≡ old ++ record { name = name; content = content } ∷ [] → new ≡ deal_files prefix (take (i + 1) deals)
one_more prefix deals i deal name content old new h is so_far named filled more =
    more
    ∙ ap (λ (files : List Stored). files ++ record { name = name; content = content } ∷ []) so_far
    ∙ ap (λ (n : List ℕ). deal_files prefix (take i deals) ++ record { name = n; content = content } ∷ []) named
    ∙ ap (λ (c : List ℕ). deal_files prefix (take i deals) ++ record { name = file_name prefix i (codes ".deal"); content = c } ∷ []) filled
    ∙ sym (numbered_more prefix (codes ".deal") 0 (map deal_text (take i deals)) (deal_text deal) i (counted deals i h))
    ∙ ap (λ (cs : List (List ℕ)). numbered prefix (codes ".deal") 0 cs) (sym (texts deals i deal h is))
