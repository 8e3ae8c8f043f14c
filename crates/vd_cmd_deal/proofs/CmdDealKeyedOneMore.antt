-- One more host's file.
use Rattle.std.proofs.Common.{◌≡◌, ℕ, ◌+◌, ◌<◌, List, [], ◌∷◌, ◌++◌, get_or, length, take, map, codes, refl, sym, ap, ◌∙◌, arith}
use Rattle.std.proofs.lemmas.List.{map-append, length-map, length-take-le}
use Rattle.std.proofs.lemmas.Grind.{take_at_read}
use Rattle.vd_outside.specs.declared.stored.Stored.{Stored}
use Rattle.vd_tape.specs.declared.deal_items.deal.Deal.{Deal}
use Rattle.vd_tape.specs.declared.deal_items.deal.Counts.{Counts}
use Rattle.vd_cmd_plan.specs.Numbered.{file_name, numbered}
use Rattle.vd_cmd_plan.proofs.Front.{numbered_more}
use Rattle.vd_cmd_deal.specs.KeyDealing.{keyed_deal_text, secret_files}

texts : (text : Deal → List ℕ) (deals : List Deal) (i : ℕ) (deal : Deal) → i < length deals → deal ≡ get_or deals i deal → map text (take (i + 1) deals) ≡ map text (take i deals) ++ text deal ∷ []
texts text deals i deal h is =
    ap (map text) ((take_at_read deals i deal h).1) ∙ map-append text (take i deals) (get_or deals i deal ∷ [])
    ∙ ap (λ (d : Deal). map text (take i deals) ++ text d ∷ []) (sym is)

counted : (text : Deal → List ℕ) (deals : List Deal) (i : ℕ) → i < length deals → i ≡ 0 + length (map text (take i deals))
counted text deals i h = let le = length-take-le i deals (omega arith) in let len = length-map (take i deals) text in omega (arith, le, len)

pub one_more : (counts : Counts) (key prefix : List ℕ) (deals : List Deal) (i : ℕ) (deal : Deal) (name content : List ℕ) (old new : List Stored) → i < length deals → deal ≡ get_or deals i deal
    → old ≡ secret_files counts key prefix (take i deals) → name ≡ file_name prefix i (codes ".deal") → content ≡ keyed_deal_text counts key deal
    → new ≡ old ++ record { name = name; content = content } ∷ [] → new ≡ secret_files counts key prefix (take (i + 1) deals)
one_more counts key prefix deals i deal name content old new h is so_far named filled more =
    let text : Deal → List ℕ = keyed_deal_text counts key in
    more
    ∙ ap (λ (files : List Stored). files ++ record { name = name; content = content } ∷ []) so_far
    ∙ ap (λ (n : List ℕ). secret_files counts key prefix (take i deals) ++ record { name = n; content = content } ∷ []) named
    ∙ ap (λ (c : List ℕ). secret_files counts key prefix (take i deals) ++ record { name = file_name prefix i (codes ".deal"); content = c } ∷ []) filled
    ∙ sym (numbered_more prefix (codes ".deal") 0 (map text (take i deals)) (text deal) i (counted text deals i h))
    ∙ ap (λ (cs : List (List ℕ)). numbered prefix (codes ".deal") 0 cs) (sym (texts text deals i deal h is))
