-- One more host's file.
use Rattle.std.proofs.Common.{◌≡◌, ℕ, ◌+◌, ◌<◌, List, [], ◌∷◌, ◌++◌, get_or, length, take, map, codes, Option, sym, ap, ◌∙◌, arith}
use Rattle.std.proofs.lemmas.List.{map-append, length-map, length-take-le}
use Rattle.std.proofs.lemmas.Grind.{take_at_read}
use Rattle.vd_outside.specs.declared.stored.Stored.{Stored}
use Rattle.vd_tape.specs.declared.deal_items.deal.Deal.{Deal}
use Rattle.vd_channel_crypto.specs.declared.deal_keys.secrets.Secrets.{Secrets}
use Rattle.vd_cmd_plan.specs.Numbered.{file_name, numbered}
use Rattle.vd_cmd_plan.proofs.Front.{numbered_more}
use Rattle.vd_cmd_excuse.specs.Excusing.{excused_files, excused_text}

texts : (text : Deal → List ℕ) (deals : List Deal) (i : ℕ) (deal : Deal) → i < length deals → deal ≡ get_or deals i deal → map text (take (i + 1) deals) ≡ map text (take i deals) ++ text deal ∷ []
texts text deals i deal h is =
    ap (map text) ((take_at_read deals i deal h).1) ∙ map-append text (take i deals) (get_or deals i deal ∷ [])
    ∙ ap (λ (d : Deal). map text (take i deals) ++ text d ∷ []) (sym is)

counted : (text : Deal → List ℕ) (deals : List Deal) (i : ℕ) → i < length deals → i ≡ 0 + length (map text (take i deals))
counted text deals i h = let le = length-take-le i deals (omega arith) in let len = length-map (take i deals) text in omega (arith, le, len)

pub one_more : (out : List ℕ) (secrets : List (Option Secrets)) (deals : List Deal) (i : ℕ) (deal : Deal) (name content : List ℕ) (old new : List Stored) → i < length deals → deal ≡ get_or deals i deal
    → old ≡ excused_files out secrets (take i deals) → name ≡ file_name out i (codes ".deal") → content ≡ excused_text secrets deal
    → new ≡ old ++ record { name = name; content = content } ∷ [] → new ≡ excused_files out secrets (take (i + 1) deals)
one_more out secrets deals i deal name content old new h is so_far named filled more =
    let text : Deal → List ℕ = excused_text secrets in
    more
    ∙ ap (λ (files : List Stored). files ++ record { name = name; content = content } ∷ []) so_far
    ∙ ap (λ (n : List ℕ). excused_files out secrets (take i deals) ++ record { name = n; content = content } ∷ []) named
    ∙ ap (λ (c : List ℕ). excused_files out secrets (take i deals) ++ record { name = file_name out i (codes ".deal"); content = c } ∷ []) filled
    ∙ sym (numbered_more out (codes ".deal") 0 (map text (take i deals)) (text deal) i (counted text deals i h))
    ∙ ap (λ (cs : List (List ℕ)). numbered out (codes ".deal") 0 cs) (sym (texts text deals i deal h is))
