-- Names that are written as they are shown, byte by byte.
use Rattle.std.proofs.Common.{◌≡◌, ◌++◌, append_assoc, ◌+◌, ◌<◌, ℕ, List, [], ◌∷◌, get_or, length, take, drop, Ok, Err, subst, sym, ap, ◌∙◌}
use Rattle.std.proofs.lemmas.List.{map-append, take-append-drop}
use Rattle.std.proofs.lemmas.Grind.{take_at_read}
use Rattle.vd_outside.specs.Sink.{SinkView, WritesAll}
use Rattle.vd_cmd_plan.specs.Shown.{shown, shown_byte}
use Rattle.vd_cmd_plan.proofs.Written.{writes_err}

abbrev at_once : (name : List ℕ) (i d : ℕ) → List ℕ
at_once name i d = shown_byte (get_or name i d) ∷ []

shown_at : (name : List ℕ) (i d : ℕ) → i < length name → shown (take i name) ++ (at_once name i d ++ shown (drop (i + 1) name)) ≡ shown name
shown_at name i d h =
    sym (append_assoc (shown (take i name)) (at_once name i d) (shown (drop (i + 1) name)))
    ∙ ap (λ (l : List ℕ). l ++ shown (drop (i + 1) name)) (sym front)
    ∙ sym (map-append shown_byte (take (i + 1) name) (drop (i + 1) name))
    ∙ ap shown (take-append-drop (i + 1) name)
  where
    front : shown (take (i + 1) name) ≡ shown (take i name) ++ at_once name i d
    front = ap shown (take_at_read name i d h).1 ∙ map-append shown_byte (take i name) (get_or name i d ∷ [])

-- a byte that is not taken
pub shown_err : {E : Type 0} (name : List ℕ) (i d byte : ℕ) (before mid now : SinkView) (e : E) → i < length name → byte ≡ shown_byte (get_or name i d)
    → WritesAll {E = E} (shown (take i name)) before mid (Ok tt) → WritesAll {E = E} (byte ∷ []) mid now (Err e) → WritesAll {E = E} (shown name) before now (Err e)
shown_err {E = E} name i d byte before mid now e h is a b =
    subst (λ (l : List ℕ). WritesAll {E = E} l before now (Err e)) (shown_at name i d h)
    (writes_err _ _ (shown (drop (i + 1) name)) before mid now e a (subst (λ (x : ℕ). WritesAll {E = E} (x ∷ []) mid now (Err e)) is b))
