-- Room for one packet is enough where all that a host sent is taken.
use Rattle.std.proofs.Common.{◌≡◌, ℕ, suc, nat_lt, if◌then◌else◌, Bool, true, List, [], ◌∷◌, None, refl, ap, ◌∙◌, arith}
use Rattle.std.proofs.lemmas.Bool.{lt-ltb}
use Rattle.vd_execution.specs.Step.{Deed, Quiet, Said, Heard, Printed, deed}
use Rattle.vd_execution.specs.World.{World, Tape, endless, step}
use Rattle.vd_execution.specs.Room.{has_room, narrow}
use Rattle.vd_execution.proofs.Confluence.{Through}
use Rattle.vd_execution.proofs.Calm.{Calm, Calmly}

room_at : (room : ℕ) (v : World) (h : ℕ) (d : Deed) → Calm v h → has_room (suc room) v h d ≡ true
room_at room v h Quiet calm = refl
room_at room v h (Said p words) calm = ap (λ n. nat_lt n (suc room)) (calm p) ∙ lt-ltb 0 (suc room) (omega arith)
room_at room v h (Heard p) calm = refl
room_at room v h (Printed x) calm = refl

pub calm_room : (room : ℕ) (t : Tape) (hs : List ℕ) (a b : World) → Calmly t hs a b → Through (narrow (suc room) (endless t)) hs a b
calm_room room t [] a b p = p
calm_room room t (h ∷ hs) a b p =
    (p.0, ap (λ (b : Bool). if b then step (endless t) h a else None) (room_at room a h (deed (a h).state) p.2) ∙ p.1, calm_room room t hs p.0 b p.3)
