-- The careful test, by what stands where.
use Rattle.std.proofs.Common.{◌≡◌, ℕ, nat_eq, Bool, true, false, ◌&&◌, ◌||◌, not, if◌then◌else◌, List, refl, sym, ap, ◌∙◌}
use Rattle.vd_execution.specs.declared.instructions.Reg.{Reg}
use Rattle.vd_execution.specs.declared.instructions.Action.{Action}
use Rattle.vd_reorder.specs.Hastening.{Piece, Acts, Sends, Awaits}
use Rattle.vd_reorder.specs.ReorderLawsTesting.{meet, may}
use Rattle.vd_reorder.specs.Careful.{careful}
use Rattle.vd_reorder.specs.Packets.{is_draw, stays_by}
use Rattle.vd_reorder.proofs.InRows.{eq_turned}

once : (b : Bool) → (if b then true else b) ≡ b
once true = refl
once false = refl

pub same_either_way : (n m : ℕ) → nat_eq n m ≡ (if nat_eq n m then true else nat_eq m n)
same_either_way n m = sym (ap (λ b. if nat_eq n m then true else b) (sym (eq_turned n m)) ∙ once (nat_eq n m))

either_draws : (m d e : Bool) → (if m then (if not d then (if not e then false else true) else true) else false) ≡ (m && (d || e))
either_draws true true e = refl
either_draws true false true = refl
either_draws true false false = refl
either_draws false d e = refl

pub careful_action : (known : List Reg) (b a : Action) → careful (stays_by known) (Acts b) (Acts a) ≡ (may (Acts b) (Acts a) && (is_draw b || is_draw a))
careful_action known b a = either_draws (may (Acts b) (Acts a)) (is_draw b) (is_draw a)

draws : (m e : Bool) → (if m then (if not e then false else true) else false) ≡ (m && e)
draws true true = refl
draws true false = refl
draws false e = refl

pub careful_receive : (known : List Reg) (q : ℕ) (qs : List Reg) (a : Action) → careful (stays_by known) (Awaits q qs) (Acts a) ≡ (may (Awaits q qs) (Acts a) && is_draw a)
careful_receive known q qs a = draws (may (Awaits q qs) (Acts a)) (is_draw a)

packet : (m s k : Bool) → (if m then (if not s then (if k then false else true) else true) else false) ≡ (m && (s || not k))
packet true true k = refl
packet true false true = refl
packet true false false = refl
packet false s k = refl

pub careful_packet : (known : List Reg) (b : Action) (p : ℕ) (rs : List Reg)
    → careful (stays_by known) (Acts b) (Sends p rs) ≡ (may (Acts b) (Sends p rs) && (is_draw b || not (meet rs known)))
careful_packet known b p rs = packet (may (Acts b) (Sends p rs)) (is_draw b) (meet rs known)

await : (m k : Bool) → (if (if m then false else true) then (if k then false else true) else false) ≡ (not m && not k)
await true k = refl
await false true = refl
await false false = refl

pub careful_await : (known : List Reg) (q p : ℕ) (qs rs : List Reg) → careful (stays_by known) (Awaits q qs) (Sends p rs) ≡ (not (meet rs qs) && not (meet rs known))
careful_await known q p qs rs = await (meet rs qs) (meet rs known)
