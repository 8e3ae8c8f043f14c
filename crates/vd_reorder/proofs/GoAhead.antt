-- As many packets as the window go before what waits for a peer.
use Rattle.std.proofs.Common.{◌≡◌, ℕ, zero, suc, ◌≤◌, Bool, true, List, [], ◌∷◌, ◌++◌, take, drop, refl, ap, ap₂, ◌∙◌, arith}
use Rattle.std.specs.Prelude.{replicate}
use Rattle.std.proofs.lemmas.List.{take_at, drop_at}
use Rattle.vd_base.specs.declared.ids.HostId.{HostId}
use Rattle.vd_execution.specs.declared.instructions.Reg.{Reg}
use Rattle.vd_execution.specs.declared.instructions.Instr.{Instr}
use Rattle.vd_execution.specs.declared.instructions.Instr.TheVariants as instr
use Rattle.vd_reorder.specs.Hastening.{Piece}
use Rattle.vd_reorder.specs.Passing.{span, sunk_text, sunk_first, hastened_text, window, PacketsGoAhead}

abbrev any : Piece → Piece → Bool
any x y = true

-- what stands first and begins no block
alone : (n : ℕ) (i : Instr) (is : List Instr) → span 0 (i ∷ is) ≡ 1 → sunk_first any n (i ∷ is) ≡ sunk_text any n (i ∷ []) is
alone n i is one =
    ap (λ k. sunk_text any n (take k (i ∷ is)) (drop k (i ∷ is))) one
    ∙ ap₂ (λ (f b : List Instr). sunk_text any n f b) (take_at (i ∷ []) is 1 refl) (drop_at (i ∷ []) is 1 refl)

module _ (from to : HostId) (awaited sent : List Reg) (n : ℕ) where
  abbrev packet : Instr
  packet = instr.Send to sent

  abbrev receive : Instr
  receive = instr.Recv from awaited

  packet_stays : (k : ℕ) → sunk_text any n (packet ∷ []) (replicate k packet) ≡ packet ∷ replicate k packet
  packet_stays zero = refl
  packet_stays (suc k) = refl

  packets_stay : (k : ℕ) → hastened_text any n (replicate k packet) ≡ replicate k packet
  packets_stay zero = refl
  packets_stay (suc k) = ap (λ l. sunk_first any n (packet ∷ l)) (packets_stay k) ∙ alone n packet (replicate k packet) refl ∙ packet_stays k

goes_behind_all : (from to : HostId) (awaited sent : List Reg) (n k : ℕ) → k ≤ n
    → sunk_text any n (instr.Recv from awaited ∷ []) (replicate k (instr.Send to sent)) ≡ replicate k (instr.Send to sent) ++ instr.Recv from awaited ∷ []
goes_behind_all from to awaited sent n zero le = refl
goes_behind_all from to awaited sent zero (suc k) le = absurd (omega (arith, le))
goes_behind_all from to awaited sent (suc n) (suc k) le = ap (λ l. instr.Send to sent ∷ l) (goes_behind_all from to awaited sent n k (omega (arith, le)))

pub packets_go : PacketsGoAhead
packets_go from to awaited sent n le =
    ap (λ l. sunk_first any window (instr.Recv from awaited ∷ l)) (packets_stay from to awaited sent window n)
    ∙ alone window (instr.Recv from awaited) (replicate n (instr.Send to sent)) refl
    ∙ goes_behind_all from to awaited sent window n le
