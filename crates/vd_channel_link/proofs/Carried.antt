-- A record that came in its parts.
use Rattle.std.proofs.Common.{◌≡◌, ◌∙◌, ◌++◌, ℕ, List, length, ap, sym, refl, subst, arith, Ok, Err, Result, IfOk}
use Rattle.vd_outside.specs.Link.{LinkView}
use Rattle.vd_channel_crypto.specs.Records.{Direction, sealed}
use Rattle.vd_channel_crypto.specs.Streams.{key_stream}
use Rattle.vd_channel_link.specs.declared.fault.SealFault.{SealFault}
use Rattle.vd_channel_link.specs.Taking.{Brings, Carries, TakesCarried, TakesSealed}
use Rattle.vd_channel_link.proofs.Beginning.{cover_long, recovered}

-- the record of the bytes that were covered
carried : (keys : Direction) (number : ℕ) (coming rest bytes : List ℕ) → Carries keys number coming rest bytes → Brings keys number coming rest bytes
carried keys number coming rest bytes c =
    let whole = recovered keys number c.covered rest (length c.covered) refl in
    let plain = c.plain in
    record {
      came = subst (λ (l : List ℕ). coming ≡ sealed keys number l ++ rest) (sym plain) (c.came ∙ whole);
      few = omega (arith, ap length plain, cover_long c.covered (key_stream keys.cipher number), c.few);
    }

brings_if : (keys : Direction) (number : ℕ) (coming rest : List ℕ) (result : Result (List ℕ) SealFault) → IfOk result (Carries keys number coming rest) → IfOk result (Brings keys number coming rest)
brings_if keys number coming rest (Ok bytes) c = carried keys number coming rest bytes c
brings_if keys number coming rest (Err fault) c = tt

pub brings : (keys : Direction) (number : ℕ) (before now : LinkView) (result : Result (List ℕ) SealFault) → TakesCarried keys number before now result → TakesSealed keys number before now result
brings keys number before now result t = record {
  later = t.later;
  failed = t.failed;
  ended = t.ended;
  still_told = t.still_told;
  sent = t.sent;
  came = λ told. brings_if keys number before.coming now.coming result (t.came told);
}
