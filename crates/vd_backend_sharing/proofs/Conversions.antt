-- A word goes from one sharing to the other.
use Rattle.std.proofs.Common.{◌≡◌, ℕ, ◌+◌, ◌-◌, ◌%◌, ◌^◌, ◌<◌, ap, ap₂, ◌∙◌, arith, bit_xor}
use Rattle.std.proofs.lemmas.Nat.{xor_lt}
use Rattle.vd_tape.specs.declared.deal_items.items.PairItem.{PairItem}
use Rattle.vd_tape.specs.Identities.{MeetsPair}
use Rattle.vd_base.specs.Words.{IsWord}
use Rattle.vd_tape.specs.Validity.{ArePairWords}
use Rattle.vd_backend_sharing.specs.Circuits.{add_of, sub_of}
use Rattle.vd_backend_sharing.specs.Sharing.{plus}
use Rattle.vd_backend_sharing.specs.Conversions.{bits_of_sum}
use Rattle.vd_backend_sharing.proofs.BackendAlgebraParts.{taken_off, put_on}
use Rattle.vd_backend_sharing.proofs.Sums.{add_is, sub_is}

pub bits_kept : (x0 x1 mask0 mask1 : ℕ) → IsWord x0 → IsWord x1 → bits_of_sum x0 x1 mask0 mask1 ≡ plus x0 x1
bits_kept x0 x1 mask0 mask1 h0 h1 = ap₂ add_of (taken_off x0 mask0) (put_on x1 mask1) ∙ add_is x0 x1 h0 h1

put_back : (x pair s0 s1 : ℕ) → x < 2 ^ 32 → pair < 2 ^ 32 → (s0 + s1) % 2 ^ 32 ≡ pair
    → (((x + (2 ^ 32 - pair)) % 2 ^ 32 + s0) % 2 ^ 32 + s1) % 2 ^ 32 ≡ x
put_back x pair s0 s1 hx hp e = omega arith

pub sums_kept : (x t0 t1 : ℕ) (first second : PairItem) → IsWord x → ArePairWords first → ArePairWords second → MeetsPair first second
    → bit_xor t0 t1 ≡ sub_of x (bit_xor first.x second.x) → plus (plus (bit_xor t0 t1) first.s) second.s ≡ x
sums_kept x t0 t1 first second hx hf hs meets t =
    let pair : IsWord (bit_xor first.x second.x) = xor_lt 32 first.x second.x hf.1 hs.1 in
    ap (λ (z : ℕ). plus (plus z first.s) second.s) (t ∙ sub_is x (bit_xor first.x second.x) hx pair)
    ∙ put_back x (bit_xor first.x second.x) first.s second.s hx pair meets
