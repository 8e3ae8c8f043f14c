-- A key that a file has is whole.
use Rattle.std.proofs.Common.{◌≡◌, ◌≤◌, ℕ, Bool, true, false, List, length, Result, Ok, Err, nat_lt, ◌||◌, if◌then◌else◌, refl, sym, ap, ◌∙◌, arith}
use Rattle.std.proofs.lemmas.Bool.{ltb-false}
use Rattle.vd_cmd_plan.specs.declared.status.Status.{Status}
use Rattle.vd_cmd_plan.specs.declared.status.Status.TheVariants.{ShortKey}
use Rattle.vd_cmd_deal.specs.Sources.{KeysAreWhole, is_written}

abbrev key_by : (name bytes : List ℕ) → Bool → Result (List ℕ) Status
key_by name bytes short = if short then Err (ShortKey name (length bytes)) else Ok bytes

key_or : List ℕ → Result (List ℕ) Status → List ℕ
key_or otherwise (Ok key) = key
key_or otherwise (Err status) = otherwise

whole : (name bytes key : List ℕ) (short written : Bool) → nat_lt (length bytes) 32 ≡ short → length bytes ≤ 32
    → key_by name bytes (short || written) ≡ Ok key → (key ≡ bytes) × (length key ≡ 32)
unfolding key_or
whole name bytes key true written test few is = absurd (cc is)
whole name bytes key false true test few is = absurd (cc is)
whole name bytes key false false test few is =
    let same : bytes ≡ key = ap (key_or bytes) is in
    let enough : 32 ≤ length bytes = ltb-false (length bytes) 32 test in
    let long : length bytes ≡ 32 = omega (arith, few, enough) in
    (sym same, ap length (sym same) ∙ long)

pub keys_whole : KeysAreWhole
keys_whole name bytes key few is = whole name bytes key (nat_lt (length bytes) 32) (is_written bytes) refl few is
