-- Commitments: what is done to bind a host to a word, and to reveal it.
use Rattle.std.specs.Prelude.{ℕ, ◌+◌, List, [], ◌∷◌, ◌++◌, map, slice_index}
use Rattle.vd_base.specs.declared.ids.HostId.{HostId}
use Rattle.vd_execution.specs.declared.instructions.Reg.{Reg}
use Rattle.vd_execution.specs.declared.instructions.Action.TheVariants as action
use Rattle.vd_execution.specs.Gadgets.{Gadget, Alone, Tells}
use Rattle.vd_execution.specs.Text.{register}
use Rattle.vd_duet.specs.Builder.{taken}
use Rattle.vd_duet.specs.Calls.{Made}
use Rattle.vd_backend_sharing.specs.PairCalls.{fresh_at}
use Rattle.vd_commit.specs.declared.ends.Held.{Held}
use Rattle.vd_commit.specs.declared.ends.Seen.{Seen}

-- eight registers from one on
abbrev pub eight : ℕ → List Reg
eight n =
    register n ∷ register (n + 1) ∷ register (n + 2) ∷ register (n + 3) ∷ register (n + 4) ∷ register (n + 5) ∷ register (n + 6) ∷ register (n + 7) ∷ []

-- an own word in each register
abbrev pub own_each : HostId → List Reg → List Gadget
own_each h registers = map (λ r. Alone h (action.Own r)) registers

-- registers one by one are the same; where one list is longer, its rest is left out
abbrev pub same_each : HostId → List Reg → List Reg → List Gadget
same_each h [] ys = []
same_each h (x ∷ xs) [] = []
same_each h (x ∷ xs) (y ∷ ys) = Alone h (action.Same x y) ∷ same_each h xs ys

-- a nonce of own words, its digest with the value, which the other host gets
abbrev pub committing : HostId → HostId → Reg → ℕ → ℕ → List Gadget
committing p v x n m =
    own_each p (eight n) ++ (Alone p (action.Hash (register (n + 8)) (register n) x) ∷ Tells p (eight (n + 8)) v (eight m) ∷ [])

abbrev pub committed : HostId → HostId → Reg → List ℕ → Made (Held × Seen)
committed p v x =
    fresh_at p 16 v 8 (λ n m. let ends : Held × Seen = (record { value = x; nonce = register n }, record { digest = register m }) in ends) (committing p v x)

-- the value and the nonce, whose digest is computed anew and compared with the one that is kept
abbrev pub revealing : HostId → HostId → Held → Seen → ℕ → List Gadget
revealing p v held seen m =
    Tells p (held.value ∷ eight held.nonce.0) v (register m ∷ eight (m + 1))
    ∷ Alone v (action.Hash (register (m + 9)) (register (m + 1)) (register m)) ∷ same_each v (eight (m + 9)) (eight seen.digest.0)

abbrev pub revealed : HostId → HostId → Held → Seen → List ℕ → Made Reg
revealed p v held seen next =
    record { given = register (slice_index next v.0); gadgets = revealing p v held seen (slice_index next v.0); next = taken v 17 next }
