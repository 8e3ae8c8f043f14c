-- From words that two hosts share by sums to words that they share by exclusive or, and back.
use Rattle.std.specs.Prelude.{ℕ, ◌+◌, List, [], ◌∷◌, ◌++◌}
use Rattle.vd_base.specs.declared.ids.HostId.{HostId}
use Rattle.vd_base.specs.declared.operations.Op.TheVariants as op
use Rattle.vd_execution.specs.declared.instructions.Reg.{Reg}
use Rattle.vd_execution.specs.declared.instructions.Binary.TheVariants as binary
use Rattle.vd_execution.specs.declared.instructions.Action.TheVariants as action
use Rattle.vd_execution.specs.Gadgets.{ByXors, Pairing, Gadget, Alone, BothShare, Opens, Paired}
use Rattle.vd_execution.specs.Text.{register}
use Rattle.vd_duet.specs.Calls.{Places, Made}
use Rattle.vd_backend_sharing.specs.declared.shares.PartRegisters.{PartRegisters}
use Rattle.vd_backend_sharing.specs.PairCalls.{two, fresh_at, shares_of, places_at}
use Rattle.vd_bits.specs.BitCalls.{computed}

-- both hosts mask their parts by own words and give these to each other: the first host's part as a shared word, and the second's
abbrev pub masking : HostId → HostId → PartRegisters → ℕ → ℕ → List Gadget
masking a b x n m =
    BothShare a (register n) (register (n + 1)) b (register m) (register (m + 1))
    ∷ Alone a (action.Apply binary.Xor (register (n + 2)) x.first (register n))
    ∷ Alone b (action.Apply binary.Xor (register (m + 2)) x.second (register m)) ∷ []

abbrev pub masked_parts : HostId → HostId → PartRegisters → List ℕ → Made (PartRegisters × PartRegisters)
masked_parts a b x = fresh_at a 3 b 3 (λ n m. (two (n + 2) (m + 1), two (n + 1) (m + 2))) (masking a b x)

-- the two words are added
abbrev pub to_xor_made : HostId → HostId → Places → List ℕ → Made Places
to_xor_made a b x next =
    let words : Made (PartRegisters × PartRegisters) = masked_parts a b (shares_of x) next in
    let sum : Made Places = computed a b op.Add (places_at a b words.given.0 ∷ places_at a b words.given.1 ∷ []) words.next in
    record { given = sum.given; gadgets = words.gadgets ++ sum.gadgets; next = sum.next }

-- a host's part of a dealt pair: of its sum in register n, of its exclusive or in the next
abbrev pub pairing : HostId → Reg → ℕ → Pairing
pairing h word n = record { host = h; word = word; s = register n; x = register (n + 1) }

-- the parts of the pair's sum, and those of its exclusive or
abbrev pub drawn : HostId → HostId → PartRegisters → List ℕ → Made (PartRegisters × PartRegisters)
drawn a b x =
    fresh_at a 2 b 2 (λ n m. (two n m, two (n + 1) (m + 1))) (λ n m. Paired (pairing a x.first n) (pairing b x.second m) ∷ [])

-- both join the parts of what is left, and the first host adds its part of the pair's sum
abbrev pub finishing : HostId → HostId → PartRegisters → PartRegisters → ℕ → ℕ → List Gadget
finishing a b rest sum n m =
    Alone a (action.Apply binary.Xor (register (n + 1)) rest.first (register n))
    ∷ Alone a (action.Apply binary.Add (register (n + 2)) (register (n + 1)) sum.first)
    ∷ Alone b (action.Apply binary.Xor (register (m + 1)) rest.second (register m)) ∷ []

abbrev pub finished : HostId → HostId → PartRegisters → PartRegisters → List ℕ → Made PartRegisters
finished a b rest sum =
    fresh_at a 3 b 2 (λ n m. record { first = register (n + 2); second = sum.second })
    (λ n m. Opens ByXors a rest.first b rest.second (register m) ∷ Opens ByXors b rest.second a rest.first (register n) ∷ finishing a b rest sum n m)

-- the pair's word is taken off, and what is left is opened
abbrev pub to_add_made : HostId → HostId → Places → List ℕ → Made Places
to_add_made a b x next =
    let pair : Made (PartRegisters × PartRegisters) = drawn a b (shares_of x) next in
    let rest : Made Places = computed a b op.Sub (x ∷ places_at a b pair.given.1 ∷ []) pair.next in
    let end : Made PartRegisters = finished a b (shares_of rest.given) pair.given.0 rest.next in
    record { given = places_at a b end.given; gadgets = pair.gadgets ++ (rest.gadgets ++ end.gadgets); next = end.next }
