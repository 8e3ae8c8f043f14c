-- The names of the hosts as the loop of their reader takes them.
use Rattle.std.proofs.Common.{◌≡◌, ℕ, ◌+◌, ◌<◌, ◌≤◌, true, false, List, [], ◌∷◌, ◌++◌, length, Ok, sym, ap, subst, ◌∙◌, length-append, arith}
use Rattle.vd_base_codec.specs.declared.fault.CodecFault.{CodecFault}
use Rattle.vd_base_codec.specs.declared.fault.CodecFault.TheVariants as fault
use Rattle.vd_base_codec.specs.Reading.{Reading, StopsOrMemory}
use Rattle.vd_hostcode.specs.Reading.{starts_with}
use Rattle.vd_hostcode.specs.Heading.{next_name_at, hosts_at}
use Rattle.vd_hostcode.proofs.HostSteps.{NamesGoOn, names_start, names_none, names_next, names_stopped, names_over, names_full}

-- what is known before each further name
abbrev pub Hosts : List (List ℕ) → List ℕ → Reading (List (List ℕ)) → Type 0
Hosts hosts bytes total = NamesGoOn hosts bytes total × (1 ≤ length hosts) × (length hosts ≤ 4)

first_by : (why : CodecFault) (bytes left : List ℕ) → StopsOrMemory why left (next_name_at [] bytes) → StopsOrMemory why left (hosts_at bytes)
first_by fault.Stopped bytes left e = names_none bytes left e
first_by fault.Memory bytes left e = tt

pub first_fault : (why : CodecFault) (slice none : List (List ℕ)) (bytes left : List ℕ) → slice ≡ none → none ≡ [] → StopsOrMemory why left (next_name_at slice bytes) → StopsOrMemory why left (hosts_at bytes)
first_fault why slice none bytes left s n e = first_by why bytes left (subst (λ k. StopsOrMemory why left (next_name_at k bytes)) (s ∙ n) e)

pub first_name : (slice none hosts : List (List ℕ)) (bytes left x : List ℕ) → slice ≡ none → none ≡ [] → hosts ≡ none ++ x ∷ [] → next_name_at slice bytes ≡ Ok (x, left) → Hosts hosts left (hosts_at bytes)
first_name slice none hosts bytes left x s n h e =
    let one : hosts ≡ x ∷ [] = h ∙ ap (λ k. k ++ x ∷ []) n in
    let start = names_start bytes left x (ap (λ k. next_name_at k bytes) (sym (s ∙ n)) ∙ e) in (
      subst (λ k. NamesGoOn k left (hosts_at bytes)) (sym one) start,
      omega (arith, ap length one),
      omega (arith, ap length one),
    )

next_by : (why : CodecFault) (hosts : List (List ℕ)) (bytes left : List ℕ) (total : Reading (List (List ℕ))) → length hosts < 4 → starts_with 32 bytes ≡ true → StopsOrMemory why left (next_name_at hosts bytes) → NamesGoOn hosts bytes total
    → StopsOrMemory why left total
next_by fault.Stopped hosts bytes left total lt is e h = names_stopped hosts bytes left total lt is e h
next_by fault.Memory hosts bytes left total lt is e h = tt

pub next_fault : (why : CodecFault) (hosts slice again : List (List ℕ)) (bytes left : List ℕ) (total : Reading (List (List ℕ))) → slice ≡ hosts → again ≡ hosts → length slice < 4 → starts_with 32 bytes ≡ true
    → StopsOrMemory why left (next_name_at again bytes) → Hosts hosts bytes total → StopsOrMemory why left total
next_fault why hosts slice again bytes left total s a lt is e h =
    next_by why hosts bytes left total (omega (arith, lt, ap length s)) is (subst (λ k. StopsOrMemory why left (next_name_at k bytes)) a e) h.0

pub next_name : (hosts slice again more : List (List ℕ)) (bytes left x : List ℕ) (total : Reading (List (List ℕ))) → slice ≡ hosts → again ≡ hosts → length slice < 4 → starts_with 32 bytes ≡ true
    → next_name_at again bytes ≡ Ok (x, left) → more ≡ hosts ++ x ∷ [] → Hosts hosts bytes total → Hosts more left total
next_name hosts slice again more bytes left x total s a lt is e m h =
    let few : length hosts < 4 = omega (arith, lt, ap length s) in
    let size : length more ≡ length hosts + 1 = omega (arith, ap length m, length-append hosts (x ∷ [])) in (
      subst (λ k. NamesGoOn k left total) (sym m) (names_next hosts bytes left x total few is (ap (λ k. next_name_at k bytes) (sym a) ∙ e) h.0),
      omega (arith, size),
      omega (arith, size, few),
    )

pub no_more : (hosts : List (List ℕ)) (bytes : List ℕ) (total : Reading (List (List ℕ))) → starts_with 32 bytes ≡ false → Hosts hosts bytes total → total ≡ Ok (hosts, bytes)
no_more hosts bytes total is h = names_over hosts bytes total is h.0

pub enough : (hosts slice : List (List ℕ)) (bytes : List ℕ) (total : Reading (List (List ℕ))) → slice ≡ hosts → 4 ≤ length slice → Hosts hosts bytes total → total ≡ Ok (hosts, bytes)
enough hosts slice bytes total s le h = names_full hosts bytes total (omega (arith, le, ap length s)) h.0
