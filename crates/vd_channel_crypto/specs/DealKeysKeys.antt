-- The keys that one key makes for a dealing. Each is for one purpose, and for these counts alone.
use Rattle.std.specs.Prelude.{ℕ, List, [], ◌∷◌, ◌++◌, codes, min, max}
use Rattle.std.specs.Int.{w32, to_be_bytes}
use Rattle.vd_tape.specs.declared.deal_items.deal.Counts.{Counts}
use Rattle.vd_channel_crypto.specs.Codes.{derived}
use Rattle.vd_channel_crypto.specs.declared.deal_keys.secrets.LinkKey.{LinkKey}

-- what is dealt: to how many hosts, and how much of each kind, the highest byte first
abbrev pub counts_bytes : Counts → List ℕ
counts_bytes counts =
    counts.hosts ∷ (to_be_bytes w32 counts.own ++ (to_be_bytes w32 counts.muls ++ (to_be_bytes w32 counts.ands ++ to_be_bytes w32 counts.pairs)))

abbrev pub salt : List ℕ
salt = codes "viaduct deal 2"

-- what each key is for
abbrev pub id_info : Counts → List ℕ
id_info counts = codes "id" ++ counts_bytes counts

abbrev pub items_info : Counts → List ℕ
items_info counts = codes "items" ++ counts_bytes counts

abbrev pub link_info : Counts → (lower higher : ℕ) → List ℕ
link_info counts lower higher = codes "link" ++ (counts_bytes counts ++ lower ∷ higher ∷ [])

-- the public name of a dealing, the key of its items, and that of the link of two hosts
abbrev pub dealing_id : Counts → List ℕ → List ℕ
dealing_id counts key = derived salt key (id_info counts)

abbrev pub items_key : Counts → List ℕ → List ℕ
items_key counts key = derived salt key (items_info counts)

abbrev pub link_key : Counts → List ℕ → (lower higher : ℕ) → List ℕ
link_key counts key lower higher = derived salt key (link_info counts lower higher)

-- the key of the link of a host and a peer is one for both
abbrev pub link_between : Counts → List ℕ → (me peer : ℕ) → LinkKey
link_between counts key me peer = record { 0 = link_key counts key (min me peer) (max me peer) }
