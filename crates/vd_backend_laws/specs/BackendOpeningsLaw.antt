-- What is proved of what calls tell openly.
use Rattle.std.specs.Prelude.{◌≡◌, ℕ, ◌+◌, List, [], ◌∷◌, map, slice_index}
use Rattle.vd_base.specs.declared.ids.HostId.{HostId}
use Rattle.vd_base.specs.declared.operations.Op.TheVariants as op
use Rattle.vd_execution.specs.declared.instructions.Reg.{Reg}
use Rattle.vd_base.specs.declared.protocols.HostSet.{HostSet}
use Rattle.vd_base.specs.declared.protocols.Proto.{Proto}
use Rattle.vd_base.specs.declared.protocols.Proto.TheVariants.{Rep}
use Rattle.vd_base.specs.Holders.{holders}
use Rattle.vd_duet.specs.Calls.{Places}
use Rattle.vd_clear.specs.Copies.{spread_to}
use Rattle.vd_backend_sharing.specs.PairCalls.{shares_of, places_at}
use Rattle.vd_words.specs.AddCalls.{add_calls}
use Rattle.vd_bits.specs.BitCalls.{computed, bit_calls}
use Rattle.vd_circuit.specs.CircuitCalls.{circuit_calls}
use Rattle.vd_convert.specs.Convert.{drawn, to_xor_made, to_add_made}
use Rattle.vd_commit.specs.declared.ends.Held.{Held}
use Rattle.vd_commit.specs.declared.ends.Seen.{Seen}
use Rattle.vd_commit.specs.Commit.{eight, committed, revealed}
use Rattle.vd_backend_laws.specs.Openings.{Opening, all_openings, TellsWhatIsShown, CopiesTellWhatIsShown, shown_on}

pub record ClearCallsTell : Type 0 where
  pub calls : (p : Proto) → CopiesTellWhatIsShown p
  pub spread : (set : HostSet) (x : Places) (next : List ℕ) → all_openings (spread_to set x next).gadgets ≡ shown_on x (holders (Rep set))

abbrev pub SumsTellWhatIsShown : Type 0
SumsTellWhatIsShown = (a b : HostId) → TellsWhatIsShown a b (add_calls a b)

abbrev pub BitsTellWhatIsShown : Type 0
BitsTellWhatIsShown = (a b : HostId) → TellsWhatIsShown a b (bit_calls a b)

abbrev pub CircuitsTellWhatIsShown : Type 0
CircuitsTellWhatIsShown = (a b : HostId) → TellsWhatIsShown a b (circuit_calls a b)

-- to exclusive or nothing is opened; to sums, the parts of the word less that of the dealt pair
pub record ConversionsTellTheRest : Type 0 where
  pub to_bits : (a b : HostId) (x : Places) (next : List ℕ) → all_openings (to_xor_made a b x next).gadgets ≡ []
  pub to_sums : (a b : HostId) (x : Places) (next : List ℕ)
      → let pair = drawn a b (shares_of x) next in
      let rest = shares_of (computed a b op.Sub (x ∷ places_at a b pair.given.1 ∷ []) pair.next).given in
      all_openings (to_add_made a b x next).gadgets ≡ (a, (rest.first, b)) ∷ (b, (rest.second, a)) ∷ []

-- the digest, and later the value and the nonce
pub record CommitmentsTell : Type 0 where
  pub commit : (p v : HostId) (x : Reg) (next : List ℕ)
      → all_openings (committed p v x next).gadgets ≡ map (λ r. let o : Opening = (p, (r, v)) in o) (eight (slice_index next p.0 + 8))
  pub reveal : (p v : HostId) (held : Held) (seen : Seen) (next : List ℕ)
      → all_openings (revealed p v held seen next).gadgets ≡ map (λ r. let o : Opening = (p, (r, v)) in o) (held.value ∷ eight held.nonce.0)
