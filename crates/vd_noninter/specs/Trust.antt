-- Whom one trusts, what one trusts, and what nobody else can change.
use Rattle.std.specs.Prelude.{◌≡◌, ℕ, Bool, true, ◌&&◌, not, nat_eq, List, [], length}
use Rattle.std.specs.List.{list_any}
use Rattle.vd_base.specs.declared.ids.HostId.{HostId}
use Rattle.vd_core.specs.declared.normal.NormalForm.{NormalForm}
use Rattle.vd_core.specs.Facts.{IsWellMade}
use Rattle.vd_formula.specs.TruthTable.{TruthTable, ActsFor, at, acts}
use Rattle.vd_constraints.specs.declared.labels.Labels.{Labels}
use Rattle.vd_constraints.specs.declared.system.Place.TheVariants.{Slot}
use Rattle.vd_constraints.specs.Rules.{host_label, system_of}
use Rattle.vd_constraints.specs.Satisfies.{label_at, Satisfies}
use Rattle.vd_noninter.specs.Watching.{Showing}
use Rattle.vd_noninter.specs.Reading.{visible_slots, declassified_words, endorsed_words, shown_words, outputs_to, SameInputs}

-- A test of integrities over so many names: what acts for a trusted integrity is trusted.
abbrev pub IsTrust : ℕ → (TruthTable → Bool) → Type 0
IsTrust n T = (f g : TruthTable) → f.names ≡ n → g.names ≡ n → ActsFor f g → T g ≡ true → T f ≡ true

-- who trusts this formula, trusts what acts for it
abbrev pub for_formula : TruthTable → TruthTable → Bool
for_formula t f = acts f t

-- who counts this set of principals as attackers, trusts what they cannot act for
abbrev pub against : ℕ → TruthTable → Bool
against set f = not (at f set)

abbrev pub trusts_slot : Labels → (TruthTable → Bool) → ℕ → Bool
trusts_slot l T x = T (label_at l (Slot (record { 0 = x }))).integ

abbrev pub trusts_host : NormalForm → (TruthTable → Bool) → ℕ → Bool
trusts_host p T k = T (host_label p (record { 0 = k })).integ

-- a trusted slot that is made under trusted guards alone
abbrev pub in_trust : NormalForm → Labels → (TruthTable → Bool) → ℕ → Bool
in_trust p l T x = trusts_slot l T x && list_any (nat_eq x) (visible_slots (trusts_slot l T) p.body)

-- by an endorsement: the result is trusted, and the operand is not
abbrev pub becomes_trusted : Labels → (TruthTable → Bool) → ℕ → ℕ → Bool
becomes_trusted l T x y = trusts_slot l T x && not (trusts_slot l T y)

-- by a declassification: these principals together may read the result, and not the operand
abbrev pub becomes_readable : Labels → ℕ → ℕ → ℕ → Bool
becomes_readable l set x y = at (label_at l (Slot (record { 0 = x }))).conf set && not (at (label_at l (Slot (record { 0 = y }))).conf set)

-- by an endorsement: these principals together may act for the operand, and not for the result, and may not read the operand
abbrev pub blindly : Labels → ℕ → ℕ → ℕ → Bool
blindly l set x y =
    at (label_at l (Slot (record { 0 = y }))).integ set
    && not (at (label_at l (Slot (record { 0 = x }))).integ set)
    && not (at (label_at l (Slot (record { 0 = y }))).conf set)

-- two families of inputs agree on the trusted hosts, and the same words become trusted
pub record IsSameToTrust (p : NormalForm) (l : Labels) (T : TruthTable → Bool) (first second : List (List ℕ)) : Type 0 where
  pub inputs : SameInputs (trusts_host p T) first second
  pub endorsed : endorsed_words p (becomes_trusted l T) first ≡ endorsed_words p (becomes_trusted l T) second

-- the outputs to each trusted host are the same, and each trusted slot under trusted guards gets the same word at each execution
pub record TrustedIsSame (p : NormalForm) (l : Labels) (T : TruthTable → Bool) (first second : List (List ℕ)) : Type 0 where
  pub outputs : (h : HostId) → trusts_host p T h.0 ≡ true → outputs_to p h first ≡ outputs_to p h second
  pub words : (shows : Showing) → shown_words p (in_trust p l T) shows first ≡ shown_words p (in_trust p l T) shows second

-- of each well-made program whose labels keep its flow rules
abbrev pub OfEachProgram : (NormalForm → Labels → Type 0) → Type 0
OfEachProgram P = (p : NormalForm) (l : Labels) → IsWellMade p → Satisfies (system_of p) l → P p l

-- Hosts that are not trusted change nothing that is, but through endorsements.
abbrev pub IsKept : NormalForm → Labels → (TruthTable → Bool) → Type 0
IsKept p l T = (first second : List (List ℕ)) → IsSameToTrust p l T first second → TrustedIsSame p l T first second

abbrev pub OfEachTrust : (NormalForm → Labels → (TruthTable → Bool) → Type 0) → Type 0
OfEachTrust P = OfEachProgram (λ p l. (T : TruthTable → Bool) → IsTrust (length p.principals) T → P p l T)

-- Principals choose neither what is declassified to them nor whether it is, but through endorsements.
abbrev pub IsRobust : NormalForm → Labels → ℕ → Type 0
IsRobust p l set =
    (first second : List (List ℕ)) → IsSameToTrust p l (against set) first second
    → declassified_words p (becomes_readable l set) first ≡ declassified_words p (becomes_readable l set) second

-- No word becomes trusted in spite of principals who can act for it and cannot read it.
abbrev pub IsTransparent : NormalForm → Labels → ℕ → Type 0
IsTransparent p l set = (inputs : List (List ℕ)) → endorsed_words p (blindly l set) inputs ≡ []
