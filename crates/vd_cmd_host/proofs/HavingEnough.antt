-- A host of which a check finds no list short has enough.
use Rattle.std.proofs.Common.{◌≡◌, ℕ, zero, suc, ◌<◌, ◌≤◌, nat_lt, Bool, true, false, if◌then◌else◌, List, [], ◌∷◌, Option, Some, None, length, get_or, map, refl, sym, subst, arith}
use Rattle.std.specs.List.{range_with_len}
use Rattle.std.proofs.lemmas.Bool.{ltb-false, ltb-true}
use Rattle.std.proofs.lemmas.List.FromFn.{get_or-map-range_with_len, length-map-range_with_len}
use Rattle.vd_execution.specs.declared.instructions.Instr.{Instr}
use Rattle.vd_execution.specs.Code.{Code}
use Rattle.vd_execution.specs.Step.{Source, Inputs, OwnWords, Triples, BitTriples, Pairs}
use Rattle.vd_execution.specs.Text.{text}
use Rattle.vd_execution.proofs.Front.{written_back}
use Rattle.vd_hostcode.specs.Ranges.{IsWithinRanges}
use Rattle.vd_machine.specs.Wants.{count_of}
use Rattle.vd_tape.specs.declared.deal_items.deal.DealKind.{DealKind}
use Rattle.vd_tape.specs.declared.deal_items.deal.DealKind.TheVariants as kind
use Rattle.vd_deal_needs.specs.Counted.{code_in}
use Rattle.vd_deal_needs.proofs.Front.{IsStranger, none_of_strangers, of_can_run}
use Rattle.vd_cmd_plan.specs.declared.status.HostStatus.{HostStatus}
use Rattle.vd_cmd_plan.specs.declared.status.HostStatus.TheVariants as host_status
use Rattle.vd_host_session.specs.Starts.{IsProgramRead}
use Rattle.vd_cmd_host.specs.CheckLaws.{CheckedHostsHaveEnough}
use Rattle.vd_cmd_host.specs.Checking.{amounts_in, either, first_short, most_taken, peer_amounts, short_among, short_deal, short_input, short_with}
use Rattle.vd_cmd_host.specs.Serving.{lists_of}
use Rattle.vd_cmd_host.specs.declared.amounts.Amount.{Amount}
use Rattle.vd_cmd_host.specs.declared.amounts.PeerAmounts.{PeerAmounts}
use Rattle.vd_cmd_host.specs.declared.loading.Loaded.{Loaded}

enough_of : (takes has : ℕ) (b : Bool) (s : HostStatus) → nat_lt has takes ≡ b → (if b then Some s else None) ≡ None → takes ≤ has
enough_of takes has true s e n = absurd (cc n)
enough_of takes has false s e n = ltb-false has takes e

inputs_enough : (a : Amount) → short_input a ≡ None → a.takes ≤ a.has
inputs_enough a n = enough_of a.takes a.has (nat_lt a.has a.takes) (host_status.ShortInput a.has a.has) refl n

items_enough : (k : DealKind) (a : Amount) → short_deal k a ≡ None → a.takes ≤ a.has
items_enough k a n = enough_of a.takes a.has (nat_lt a.has a.takes) (host_status.ShortDeal k a.has a.has) refl n

neither : (x y : Option HostStatus) → either x y ≡ None → (x ≡ None) × (y ≡ None)
neither None y e = (refl, e)
neither (Some s) y e = absurd (cc e)

none_with : (p : PeerAmounts) → short_with p ≡ None → (p.muls.takes ≤ p.muls.has) × (p.ands.takes ≤ p.ands.has) × (p.pairs.takes ≤ p.pairs.has)
none_with p e =
    let x = neither (short_deal kind.Mul p.muls) (either (short_deal kind.And p.ands) (short_deal kind.Pair p.pairs)) e in
    let y = neither (short_deal kind.And p.ands) (short_deal kind.Pair p.pairs) x.1 in
    (items_enough kind.Mul p.muls x.0, items_enough kind.And p.ands y.0, items_enough kind.Pair p.pairs y.1)

none_at : (xs : List PeerAmounts) (i : ℕ) (d : PeerAmounts) → short_among xs ≡ None → i < length xs → short_with (get_or xs i d) ≡ None
none_at [] i d e lt = absurd (omega (arith, lt))
none_at (x ∷ xs) zero d e lt = (neither (short_with x) (short_among xs) e).0
none_at (x ∷ xs) (suc i) d e lt = none_at xs i d (neither (short_with x) (short_among xs) e).1 (omega (arith, lt))

nothing_taken : (takes has : ℕ) → takes ≡ 0 → takes ≤ has
nothing_taken takes has e = omega (arith, e)

not_below : (p n : ℕ) → nat_lt p n ≡ false → p < n → ⊥
not_below p n e lt = let most = ltb-false p n e in omega (arith, lt, most)

module _ (loaded : Loaded) (is_read : IsProgramRead loaded.program) (none : first_short (amounts_in loaded) ≡ None) where
  abbrev takes : Source → ℕ
  takes = most_taken loaded.program

  abbrev has : Source → ℕ
  has = count_of (lists_of loaded)

  abbrev hosts : ℕ
  hosts = length loaded.program.hosts

  abbrev code : Code
  code = code_in loaded.program.code

  abbrev shared : List PeerAmounts
  shared = map (peer_amounts takes has) (range_with_len 0 hosts)

  -- no instruction breaks a range
  within : IsWithinRanges hosts loaded.program.me (text code [])
  within =
      subst (λ (is : List Instr). IsWithinRanges hosts loaded.program.me is)
      (sym (written_back loaded.program.code code (of_can_run loaded.program is_read.code).nested)) is_read.read.1.1

  stranger : (list : Source) → IsStranger hosts loaded.program.me list → takes list ≤ has list
  stranger list s = nothing_taken (takes list) (has list) (none_of_strangers hosts loaded.program.me code list within s)

  own_none : (short_input (amounts_in loaded).inputs ≡ None) × (either (short_deal kind.Own (amounts_in loaded).own) (short_among shared) ≡ None)
  own_none = neither (short_input (amounts_in loaded).inputs) (either (short_deal kind.Own (amounts_in loaded).own) (short_among shared)) none

  shared_none : (short_deal kind.Own (amounts_in loaded).own ≡ None) × (short_among shared ≡ None)
  shared_none = neither (short_deal kind.Own (amounts_in loaded).own) (short_among shared) own_none.1

  with_peer : (p : ℕ) → p < hosts → (takes (Triples p) ≤ has (Triples p)) × (takes (BitTriples p) ≤ has (BitTriples p)) × (takes (Pairs p) ≤ has (Pairs p))
  with_peer p lt =
      none_with (peer_amounts takes has p)
      (subst (λ (a : PeerAmounts). short_with a ≡ None) (get_or-map-range_with_len (peer_amounts takes has) 0 hosts p p (peer_amounts takes has p) lt (omega arith))
      (none_at shared p (peer_amounts takes has p) shared_none.1 (subst (λ (n : ℕ). p < n) (sym (length-map-range_with_len (peer_amounts takes has) 0 hosts)) lt)))

  muls : (p : ℕ) (b : Bool) → nat_lt p hosts ≡ b → takes (Triples p) ≤ has (Triples p)
  muls p true e = (with_peer p (ltb-true p hosts e)).0
  muls p false e = stranger (Triples p) (λ lt differ. not_below p hosts e lt)

  ands : (p : ℕ) (b : Bool) → nat_lt p hosts ≡ b → takes (BitTriples p) ≤ has (BitTriples p)
  ands p true e = (with_peer p (ltb-true p hosts e)).1
  ands p false e = stranger (BitTriples p) (λ lt differ. not_below p hosts e lt)

  pairs : (p : ℕ) (b : Bool) → nat_lt p hosts ≡ b → takes (Pairs p) ≤ has (Pairs p)
  pairs p true e = (with_peer p (ltb-true p hosts e)).2
  pairs p false e = stranger (Pairs p) (λ lt differ. not_below p hosts e lt)

  each : (list : Source) → takes list ≤ has list
  each Inputs = inputs_enough (amounts_in loaded).inputs own_none.0
  each OwnWords = items_enough kind.Own (amounts_in loaded).own shared_none.0
  each (Triples p) = muls p (nat_lt p hosts) refl
  each (BitTriples p) = ands p (nat_lt p hosts) refl
  each (Pairs p) = pairs p (nat_lt p hosts) refl

pub have_enough : CheckedHostsHaveEnough
have_enough loaded is_read none list = each loaded is_read none list
