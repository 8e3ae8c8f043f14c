-- Deals of the sizes are enough, and where no branch takes differently no smaller ones are.
use Rattle.std.proofs.Common.{◌≡◌, ◌≢◌, inl, inr, ℕ, ◌<◌, ◌≤◌, max, if◌then◌else◌, List, [], length, Option, Some, None, refl, sym, ap, ◌∙◌, subst, arith}
use Rattle.std.specs.Prelude.{slice_get}
use Rattle.std.proofs.lemmas.Bool.{cases_lt}
use Rattle.std.proofs.lemmas.Bool.Decides.{eqb_tells}
use Rattle.std.proofs.lemmas.Option.{slice_get_cases}
use Rattle.vd_base.specs.declared.protocols.Proto.{Proto}
use Rattle.vd_base.specs.HostSets.{host}
use Rattle.vd_core.specs.declared.normal.NormalForm.{NormalForm}
use Rattle.vd_tape.specs.declared.deal_items.deal.Counts.{Counts}
use Rattle.vd_tape.specs.declared.deal_items.deal.Deal.{Deal}
use Rattle.vd_tape.specs.declared.deal_items.items.PairItem.{PairItem}
use Rattle.vd_tape.specs.declared.deal_items.items.Triple.{Triple}
use Rattle.vd_tape.specs.Validity.{shared_with}
use Rattle.vd_execution.specs.declared.instructions.Instr.{Instr}
use Rattle.vd_execution.specs.Code.{Code}
use Rattle.vd_execution.specs.Joint.{code_of}
use Rattle.vd_execution.specs.Step.{Source, Inputs, OwnWords, Triples, BitTriples, Pairs}
use Rattle.vd_execution.specs.World.{Supply}
use Rattle.vd_execution.specs.Claims.{RunsWell}
use Rattle.vd_machine.specs.Machines.{item_or_none, items_of, list_of, pair_item, triple_item, word_item}
use Rattle.vd_hostcode.specs.Ranges.{IsWithinRanges}
use Rattle.vd_deal_needs.specs.DealNeedsLawsNeeds.{HasWhatItTakes, counts, takes}
use Rattle.vd_deal_needs.proofs.DealNeedsLawsTaken.{all_end, enough, least, nobody_short}
use Rattle.vd_deal_needs.specs.declared.taking.Shared.{Shared}
use Rattle.vd_deal_needs.specs.Needs.{shared_by}
use Rattle.vd_deal_needs.specs.Sizes.{greater, most_of, most_own, nothing}
use Rattle.vd_backend_laws.specs.Whole.{inputs_of}
use Rattle.vd_world.specs.Supplies.{AreFiles, items_for, lists_for, supply_of_files}
use Rattle.vd_world.proofs.Front.{files_are_valid}
use Rattle.vd_projection.specs.Programs.{CanRunAt, joint_of}
use Rattle.vd_projection.proofs.Front.{codes_run_well, ended_past}
use Rattle.vd_deal_needs.specs.Enough.{AreBelow, HandInEnough, HasSizes, IsWithinSizes, SizesAreEnough, SizesAreLeast, SuffersNoWant, needs_for, sizes_for}
use Rattle.vd_deal_needs.proofs.Countable.{code_at, hosts, within}
use Rattle.vd_deal_needs.proofs.Measured.{any_there, as_long, counted, joint_code, own_below, own_within, shared_below, shared_within, taken}
use Rattle.vd_deal_needs.proofs.Strangers.{IsStranger, none_of_strangers}

-- the list of a peer
peer_list : {X : Type 0} (lists : List (List X)) (me h p : ℕ) → me ≡ h → p ≢ h → list_of lists me p ≡ shared_with lists h p
peer_list lists me h p same differ =
    ap (λ (m : ℕ). list_of lists m p) same
    ∙ elim (eqb_tells p h) [ inl e ↦ absurd (differ e.1) | inr e ↦ ap (λ b. if b then [] else shared_with lists h p) e.0 ]

none_least : (m : ℕ) → 0 ≤ m
none_least m = omega arith

no_more : (n m i : ℕ) → n ≡ m → m ≡ 0 → i < n → ⊥
no_more n m i e z lt = omega (arith, e, z, lt)

module _ (program : NormalForm) (list : List Proto) (can : CanRunAt program list) where
  none_past : (h : ℕ) (r : Source) → hosts program list can ≤ h → counted program list can h r ≡ 0
  none_past h r le = ap (λ (c : Code). counts c r) (ended_past program list can h le)

  none_strange : (h : ℕ) (r : Source) → h < hosts program list can → IsStranger (hosts program list can) (host h) r → counted program list can h r ≡ 0
  none_strange h r lt strange =
      none_of_strangers (hosts program list can) (host h) (code_of h (joint_code program list can)) r
      (subst (λ (c : List Instr). IsWithinRanges (hosts program list can) (host h) c) (code_at program list can h [] lt) (within program list can h lt)) strange

  module _ (inputs : List (List ℕ)) (deals : List Deal) (files : AreFiles inputs deals) (all : length deals ≡ length program.hosts) where
    abbrev supply : Supply
    supply = supply_of_files inputs deals

    -- each host has its deal
    dealt : (h : ℕ) → h < hosts program list can → (deal : Deal) × (slice_get deals h ≡ Some deal)
    dealt h lt = elim (slice_get_cases deals h).1 [ inl there ↦ (there.0, there.2) | inr past ↦ absurd (omega (arith, past.0, all, lt)) ]

    -- the item of a host that has this deal
    item_is : (h i : ℕ) (r : Source) (deal : Deal) → slice_get deals h ≡ Some deal → supply h r i ≡ items_of (lists_for inputs h deal) r i
    item_is h i r deal is = ap (λ (o : Option Deal). items_for inputs h o r i) is

    -- ---- a kind of what is shared: the list of its items with a peer, and how many of them are taken
    module _ {X : Type 0} (source : ℕ → Source) (kind : Shared → ℕ) (lists : Deal → List (List X)) (words : X → List ℕ) (item_of : (h p i : ℕ) (deal : Deal) → items_of (lists_for inputs h deal) (source p) i ≡ item_or_none words (slice_get (list_of (lists deal) deal.me.0 p) i)) (kind_of : (h p : ℕ) → kind (shared_by (counted program list can h) p) ≡ counted program list can h (source p)) (strange : (h p : ℕ) → (p < hosts program list can → p ≢ h → ⊥) → IsStranger (hosts program list can) (host h) (source p)) (kept : (s t : Shared) → kind (greater s t) ≡ max (kind s) (kind t)) where
      abbrev with_peer : Deal → ℕ → ℕ → List X
      with_peer deal h p = shared_with (lists deal) h p

      shared_item : (h p i : ℕ) (deal : Deal) → slice_get deals h ≡ Some deal → p ≢ h → supply h (source p) i ≡ item_or_none words (slice_get (with_peer deal h p) i)
      shared_item h p i deal is differ =
          item_is h i (source p) deal is ∙ item_of h p i deal
          ∙ ap (λ (l : List X). item_or_none words (slice_get l i)) (peer_list (lists deal) deal.me.0 h p (files.dealt h deal is).me_is differ)

      no_peer : (h p : ℕ) → h < hosts program list can → (p < hosts program list can → p ≢ h → ⊥) → counted program list can h (source p) ≡ 0
      no_peer h p lt none = none_strange h (source p) lt (strange h p none)

      -- where the lists are long enough, each item that is taken is there
      has_shared : ((h p : ℕ) (deal : Deal) → slice_get deals h ≡ Some deal → p < length deals → p ≢ h → kind (most_of (needs_for program list)) ≤ length (with_peer deal h p))
          → (h p i : ℕ) → h < hosts program list can → i < takes (joint_code program list can) h (source p) → supply h (source p) i ≢ None
      has_shared long h p i lt less =
          let t = taken program list can h (source p) in
          elim (eqb_tells p h) [
            | inl same ↦ absurd (no_more _ _ i t (no_peer h p lt (λ l d. d same.1)) less)
            | inr differ ↦ elim (cases_lt p (hosts program list can)) [
              | inl there ↦
                  let d = dealt h lt in
                  let k = kind_of h p in
                  let w = shared_within program list can kind kept h p lt there in
                  let l = long h p d.0 d.1 (omega (arith, there, all)) differ.1 in
                  let enough_there : i < length (with_peer d.0 h p) = omega (arith, less, t, k, w, l) in
                  subst (λ (o : Option (List ℕ)). o ≢ None) (sym (shared_item h p i d.0 d.1 differ.1)) (any_there words (with_peer d.0 h p) i enough_there)
              | inr past ↦ absurd (no_more _ _ i t (no_peer h p lt (λ l e. omega (arith, l, past))) less)
            ]
          ]

      -- where all that is taken is there, the lists are long enough
      shared_least : (m : ℕ) → kind nothing ≤ m → HasWhatItTakes supply (joint_code program list can)
          → ((h p : ℕ) (deal : Deal) → slice_get deals h ≡ Some deal → p < length deals → p ≢ h → length (with_peer deal h p) ≤ m) → kind (most_of (needs_for program list)) ≤ m
      shared_least m none has short = shared_below program list can kind kept m none (λ h p lt there.
          let k = kind_of h p in
          elim (eqb_tells p h) [
            | inl same ↦ let z = no_peer h p lt (λ l d. d same.1) in omega (arith, k, z)
            | inr differ ↦
                let d = dealt h lt in
                let t = taken program list can h (source p) in
                let long = as_long words (with_peer d.0 h p) (takes (joint_code program list can) h (source p)) (λ i less.
                subst (λ (o : Option (List ℕ)). o ≢ None) (shared_item h p i d.0 d.1 differ.1) (has h (source p) i less)) in
                let s = short h p d.0 d.1 (omega (arith, there, all)) differ.1 in
                omega (arith, k, t, long, s)
          ])

    -- ---- from all lists

    has_own : HasSizes (sizes_for program list) deals → (h i : ℕ) → h < hosts program list can → i < takes (joint_code program list can) h OwnWords → supply h OwnWords i ≢ None
    has_own sizes h i lt less =
        let d = dealt h lt in
        let t = taken program list can h OwnWords in
        let w = own_within program list can h lt in
        let l = sizes.own h d.0 d.1 in
        let there : i < length d.0.own = omega (arith, less, t, w, l) in
        subst (λ (o : Option (List ℕ)). o ≢ None) (sym (item_is h i OwnWords d.0 d.1)) (any_there word_item d.0.own i there)

    has_inputs : HandInEnough (joint_code program list can) inputs → (h i : ℕ) → h < hosts program list can → i < takes (joint_code program list can) h Inputs → supply h Inputs i ≢ None
    has_inputs given h i lt less =
        let d = dealt h lt in
        let g = given h in
        subst (λ (o : Option (List ℕ)). o ≢ None) (sym (item_is h i Inputs d.0 d.1)) (any_there word_item (inputs_of inputs h) i (omega (arith, less, g)))

    has_each : HandInEnough (joint_code program list can) inputs → HasSizes (sizes_for program list) deals → (h : ℕ) (r : Source) (i : ℕ) → h < hosts program list can
        → i < takes (joint_code program list can) h r → supply h r i ≢ None
    has_each given sizes h Inputs i lt less = has_inputs given h i lt less
    has_each given sizes h OwnWords i lt less = has_own sizes h i lt less
    has_each given sizes h (Triples p) i lt less =
        has_shared {X = Triple} Triples (λ s. s.muls) (λ d. d.triples) triple_item (λ h p i d. refl) (λ h p. refl) (λ h p none. none) (λ s t. refl) sizes.muls h p i lt less
    has_each given sizes h (BitTriples p) i lt less =
        has_shared {X = Triple} BitTriples (λ s. s.ands) (λ d. d.bits) triple_item (λ h p i d. refl) (λ h p. refl) (λ h p none. none) (λ s t. refl) sizes.ands h p i lt less
    has_each given sizes h (Pairs p) i lt less =
        has_shared {X = PairItem} Pairs (λ s. s.pairs) (λ d. d.pairs) pair_item (λ h p i d. refl) (λ h p. refl) (λ h p none. none) (λ s t. refl) sizes.pairs h p i lt less

    has_what : HandInEnough (joint_code program list can) inputs → HasSizes (sizes_for program list) deals → HasWhatItTakes supply (joint_code program list can)
    has_what given sizes h r i less = elim (cases_lt h (hosts program list can)) [
      | inl lt ↦ has_each given sizes h r i lt less
      | inr past ↦ absurd (no_more _ _ i (taken program list can h r) (none_past h r past) less)
    ]

    runs_well : RunsWell supply (joint_code program list can)
    runs_well =
        let valid = files_are_valid inputs deals files in
        codes_run_well program list can inputs files.words supply valid.0 valid.1

    no_want : HandInEnough (joint_code program list can) inputs → HasSizes (sizes_for program list) deals → SuffersNoWant supply (joint_code program list can)
    no_want given sizes =
        let has = has_what given sizes in
        record {
          suffices = enough supply (joint_code program list can) has;
          nobody_short = λ turns h. nobody_short supply (joint_code program list can) turns h runs_well has;
          all_end = λ turns. all_end supply (joint_code program list can) turns runs_well has;
        }

    own_least : (m : ℕ) → HasWhatItTakes supply (joint_code program list can) → ((h : ℕ) (deal : Deal) → slice_get deals h ≡ Some deal → length deal.own ≤ m) → most_own (needs_for program list) ≤ m
    own_least m has short = own_below program list can m (λ h lt.
        let d = dealt h lt in
        let t = taken program list can h OwnWords in
        let long = as_long word_item d.0.own (takes (joint_code program list can) h OwnWords) (λ i less. subst (λ (o : Option (List ℕ)). o ≢ None) (item_is h i OwnWords d.0 d.1) (has h OwnWords i less)) in
        let s = short h d.0 d.1 in
        omega (arith, t, long, s))

    below_others : (others : Counts) → IsWithinSizes others deals → HasWhatItTakes supply (joint_code program list can) → AreBelow (sizes_for program list) others
    below_others others short has = record {
      own = own_least others.own has short.own;
      muls = shared_least {X = Triple} Triples (λ s. s.muls) (λ d. d.triples) triple_item (λ h p i d. refl) (λ h p. refl) (λ h p none. none) (λ s t. refl) others.muls (none_least others.muls) has short.muls;
      ands = shared_least {X = Triple} BitTriples (λ s. s.ands) (λ d. d.bits) triple_item (λ h p i d. refl) (λ h p. refl) (λ h p none. none) (λ s t. refl) others.ands (none_least others.ands) has short.ands;
      pairs = shared_least {X = PairItem} Pairs (λ s. s.pairs) (λ d. d.pairs) pair_item (λ h p i d. refl) (λ h p. refl) (λ h p none. none) (λ s t. refl) others.pairs (none_least others.pairs) has short.pairs;
    }

pub sizes_are_enough : SizesAreEnough
sizes_are_enough program list can inputs deals files all given sizes = no_want program list can inputs deals files all given sizes

pub sizes_are_least : SizesAreLeast
sizes_are_least program list can even inputs deals others files all short suffices =
    below_others program list can inputs deals files all others short (least (supply_of_files inputs deals) (joint_of program list) even suffices)
