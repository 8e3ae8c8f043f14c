-- Packets that need not stay.
use Rattle.std.proofs.Common.{◌≡◌, ℕ, nat_eq, Bool, true, false, ◌||◌, not, if◌then◌else◌, List, [], ◌∷◌, ◌++◌, reverse, refl, sym, ap, ◌∙◌, subst}
use Rattle.std.specs.List.{filter}
use Rattle.std.proofs.lemmas.List.{append_assoc, append-nil, reverse-reverse}
use Rattle.std.proofs.lemmas.Grind.{reverse_onto}
use Rattle.std.proofs.lemmas.Bool.{eq-eqb}
use Rattle.vd_base.specs.declared.ids.HostId.{HostId}
use Rattle.vd_execution.specs.declared.instructions.Reg.{Reg}
use Rattle.vd_execution.specs.declared.instructions.Instr.{Instr}
use Rattle.vd_execution.specs.declared.instructions.Instr.TheVariants as instr
use Rattle.vd_reorder.specs.Hastening.{Sends}
use Rattle.vd_reorder.specs.ReorderLawsTesting.{has, meet}
use Rattle.vd_reorder.specs.Packets.{is_blind, opened, opened_in, stays_in}
use Rattle.vd_reorder.proofs.InRows.{has_append}
use Rattle.vd_execution.specs.Registers.{Registers}
use Rattle.vd_reorder.specs.Blind.{Did, instructions, AreWords, AreMarked, AllBlind, AllHide, OnlyBlindPacketsGoAhead, PacketsThatGoAheadHide}
use Rattle.vd_reorder.proofs.Masked.{blind_hides}

or_right : (a b : Bool) → b ≡ true → (a || b) ≡ true
or_right true b e = refl
or_right false b e = e

or_left : (a b : Bool) → a ≡ true → (a || b) ≡ true
or_left true b e = refl
or_left false b e = absurd cc

turned_front : (j : Instr) (front before : List Instr) → reverse (j ∷ front) ++ before ≡ reverse front ++ j ∷ before
turned_front j front before = ap (λ l. l ++ before) (reverse_onto front j []) ∙ append_assoc (reverse front) (j ∷ []) before

-- what one packet opens is among what all open
opened_part : (r : Reg) (before front : List Instr) (i : Instr) (back : List Instr) → has r (opened (reverse front ++ before) i) ≡ true
    → has r (opened_in before (front ++ i ∷ back)) ≡ true
opened_part r before [] i back e = has_append r (opened before i) (opened_in (i ∷ before) back) ∙ or_left (has r (opened before i)) (has r (opened_in (i ∷ before) back)) e
opened_part r before (j ∷ front) i back e =
    let ih = opened_part r (j ∷ before) front i back (ap (λ l. has r (opened l i)) (sym (turned_front j front before)) ∙ e) in
    has_append r (opened before j) (opened_in (j ∷ before) (front ++ i ∷ back)) ∙ or_right (has r (opened before j)) (has r (opened_in (j ∷ before) (front ++ i ∷ back))) ih

not_met : (b k : Bool) → (if b then true else k) ≡ false → (b ≡ false) × (k ≡ false)
not_met true k e = absurd cc
not_met false k e = (refl, e)

itself : (r : Reg) (rs : List Reg) → has r (r ∷ rs) ≡ true
itself r rs = ap (λ b. if b then true else has r rs) (eq-eqb r.0 r.0 refl)

kept : (r q : Reg) (rs : List Reg) (b : Bool) → has q rs ≡ true → has q (if b then r ∷ rs else rs) ≡ true
kept r q rs true e = more (nat_eq q.0 r.0)
  where
    more : (b : Bool) → (if b then true else has q rs) ≡ true
    more true = refl
    more false = e
kept r q rs false e = e

-- where none of the registers is opened, each is blind
all_blind : (before : List Instr) (rs known : List Reg) → ((r : Reg) → has r (filter (λ r. not (is_blind before r)) rs) ≡ true → has r known ≡ true) → meet rs known ≡ false → AllBlind before rs
all_blind before [] known within none = tt
all_blind before (r ∷ rs) known within none =
    let n = not_met (has r known) (meet rs known) none in (
      blind (is_blind before r) refl n.0,
      all_blind before rs known (λ q e. within q (kept r q (filter (λ r. not (is_blind before r)) rs) (not (is_blind before r)) e)) n.1,
    )
  where
    blind : (b : Bool) → is_blind before r ≡ b → has r known ≡ false → is_blind before r ≡ true
    blind true e f = e
    blind false e f =
        let here : has r (filter (λ r. not (is_blind before r)) (r ∷ rs)) ≡ true =
        ap (λ b. has r (if not b then r ∷ filter (λ r. not (is_blind before r)) rs else filter (λ r. not (is_blind before r)) rs)) e
        ∙ itself r (filter (λ r. not (is_blind before r)) rs) in
        let g = within r here in
        absurd cc

pub only_blind : OnlyBlindPacketsGoAhead
only_blind front back p rs none =
    all_blind (reverse front) rs (opened_in [] (front ++ instr.Send p rs ∷ back))
    (λ r e. opened_part r [] front (instr.Send p rs) back (ap (λ l. has r (opened l (instr.Send p rs))) (append-nil (reverse front)) ∙ e))
    none

-- ---- so their words are hidden

all_hide : (f : Registers) (marked : List Instr) (before : List Did) (rs : List Reg) → AreMarked marked → AreWords f before → AllBlind (instructions before ++ marked) rs
    → AllHide f before rs
all_hide f marked before [] ends words blind = tt
all_hide f marked before (r ∷ rs) ends words blind = (blind_hides f marked before r ends words blind.0, all_hide f marked before rs ends words blind.1)

pub packets_hide : PacketsThatGoAheadHide
packets_hide f marked before back p rs ends words none =
    let past : List Instr = instructions before ++ marked in
    all_hide f marked before rs ends words (subst (λ l. AllBlind l rs) (reverse-reverse past) (only_blind (reverse past) back p rs none))
