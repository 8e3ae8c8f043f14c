-- The lists of the rules that read each part, while they grow.
use Rattle.std.proofs.Common.{◌≡◌, ℕ, ◌+◌, ◌*◌, ◌<◌, ◌≤◌, Bool, true, false, Option, Some, None, List, [], ◌∷◌, ◌++◌, length, get_or, set, sym, ap, ◌∙◌, subst, arith, inl, inr}
use Rattle.std.specs.Prelude.{All, Contains, IfSome}
use Rattle.std.proofs.lemmas.Bool.{cases_eq}
use Rattle.std.proofs.lemmas.List.{length-set, get_or_default, get_or-set_same, get_or-set_other}
use Rattle.std.proofs.lemmas.List.Elements.{All-push, All-set, All-weaker, Contains-push, Contains-append_left}
use Rattle.std.proofs.Math.ListN.{length-append}
use Rattle.vd_constraints.specs.declared.system.Place.{Place}
use Rattle.vd_constraints.specs.declared.system.Place.TheVariants.{Slot, Block}
use Rattle.vd_constraints.specs.declared.system.Part.{Part}
use Rattle.vd_constraints.specs.declared.system.Bound.{Bound}
use Rattle.vd_constraints.specs.declared.system.Bound.TheVariants.{Constant, Same, Given, Or}
use Rattle.vd_constraints.specs.declared.system.Lower.{Lower}
use Rattle.vd_constraints.specs.Systems.{Constraints, IsPlaceOf, IsPartOf, IsBoundOf}
use Rattle.vd_solver.specs.Reading.{read_part, part_number, place_number, side_number, IsIndex}

place_low : (s : Constraints) (at : Place) → IsPlaceOf s at → place_number s.slots at < s.slots + s.blocks
place_low s (Slot x) low = omega arith
place_low s (Block b) low = omega arith

side_low : (integ : Bool) → side_number integ < 2
side_low true = omega arith
side_low false = omega arith

pub number_low : (s : Constraints) (part : Part) → IsPartOf s part → part_number s.slots part < 2 * (s.slots + s.blocks)
number_low s part low = let place = place_low s part.at low in let side = side_low part.integ in omega arith

-- the part that a rule of the system reads is a part of the system
pub read_low : (s : Constraints) (bound : Bound) → IsBoundOf s bound → IfSome (read_part bound) (IsPartOf s)
read_low s (Constant f) valid = tt
read_low s (Same part) valid = valid
read_low s (Given f part) valid = valid.1
read_low s (Or f part) valid = valid.1

module _ (s : Constraints) (n : ℕ) (readers : List (List ℕ)) (so_far : IsIndex s n readers) where
  abbrev Read : List (List ℕ) → ℕ → Option Part → Type 0
  Read lists rule read = IfSome read (λ part. Contains (get_or lists (part_number s.slots part) []) rule)

  more_rules : All (All (λ rule. rule < n + 1)) readers
  more_rules = All-weaker (All (λ rule. rule < n)) (All (λ rule. rule < n + 1)) (λ list all. All-weaker (λ rule. rule < n) (λ rule. rule < n + 1) (λ rule h. omega arith) list all) readers so_far.rules

  more_short : All (λ list. length list ≤ n + 1) readers
  more_short = All-weaker (λ (list : List ℕ). length list ≤ n) (λ list. length list ≤ n + 1) (λ list h. omega arith) readers so_far.short

  module _ (rule : Lower) (low : n < length s.lower) (is : rule ≡ get_or s.lower n rule) where
    -- the next rule is read at any default
    there : (r : ℕ) (d : Lower) → r ≡ n → get_or s.lower r d ≡ rule
    there r d here = ap (λ k. get_or s.lower k d) here ∙ get_or_default s.lower n d rule low ∙ sym is

    -- a list with the new rule has each rule that it had, and the new rule
    complete_more : (lists : List (List ℕ)) → ((r : ℕ) (part : Part) → Contains (get_or readers (part_number s.slots part) []) r → Contains (get_or lists (part_number s.slots part) []) r) → Read lists n (read_part rule.bound) → (r : ℕ) (d : Lower) → r < n + 1 → Read lists r (read_part (get_or s.lower r d).bound)
    complete_more lists kept new r d h = elim (cases_eq r n) [
      | inr before ↦ still (read_part (get_or s.lower r d).bound) (so_far.complete r d (omega arith))
      | inl here ↦ subst (λ (x : Lower). Read lists r (read_part x.bound)) (sym (there r d here)) (subst (λ k. Read lists k (read_part rule.bound)) (sym here) new)
    ]
      where
        still : (read : Option Part) → Read readers r read → Read lists r read
        still None has = has
        still (Some part) has = kept r part has

    -- a rule whose bound reads no part
    pub index_constant : read_part rule.bound ≡ None → IsIndex s (n + 1) readers
    index_constant none = record {
      count = so_far.count;
      rules = more_rules;
      short = more_short;
      complete = complete_more readers (λ r part has. has) (subst (Read readers n) (sym none) tt);
    }

    -- a rule whose bound reads a part
    pub index_read : (part : Part) (list : List ℕ) → IsPartOf s part → read_part rule.bound ≡ Some part → list ≡ get_or readers (part_number s.slots part) list → IsIndex s (n + 1) (set readers (part_number s.slots part) (list ++ n ∷ []))
    index_read part list valid reads was =
        let number = part_number s.slots part in
        let longer = list ++ n ∷ [] in
        let number_low : part_number s.slots part < length readers = (let low = number_low s part valid in let count = so_far.count in omega arith) in
        let here : (r : ℕ) → Contains (get_or readers (part_number s.slots part) []) r → Contains longer r =
        λ r has. Contains-append_left list (n ∷ []) r (subst (λ xs. Contains xs r) (get_or_default readers number [] list number_low ∙ sym was) has) in
        record {
          count = length-set readers number longer ∙ so_far.count;
          rules = All-set (All (λ r. r < n + 1)) readers number longer (All-push (λ r. r < n + 1) list n (subst (All (λ r. r < n + 1)) (sym was) (more_rules number list number_low)) (omega arith)) more_rules;
          short = All-set (λ xs. length xs ≤ n + 1) readers number longer
              (let short : length list ≤ n = subst (λ xs. length xs ≤ n) (sym was) (so_far.short number list number_low) in let long : length longer ≡ length list + 1 = length-append list (n ∷ []) in omega arith) more_short;
          complete = complete_more (set readers number longer)
              (λ r other has. elim (cases_eq (part_number s.slots other) number) [
                | inl same ↦ subst (λ k. Contains (get_or (set readers number longer) k []) r) (sym same) (subst (λ xs. Contains xs r) (sym (get_or-set_same readers number longer [] number_low)) (here r (subst (λ k. Contains (get_or readers k []) r) same has)))
                | inr differs ↦ subst (λ xs. Contains xs r) (sym (get_or-set_other readers number (part_number s.slots other) longer [] differs)) has
              ])
              (subst (Read (set readers number longer) n) (sym reads) (subst (λ xs. Contains xs n) (sym (get_or-set_same readers number longer [] number_low)) (Contains-push list n)));
        }
