-- The text of a certificate. Each certificate has one.
use Rattle.std.specs.Prelude.{◌≡◌, ℕ, ◌≤◌, if◌then◌else◌, Bool, true, Option, Some, None, List, [], ◌∷◌, ◌++◌, length, map, flat_map, codes, decimal}
use Rattle.std.specs.List.{AllByRecursion}
use Rattle.vd_base.specs.Limits.{most_certificate_shifts}
use Rattle.vd_search_tree.specs.declared.shift.Shift.{Shift}
use Rattle.vd_search_tree.specs.declared.search_certificate.certificate.Mark.{Mark}
use Rattle.vd_search_tree.specs.declared.search_certificate.certificate.Mark.TheVariants.{Expanded, Violated, Bounded, Best}
use Rattle.vd_search_tree.specs.declared.search_certificate.certificate.Certificate.{Certificate}

-- the end of a line
abbrev pub newline : ℕ
newline = 10

abbrev pub blank : ℕ
blank = 32

abbrev pub letter : Mark → ℕ
letter Expanded = 69
letter Violated = 86
letter Bounded = 66
letter Best = 76

abbrev pub sign : Bool → ℕ
sign add = if add then 43 else 45

-- one line, with a letter for each mark
abbrev pub marks_text : List Mark → List ℕ
marks_text marks = map letter marks ++ codes "\n"

-- one line: the use, the side, the place of the protocol, a sign and the amount
abbrev pub shift_text : Shift → List ℕ
shift_text shift =
    decimal shift.at ++ codes " " ++ decimal shift.side ++ codes " " ++ decimal shift.proto ++ codes " " ++ sign shift.add ∷ codes " "
    ++ decimal shift.amount ++ codes "\n"

abbrev pub cost_text : ℕ → List ℕ
cost_text cost = codes "cost " ++ decimal cost ++ codes "\n"

-- a line with their number, and one for each
abbrev pub shifts_text : List Shift → List ℕ
shifts_text shifts = codes "shifts " ++ decimal (length shifts) ++ codes "\n" ++ flat_map shift_text shifts

-- the form of a certificate with shifts, by whether these name arcs
abbrev pub heading : Bool → List ℕ
heading by_arcs = if by_arcs then codes "viaduct-cert 3\n" else codes "viaduct-cert 2\n"

-- that no list is valid, in the first form and in the third
abbrev pub empty_text : Bool → List ℕ
empty_text by_arcs = if by_arcs then codes "viaduct-cert 3\nempty\n" else codes "viaduct-cert 1\nempty\n"

-- a cost without shifts has the first form
abbrev pub claim_text : Option ℕ → Bool → List Shift → List ℕ
claim_text None by_arcs shifts = empty_text by_arcs
claim_text (Some cost) by_arcs [] = codes "viaduct-cert 1\n" ++ cost_text cost
claim_text (Some cost) by_arcs (shift ∷ shifts) = heading by_arcs ++ cost_text cost ++ shifts_text (shift ∷ shifts)

abbrev pub text_of : Certificate → List ℕ
text_of c = claim_text c.cost c.by_arcs c.shifts ++ marks_text c.marks

-- the greatest NUM
abbrev pub most_number : ℕ
most_number = 4294967295

-- a shift has an amount of at least 1, and its side is 0 or 1; its numbers fit
pub record IsShift (shift : Shift) : Type 0 where
  pub at : shift.at ≤ most_number
  pub side : shift.side ≤ 1
  pub proto : shift.proto ≤ 255
  pub some : 1 ≤ shift.amount
  pub amount : shift.amount ≤ most_number

abbrev pub CostFits : Option ℕ → Type 0
CostFits None = Unit {0}
CostFits (Some cost) = cost ≤ most_number

-- what a certificate keeps: few shifts, none where it says that there is no list, and some where its cost goes by arcs
pub record IsCertificate (c : Certificate) : Type 0 where
  pub cost : CostFits c.cost
  pub few : length c.shifts ≤ most_certificate_shifts
  pub shifts : AllByRecursion IsShift c.shifts
  pub none : c.cost ≡ None → c.shifts ≡ []
  pub some : c.by_arcs ≡ true → (cost : ℕ) → c.cost ≡ Some cost → 1 ≤ length c.shifts

-- the bytes are the certificate's text
pub record IsTextOf (c : Certificate) (bytes : List ℕ) : Type 0 where
  pub is : IsCertificate c
  pub text : bytes ≡ text_of c
