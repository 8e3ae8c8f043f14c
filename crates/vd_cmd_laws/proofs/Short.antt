-- The certificate of a search within the greatest budget is short enough to be read.
use Rattle.std.proofs.Common.{◌≡◌, ℕ, suc, ◌+◌, ◌*◌, ◌<◌, ◌≤◌, Bool, true, false, if◌then◌else◌, Option, Some, None, List, [], ◌∷◌, ◌++◌, map, length, Ok, sym, ap, ◌∙◌, subst, lit≤, lit<, arith, length-append}
use Rattle.std.specs.Prelude.{codes, decimal, flat_map}
use Rattle.std.specs.List.{AllByRecursion}
use Rattle.std.proofs.Math.Nat.{mul-suc, mul-zero, mul-le-mul_right}
use Rattle.std.proofs.lemmas.Fmt.{length-decimal-le}
use Rattle.std.proofs.lemmas.List.{length-map}
use Rattle.std.proofs.lemmas.List.Concat.{flat_map-cons}
use Rattle.std.proofs.lemmas.List.FromFn.{length-map-range_with_len}
use Rattle.vd_base.specs.Limits.{most_certificate_bytes, most_search_budget}
use Rattle.vd_bound.specs.Checking.{checked}
use Rattle.vd_bound.specs.Marks.{AreTrees, children, count_of, is_expanded}
use Rattle.vd_bound.specs.declared.checking.Proved.{Proved}
use Rattle.vd_bound.proofs.Front.{yes_is_sound}
use Rattle.vd_search_tree.specs.declared.search_certificate.certificate.Certificate.{Certificate}
use Rattle.vd_search_tree.specs.declared.search_certificate.certificate.Mark.{Mark}
use Rattle.vd_search_tree.specs.declared.search_certificate.certificate.Mark.TheVariants.{Best, Bounded, Expanded, Violated}
use Rattle.vd_search_tree.specs.Texts.{CostFits, IsCertificate, IsShift, claim_text, cost_text, heading, letter, marks_text, most_number, shift_text, shifts_text, sign, text_of}
use Rattle.vd_space.specs.Network.{network_tree}
use Rattle.vd_search_tree.specs.Trees.{Tree}
use Rattle.vd_search_tree.specs.declared.shift.Shift.{Shift}
use Rattle.vd_search_stages.specs.Confirming.{confirmed, names_by, tree_by}
use Rattle.vd_search_stages.specs.SoFar.{so_far_tree}
use Rattle.vd_space.specs.declared.problem.Problem.{Problem}
use Rattle.vd_space.specs.Validity.{protocols}
use Rattle.vd_cmd_laws.proofs.Proved.{unshifted}

-- ---- marks

opened_more : (marks waiting choices expanded count opened product : ℕ) → marks ≡ opened + product → opened ≡ choices + waiting → choices * suc expanded ≡ product + choices → count ≡ suc expanded
    → suc marks ≡ suc waiting + choices * count
opened_more marks waiting choices expanded count opened product one two three same =
    subst (λ n. suc marks ≡ suc waiting + choices * n) (sym same) (subst (λ n. suc marks ≡ suc waiting + n) (sym three) (omega (arith, one, two)))

one_mark : (marks waiting product : ℕ) → marks ≡ waiting + product → suc marks ≡ suc waiting + product
one_mark marks waiting product is = omega (arith, is)

closed : (marks waiting choices expanded count : ℕ) → marks ≡ waiting + choices * expanded → count ≡ expanded → suc marks ≡ suc waiting + choices * count
closed marks waiting choices expanded count is same = subst (λ n. suc marks ≡ suc waiting + choices * n) (sym same) (one_mark marks waiting (choices * expanded) is)

-- there is a mark for each prefix that waits, and one for each child of each that was opened
marks_count : (tree : Tree) (stated : Option ℕ) (waiting : List (List ℕ)) (marks : List Mark) → AreTrees tree stated waiting marks
    → length marks ≡ length waiting + tree.choices * count_of is_expanded marks
marks_count tree stated [] [] trees = subst (λ n. 0 ≡ 0 + n) (sym (mul-zero tree.choices)) (omega arith)
marks_count tree stated [] (mark ∷ marks) trees = absurd trees
marks_count tree stated (prefix ∷ waiting) [] trees = absurd trees
marks_count tree stated (prefix ∷ waiting) (Expanded ∷ marks) trees =
    let rest = marks_count tree stated (children tree prefix ++ waiting) marks trees.1 in
    let opened = length-map-range_with_len (λ choice. prefix ++ choice ∷ []) 0 tree.choices in
    let both = length-append (children tree prefix) waiting in
    let expanded = count_of is_expanded marks in
    opened_more (length marks) (length waiting) tree.choices expanded (1 + expanded) (length (children tree prefix ++ waiting)) (tree.choices * expanded) rest (omega (arith, opened, both)) (mul-suc tree.choices expanded) (omega arith)
marks_count tree stated (prefix ∷ waiting) (Violated ∷ marks) trees =
    let expanded = count_of is_expanded marks in
    closed (length marks) (length waiting) tree.choices expanded (0 + expanded) (marks_count tree stated waiting marks trees.1) (omega arith)
marks_count tree stated (prefix ∷ waiting) (Bounded ∷ marks) trees =
    let expanded = count_of is_expanded marks in
    closed (length marks) (length waiting) tree.choices expanded (0 + expanded) (marks_count tree stated waiting marks trees.1) (omega arith)
marks_count tree stated (prefix ∷ waiting) (Best ∷ marks) trees =
    let expanded = count_of is_expanded marks in
    closed (length marks) (length waiting) tree.choices expanded (0 + expanded) (marks_count tree stated waiting marks trees.1) (omega arith)

at_most : (product middle most : ℕ) → product ≤ middle → middle ≤ most → product ≤ most
at_most product middle most one two = omega (arith, one, two)

within : (choices expanded budget : ℕ) → choices ≤ 42 → expanded ≤ budget → budget ≤ most_search_budget → choices * expanded ≤ 8400000
within choices expanded budget few opened low =
    let opened_low : expanded ≤ 200000 = omega (arith, opened, low) in
    at_most (choices * expanded) (42 * expanded) 8400000 (mul-le-mul_right expanded few) (omega (arith, opened_low))

one_and : (marks product : ℕ) → marks ≡ 1 + product → product ≤ 8400000 → marks ≤ 8400001
one_and marks product one two = omega (arith, one, two)

marks_few_in : (tree : Tree) (stated : Option ℕ) (marks : List Mark) (proved : Proved) (budget : ℕ) → tree.choices ≤ 42 → checked tree stated marks ≡ Ok proved → count_of is_expanded marks ≤ budget → budget ≤ most_search_budget
    → length marks ≤ 8400001
marks_few_in tree stated marks proved budget few accepted opened low =
    let count = marks_count tree stated ([] ∷ []) marks (yes_is_sound tree stated marks proved accepted).trees in
    let most = within tree.choices (count_of is_expanded marks) budget few opened low in
    one_and (length marks) (tree.choices * count_of is_expanded marks) count most

pub marks_few : (problem : Problem) (c : Certificate) (proved : Proved) (budget : ℕ) → length (protocols problem) ≤ 42 → confirmed problem c ≡ Ok proved → count_of is_expanded c.marks ≤ budget → budget ≤ most_search_budget
    → length c.marks ≤ 8400001
marks_few problem c proved budget few is opened low = by c.by_arcs (unshifted (names_by problem c) (tree_by problem c) c proved is)
  where
    by : (by_arcs : Bool) → checked (if by_arcs then network_tree problem c.shifts else so_far_tree problem c.shifts) c.cost c.marks ≡ Ok proved → length c.marks ≤ 8400001
    by true accepted = marks_few_in (network_tree problem c.shifts) c.cost c.marks proved budget few accepted opened low
    by false accepted = marks_few_in (so_far_tree problem c.shifts) c.cost c.marks proved budget few accepted opened low

-- ---- text

number_short : (n : ℕ) → n ≤ most_number → length (decimal n) ≤ 10
number_short n le = length-decimal-le 10 n (lit< tt) (omega (arith, le)) (omega (arith, le))

both_short : (xs ys : List ℕ) (m n : ℕ) → length xs ≤ m → length ys ≤ n → length (xs ++ ys) ≤ m + n
both_short xs ys m n first second = let size = length-append xs ys in omega (arith, size, first, second)

shift_short : (shift : Shift) → IsShift shift → length (shift_text shift) ≤ 46
shift_short shift is =
    let at : List ℕ = decimal shift.at ++ codes " " in
    let side : List ℕ = at ++ decimal shift.side ++ codes " " in
    let proto : List ℕ = side ++ decimal shift.proto ++ codes " " in
    let signed : List ℕ = proto ++ sign shift.add ∷ codes " " in
    let first = both_short (decimal shift.at) (codes " ") 10 1 (number_short shift.at is.at) (lit≤ tt) in
    let second = both_short (at ++ decimal shift.side) (codes " ") 21 1 (both_short at (decimal shift.side) 11 10 first (number_short shift.side (let low = is.side in omega (arith, low)))) (lit≤ tt) in
    let third = both_short (side ++ decimal shift.proto) (codes " ") 32 1 (both_short side (decimal shift.proto) 22 10 second (number_short shift.proto (let low = is.proto in omega (arith, low)))) (lit≤ tt) in
    let fourth = both_short proto (sign shift.add ∷ codes " ") 33 2 third (lit≤ tt) in
    both_short (signed ++ decimal shift.amount) (codes "\n") 45 1 (both_short signed (decimal shift.amount) 35 10 fourth (number_short shift.amount is.amount)) (lit≤ tt)

shifts_short : (shifts : List Shift) → AllByRecursion IsShift shifts → length (flat_map shift_text shifts) ≤ 46 * length shifts
shifts_short [] all = omega arith
shifts_short (shift ∷ shifts) all = sums _ _ _ _ (ap length (flat_map-cons shift_text shift shifts) ∙ length-append (shift_text shift) (flat_map shift_text shifts)) (shift_short shift all.0) (shifts_short shifts all.1)
  where
    sums : (k a b m : ℕ) → k ≡ a + b → a ≤ 46 → b ≤ 46 * m → k ≤ 46 * suc m
    sums k a b m e p q = omega (arith, e, p, q)

cost_short : (number : ℕ) → number ≤ most_number → length (cost_text number) ≤ 16
cost_short number fits = both_short (codes "cost " ++ decimal number) (codes "\n") 15 1 (both_short (codes "cost ") (decimal number) 5 10 (lit≤ tt) (number_short number fits)) (lit≤ tt)

heading_short : (by_arcs : Bool) → length (heading by_arcs) ≤ 15
heading_short true = lit≤ tt
heading_short false = lit≤ tt

listed_short : (shifts : List Shift) → AllByRecursion IsShift shifts → length shifts ≤ 131072 → length (shifts_text shifts) ≤ 6029330
listed_short shifts all few =
    let count = both_short (codes "shifts ") (decimal (length shifts)) 7 10 (lit≤ tt) (number_short (length shifts) (omega (arith, few))) in
    let lines : length (flat_map shift_text shifts) ≤ 6029312 = let each = shifts_short shifts all in omega (arith, each, few) in
    both_short (codes "shifts " ++ decimal (length shifts) ++ codes "\n") (flat_map shift_text shifts) 18 6029312
    (both_short (codes "shifts " ++ decimal (length shifts)) (codes "\n") 17 1 count (lit≤ tt)) lines

claim_short : (cost : Option ℕ) (by_arcs : Bool) (shifts : List Shift) → CostFits cost → AllByRecursion IsShift shifts → length shifts ≤ 131072 → length (claim_text cost by_arcs shifts) ≤ 6100000
claim_short None true shifts fits all few = lit≤ tt
claim_short None false shifts fits all few = lit≤ tt
claim_short (Some number) by_arcs [] fits all few =
    let text = both_short (codes "viaduct-cert 1\n") (cost_text number) 15 16 (lit≤ tt) (cost_short number fits) in
    omega (arith, text)
claim_short (Some number) by_arcs (shift ∷ shifts) fits all few =
    let head = both_short (heading by_arcs) (cost_text number) 15 16 (heading_short by_arcs) (cost_short number fits) in
    let text = both_short (heading by_arcs ++ cost_text number) (shifts_text (shift ∷ shifts)) 31 6029330 head (listed_short (shift ∷ shifts) all few) in
    omega (arith, text)

pub text_short : (c : Certificate) → IsCertificate c → length c.marks ≤ 8400001 → length (text_of c) ≤ most_certificate_bytes
text_short c is few =
    let claim = claim_short c.cost c.by_arcs c.shifts is.cost is.shifts is.few in
    let letters = length-map c.marks letter in
    let line = length-append (map letter c.marks) (codes "\n") in
    let whole = length-append (claim_text c.cost c.by_arcs c.shifts) (marks_text c.marks) in
    omega (arith, claim, letters, line, whole, few)
