-- The scanner of whole certificates reads exactly their texts.
use Rattle.std.proofs.Common.{◌≡◌, ℕ, zero, suc, ◌≤◌, Bool, true, false, cond, Option, Some, None, Ok, Err, List, [], ◌∷◌, ◌++◌, map, length, flat_map, codes, refl, sym, ap, ◌∙◌, subst, arith, append_assoc, append-nil, inl, inr}
use Rattle.std.specs.Prelude.{decimal, ◌==◌, if◌then◌else◌}
use Rattle.std.specs.Option.{option_map_or}
use Rattle.std.specs.List.{AllByRecursion}
use Rattle.std.proofs.lemmas.Bool.{true≢false, eqb-true}
use Rattle.vd_base.specs.Limits.{most_certificate_shifts}
use Rattle.vd_search_tree.specs.declared.shift.Shift.{Shift}
use Rattle.vd_search_tree.specs.declared.search_certificate.certificate.Certificate.{Certificate}
use Rattle.vd_search_tree.specs.declared.search_certificate.certificate.Mark.{Mark}
use Rattle.vd_search_tree.specs.declared.search_certificate.certificate.Mark.TheVariants.{Expanded, Violated, Bounded, Best}
use Rattle.vd_search_tree.specs.Texts.{newline, blank, letter, sign, marks_text, shift_text, cost_text, shifts_text, empty_text, heading, text_of, most_number, IsShift, CostFits, IsTextOf}
use Rattle.vd_search_tree.specs.Scan.{Scanner, number, after_number, choice, choice_of_three, make_shift, scan_amount, scan_sign, scan_shift, scan_shifts, mark_of, certificate, at_end, scan_marks, scan_cost, scan_empty, scan_least, scan_first, scan_counted, scan_listed, scan_second, scan_arcs, scan_third, scan}
use Rattle.vd_search_tree.proofs.Three.{OneOfThree, scans_one_of_three}
use Rattle.vd_search_tree.proofs.Scans.{Texts, Scans, scans_same, BehindWord, scans_word, BehindNumber, scans_number, BehindByte, EitherByte, scans_either}

-- ---- marks

record MarksLeft (cost : Option ℕ) (by_arcs : Bool) (shifts : List Shift) (marks : List Mark) (c : Certificate) (bytes : List ℕ) : Type 0 where
  more : List Mark
  whole : c ≡ certificate cost by_arcs shifts (marks ++ more)
  text : bytes ≡ marks_text more

mark_letter : (b : ℕ) (mark : Mark) → mark_of b ≡ Some mark → b ≡ letter mark
mark_letter b mark is = by (b == 69) (b == 86) (b == 66) (b == 76) refl refl refl refl is
  where
    by : (e v o l : Bool) → (b == 69) ≡ e → (b == 86) ≡ v → (b == 66) ≡ o → (b == 76) ≡ l → cond e (Some Expanded) (cond v (Some Violated) (cond o (Some Bounded) (cond l (Some Best) None))) ≡ Some mark → b ≡ letter mark
    by true v o l is_e is_v is_o is_l is = let same : Expanded ≡ mark = cc in eqb-true b 69 is_e ∙ ap letter same
    by false true o l is_e is_v is_o is_l is = let same : Violated ≡ mark = cc in eqb-true b 86 is_v ∙ ap letter same
    by false false true l is_e is_v is_o is_l is = let same : Bounded ≡ mark = cc in eqb-true b 66 is_o ∙ ap letter same
    by false false false true is_e is_v is_o is_l is = let same : Best ≡ mark = cc in eqb-true b 76 is_l ∙ ap letter same
    by false false false false is_e is_v is_o is_l is = cc

module _ (cost : Option ℕ) (by_arcs : Bool) (shifts : List Shift) where
  clash : (b : ℕ) (tail : List ℕ) → [] ≡ b ∷ tail → ⊥
  clash b tail is = cc

  heads : (b c : ℕ) (xs ys : List ℕ) → b ∷ xs ≡ c ∷ ys → b ≡ c
  heads b c xs ys is = cc

  one_mark : (marks : List Mark) (mark : Mark) (bytes : List ℕ) → scan_marks cost by_arcs shifts marks (letter mark ∷ bytes) ≡ scan_marks cost by_arcs shifts (marks ++ mark ∷ []) bytes
  one_mark marks Expanded bytes = refl
  one_mark marks Violated bytes = refl
  one_mark marks Bounded bytes = refl
  one_mark marks Best bytes = refl

  marks_back : (more marks : List Mark) → scan_marks cost by_arcs shifts marks (marks_text more) ≡ Ok (certificate cost by_arcs shifts (marks ++ more))
  marks_back [] marks = ap (λ all. Ok (certificate cost by_arcs shifts all)) (sym (append-nil marks))
  marks_back (mark ∷ more) marks =
      one_mark marks mark (marks_text more) ∙ marks_back more (marks ++ mark ∷ []) ∙ ap (λ all. Ok (certificate cost by_arcs shifts all)) (append_assoc marks (mark ∷ []) more)

  end_given : (c d : Certificate) (bytes : List ℕ) → at_end c bytes ≡ Ok d → (c ≡ d) × (bytes ≡ [])
  end_given c d [] is = (cc, refl)
  end_given c d (b ∷ bytes) is = cc

  marks_given : (bytes : List ℕ) (marks : List Mark) (c : Certificate) → scan_marks cost by_arcs shifts marks bytes ≡ Ok c → MarksLeft cost by_arcs shifts marks c bytes
  marks_given [] marks c is = cc
  marks_given (b ∷ bytes) marks c is = by (marks_given bytes) (b == newline) refl is
    where
      by_mark : ((after : List Mark) (d : Certificate) → scan_marks cost by_arcs shifts after bytes ≡ Ok d → MarksLeft cost by_arcs shifts after d bytes) → (m : Option Mark) → mark_of b ≡ m
          → option_map_or (λ mark. scan_marks cost by_arcs shifts (marks ++ mark ∷ []) bytes) m (Err (b ∷ bytes)) ≡ Ok c → MarksLeft cost by_arcs shifts marks c (b ∷ bytes)
      by_mark each None none is = cc
      by_mark each (Some mark) found is =
          let left = each (marks ++ mark ∷ []) c is in
          record {
            more = mark ∷ left.more;
            whole = left.whole ∙ ap (certificate cost by_arcs shifts) (append_assoc marks (mark ∷ []) left.more);
            text = λ i. mark_letter b mark found i ∷ left.text i;
          }

      by : ((after : List Mark) (d : Certificate) → scan_marks cost by_arcs shifts after bytes ≡ Ok d → MarksLeft cost by_arcs shifts after d bytes) → (t : Bool) → (b == newline) ≡ t
          → cond t (at_end (certificate cost by_arcs shifts marks) bytes) (option_map_or (λ mark. scan_marks cost by_arcs shifts (marks ++ mark ∷ []) bytes) (mark_of b) (Err (b ∷ bytes))) ≡ Ok c → MarksLeft cost by_arcs shifts marks c (b ∷ bytes)
      by each true same is =
          let ended = end_given (certificate cost by_arcs shifts marks) c bytes is in
          record { more = []; whole = sym ended.0 ∙ ap (certificate cost by_arcs shifts) (sym (append-nil marks)); text = λ i. eqb-true b newline same i ∷ ended.1 i }
      by each false other is = by_mark each (mark_of b) refl is

  -- a state in which reading stops
  record MarksStop (marks : List Mark) (bytes rest : List ℕ) : Type 0 where
    more : List Mark
    tail_ : List ℕ
    are : bytes ≡ (map letter more ++ tail_) ++ rest
    begins : (d : List ℕ) × (marks_text more ≡ (map letter more ++ tail_) ++ d)
    same : (b : ℕ) (tail behind : List ℕ) → rest ≡ b ∷ tail → scan_marks cost by_arcs shifts marks ((map letter more ++ tail_) ++ b ∷ behind) ≡ Err (b ∷ behind)

  end_stops : (c : Certificate) (bytes rest : List ℕ) → at_end c bytes ≡ Err rest → bytes ≡ rest
  end_stops c [] rest is = cc
  end_stops c (b ∷ bytes) rest is = cc

  marks_stop : (bytes : List ℕ) (marks : List Mark) (rest : List ℕ) → scan_marks cost by_arcs shifts marks bytes ≡ Err rest → MarksStop marks bytes rest
  marks_stop [] marks rest is =
      let none : [] ≡ rest = cc in
      record { more = []; tail_ = []; are = none; begins = (newline ∷ [], refl); same = λ b tail behind has. absurd (clash b tail (none ∙ has)) }
  marks_stop (b ∷ bytes) marks rest is = by (marks_stop bytes) (b == newline) refl is
    where
      by_mark : (b == newline) ≡ false → ((after : List Mark) (r : List ℕ) → scan_marks cost by_arcs shifts after bytes ≡ Err r → MarksStop after bytes r) → (m : Option Mark) → mark_of b ≡ m
          → option_map_or (λ mark. scan_marks cost by_arcs shifts (marks ++ mark ∷ []) bytes) m (Err (b ∷ bytes)) ≡ Err rest → MarksStop marks (b ∷ bytes) rest
      by_mark other each None none is =
          let left : b ∷ bytes ≡ rest = cc in
          record {
            more = [];
            tail_ = [];
            are = left;
            begins = (newline ∷ [], refl);
            same = λ c tail behind has.
                subst (λ d. scan_marks cost by_arcs shifts marks (d ∷ behind) ≡ Err (d ∷ behind)) (heads b c bytes tail (left ∙ has))
                (ap (λ t. cond t (at_end (certificate cost by_arcs shifts marks) behind) (option_map_or (λ mark. scan_marks cost by_arcs shifts (marks ++ mark ∷ []) behind) (mark_of b) (Err (b ∷ behind)))) other
                ∙ ap (λ m. option_map_or (λ mark. scan_marks cost by_arcs shifts (marks ++ mark ∷ []) behind) m (Err (b ∷ behind))) none);
          }
      by_mark other each (Some mark) found is =
          let stop = each (marks ++ mark ∷ []) rest is in
          record {
            more = mark ∷ stop.more;
            tail_ = stop.tail_;
            are = λ i. mark_letter b mark found i ∷ stop.are i;
            begins = (stop.begins.0, ap (λ x. letter mark ∷ x) stop.begins.1);
            same = λ c tail behind has. one_mark marks mark ((map letter stop.more ++ stop.tail_) ++ c ∷ behind) ∙ stop.same c tail behind has;
          }

      by : ((after : List Mark) (r : List ℕ) → scan_marks cost by_arcs shifts after bytes ≡ Err r → MarksStop after bytes r) → (t : Bool) → (b == newline) ≡ t
          → cond t (at_end (certificate cost by_arcs shifts marks) bytes) (option_map_or (λ mark. scan_marks cost by_arcs shifts (marks ++ mark ∷ []) bytes) (mark_of b) (Err (b ∷ bytes))) ≡ Err rest → MarksStop marks (b ∷ bytes) rest
      by each true same is =
          record {
            more = [];
            tail_ = newline ∷ [];
            are = λ i. eqb-true b newline same i ∷ end_stops (certificate cost by_arcs shifts marks) bytes rest is i;
            begins = ([], refl);
            same = λ c tail behind has. refl;
          }
      by each false other is = by_mark other each (mark_of b) refl is

  scans_marks : Scans (scan_marks cost by_arcs shifts []) (MarksLeft cost by_arcs shifts [])
  scans_marks = record {
    given = λ bytes c is. marks_given bytes [] c is;
    back = λ bytes c h. ap (scan_marks cost by_arcs shifts []) h.text ∙ marks_back h.more [] ∙ ap Ok (sym h.whole);
    stops = λ bytes rest is.
        let stop = marks_stop bytes [] rest is in
        record {
          front = map letter stop.more ++ stop.tail_;
          are = stop.are;
          c = certificate cost by_arcs shifts stop.more;
          more = stop.begins.0;
          begins = record { more = stop.more; whole = refl; text = sym stop.begins.1 };
          same = stop.same;
        };
    some_c = certificate cost by_arcs shifts [];
    some_text = marks_text [];
    some = record { more = []; whole = refl; text = refl };
  }

-- ---- shifts

-- the text behind a shift's line
record BehindShift (texts : Shift → Texts) (c : Certificate) (bytes : List ℕ) : Type 0 where
  shift : Shift
  is : IsShift shift
  rest : List ℕ
  text : bytes ≡ shift_text shift ++ rest
  holds : texts shift c rest

abbrev line_text : ℕ → ℕ → ℕ → ℕ → ℕ → List ℕ → List ℕ
line_text at side proto sign_ amount rest = decimal at ++ (blank ∷ (decimal side ++ (blank ∷ (decimal proto ++ (blank ∷ (sign_ ∷ (blank ∷ (decimal amount ++ (newline ∷ rest)))))))))

line_is : (at side proto : ℕ) (add : Bool) (amount : ℕ) (rest : List ℕ) → shift_text (make_shift at side proto add amount) ++ rest ≡ line_text at side proto (sign add) amount rest
line_is at side proto add amount rest = simp append_assoc

module _ (texts : Shift → Texts) where
  abbrev Amount : ℕ → ℕ → ℕ → Bool → Texts
  Amount at side proto add = BehindWord (blank ∷ []) (BehindNumber 1 most_number newline (λ amount. texts (make_shift at side proto add amount)))

  abbrev Sign : ℕ → ℕ → ℕ → Texts
  Sign at side proto = EitherByte 43 (Amount at side proto true) 45 (Amount at side proto false)

  abbrev Fields : Texts
  Fields = BehindNumber 0 most_number blank (λ at. BehindNumber 0 1 blank (λ side. BehindNumber 0 255 blank (Sign at side)))

  to_shift : (c : Certificate) (bytes : List ℕ) → Fields c bytes → BehindShift texts c bytes
  to_shift c bytes a = by a.holds.holds.holds a.holds.holds.text
    where
      front : (r : List ℕ) → a.holds.holds.rest ≡ r → bytes ≡ decimal a.n ++ (blank ∷ (decimal a.holds.n ++ (blank ∷ (decimal a.holds.holds.n ++ (blank ∷ r)))))
      front r e =
          a.text ∙ ap (λ x. decimal a.n ++ (blank ∷ x)) (a.holds.text ∙ ap (λ x. decimal a.holds.n ++ (blank ∷ x)) (a.holds.holds.text ∙ ap (λ x. decimal a.holds.holds.n ++ (blank ∷ x)) e))

      whole : (add : Bool) → BehindByte (sign add) (Amount a.n a.holds.n a.holds.holds.n add) c a.holds.holds.rest → BehindShift texts c bytes
      whole add h =
          let amount = h.holds.holds in
          let left : a.holds.holds.rest ≡ sign add ∷ (blank ∷ (decimal amount.n ++ (newline ∷ amount.rest))) = h.text ∙ ap (λ x. sign add ∷ x) (h.holds.text ∙ ap (λ x. blank ∷ x) amount.text) in
          record {
            shift = make_shift a.n a.holds.n a.holds.holds.n add amount.n;
            is = record { at = a.to_most; side = a.holds.to_most; proto = a.holds.holds.to_most; some = amount.from_least; amount = amount.to_most };
            rest = amount.rest;
            text = front _ left ∙ sym (line_is a.n a.holds.n a.holds.holds.n add amount.n amount.rest);
            holds = amount.holds;
          }

      by : Sign a.n a.holds.n a.holds.holds.n c a.holds.holds.rest → a.holds.rest ≡ decimal a.holds.holds.n ++ (blank ∷ a.holds.holds.rest) → BehindShift texts c bytes
      by (inl h) e = whole true h
      by (inr h) e = whole false h

  to_sign : (c : Certificate) (at side proto : ℕ) (add : Bool) (amount : ℕ) (rest : List ℕ) → 1 ≤ amount → amount ≤ most_number → texts (make_shift at side proto add amount) c rest
      → Sign at side proto c (sign add ∷ (blank ∷ (decimal amount ++ (newline ∷ rest))))
  to_sign c at side proto true amount rest some most holds =
      inl (record { rest = _; text = refl; holds = record { rest = _; text = refl; holds = record { n = amount; from_least = some; to_most = most; rest = rest; text = refl; holds = holds } } })
  to_sign c at side proto false amount rest some most holds =
      inr (record { rest = _; text = refl; holds = record { rest = _; text = refl; holds = record { n = amount; from_least = some; to_most = most; rest = rest; text = refl; holds = holds } } })

  from_shift : (c : Certificate) (bytes : List ℕ) → BehindShift texts c bytes → Fields c bytes
  from_shift c bytes h =
      let s = h.shift in
      record {
        n = s.at;
        from_least = omega arith;
        to_most = h.is.at;
        rest = _;
        text = h.text ∙ line_is s.at s.side s.proto s.add s.amount h.rest;
        holds = record {
          n = s.side;
          from_least = omega arith;
          to_most = h.is.side;
          rest = _;
          text = refl;
          holds = record { n = s.proto; from_least = omega arith; to_most = h.is.proto; rest = _; text = refl; holds = to_sign c s.at s.side s.proto s.add s.amount h.rest h.is.some h.is.amount h.holds };
        };
      }

scans_shift : (next : Shift → Scanner) (texts : Shift → Texts) → ((shift : Shift) → Scans (next shift) (texts shift)) → Scans (scan_shift next) (BehindShift texts)
scans_shift next texts s =
    scans_same (scan_shift next) (Fields texts) (BehindShift texts) (to_shift texts) (from_shift texts)
    (scans_number 0 most_number blank (omega arith) (omega arith) (omega arith) refl (λ at rest. after_number (number 0 1 blank rest) (λ side more. after_number (number 0 255 blank more) (λ proto. scan_sign at side proto next)))
    (λ at. BehindNumber 0 1 blank (λ side. BehindNumber 0 255 blank (Sign texts at side)))
    (λ at at_low at_high. scans_number 0 1 blank (omega arith) (omega arith) (omega arith) refl (λ side more. after_number (number 0 255 blank more) (λ proto. scan_sign at side proto next)) (λ side. BehindNumber 0 255 blank (Sign texts at side))
    (λ side side_low side_high. scans_number 0 255 blank (omega arith) (omega arith) (omega arith) refl (λ proto. scan_sign at side proto next) (Sign texts at side)
    (λ proto proto_low proto_high. scans_either 43 (scan_amount at side proto true next) (Amount texts at side proto true) 45 (scan_amount at side proto false next) (Amount texts at side proto false) refl
    (amount at side proto true) (amount at side proto false)))))
  where
    amount : (at side proto : ℕ) (add : Bool) → Scans (scan_amount at side proto add next) (Amount texts at side proto add)
    amount at side proto add =
        scans_word (blank ∷ []) (λ rest. after_number (number 1 most_number newline rest) (λ amount_. next (make_shift at side proto add amount_))) (BehindNumber 1 most_number newline (λ amount_. texts (make_shift at side proto add amount_)))
        (scans_number 1 most_number newline (omega arith) (omega arith) (omega arith) refl (λ amount_. next (make_shift at side proto add amount_)) (λ amount_. texts (make_shift at side proto add amount_))
        (λ amount_ low high. s (make_shift at side proto add amount_)))

-- the text behind so many lines
record BehindShifts (texts : List Shift → Texts) (n : ℕ) (shifts : List Shift) (c : Certificate) (bytes : List ℕ) : Type 0 where
  list : List Shift
  count : length list ≡ n
  all : AllByRecursion IsShift list
  rest : List ℕ
  text : bytes ≡ flat_map shift_text list ++ rest
  holds : texts (shifts ++ list) c rest

module _ (next : List Shift → Scanner) (texts : List Shift → Texts) (s : (list : List Shift) → Scans (next list) (texts list)) where
  to_none : (shifts : List Shift) (c : Certificate) (bytes : List ℕ) → texts shifts c bytes → BehindShifts texts zero shifts c bytes
  to_none shifts c bytes h = record { list = []; count = refl; all = tt; rest = bytes; text = refl; holds = subst (λ all. texts all c bytes) (sym (append-nil shifts)) h }

  from_none : (shifts : List Shift) (c : Certificate) (bytes : List ℕ) → BehindShifts texts zero shifts c bytes → texts shifts c bytes
  from_none shifts c bytes h = by h.list h.count h.text h.holds
    where
      by : (list : List Shift) → length list ≡ zero → bytes ≡ flat_map shift_text list ++ h.rest → texts (shifts ++ list) c h.rest → texts shifts c bytes
      by [] none text holds = subst (texts shifts c) (sym text) (subst (λ all. texts all c h.rest) (append-nil shifts) holds)
      by (x ∷ list) none text holds = absurd (omega arith)

  abbrev OneMore : ℕ → List Shift → Texts
  OneMore n shifts = BehindShift (λ shift. BehindShifts texts n (shifts ++ shift ∷ []))

  to_more : (n : ℕ) (shifts : List Shift) (c : Certificate) (bytes : List ℕ) → OneMore n shifts c bytes → BehindShifts texts (suc n) shifts c bytes
  to_more n shifts c bytes h =
      let more = h.holds in
      record {
        list = h.shift ∷ more.list;
        count = ap suc more.count;
        all = (h.is, more.all);
        rest = more.rest;
        text = h.text ∙ ap (λ x. shift_text h.shift ++ x) more.text ∙ sym (append_assoc (shift_text h.shift) (flat_map shift_text more.list) more.rest);
        holds = subst (λ all. texts all c more.rest) (append_assoc shifts (h.shift ∷ []) more.list) more.holds;
      }

  from_more : (n : ℕ) (shifts : List Shift) (c : Certificate) (bytes : List ℕ) → BehindShifts texts (suc n) shifts c bytes → OneMore n shifts c bytes
  from_more n shifts c bytes h = by h.list h.count h.all h.text h.holds
    where
      by : (list : List Shift) → length list ≡ suc n → AllByRecursion IsShift list → bytes ≡ flat_map shift_text list ++ h.rest → texts (shifts ++ list) c h.rest → OneMore n shifts c bytes
      by [] count all text holds = absurd (omega arith)
      by (x ∷ list) count all text holds = record {
        shift = x;
        is = all.0;
        rest = flat_map shift_text list ++ h.rest;
        text = text ∙ append_assoc (shift_text x) (flat_map shift_text list) h.rest;
        holds = record { list = list; count = omega arith; all = all.1; rest = h.rest; text = refl; holds = subst (λ more. texts more c h.rest) (sym (append_assoc shifts (x ∷ []) list)) holds };
      }

  scans_shifts : (n : ℕ) (shifts : List Shift) → Scans (scan_shifts n shifts next) (BehindShifts texts n shifts)
  scans_shifts zero shifts = scans_same (next shifts) (texts shifts) (BehindShifts texts zero shifts) (to_none shifts) (from_none shifts) (s shifts)
  scans_shifts (suc n) shifts =
      scans_same (scan_shift (λ shift. scan_shifts n (shifts ++ shift ∷ []) next)) (OneMore n shifts) (BehindShifts texts (suc n) shifts) (to_more n shifts) (from_more n shifts)
      (scans_shift (λ shift. scan_shifts n (shifts ++ shift ∷ []) next) (λ shift. BehindShifts texts n (shifts ++ shift ∷ [])) (λ shift. scans_shifts n (shifts ++ shift ∷ [])))

-- ---- the whole

abbrev Empty : Bool → Texts
Empty by_arcs = BehindWord (codes "mpty\n") (MarksLeft None by_arcs [] [])

abbrev Least : Texts
Least = BehindWord (codes "ost ") (BehindNumber 0 most_number newline (λ cost. MarksLeft (Some cost) false [] []))

abbrev First : Texts
First = BehindWord (newline ∷ []) (EitherByte 99 Least 101 (Empty false))

abbrev Counted : Bool → ℕ → ℕ → Texts
Counted by_arcs cost count = BehindShifts (λ shifts. MarksLeft (Some cost) by_arcs shifts []) count []

abbrev Listed : Bool → ℕ → Texts
Listed by_arcs cost = BehindWord (codes "shifts ") (BehindNumber 1 most_certificate_shifts newline (Counted by_arcs cost))

abbrev Costed : Bool → Texts
Costed by_arcs = BehindNumber 0 most_number newline (Listed by_arcs)

abbrev Second : Texts
Second = BehindWord (codes "\ncost ") (Costed false)

abbrev Arcs : Texts
Arcs = BehindWord (codes "ost ") (Costed true)

abbrev Third : Texts
Third = BehindWord (newline ∷ []) (EitherByte 99 Arcs 101 (Empty true))

abbrev Forms : Texts
Forms = OneOfThree 49 First 50 Second 51 Third

abbrev Whole : Texts
Whole = BehindWord (codes "viaduct-cert ") Forms

scans_empty : (by_arcs : Bool) → Scans (scan_empty by_arcs) (Empty by_arcs)
scans_empty by_arcs = scans_word (codes "mpty\n") (scan_marks None by_arcs [] []) (MarksLeft None by_arcs [] []) (scans_marks None by_arcs [])

scans_first : Scans scan_first First
scans_first =
    scans_word (newline ∷ []) (choice 99 scan_least 101 (scan_empty false)) (EitherByte 99 Least 101 (Empty false)) (scans_either 99 scan_least Least 101 (scan_empty false) (Empty false) refl
    (scans_word (codes "ost ") (scan_cost (λ cost. scan_marks (Some cost) false [] [])) (BehindNumber 0 most_number newline (λ cost. MarksLeft (Some cost) false [] []))
    (scans_number 0 most_number newline (omega arith) (omega arith) (omega arith) refl (λ cost. scan_marks (Some cost) false [] []) (λ cost. MarksLeft (Some cost) false [] []) (λ cost low high. scans_marks (Some cost) false [])))
    (scans_empty false))

scans_costed : (by_arcs : Bool) → Scans (scan_cost (scan_listed by_arcs)) (Costed by_arcs)
scans_costed by_arcs =
    scans_number 0 most_number newline (omega arith) (omega arith) (omega arith) refl (scan_listed by_arcs) (Listed by_arcs) (λ cost low high.
    scans_word (codes "shifts ") (λ rest. after_number (number 1 most_certificate_shifts newline rest) (scan_counted by_arcs cost)) (BehindNumber 1 most_certificate_shifts newline (Counted by_arcs cost))
    (scans_number 1 most_certificate_shifts newline (omega arith) (omega arith) (omega arith) refl (scan_counted by_arcs cost) (Counted by_arcs cost) (λ count low_ high_.
    scans_shifts (λ shifts. scan_marks (Some cost) by_arcs shifts []) (λ shifts. MarksLeft (Some cost) by_arcs shifts []) (scans_marks (Some cost) by_arcs) count [])))

scans_second : Scans scan_second Second
scans_second = scans_word (codes "\ncost ") (scan_cost (scan_listed false)) (Costed false) (scans_costed false)

scans_third : Scans scan_third Third
scans_third =
    scans_word (newline ∷ []) (choice 99 scan_arcs 101 (scan_empty true)) (EitherByte 99 Arcs 101 (Empty true)) (scans_either 99 scan_arcs Arcs 101 (scan_empty true) (Empty true) refl
    (scans_word (codes "ost ") (scan_cost (scan_listed true)) (Costed true) (scans_costed true))
    (scans_empty true))

scans_parts : Scans scan Whole
scans_parts =
    scans_word (codes "viaduct-cert ") (choice_of_three 49 scan_first 50 scan_second 51 scan_third) Forms
    (scans_one_of_three 49 scan_first First 50 scan_second Second 51 scan_third Third refl refl refl scans_first scans_second scans_third)

-- ---- the text of a certificate

cost_line : (cost : ℕ) (rest : List ℕ) → cost_text cost ++ rest ≡ codes "cost " ++ (decimal cost ++ (newline ∷ rest))
cost_line cost rest = ap (λ x. codes "cost " ++ x) (append_assoc (decimal cost) (codes "\n") rest)

count_line : (shifts : List Shift) (rest : List ℕ) → shifts_text shifts ++ rest ≡ codes "shifts " ++ (decimal (length shifts) ++ (newline ∷ (flat_map shift_text shifts ++ rest)))
count_line shifts rest = simp append_assoc

-- the number of a further form
abbrev form_number : Bool → ℕ
form_number by_arcs = if by_arcs then 51 else 50

-- what stands behind the number of a further form
abbrev costed_text : ℕ → ℕ → List ℕ → List ℕ
costed_text cost count rest = decimal cost ++ (newline ∷ (codes "shifts " ++ (decimal count ++ (newline ∷ rest))))

abbrev further_text : ℕ → ℕ → List ℕ → List ℕ
further_text cost count rest = codes "\ncost " ++ costed_text cost count rest

heading_is : (by_arcs : Bool) (rest : List ℕ) → heading by_arcs ++ rest ≡ codes "viaduct-cert " ++ (form_number by_arcs ∷ (newline ∷ rest))
heading_is true rest = refl
heading_is false rest = refl

module _ (marks : List Mark) where
  least_text : (cost : ℕ) → text_of (certificate (Some cost) false [] marks) ≡ codes "viaduct-cert 1\ncost " ++ (decimal cost ++ (newline ∷ marks_text marks))
  least_text cost = ap (λ x. codes "viaduct-cert 1\n" ++ x) (cost_line cost (marks_text marks))

  listed_text : (by_arcs : Bool) (cost : ℕ) (shift : Shift) (shifts : List Shift) → text_of (certificate (Some cost) by_arcs (shift ∷ shifts) marks)
      ≡ codes "viaduct-cert " ++ (form_number by_arcs ∷ further_text cost (length (shift ∷ shifts)) (flat_map shift_text (shift ∷ shifts) ++ marks_text marks))
  listed_text by_arcs cost shift shifts =
      append_assoc (heading by_arcs ++ cost_text cost) (shifts_text (shift ∷ shifts)) (marks_text marks)
      ∙ append_assoc (heading by_arcs) (cost_text cost) (shifts_text (shift ∷ shifts) ++ marks_text marks)
      ∙ heading_is by_arcs (cost_text cost ++ (shifts_text (shift ∷ shifts) ++ marks_text marks))
      ∙ ap (λ x. codes "viaduct-cert " ++ (form_number by_arcs ∷ (newline ∷ x)))
      (cost_line cost (shifts_text (shift ∷ shifts) ++ marks_text marks)
      ∙ ap (λ x. codes "cost " ++ (decimal cost ++ (newline ∷ x))) (count_line (shift ∷ shifts) (marks_text marks)))

-- ---- from the parts to the text

some_none : (cost : ℕ) → ◌≡◌ {A = Option ℕ} (Some cost) None → ⊥
some_none cost is = cc

none_some : (cost : ℕ) → ◌≡◌ {A = Option ℕ} None (Some cost) → ⊥
none_some cost is = cc

of_empty : (by_arcs : Bool) (c : Certificate) (bytes : List ℕ) → MarksLeft None by_arcs [] [] c bytes → IsTextOf c (empty_text by_arcs ++ bytes)
of_empty by_arcs c bytes h = subst (λ d. IsTextOf d (empty_text by_arcs ++ bytes)) (sym h.whole) (record {
  is = record { cost = tt; few = omega arith; shifts = tt; none = λ e. refl; some = λ e cost is. absurd (none_some cost is) };
  text = ap (λ x. empty_text by_arcs ++ x) h.text;
})

of_least : (c : Certificate) (cost : ℕ) (bytes : List ℕ) → cost ≤ most_number → MarksLeft (Some cost) false [] [] c bytes → IsTextOf c (codes "viaduct-cert 1\ncost " ++ (decimal cost ++ (newline ∷ bytes)))
of_least c cost bytes fits h = subst (λ d. IsTextOf d (codes "viaduct-cert 1\ncost " ++ (decimal cost ++ (newline ∷ bytes)))) (sym h.whole) (record {
  is = record { cost = fits; few = omega arith; shifts = tt; none = λ e. refl; some = λ e number is. absurd (true≢false (sym e)) };
  text = ap (λ x. codes "viaduct-cert 1\ncost " ++ (decimal cost ++ (newline ∷ x))) h.text ∙ sym (least_text h.more cost);
})

of_listed : (by_arcs : Bool) (c : Certificate) (cost count : ℕ) (bytes : List ℕ) → cost ≤ most_number → 1 ≤ count → count ≤ most_certificate_shifts → Counted by_arcs cost count c bytes
    → IsTextOf c (codes "viaduct-cert " ++ (form_number by_arcs ∷ further_text cost count bytes))
of_listed by_arcs c cost count bytes fits some few h = by h.list h.count h.all h.text h.holds
  where
    by : (list : List Shift) → length list ≡ count → AllByRecursion IsShift list → bytes ≡ flat_map shift_text list ++ h.rest → MarksLeft (Some cost) by_arcs list [] c h.rest
        → IsTextOf c (codes "viaduct-cert " ++ (form_number by_arcs ∷ further_text cost count bytes))
    by [] is all text marks = absurd (omega arith)
    by (shift ∷ list) is all text marks =
        subst (λ d. IsTextOf d (codes "viaduct-cert " ++ (form_number by_arcs ∷ further_text cost count bytes))) (sym marks.whole) (record {
          is = record { cost = fits; few = omega arith; shifts = all; none = λ e. absurd (some_none cost e); some = λ e number is. omega arith };
          text =
              (λ i. codes "viaduct-cert " ++ (form_number by_arcs ∷ further_text cost (sym is i) (text i)))
              ∙ ap (λ x. codes "viaduct-cert " ++ (form_number by_arcs ∷ further_text cost (length (shift ∷ list)) (flat_map shift_text (shift ∷ list) ++ x))) marks.text
              ∙ sym (listed_text marks.more by_arcs cost shift list);
        })

whole_text : (c : Certificate) (bytes : List ℕ) → Whole c bytes → IsTextOf c bytes
whole_text c bytes h = by h.holds
  where
    first : (f : BehindByte 49 First c h.rest) → EitherByte 99 Least 101 (Empty false) c f.holds.rest → IsTextOf c bytes
    first f (inl l) =
        let number_ = l.holds.holds in
        subst (IsTextOf c) (sym (h.text ∙ ap (λ x. codes "viaduct-cert " ++ x) (f.text ∙ ap (λ x. 49 ∷ x) (f.holds.text ∙ ap (λ x. newline ∷ x) (l.text ∙ ap (λ x. 99 ∷ x) (l.holds.text ∙ ap (λ x. codes "ost " ++ x) number_.text))))))
        (of_least c number_.n number_.rest number_.to_most number_.holds)
    first f (inr e) =
        subst (IsTextOf c) (sym (h.text ∙ ap (λ x. codes "viaduct-cert " ++ x) (f.text ∙ ap (λ x. 49 ∷ x) (f.holds.text ∙ ap (λ x. newline ∷ x) (e.text ∙ ap (λ x. 101 ∷ x) e.holds.text)))))
        (of_empty false c e.holds.rest e.holds.holds)

    second : BehindByte 50 Second c h.rest → IsTextOf c bytes
    second t =
        let cost = t.holds.holds in
        let count = cost.holds.holds in
        subst (IsTextOf c)
        (sym (h.text ∙ ap (λ x. codes "viaduct-cert " ++ x) (t.text ∙ ap (λ x. 50 ∷ x) (t.holds.text ∙ ap (λ x. codes "\ncost " ++ x) (cost.text ∙ ap (λ x. decimal cost.n ++ (newline ∷ x)) (cost.holds.text ∙ ap (λ x. codes "shifts " ++ x) count.text))))))
        (of_listed false c cost.n count.n count.rest cost.to_most count.from_least count.to_most count.holds)

    third : (t : BehindByte 51 Third c h.rest) → EitherByte 99 Arcs 101 (Empty true) c t.holds.rest → IsTextOf c bytes
    third t (inl a) =
        let cost = a.holds.holds in
        let count = cost.holds.holds in
        subst (IsTextOf c)
        (sym (h.text ∙ ap (λ x. codes "viaduct-cert " ++ x) (t.text ∙ ap (λ x. 51 ∷ x) (t.holds.text ∙ ap (λ x. newline ∷ x) (a.text ∙ ap (λ x. 99 ∷ x) (a.holds.text
        ∙ ap (λ x. codes "ost " ++ x) (cost.text ∙ ap (λ x. decimal cost.n ++ (newline ∷ x)) (cost.holds.text ∙ ap (λ x. codes "shifts " ++ x) count.text))))))))
        (of_listed true c cost.n count.n count.rest cost.to_most count.from_least count.to_most count.holds)
    third t (inr e) =
        subst (IsTextOf c) (sym (h.text ∙ ap (λ x. codes "viaduct-cert " ++ x) (t.text ∙ ap (λ x. 51 ∷ x) (t.holds.text ∙ ap (λ x. newline ∷ x) (e.text ∙ ap (λ x. 101 ∷ x) e.holds.text)))))
        (of_empty true c e.holds.rest e.holds.holds)

    by : Forms c h.rest → IsTextOf c bytes
    by (inl f) = first f f.holds.holds
    by (inr (inl t)) = second t
    by (inr (inr t)) = third t t.holds.holds

-- ---- and back

costed_parts : (by_arcs : Bool) (c : Certificate) (cost : ℕ) (shift : Shift) (shifts : List Shift) → cost ≤ most_number → length (shift ∷ shifts) ≤ most_certificate_shifts → AllByRecursion IsShift (shift ∷ shifts)
    → c ≡ certificate (Some cost) by_arcs (shift ∷ shifts) c.marks → Costed by_arcs c (costed_text cost (length (shift ∷ shifts)) (flat_map shift_text (shift ∷ shifts) ++ marks_text c.marks))
costed_parts by_arcs c cost shift shifts fits few all whole =
    record {
      n = cost;
      from_least = omega arith;
      to_most = fits;
      rest = _;
      text = refl;
      holds = record {
        rest = _;
        text = refl;
        holds =
            record {
              n = length (shift ∷ shifts);
              from_least = omega arith;
              to_most = few;
              rest = _;
              text = refl;
              holds =
                  record { list = shift ∷ shifts; count = refl; all = all; rest = marks_text c.marks; text = refl; holds = record { more = c.marks; whole = whole; text = refl } };
            };
      };
    }

empty_parts : (by_arcs : Bool) (c : Certificate) → c ≡ certificate None by_arcs [] c.marks → Empty by_arcs c (codes "mpty\n" ++ marks_text c.marks)
empty_parts by_arcs c whole = record { rest = marks_text c.marks; text = refl; holds = record { more = c.marks; whole = whole; text = refl } }

text_whole : (c : Certificate) (bytes : List ℕ) → IsTextOf c bytes → Whole c bytes
text_whole c bytes t = by c.cost c.by_arcs c.shifts t.is.cost t.is.few t.is.shifts t.is.none t.is.some t.text refl
  where
    by : (cost : Option ℕ) (by_arcs : Bool) (shifts : List Shift) → CostFits cost → length shifts ≤ most_certificate_shifts → AllByRecursion IsShift shifts → (cost ≡ None → shifts ≡ []) → (by_arcs ≡ true → (number : ℕ) → cost ≡ Some number → 1 ≤ length shifts)
        → bytes ≡ text_of (certificate cost by_arcs shifts c.marks) → c ≡ certificate cost by_arcs shifts c.marks → Whole c bytes
    by None by_arcs (shift ∷ shifts) fits few all none some text whole = let bad : shift ∷ shifts ≡ [] = none refl in cc
    by None true [] fits few all none some text whole =
        record {
          rest = _;
          text = text;
          holds = inr (inr (record {
            rest = _;
            text = refl;
            holds = record {
              rest = _;
              text = refl;
              holds = inr (record { rest = _; text = refl; holds = empty_parts true c whole });
            };
          }));
        }
    by None false [] fits few all none some text whole =
        record {
          rest = _;
          text = text;
          holds = inl (record {
            rest = _;
            text = refl;
            holds = record {
              rest = _;
              text = refl;
              holds = inr (record { rest = _; text = refl; holds = empty_parts false c whole });
            };
          });
        }
    by (Some cost) true [] fits few all none some text whole = let one = some refl cost refl in absurd (omega (arith, one))
    by (Some cost) false [] fits few all none some text whole =
        record {
          rest = _;
          text = text ∙ least_text c.marks cost;
          holds = inl (record {
            rest = _;
            text = refl;
            holds = record {
              rest = _;
              text = refl;
              holds = inl (record {
                rest = _;
                text = refl;
                holds = record {
                  rest = _;
                  text = refl;
                  holds =
                      record { n = cost; from_least = omega arith; to_most = fits; rest = marks_text c.marks; text = refl; holds = record { more = c.marks; whole = whole; text = refl } };
                };
              });
            };
          });
        }
    by (Some cost) false (shift ∷ shifts) fits few all none some text whole =
        record {
          rest = _;
          text = text ∙ listed_text c.marks false cost shift shifts;
          holds = inr (inl (record {
            rest = _;
            text = refl;
            holds = record { rest = _; text = refl; holds = costed_parts false c cost shift shifts fits few all whole };
          }));
        }
    by (Some cost) true (shift ∷ shifts) fits few all none some text whole =
        record {
          rest = _;
          text = text ∙ listed_text c.marks true cost shift shifts;
          holds = inr (inr (record {
            rest = _;
            text = refl;
            holds = record {
              rest = _;
              text = refl;
              holds = inl (record {
                rest = _;
                text = refl;
                holds = record { rest = _; text = refl; holds = costed_parts true c cost shift shifts fits few all whole };
              });
            };
          }));
        }

pub scans_texts : Scans scan IsTextOf
scans_texts = scans_same scan Whole IsTextOf whole_text text_whole scans_parts
