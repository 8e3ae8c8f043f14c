-- The steps of the reader, over plain lists.
use Rattle.std.proofs.Common.{◌≡◌, ℕ, suc, ◌+◌, ◌-◌, ◌<◌, ◌≤◌, Bool, cond, Option, None, Ok, Err, List, [], ◌∷◌, ◌++◌, length, get_or, drop, refl, sym, ap, ◌∙◌, arith, add-one, drop-cons}
use Rattle.std.proofs.lemmas.List.{drop_all}
use Rattle.std.specs.Option.{option_map_or}
use Rattle.std.proofs.lemmas.Bool.{eq-eqb, ne_eqb}
use Rattle.vd_search_tree.specs.declared.shift.Shift.{Shift}
use Rattle.vd_search_tree.specs.declared.search_certificate.certificate.Mark.{Mark}
use Rattle.vd_base.specs.declared.faults.FileFault.{FileFault}
use Rattle.vd_base.specs.declared.faults.FileFault.TheVariants.{Text, Memory}
use Rattle.vd_search_tree.specs.Steps.{Said, ShiftMoves}
use Rattle.vd_search_tree.specs.Texts.{newline}
use Rattle.vd_search_tree.specs.Scan.{Scanner, word, scan_marks, certificate, at_end, mark_of, scan_shift, scan_shifts}

here : (bytes : List ℕ) (at b : ℕ) → at < length bytes → b ≡ get_or bytes at 0 → drop at bytes ≡ b ∷ drop (at + 1) bytes
here bytes at b low is = rw (add-one at, is) (drop-cons bytes at 0 low)

gone : (bytes : List ℕ) (at : ℕ) → length bytes ≤ at → drop at bytes ≡ []
gone bytes at high = drop_all at bytes high

-- ---- words

pub word_ended : (expected bytes : List ℕ) (i at : ℕ) → i < length expected → length bytes ≤ at → word (drop i expected) (drop at bytes) ≡ Err (drop at bytes)
word_ended expected bytes i at low high =
    ap (λ x. word x (drop at bytes)) (here expected i (get_or expected i 0) low refl) ∙ ap (word (get_or expected i 0 ∷ drop (i + 1) expected)) (gone bytes at high) ∙ ap Err (sym (gone bytes at high))

-- ---- marks

module _ (cost : Option ℕ) (by_arcs : Bool) (shifts : List Shift) (marks : List Mark) (bytes : List ℕ) (at b : ℕ) (low : at < length bytes) (is : b ≡ get_or bytes at 0) where
  mark_ends : b ≡ newline → scan_marks cost by_arcs shifts marks (drop at bytes) ≡ at_end (certificate cost by_arcs shifts marks) (drop (at + 1) bytes)
  mark_ends same =
      ap (scan_marks cost by_arcs shifts marks) (here bytes at b low is)
      ∙ ap (λ t. cond t (at_end (certificate cost by_arcs shifts marks) (drop (at + 1) bytes)) (option_map_or (λ mark. scan_marks cost by_arcs shifts (marks ++ mark ∷ []) (drop (at + 1) bytes)) (mark_of b) (Err (b ∷ drop (at + 1) bytes)))) (eq-eqb b newline same)

  pub mark_last : b ≡ newline → length bytes ≤ at + 1 → scan_marks cost by_arcs shifts marks (drop at bytes) ≡ Ok (certificate cost by_arcs shifts marks)
  mark_last same high = mark_ends same ∙ ap (at_end (certificate cost by_arcs shifts marks)) (gone bytes (at + 1) high)

  pub mark_more : b ≡ newline → at + 1 < length bytes → scan_marks cost by_arcs shifts marks (drop at bytes) ≡ Err (drop (at + 1) bytes)
  mark_more same more = mark_ends same ∙ ap (at_end (certificate cost by_arcs shifts marks)) next ∙ ap Err (sym next)
    where
      next : drop (at + 1) bytes ≡ get_or bytes (at + 1) 0 ∷ drop (at + 1 + 1) bytes
      next = here bytes (at + 1) (get_or bytes (at + 1) 0) more refl

  pub mark_stops : (b ≡ newline → ⊥) → None ≡ mark_of b → scan_marks cost by_arcs shifts marks (drop at bytes) ≡ Err (drop at bytes)
  mark_stops other found =
      ap (scan_marks cost by_arcs shifts marks) (here bytes at b low is)
      ∙ ap (λ t. cond t (at_end (certificate cost by_arcs shifts marks) (drop (at + 1) bytes)) (option_map_or (λ mark. scan_marks cost by_arcs shifts (marks ++ mark ∷ []) (drop (at + 1) bytes)) (mark_of b) (Err (b ∷ drop (at + 1) bytes)))) (ne_eqb b newline other)
      ∙ ap (λ o. option_map_or (λ mark. scan_marks cost by_arcs shifts (marks ++ mark ∷ []) (drop (at + 1) bytes)) o (Err (b ∷ drop (at + 1) bytes))) (sym found)
      ∙ ap Err (sym (here bytes at b low is))

pub marks_gone : (cost : Option ℕ) (by_arcs : Bool) (shifts : List Shift) (marks : List Mark) (bytes : List ℕ) (at : ℕ) → length bytes ≤ at → scan_marks cost by_arcs shifts marks (drop at bytes) ≡ Err (drop (length bytes) bytes)
marks_gone cost by_arcs shifts marks bytes at high = ap (scan_marks cost by_arcs shifts marks) (gone bytes at high) ∙ ap Err (sym (gone bytes (length bytes) (omega arith)))

-- ---- shifts

pub shift_taken : (count taken : ℕ) (shifts : List Shift) (shift : Shift) (next : List Shift → Scanner) (bytes : List ℕ) (at end : ℕ) → taken < count
    → scan_shift (λ s. scan_shifts (count - (taken + 1)) (shifts ++ s ∷ []) next) (drop at bytes) ≡ scan_shifts (count - (taken + 1)) (shifts ++ shift ∷ []) next (drop end bytes)
    → scan_shifts (count - taken) shifts next (drop at bytes) ≡ scan_shifts (count - (taken + 1)) (shifts ++ shift ∷ []) next (drop end bytes)
shift_taken count taken shifts shift next bytes at end more is =
    let one : count - taken ≡ suc (count - (taken + 1)) = omega arith in
    ap (λ n. scan_shifts n shifts next (drop at bytes)) one ∙ is

pub shift_refused : (count taken : ℕ) (shifts : List Shift) (next : List Shift → Scanner) (bytes : List ℕ) (at : ℕ) (fault : FileFault) → taken < count → ShiftMoves bytes at (Err fault)
    → Said bytes (scan_shifts (count - taken) shifts next (drop at bytes)) (Err fault)
shift_refused count taken shifts next bytes at (Text stop) more is =
    let one : count - taken ≡ suc (count - (taken + 1)) = omega arith in
    (is.0, ap (λ n. scan_shifts n shifts next (drop at bytes)) one ∙ is.1 (λ s. scan_shifts (count - (taken + 1)) (shifts ++ s ∷ []) next))
shift_refused count taken shifts next bytes at Memory more is = tt
