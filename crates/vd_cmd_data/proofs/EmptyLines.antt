-- What is known of the lines of a text, byte by byte.
use Rattle.std.proofs.Common.{◌≡◌, ℕ, suc, ◌+◌, ◌<◌, ◌≤◌, Bool, true, false, List, [], ◌∷◌, drop, get_or, length, if◌then◌else◌, refl, sym, ap, ◌∙◌, arith, add-one, drop-cons}
use Rattle.std.proofs.Math.ListN.{drop_of_length-le}
use Rattle.std.specs.List.{fold}
use Rattle.vd_cmd_data.specs.declared.lines.LineScan.{LineScan}
use Rattle.vd_cmd_data.specs.Tables.{after_byte, ends_line, scan_start}

either : (t : Bool) (scan other : LineScan) (most : ℕ) → scan.line ≤ most → other.line ≤ most → (if t then scan else other).line ≤ most
either true scan other most p q = p
either false scan other most p q = q

line_grows : (scan : LineScan) (byte : ℕ) → (after_byte scan byte).line ≤ scan.line + 1
line_grows scan byte = either (ends_line scan.before byte) _ _ (scan.line + 1) (omega arith) (omega arith)

-- The line is at most one more than the bytes, and what is left leads to where the whole text does.
pub record Scanned (text : List ℕ) (i : ℕ) (scan : LineScan) : Type 0 where
  pub count : scan.line ≤ i + 1
  pub whole : fold after_byte scan_start text ≡ fold after_byte scan (drop i text)

pub none_scanned : (text : List ℕ) → Scanned text 0 scan_start
none_scanned text = record { count = omega arith; whole = refl }

pub one_scanned : (text : List ℕ) (i : ℕ) (scan : LineScan) (byte : ℕ) → i < length text → byte ≡ get_or text i byte → Scanned text i scan
    → Scanned text (i + 1) (after_byte scan byte)
one_scanned text i scan byte lt is so_far =
    let grows = line_grows scan byte in
    let count = so_far.count in
    let front : drop i text ≡ byte ∷ drop (i + 1) text = rw (add-one i) (drop-cons text i byte lt ∙ ap (λ (b : ℕ). b ∷ drop (suc i) text) (sym is)) in
    record {
      count = omega (arith, grows, count);
      whole = so_far.whole ∙ ap (λ (bytes : List ℕ). fold after_byte scan bytes) front;
    }

pub all_scanned : (text : List ℕ) (i : ℕ) (scan : LineScan) → length text ≤ i → Scanned text i scan → scan.empty ≡ (fold after_byte scan_start text).empty
all_scanned text i scan le so_far =
    sym (ap (λ (s : LineScan). s.empty) (so_far.whole ∙ ap (λ (bytes : List ℕ). fold after_byte scan bytes) (drop_of_length-le text le)))
