-- Lines of statuses with two numbers are read.
use Rattle.std.proofs.Common.{◌≡◌, ℕ, ◌<◌, ◌^◌, List, [], ◌∷◌, ◌++◌, append_assoc, arith, codes, refl, sym, ap, ◌∙◌}
use Rattle.std.specs.Fmt.{decimal}
use Rattle.vd_base.specs.Words.{IsWord}
use Rattle.vd_report.specs.LineWords.{line_words}
use Rattle.vd_report.proofs.Front.{AreRead, both_read, number_text, word_read}
use Rattle.vd_cmd_plan.specs.LinesRead.{NumbersInOrder}

long : (n : ℕ) → IsWord n → n < 2 ^ 64
long n small = omega (arith, small)

-- a text, a number, a text, and a number
two_read : (head between : List ℕ) (words others : List (List ℕ)) (first second : ℕ) → AreRead head words → AreRead between others → first < 2 ^ 64 → second < 2 ^ 64
    → line_words (((head ++ 32 ∷ decimal first) ++ 32 ∷ (between ++ 32 ∷ decimal second)) ++ 10 ∷ []) ≡ (words ++ decimal first ∷ []) ++ (others ++ decimal second ∷ [])
two_read head between words others first second is_head is_between low high =
    (both_read (head ++ 32 ∷ decimal first) (between ++ 32 ∷ decimal second) (words ++ decimal first ∷ []) (others ++ decimal second ∷ [])
    (word_read head (decimal first) words is_head (number_text first low)) (word_read between (decimal second) others is_between (number_text second high))).end

-- a text and two numbers
pair_read : (head : List ℕ) (words : List (List ℕ)) (first second : ℕ) → AreRead head words → first < 2 ^ 64 → second < 2 ^ 64
    → line_words (((head ++ 32 ∷ decimal first) ++ 32 ∷ decimal second) ++ 10 ∷ []) ≡ (words ++ decimal first ∷ []) ++ decimal second ∷ []
pair_read head words first second is_head low high =
    (word_read (head ++ 32 ∷ decimal first) (decimal second) (words ++ decimal first ∷ []) (word_read head (decimal first) words is_head (number_text first low)) (number_text second high)).end

flow_head : AreRead (codes "viaduct: flow check") (codes "viaduct:" ∷ codes "flow" ∷ codes "check" ∷ [])
flow_head = record { on = λ rest. refl; end = refl }

at_head : AreRead (codes "at") (codes "at" ∷ [])
at_head = record { on = λ rest. refl; end = refl }

unequal_head : AreRead (codes "viaduct: unequal") (codes "viaduct:" ∷ codes "unequal" ∷ [])
unequal_head = record { on = λ rest. refl; end = refl }

host_head : AreRead (codes "viaduct: wrong host") (codes "viaduct:" ∷ codes "wrong" ∷ codes "host" ∷ [])
host_head = record { on = λ rest. refl; end = refl }

input_head : AreRead (codes "viaduct: short input") (codes "viaduct:" ∷ codes "short" ∷ codes "input" ∷ [])
input_head = record { on = λ rest. refl; end = refl }

frame_head : AreRead (codes "viaduct: bad frame at") (codes "viaduct:" ∷ codes "bad" ∷ codes "frame" ∷ codes "at" ∷ [])
frame_head = record { on = λ rest. refl; end = refl }

byte_head : AreRead (codes "byte") (codes "byte" ∷ [])
byte_head = record { on = λ rest. refl; end = refl }

pub numbers_in_order : NumbersInOrder
numbers_in_order = record {
  flow = λ fault low high.
      ap (λ (t : List ℕ). line_words (codes "viaduct: flow check " ++ t)) (sym (append_assoc (decimal fault.number) (codes " at " ++ decimal fault.check.offset) (codes "\n")))
      ∙ two_read (codes "viaduct: flow check") (codes "at") (codes "viaduct:" ∷ codes "flow" ∷ codes "check" ∷ []) (codes "at" ∷ []) fault.number fault.check.offset flow_head at_head
      (long fault.number low) (long fault.check.offset high);
  unequal = λ left right low high.
      ap (λ (t : List ℕ). line_words (codes "viaduct: unequal " ++ t)) (sym (append_assoc (decimal left) (codes " " ++ decimal right) (codes "\n")))
      ∙ pair_read (codes "viaduct: unequal") (codes "viaduct:" ∷ codes "unequal" ∷ []) left right unequal_head (long left low) (long right high);
  wrong_host = λ wanted named low high.
      ap (λ (t : List ℕ). line_words (codes "viaduct: wrong host " ++ t)) (sym (append_assoc (decimal wanted) (codes " " ++ decimal named) (codes "\n")))
      ∙ pair_read (codes "viaduct: wrong host") (codes "viaduct:" ∷ codes "wrong" ∷ codes "host" ∷ []) wanted named host_head (long wanted low) (long named high);
  short_input = λ cursor count low high.
      ap (λ (t : List ℕ). line_words (codes "viaduct: short input " ++ t)) (sym (append_assoc (decimal cursor) (codes " " ++ decimal count) (codes "\n")))
      ∙ pair_read (codes "viaduct: short input") (codes "viaduct:" ∷ codes "short" ∷ codes "input" ∷ []) cursor count input_head low high;
  frame = λ offset byte low high.
      ap (λ (t : List ℕ). line_words (codes "viaduct: bad frame at " ++ t)) (sym (append_assoc (decimal offset) (codes " byte " ++ decimal byte) (codes "\n")))
      ∙ two_read (codes "viaduct: bad frame at") (codes "byte") (codes "viaduct:" ∷ codes "bad" ∷ codes "frame" ∷ codes "at" ∷ []) (codes "byte" ∷ []) offset byte frame_head byte_head
      low (long byte high);
}
