-- The line of a link is read back.
use Rattle.std.proofs.Common.{◌≡◌, ◌≢◌, inl, inr, ℕ, ◌<◌, ◌^◌, Bool, true, false, ◌&&◌, ◌==◌, nat_eq, if◌then◌else◌, List, [], ◌∷◌, ◌++◌, length, map, codes, refl, sym, ap, ◌∙◌, subst, arith, true≢false, append_assoc, length-append}
use Rattle.std.specs.Fmt.{decimal}
use Rattle.std.specs.List.{list_all}
use Rattle.std.proofs.lemmas.Bool.{and_from, and_parts, eqb-true, ne_eqb}
use Rattle.std.proofs.lemmas.List.Folds.{list_all-append}
use Rattle.vd_base.specs.Lexical.{is_name, is_word_byte}
use Rattle.vd_report.specs.Lines.{words_line}
use Rattle.vd_report.specs.LineWords.{is_inside, line_words}
use Rattle.vd_report.specs.LinksRead.{CanBeRead, LinksAreRead, NamesLink, before_arrow, behind_arrow, host_name, said_by}
use Rattle.vd_report.proofs.LineWords.{IsText, name_bytes, name_text, words_line_words}

no_arrow : (b : ℕ) → is_word_byte b ≡ true → (arrow : Bool) → (b == 62) ≡ arrow → arrow ≡ false
no_arrow b is false e = refl
no_arrow b is true e = absurd (true≢false (sym is ∙ ap is_word_byte (eqb-true b 62 e)))

sends_is : (sender receiver : List ℕ) → list_all is_word_byte sender ≡ true → before_arrow (sender ++ 62 ∷ receiver) ≡ sender
sends_is [] receiver is = refl
sends_is (b ∷ sender) receiver is =
    let p = and_parts (is_word_byte b) (list_all is_word_byte sender) is in
    ap (λ t. if t then [] else b ∷ before_arrow (sender ++ 62 ∷ receiver)) (no_arrow b p.0 (b == 62) refl)
    ∙ ap (λ (bytes : List ℕ). b ∷ bytes) (sends_is sender receiver p.1)

receives_is : (sender receiver : List ℕ) → list_all is_word_byte sender ≡ true → behind_arrow (sender ++ 62 ∷ receiver) ≡ receiver
receives_is [] receiver is = refl
receives_is (b ∷ sender) receiver is =
    let p = and_parts (is_word_byte b) (list_all is_word_byte sender) is in
    ap (λ t. if t then sender ++ 62 ∷ receiver else behind_arrow (sender ++ 62 ∷ receiver)) (no_arrow b p.0 (b == 62) refl)
    ∙ receives_is sender receiver p.1

link_text : (sender receiver : List ℕ) → IsText sender → IsText receiver → IsText (sender ++ 62 ∷ receiver)
link_text sender receiver first second = (
  list_all-append is_inside sender (62 ∷ receiver) ∙ and_from (list_all is_inside sender) (list_all is_inside (62 ∷ receiver)) first.0 second.0,
  let some = first.1 in let whole = length-append sender (62 ∷ receiver) in omega (arith, some, whole),
)

flat_read : (sender receiver words : List ℕ) → CanBeRead sender receiver words → NamesLink (words_line (sender ++ 62 ∷ receiver) words) sender receiver words
flat_read sender receiver words can = record {
  link = sender ++ 62 ∷ receiver;
  read = words_line_words (sender ++ 62 ∷ receiver) words (link_text sender receiver (name_text sender can.from) (name_text receiver can.to)) can.said can.few;
  sends = sends_is sender receiver (name_bytes sender can.from);
  receives = receives_is sender receiver (name_bytes sender can.from);
}

pub link_read : (sender receiver words : List ℕ) → CanBeRead sender receiver words → NamesLink (words_line (sender ++ codes ">" ++ receiver) words) sender receiver words
link_read sender receiver words can =
    subst (λ (head : List ℕ). NamesLink (words_line head words) sender receiver words) (sym (append_assoc sender (62 ∷ []) receiver)) (flat_read sender receiver words can)

by_test : (hosts : List (List ℕ)) (from to : ℕ) (words : List ℕ) (same : Bool) → same ≡ false → CanBeRead (host_name hosts from) (host_name hosts to) words
    → NamesLink (if same then [] else words_line (host_name hosts from ++ codes ">" ++ host_name hosts to) words) (host_name hosts from) (host_name hosts to) words
by_test hosts from to words false e can = link_read (host_name hosts from) (host_name hosts to) words can
by_test hosts from to words true e can = absurd (true≢false e)

pub links_read : LinksAreRead
links_read hosts talk from to other can = by_test hosts from to (said_by talk from to) (nat_eq from to) (ne_eqb from to other) can
