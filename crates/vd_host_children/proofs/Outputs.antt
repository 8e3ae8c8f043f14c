-- What a child has printed, one line more.
use Rattle.std.proofs.Common.{arith, ◌≡◌, ◌<◌, ◌≤◌, ◌+◌, ◌-◌, inl, inr, ⊎_elim, ℕ, Bool, true, false, cond, List, [], ◌∷◌, ◌++◌, length, map, length-append, append-nil, bytes_eq, Option, Some, None, Ok, Err, sym, ap, subst, ◌∙◌}
use Rattle.std.proofs.lemmas.List.{map-append}
use Rattle.std.proofs.lemmas.Slice.Eq.{bytes_eq-Decides}
use Rattle.vd_base.specs.Lexical.{number_of}
use Rattle.vd_base.specs.declared.ids.HostId.{HostId}
use Rattle.vd_outside.specs.Spawner.{SpawnerView, ReadsLine}
use Rattle.vd_host_children.specs.Lines.{ArePrinted, Breaks, IsEnd, IsWord, TakesLine, ended, last_line, most_words}
use Rattle.vd_host_children.specs.Finishing.{Ends}
use Rattle.vd_host_children.specs.Reading.{NoLine, NoRoom, NotFinished, OneLine, Printed, Reads, TooShort, Whole, WrongLine}
use Rattle.vd_host_children.specs.declared.fault.ChildrenFault.{ChildrenFault}
use Rattle.vd_host_children.specs.declared.fault.ChildrenFault.TheVariants as fault
use Rattle.vd_host_children.specs.declared.output.Output.{Output}

pub nothing_printed : (child : ℕ) (start : SpawnerView) (output : Output) → output.words ≡ [] → output.over ≡ false → Printed child start start output.words output.over
nothing_printed child start output words over = record {
  lines = [];
  gives = NoLine;
  form = record {
    numbers = [];
    lines_are = ap last_line (sym over);
    words_are = ap (λ (l : List ℕ). map {B = Option ℕ} Some l) (sym words);
    few = subst (λ (l : List ℕ). length l ≤ most_words) (sym words) (omega arith);
  };
}

-- behind words alone the lines are the numbers
numbers_alone : (lines numbers : List (List ℕ)) (over : Bool) → over ≡ false → lines ≡ numbers ++ last_line over → lines ≡ numbers
numbers_alone lines numbers over going is = is ∙ ap (λ (b : Bool). numbers ++ last_line b) going ∙ append-nil numbers

word_printed : (lines : List (List ℕ)) (line : List ℕ) (before now : Output) → before.over ≡ false → ArePrinted lines before.words before.over → IsWord line before now
    → ArePrinted (lines ++ line ∷ []) now.words now.over
word_printed lines line before now going form is = record {
  numbers = form.numbers ++ line ∷ [];
  lines_are = ap (λ (l : List (List ℕ)). l ++ line ∷ []) (numbers_alone lines form.numbers before.over going form.lines_are)
      ∙ sym (append-nil (form.numbers ++ line ∷ [])) ∙ ap (λ (b : Bool). (form.numbers ++ line ∷ []) ++ last_line b) (sym is.over);
  words_are = map-append number_of form.numbers (line ∷ [])
      ∙ ap (λ (l : List (Option ℕ)). l ++ number_of line ∷ []) form.words_are
      ∙ ap (λ (o : Option ℕ). map {B = Option ℕ} Some before.words ++ o ∷ []) is.number
      ∙ sym (map-append {B = Option ℕ} Some before.words (is.word ∷ []))
      ∙ ap (λ (l : List ℕ). map {B = Option ℕ} Some l) (sym is.words);
  few = (let few = is.few in let longer = ap (λ (l : List ℕ). length l) is.words ∙ length-append before.words (is.word ∷ []) in omega (arith, few, longer));
}

end_printed : (lines : List (List ℕ)) (line : List ℕ) (before now : Output) → before.over ≡ false → ArePrinted lines before.words before.over → IsEnd line before now
    → ArePrinted (lines ++ line ∷ []) now.words now.over
end_printed lines line before now going form is = record {
  numbers = form.numbers;
  lines_are = ap (λ (l : List (List ℕ)). l ++ line ∷ []) (numbers_alone lines form.numbers before.over going form.lines_are)
      ∙ ap (λ (l : List ℕ). form.numbers ++ l ∷ []) ((bytes_eq-Decides line ended).0 is.line_is) ∙ ap (λ (b : Bool). form.numbers ++ last_line b) (sym is.over);
  words_are = form.words_are ∙ ap (λ (l : List ℕ). map {B = Option ℕ} Some l) (sym is.words);
  few = subst (λ (l : List ℕ). length l ≤ most_words) (sym is.words) form.few;
}

pub printed_more : (child : ℕ) (host : HostId) (start now later : SpawnerView) (answer : Option (List ℕ)) (line read : List ℕ) (output after : Output) → Printed child start now output.words output.over
    → ReadsLine child now later (Ok answer) → answer ≡ Some line → read ≡ line → TakesLine host read output after (Ok tt) → Printed child start later after.words after.over
printed_more child host start now later answer line read output after p reads is same takes = record {
  lines = p.lines ++ read ∷ [];
  gives = OneLine p.lines read now later p.gives (subst (λ (o : Option (List ℕ)). ReadsLine child now later (Ok o)) (is ∙ ap Some (sym same)) reads);
  form = ⊎_elim (λ (w : IsWord read output after). word_printed p.lines read output after takes.0 p.form w)
      (λ (e : IsEnd read output after). end_printed p.lines read output after takes.0 p.form e) takes.1;
}

-- a line that is not taken
pub line_refused : (child : ℕ) (host : HostId) (start now later : SpawnerView) (answer : Option (List ℕ)) (line read : List ℕ) (output after : Output) (cause : ChildrenFault)
    → Printed child start now output.words output.over → ReadsLine child now later (Ok answer) → answer ≡ Some line → read ≡ line → TakesLine host read output after (Err cause)
    → Reads child host start later (Err cause)
line_refused child host start now later answer line read output after cause p reads is same takes =
    let asked : ReadsLine child now later (Ok (Some read)) = subst (λ (o : Option (List ℕ)). ReadsLine child now later (Ok o)) (is ∙ ap Some (sym same)) reads in
    ⊎_elim (λ (e : cause ≡ fault.Memory). subst (λ (f : ChildrenFault). Reads child host start later (Err f)) (sym e) (NoRoom output.words output.over now read p asked))
    (λ (w : (cause ≡ fault.Line host) × Breaks output.words output.over read).
    subst (λ (f : ChildrenFault). Reads child host start later (Err f)) (sym w.0) (WrongLine output.words output.over now read p asked w.1)) takes

-- the output is over
pub read_whole : (child : ℕ) (host : HostId) (start now over end : SpawnerView) (answer : Option (List ℕ)) (output : Output) → Printed child start now output.words output.over
    → ReadsLine child now over (Ok answer) → answer ≡ None → Ends child host over end (Ok tt) → output.over ≡ true → Reads child host start end (Ok output.words)
read_whole child host start now over end answer output p reads is ends ended =
    Whole output.words now over (subst (λ (b : Bool). Printed child start now output.words b) ended p)
    (subst (λ (o : Option (List ℕ)). ReadsLine child now over (Ok o)) is reads) ends

pub read_short : (child : ℕ) (host : HostId) (start now over end : SpawnerView) (answer : Option (List ℕ)) (output : Output) → Printed child start now output.words output.over
    → ReadsLine child now over (Ok answer) → answer ≡ None → Ends child host over end (Ok tt) → output.over ≡ false → Reads child host start end (Err (fault.Line host))
read_short child host start now over end answer output p reads is ends ended =
    TooShort output.words now over (subst (λ (b : Bool). Printed child start now output.words b) ended p)
    (subst (λ (o : Option (List ℕ)). ReadsLine child now over (Ok o)) is reads) ends

pub not_finished : (child : ℕ) (host : HostId) (start now over end : SpawnerView) (answer : Option (List ℕ)) (output : Output) (cause : ChildrenFault) → Printed child start now output.words output.over
    → ReadsLine child now over (Ok answer) → answer ≡ None → Ends child host over end (Err cause) → Reads child host start end (Err cause)
not_finished child host start now over end answer output cause p reads is ends =
    NotFinished output.words output.over now over cause p (subst (λ (o : Option (List ℕ)). ReadsLine child now over (Ok o)) is reads) ends

-- how many lines may still come
abbrev pub lines_left : Output → ℕ
lines_left output = (most_words - length output.words) + cond output.over 0 1

pub line_falls : (host : HostId) (line : List ℕ) (before now : Output) → TakesLine host line before now (Ok tt) → lines_left now < lines_left before
line_falls host line before now takes =
    rw takes.0 (⊎_elim
    (λ (is : IsWord line before now). rw (is.over, is.words, length-append before.words (is.word ∷ [])) (let few = is.few in omega (arith, few)))
    (λ (is : IsEnd line before now). rw (is.over, is.words) (omega arith)) takes.1)

pub breaks_over : (words : List ℕ) (over : Bool) (line : List ℕ) → over ≡ true → Breaks words over line
breaks_over words true line is = tt
breaks_over words false line is = absurd cc

pub breaks_number : (words : List ℕ) (over : Bool) (line : List ℕ) → over ≡ false → bytes_eq line ended ≡ false → number_of line ≡ None → Breaks words over line
breaks_number words true line going other none = absurd cc
breaks_number words false line going other none = (other, inl none)

pub breaks_count : (words : List ℕ) (over : Bool) (line : List ℕ) → over ≡ false → bytes_eq line ended ≡ false → most_words ≤ length words → Breaks words over line
breaks_count words true line going other many = absurd cc
breaks_count words false line going other many = (other, inr many)
