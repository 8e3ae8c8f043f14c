-- The children that a spawner tells, by the history of a run in which all ended.
use Rattle.std.proofs.Common.{arith, ◌≡◌, ◌+◌, ℕ, zero, suc, true, IsTrue, List, [], ◌∷◌, ◌++◌, length, map, drop, slice_get, slice_set, length-append, append-nil, append_assoc, Option, Some, None, IfOk, Ok, Result, refl, sym, ap, subst, ◌∙◌}
use Rattle.std.proofs.lemmas.List.{length-map, map-append}
use Rattle.std.proofs.lemmas.Option.{none-some}
use Rattle.vd_base.specs.declared.ids.HostId.{HostId}
use Rattle.vd_outside.specs.Spawner.{GivesLine, ReadsLine, SpawnerView, StartsNext, next_child}
use Rattle.vd_outside.specs.declared.child.Child.{Child}
use Rattle.vd_host_children.specs.Finishing.{Ends, Unfinished, Well, WithStatus}
use Rattle.vd_host_children.specs.Lines.{ArePrinted, listening}
use Rattle.vd_host_children.specs.Reading.{Gives, NoLine, NoRoom, NotFinished, NotRead, OneLine, Reads, TooShort, Whole, WrongLine}
use Rattle.vd_host_children.specs.Runs.{AllEnded, NoneRead, NoneStarted, NotAllRead, NotAllStarted, OneRead, OneStarted, ReadToEnd, RunsChildren, Started}
use Rattle.vd_host_children.specs.Starting.{AnotherLine, Begins, Listening, NoFirstLine, NotStarted, Silent, SilentFault}
use Rattle.vd_host_children.specs.Told.{AreHosts, AreNext, EachEnded, TellsEach}
use Rattle.vd_host_children.specs.declared.fault.ChildrenFault.{ChildrenFault}
use Rattle.vd_host_children.proofs.Asked.{AllBegun, Numbered, all_begun, numbered_front, numbered_last}

-- the place behind a front
at_seam : {X : Type 0} (xs : List X) (y : X) (ys : List X) → slice_get (xs ++ y ∷ ys) (length xs) ≡ Some y
at_seam [] y ys = refl
at_seam (x ∷ xs) y ys = at_seam xs y ys

set_seam : {X : Type 0} (xs : List X) (y : X) (ys : List X) (z : X) → slice_set (xs ++ y ∷ ys) (length xs) z ≡ xs ++ z ∷ ys
set_seam [] y ys z = refl
set_seam (x ∷ xs) y ys z = ap (λ l. x ∷ l) (set_seam xs y ys z)

pub drop_one_first : {X : Type 0} (count : ℕ) (xs : List X) → drop count (drop 1 xs) ≡ drop (suc count) xs
drop_one_first zero [] = refl
drop_one_first (suc count) [] = refl
drop_one_first count (x ∷ xs) = refl

drop_one_last : {X : Type 0} (count : ℕ) (xs : List X) → drop 1 (drop count xs) ≡ drop (suc count) xs
drop_one_last zero [] = refl
drop_one_last (suc count) [] = refl
drop_one_last zero (x ∷ xs) = refl
drop_one_last (suc count) (x ∷ xs) = drop_one_last count xs

pub first_line : (lines : List (List ℕ)) (line : List ℕ) → slice_get lines 0 ≡ Some line → lines ≡ line ∷ drop 1 lines
first_line [] line at = absurd (none-some line at)
first_line (first ∷ lines) line at = let e : first ≡ line = cc in ap (λ l. l ∷ lines) e

pub no_line : (lines : List (List ℕ)) → slice_get lines 0 ≡ None → lines ≡ []
no_line [] at = refl
no_line (first ∷ lines) at = absurd cc

-- a child one line later
abbrev pub later_child : Child → Child
later_child child = record child { lines = drop 1 child.lines }

pub some_same : (child other : Child) → Some child ≡ Some other → child ≡ other
some_same child other is = cc

-- what a line leaves of the child that it is of
pub record LineTold (front : List Child) (child : Child) (back : List Child) (now : SpawnerView) (answer : Option (List ℕ)) : Type 0 where
  pub told : IsTrue now.told
  pub line : slice_get child.lines 0 ≡ answer
  pub children : now.children ≡ front ++ later_child child ∷ back

pub line_told : (number : ℕ) (before now : SpawnerView) (answer : Option (List ℕ)) (front : List Child) (child : Child) (back : List Child) → ReadsLine number before now (Ok answer) → IsTrue before.told
    → before.children ≡ front ++ child ∷ back → number ≡ length front → LineTold front child back now answer
line_told number before now answer front child back r told are is =
    let g : GivesLine number before now answer = r.gives told in
    let held : slice_get before.children number ≡ Some child = ap (λ (l : List Child). slice_get l number) are ∙ ap (λ (n : ℕ). slice_get (front ++ child ∷ back) n) is ∙ at_seam front child back in
    let same : g.child ≡ child = some_same g.child child (sym g.at_number ∙ held) in
    record {
      told = r.still_told told;
      line = ap (λ (c : Child). slice_get c.lines 0) (sym same) ∙ g.line;
      children = g.children ∙ ap (λ (c : Child). slice_set before.children number (later_child c)) same ∙ ap (λ (l : List Child). slice_set l number (later_child child)) are
          ∙ ap (λ (n : ℕ). slice_set (front ++ child ∷ back) n (later_child child)) is ∙ set_seam front child back (later_child child);
    }

-- the child that was started, as it is told
record StartTold (before now : SpawnerView) : Type 0 where
  child : Child
  next : next_child before.waiting before.otherwise ≡ Some child
  listens : slice_get child.lines 0 ≡ Some listening
  children : now.children ≡ before.children ++ later_child child ∷ []
  waiting : now.waiting ≡ drop 1 before.waiting
  otherwise : now.otherwise ≡ before.otherwise

start_told : (program : List ℕ) (words : List (List ℕ)) (host : HostId) (before now : SpawnerView) {result : Result ℕ ChildrenFault} → Begins program words host before now result → IsTrue before.told
    → length before.children ≡ before.given → IfOk result (λ child. StartTold before now)
start_told program words host before now (Listening child started s l) told each =
    let n : StartsNext before started = s.starts told in
    let still : IsTrue started.told = s.still_told told in
    let g : GivesLine child started now (Some listening) = l.gives still in
    let t = line_told child started now (Some listening) before.children n.child [] l still n.children (s.number.0 ∙ sym each) in
    record {
      child = n.child;
      next = n.next;
      listens = t.line;
      children = t.children;
      waiting = g.waiting ∙ n.waiting;
      otherwise = g.otherwise ∙ n.otherwise;
    }
start_told program words host before now (NotStarted cause s) told each = tt
start_told program words host before now (NoFirstLine child started cause s l) told each = tt
start_told program words host before now (AnotherLine child started line s l other) told each = tt
start_told program words host before now (Silent child started over s l e) told each = tt
start_told program words host before now (SilentFault child started over cause s l e) told each = tt

-- each of these children listens
abbrev pub AreListening : List Child → Type 0
AreListening [] = Unit {0}
AreListening (child ∷ children) = (slice_get child.lines 0 ≡ Some listening) × AreListening children

listening_more : (children : List Child) (child : Child) → AreListening children → slice_get child.lines 0 ≡ Some listening → AreListening (children ++ child ∷ [])
listening_more [] child all one = (one, tt)
listening_more (first ∷ children) child all one = (all.0, listening_more children child all.1 one)

next_more : (waiting : List Child) (otherwise : Option Child) (children : List Child) (child : Child) → AreNext waiting otherwise children
    → next_child (drop (length children) waiting) otherwise ≡ Some child → AreNext waiting otherwise (children ++ child ∷ [])
next_more waiting otherwise [] child all one = (one, tt)
next_more waiting otherwise (first ∷ children) child all one =
    (all.0, next_more (drop 1 waiting) otherwise children child all.1 (ap (λ (l : List Child). next_child l otherwise) (drop_one_first (length children) waiting) ∙ one))

-- the children that were started
pub record StartsTold (start : SpawnerView) (hosts : List (List (List ℕ))) (now : SpawnerView) : Type 0 where
  pub children : List Child
  pub count : length children ≡ length hosts
  pub next : AreNext start.waiting start.otherwise children
  pub listen : AreListening children
  pub are : now.children ≡ start.children ++ map later_child children
  pub waiting : now.waiting ≡ drop (length children) start.waiting
  pub otherwise : now.otherwise ≡ start.otherwise

-- so each is told that was given
pub each_told : (program : List ℕ) (start now : SpawnerView) (hosts : List (List (List ℕ))) (numbers : List ℕ) → length start.children ≡ start.given → AllBegun program start hosts numbers now
    → StartsTold start hosts now → length now.children ≡ now.given
each_told program start now hosts numbers each b t =
    let longer : length (start.children ++ map later_child t.children) ≡ length start.children + length (map later_child t.children) = length-append start.children (map later_child t.children) in
    let mapped : length (map later_child t.children) ≡ length t.children = length-map t.children later_child in
    let now_is : length now.children ≡ length (start.children ++ map later_child t.children) = ap (λ (l : List Child). length l) t.are in
    let count = t.count in
    let given = b.given in
    omega (arith, longer, mapped, now_is, count, given, each)

pub starts_told : (program : List ℕ) (start now : SpawnerView) {hosts : List (List (List ℕ))} {numbers : List ℕ} → Started program start hosts numbers now → TellsEach start → StartsTold start hosts now
starts_told program start now NoneStarted tells = record {
  children = [];
  count = refl;
  next = tt;
  listen = tt;
  are = sym (append-nil start.children);
  waiting = refl;
  otherwise = refl;
}
starts_told program start now (OneStarted hosts numbers words number before end s b) tells =
    let first = starts_told program start before s tells in
    let begun_before = all_begun program start before s tells.told in
    let each : length before.children ≡ before.given = each_told program start before hosts numbers tells.each begun_before first in
    let one : StartTold before end = start_told program words _ before end b begun_before.adds.told each in
    let more : length (first.children ++ one.child ∷ []) ≡ length first.children + 1 = length-append first.children (one.child ∷ []) in
    let hosts_more : length (hosts ++ words ∷ []) ≡ length hosts + 1 = length-append hosts (words ∷ []) in
    let is_suc : length (first.children ++ one.child ∷ []) ≡ suc (length first.children) = omega (arith, more) in
    record {
      children = first.children ++ one.child ∷ [];
      count = more ∙ ap (λ (n : ℕ). n + 1) first.count ∙ sym hosts_more;
      next = next_more start.waiting start.otherwise first.children one.child first.next
          (ap (λ (l : List Child). next_child l start.otherwise) (sym first.waiting) ∙ ap (λ (o : Option Child). next_child before.waiting o) (sym first.otherwise) ∙ one.next);
      listen = listening_more first.children one.child first.listen one.listens;
      are = one.children ∙ ap (λ (l : List Child). l ++ later_child one.child ∷ []) first.are ∙ append_assoc start.children (map later_child first.children) (later_child one.child ∷ [])
          ∙ ap (λ (l : List Child). start.children ++ l) (sym (map-append later_child first.children (one.child ∷ [])));
      waiting = one.waiting ∙ ap (λ (l : List Child). drop 1 l) first.waiting ∙ drop_one_last (length first.children) start.waiting ∙ ap (λ (n : ℕ). drop n start.waiting) (sym is_suc);
      otherwise = one.otherwise ∙ first.otherwise;
    }

-- lines that were read of a child
pub record LinesTold (front : List Child) (child : Child) (back : List Child) (lines : List (List ℕ)) (now : SpawnerView) : Type 0 where
  pub told : IsTrue now.told
  pub rest : List (List ℕ)
  pub lines_are : child.lines ≡ lines ++ rest
  pub children : now.children ≡ front ++ record child { lines = rest } ∷ back

pub lines_told : (number : ℕ) (start now : SpawnerView) (front : List Child) (child : Child) (back : List Child) {lines : List (List ℕ)} → Gives number start lines now → IsTrue start.told
    → start.children ≡ front ++ child ∷ back → number ≡ length front → LinesTold front child back lines now
lines_told number start now front child back NoLine told are is = record { told = told; rest = child.lines; lines_are = refl; children = are }
lines_told number start now front child back (OneLine lines line before end g r) told are is =
    let first = lines_told number start before front child back g told are is in
    let one = line_told number before end (Some line) front (record child { lines = first.rest }) back r first.told first.children is in
    record {
      told = one.told;
      rest = drop 1 first.rest;
      lines_are = first.lines_are ∙ ap (λ (l : List (List ℕ)). lines ++ l) (first_line first.rest line one.line) ∙ sym (append_assoc lines (line ∷ []) (drop 1 first.rest));
      children = one.children;
    }

-- a child that was read to its end and finished
pub record EndTold (words : List ℕ) (child : Child) : Type 0 where
  pub form : ArePrinted child.lines words true
  pub ends_well : child.status ≡ 0

record ReadTold (front : List Child) (child : Child) (back : List Child) (words : List ℕ) (now : SpawnerView) : Type 0 where
  told : IsTrue now.told
  ends : EndTold words child
  children : now.children ≡ front ++ record child { lines = [] } ∷ back

record FinishTold (front : List Child) (child : Child) (back : List Child) (now : SpawnerView) : Type 0 where
  told : IsTrue now.told
  ends_well : child.status ≡ 0
  children : now.children ≡ front ++ child ∷ back

finish_told : (number : ℕ) (host : HostId) (before now : SpawnerView) (front : List Child) (child : Child) (back : List Child) {result : Result (Unit {0}) ChildrenFault} → Ends number host before now result
    → IsTrue before.told → before.children ≡ front ++ child ∷ back → number ≡ length front → IfOk result (λ done. FinishTold front child back now)
finish_told number host before now front child back (Well f) told are is =
    let g = f.gives told in
    let held : slice_get before.children number ≡ Some child = ap (λ (l : List Child). slice_get l number) are ∙ ap (λ (n : ℕ). slice_get (front ++ child ∷ back) n) is ∙ at_seam front child back in
    let same : g.child ≡ child = some_same g.child child (sym g.at_number ∙ held) in
    record {
      told = f.still_told told;
      ends_well = ap (λ (c : Child). c.status) (sym same) ∙ g.ends_with;
      children = (f.children told).children ∙ are;
    }
finish_told number host before now front child back (WithStatus status other f) told are is = tt
finish_told number host before now front child back (Unfinished cause f) told are is = tt

read_told : (number : ℕ) (host : HostId) (start end : SpawnerView) (front : List Child) (child : Child) (back : List Child) {result : Result (List ℕ) ChildrenFault} → Reads number host start end result
    → IsTrue start.told → start.children ≡ front ++ child ∷ back → number ≡ length front → IfOk result (λ words. ReadTold front child back words end)
read_told number host start end front child back (Whole words now over p r e) told are is =
    let all = lines_told number start now front child back p.gives told are is in
    let last = line_told number now over None front (record child { lines = all.rest }) back r all.told all.children is in
    let none : all.rest ≡ [] = no_line all.rest last.line in
    let lines_are : child.lines ≡ p.lines = all.lines_are ∙ ap (λ (l : List (List ℕ)). p.lines ++ l) none ∙ append-nil p.lines in
    let f : FinishTold front (record child { lines = drop 1 all.rest }) back end =
    finish_told number host over end front (record child { lines = drop 1 all.rest }) back e last.told last.children is in
    record {
      told = f.told;
      ends = record { form = subst (λ (l : List (List ℕ)). ArePrinted l words true) (sym lines_are) p.form; ends_well = f.ends_well };
      children = f.children ∙ ap (λ (l : List (List ℕ)). front ++ record child { lines = drop 1 l } ∷ back) none;
    }
read_told number host start end front child back (TooShort words now over p r e) told are is = tt
read_told number host start end front child back (NotFinished words finished now over cause p r e) told are is = tt
read_told number host start end front child back (NotRead words finished now cause p r) told are is = tt
read_told number host start end front child back (WrongLine words finished now line p r breaks) told are is = tt
read_told number host start end front child back (NoRoom words finished now line p r) told are is = tt

abbrev pub AreEnded : List (List ℕ) → List Child → Type 0
AreEnded [] [] = Unit {0}
AreEnded [] (child ∷ children) = ⊥
AreEnded (words ∷ printed) [] = ⊥
AreEnded (words ∷ printed) (child ∷ children) = EndTold words child × AreEnded printed children

ended_more : (printed : List (List ℕ)) (children : List Child) (words : List ℕ) (child : Child) → AreEnded printed children → EndTold words child → AreEnded (printed ++ words ∷ []) (children ++ child ∷ [])
ended_more [] [] words child all one = (one, tt)
ended_more [] (first ∷ children) words child all one = absurd all
ended_more (first ∷ printed) [] words child all one = absurd all
ended_more (first_words ∷ printed) (first ∷ children) words child all one = (all.0, ended_more printed children words child all.1 one)

-- a list with one item more has a last one
record Last (children : List Child) (count : ℕ) : Type 0 where
  front : List Child
  child : Child
  are : children ≡ front ++ child ∷ []
  length_is : length front ≡ count

last_of : (children : List Child) (count : ℕ) → length children ≡ suc count → Last children count
last_of [] count is = absurd (omega (arith, is))
last_of (child ∷ []) zero is = record { front = []; child = child; are = refl; length_is = refl }
last_of (child ∷ []) (suc count) is = absurd (omega (arith, is))
last_of (child ∷ next ∷ children) zero is = absurd (omega (arith, is))
last_of (child ∷ next ∷ children) (suc count) is =
    let rest = last_of (next ∷ children) count (omega (arith, is)) in
    let e = rest.length_is in
    record { front = child ∷ rest.front; child = rest.child; are = ap (λ (l : List Child). child ∷ l) rest.are; length_is = omega (arith, e) }

-- the children that were read
pub record ReadsTold (front children back : List Child) (printed : List (List ℕ)) (now : SpawnerView) : Type 0 where
  pub told : IsTrue now.told
  pub done : List Child
  pub count : length done ≡ length children
  pub are : now.children ≡ (front ++ done) ++ back
  pub ended : AreEnded printed children

pub reads_told : (start now : SpawnerView) (front children back : List Child) {numbers : List ℕ} {printed : List (List ℕ)} → ReadToEnd start numbers printed now → IsTrue start.told
    → Numbered (length front) numbers → length children ≡ length numbers → start.children ≡ (front ++ children) ++ back → ReadsTold front children back printed now
reads_told start now front [] back NoneRead told numbered count are = record { told = told; done = []; count = refl; are = are; ended = tt }
reads_told start now front (child ∷ children) back NoneRead told numbered count are = absurd (omega (arith, count))
reads_told start now front children back (OneRead numbers printed number words before end r b) told numbered count are =
    let longer : length (numbers ++ number ∷ []) ≡ length numbers + 1 = length-append numbers (number ∷ []) in
    let l = last_of children (length numbers) (omega (arith, count, longer)) in
    let seam : start.children ≡ (front ++ l.front) ++ l.child ∷ back =
    are ∙ ap (λ (m : List Child). (front ++ m) ++ back) l.are ∙ ap (λ (m : List Child). m ++ back) (sym (append_assoc front l.front (l.child ∷ [])))
    ∙ append_assoc (front ++ l.front) (l.child ∷ []) back in
    let first = reads_told start before front l.front (l.child ∷ back) r told (numbered_front (length front) numbers number numbered) l.length_is seam in
    let place : length (front ++ first.done) ≡ length front + length first.done = length-append front first.done in
    let number_is : number ≡ length front + length numbers = numbered_last (length front) numbers number numbered in
    let done_is = first.count in
    let front_is = l.length_is in
    let one : ReadTold (front ++ first.done) l.child back words end =
    read_told number _ before end (front ++ first.done) l.child back b first.told first.are (omega (arith, place, number_is, done_is, front_is)) in
    let done_more : length (first.done ++ record l.child { lines = [] } ∷ []) ≡ length first.done + 1 = length-append first.done (record l.child { lines = [] } ∷ []) in
    record {
      told = one.told;
      done = first.done ++ record l.child { lines = [] } ∷ [];
      count = omega (arith, done_more, done_is, front_is, count, longer);
      are = one.children ∙ sym (append_assoc (front ++ first.done) (record l.child { lines = [] } ∷ []) back)
          ∙ ap (λ (m : List Child). m ++ back) (append_assoc front first.done (record l.child { lines = [] } ∷ []));
      ended = subst (λ (m : List Child). AreEnded (printed ++ words ∷ []) m) (sym l.are) (ended_more printed l.front words l.child first.ended one.ends);
    }

are_hosts : (printed : List (List ℕ)) (children : List Child) → AreListening children → AreEnded printed (map later_child children) → AreHosts printed children
are_hosts [] [] listen all = tt
are_hosts [] (child ∷ children) listen all = absurd all
are_hosts (words ∷ printed) [] listen all = absurd all
are_hosts (words ∷ printed) (child ∷ children) listen all = (
  record {
    numbers = all.0.form.numbers;
    lines_are = first_line child.lines listening listen.0 ∙ ap (λ (l : List (List ℕ)). listening ∷ l) all.0.form.lines_are;
    words_are = all.0.form.words_are;
    few = all.0.form.few;
    ends_well = all.0.ends_well;
  },
  are_hosts printed children listen.1 all.1,
)

pub run_told : (program : List ℕ) (hosts : List (List (List ℕ))) (start end : SpawnerView) {result : Result (List (List ℕ)) ChildrenFault} → RunsChildren program hosts start end result → TellsEach start
    → IfOk result (λ printed. EachEnded hosts start printed)
run_told program hosts start end (AllEnded numbers printed now s r) tells =
    let t = starts_told program start now s tells in
    let b = all_begun program start now s tells.told in
    let numbered : Numbered (length start.children) numbers = subst (λ (n : ℕ). Numbered n numbers) (sym tells.each) b.numbered in
    let count : length (map later_child t.children) ≡ length numbers = length-map t.children later_child ∙ t.count ∙ sym b.count in
    let read = reads_told now end start.children (map later_child t.children) [] r b.adds.told numbered count (t.are ∙ sym (append-nil (start.children ++ map later_child t.children))) in
    record { children = t.children; count = t.count; next = t.next; are_hosts = are_hosts printed t.children t.listen read.ended }
run_told program hosts start end (NotAllStarted cause s) tells = tt
run_told program hosts start end (NotAllRead numbers now cause s r) tells = tt
